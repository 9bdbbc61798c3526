use Rattle.tesla_run_weave.proofs.reading.read_source.Given as goal

abbrev pub ghosts-collect : goal.ghosts-collect
ghosts-collect g a = record { setup = a.namer.setup }
