use Rattle.tesla_run_ask.proofs.replying.made.Given as goal

abbrev pub ghosts-made_counted : goal.ghosts-made_counted
ghosts-made_counted a = record { name = a.blank.name; parts = a.blank.parts }
