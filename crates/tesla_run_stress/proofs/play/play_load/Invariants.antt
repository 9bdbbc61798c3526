use Rattle.tesla_run_stress.proofs.play.play_load.Given as goal

abbrev pub ghosts-play_counted : goal.ghosts-play_counted
ghosts-play_counted a = record { name = a.blank.name; parts = a.blank.parts }
