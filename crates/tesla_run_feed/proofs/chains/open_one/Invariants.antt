use Rattle.tesla_run_feed.proofs.chains.open_one.Given as goal

abbrev pub ghosts-open_counted : goal.ghosts-open_counted
ghosts-open_counted a = record { name = a.blank.name; parts = a.blank.parts }
