use Rattle.tesla_run_feed.proofs.ready.open_feeding.Given as goal

abbrev pub ghosts-open_counted : goal.ghosts-open_counted
ghosts-open_counted g a = record { name = a.blank.name; parts = a.blank.parts }
