use Rattle.tesla_c.proofs.lags.lag_in.Given as goal

abbrev pub ghosts-time_in : goal.ghosts-time_in
ghosts-time_in a = record { name = a.blank.name; parts = a.blank.parts }
