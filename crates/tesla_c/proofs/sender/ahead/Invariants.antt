use Rattle.tesla_c.proofs.sender.ahead.Given as goal

abbrev pub ghosts-made_ahead : goal.ghosts-made_ahead
ghosts-made_ahead a = record { name = a.blank.name; parts = a.blank.parts }
