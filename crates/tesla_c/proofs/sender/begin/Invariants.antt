use Rattle.tesla_c.proofs.sender.begin.Given as goal

abbrev pub ghosts-begun : goal.ghosts-begun
ghosts-begun a = record { name = a.blank.name; parts = a.blank.parts }
