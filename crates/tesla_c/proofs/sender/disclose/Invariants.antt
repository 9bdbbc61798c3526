use Rattle.tesla_c.proofs.sender.disclose.Given as goal

abbrev pub ghosts-disclosed : goal.ghosts-disclosed
ghosts-disclosed a = record { name = a.blank.name; parts = a.blank.parts }
