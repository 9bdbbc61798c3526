use Rattle.tesla_c.proofs.sender_opening.seeded_sender.Given as goal

abbrev pub ghosts-sender_of : goal.ghosts-sender_of
ghosts-sender_of a = record { name = a.blank.name; parts = a.blank.parts }
