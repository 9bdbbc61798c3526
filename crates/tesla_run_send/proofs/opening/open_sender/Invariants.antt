use Rattle.tesla_run_send.proofs.opening.open_sender.Given as goal

abbrev pub ghosts-sender_of : goal.ghosts-sender_of
ghosts-sender_of g a = record { name = a.blank.name; parts = a.blank.parts }
