use Rattle.tesla_stream_tests.proofs.tests.sender.cost_of_a_life.Given as goal

abbrev pub ghosts-sent_of : goal.ghosts-sent_of
ghosts-sent_of g a = record { name = a.blank.name; parts = a.blank.parts }
