use Rattle.tesla_stream_tests.proofs.tests.receiver.worked_examples.Given as goal

abbrev pub ghosts-wrong_rows : goal.ghosts-wrong_rows
ghosts-wrong_rows g a = record { name = a.blank.name; parts = a.blank.parts }
