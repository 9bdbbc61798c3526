use Rattle.tesla_stream_tests.proofs.tests.printed.no_key_is_printed.Given as goal

abbrev pub ghosts-printed : goal.ghosts-printed
ghosts-printed g a = record { name = a.blank.name; parts = a.blank.parts }
