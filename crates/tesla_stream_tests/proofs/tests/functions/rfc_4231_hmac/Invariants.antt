use Rattle.tesla_stream_tests.proofs.tests.functions.rfc_4231_hmac.Given as goal

abbrev pub ghosts-hmac_of : goal.ghosts-hmac_of
ghosts-hmac_of g a = record { name = a.blank.name; parts = a.blank.parts }
