use Rattle.tesla_run_replay.proofs.run.play_open.Given as goal

abbrev pub ghosts-play_target-L-Ledger : goal.ghosts-play_target-L-Ledger
ghosts-play_target-L-Ledger g a = record { name = a.blank.name; parts = a.blank.parts }

abbrev pub ghosts-play_target-L-ReplayLedger : goal.ghosts-play_target-L-ReplayLedger
ghosts-play_target-L-ReplayLedger g a = record { rule = g.T.Target.rule a.target }
