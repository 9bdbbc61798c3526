use Rattle.tesla_run_send.proofs.run.perform.Given as goal

abbrev pub ghosts-send_files-L-Ledger : goal.ghosts-send_files-L-Ledger
ghosts-send_files-L-Ledger g a = record { name = a.blank.name; parts = a.blank.parts }

abbrev pub ghosts-send_files-L-SendLedger : goal.ghosts-send_files-L-SendLedger
ghosts-send_files-L-SendLedger g a = record { stream = a.sender.stream }
