use Rattle.tesla_frame.proofs.rows.+do_chains_rise.Given as goal

abbrev pub decreases-do_chains_rise : goal.decreases-do_chains_rise
decreases-do_chains_rise l = l.count
