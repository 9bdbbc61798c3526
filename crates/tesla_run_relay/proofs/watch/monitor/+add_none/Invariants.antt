use Rattle.tesla_run_relay.proofs.watch.monitor.+add_none.Given as goal

abbrev pub decreases-add_none : goal.decreases-add_none
decreases-add_none l = l.posts
