use Rattle.tesla_run_relay.proofs.room.+make_sides.Given as goal

abbrev pub decreases-make_sides : goal.decreases-make_sides
decreases-make_sides g l = l.count
