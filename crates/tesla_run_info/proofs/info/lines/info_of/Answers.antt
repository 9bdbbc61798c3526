use Rattle.tesla_run_info.proofs.info.Clocks.{first_reading, live_alone, made_one}
use Rattle.tesla_run_info.proofs.info.lines.info_of.Goals as goal

pub returns-clause-told : goal.returns-clause-told
returns-clause-told g c =
    let before = g.D.Environment.told c.args.desk.now in
    let now = g.D.Environment.told c.clock.new.self in
    let clock = g.D.Time.Clock.told in
    record {
      reading = c.now-reading.result;
      clock = first_reading before.live (clock c.clock.result) (clock c.now-reading.new.self) c.now-reading.result c.clock.ensures.told c.now-reading.ensures.ticks;
      clock_made = made_one before now c.clock.ensures.desk;
      told = c.lines_of.ensures;
    }

pub returns-clause-desk : goal.returns-clause-desk
returns-clause-desk g c = live_alone (g.D.Environment.told c.args.desk.now) (g.D.Environment.told c.clock.new.self) c.clock.ensures.desk
