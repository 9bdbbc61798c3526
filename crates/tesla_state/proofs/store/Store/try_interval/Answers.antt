use Rattle.std.proofs.Common.{◌≡◌, ◌≤◌, ◌+◌, ◌*◌, ℕ, sym, subst, length, arith}
use Rattle.std.specs.Prelude.{not, Option, vec_capacity}
use Rattle.std.specs.List.{filter}
use Rattle.std.proofs.Math.ListN.{drop_of_length-le}
use Rattle.tesla_base.specs.declared.names.Place.{Place}
use Rattle.tesla_frame.specs.Frame.{ChainsRise}
use Rattle.tesla_state.specs.Stored.{is_of, is_unreleased_of}
use Rattle.tesla_walks.specs.Walking.{left}
use Rattle.tesla_state.proofs.Sweeping.{found_any, found_stands}
use Rattle.std.proofs.lemmas.Bool.{and_parts}
use Rattle.tesla_state.proofs.TriedIntervals.{Trying, trying_none, tried_slot, above_there, room_there, trying_more, tried_all, none_left, unreleased_few}
use Rattle.tesla_state.proofs.Evaluations.{tried_cost, tried_whole}
use Rattle.tesla_state.proofs.store.Store.try_interval.Goals as goal

pub loop-looked-init : goal.loop-looked-init
loop-looked-init g c = record {
  walk = trying_none c.args.newest.now.config.now c.args.newest.now.tips.now c.args.walks.now c.args.self.now.held c.args.interval c.first_unreleased-next.result c.args.batch.now.items c.first_unreleased-next.ensures c.requires.above;
  capacity = omega arith;
  cost = omega arith;
}

pub returns-in_default : goal.returns-in_default
returns-in_default g c =
    let s = c.loop-looked.invariant.walk in
    let none = none_left c.args.newest.now.config.now c.args.newest.now.tips.now c.args.walks.now c.loop-looked.walks c.args.self.now.held c.args.interval c.loop-looked._looked c.loop-looked.next c.args.batch.now.items c.loop-looked.batch.items s c.in_default.is in
    let within = s.within in
    let long = s.long in
    let few = unreleased_few c.args.self.now.held c.args.interval in
    record {
      releases = tried_all c.args.newest.now.config.now c.args.newest.now.tips.now c.args.walks.now c.loop-looked.walks c.args.self.now.held c.args.interval c.loop-looked._looked c.loop-looked.next c.args.batch.now.items c.loop-looked.batch.items s none;
      proved = s.proved;
      long = omega arith;
      capacity = c.loop-looked.invariant.capacity;
      rows = s.rows;
      above = s.above;
      cost = subst (λ (n : ℕ). c.loop-looked.steps + left c.args.newest.now.tips.now c.loop-looked.walks ≤ c.args.steps.now + left c.args.newest.now.tips.now c.args.walks.now + 2 * n) (tried_whole c.args.newest.now.config.now c.args.newest.now.tips.now c.args.walks.now c.args.self.now.held c.args.interval c.loop-looked._looked none) c.loop-looked.invariant.cost;
    }

pub next_unreleased-next-requires : goal.next_unreleased-next-requires
next_unreleased-next-requires g c =
    let s = subst (λ (o : Option Place). Trying c.args.newest.now.config.now c.args.newest.now.tips.now c.args.walks.now c.loop-looked.walks c.args.self.now.held c.args.interval c.loop-looked._looked o c.args.batch.now.items c.loop-looked.batch.items) c.in-Some.is c.loop-looked.invariant.walk in
    let t = tried_slot c.args.newest.now.config.now c.args.newest.now.tips.now c.args.walks.now c.loop-looked.walks c.args.self.now.held c.args.interval c.loop-looked._looked c.in-Some.place c.args.batch.now.items c.loop-looked.batch.items c.requires.apart s in
    found_stands c.in-Some.place.0 (λ y. not y.holding.released) t.packet c.args.self.now.held t.found (and_parts (is_of c.args.interval t.packet) (not t.packet.holding.released) t.of).1

pub try_at-requires : goal.try_at-requires
try_at-requires g c =
    let s = subst (λ (o : Option Place). Trying c.args.newest.now.config.now c.args.newest.now.tips.now c.args.walks.now c.loop-looked.walks c.args.self.now.held c.args.interval c.loop-looked._looked o c.args.batch.now.items c.loop-looked.batch.items) c.in-Some.is c.loop-looked.invariant.walk in
    let t = tried_slot c.args.newest.now.config.now c.args.newest.now.tips.now c.args.walks.now c.loop-looked.walks c.args.self.now.held c.args.interval c.loop-looked._looked c.in-Some.place c.args.batch.now.items c.loop-looked.batch.items c.requires.apart s in
    let room = room_there c.args.newest.now.config.now c.args.newest.now.tips.now c.args.walks.now c.loop-looked.walks c.args.self.now.held c.args.interval c.loop-looked._looked (vec_capacity c.args.batch.now) c.in-Some.place c.args.batch.now.items c.loop-looked.batch.items c.requires.apart s (omega (arith, c.requires.room, unreleased_few c.args.self.now.held c.args.interval)) in
    let kept : vec_capacity c.loop-looked.batch ≡ vec_capacity c.args.batch.now = c.loop-looked.invariant.capacity in
    record {
      tips = c.requires.tips;
      chains = c.requires.chains;
      rise = subst ChainsRise (sym s.rows) c.requires.rise;
      live = found_any c.in-Some.place.0 t.packet c.args.self.now.held t.found;
      above = above_there c.args.newest.now.config.now c.args.newest.now.tips.now c.args.walks.now c.loop-looked.walks c.args.self.now.held c.args.interval c.loop-looked._looked c.in-Some.place c.args.batch.now.items c.loop-looked.batch.items c.requires.apart s;
      room = omega arith;
    }

pub loop-looked-preserved : goal.loop-looked-preserved
loop-looked-preserved g c =
    let s = subst (λ (o : Option Place). Trying c.args.newest.now.config.now c.args.newest.now.tips.now c.args.walks.now c.loop-looked.walks c.args.self.now.held c.args.interval c.loop-looked._looked o c.args.batch.now.items c.loop-looked.batch.items) c.in-Some.is c.loop-looked.invariant.walk in
    let before = c.loop-looked.invariant.capacity in
    let after = c.try_at.ensures.capacity in
    record {
      walk = trying_more c.args.newest.now.config.now c.args.newest.now.tips.now c.args.walks.now c.loop-looked.walks c.try_at.new.walks c.args.self.now.held c.args.interval c.loop-looked._looked c.in-Some.place c.next_unreleased-next.result c.args.batch.now.items c.loop-looked.batch.items c.try_at.new.batch.items
          c.requires.apart s c.next_unreleased-next.ensures c.try_at.ensures.rows c.try_at.ensures.above c.try_at.ensures.releases c.try_at.ensures.proved c.try_at.ensures.long;
      capacity = omega arith;
      cost = tried_cost c.args.newest.now.config.now c.args.newest.now.tips.now c.args.walks.now c.args.self.now.held c.args.interval c.loop-looked._looked c.loop-looked.walks c.try_at.new.walks c.in-Some.place c.args.batch.now.items c.loop-looked.batch.items c.args.steps.now c.loop-looked.steps c.try_at.new.steps
          c.requires.apart s c.loop-looked.invariant.cost c.try_at.ensures.cost;
    }

pub returns : goal.returns
returns g c =
    let s = c.loop-looked.invariant.walk in
    let count : c.unreleased_in-looked-end.result ≡ length (filter (is_unreleased_of c.args.interval) c.args.self.now.held) = c.unreleased_in-looked-end.ensures in
    let all : length (filter (is_unreleased_of c.args.interval) c.args.self.now.held) ≤ c.loop-looked._looked = rw count at c.loop-looked-test.false in
    let within = s.within in
    let long = s.long in
    let few = unreleased_few c.args.self.now.held c.args.interval in
    record {
      releases = tried_all c.args.newest.now.config.now c.args.newest.now.tips.now c.args.walks.now c.loop-looked.walks c.args.self.now.held c.args.interval c.loop-looked._looked c.loop-looked.next c.args.batch.now.items c.loop-looked.batch.items s (drop_of_length-le (filter (is_unreleased_of c.args.interval) c.args.self.now.held) all);
      proved = s.proved;
      long = omega arith;
      capacity = c.loop-looked.invariant.capacity;
      rows = s.rows;
      above = s.above;
      cost = subst (λ (n : ℕ). c.loop-looked.steps + left c.args.newest.now.tips.now c.loop-looked.walks ≤ c.args.steps.now + left c.args.newest.now.tips.now c.args.walks.now + 2 * n) (tried_whole c.args.newest.now.config.now c.args.newest.now.tips.now c.args.walks.now c.args.self.now.held c.args.interval c.loop-looked._looked (drop_of_length-le (filter (is_unreleased_of c.args.interval) c.args.self.now.held) all)) c.loop-looked.invariant.cost;
    }
