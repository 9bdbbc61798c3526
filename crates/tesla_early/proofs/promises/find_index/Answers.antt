use Rattle.std.proofs.Common.{◌≡◌, Some, get_or, sym, ap, ◌∙◌}
use Rattle.std.specs.Prelude.{slice_get}
use Rattle.std.proofs.lemmas.Option.{get_or_from_slice_get, slice_get_within}
use Rattle.sha2.specs.Sha256.{sha256}
use Rattle.tesla_base.proofs.Lists.{find_here, find_none_more}
use Rattle.tesla_base.proofs.Members.{in_got, next_at}
use Rattle.tesla_links.specs.Lists.{list_of}
use Rattle.tesla_early.specs.Ring.{is_found}
use Rattle.tesla_early.proofs.promises.find_index.Goals.{After-is_of_message}
use Rattle.tesla_early.proofs.promises.find_index.Goals as goal

pub bounds-slots-place : goal.bounds-slots-place
bounds-slots-place c = c.requires.within c.in-Some.place (in_got (list_of c.args.buckets.now c.args.bucket) c.loop.counter c.in-Some.place (sym c.loop.invariant.next ∙ c.in-Some.is))

-- the place at which the search stands, and how it was tested
tested : (c : After-is_of_message) → (slice_get (list_of c.args.buckets.now c.args.bucket) c.loop.counter ≡ Some c.in-Some.place)
    × (is_found c.args.slots.now c.args.name (sha256 c.args.payload.now) (get_or (list_of c.args.buckets.now c.args.bucket) c.loop.counter c.in-Some.place) ≡ c.is_of_message.result)
tested c =
    let got : slice_get (list_of c.args.buckets.now c.args.bucket) c.loop.counter ≡ Some c.in-Some.place = sym c.loop.invariant.next ∙ c.in-Some.is in
    (got, ap (is_found c.args.slots.now c.args.name (sha256 c.args.payload.now)) (get_or_from_slice_get (list_of c.args.buckets.now c.args.bucket) c.loop.counter c.in-Some.place c.in-Some.place got) ∙ sym c.is_of_message.ensures.value)

pub returns-then-is_of_message : goal.returns-then-is_of_message
returns-then-is_of_message c =
    let xs = list_of c.args.buckets.now c.args.bucket in
    let n = c.loop.counter in
    let index = c.in-Some.place in
    let own = tested (goal.at.returns-then-is_of_message c).After-is_of_message in
    sym (find_here (is_found c.args.slots.now c.args.name (sha256 c.args.payload.now)) xs n index (slice_get_within xs n index own.0) c.loop.invariant.none (own.1 ∙ c.if-is_of_message.true) ∙ ap Some (get_or_from_slice_get xs n index index own.0))

pub next-next-requires-clause-slot : goal.next-next-requires-clause-slot
next-next-requires-clause-slot c = in_got (list_of c.args.buckets.now c.args.bucket) c.loop.counter c.in-Some.place (sym c.loop.invariant.next ∙ c.in-Some.is)

pub loop-preserved : goal.loop-preserved
loop-preserved c =
    let xs = list_of c.args.buckets.now c.args.bucket in
    let n = c.loop.counter in
    let own = tested (goal.at.loop-preserved c).After-is_of_message in
    record {
      end = c.loop.invariant.end;
      next = c.next-next.ensures.value ∙ next_at xs n c.in-Some.place c.next-next.ensures.distinct own.0;
      none = find_none_more (is_found c.args.slots.now c.args.name (sha256 c.args.payload.now)) xs n c.in-Some.place (slice_get_within xs n c.in-Some.place own.0) c.loop.invariant.none (own.1 ∙ c.if-is_of_message.false);
      digest = c.is_of_message.ensures.known;
    }
