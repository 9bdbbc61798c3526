use Rattle.std.proofs.Common.{◌≡◌, ◌<◌, List, length, Some, None, Option, sym, ap, subst, ◌∙◌}
use Rattle.std.specs.Prelude.{find}
use Rattle.std.specs.List.{list_any}
use Rattle.sha2.specs.Sha256.{sha256}
use Rattle.tesla_early.specs.Kept.{is_of_message}
use Rattle.tesla_early.specs.Ring.{is_found, order_of}
use Rattle.tesla_early.specs.Stands.{PromiseState}
use Rattle.tesla_early.specs.declared.promises.Slot.{Slot}
use Rattle.tesla_early.proofs.Ring.{list_within}
use Rattle.tesla_early.proofs.Using.{found_in_order, none_kept, one_kept}
use Rattle.tesla_early.proofs.promises.Promises.has.Goals.{After-find_index}
use Rattle.tesla_early.proofs.promises.Promises.has.Goals as goal

pub find_index-requires-clause-within : goal.find_index-requires-clause-within
find_index-requires-clause-within c p there =
    let i = c.self.inside in
    subst (λ (ss : List Slot). p < length ss) (sym c.as_slice.ensures.value) (list_within i.most i.count i.next i.buckets i.slots.items c.self.invariant c.bucket-bucket.result c.bucket-bucket.ensures.within p there)

found : (c : After-find_index) → c.find_index.result ≡ find (is_found c.self.inside.slots.items c.args.name (sha256 c.args.payload.now)) (order_of c.self.inside.count c.self.inside.next)
found c =
    let i = c.self.inside in
    found_in_order i.slots.items c.args.name (sha256 c.args.payload.now) i.most i.count i.next i.buckets c.as_slice.result.now c.bucket-bucket.result c.find_index.result c.self.invariant
    c.as_slice.ensures.value c.bucket-bucket.ensures.value c.bucket-bucket.ensures.within c.find_index.ensures

pub returns-in-None : goal.returns-in-None
returns-in-None c =
    let i = c.self.inside in
    let hash = sha256 c.args.payload.now in
    sym (ap (λ (s : PromiseState). list_any (is_of_message c.args.name hash) s.kept) (sym c.self.view_is)
    ∙ none_kept i.slots.items c.args.name hash (order_of i.count i.next) (sym c.in-None.is ∙ found (goal.at.returns-in-None c).After-find_index))

pub returns-in-Some : goal.returns-in-Some
returns-in-Some c =
    let i = c.self.inside in
    let hash = sha256 c.args.payload.now in
    sym (ap (λ (s : PromiseState). list_any (is_of_message c.args.name hash) s.kept) (sym c.self.view_is)
    ∙ one_kept i.slots.items c.args.name hash (order_of i.count i.next) c.in-Some._place (sym c.in-Some.is ∙ found (goal.at.returns-in-Some c).After-find_index))
