use Rattle.std.proofs.Common.{ap, ◌≡◌, ℕ}
use Rattle.std.proofs.Common.{List, get_or, eqb, subst, true, false}
use Rattle.std.specs.List.{list_any}
use Rattle.std.specs.Option.{MatchOption}
use Rattle.tesla_base.specs.Members.{is_in}
use Rattle.tesla_links.specs.Lists.{list_of}
use Rattle.tesla_links.specs.Slots.{Slots}
use Rattle.tesla_links.proofs.Keyed.{at_view, found_in}
use Rattle.tesla_links.proofs.key_table.KeyTable.find.Goals as goal

pub returns : goal.returns
returns c =
    let i = c.self.inside in
    let h = at_view i.capacity i.chains i.keys.items c.args.self.now.slots (ap (λ (v : Slots). v.slots) c.self.view_is) c.self.invariant in
    let Found : List ℕ → ℕ → Type 0 = λ ks b. MatchOption c.find_in.result (list_any (λ p. eqb (get_or ks p 0) c.args.key) (list_of i.chains b) ≡ false) (λ p. (is_in p (list_of i.chains b) ≡ true) × (get_or ks p 0 ≡ c.args.key)) in
    found_in i.capacity i.chains i.keys.items c.args.self.now.slots c.args.key h c.find_in.result
    (subst (λ b. Found i.keys.items b) c.bucket.ensures.value (subst (λ ks. Found ks c.bucket.result) c.deref.ensures.value c.find_in.ensures))
