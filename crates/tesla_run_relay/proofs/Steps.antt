-- The steps of a run, from what their calls ensure.
use Rattle.std.proofs.Common.{◌≡◌, ◌∙◌, inr, ℕ, ◌≤◌, Option, Ok, List, [], length, map, sym, ap, subst}
use Rattle.std.proofs.lemmas.List.{length-map}
use Rattle.std.specs.List.{list_any}
use Rattle.tesla_desk.specs.Faults.{HasCause}
use Rattle.tesla_desk.specs.Links.{datagrams}
use Rattle.tesla_desk.specs.Outside.{Told}
use Rattle.tesla_desk.specs.declared.link.Letter.{Letter}
use Rattle.tesla_front.specs.OutcomeView.{OutcomeView}
use Rattle.tesla_relay.specs.Opening.{OpensEach, OpensPosts}
use Rattle.tesla_relay.specs.Posts.{PostSeen}
use Rattle.tesla_relay.proofs.Openings.{opened_each, opened_size}
use Rattle.tesla_relay.proofs.Sized.{each_counted}
use Rattle.tesla_relay.specs.Relay.{Relays}
use Rattle.tesla_relay.specs.declared.relayed.PostCount.{PostCount}
use Rattle.tesla_relay.specs.declared.relayed.RelayEnd.{RelayEnd}
use Rattle.tesla_relay.specs.declared.relayed.RelayEnd.TheVariants as ends
use Rattle.tesla_run_relay.specs.Lines.{has_failed, outcome_with}
use Rattle.tesla_run_relay.specs.Steps.{RunsPosts}

module _ {P : Type 0} (seen : P → PostSeen) (names wanted : List (List ℕ)) (before mid : Told) (old : List PostSeen) (posts : List P) where
  -- there are as many posts as names
  pub opened_wanted : names ≡ wanted → OpensPosts names before mid old (map seen posts) (Ok tt) → old ≡ [] → length posts ≡ length wanted
  opened_wanted is opens none = opened_size seen names before mid old posts opens none ∙ ap (λ (ns : List (List ℕ)). length ns) is

  pub opened_some : names ≡ wanted → OpensPosts names before mid old (map seen posts) (Ok tt) → old ≡ [] → (1 ≤ length wanted) × (length wanted ≤ 32) → (1 ≤ length posts) × (length posts ≤ 32)
  opened_some is opens none few = let size = opened_wanted is opens none in (subst (λ (n : ℕ). 1 ≤ n) (sym size) few.0, subst (λ (n : ℕ). n ≤ 32) (sym size) few.1)

  module _ (capacity : ℕ) (left later : Option (List Letter)) (news : List P) (end : RelayEnd) (counts : List PostCount) (relays : Relays capacity left later (map seen posts) (map seen news) end counts) where
    -- and as many counts
    pub counted_size : (number : ℕ) → number ≡ length wanted → names ≡ wanted → OpensPosts names before mid old (map seen posts) (Ok tt) → old ≡ [] → number ≡ length counts
    counted_size number number_is is opens none =
        number_is ∙ sym (opened_wanted is opens none) ∙ sym (length-map posts seen)
        ∙ sym (each_counted capacity (datagrams relays.taken) (map seen posts) (map seen news) counts relays.posts)

    pub runs_relay : (fresh missed : ℕ) (now : Told) (outcome : OutcomeView) → names ≡ wanted → OpensPosts names before mid old (map seen posts) (Ok tt) → old ≡ [] → now ≡ mid → HasCause fresh missed (end ≡ ends.Failed) → outcome ≡ outcome_with end (list_any has_failed counts) counts → RunsPosts capacity wanted left later fresh missed before now (map seen news) outcome
    runs_relay fresh missed now outcome is opens none same cause outcome_is = inr (record {
      opened = map seen posts;
      opens = subst (λ (t : Told). OpensEach wanted before t (map seen posts) (Ok tt)) (sym same)
          (subst (λ (ns : List (List ℕ)). OpensEach ns before mid (map seen posts) (Ok tt)) is (opened_each seen names before mid old posts opens none));
      end = end;
      counts = counts;
      relays = relays;
      read = cause;
      outcome_is = outcome_is;
    })
