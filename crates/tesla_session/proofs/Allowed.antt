-- That each worker of a session may be opened.
use Rattle.std.proofs.Common.{◌≡◌, ◌∙◌, ◌-◌, ◌≤◌, inl, inr, ℕ, suc, ◌+◌, Bool, true, List, [], ◌∷◌, drop, get_or, length, map, take, Option, Some, None, Ok, Result, refl, sym, ap, subst, length-append, arith}
use Rattle.std.proofs.Math.Seq.{take-length}
use denote.Ref.{Bor}
use Rattle.tesla_desk.specs.Outside.{Told}
use Rattle.tesla_front.specs.declared.fault.Fault.{Fault}
use Rattle.tesla_shared.specs.Yields.{Yield}
use Rattle.tesla_session.specs.Wanted.{Wanted, WantedLink, WantedSink}
use Rattle.tesla_session.specs.Session.{PassSeen, Seen, SeenLink, SeenSink, OpensWorker, OpensWorkers, name_of, split_pass}
use Rattle.tesla_session.specs.Allowed.{AllowsLink, AllowsSink, AreAllowed, MayAsk, MayAskLinks, MayReleaseAll}

module _ {C V R : Type 0} where
  -- one pass more was given
  joined_more : (first : PassSeen C V R) → length (split_pass first).joined ≡ suc (length first.joined)
  joined_more first = length-append first.joined (None ∷ []) ∙ (let one : length first.joined + 1 ≡ suc (length first.joined) = omega arith in one)

module _ {C V R : Type 0} where
  pub opens_split : (wanted : Wanted) (before now : Told) (first later : PassSeen C V R) (worker : Seen C V R) → OpensWorker wanted before now first later worker → later ≡ split_pass first
  opens_split (WantedLink ingest name) before now first later (SeenLink worker) it = it.later_is
  opens_split (WantedSink releaser name) before now first later (SeenSink worker) it = it.later_is
  opens_split (WantedLink ingest name) before now first later (SeenSink worker) it = absurd it
  opens_split (WantedSink releaser name) before now first later (SeenLink worker) it = absurd it

  -- a pass was given for each worker
  pub opens_joined : (wanted : List Wanted) (before now : Told) (first later : PassSeen C V R) (workers : List (Seen C V R)) → OpensWorkers wanted before now first later workers (Ok tt) → length later.joined ≡ length first.joined + length wanted
  opens_joined [] before now first later workers it = omega (arith, ap (λ (p : PassSeen C V R). length p.joined) it.2)
  opens_joined (wanted ∷ others) before now first later workers (inl (fault, refused, same, none, is)) = absurd cc
  opens_joined (wanted ∷ others) before now first later workers (inr (worker, ws, mid, middle, are, opens, opened)) =
      let one : length middle.joined ≡ suc (length first.joined) = ap (λ (p : PassSeen C V R). length p.joined) (opens_split wanted before mid first middle worker opens) ∙ joined_more first in
      omega (arith, one, opens_joined others mid now middle later ws opened)

module _ {C V R : Type 0} where
  module _ (allowed : PassSeen C V R → ℕ → List ℕ → Type 0) where
    -- the first of some workers may be opened
    pub allowed_first : (first : PassSeen C V R) (number : ℕ) (names : List (Bor (List ℕ))) (d : Bor (List ℕ)) → 1 ≤ length names → AreAllowed allowed first number (map name_of names) → allowed first number (get_or names 0 d).now
    allowed_first first number [] d some are = absurd (omega arith)
    allowed_first first number (name ∷ names) d some are = are.0

    -- and the others once it is
    pub allowed_others : (wanted : Wanted) (before now : Told) (first later : PassSeen C V R) (worker : Seen C V R) (number : ℕ) (names : List (Bor (List ℕ))) → 1 ≤ length names → OpensWorker wanted before now first later worker
        → AreAllowed allowed first number (map name_of names) → AreAllowed allowed later (number + 1) (map name_of (take (length names - 1) (drop 1 names)))
    allowed_others wanted before now first later worker number [] some opens are = absurd (omega arith)
    allowed_others wanted before now first later worker number (name ∷ names) some opens are =
        let size : length (name ∷ names) - 1 ≡ length names = omega arith in
        let others : take (length (name ∷ names) - 1) names ≡ names = ap (λ n. take n names) size ∙ take-length names in
        subst (λ (ns : List (Bor (List ℕ))). AreAllowed allowed later (number + 1) (map name_of ns)) (sym others)
        (subst (λ (pass : PassSeen C V R). AreAllowed allowed pass (number + 1) (map name_of names)) (sym (opens_split wanted before now first later worker opens)) are.1)

  module _ {K : Type 0} (brought may_ask : ℕ → List ℕ → Bool) (may_ask_link : K → Bool) where
    pub links_allowed : (first : PassSeen C V R) (number : ℕ) (names : List (List ℕ)) → MayAsk brought may_ask → MayAskLinks may_ask_link → length first.joined ≡ suc number → AreAllowed (AllowsLink brought may_ask may_ask_link) first number names
    links_allowed first number [] asked any_link many = tt
    links_allowed first number (name ∷ names) asked any_link many =
        ((many, asked, any_link), links_allowed (split_pass first) (number + 1) names asked any_link (omega (arith, joined_more first, many)))

  module _ {S : Type 0} (name : S → List ℕ) (written : S → Option (List ℕ)) (may_write : S → List ℕ → Bool) (yields : R → Yield) (is_due : C → ℕ → Option (List ℕ) → R → Type 0) (ingests : C → ℕ) where
    pub sinks_allowed : (first : PassSeen C V R) (number : ℕ) (names : List (List ℕ)) → ((cfg : C) → first.config ≡ Some cfg → MayReleaseAll name written may_write yields (is_due cfg) number names)
        → ((cfg : C) → first.config ≡ Some cfg → length first.joined ≡ suc (ingests cfg + number)) → AreAllowed (AllowsSink name written may_write yields is_due ingests) first number names
    sinks_allowed first number [] release many = tt
    sinks_allowed first number (under ∷ names) release many = (
      λ cfg is. (many cfg is, (release cfg is).0),
      sinks_allowed (split_pass first) (number + 1) names (λ cfg is. (release cfg is).1) (λ cfg is. omega (arith, joined_more first, many cfg is)),
    )
