-- The opening of workers: of none, where the first is refused, and where it is opened and others follow.
use Rattle.std.proofs.Common.{◌≡◌, ◌∙◌, ◌<◌, ◌≤◌, ◌+◌, ◌-◌, ℕ, suc, List, [], ◌∷◌, ◌++◌, Result, Ok, Err, refl, ap, inl, inr, map, length, take, drop, get_or, subst₂, append_assoc, arith}
use Rattle.std.proofs.Math.Seq.{take-length}
use denote.Ref.{Bor}
use Rattle.tesla_desk.specs.Outside.{Told}
use Rattle.tesla_front.specs.declared.fault.Fault.{Fault}
use Rattle.tesla_shared.specs.Yields.{Yield}
use Rattle.tesla_session.specs.Wanted.{Wanted, wanted_from}
use Rattle.tesla_session.specs.Session.{OpensMore, OpensWorker, OpensWorkers, PassSeen, RefusesWorker, Seen, name_of}

module _ {C V R : Type 0} (wanted : ℕ → List ℕ → Wanted) where
  pub opens_none : (number : ℕ) (names : List (Bor (List ℕ))) (told : Told) (pass : PassSeen C V R) → length names < 1
      → OpensWorkers (wanted_from wanted number (map name_of names)) told told pass pass [] (Ok tt)
  opens_none number [] told pass none = (refl, refl, refl, refl)
  opens_none number (name ∷ names) told pass none = absurd (omega arith)

  pub refuses_first : (before now : Told) (first later : PassSeen C V R) (fault : Fault) (number : ℕ) (names : List (Bor (List ℕ))) (d : Bor (List ℕ)) → 1 ≤ length names
      → RefusesWorker (wanted number (get_or names 0 d).now) before now fault → later ≡ first → OpensWorkers (wanted_from wanted number (map name_of names)) before now first later [] (Err fault)
  refuses_first before now first later fault number [] d some refused same = absurd (omega arith)
  refuses_first before now first later fault number (name ∷ names) d some refused same = inl (fault, refused, same, refl, refl)

  -- the first was opened, and then others
  pub opens_first : {X : Type 0} (seen : X → Seen C V R) (before mid now : Told) (first middle later : PassSeen C V R) (number : ℕ) (names : List (Bor (List ℕ))) (d : Bor (List ℕ)) (worker : X) (old pushed new : List X) (result : Result (Unit {0}) Fault)
      → 1 ≤ length names → OpensWorker (wanted number (get_or names 0 d).now) before mid first middle (seen worker) → pushed ≡ old ++ worker ∷ []
      → OpensMore seen wanted (number + 1) (map name_of (take (length names - 1) (drop 1 names))) mid now middle later pushed new result → OpensMore seen wanted number (map name_of names) before now first later old new result
  opens_first seen before mid now first middle later number [] d worker old pushed new result some opened is rest = absurd (omega arith)
  opens_first seen before mid now first middle later number (name ∷ names) d worker old pushed new result some opened is rest =
      let next : number + 1 ≡ suc number = omega arith in
      let size : length (name ∷ names) - 1 ≡ length names = omega arith in
      let others : take (length (name ∷ names) - 1) names ≡ names = ap (λ n. take n names) size ∙ take-length names in
      let more : OpensWorkers (wanted_from wanted (suc number) (map name_of names)) mid now middle later (map seen rest.0) result =
      subst₂ (λ (n : ℕ) (ns : List (Bor (List ℕ))). OpensWorkers (wanted_from wanted n (map name_of ns)) mid now middle later (map seen rest.0) result) next others rest.2 in
      (worker ∷ rest.0, rest.1 ∙ ap (λ xs. xs ++ rest.0) is ∙ append_assoc old (worker ∷ []) rest.0, inr (seen worker, map seen rest.0, mid, middle, refl, opened, more))
