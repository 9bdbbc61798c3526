-- One post after another, as they are opened and closed.
use Rattle.std.proofs.Common.{◌≡◌, ◌∙◌, ◌<◌, ◌≤◌, ◌-◌, ℕ, List, [], ◌∷◌, ◌++◌, Result, Ok, Err, inl, inr, refl, sym, ap, subst, map, length, take, drop, get_or, append_assoc, append-nil, arith}
use Rattle.std.proofs.lemmas.List.{map-append}
use Rattle.std.proofs.Math.Seq.{take-length}
use denote.Ref.{Bor}
use Rattle.tesla_desk.specs.Outside.{Told, ClosesPost}
use Rattle.tesla_front.specs.declared.fault.Fault.{Fault}
use Rattle.tesla_relay.specs.Opening.{ClosesPosts, OpensEach, OpensOne, OpensPosts, RefusesOne, name_of}
use Rattle.tesla_relay.specs.Posts.{PostSeen}

-- ---- opening

pub opens_no_post : (names : List (Bor (List ℕ))) (told : Told) (old : List PostSeen) → length names < 1 → OpensPosts (map name_of names) told told old old (Ok tt)
opens_no_post [] told old none = ([], sym (append-nil old), (refl, refl, refl))
opens_no_post (name ∷ names) told old none = absurd (omega arith)

pub refuses_first : (names : List (Bor (List ℕ))) (d : Bor (List ℕ)) (before now : Told) (fault : Fault) (old : List PostSeen) → 1 ≤ length names → RefusesOne (get_or names 0 d).now before now fault → OpensPosts (map name_of names) before now old old (Err fault)
refuses_first [] d before now fault old some refuses = absurd (omega arith)
refuses_first (name ∷ names) d before now fault old some refuses = ([], sym (append-nil old), inl (fault, refuses, refl, refl))

-- the first was opened, and then others
pub opens_first : {X : Type 0} (seen : X → PostSeen) (names : List (Bor (List ℕ))) (d : Bor (List ℕ)) (before mid now : Told) (post : X) (old pushed new : List X) (result : Result (Unit {0}) Fault) → 1 ≤ length names
    → OpensOne (get_or names 0 d).now before mid (seen post) → pushed ≡ old ++ post ∷ [] → OpensPosts (map name_of (take (length names - 1) (drop 1 names))) mid now (map seen pushed) (map seen new) result
    → OpensPosts (map name_of names) before now (map seen old) (map seen new) result
opens_first seen [] d before mid now post old pushed new result some opened is rest = absurd (omega arith)
opens_first seen (name ∷ names) d before mid now post old pushed new result some opened is rest =
    let size : length (name ∷ names) - 1 ≡ length names = omega arith in
    let others : take (length (name ∷ names) - 1) names ≡ names = ap (λ (n : ℕ). take n names) size ∙ take-length names in
    let more : OpensEach (map name_of names) mid now rest.0 result = subst (λ (ns : List (Bor (List ℕ))). OpensEach (map name_of ns) mid now rest.0 result) others rest.2 in
    let put : map seen pushed ≡ map seen old ++ seen post ∷ [] = ap (λ ps. map seen ps) is ∙ map-append seen old (post ∷ []) in
    (seen post ∷ rest.0, rest.1 ∙ ap (λ ps. ps ++ rest.0) put ∙ append_assoc (map seen old) (seen post ∷ []) rest.0, inr (seen post, rest.0, mid, refl, opened, more))

-- ---- closing

closes_last : (posts : List PostSeen) (last : PostSeen) (before mid now : Told) → ClosesPost last.name last.sent last.faults before mid → ClosesPosts posts mid now → ClosesPosts (posts ++ last ∷ []) before now
closes_last [] last before mid now closed rest = (before, refl, rw rest closed)
closes_last (post ∷ posts) last before mid now closed rest = (rest.0, closes_last posts last before mid rest.0 closed rest.1, rest.2)

-- the last of some posts was closed, and then those before it
pub closes_seen : {X : Type 0} (seen : X → PostSeen) (posts : List X) (last : X) (before mid now : Told) → ClosesPost (seen last).name (seen last).sent (seen last).faults before mid → ClosesPosts (map seen posts) mid now → ClosesPosts (map seen (posts ++ last ∷ [])) before now
closes_seen seen posts last before mid now closed rest =
    subst (λ (all : List PostSeen). ClosesPosts all before now) (sym (map-append seen posts (last ∷ []))) (closes_last (map seen posts) (seen last) before mid now closed rest)
