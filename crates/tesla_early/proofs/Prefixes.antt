-- What the first entries of a history teach and accept is a prefix of what all of them do.
use Rattle.std.proofs.Common.{◌≡◌, ◌≤◌, ℕ, zero, suc, List, [], ◌++◌, length, map, refl, sym, ap, ⊎_elim, ◌∙◌, append_assoc, arith}
use Rattle.std.proofs.lemmas.Bool.{cases_eq}
use Rattle.std.proofs.lemmas.List.{append-nil, length-append, take_at}
use Rattle.tesla_early.specs.Payloads.{promise_of}
use Rattle.tesla_early.specs.declared.promise.Promise.{Promise}
use Rattle.tesla_receiver.specs.Entries.{Arrival, Entry}
use Rattle.tesla_receiver.proofs.EachAfter.{each_after-append}
use Rattle.tesla_state.specs.Releases.{each_after}
use Rattle.tesla_early.specs.Early.{learnt}
use Rattle.tesla_early.specs.Laws.{origin_of}
use Rattle.tesla_early.specs.Counted.{early_arrivals, early_in}
use Rattle.tesla_early.proofs.Steps.{origins, origins_step, origins_taught, origins_with}
use Rattle.tesla_early.proofs.Origins.{origins_all}

origins_grow : (most : ℕ) (h : List Entry) (n m : ℕ) → n ≤ m → (rest : List (ℕ × Promise)) × (origins most h m ≡ origins most h n ++ rest)
origins_grow most h n zero later = ([], (let same : 0 ≡ n = omega arith in ap (origins most h) same) ∙ sym (append-nil (origins most h n)))
origins_grow most h n (suc m) later =
    ⊎_elim
    (λ same. ([], ap (origins most h) (sym same) ∙ sym (append-nil (origins most h n))))
    (λ differs. next (origins_grow most h n m (omega arith)))
    (cases_eq n (suc m))
  where
    next : (rest : List (ℕ × Promise)) × (origins most h m ≡ origins most h n ++ rest) → (rest : List (ℕ × Promise)) × (origins most h (suc m) ≡ origins most h n ++ rest)
    next before =
        ⊎_elim
        (λ stays. (before.0, stays ∙ before.1))
        (λ taught. let new = origins_with m (promise_of taught.0) in
        (before.0 ++ new, origins_taught most h m taught.0 taught.1 ∙ ap (λ os. os ++ new) before.1 ∙ append_assoc (origins most h n) before.0 new))
        (origins_step most h m)

-- the promises that were learnt stay, in their places
pub learnt_grows : (most : ℕ) (h more : List Entry) → (rest : List (ℕ × Promise)) × (map origin_of (learnt most (h ++ more)) ≡ map origin_of (learnt most h) ++ rest)
learnt_grows most h more =
    let all = h ++ more in
    let grown = origins_grow most all (length h) (length all) (let size = length-append h more in omega arith) in
    (grown.0, sym (origins_all most all) ∙ grown.1 ∙ ap (λ prefix. map origin_of (learnt most prefix) ++ grown.0) (take_at h more (length h) refl))

-- what was early stays early
pub early_grows : (most : ℕ) (h more : List Entry) → (rest : List Arrival) × (early_arrivals most (h ++ more) ≡ early_arrivals most h ++ rest)
early_grows most h more = (each_after (early_in most) h more, each_after-append (early_in most) [] h more)
