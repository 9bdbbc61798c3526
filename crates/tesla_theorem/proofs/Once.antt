-- No two packets of one name are given.
use Rattle.std.proofs.Common.{◌≡◌, ℕ, ◌+◌, ◌<◌, ◌≤◌, Bool, true, false, cond, List, [], ◌∷◌, ◌++◌, take, drop, Some, sym, ap, ◌∙◌, arith, append_assoc, ◌==◌}
use Rattle.std.specs.Prelude.{slice_get}
use Rattle.std.specs.List.{list_any}
use Rattle.std.proofs.lemmas.Bool.{and_from, eq-eqb}
use Rattle.std.proofs.lemmas.List.{take_more, take-append-drop, take-take}
use Rattle.std.proofs.lemmas.List.Concat.{flat_map-append}
use Rattle.std.proofs.lemmas.List.Sums.{sum_by_push}
use Rattle.std.proofs.lemmas.Option.{get_or_from_slice_get, slice_get_within}
use Rattle.tesla_base.proofs.Lists.{slice_get-append}
use Rattle.tesla_base.proofs.Passing.{any_before}
use Rattle.tesla_base.specs.declared.release.Head.{Head}
use Rattle.tesla_fitting.specs.declared.config.Config.{Config}
use Rattle.tesla_receiver.specs.Entries.{Arrival, Entry}
use Rattle.tesla_receiver.specs.History.{IsLegal, arrival_in, arrivals_in, entry_of, event_of, given_in, gives}
use Rattle.tesla_receiver.specs.Packets.{released}
use Rattle.tesla_receiver.specs.declared.history.Entry.TheVariants.{Taken}
use Rattle.tesla_receiver.proofs.Once.{released_once}
use Rattle.tesla_state.specs.Releases.{has_name}
use Rattle.tesla_state.specs.declared.replies.Reply.TheVariants.{Given}
use Rattle.tesla_walks.specs.declared.release.Release.{Release}
use Rattle.tesla_theorem.specs.Theorem.{GivenOnce}
use Rattle.tesla_theorem.proofs.Given.{given_by, reply_gives}

clash : (b : Bool) → b ≡ true → b ≡ false → ⊥
clash true t f = absurd (cc)
clash false t f = absurd (cc)

-- a longer front of a list is a shorter one, the element there, and a rest
longer_front : (h : List Entry) (m n : ℕ) (e : Entry) → m < n → slice_get h m ≡ Some e → take n h ≡ (take m h ++ e ∷ []) ++ drop (m + 1) (take n h)
longer_front h m n e less at =
    let got : take (m + 1) h ≡ take m h ++ e ∷ [] = take_more h m e (slice_get_within h m e at) ∙ ap (λ y. take m h ++ y ∷ []) (get_or_from_slice_get h m e e at) in
    sym (take-append-drop (m + 1) (take n h)) ∙ ap (λ ys. ys ++ drop (m + 1) (take n h)) (take-take (m + 1) n h (omega arith) ∙ got)

pub given_once : ((cfg : Config) (h : List Entry) → IsLegal cfg h → (n : ℕ) (e : Entry) → slice_get h n ≡ Some e → e ≡ entry_of cfg (take n h) (event_of e))
    → ((cfg : Config) (xs ys : List Arrival) → (rest : List Release) × (released cfg (xs ++ ys) ≡ released cfg xs ++ rest))
    → ((h more : List Entry) → given_in h ≤ given_in (h ++ more)) → GivenOnce
given_once by_index grows rises cfg h m n r s a b x y legal less at then interval number =
    let before : List Entry = take m h in
    let later : List Entry = take n h in
    let e : Entry = Taken r (Given a x) in
    let rest : List Entry = drop (m + 1) later in
    let one = reply_gives cfg before a x (given_by cfg before r a x (by_index cfg h legal m e at)) in
    let other = reply_gives cfg later b y (given_by cfg later s b y (by_index cfg h legal n (Taken s (Given b y)) then)) in
    let split : later ≡ (before ++ e ∷ []) ++ rest = longer_front h m n e less at in
    let count : given_in (before ++ e ∷ []) ≡ given_in before + 1 = sum_by_push (λ it. cond (gives it) 1 0) before e in
    let more : given_in (before ++ e ∷ []) ≤ given_in ((before ++ e ∷ []) ++ rest) = rises (before ++ e ∷ []) rest in
    let same : given_in later ≡ given_in ((before ++ e ∷ []) ++ rest) = ap given_in split in
    let fewer : given_in before < given_in later = omega (arith, count, more, same) in
    let came : arrivals_in later ≡ arrivals_in before ++ arrivals_in (e ∷ rest) =
    ap arrivals_in (split ∙ append_assoc before (e ∷ []) rest) ∙ flat_map-append arrival_in before (e ∷ rest) in
    let grown = grows cfg (arrivals_in before) (arrivals_in (e ∷ rest)) in
    let all : released cfg (arrivals_in later) ≡ released cfg (arrivals_in before) ++ grown.0 = ap (released cfg) came ∙ grown.1 in
    let there : slice_get (released cfg (arrivals_in later)) (given_in before) ≡ Some one.release =
    ap (λ (z : List Release). slice_get z (given_in before)) all
    ∙ slice_get-append (released cfg (arrivals_in before)) grown.0 (given_in before) (slice_get_within (released cfg (arrivals_in before)) (given_in before) one.release one.waits)
    ∙ one.waits in
    let of_interval : one.release.name.interval ≡ other.release.name.interval = sym (ap (λ (it : Head). it.interval) one.head_is) ∙ interval ∙ ap (λ (it : Head). it.interval) other.head_is in
    let of_number : one.release.name.number ≡ other.release.name.number = sym (ap (λ (it : Head). it.number) one.head_is) ∙ number ∙ ap (λ (it : Head). it.number) other.head_is in
    let named : has_name other.release.name one.release ≡ true =
    and_from (one.release.name.interval == other.release.name.interval) (one.release.name.number == other.release.name.number)
    (eq-eqb one.release.name.interval other.release.name.interval of_interval) (eq-eqb one.release.name.number other.release.name.number of_number) in
    clash (list_any (has_name other.release.name) (take (given_in later) (released cfg (arrivals_in later))))
    (any_before (has_name other.release.name) (released cfg (arrivals_in later)) (given_in before) (given_in later) one.release fewer there named)
    (released_once cfg (arrivals_in later) (given_in later) other.release other.waits)
