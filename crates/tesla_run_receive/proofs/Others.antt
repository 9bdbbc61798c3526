-- Names that are none of some others, one after another.
use Rattle.std.proofs.Common.{◌≡◌, ◌≢◌, ℕ, ◌-◌, ◌≤◌, true, false, List, [], ◌∷◌, length, map, take, drop, slice_index_or, Bor, subst, arith}
use Rattle.std.proofs.lemmas.List.{take_rest}
use Rattle.std.proofs.lemmas.Slice.Eq.{bytes_eq-Decides}
use Rattle.std.specs.Str.{bytes_eq}
use Rattle.tesla_run_receive.specs.Arguments.{AreOthers}
use Rattle.tesla_session.specs.Session.{name_of}

other_name : (one name : List ℕ) → bytes_eq one name ≡ false → one ≢ name
other_name one name test e = let same : bytes_eq one name ≡ true = (bytes_eq-Decides one name).1 e in cc

-- the first is another name, and so are those behind it
pub others_first : (name : List ℕ) (others : List (Bor (List ℕ))) (default : Bor (List ℕ)) → 1 ≤ length others → bytes_eq (slice_index_or others 0 default).now name ≡ false
    → AreOthers name (map name_of (take (length others - 1) (drop 1 others))) → AreOthers name (map name_of others)
others_first name [] default some first rest = absurd (omega (arith, some))
others_first name (other ∷ others) default some first rest =
    (other_name other.now name first, subst (λ (names : List (Bor (List ℕ))). AreOthers name (map name_of names)) (take_rest (other ∷ others) 1) rest)
