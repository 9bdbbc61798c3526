-- Bytes that nothing begins with.
use Rattle.std.proofs.Common.{◌≡◌, ◌≢◌, ℕ, zero, suc, List, refl}
use Rattle.tesla_trace.specs.declared.kind.EntryFault.TheVariants.{BadKind, BadCode}
use Rattle.tesla_trace.specs.Parsing.{Wrong, bound_by, verdict_by, reply_by, entry_by}

pub other_flag : (flag : ℕ) (bytes : List ℕ) → flag ≢ 0 → flag ≢ 1 → bound_by flag bytes ≡ Wrong BadCode
unfolding bound_by
other_flag zero bytes a b = absurd (a refl)
other_flag (suc zero) bytes a b = absurd (b refl)
other_flag (suc (suc flag)) bytes a b = refl

pub other_code : (code : ℕ) (bytes : List ℕ) → code ≢ 0 → code ≢ 1 → code ≢ 2 → reply_by code bytes ≡ Wrong BadCode
unfolding reply_by
other_code zero bytes a b c = absurd (a refl)
other_code (suc zero) bytes a b c = absurd (b refl)
other_code (suc (suc zero)) bytes a b c = absurd (c refl)
other_code (suc (suc (suc code))) bytes a b c = refl

pub other_kind : (kind : ℕ) (bytes : List ℕ) → kind ≢ 1 → kind ≢ 2 → kind ≢ 3 → entry_by kind bytes ≡ Wrong BadKind
unfolding entry_by
other_kind zero bytes a b c = refl
other_kind (suc zero) bytes a b c = absurd (a refl)
other_kind (suc (suc zero)) bytes a b c = absurd (b refl)
other_kind (suc (suc (suc zero))) bytes a b c = absurd (c refl)
other_kind (suc (suc (suc (suc kind)))) bytes a b c = refl

pub other_number : (number : ℕ) (bytes : List ℕ) → number ≢ 1 → number ≢ 2 → number ≢ 3 → number ≢ 4 → number ≢ 5 → number ≢ 6 → number ≢ 7 → number ≢ 8 → number ≢ 9 → number ≢ 10 → verdict_by number bytes ≡ Wrong BadCode
unfolding verdict_by
other_number zero bytes a b c d e f g h i j = refl
other_number (suc zero) bytes a b c d e f g h i j = absurd (a refl)
other_number (suc (suc zero)) bytes a b c d e f g h i j = absurd (b refl)
other_number (suc (suc (suc zero))) bytes a b c d e f g h i j = absurd (c refl)
other_number (suc (suc (suc (suc zero)))) bytes a b c d e f g h i j = absurd (d refl)
other_number (suc (suc (suc (suc (suc zero))))) bytes a b c d e f g h i j = absurd (e refl)
other_number (suc (suc (suc (suc (suc (suc zero)))))) bytes a b c d e f g h i j = absurd (f refl)
other_number (suc (suc (suc (suc (suc (suc (suc zero))))))) bytes a b c d e f g h i j = absurd (g refl)
other_number (suc (suc (suc (suc (suc (suc (suc (suc zero)))))))) bytes a b c d e f g h i j = absurd (h refl)
other_number (suc (suc (suc (suc (suc (suc (suc (suc (suc zero))))))))) bytes a b c d e f g h i j = absurd (i refl)
other_number (suc (suc (suc (suc (suc (suc (suc (suc (suc (suc zero)))))))))) bytes a b c d e f g h i j = absurd (j refl)
other_number (suc (suc (suc (suc (suc (suc (suc (suc (suc (suc (suc number))))))))))) bytes a b c d e f g h i j = refl
