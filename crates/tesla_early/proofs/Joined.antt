-- Bytes with others behind them.
use Rattle.std.proofs.Common.{◌≡◌, ℕ, ◌+◌, List, ◌++◌, length, take, drop, append_assoc, sym, refl}
use Rattle.std.proofs.lemmas.List.{length-append, take_at}
use borrow.Rule.Slice.PartMut.{put_mid}

-- a prefix of a room, and a body put behind it
pub joined_is : (prefix body rest placed written : List ℕ) (n k : ℕ) → n ≡ length prefix → placed ≡ prefix → written ≡ body → take (n + length body) (put_mid n k (placed ++ rest) written) ≡ prefix ++ body
joined_is prefix body rest placed written n k count first second =
    rw (first, second, count, take_at prefix rest (length prefix) refl, sym (append_assoc prefix body (drop k (drop (length prefix) (prefix ++ rest)))))
    (take_at (prefix ++ body) (drop k (drop (length prefix) (prefix ++ rest))) (length prefix + length body) (length-append prefix body))
