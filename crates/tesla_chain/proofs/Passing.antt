-- A traversal that goes on by one key.
use Rattle.std.proofs.Common.{◌≡◌, ℕ, ◌+◌, ◌-◌, ◌<◌, ◌≤◌, List, length, sym, ◌∙◌, ap, subst, arith}
use Rattle.tesla_base.specs.declared.names.Key.{Key}
use Rattle.tesla_prf.specs.Keys.{walk}
use Rattle.tesla_prf.proofs.Walks.{walk_none}
use Rattle.tesla_chain.specs.declared.level.Level.{Level}
use Rattle.tesla_chain.specs.Kept.{IsKept}
use Rattle.tesla_chain.specs.Levels.{Stand}
use Rattle.tesla_chain.specs.Traversal.{Traversing}

-- its levels stand at the next key
pub passed : (last given : ℕ) (seed commitment : Key) (levels after : List Level) → IsKept last given seed commitment levels → given < last → 0 < last - (given + 1) → length after ≡ length levels
    → ((seed' : Key) (base left free : ℕ) → last - (given + 1) ≡ left + 1 → seed ≡ walk seed' base → seed ≡ walk seed' (base - (last - (given + 1))) → Stand seed' base (last - (given + 1)) free levels → Stand seed' base left free after)
    → IsKept last (given + 1) seed commitment after
passed last given seed commitment levels after is some more same rest =
    let start : seed ≡ walk seed (0 - (last - (given + 1))) = sym (walk_none seed) ∙ ap (walk seed) (omega arith) in
    record {
      most = is.most;
      within = omega arith;
      lowest = is.lowest;
      enough = rw same is.enough;
      few = rw same is.few;
      short = rw same is.short;
      stand = λ h. rest seed 0 (last - ((given + 1) + 1)) last (omega arith) (sym (walk_none seed)) start (is.stand some);
    }

-- a traversal that goes on to the key of a given index
pub goes_on : (last given index ahead left : ℕ) (seed commitment : Key) (levels after : List Level) → IsKept last given seed commitment levels → given < index → index < last → ahead ≡ last - (given + 1) → left ≡ last - (index + 1) → length after ≡ length levels
    → ((seed' : Key) (base free more : ℕ) → free ≤ more → ahead ≤ more → seed ≡ walk seed' base → Stand seed' base ahead free levels → Stand seed' base left more after)
    → IsKept last index seed commitment after
goes_on last given index ahead left seed commitment levels after is beyond within start end same rest =
    let P : ℕ → Type 0 = λ n. Stand seed 0 n last levels in
    let Q : ℕ → Type 0 = λ n. Stand seed 0 n last after in
    record {
      most = is.most;
      within = omega arith;
      lowest = is.lowest;
      enough = rw same is.enough;
      few = rw same is.few;
      short = rw same is.short;
      stand = λ h. subst Q end (rest seed 0 last last (omega arith) (omega arith) (sym (walk_none seed)) (subst P (sym start) (is.stand (omega arith))));
    }

-- two of the same stand before an index alike
pub ordered : (one self : Traversing) (index : ℕ) → one ≡ self → self.given < index → index ≤ self.last → (one.given < index) × (index ≤ one.last)
ordered one self index same after within =
    (subst (λ (t : Traversing). t.given < index) (sym same) after, subst (λ (t : Traversing). index ≤ t.last) (sym same) within)
