-- The chains of the keys that a data frame carries rise.
use Rattle.std.proofs.Common.{◌≡◌, ℕ, ◌+◌, ◌-◌, ◌<◌, ◌≤◌, Bool, true, false, cond, List, [], ◌∷◌, ◌++◌, flat_map, Option, Some, None, refl, sym, subst, ◌⊎◌, inl, inr, arith}
use Rattle.std.specs.Prelude.{nat_lt}
use Rattle.std.specs.List.{All, enumerate_from}
use Rattle.std.proofs.lemmas.List.Elements.{All-cons, All-nil, All-weaker}
use Rattle.tesla_base.specs.declared.names.Key.{Key}
use Rattle.tesla_frame.specs.declared.row.KeyRow.{KeyRow}
use Rattle.tesla_frame.specs.Frame.{ChainsRise, TagRow}
use Rattle.tesla_fitting.specs.declared.config.Config.{Config}
use Rattle.tesla_fitting.specs.Config.{chain_row}
use Rattle.tesla_fitting.specs.Rows.{carried}

-- the keys of rows that are numbered from n on
abbrev pub keys_from : Config → ℕ → ℕ → List TagRow → List KeyRow
keys_from cfg interval n rows = flat_map (λ (p : ℕ × TagRow). carried cfg interval p.0 p.1.key) (enumerate_from n rows)

none_or_one : (early : Bool) (row : KeyRow) → (cond early [] (row ∷ []) ≡ []) ⊎ (cond early [] (row ∷ []) ≡ row ∷ [])
none_or_one true row = inl refl
none_or_one false row = inr refl

-- a row carries no key, or one of its chain
pub carries : (cfg : Config) (interval chain : ℕ) (key : Option Key) → (carried cfg interval chain key ≡ []) ⊎ ((row : KeyRow) × (carried cfg interval chain key ≡ row ∷ []) × (row.chain.0 ≡ chain))
carries cfg interval chain None = inl refl
carries cfg interval chain (Some key) =
    let row : KeyRow = record { chain = record { 0 = chain }; index = interval - (chain_row cfg chain).delay; key = key } in
    elim (none_or_one (nat_lt interval (chain_row cfg chain).delay) row) [ inl e ↦ inl e | inr e ↦ inr (row, e, refl) ]

-- a row before those whose chains are greater
pub rise_cons : (row : KeyRow) (rows : List KeyRow) → All (λ r. row.chain.0 < r.chain.0) rows → ChainsRise rows → ChainsRise (row ∷ rows)
rise_cons row [] above rise = tt
rise_cons row (next ∷ rows) above rise = (above 0 row (omega arith), rise)

from_number : (cfg : Config) (interval n : ℕ) (rows : List TagRow) → All (λ r. n ≤ r.chain.0) (keys_from cfg interval n rows)
from_number cfg interval n [] = All-nil (λ (r : KeyRow). n ≤ r.chain.0)
from_number cfg interval n (row ∷ rows) =
    let rest : All (λ (r : KeyRow). n ≤ r.chain.0) (keys_from cfg interval (n + 1) rows) =
    All-weaker (λ (r : KeyRow). n + 1 ≤ r.chain.0) (λ (r : KeyRow). n ≤ r.chain.0) (λ r h. omega (arith, h)) (keys_from cfg interval (n + 1) rows) (from_number cfg interval (n + 1) rows) in
    elim (carries cfg interval n row.key) [
      | inl none ↦ subst (λ ks. All (λ (r : KeyRow). n ≤ r.chain.0) (ks ++ keys_from cfg interval (n + 1) rows)) (sym none) rest
      | inr (one, is, chain) ↦
          subst (λ ks. All (λ (r : KeyRow). n ≤ r.chain.0) (ks ++ keys_from cfg interval (n + 1) rows)) (sym is) (All-cons (λ (r : KeyRow). n ≤ r.chain.0) one (keys_from cfg interval (n + 1) rows) (omega (arith, chain)) rest)
    ]

pub carried_rise : (cfg : Config) (interval n : ℕ) (rows : List TagRow) → ChainsRise (keys_from cfg interval n rows)
carried_rise cfg interval n [] = tt
carried_rise cfg interval n (row ∷ rows) =
    let rest : ChainsRise (keys_from cfg interval (n + 1) rows) = carried_rise cfg interval (n + 1) rows in
    elim (carries cfg interval n row.key) [
      | inl none ↦ subst (λ ks. ChainsRise (ks ++ keys_from cfg interval (n + 1) rows)) (sym none) rest
      | inr (one, is, chain) ↦
          let later = from_number cfg interval (n + 1) rows in
          subst (λ ks. ChainsRise (ks ++ keys_from cfg interval (n + 1) rows)) (sym is) (rise_cons one (keys_from cfg interval (n + 1) rows) (λ k d inside. omega (arith, chain, later k d inside)) rest)
    ]
