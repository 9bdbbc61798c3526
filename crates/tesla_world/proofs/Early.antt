-- A frame that tells a key an interval too early: the key that it stands for is the one before.
use Rattle.std.proofs.Common.{◌≡◌, ℕ, zero, suc, ◌+◌, ◌-◌, ◌≤◌, cond, List, [], ◌∷◌, Option, Some, false, Bool, sym, subst, arith}
use Rattle.std.specs.List.{Contains, enumerate_from, flat_map}
use Rattle.std.specs.Prelude.{nat_lt, slice_get}
use Rattle.std.proofs.lemmas.Bool.Decides.{nat_tests}
use Rattle.std.proofs.lemmas.List.Elements.{Contains-append_left, Contains-append_right, Contains-push}
use Rattle.std.proofs.lemmas.Option.{none-some, same_Some}
use Rattle.tesla_base.specs.declared.names.Key.{Key}
use Rattle.tesla_fitting.specs.Config.{chain_row}
use Rattle.tesla_fitting.specs.Rows.{carried}
use Rattle.tesla_fitting.specs.declared.config.Config.{Config}
use Rattle.tesla_frame.specs.Frame.{Data, TagRow}
use Rattle.tesla_frame.specs.declared.row.KeyRow.{KeyRow}
use Rattle.tesla_world.specs.Laws.{EarlyIsInsecure, senders_key}

-- what f gives of an element stands in what it gives of all
among_all : {A B : Type 0} (f : ℕ × A → List B) (from i : ℕ) (xs : List A) (x : A) (y : B) → slice_get xs i ≡ Some x → Contains (f (from + i, x)) y → Contains (flat_map f (enumerate_from from xs)) y
among_all f from i [] x y at has = absurd (none-some x at)
among_all f from zero (z ∷ xs) x y at has =
    let same : z ≡ x = same_Some z x at in
    let place : from + 0 ≡ from = omega arith in
    Contains-append_left (f (from, z)) (flat_map f (enumerate_from (from + 1) xs)) y
    (subst (λ (n : ℕ). Contains (f (n, z)) y) place (subst (λ w. Contains (f (from + 0, w)) y) (sym same) has))
among_all f from (suc i) (z ∷ xs) x y at has =
    let place : from + suc i ≡ from + 1 + i = omega arith in
    Contains-append_right (f (from, z)) (flat_map f (enumerate_from (from + 1) xs)) y
    (among_all f (from + 1) i xs x y at (subst (λ (n : ℕ). Contains (f (n, x)) y) place has))

-- the key of a row is carried as that of the interval which is the delay before
carried_has : (cfg : Config) (interval chain : ℕ) (key : Key) → (chain_row cfg chain).delay ≤ interval → Contains (carried cfg interval chain (Some key)) (record { chain = record { 0 = chain }; index = interval - (chain_row cfg chain).delay; key = key })
carried_has cfg interval chain key due =
    let row : KeyRow = record { chain = record { 0 = chain }; index = interval - (chain_row cfg chain).delay; key = key } in
    let late : nat_lt interval (chain_row cfg chain).delay ≡ false = grind (arith, nat_tests) in
    subst (λ (b : Bool). Contains (cond b [] (row ∷ [])) row) (sym late) (Contains-push [] row)

pub insecure : EarlyIsInsecure
insecure cfg seeds world history chain early secure =
    let index = early.frame.name.interval - (chain_row cfg chain).delay in
    let from_zero : chain ≡ 0 + chain = omega arith in
    let key = senders_key cfg seeds chain (index + 1) in
    let row : KeyRow = record { chain = record { 0 = chain }; index = index; key = key } in
    let carries : Contains (carried cfg early.frame.name.interval chain early.row.key) row =
    subst (λ (k : Option Key). Contains (carried cfg early.frame.name.interval chain k) row) (sym early.tells) (carried_has cfg early.frame.name.interval chain key early.due) in
    let has = among_all (λ (p : ℕ × TagRow). carried cfg early.frame.name.interval p.0 p.1.key) 0 chain early.frame.rows early.row row early.row_at
    (subst (λ (n : ℕ). Contains (carried cfg early.frame.name.interval n early.row.key) row) from_zero carries) in
    early.other (secure.own early.i early.sent early.text (Data early.frame) row early.at early.framed has)
