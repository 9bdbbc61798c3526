-- What stands beside the slots, through a change of one.
use Rattle.std.proofs.Common.{◌≡◌, ℕ, ◌<◌, Bool, true, false, not, List, [], ◌∷◌, ◌++◌, length, get_or, sym, ap, ◌∙◌, arith, ⊎_elim}
use Rattle.std.proofs.Math.ListN.{set}
use Rattle.std.proofs.lemmas.Bool.{cases_eq, or_left, or_right}
use Rattle.std.proofs.lemmas.List.{get_or-set_other, get_or-set_same, get_or_append_left, length-append, length-set}
use Rattle.tesla_buffer.specs.Held.{is_resting}
use Rattle.tesla_buffer.specs.Stored.{IsBeside, item_at, no_item}
use Rattle.tesla_buffer.specs.declared.item.Item.{Item}
use Rattle.tesla_buffer.proofs.Stored.{Chosen}

-- where one slot has a new item, and the others are as before
module _ (capacity : ℕ) (slots now : List Item) (resting : List Bool) (p : ℕ) (it : Item) (inside : p < capacity) (here : item_at now p ≡ it) (others : (q : ℕ) → (q ≡ p → ⊥) → q < length now → (q < length slots) × (item_at now q ≡ item_at slots q)) where
  resting_at : (b : Bool) → b ≡ is_resting it → IsBeside capacity slots resting → (q : ℕ) → q < length now → get_or (set resting p b) q true ≡ is_resting (item_at now q)
  resting_at b same r q within =
      ⊎_elim
      (λ (s : q ≡ p). ap (λ n. get_or (set resting p b) n true) s ∙ get_or-set_same resting p b true (omega (arith, inside, r.long)) ∙ same ∙ ap is_resting (sym here) ∙ ap (λ n. is_resting (item_at now n)) (sym s))
      (λ (ne : q ≡ p → ⊥). let there = others q ne within in get_or-set_other resting p q b true ne ∙ r.tells q there.0 ∙ ap is_resting (sym there.1))
      (cases_eq q p)

  pub beside_set : (b : Bool) → b ≡ is_resting it → IsBeside capacity slots resting → IsBeside capacity now (set resting p b)
  beside_set b same r = record { long = length-set resting p b ∙ r.long; tells = resting_at b same r }

-- an item that was taken rests
pub taken_rests : (item : Item) → item.taken ≡ true → true ≡ is_resting item
taken_rests item taken = sym (or_right (not item.released) item.taken taken)

-- one that was not released rests
pub unreleased_rests : (item : Item) → item.released ≡ false → true ≡ is_resting item
unreleased_rests item none = sym (or_left (not item.released) item.taken (ap not none))

-- an item over another
pub beside_over : (capacity : ℕ) (slots : List Item) (resting : List Bool) (p : ℕ) (it : Item) (b : Bool) → p < length slots → p < capacity → b ≡ is_resting it → IsBeside capacity slots resting → IsBeside capacity (set slots p it) (set resting p b)
beside_over capacity slots resting p it b within inside same r =
    beside_set capacity slots (set slots p it) resting p it inside (get_or-set_same slots p it no_item within)
    (λ q ne h. (omega (arith, h, length-set slots p it), get_or-set_other slots p q it no_item ne)) b same r

-- the other slots, where one was chosen for a packet
chosen_others : (slots slots' : List Item) (free free' : List ℕ) (p : ℕ) (empty : Item) → Chosen slots slots' free free' p empty → (q : ℕ) → (q ≡ p → ⊥) → q < length slots' → (q < length slots) × (item_at slots' q ≡ item_at slots q)
chosen_others slots slots' free free' p empty c q ne within =
    ⊎_elim
    (λ (a : (free ≡ free' ++ p ∷ []) × (slots' ≡ slots)). (omega (arith, within, ap length a.1), ap (λ xs. item_at xs q) a.1))
    (λ (b : (free ≡ []) × (free' ≡ []) × (p ≡ length slots) × (slots' ≡ slots ++ empty ∷ [])).
    let other : q ≡ length slots → ⊥ = λ e. ne (e ∙ sym b.2) in
    let prefix : q < length slots = omega (arith, within, ap length b.3, length-append slots (empty ∷ []), other) in
    (prefix, ap (λ xs. item_at xs q) b.3 ∙ get_or_append_left slots (empty ∷ []) no_item q prefix))
    c

-- an item in a chosen slot
pub beside_put : (capacity : ℕ) (slots slots' : List Item) (free free' : List ℕ) (resting : List Bool) (p : ℕ) (empty it : Item) (b : Bool) → Chosen slots slots' free free' p empty → p < length slots' → p < capacity → b ≡ is_resting it → IsBeside capacity slots resting → IsBeside capacity (set slots' p it) (set resting p b)
beside_put capacity slots slots' free free' resting p empty it b c within inside same r =
    beside_set capacity slots (set slots' p it) resting p it inside (get_or-set_same slots' p it no_item within)
    (λ q ne h.
    let there = chosen_others slots slots' free free' p empty c q ne (omega (arith, h, length-set slots' p it)) in
    (there.0, get_or-set_other slots' p q it no_item ne ∙ there.1)) b same r
