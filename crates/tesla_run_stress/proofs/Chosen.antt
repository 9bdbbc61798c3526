-- What the numbers of a load choose.
use Rattle.std.proofs.Common.{◌≡◌, ◌∙◌, ℕ, ◌+◌, ◌*◌, ◌%◌, ◌<◌, ◌≤◌, Bool, true, false, List, [], ◌∷◌, ◌++◌, Option, refl, sym, ap, subst, add-one}
use Rattle.std.specs.Prelude.{◌==◌}
use Rattle.std.proofs.lemmas.Bool.{eqb-true, le-ltb, lt-ltb, ne_eqb}
use Rattle.tesla_capture.specs.Capture.{Record, Arrives}
use Rattle.tesla_run_stress.specs.Load.{altered_at, arrival_of, arrivals_chosen, number_at, others_chosen, offset_chosen, reading_chosen, reading_of}

pub number_first : (seed : ℕ) → number_at seed 0 ≡ seed
unfolding number_at
number_first seed = refl

pub number_next : (seed k : ℕ) → number_at seed (k + 1) ≡ (75 * number_at seed k + 74) % 65537
unfolding number_at
number_next seed k = rw add-one refl

-- what comes behind a frame is not of its altered bytes
others_by : (b : Bool) (choice k : ℕ) (text : List ℕ) (before : Option (List ℕ)) → (choice == 2) ≡ b → others_chosen choice k (altered_at (offset_chosen choice k) text) before ≡ others_chosen choice k text before
others_by true choice k text before is =
    let two : choice ≡ 2 = eqb-true choice 2 is in
    subst (λ (c : ℕ). others_chosen c k (altered_at (offset_chosen c k) text) before ≡ others_chosen c k text before) (sym two) refl
others_by false choice k text before is = rw is refl

pub others_same : (choice k : ℕ) (text : List ℕ) (before : Option (List ℕ)) → others_chosen choice k (altered_at (offset_chosen choice k) text) before ≡ others_chosen choice k text before
others_same choice k text before = others_by (choice == 2) choice k text before refl

-- what comes of a message that isn't lost
pub arrivals_are : (choice k : ℕ) (text : List ℕ) (before : Option (List ℕ)) → 2 ≤ choice → arrivals_chosen choice k text before ≡ Arrives (reading_chosen choice k) (altered_at (offset_chosen choice k) text) ∷ others_chosen choice k text before
arrivals_are choice k text before some = rw (le-ltb choice 2 some) refl

pub arrivals_none : (choice k : ℕ) (text : List ℕ) (before : Option (List ℕ)) → choice < 2 → arrivals_chosen choice k text before ≡ []
arrivals_none choice k text before few = rw (lt-ltb choice 2 few) refl

pub others_twice : (choice k : ℕ) (text : List ℕ) (before : Option (List ℕ)) → choice ≡ 2 → others_chosen choice k text before ≡ Arrives (reading_of k) text ∷ []
others_twice choice k text before is = rw is refl

pub others_before : (choice k : ℕ) (text : List ℕ) (before : Option (List ℕ)) → choice ≡ 14 → others_chosen choice k text before ≡ arrival_of (reading_of k) before
others_before choice k text before is = rw is refl

pub others_none : (choice k : ℕ) (text : List ℕ) (before : Option (List ℕ)) → (choice ≡ 2 → ⊥) → (choice ≡ 14 → ⊥) → others_chosen choice k text before ≡ []
others_none choice k text before once new = rw (ne_eqb choice 2 once, ne_eqb choice 14 new) refl

-- the arrivals, by what came first
pub arrivals_from : (choice k reading : ℕ) (text outcome : List ℕ) (offset : Option ℕ) (before : Option (List ℕ)) → 2 ≤ choice → reading ≡ reading_chosen choice k → offset ≡ offset_chosen choice k → outcome ≡ altered_at offset text → (Arrives reading outcome ∷ []) ++ others_chosen choice k outcome before ≡ arrivals_chosen choice k text before
arrivals_from choice k reading text outcome offset before some reads at is =
    let all : outcome ≡ altered_at (offset_chosen choice k) text = is ∙ ap (λ (p : Option ℕ). altered_at p text) at in
    ap (λ (r : ℕ). Arrives r outcome ∷ others_chosen choice k outcome before) reads
    ∙ ap (λ (t : List ℕ). Arrives (reading_chosen choice k) t ∷ others_chosen choice k t before) all
    ∙ ap (λ (l : List Record). Arrives (reading_chosen choice k) (altered_at (offset_chosen choice k) text) ∷ l) (others_same choice k text before)
    ∙ sym (arrivals_are choice k text before some)
