-- A history is legal exactly where no entry is wrong, and the first wrong one stands behind a legal prefix.
use Rattle.std.proofs.Common.{◌≡◌, ◌≢◌, ◌∙◌, ℕ, Bool, true, false, List, [], ◌∷◌, ◌++◌, length, Option, Some, None, refl, sym, ap, subst, append_assoc}
use Rattle.std.proofs.lemmas.List.{append-nil}
use Rattle.tesla_fitting.specs.declared.config.Config.{Config}
use Rattle.tesla_receiver.specs.History.{IsLegal, IsLegalAfter, entry_of, event_of}
use Rattle.tesla_receiver.specs.Entries.{Entry}
use Rattle.tesla_receiver.proofs.Standing.{legal_more}
use Rattle.tesla_audit.specs.Wrong.{IsFirstWrong, first_wrong, first_wrong_after, same_entry, wrong_by}
use Rattle.tesla_audit.proofs.Same.{is_same, same_is}

none_by : (t : Bool) (this : ℕ × Entry) (later : Option (ℕ × Entry)) → wrong_by t this later ≡ None → (t ≡ true) × (later ≡ None)
none_by true this later e = (refl, e)
none_by false this later e = absurd cc

-- where none is wrong all are right
pub right_after : (cfg : Config) (before entries : List Entry) → first_wrong_after cfg before entries ≡ None → IsLegalAfter cfg before entries
right_after cfg before [] e = tt
right_after cfg before (entry ∷ entries) e =
    let right : Entry = entry_of cfg before (event_of entry) in
    let both = none_by (same_entry entry right) (length before, right) (first_wrong_after cfg (before ++ entry ∷ []) entries) e in
    (same_is entry right both.0, right_after cfg (before ++ entry ∷ []) entries both.1)

-- behind right entries what is wrong is what is wrong of the others
pub wrong_behind : (cfg : Config) (prefix before others : List Entry) → IsLegalAfter cfg prefix before → first_wrong_after cfg prefix (before ++ others) ≡ first_wrong_after cfg (prefix ++ before) others
wrong_behind cfg prefix [] others legal = ap (λ (f : List Entry). first_wrong_after cfg f others) (sym (append-nil prefix))
wrong_behind cfg prefix (entry ∷ before) others legal =
    let right : Entry = entry_of cfg prefix (event_of entry) in
    ap (λ (t : Bool). wrong_by t (length prefix, right) (first_wrong_after cfg (prefix ++ entry ∷ []) (before ++ others))) (is_same entry right legal.0)
    ∙ wrong_behind cfg (prefix ++ entry ∷ []) before others legal.1
    ∙ ap (λ (f : List Entry). first_wrong_after cfg f others) (append_assoc prefix (entry ∷ []) before)

pub legal_none : (cfg : Config) (history : List Entry) → IsLegal cfg history → first_wrong cfg history ≡ None
legal_none cfg history legal = ap (first_wrong cfg) (sym (append-nil history)) ∙ wrong_behind cfg [] history [] legal

pub none_legal : (cfg : Config) (history : List Entry) → first_wrong cfg history ≡ None → IsLegal cfg history
none_legal cfg history e = right_after cfg [] history e

not_true : true ≡ false → ⊥
not_true e = absurd cc

other_false : (t : Bool) → (t ≡ true → ⊥) → t ≡ false
other_false true no_more = absurd (no_more refl)
other_false false no_more = refl

other_entry : (a b : Entry) → b ≢ a → same_entry a b ≡ false
other_entry a b other = other_false (same_entry a b) (λ same. other (sym (same_is a b same)))

-- a wrong entry behind a legal prefix is the first one
pub wrong_there : (cfg : Config) (before : List Entry) (entry : Entry) (after : List Entry) → IsLegal cfg before → entry_of cfg before (event_of entry) ≢ entry → first_wrong cfg (before ++ entry ∷ after) ≡ Some (length before, entry_of cfg before (event_of entry))
wrong_there cfg before entry after legal other =
    let right : Entry = entry_of cfg before (event_of entry) in
    wrong_behind cfg [] before (entry ∷ after) legal
    ∙ ap (λ (t : Bool). wrong_by t (length before, right) (first_wrong_after cfg (before ++ entry ∷ []) after)) (other_entry entry right other)

pub first_only : (cfg : Config) (history : List Entry) (n : ℕ) (right : Entry) → IsFirstWrong cfg history n right → first_wrong cfg history ≡ Some (n, right)
first_only cfg history n right w =
    let other : entry_of cfg w.before (event_of w.entry) ≢ w.entry = λ same. w.wrong (w.right_is ∙ same) in
    ap (first_wrong cfg) w.parts ∙ wrong_there cfg w.before w.entry w.after w.legal other
    ∙ ap (λ (k : ℕ). Some (k, entry_of cfg w.before (event_of w.entry))) w.count ∙ ap (λ (e : Entry). Some (n, e)) (sym w.right_is)

some_same : (a b : ℕ × Entry) → Some a ≡ Some b → a ≡ b
some_same a b e = cc

not_same : (a b : Entry) → same_entry a b ≡ false → b ≢ a
not_same a b other same = not_true (sym (is_same a b (sym same)) ∙ other)

found_by : (t : Bool) (cfg : Config) (prefix : List Entry) (entry : Entry) (entries : List Entry) (n : ℕ) (right : Entry) → same_entry entry (entry_of cfg prefix (event_of entry)) ≡ t → IsLegal cfg prefix
    → (t ≡ true → first_wrong_after cfg (prefix ++ entry ∷ []) entries ≡ Some (n, right) → IsFirstWrong cfg (prefix ++ entry ∷ entries) n right)
    → wrong_by t (length prefix, entry_of cfg prefix (event_of entry)) (first_wrong_after cfg (prefix ++ entry ∷ []) entries) ≡ Some (n, right) → IsFirstWrong cfg (prefix ++ entry ∷ entries) n right
found_by true cfg prefix entry entries n right is legal later e = later refl e
found_by false cfg prefix entry entries n right is legal later e =
    let this : ℕ × Entry = (length prefix, entry_of cfg prefix (event_of entry)) in
    let same = some_same this (n, right) e in
    let right_is : right ≡ entry_of cfg prefix (event_of entry) = ap (λ (p : ℕ × Entry). p.1) (sym same) in
    record {
      before = prefix;
      entry = entry;
      after = entries;
      parts = refl;
      count = ap (λ (p : ℕ × Entry). p.0) same;
      legal = legal;
      right_is = right_is;
      wrong = λ e. not_same entry (entry_of cfg prefix (event_of entry)) is (sym right_is ∙ e);
    }

found_after : (cfg : Config) (prefix entries : List Entry) (n : ℕ) (right : Entry) → IsLegal cfg prefix → first_wrong_after cfg prefix entries ≡ Some (n, right) → IsFirstWrong cfg (prefix ++ entries) n right
found_after cfg prefix [] n right legal e = absurd cc
found_after cfg prefix (entry ∷ entries) n right legal e =
    found_by (same_entry entry (entry_of cfg prefix (event_of entry))) cfg prefix entry entries n right refl legal
    (λ same later. subst (λ (h : List Entry). IsFirstWrong cfg h n right) (append_assoc prefix (entry ∷ []) entries)
    (found_after cfg (prefix ++ entry ∷ []) entries n right (legal_more cfg prefix entry legal (same_is entry (entry_of cfg prefix (event_of entry)) same)) later)) e

pub first_found : (cfg : Config) (history : List Entry) (n : ℕ) (right : Entry) → first_wrong cfg history ≡ Some (n, right) → IsFirstWrong cfg history n right
first_found cfg history n right e = found_after cfg [] history n right tt e
