-- The parts of a word between its commas.
use Rattle.std.proofs.Common.{◌≡◌, ◌≢◌, ◌∙◌, true, false, ℕ, ◌+◌, ◌<◌, ◌≤◌, List, [], ◌∷◌, ◌++◌, length, get_or, refl, sym, ap, subst, arith, append_assoc, append-nil, length-append, inl, inr, ◌⊎◌}
use Rattle.std.specs.List.{All, list_any, slice_split, onto_first}
use Rattle.std.proofs.lemmas.Bool.{ne_eqb, or_parts, or_from, cases_Bool, eqb-true}
use Rattle.std.proofs.lemmas.List.Elements.{All-nil, All-cons, All-from_get_or}
use Rattle.std.proofs.lemmas.List.Splits.{slice_split_none, slice_split_at, slice_split-cons_yes, slice_split-cons_no}
use Rattle.tesla_front.specs.Names.{AreNames, AreListNames, AreDistinct, IsNoneOf, is_comma, joined}
use Rattle.tesla_front.specs.Parts.{Follow, Follows}

-- ---- cutting

no_comma : (word : List ℕ) → ((i : ℕ) → i < length word → get_or word i 0 ≢ 44) → All (λ b. is_comma b ≡ false) word
no_comma word none = All-from_get_or (λ b. is_comma b ≡ false) word 0 (λ i h. ne_eqb (get_or word i 0) 44 (none i h))

-- a word without a comma is its one part
pub part_alone : (word : List ℕ) → ((i : ℕ) → i < length word → get_or word i 0 ≢ 44) → slice_split is_comma word ≡ word ∷ []
part_alone word none = slice_split_none is_comma word (no_comma word none)

-- the first part and the others, around the first comma
pub parts_around : (word name others : List ℕ) → word ≡ name ++ 44 ∷ others → ((i : ℕ) → i < length name → get_or name i 0 ≢ 44) → slice_split is_comma word ≡ name ∷ slice_split is_comma others
parts_around word name others split none = ap (slice_split is_comma) split ∙ slice_split_at is_comma name 44 others (no_comma name none) refl

-- ---- the parts with commas between them are the word

some_parts : (word : List ℕ) → 1 ≤ length (slice_split is_comma word)
some_parts [] = omega arith
some_parts (b ∷ word) = by (cases_Bool (is_comma b)) where
  by : (is_comma b ≡ true) ⊎ (is_comma b ≡ false) → 1 ≤ length (slice_split is_comma (b ∷ word))
  by (inl cut) = omega (arith, ap length (slice_split-cons_yes is_comma b word cut))
  by (inr kept) = onto (slice_split is_comma word) (slice_split-cons_no is_comma b word kept) where
    onto : (parts : List (List ℕ)) → slice_split is_comma (b ∷ word) ≡ onto_first b parts → 1 ≤ length (slice_split is_comma (b ∷ word))
    onto [] is = omega (arith, ap length is)
    onto (part ∷ parts) is = omega (arith, ap length is)

joined_onto : (b : ℕ) (parts : List (List ℕ)) → joined (onto_first b parts) ≡ b ∷ joined parts
joined_onto b [] = refl
joined_onto b (part ∷ []) = refl
joined_onto b (part ∷ other ∷ more) = refl

joined_after : (parts : List (List ℕ)) → 1 ≤ length parts → joined ([] ∷ parts) ≡ 44 ∷ joined parts
joined_after [] some = absurd (omega arith)
joined_after (part ∷ parts) some = refl

comma_is : (b : ℕ) → is_comma b ≡ true → 44 ≡ b
comma_is b cut = sym (eqb-true b 44 cut)

-- the parts of a word with a comma between two are the word
pub joined_parts : (word : List ℕ) → joined (slice_split is_comma word) ≡ word
joined_parts [] = refl
joined_parts (b ∷ word) = by (cases_Bool (is_comma b)) (joined_parts word) where
  by : (is_comma b ≡ true) ⊎ (is_comma b ≡ false) → joined (slice_split is_comma word) ≡ word → joined (slice_split is_comma (b ∷ word)) ≡ b ∷ word
  by (inl cut) rest =
      ap joined (slice_split-cons_yes is_comma b word cut) ∙ joined_after (slice_split is_comma word) (some_parts word)
      ∙ ap (λ l. 44 ∷ l) rest ∙ ap (λ c. c ∷ word) (comma_is b cut)
  by (inr kept) rest =
      ap joined (slice_split-cons_no is_comma b word kept) ∙ joined_onto b (slice_split is_comma word) ∙ ap (λ l. b ∷ l) rest

-- ---- no part has a comma

abbrev AreWhole : List (List ℕ) → Type 0
AreWhole [] = Unit {0}
AreWhole (part ∷ parts) = (list_any is_comma part ≡ false) × AreWhole parts

whole_onto : (b : ℕ) (parts : List (List ℕ)) → is_comma b ≡ false → AreWhole parts → AreWhole (onto_first b parts)
whole_onto b [] kept whole = (or_from (is_comma b) false kept refl, tt)
whole_onto b (part ∷ parts) kept whole = (or_from (is_comma b) (list_any is_comma part) kept whole.0, whole.1)

whole_parts : (word : List ℕ) → AreWhole (slice_split is_comma word)
whole_parts [] = (refl, tt)
whole_parts (b ∷ word) = by (cases_Bool (is_comma b)) (whole_parts word) where
  by : (is_comma b ≡ true) ⊎ (is_comma b ≡ false) → AreWhole (slice_split is_comma word) → AreWhole (slice_split is_comma (b ∷ word))
  by (inl cut) rest = subst AreWhole (sym (slice_split-cons_yes is_comma b word cut)) (refl, rest)
  by (inr kept) rest = subst AreWhole (sym (slice_split-cons_no is_comma b word kept)) (whole_onto b (slice_split is_comma word) kept rest)

-- ---- parts that follow one another are distinct names

named : (before parts : List (List ℕ)) → AreWhole parts → Follow before parts → AreListNames parts
named before [] whole follow = tt
named before (part ∷ parts) whole follow = (record { named = follow.0.named; whole = whole.0 }, named (before ++ part ∷ []) parts whole.1 follow.1)

few : (before parts : List (List ℕ)) → length before ≤ 32 → Follow before parts → length before + length parts ≤ 32
few before [] room follow = omega arith
few before (part ∷ parts) room follow =
    let first : length before < 32 = follow.0.room in
    let more : length (before ++ part ∷ []) ≡ length before + 1 = length-append before (part ∷ []) in
    let rest : length (before ++ part ∷ []) + length parts ≤ 32 = few (before ++ part ∷ []) parts (omega arith) follow.1 in
    omega arith

none_push : (name other : List ℕ) (names : List (List ℕ)) → IsNoneOf name names → name ≢ other → IsNoneOf name (names ++ other ∷ [])
none_push name other [] none apart = (apart, tt)
none_push name other (first ∷ names) none apart = (none.0, none_push name other names none.1 apart)

distinct_push : (names : List (List ℕ)) (name : List ℕ) → AreDistinct names → IsNoneOf name names → AreDistinct (names ++ name ∷ [])
distinct_push [] name distinct none = (tt, tt)
distinct_push (first ∷ names) name distinct none =
    (none_push first name names distinct.0 (λ same. none.0 (sym same)), distinct_push names name distinct.1 none.1)

distinct_after : (before parts : List (List ℕ)) → AreDistinct before → Follow before parts → AreDistinct (before ++ parts)
distinct_after before [] distinct follow = subst AreDistinct (sym (append-nil before)) distinct
distinct_after before (part ∷ parts) distinct follow =
    subst AreDistinct (append_assoc before (part ∷ []) parts) (distinct_after (before ++ part ∷ []) parts (distinct_push before part distinct follow.0.new) follow.1)

-- parts that follow one another are the names that the word spells
pub names_from_parts : (word : List ℕ) → Follow [] (slice_split is_comma word) → AreNames word (slice_split is_comma word)
names_from_parts word follow = record {
  spelled = sym (joined_parts word);
  each = named [] (slice_split is_comma word) (whole_parts word) follow;
  distinct = distinct_after [] (slice_split is_comma word) tt follow;
  some = some_parts word;
  few = omega (arith, few [] (slice_split is_comma word) (omega arith) follow);
}

-- one name that follows those before, and then the others, are all of them
pub all_follow : (before between after parts all : List (List ℕ)) (name : List ℕ) → all ≡ name ∷ parts → Follows before name × (between ≡ before ++ name ∷ []) → Follow between parts × (after ≡ between ++ parts) → Follow before all × (after ≡ before ++ all)
all_follow before between after parts all name split first rest = (
  subst (Follow before) (sym split) (first.0, subst (λ (names : List (List ℕ)). Follow names parts) first.1 rest.0),
  rest.1 ∙ ap (λ (names : List (List ℕ)). names ++ parts) first.1 ∙ append_assoc before (name ∷ []) parts ∙ ap (λ (names : List (List ℕ)). before ++ names) (sym split),
)

-- the same of one name alone
pub one_follows : (before after all : List (List ℕ)) (name : List ℕ) → all ≡ name ∷ [] → Follows before name × (after ≡ before ++ name ∷ []) → Follow before all × (after ≡ before ++ all)
one_follows before after all name alone first =
    (subst (Follow before) (sym alone) (first.0, tt), first.1 ∙ ap (λ (names : List (List ℕ)). before ++ names) (sym alone))

-- where all follow those before, the first of them does, and then the others
pub first_follows : (before parts all : List (List ℕ)) (name : List ℕ) → all ≡ name ∷ parts → Follow before all → Follows before name × Follow (before ++ name ∷ []) parts
first_follows before parts all name split follow = subst (Follow before) split follow

-- ---- the parts of joined names are the names, and follow one another

whole_all : (name : List ℕ) → list_any is_comma name ≡ false → All (λ b. is_comma b ≡ false) name
whole_all [] whole = All-nil (λ b. is_comma b ≡ false)
whole_all (b ∷ name) whole =
    let both = or_parts (is_comma b) (list_any is_comma name) whole in
    All-cons (λ b. is_comma b ≡ false) b name both.0 (whole_all name both.1)

parts_joined : (names : List (List ℕ)) → AreListNames names → 1 ≤ length names → slice_split is_comma (joined names) ≡ names
parts_joined [] each some = absurd (omega arith)
parts_joined (name ∷ []) each some = slice_split_none is_comma name (whole_all name each.0.whole)
parts_joined (name ∷ other ∷ more) each some =
    slice_split_at is_comma name 44 (joined (other ∷ more)) (whole_all name each.0.whole) refl ∙ ap (λ parts. name ∷ parts) (parts_joined (other ∷ more) each.1 (omega arith))

none_before : (before : List (List ℕ)) (name : List ℕ) (names : List (List ℕ)) → AreDistinct (before ++ name ∷ names) → IsNoneOf name before
none_before [] name names distinct = tt
none_before (first ∷ before) name names distinct = (λ same. apart before distinct.0 (sym same), none_before before name names distinct.1) where
  apart : (others : List (List ℕ)) → IsNoneOf first (others ++ name ∷ names) → first ≢ name
  apart [] none = none.0
  apart (other ∷ others) none = apart others none.1

follow_from : (before names : List (List ℕ)) → AreListNames names → AreDistinct (before ++ names) → length before + length names ≤ 32 → Follow before names
follow_from before [] each distinct room = tt
follow_from before (name ∷ names) each distinct room =
    let more : length (before ++ name ∷ []) ≡ length before + 1 = length-append before (name ∷ []) in (
      record { named = each.0.named; new = none_before before name names distinct; room = omega arith },
      follow_from (before ++ name ∷ []) names each.1 (subst AreDistinct (sym (append_assoc before (name ∷ []) names)) distinct) (omega arith),
    )

-- the names that a word spells are its parts
pub parts_are : (word : List ℕ) (names : List (List ℕ)) → AreNames word names → slice_split is_comma word ≡ names
parts_are word names are = ap (slice_split is_comma) are.spelled ∙ parts_joined names are.each are.some

-- and follow one another
pub parts_follow : (word : List ℕ) (names : List (List ℕ)) → AreNames word names → Follow [] (slice_split is_comma word)
parts_follow word names are =
    subst (Follow []) (sym (parts_are word names are)) (follow_from [] names are.each are.distinct (omega (arith, are.few)))
