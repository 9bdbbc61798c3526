-- Texts that lie one behind the other.
use Rattle.std.proofs.Common.{◌≡◌, ◌∙◌, ◌≤◌, ℕ, zero, suc, ◌+◌, ◌-◌, ◌*◌, List, [], ◌∷◌, ◌++◌, length, take, drop, flat_map, refl, sym, ap, subst, length-append, append_assoc, take-append-drop, arith}
use Rattle.std.specs.List.{All, sum}
use Rattle.std.proofs.lemmas.List.{length-drop, drop-append-le, drop-drop, drop_all, length_push, take-append-le, take_all}
use Rattle.std.proofs.lemmas.List.Sums.{sum_by-cons, sum_by_push, sum_by-take-drop, sum_by-le}
use Rattle.std.proofs.lemmas.List.Elements.{All-drop, All-push}
use Rattle.circular_buffer.specs.Buffer.{Buffer, buffer, keep_last}
use Rattle.tesla_recorder.specs.Recorded.{HoldsTexts, Tail, texts_in, with_text}

-- there are as many texts as lengths
pub length_texts : (sizes bytes : List ℕ) → length (texts_in sizes bytes) ≡ length sizes
length_texts [] bytes = refl
length_texts (size ∷ sizes) bytes = ap suc (length_texts sizes (drop size bytes))

-- bytes that hold texts and nothing else are the texts, one behind the other
pub all_texts : (sizes bytes : List ℕ) → sum sizes ≡ length bytes → flat_map (λ text. text) (texts_in sizes bytes) ≡ bytes
all_texts [] bytes whole = sym (drop_all 0 bytes (omega (arith, whole)))
all_texts (size ∷ sizes) bytes whole =
    ap (λ rest. take size bytes ++ rest) (all_texts sizes (drop size bytes) (omega (arith, whole, sum_by-cons (λ x. x) size sizes, length-drop size bytes)))
    ∙ take-append-drop size bytes

-- the oldest texts are those of the first lengths
pub texts_left : (count : ℕ) (sizes bytes : List ℕ) → texts_in (drop count sizes) (drop (sum (take count sizes)) bytes) ≡ drop count (texts_in sizes bytes)
texts_left zero sizes bytes = refl
texts_left (suc count) [] bytes = refl
texts_left (suc count) (size ∷ sizes) bytes =
    ap (λ n. texts_in (drop count sizes) (drop n bytes)) (sum_by-cons (λ x. x) size (take count sizes))
    ∙ ap (λ rest. texts_in (drop count sizes) rest) (sym (drop-drop (sum (take count sizes)) size bytes))
    ∙ texts_left count sizes (drop size bytes)

-- a text behind them
pub texts_more : (sizes bytes text : List ℕ) → sum sizes ≡ length bytes → texts_in (sizes ++ length text ∷ []) (bytes ++ text) ≡ texts_in sizes bytes ++ text ∷ []
texts_more [] bytes text whole =
    let none : bytes ≡ [] = drop_all 0 bytes (omega (arith, whole)) in
    ap (λ prefix. take (length text) (prefix ++ text) ∷ []) none
    ∙ ap (λ t. t ∷ []) (take_all (length text) text (omega arith))
texts_more (size ∷ sizes) bytes text whole =
    let within : size ≤ length bytes = omega (arith, whole, sum_by-cons (λ x. x) size sizes) in
    ap (λ first. first ∷ texts_in (sizes ++ length text ∷ []) (drop size (bytes ++ text))) (take-append-le size bytes text within)
    ∙ ap (λ rest. take size bytes ∷ texts_in (sizes ++ length text ∷ []) rest) (drop-append-le size bytes text within)
    ∙ ap (λ rest. take size bytes ∷ rest) (texts_more sizes (drop size bytes) text (omega (arith, whole, sum_by-cons (λ x. x) size sizes, length-drop size bytes)))

-- a text was put behind those that are left, for which there is room
pub with_more : (sizes bytes text : List ℕ) (keep : ℕ) → 1 ≤ keep → length sizes ≤ keep → sum sizes ≡ length bytes → texts_in (drop (length sizes + 1 - keep) sizes ++ length text ∷ []) (drop (sum (take (length sizes + 1 - keep) sizes)) bytes ++ text) ≡ keep_last keep (texts_in sizes bytes ++ text ∷ [])
with_more sizes bytes text keep some few whole =
    let gone = length sizes + 1 - keep in
    let split = sum_by-take-drop (λ x. x) sizes gone in
    let number : gone ≡ length (texts_in sizes bytes ++ text ∷ []) - keep = omega (arith, length_push (texts_in sizes bytes) text, length_texts sizes bytes) in
    texts_more (drop gone sizes) (drop (sum (take gone sizes)) bytes) text (omega (arith, whole, split, length-drop (sum (take gone sizes)) bytes))
    ∙ ap (λ texts. texts ++ text ∷ []) (texts_left gone sizes bytes)
    ∙ sym (drop-append-le gone (texts_in sizes bytes) (text ∷ []) (omega (arith, length_texts sizes bytes, some)))
    ∙ ap (λ n. drop n (texts_in sizes bytes ++ text ∷ [])) number

-- what fits is kept whole
kept_whole : (room : ℕ) (items : List ℕ) → length items ≤ room → keep_last room items ≡ items
kept_whole room items few = let none : length items - room ≡ 0 = omega (arith, few) in ap (λ n. drop n items) none

-- three parts were put behind what is left, and there was room
pub three_more : (before first second third : Buffer ℕ) (prefix body back : List ℕ) → length before.items + (length prefix + length body + length back) ≤ before.capacity → first ≡ buffer (keep_last before.capacity (before.items ++ prefix)) before.capacity → second ≡ buffer (keep_last first.capacity (first.items ++ body)) first.capacity → third ≡ buffer (keep_last second.capacity (second.items ++ back)) second.capacity → third ≡ buffer (before.items ++ (prefix ++ body ++ back)) before.capacity
three_more before first second third prefix body back few first_is second_is third_is =
    let a : first ≡ buffer (before.items ++ prefix) before.capacity = first_is ∙ ap (λ xs. buffer xs before.capacity) (kept_whole before.capacity (before.items ++ prefix) (omega (arith, few, length-append before.items prefix))) in
    let b : second ≡ buffer ((before.items ++ prefix) ++ body) before.capacity =
    second_is ∙ ap (λ f. buffer (keep_last f.capacity (f.items ++ body)) f.capacity) a
    ∙ ap (λ xs. buffer xs before.capacity) (kept_whole before.capacity ((before.items ++ prefix) ++ body) (omega (arith, few, length-append before.items prefix, length-append (before.items ++ prefix) body))) in
    third_is ∙ ap (λ f. buffer (keep_last f.capacity (f.items ++ back)) f.capacity) b
    ∙ ap (λ xs. buffer xs before.capacity) (kept_whole before.capacity (((before.items ++ prefix) ++ body) ++ back) (omega (arith, few, length-append before.items prefix, length-append (before.items ++ prefix) body, length-append ((before.items ++ prefix) ++ body) back)))
    ∙ ap (λ xs. buffer xs before.capacity) (ap (λ xs. xs ++ back) (append_assoc before.items prefix body) ∙ append_assoc before.items (prefix ++ body) back)

-- what is held holds one text more
pub holds_more : (bytes lengths left sizes now : Buffer ℕ) (text : List ℕ) → HoldsTexts bytes lengths → length text ≤ 2070 → sizes ≡ buffer (drop (length lengths.items + 1 - lengths.capacity) lengths.items ++ length text ∷ []) lengths.capacity → left ≡ buffer (drop (sum (take (length lengths.items + 1 - lengths.capacity) lengths.items)) bytes.items) bytes.capacity → now ≡ buffer (left.items ++ text) left.capacity → HoldsTexts now sizes
holds_more bytes lengths left sizes now text held short sizes_is left_is now_is =
    let gone = length lengths.items + 1 - lengths.capacity in
    let all : All (λ size. size ≤ 2070) sizes.items = subst (λ b. All (λ size. size ≤ 2070) b.items) (sym sizes_is) (All-push (λ size. size ≤ 2070) (drop gone lengths.items) (length text) (All-drop (λ size. size ≤ 2070) gone lengths.items held.short) short) in
    let sizes_are : sizes.items ≡ drop gone lengths.items ++ length text ∷ [] = ap (λ b. b.items) sizes_is in
    let left_are : left.items ≡ drop (sum (take gone lengths.items)) bytes.items = ap (λ b. b.items) left_is in
    let now_are : now.items ≡ left.items ++ text = ap (λ b. b.items) now_is in
    let count_is : length sizes.items ≡ (length lengths.items - gone) + 1 = ap length sizes_are ∙ length_push (drop gone lengths.items) (length text) ∙ ap (λ n. n + 1) (length-drop gone lengths.items) in
    let sum_is : sum sizes.items ≡ sum (drop gone lengths.items) + length text = ap sum sizes_are ∙ sum_by_push (λ x. x) (drop gone lengths.items) (length text) in
    let size_is : length now.items ≡ (length bytes.items - sum (take gone lengths.items)) + length text = ap length now_are ∙ length-append left.items text ∙ ap (λ n. n + length text) (ap length left_are ∙ length-drop (sum (take gone lengths.items)) bytes.items) in
    let same : sizes.capacity ≡ lengths.capacity = ap (λ b. b.capacity) sizes_is in
    record {
      some = omega (arith, held.some, same);
      few = omega (arith, held.few, same);
      count = omega (arith, held.some, held.count, count_is, same);
      room = ap (λ b. b.capacity) now_is ∙ ap (λ b. b.capacity) left_is ∙ held.room ∙ ap (λ n. n * 2070) (sym same);
      short = all;
      whole = omega (arith, sum_is, size_is, held.whole, sum_by-take-drop (λ x. x) lengths.items gone);
    }

-- what is left has room for one text more
pub has_room : (bytes lengths left : Buffer ℕ) (size : ℕ) → HoldsTexts bytes lengths → size ≤ 2070 → left ≡ buffer (drop (sum (take (length lengths.items + 1 - lengths.capacity) lengths.items)) bytes.items) bytes.capacity → length left.items + size ≤ left.capacity
has_room bytes lengths left size held short left_is =
    let gone = length lengths.items + 1 - lengths.capacity in
    let those = drop gone lengths.items in
    let left_are : length left.items ≡ length bytes.items - sum (take gone lengths.items) = ap (λ b. length b.items) left_is ∙ length-drop (sum (take gone lengths.items)) bytes.items in
    let least : length left.items ≤ length those * 2070 = omega (arith, left_are, held.whole, sum_by-take-drop (λ x. x) lengths.items gone, sum_by-le (λ x. x) 2070 those (All-drop (λ size. size ≤ 2070) gone lengths.items held.short)) in
    let count : length those + 1 ≤ lengths.capacity = omega (arith, held.some, held.count, length-drop gone lengths.items) in
    let capacity : left.capacity ≡ lengths.capacity * 2070 = ap (λ b. b.capacity) left_is ∙ held.room in
    omega (arith, least, count, capacity, short)

-- the tail that bytes and lengths are
abbrev tail_in : Buffer ℕ → Buffer ℕ → Tail
tail_in bytes lengths = record { keep = lengths.capacity; texts = texts_in lengths.items bytes.items; reserved = bytes.capacity + lengths.capacity }

-- a text in three parts was put behind what is left
pub puts_more : (bytes lengths left sizes first second third : Buffer ℕ) (prefix body back : List ℕ) (size : ℕ) → HoldsTexts bytes lengths → length prefix + length body + length back ≤ 2070 → size ≡ length prefix + length body + length back → sizes ≡ buffer (drop (length lengths.items + 1 - lengths.capacity) lengths.items ++ size ∷ []) lengths.capacity → left ≡ buffer (drop (sum (take (length lengths.items + 1 - lengths.capacity) lengths.items)) bytes.items) bytes.capacity → first ≡ buffer (keep_last left.capacity (left.items ++ prefix)) left.capacity → second ≡ buffer (keep_last first.capacity (first.items ++ body)) first.capacity → third ≡ buffer (keep_last second.capacity (second.items ++ back)) second.capacity → HoldsTexts third sizes × (tail_in third sizes ≡ with_text (tail_in bytes lengths) (prefix ++ body ++ back))
puts_more bytes lengths left sizes first second third prefix body back size held few size_is sizes_is left_is first_is second_is third_is =
    let text : List ℕ = prefix ++ body ++ back in
    let gone = length lengths.items + 1 - lengths.capacity in
    let whole : size ≡ length text = omega (arith, size_is, length-append (prefix ++ body) back, length-append prefix body) in
    let short : length text ≤ 2070 = omega (arith, few, size_is, whole) in
    let sized : sizes ≡ buffer (drop gone lengths.items ++ length text ∷ []) lengths.capacity = sizes_is ∙ ap (λ n. buffer (drop gone lengths.items ++ n ∷ []) lengths.capacity) whole in
    let now : third ≡ buffer (left.items ++ text) left.capacity = three_more left first second third prefix body back (omega (arith, has_room bytes lengths left (length text) held short left_is, size_is, whole)) first_is second_is third_is in
    let spelled : third ≡ buffer (drop (sum (take gone lengths.items)) bytes.items ++ text) bytes.capacity = now ∙ ap (λ b. buffer (b.items ++ text) b.capacity) left_is in (
      holds_more bytes lengths left sizes third text held short sized left_is now,
      ap (λ b. tail_in b sizes) spelled ∙ ap (λ s. tail_in (buffer (drop (sum (take gone lengths.items)) bytes.items ++ text) bytes.capacity) s) sized
          ∙ ap (λ texts. record { keep = lengths.capacity; texts = texts; reserved = bytes.capacity + lengths.capacity }) (with_more lengths.items bytes.items text lengths.capacity held.some held.count held.whole),
    )
