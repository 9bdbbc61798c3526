-- The last entries of a history with one entry more.
use Rattle.std.proofs.Common.{◌≡◌, ℕ, ◌-◌, ◌≤◌, List, [], ◌∷◌, ◌++◌, length, drop, map, flat_map, refl, sym, ap, subst, ◌∙◌, length-append, arith}
use Rattle.std.proofs.lemmas.List.{drop-append-le, drop-drop, drop-map, length-drop, length-map, map_push}
use Rattle.circular_buffer.specs.Buffer.{keep_last}
use Rattle.tesla_receiver.specs.Entries.{Entry}
use Rattle.tesla_receiver.specs.declared.history.Entry.TheVariants.{Taken}
use Rattle.tesla_state.specs.Replies.{KeepsBehind}
use Rattle.tesla_state.specs.declared.replies.Reply.{Reply}
use Rattle.tesla_state.specs.declared.replies.Take.{Take}
use Rattle.tesla_state.specs.declared.replies.Take.TheVariants.{Given, Empty, Over}
use Rattle.tesla_trace.specs.Entries.{FitsReply}
use Rattle.tesla_trace.specs.Trace.{entry_text}
use Rattle.tesla_recorder.specs.Recorded.{RecordedState, RecordedStands, Tail, last_entries, with_text}

-- they are the last ones of those kept and the new one
last_more : (keep : ℕ) (history : List Entry) (entry : Entry) → last_entries keep (last_entries keep history ++ entry ∷ []) ≡ last_entries keep (history ++ entry ∷ [])
last_more keep history entry =
    let prefix : last_entries keep history ++ entry ∷ [] ≡ drop (length history - keep) (history ++ entry ∷ []) =
    sym (drop-append-le (length history - keep) history (entry ∷ []) (omega arith)) in
    ap (λ (es : List Entry). last_entries keep es) prefix
    ∙ drop-drop (length (drop (length history - keep) (history ++ entry ∷ [])) - keep) (length history - keep) (history ++ entry ∷ [])
    ∙ ap (λ (n : ℕ). drop n (history ++ entry ∷ [])) (omega (arith, length-drop (length history - keep) (history ++ entry ∷ []), length-append history (entry ∷ [])))

-- and so are their texts
texts_more : (keep : ℕ) (texts : List (List ℕ)) (history : List Entry) (entry : Entry) → texts ≡ map entry_text (last_entries keep history) → keep_last keep (texts ++ entry_text entry ∷ []) ≡ map entry_text (last_entries keep (history ++ entry ∷ []))
texts_more keep texts history entry same =
    let kept = last_entries keep history ++ entry ∷ [] in
    let all : texts ++ entry_text entry ∷ [] ≡ map entry_text kept = ap (λ ts. ts ++ entry_text entry ∷ []) same ∙ sym (map_push entry_text (last_entries keep history) entry) in
    ap (λ ts. keep_last keep ts) all
    ∙ ap (λ n. drop (n - keep) (map entry_text kept)) (length-map kept entry_text)
    ∙ drop-map entry_text (length kept - keep) kept
    ∙ ap (λ es. map entry_text es) (last_more keep history entry)

-- a station that stands for a history with one entry more, whose text was put behind those kept
pub stands_more : {V : Type 0} (stands : V → List Entry → Type 0) (state : RecordedState V) (before after : V) (tail now : Tail) (history : List Entry) (entry : Entry)
    → record { station = before; keep = tail.keep; texts = tail.texts; reserved = tail.reserved } ≡ state → RecordedStands stands state history
    → (stands before history → stands after (history ++ entry ∷ [])) → now ≡ with_text tail (entry_text entry)
    → RecordedStands stands (record { station = after; keep = now.keep; texts = now.texts; reserved = now.reserved }) (history ++ entry ∷ [])
stands_more stands state before after tail now history entry same stood stands_now put =
    let old = subst (λ s. RecordedStands stands s history) (sym same) stood in
    subst (λ (t : Tail). RecordedStands stands (record { station = after; keep = t.keep; texts = t.texts; reserved = t.reserved }) (history ++ entry ∷ [])) (sym put)
    (record { stood = stands_now old.stood; last = texts_more tail.keep tail.texts history entry old.last; room = old.room })

-- a take whose answer is shown so
pub stands_shown : {V : Type 0} (stands : V → List Entry → Type 0) (state : RecordedState V) (before after : V) (tail now : Tail) (history : List Entry) (releaser : ℕ) (answer shown : Reply) → shown ≡ answer
    → record { station = before; keep = tail.keep; texts = tail.texts; reserved = tail.reserved } ≡ state → RecordedStands stands state history
    → (stands before history → stands after (history ++ Taken releaser shown ∷ [])) → now ≡ with_text tail (entry_text (Taken releaser answer))
    → RecordedStands stands (record { station = after; keep = now.keep; texts = now.texts; reserved = now.reserved }) (history ++ Taken releaser shown ∷ [])
stands_shown stands state before after tail now history releaser answer shown is same stood stands_now put =
    stands_more stands state before after tail now history (Taken releaser shown) same stood stands_now (put ∙ ap (λ (reply : Reply). with_text tail (entry_text (Taken releaser reply))) (sym is))

-- a packet that was given fits its buffer
pub fits_kept : (answer : Take) (old new : List ℕ) → KeepsBehind answer old new → 1200 ≤ length new → FitsReply answer new
fits_kept (Given head) old new keeps size = (let few = keeps.0 in omega (arith, few, size), keeps.0)
fits_kept Empty old new keeps size = tt
fits_kept Over old new keeps size = tt

-- the texts of entries, one behind the other
pub all_spelled : (entries : List Entry) → flat_map (λ text. text) (map entry_text entries) ≡ flat_map entry_text entries
all_spelled [] = refl
all_spelled (entry ∷ entries) = ap (λ rest. entry_text entry ++ rest) (all_spelled entries)
