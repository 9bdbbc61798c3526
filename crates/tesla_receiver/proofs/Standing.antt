-- A receiver stands for one entry more.
use Rattle.std.proofs.Common.{◌≡◌, ℕ, zero, suc, ◌+◌, true, false, cond, ◌||◌, List, [], ◌∷◌, ◌++◌, map, set, replicate, refl, sym, ap, ◌∙◌, arith, append_assoc, ◌==◌, add-zero}
use Rattle.std.specs.List.{range_with_len}
use Rattle.std.proofs.Math.Bool.{or-false}
use Rattle.std.proofs.lemmas.List.{append-nil}
use Rattle.std.proofs.lemmas.List.Folds.{list_any-append}
use Rattle.std.proofs.lemmas.List.Sums.{sum_by_push}
use Rattle.tesla_base.proofs.Lists.{map_same, map_number_set}
use Rattle.tesla_fitting.specs.declared.config.Config.{Config}
use Rattle.tesla_fitting.specs.declared.verdict.Verdict.{Verdict}
use Rattle.tesla_state.specs.declared.replies.Reply.{Reply}
use Rattle.tesla_receiver.specs.Entries.{Entry}
use Rattle.tesla_receiver.specs.declared.history.Entry.TheVariants.{Ended}
use Rattle.tesla_receiver.specs.History.{Event, Arrives, Takes, Ends, event_of, entry_of, IsLegalAfter, IsLegal, gives, given_in, ends, has_end}

legal_after_more : (cfg : Config) (before h : List Entry) (e : Entry) → IsLegalAfter cfg before h → e ≡ entry_of cfg (before ++ h) (event_of e) → IsLegalAfter cfg before (h ++ e ∷ [])
legal_after_more cfg before [] e l answered = (answered ∙ ap (λ b. entry_of cfg b (event_of e)) (append-nil before), tt)
legal_after_more cfg before (x ∷ h) e l answered =
    (l.0, legal_after_more cfg (before ++ x ∷ []) h e l.1 (answered ∙ ap (λ b. entry_of cfg b (event_of e)) (sym (append_assoc before (x ∷ []) h))))

-- a legal history with the one answer to one event more
pub legal_more : (cfg : Config) (h : List Entry) (e : Entry) → IsLegal cfg h → e ≡ entry_of cfg h (event_of e) → IsLegal cfg (h ++ e ∷ [])
legal_more cfg h e l answered = legal_after_more cfg [] h e l answered

-- the entry of an event is of that event
pub event_of-entry : (cfg : Config) (h : List Entry) (event : Event) → event_of (entry_of cfg h event) ≡ event
event_of-entry cfg h (Arrives ingest reading bytes) = refl
event_of-entry cfg h (Takes releaser) = refl
event_of-entry cfg h (Ends ingest) = refl

pub entered_legal : (cfg : Config) (h : List Entry) (event : Event) → IsLegal cfg h → IsLegal cfg (h ++ entry_of cfg h event ∷ [])
entered_legal cfg h event l = legal_more cfg h (entry_of cfg h event) l (ap (entry_of cfg h) (sym (event_of-entry cfg h event)))

pub has_end_more : (h : List Entry) (e : Entry) (k : ℕ) → has_end (h ++ e ∷ []) k ≡ (has_end h k || ends k e)
has_end_more h e k = list_any-append (ends k) h (e ∷ []) ∙ ap (λ b. has_end h k || b) (or-false (ends k e))

-- the ends stay with an entry that is none
pub ended_same : (h : List Entry) (e : Entry) (n : ℕ) → ((k : ℕ) → ends k e ≡ false) → map (has_end h) (range_with_len 0 n) ≡ map (has_end (h ++ e ∷ [])) (range_with_len 0 n)
ended_same h e n none =
    map_same (has_end h) (has_end (h ++ e ∷ [])) (range_with_len 0 n) (λ k. sym (has_end_more h e k ∙ ap (λ b. has_end h k || b) (none k) ∙ or-false (has_end h k)))

-- the ends with one more
pub ended_more : (h : List Entry) (ingest n : ℕ) → set (map (has_end h) (range_with_len 0 n)) ingest true ≡ map (has_end (h ++ Ended ingest ∷ [])) (range_with_len 0 n)
ended_more h ingest n =
    sym (map_number_set (has_end h) 0 ingest n)
    ∙ map_same (λ k. has_end h k || (0 + ingest == k)) (has_end (h ++ Ended ingest ∷ [])) (range_with_len 0 n) (λ k. ap (λ j. has_end h k || (j == k)) (omega arith) ∙ sym (has_end_more h (Ended ingest) k))

-- no ingest has ended in the empty history
pub none_ended : (a n : ℕ) → replicate n false ≡ map (has_end {V = Verdict} {R = Reply} []) (range_with_len a n)
none_ended a zero = refl
none_ended a (suc n) = ap (λ ys. false ∷ ys) (none_ended (a + 1) n)

-- an entry that gives nothing
pub given_same : (h : List Entry) (e : Entry) → gives e ≡ false → given_in h ≡ given_in (h ++ e ∷ [])
given_same h e none = sym (sum_by_push (λ x. cond (gives x) 1 0) h e ∙ ap (λ b. given_in h + cond b 1 0) none ∙ add-zero (given_in h))
