-- Histories grow by events, each with its entry.
use Rattle.std.proofs.Common.{◌≡◌, ℕ, zero, suc, ◌+◌, ◌≤◌, cond, List, [], ◌∷◌, ◌++◌, take, Some, refl, sym, ap, subst, ◌∙◌, arith, append_assoc}
use Rattle.std.specs.Prelude.{slice_get}
use Rattle.std.proofs.lemmas.List.{append-nil}
use Rattle.std.proofs.lemmas.List.Concat.{flat_map-append}
use Rattle.std.proofs.lemmas.List.Sums.{sum_by-append}
use Rattle.tesla_fitting.specs.declared.config.Config.{Config}
use Rattle.tesla_receiver.specs.Entries.{Entry}
use Rattle.tesla_receiver.specs.History.{Event, event_of, entry_of, IsLegalAfter, IsLegal, arrival_in, arrivals_in, gives, given_in}
use Rattle.tesla_receiver.specs.Events.{after_events}
use Rattle.tesla_receiver.proofs.Standing.{entered_legal}

-- one event more adds its entry
pub after_one : (cfg : Config) (h : List Entry) (events : List Event) (event : Event) → after_events cfg h (events ++ event ∷ []) ≡ after_events cfg h events ++ entry_of cfg (after_events cfg h events) event ∷ []
after_one cfg h [] event = refl
after_one cfg h (e ∷ events) event = after_one cfg (h ++ entry_of cfg h e ∷ []) events event

-- the history before events is a prefix of that after them
pub after_grows : (cfg : Config) (h : List Entry) (events : List Event) → (more : List Entry) × (after_events cfg h events ≡ h ++ more)
after_grows cfg h [] = ([], sym (append-nil h))
after_grows cfg h (event ∷ events) =
    let next = after_grows cfg (h ++ entry_of cfg h event ∷ []) events in
    (entry_of cfg h event ∷ next.0, next.1 ∙ append_assoc h (entry_of cfg h event ∷ []) next.0)

-- the arrivals with one entry more
pub arrivals_more : (h : List Entry) (e : Entry) → arrivals_in (h ++ e ∷ []) ≡ arrivals_in h ++ arrival_in e
arrivals_more h e = flat_map-append arrival_in h (e ∷ []) ∙ ap (λ r. arrivals_in h ++ r) (append-nil (arrival_in e))

-- what was given stays given
pub given_rises : (h more : List Entry) → given_in h ≤ given_in (h ++ more)
given_rises h more = let both : given_in (h ++ more) ≡ given_in h + given_in more = sum_by-append (λ x. cond (gives x) 1 0) h more in omega arith

legal_after_prefix : (cfg : Config) (before h more : List Entry) → IsLegalAfter cfg before (h ++ more) → IsLegalAfter cfg before h
legal_after_prefix cfg before [] more l = tt
legal_after_prefix cfg before (e ∷ h) more l = (l.0, legal_after_prefix cfg (before ++ e ∷ []) h more l.1)

-- a prefix of a legal history is legal
pub legal_prefix : (cfg : Config) (h more : List Entry) → IsLegal cfg (h ++ more) → IsLegal cfg h
legal_prefix cfg h more l = legal_after_prefix cfg [] h more l

legal_after_at : (cfg : Config) (before h : List Entry) (n : ℕ) (e : Entry) → IsLegalAfter cfg before h → slice_get h n ≡ Some e → e ≡ entry_of cfg (before ++ take n h) (event_of e)
legal_after_at cfg before [] n e l at = absurd (cc)
legal_after_at cfg before (x ∷ h) zero e l at =
    let same : x ≡ e = cc in
    subst (λ (y : Entry). y ≡ entry_of cfg (before ++ []) (event_of y)) same (l.0 ∙ ap (λ b. entry_of cfg b (event_of x)) (sym (append-nil before)))
legal_after_at cfg before (x ∷ h) (suc n) e l at =
    legal_after_at cfg (before ++ x ∷ []) h n e l.1 at ∙ ap (λ b. entry_of cfg b (event_of e)) (append_assoc before (x ∷ []) (take n h))

-- each entry of a legal history is the one answer after those before it
pub legal_at : (cfg : Config) (h : List Entry) (n : ℕ) (e : Entry) → IsLegal cfg h → slice_get h n ≡ Some e → e ≡ entry_of cfg (take n h) (event_of e)
legal_at cfg h n e l at = legal_after_at cfg [] h n e l at

-- events lead from a legal history to a legal one
pub legal_after_events : (cfg : Config) (h : List Entry) (events : List Event) → IsLegal cfg h → IsLegal cfg (after_events cfg h events)
legal_after_events cfg h [] l = l
legal_after_events cfg h (event ∷ events) l = legal_after_events cfg (h ++ entry_of cfg h event ∷ []) events (entered_legal cfg h event l)
