-- A receiver that is played events, and how many arrivals of them were early.
use Rattle.std.proofs.Common.{◌≡◌, ◌∙◌, ◌+◌, ◌≤◌, ◌<◌, ◌^◌, ℕ, Bool, true, false, cond, List, [], ◌∷◌, ◌++◌, length, length-append, sym, ap, subst, arith}
use Rattle.tesla_fitting.specs.declared.config.Config.{Config}
use Rattle.tesla_receiver.specs.Entries.{Entry}
use Rattle.tesla_receiver.specs.History.{Event, entry_of}
use Rattle.tesla_receiver.specs.Events.{after_events}
use Rattle.tesla_receiver.proofs.EachAfter.{each_after_more}
use Rattle.tesla_receiver.proofs.Events.{after_one}
use Rattle.tesla_early.specs.Stands.{EarlyState, EarlyStands}
use Rattle.tesla_early.specs.Counted.{early_arrivals, early_count, early_in}
use Rattle.tesla_run_early.specs.Playing.{StandsFor, promises}

-- one entry more
count_more : (most : ℕ) (h : List Entry) (e : Entry) → early_count most (h ++ e ∷ []) ≡ early_count most h + length (early_in most h e)
count_more most h e = ap length (each_after_more (early_in most) h e) ∙ length-append (early_arrivals most h) (early_in most h e)

one_more : (accepted : ℕ) (early : Bool) → accepted + cond early 1 0 ≤ accepted + 1
one_more accepted true = omega arith
one_more accepted false = omega arith

-- it stands for the history with one event more, of which so many early arrivals count
pub stands_on : (cfg other : Config) (es : List Event) (e event : Event) (before state : EarlyState) (accepted now : ℕ) → other ≡ cfg → event ≡ e → state.promises.most ≡ before.promises.most → state.receiver.calls ≡ before.receiver.calls + 1
    → now ≡ accepted + length (early_in promises (after_events cfg [] es) (entry_of cfg (after_events cfg [] es) e)) → now ≤ accepted + 1 → StandsFor before accepted (after_events cfg [] es)
    → (EarlyStands before (after_events cfg [] es) → EarlyStands state (after_events cfg [] es ++ entry_of cfg (after_events cfg [] es) e ∷ [])) → StandsFor state now (after_events other [] (es ++ event ∷ []))
stands_on cfg other es e event before state accepted now same is most calls count few stands on =
    let h : List Entry = after_events cfg [] es in
    let entry : Entry = entry_of cfg h e in
    let counted : now ≡ early_count promises (h ++ entry ∷ []) = count ∙ ap (λ (n : ℕ). n + length (early_in promises h entry)) stands.counted ∙ sym (count_more promises h entry) in
    let one : StandsFor state now (h ++ entry ∷ []) = record { stands = on stands.stands; most = most ∙ stands.most; counted = counted; few = omega (arith, few, stands.few, calls) } in
    subst (λ (history : List Entry). StandsFor state now history) (sym (after_one cfg [] es e) ∙ ap (λ c. after_events c [] (es ++ e ∷ [])) (sym same) ∙ ap (λ x. after_events other [] (es ++ x ∷ [])) (sym is)) one

-- what is counted of an arrival, where that is far below the greatest number
pub counts_on : (most : ℕ) (h : List Entry) (e : Entry) (accepted now calls : ℕ) (early : Bool) → most ≡ promises → accepted ≤ calls → calls < 2 ^ 56 → (accepted < 2 ^ 63 → now ≡ accepted + cond early 1 0) → length (early_in most h e) ≡ cond early 1 0 → (now ≡ accepted + length (early_in promises h e)) × (now ≤ accepted + 1)
counts_on most h e accepted now calls early is few below sum one =
    let low : accepted < 2 ^ 63 = omega (arith, few, below) in
    let this : length (early_in promises h e) ≡ cond early 1 0 = subst (λ (m : ℕ). length (early_in m h e) ≡ cond early 1 0) is one in
    let all : now ≡ accepted + cond early 1 0 = sum low in
    (all ∙ ap (λ (n : ℕ). accepted + n) (sym this), subst (λ (n : ℕ). n ≤ accepted + 1) (sym all) (one_more accepted early))
