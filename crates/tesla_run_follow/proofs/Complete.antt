-- A history of follow has all that is to be given once a take was answered that all is over.
use Rattle.std.proofs.Common.{◌≡◌, ◌∙◌, ℕ, suc, ◌<◌, ◌==◌, ltb, Bool, true, false, cond, List, [], ◌∷◌, ◌++◌, length, map, get_or, refl, sym, ap, subst, ⊎_elim, arith, append_assoc}
use Rattle.std.specs.List.{AllByRecursion, Contains, filter, fold, list_all, list_any}
use Rattle.std.proofs.lemmas.Bool.{and_parts, cases_Bool, eq-eqb, eqb-true, ltb-true}
use Rattle.std.proofs.lemmas.List.{append-nil}
use Rattle.std.proofs.lemmas.List.Elements.{filter-append}
use Rattle.std.proofs.lemmas.List.Folds.{list_all-append}
use Rattle.std.proofs.lemmas.List.Sums.{fold-append}
use Rattle.tesla_base.proofs.Lists.{cons_from_length, not_all_numbers}
use Rattle.tesla_fitting.specs.declared.config.Config.{Config}
use Rattle.tesla_follow.specs.declared.answers.FollowReply.{FollowReply}
use Rattle.tesla_follow.specs.declared.answers.FollowReply.TheVariants.{Released, Early, Empty, Over}
use Rattle.tesla_follow.specs.Counted.{waiting_over}
use Rattle.tesla_follow.specs.Followed.{FollowedEpoch, nothing_followed, oldest, open_epochs, takes_one}
use Rattle.tesla_follow.specs.History.{FollowArrival, FollowEntry, IsFollowed, IsFollowedAfter, after_event, entry_of, event_of, followed}
use Rattle.tesla_follow_station.specs.Yields.{follow_yield}
use Rattle.tesla_receiver.specs.History.{ends, has_end}
use Rattle.tesla_receiver.specs.declared.history.Entry.TheVariants.{Arrived, Taken, Ended}
use Rattle.tesla_shared.specs.Whole.{arrival_by, arrivals_by, is_of_workers, link_calls, pass_of, reply_by}
use Rattle.tesla_shared.specs.Yields as yields
use Rattle.tesla_shared.proofs.Whole.{MadeBy, arrival_elsewhere, end_elsewhere, made_by, no_end, replies_are}
use Rattle.tesla_shared.proofs.WholeLists.{flat_map-filter, given_at, last_alone, list_any-filter}
use Rattle.tesla_turn.specs.History.{HasCalls, entries}
use Rattle.tesla_run_follow.specs.Follow.{of_follower}
use Rattle.tesla_run_follow.proofs.Ends.{IsWithin, all_drop, history_within, open_some}
use Rattle.tesla_run_follow.proofs.Over.{AreNoArrivals, AreOver, IsAllOver, IsOver, none_waits, over_answered, over_still}
use Rattle.tesla_run_receive.specs.Receive.{AnswersOver}
use Rattle.tesla_run_receive.proofs.Histories.{Completes}

-- ---- the answer

-- an answer that yields none any more is Over
is_over : (reply : FollowReply) → follow_yield reply ≡ yields.Over → reply ≡ Over
is_over (Released epoch head payload next) is = absurd cc
is_over (Early epoch head payload) is = absurd cc
is_over Empty is = absurd cc
is_over Over is = refl

has_over : (answers : List FollowReply) → AnswersOver follow_yield answers → Contains answers Over
has_over answers it = subst (λ (reply : FollowReply). Contains answers reply) (is_over it.answer it.over) it.among

-- an entry of which Over is an answer of the releaser
over_at : (r : ℕ) (e : FollowEntry) → Contains (reply_by r e) Over → e ≡ Taken r Over
over_at r (Arrived a) has = absurd (omega (arith, has.1))
over_at r (Ended ingest) has = absurd (omega (arith, has.1))
over_at r (Taken releaser reply) has = of_own (releaser == r) refl has
  where
    of_own : (own : Bool) → (releaser == r) ≡ own → Contains (cond own (reply ∷ []) []) Over → ◌≡◌ {A = FollowEntry} (Taken releaser reply) (Taken r Over)
    of_own true e here =
        let first : here.0 ≡ 0 = omega (arith, here.1) in
        let same : reply ≡ Over = sym (ap (λ (k : ℕ). get_or (reply ∷ []) k Over) first) ∙ here.2 in
        λ i. Taken (eqb-true releaser r e i) (same i)
    of_own false e here = absurd (omega (arith, here.1))

-- a followed history answers a take after the entries before it
followed_here : (cfg : Config) (before prefix : List FollowEntry) (e : FollowEntry) (back : List FollowEntry) → IsFollowedAfter cfg before (prefix ++ e ∷ back) → e ≡ entry_of cfg (followed cfg (before ++ prefix)) (event_of e)
followed_here cfg before [] e back l = l.0 ∙ ap (λ (h : List FollowEntry). entry_of cfg (followed cfg h) (event_of e)) (sym (append-nil before))
followed_here cfg before (x ∷ prefix) e back l = followed_here cfg (before ++ x ∷ []) prefix e back l.1 ∙ ap (λ (h : List FollowEntry). entry_of cfg (followed cfg h) (event_of e)) (append_assoc before (x ∷ []) prefix)

-- ---- nothing arrives behind

no_arrivals : (n m : ℕ) (es : List FollowEntry) → list_all (is_of_workers n m) es ≡ true → ((k : ℕ) → k < n → arrivals_by k es ≡ []) → AreNoArrivals es
no_arrivals n m [] of none = tt
no_arrivals n m (Arrived a ∷ es) of none =
    let parts = and_parts (ltb a.ingest n) (list_all (is_of_workers n m) es) of in
    let here : a ∷ arrivals_by a.ingest es ≡ [] = ap (λ b. cond b (a ∷ []) [] ++ arrivals_by a.ingest es) (sym (eq-eqb a.ingest a.ingest refl)) ∙ none a.ingest (ltb-true a.ingest n parts.0) in
    absurd cc
no_arrivals n m (Taken releaser reply ∷ es) of none = no_arrivals n m es (and_parts (ltb releaser m) (list_all (is_of_workers n m) es) of).1 none
no_arrivals n m (Ended ingest ∷ es) of none = no_arrivals n m es (and_parts (ltb ingest n) (list_all (is_of_workers n m) es) of).1 none

module _ (links : List (List FollowArrival)) (sinks : List (List FollowReply)) (prefix rest : List FollowEntry) (made : MadeBy links sinks (prefix ++ rest)) where
  -- behind the end of its ingest a link made no call
  nothing_behind : (k : ℕ) → k < length links → has_end prefix k ≡ true → arrivals_by k rest ≡ []
  nothing_behind k low ended =
      let here : FollowEntry → Bool = λ e. pass_of (length links) e == suc k in
      let both : filter here prefix ++ filter here rest ≡ link_calls k (get_or links k []) = sym (filter-append here prefix rest) ∙ made.link k low in
      let some : list_any (ends k) (filter here prefix) ≡ true = list_any-filter here (ends k) (end_elsewhere (length links) k) prefix ∙ ended in
      let empty : filter here rest ≡ [] = last_alone (ends k) (filter here prefix) (filter here rest) (map Arrived (get_or links k [])) (Ended k) both (no_end FollowReply k (get_or links k [])) some in
      sym (flat_map-filter here (arrival_by k) (arrival_elsewhere (length links) k) rest) ∙ ap (arrivals_by k) empty

  none_behind : ((k : ℕ) → k < length links → has_end prefix k ≡ true) → AreNoArrivals rest
  none_behind ended =
      let of = and_parts (list_all (is_of_workers (length links) (length sinks)) prefix) (list_all (is_of_workers (length links) (length sinks)) rest)
      (sym (list_all-append (is_of_workers (length links) (length sinks)) prefix rest) ∙ made.workers) in
      no_arrivals (length links) (length sinks) rest of.1 (λ k low. nothing_behind k low (ended k low))

-- where all is over in the epochs that are open, each ingest has ended
ended_all : (cfg : Config) (prefix : List FollowEntry) → IsAllOver (followed cfg prefix) → (k : ℕ) → k < cfg.ingests → has_end prefix k ≡ true
ended_all cfg prefix over k low =
    let Has : ℕ → Type 0 = λ ingest. has_end prefix ingest ≡ true in
    let within = history_within cfg Has prefix (λ ingest has. has) in
    let epochs : List FollowedEpoch = open_epochs (followed cfg prefix) in
    let some = cons_from_length epochs (open_some cfg Has (followed cfg prefix) within) in
    let first : IsWithin cfg Has some.0 = (subst (λ (es : List FollowedEpoch). AllByRecursion (IsWithin cfg Has) es) some.2 (all_drop (IsWithin cfg Has) (oldest (followed cfg prefix)) (followed cfg prefix).epochs within.epochs)).0 in
    let own : IsOver some.0 = (subst AreOver some.2 over.over).0 in
    ⊎_elim
    (λ yes. first.ended k yes)
    (λ no. let clash : true ≡ false = sym own.ended ∙ not_all_numbers (has_end some.0.history) some.0.config.ingests k (omega (arith, low, first.ingests)) no in absurd cc)
    (cases_Bool (has_end some.0.history k))

-- ---- the whole

followed_on : (cfg : Config) (h more : List FollowEntry) → followed cfg (h ++ more) ≡ fold (λ made entry. after_event cfg made (event_of entry)) (followed cfg h) more
unfolding followed
followed_on cfg h more = fold-append (λ made entry. after_event cfg made (event_of entry)) (nothing_followed cfg) h more

complete : (cfg : Config) (links : List (List FollowArrival)) (sinks : List (List FollowReply)) (es : List FollowEntry) → MadeBy links sinks es → cfg.ingests ≡ length links → IsFollowed cfg es → (r : ℕ) → Contains (get_or sinks r []) Over → waiting_over (followed cfg es) ≡ 0
complete cfg links sinks es made ingests legal r has =
    let at = given_at (reply_by r) es Over (subst (λ (replies : List FollowReply). Contains replies Over) (sym (replies_are links sinks es made r)) has) in
    let over : at.at ≡ Taken r Over = over_at r at.at at.gives in
    let rest : List FollowEntry = Taken r Over ∷ at.back in
    let whole : es ≡ at.prefix ++ rest = at.whole ∙ ap (λ (e : FollowEntry). at.prefix ++ e ∷ at.back) over in
    let here : ◌≡◌ {A = FollowEntry} (Taken r Over) (Taken r (takes_one cfg (followed cfg at.prefix) r).reply) = followed_here cfg [] at.prefix (Taken r Over) at.back (subst (IsFollowed cfg) whole legal) in
    let reply : (takes_one cfg (followed cfg at.prefix) r).reply ≡ Over = cc in
    let all : IsAllOver (followed cfg at.prefix) = over_answered cfg (followed cfg at.prefix) r reply in
    let none : AreNoArrivals rest = none_behind links sinks at.prefix rest (subst (MadeBy links sinks) whole made) (λ k low. ended_all cfg at.prefix all k (omega (arith, low, ingests))) in
    ap (λ (h : List FollowEntry). waiting_over (followed cfg h)) whole ∙ ap waiting_over (followed_on cfg at.prefix rest) ∙ none_waits _ (over_still cfg rest (followed cfg at.prefix) none all)

pub follower_completes : Completes of_follower
follower_completes cfg history passes links sinks are calls legal ingests releaser over =
    complete cfg links sinks (entries history) (made_by history links sinks (subst (HasCalls history) are.passes_are calls) are.numbered) ingests legal releaser (has_over _ over)
