-- Where no epoch was closed, a followed history is that where every epoch stays open, entry by entry.
use Rattle.std.proofs.Common.{◌≡◌, ◌≤◌, true, List, [], ◌∷◌, ◌++◌, append_assoc, length, map, refl, sym, ap, subst, ◌∙◌, arith}
use Rattle.std.specs.List.{AllByRecursion, fold}
use Rattle.std.proofs.lemmas.List.{append-nil, map_push}
use Rattle.tesla_fitting.specs.declared.config.Config.{Config}
use Rattle.tesla_receiver.specs.History.{Event, Arrives, Ends, Takes}
use Rattle.tesla_rollover.specs.Epochs.{roll_entry_of}
use Rattle.tesla_rollover.specs.Events.{roll_after_events}
use Rattle.tesla_rollover.specs.History.{RollEntry, history_at}
use Rattle.tesla_follow.specs.Followed.{Followed, nothing_followed}
use Rattle.tesla_follow.specs.History.{FollowEntry, IsFollowedAfter, after_event, entry_of, event_of, followed}
use Rattle.tesla_follow.proofs.Histories.{followed_more, followed_none}
use Rattle.tesla_follow.proofs.Places.{entries_move, event_moves}
use Rattle.tesla_laws.specs.Rolled.{FollowedIsRolled, IsShared, Told, told_followed, told_rolled}
use Rattle.tesla_laws.proofs.InStep.{Alike, Steps, arrives, count_grows, ends_one}
use Rattle.tesla_laws.proofs.Takes.{takes}

-- ---- one event

one_event : (cfg : Config) (it : Followed) (r : List RollEntry) (event : Event) → Alike cfg it r → length it.epochs ≤ 3 → IsShared (entry_of cfg it event) → Steps cfg r (after_event cfg it event) (entry_of cfg it event) event
one_event cfg it r (Arrives ingest reading bytes) al few like = arrives cfg it r al ingest reading bytes (omega (arith, few))
one_event cfg it r (Takes releaser) al few like = takes cfg it r al releaser few like
one_event cfg it r (Ends ingest) al few like = ends_one cfg it r al ingest (omega (arith, few))

-- ---- a whole history

abbrev stepped : Config → Followed → FollowEntry → Followed
stepped cfg made entry = after_event cfg made (event_of entry)

-- what further entries come to, behind those before
record Goes (cfg : Config) (made : Followed) (r now : List RollEntry) (entries : List FollowEntry) : Type 0 where
  alike : Alike cfg made now
  told : map told_rolled now ≡ map told_rolled r ++ map told_followed entries

all_events : (cfg : Config) (entries before : List FollowEntry) (it : Followed) (r : List RollEntry) → it ≡ followed cfg before → IsFollowedAfter cfg before entries → Alike cfg it r
    → length (fold (stepped cfg) it entries).epochs ≤ 3 → AllByRecursion IsShared entries → Goes cfg (fold (stepped cfg) it entries) r (roll_after_events cfg r (map event_of entries)) entries
all_events cfg [] before it r made legal al few like = record { alike = al; told = sym (append-nil (map told_rolled r)) }
all_events cfg (entry ∷ entries) before it r made legal al few like =
    let event : Event = event_of entry in
    let next : Followed = after_event cfg it event in
    let grows = count_grows next.epochs (fold (stepped cfg) next entries).epochs (entries_move cfg entries next) in
    let grew = count_grows it.epochs next.epochs (event_moves cfg it event) in
    let is : entry ≡ entry_of cfg it event = subst (λ (x : Followed). entry ≡ entry_of cfg x event) (sym made) legal.0 in
    let step : Steps cfg r next (entry_of cfg it event) event = one_event cfg it r event al (omega (arith, few, grows, grew)) (subst IsShared is like.0) in
    let one : RollEntry = roll_entry_of cfg r true event in
    let rest = all_events cfg entries (before ++ entry ∷ []) next (r ++ one ∷ []) (ap (λ (x : Followed). after_event cfg x event) made ∙ sym (followed_more cfg before entry)) legal.1 step.alike few like.1 in
    let same : told_rolled one ≡ told_followed entry = sym (ap told_followed is ∙ step.told) in
    record {
      alike = rest.alike;
      told = rest.told
          ∙ ap (λ (xs : List Told). xs ++ map told_followed entries) (map_push told_rolled r one ∙ ap (λ (x : Told). map told_rolled r ++ x ∷ []) same)
          ∙ append_assoc (map told_rolled r) (told_followed entry ∷ []) (map told_followed entries);
    }

nothing_alike : (cfg : Config) → Alike cfg (nothing_followed cfg) []
unfolding history_at
nothing_alike cfg = record { configs = refl; histories = refl; ends = λ ingest. refl; turn = refl; legal = tt }

-- the law
pub followed_is_rolled : FollowedIsRolled
unfolding followed
followed_is_rolled cfg history legal few like =
    let all = all_events cfg history [] (nothing_followed cfg) [] (sym (followed_none cfg)) legal (nothing_alike cfg) few like in
    record { legal = all.alike.legal; told = sym all.told; configs = all.alike.configs; histories = all.alike.histories }
