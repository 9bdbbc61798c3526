-- How a feed ends, from what it answers.
use Rattle.std.proofs.Common.{◌≡◌, ◌⊎◌, inl, inr, ℕ, ◌≤◌, nat_lt, ◌||◌, Bool, true, false, Option, Some, None, IfSome, List, [], ◌∷◌, length, refl, sym, ap, arith}
use Rattle.std.proofs.lemmas.Bool.{or_parts}
use Rattle.std.specs.List.{list_all, list_any}
use Rattle.tesla_desk.specs.Faults.{HasCause}
use Rattle.tesla_desk.specs.Live.{remainder_of}
use Rattle.tesla_desk.specs.declared.link.Letter.{Letter}
use Rattle.tesla_feed.specs.Fed.{Event}
use Rattle.tesla_feed.specs.Feed.{has_failed}
use Rattle.tesla_feeds.specs.Fed.{Fed, lasting}
use Rattle.tesla_feeds.specs.Later.{AreLost}
use Rattle.tesla_feeds.specs.Notes.{all_counts}
use Rattle.tesla_feeds.specs.Waits.{are_told}
use Rattle.tesla_feeds.specs.declared.events.FeedsCounts.{FeedsCounts}
use Rattle.tesla_front.specs.OutcomeView.{OutcomeView, Usage, Done, Failed, Refused}
use Rattle.tesla_front.specs.declared.fault.Fault.{Fault}
use Rattle.tesla_front.specs.declared.fault.Fault.TheVariants as faults
use Rattle.tesla_relay.proofs.Links.{broken_left, ended_left}
use Rattle.tesla_run_feed.specs.Feeding.{AreLostOf, EndsAs, IsHeardUnless, IsOneLacking, IsToldUnless, IsUnbroken, LackLater, LackSenders, LacksFirst}
use Rattle.tesla_run_feed.specs.Lines.{lines_of, outcome_by, outcome_written}
use Rattle.tesla_run_feed.specs.Listing.{all_times, are_several}
use Rattle.tesla_run_send.proofs.Sender.{no_sender_fault}
use Rattle.tesla_sender.specs.Made.{Stream}

-- ---- streams without senders

-- why there are none is no fault but want of memory
pub lack_fault : (streams : List Stream) (outcome : OutcomeView) (fault : Fault) → LackSenders streams outcome → (fault ≡ faults.NoMemory → ⊥) → outcome ≡ Failed fault → ⊥
lack_fault [] outcome fault none other e = none
lack_fault (stream ∷ streams) outcome fault (inl why) other e = no_sender_fault stream outcome fault why other e
lack_fault (stream ∷ streams) outcome fault (inr (right, more)) other e = lack_fault streams outcome fault more other e

pub first_fault : (streams : List Stream) (outcome : OutcomeView) (fault : Fault) → LacksFirst streams outcome → (fault ≡ faults.NoMemory → ⊥) → outcome ≡ Failed fault → ⊥
first_fault [] outcome fault none other e = none
first_fault (stream ∷ streams) outcome fault why other e = no_sender_fault stream outcome fault why other e

-- and such a run isn't done
lack_done : (streams : List Stream) (outcome : OutcomeView) (text : List ℕ) → LackSenders streams outcome → outcome ≡ Done text → ⊥
lack_done [] outcome text none e = none
lack_done (stream ∷ streams) outcome text (inl (inl (line, wrong, is))) e = absurd cc
lack_done (stream ∷ streams) outcome text (inl (inr memory)) e = absurd cc
lack_done (stream ∷ streams) outcome text (inr (right, more)) e = lack_done streams outcome text more e

-- ---- what it comes to

-- what a lacking sender comes to is no fault but want of memory
abbrev pub IsNoFault : Bool → OutcomeView → Type 0
IsNoFault lacking lack = lacking ≡ true → (fault : Fault) → (fault ≡ faults.NoMemory → ⊥) → lack ≡ Failed fault → ⊥

pub read_end : (several link_failed write_failed lacking : Bool) (lack : OutcomeView) (counts : FeedsCounts) → IsNoFault lacking lack → outcome_by several link_failed write_failed lacking lack counts ≡ Failed faults.Read → link_failed ≡ true
read_end several true write_failed lacking lack counts plain e = refl
read_end several false true lacking lack counts plain e = absurd cc
read_end several false false true lack counts plain e = absurd (plain refl faults.Read (λ m. cc) e)
read_end several false false false lack counts plain e = absurd cc

pub end_read : (several link_failed write_failed lacking : Bool) (lack : OutcomeView) (counts : FeedsCounts) → link_failed ≡ true → outcome_by several link_failed write_failed lacking lack counts ≡ Failed faults.Read
end_read several true write_failed lacking lack counts e = refl
end_read several false write_failed lacking lack counts e = absurd cc

pub write_end : (several link_failed write_failed lacking : Bool) (lack : OutcomeView) (counts : FeedsCounts) → IsNoFault lacking lack → outcome_by several link_failed write_failed lacking lack counts ≡ Failed faults.Write → write_failed ≡ true
write_end several true write_failed lacking lack counts plain e = absurd cc
write_end several false true lacking lack counts plain e = refl
write_end several false false true lack counts plain e = absurd (plain refl faults.Write (λ m. cc) e)
write_end several false false false lack counts plain e = absurd cc

pub failed_either : (several link_failed write_failed lacking : Bool) (lack : OutcomeView) (counts : FeedsCounts) → write_failed ≡ true → (outcome_by several link_failed write_failed lacking lack counts ≡ Failed faults.Read) ⊎ (outcome_by several link_failed write_failed lacking lack counts ≡ Failed faults.Write)
failed_either several true write_failed lacking lack counts e = inl refl
failed_either several false true lacking lack counts e = inr refl
failed_either several false false lacking lack counts e = absurd cc

pub no_open : (several link_failed write_failed lacking : Bool) (lack : OutcomeView) (counts : FeedsCounts) → IsNoFault lacking lack → outcome_by several link_failed write_failed lacking lack counts ≡ Failed faults.Open → ⊥
no_open several true write_failed lacking lack counts plain e = absurd cc
no_open several false true lacking lack counts plain e = absurd cc
no_open several false false true lack counts plain e = plain refl faults.Open (λ m. cc) e
no_open several false false false lack counts plain e = absurd cc

-- where nothing was lacking, and the link didn't fail
pub written_is : (several link_failed write_failed lacking : Bool) (lack : OutcomeView) (counts : FeedsCounts) → link_failed ≡ false → lacking ≡ false → outcome_by several link_failed write_failed lacking lack counts ≡ outcome_written several write_failed counts
written_is several true write_failed lacking lack counts heard there = absurd cc
written_is several false true lacking lack counts heard there = refl
written_is several false false true lack counts heard there = absurd cc
written_is several false false false lack counts heard there = refl

-- ---- the link

unbroken_left : (later : Option (List Letter)) (missed : ℕ) → missed ≡ 0 → IsUnbroken (remainder_of later missed)
unbroken_left None missed sound = tt
unbroken_left (Some rest) missed sound = ap (λ (n : ℕ). nat_lt 0 n) sound

-- ---- what was lost

-- it was where the senders of later streams were lacking
pub lost_of : (streams : List Stream) (opening : ℕ) (lacking : Bool) (lost : List Event) → (lacking ≡ true → IsOneLacking streams opening) → AreLost lacking (lasting opening streams) opening lost → AreLostOf streams opening lost
lost_of streams opening lacking [] later lost = tt
lost_of streams opening lacking (event ∷ []) later lost = (later lost.0, lost.1)
lost_of streams opening lacking (event ∷ other ∷ events) later lost = absurd lost

-- and nothing where none was
pub lost_none : (streams : List Stream) (opening : ℕ) (lacking : Bool) (lost : List Event) → AreLost lacking streams opening lost → lacking ≡ false → lost ≡ []
lost_none streams opening lacking [] are there = refl
lost_none streams opening lacking (event ∷ []) are there = absurd (let clash = are.0 in cc)
lost_none streams opening lacking (event ∷ other ∷ events) are there = absurd are

-- ---- the end

-- where no post failed, and there is one, not all failed
not_all : (failed : List Bool) → 1 ≤ length failed → list_any has_failed failed ≡ false → list_all has_failed failed ≡ false
not_all [] some none = absurd (omega (arith, some))
not_all (true ∷ others) some none = absurd cc
not_all (false ∷ others) some none = refl

told_unless : (made : Fed) (lost : List Event) (failed : List Bool) (all : Bool) → list_all has_failed failed ≡ all → (list_all has_failed failed ≡ false → lost ≡ [] → are_told made.parts ≡ true) → IsToldUnless made lost failed
told_unless made lost failed true is told = inl is
told_unless made [] failed false is told = inr (inr (told is refl))
told_unless made (event ∷ events) failed false is told = inr (inl tt)

heard_unless : (streams : List Stream) (opening : ℕ) (lacking : Bool) (lack : OutcomeView) (failed : List Bool) (all : Bool) (later : Option (List Letter)) (missed : ℕ) → missed ≡ 0 → list_all has_failed failed ≡ all → (lacking ≡ true → LackLater streams opening lack) → (list_all has_failed failed ≡ false → lacking ≡ false → IfSome later (λ rest. rest ≡ []))
    → IsHeardUnless streams opening (remainder_of later missed) failed
heard_unless streams opening lacking lack failed true later missed sound is lacks ended = inl is
heard_unless streams opening true lack failed false later missed sound is lacks ended = inr (inl (lack, lacks refl))
heard_unless streams opening false lack failed false later missed sound is lacks ended = inr (inr (ended_left later missed (ended is refl) sound))

-- a later stream has no sender
ends_lacking : (streams : List Stream) (opening : ℕ) (outcome : OutcomeView) (made : Fed) (lost : List Event) (failed : List Bool) (status_failed : Bool) (later : Option (List Letter)) (missed : ℕ) → LackLater streams opening outcome → (list_any has_failed failed || status_failed) ≡ false → missed ≡ 0 → IsToldUnless made lost failed
    → EndsAs streams opening (remainder_of later missed) made lost failed status_failed outcome
ends_lacking streams opening (Done text) made lost failed status_failed later missed lacks none sound told = absurd (lack_done _ (Done text) text lacks.why refl)
ends_lacking streams opening (Failed faults.Read) made lost failed status_failed later missed lacks none sound told = absurd (lack_fault _ (Failed faults.Read) faults.Read lacks.why (λ m. cc) refl)
ends_lacking streams opening (Failed faults.Write) made lost failed status_failed later missed lacks none sound told = absurd (lack_fault _ (Failed faults.Write) faults.Write lacks.why (λ m. cc) refl)
ends_lacking streams opening (Failed faults.Open) made lost failed status_failed later missed lacks none sound told = (lacks, none, unbroken_left later missed sound, told)
ends_lacking streams opening (Failed faults.NoMemory) made lost failed status_failed later missed lacks none sound told = (lacks, none, unbroken_left later missed sound, told)
ends_lacking streams opening (Refused status line) made lost failed status_failed later missed lacks none sound told = (lacks, none, unbroken_left later missed sound, told)
ends_lacking streams opening Usage made lost failed status_failed later missed lacks none sound told = (lacks, none, unbroken_left later missed sound, told)

-- how it ends, told what was lacking, which posts failed and whether STATUS did
pub ends_by : (streams : List Stream) (opening : ℕ) (link_failed write_failed lacking : Bool) (lack : OutcomeView) (counts : FeedsCounts) (made : Fed) (lost : List Event) (failed : List Bool) (status_failed : Bool) (later : Option (List Letter)) (missed : ℕ) → HasCause 0 missed (link_failed ≡ true) → 1 ≤ length failed → (list_all has_failed failed ≡ false → lost ≡ [] → are_told made.parts ≡ true)
    → (list_all has_failed failed ≡ false → link_failed ≡ false → lacking ≡ false → IfSome later (λ rest. rest ≡ [])) → (lacking ≡ true → LackLater streams opening lack) → (lacking ≡ false → lost ≡ []) → counts ≡ all_counts made → write_failed ≡ (list_any has_failed failed || status_failed)
    → EndsAs streams opening (remainder_of later missed) made lost failed status_failed (outcome_by (are_several (all_times streams)) link_failed write_failed lacking lack counts)
ends_by streams opening true write_failed lacking lack counts made lost failed status_failed later missed cause some told ended lacks whole counts_are any =
    (broken_left later missed (cause.rose refl), told_unless made lost failed (list_all has_failed failed) refl told)
ends_by streams opening false true lacking lack counts made lost failed status_failed later missed cause some told ended lacks whole counts_are any =
    let sound : missed ≡ 0 = cause.still (λ e. absurd cc) in
    (sym any, unbroken_left later missed sound, told_unless made lost failed (list_all has_failed failed) refl told, heard_unless streams opening lacking lack failed (list_all has_failed failed) later missed sound refl lacks (λ not there. ended not refl there))
ends_by streams opening false false true lack counts made lost failed status_failed later missed cause some told ended lacks whole counts_are any =
    ends_lacking streams opening lack made lost failed status_failed later missed (lacks refl) (sym any) (cause.still (λ e. absurd cc)) (told_unless made lost failed (list_all has_failed failed) refl told)
ends_by streams opening false false false lack counts made lost failed status_failed later missed cause some told ended lacks whole counts_are any =
    let not = not_all failed some (or_parts (list_any has_failed failed) status_failed (sym any)).0 in
    (ap (lines_of (are_several (all_times streams))) counts_are, whole refl, sym any, told not (whole refl), ended_left later missed (ended not refl refl) (cause.still (λ e. absurd cc)))
