-- What is written where memory was wanting at an event.
use Rattle.std.proofs.Common.{◌≡◌, ◌∙◌, ℕ, suc, ◌+◌, ◌-◌, ◌≤◌, true, Option, Some, None, List, [], ◌∷◌, ◌++◌, map, replicate, refl, sym, ap, subst, append_assoc, append-nil, add-one, arith}
use Rattle.std.proofs.lemmas.List.{map-append}
use Rattle.tesla_capture.specs.Capture.{Record, capture}
use Rattle.tesla_capture.specs.Gathering.{Gathers}
use Rattle.tesla_capture.specs.Outline.{outline_of}
use Rattle.tesla_capture.specs.declared.record.RecordKind.{RecordKind}
use Rattle.tesla_desk.specs.Outside.{with_bytes}
use Rattle.tesla_desk.proofs.Told.{with_more}
use Rattle.tesla_receiver.specs.History.{Event, Ends, Takes}
use Rattle.tesla_receiver.proofs.EachAfter.{each_after-append}
use Rattle.tesla_replay.specs.Played.{event_in}
use Rattle.tesla_state.specs.Releases.{each_after}
use Rattle.tesla_convert.specs.Rule.{Unread, made_of}
use Rattle.tesla_convert.specs.Steps.{IsWanting, StandsNext}
use Rattle.tesla_run_replay.specs.Playing.{EventRule, WantsAt, WantsIn, WantsNext, end_after, events_by_rule, events_in, events_next, events_text, record_rule, with_end}
use Rattle.tesla_run_replay.proofs.Made.{unread_text}
use Rattle.tesla_run_replay.proofs.Takes.{next_take, takes_apart}

-- a piece was gathered, and then all of it and of another was written
pub gathers_whole : (before mid now : Option (List ℕ)) (held text piece : List ℕ) → Gathers before mid held text → now ≡ with_bytes mid (held ++ piece) → now ≡ with_bytes before (text ++ piece)
gathers_whole before mid now held text piece first all =
    with_more before mid now first.done (held ++ piece) first.written all ∙ ap (with_bytes before) (sym (append_assoc first.done held piece) ∙ ap (λ t. t ++ piece) (sym first.both))

-- ---- told a rule

module _ (rule : EventRule) where
  -- memory was wanting at the one event
  pub wants_one : (before : List Event) (event : Event) → rule.wants before event ≡ true → WantsIn rule before (event ∷ []) (rule.adds before event)
  wants_one before event wants = record {
    first = [];
    event = event;
    rest = [];
    are = refl;
    wants = subst (λ (es : List Event). rule.wants es event ≡ true) (sym (append-nil before)) wants;
    text = sym (append-nil (rule.adds before event));
  }

  -- more events behind
  pub wants_before : (before events more : List Event) (piece : List ℕ) → WantsIn rule before events piece → WantsIn rule before (events ++ more) piece
  wants_before before events more piece it = record {
    first = it.first;
    event = it.event;
    rest = it.rest ++ more;
    are = ap (λ (es : List Event). es ++ more) it.are ∙ append_assoc it.first (it.event ∷ it.rest) more;
    wants = it.wants;
    text = it.text;
  }

  -- some of those before
  pub wants_behind : (before prefix events : List Event) (piece : List ℕ) → WantsIn rule (before ++ prefix) events piece → WantsIn rule before (prefix ++ events) (each_after rule.adds before prefix ++ piece)
  wants_behind before prefix events piece it = record {
    first = prefix ++ it.first;
    event = it.event;
    rest = it.rest;
    are = ap (λ (es : List Event). prefix ++ es) it.are ∙ sym (append_assoc prefix it.first (it.event ∷ it.rest));
    wants = subst (λ (es : List Event). rule.wants es it.event ≡ true) (append_assoc before prefix it.first) it.wants;
    text = ap (λ (t : List ℕ). each_after rule.adds before prefix ++ t) it.text
        ∙ sym (each_after-append rule.adds before prefix (it.first ++ it.event ∷ []))
        ∙ ap (each_after rule.adds before) (sym (append_assoc prefix it.first (it.event ∷ [])));
  }

  -- at one of so many takes
  pub wants_take : (before : List Event) (n i : ℕ) → i + 1 ≤ n → rule.wants (before ++ replicate i (Takes 0)) (Takes 0) ≡ true
      → WantsIn rule before (replicate n (Takes 0)) (each_after rule.adds before (replicate i (Takes 0)) ++ rule.adds (before ++ replicate i (Takes 0)) (Takes 0))
  wants_take before n i few wants =
      let prefix : List Event = replicate i (Takes 0) in
      let more : List Event = replicate (n - (i + 1)) (Takes 0) in
      let piece : List ℕ = each_after rule.adds before prefix ++ rule.adds (before ++ prefix) (Takes 0) in
      let apart : (prefix ++ Takes 0 ∷ []) ++ more ≡ replicate n (Takes 0) = ap (λ (es : List Event). es ++ more) (sym (next_take i)) ∙ sym (takes_apart n (i + 1) few) in
      subst (λ (es : List Event). WantsIn rule before es piece) apart
      (wants_before before (prefix ++ Takes 0 ∷ []) more piece (wants_behind before prefix (Takes 0 ∷ []) (rule.adds (before ++ prefix) (Takes 0)) (wants_one (before ++ prefix) (Takes 0) wants)))

  -- ---- a capture

  events_both : (first second : List Record) → events_in (first ++ second) ≡ events_in first ++ events_in second
  events_both first second = map-append event_in first second

  -- behind its first records stand the next events
  events_stand : (bytes : List ℕ) (records : List Record) (next : Option Record) → StandsNext capture bytes records next
      → (more : List Event) × (events_by_rule rule (outline_of bytes).fault (outline_of bytes).records ≡ events_in records ++ (events_next rule records next ++ more))
  events_stand bytes records None (all, none) = (
    [],
    ap (λ (fault : Option (ℕ × RecordKind)). events_by_rule rule fault (outline_of bytes).records) none
        ∙ ap (λ (rs : List Record). with_end rule (events_in rs)) all
        ∙ ap (λ (es : List Event). events_in records ++ es) (sym (append-nil (end_after rule (events_in records)))),
  )
  events_stand bytes records (Some first) (rest, all) =
      let it = ended (outline_of bytes).fault (outline_of bytes).records in (
        events_in rest ++ it.0,
        it.1 ∙ ap (λ (rs : List Record). events_in rs ++ it.0) all
            ∙ ap (λ (es : List Event). es ++ it.0) (events_both records (first ∷ rest))
            ∙ append_assoc (events_in records) (event_in first ∷ events_in rest) it.0,
      )
    where
      -- the events are those of the records, and maybe the end's
      ended : (fault : Option (ℕ × RecordKind)) (all : List Record) → (end : List Event) × (events_by_rule rule fault all ≡ events_in all ++ end)
      ended None all = (end_after rule (events_in all), refl)
      ended (Some fault) all = ([], sym (append-nil (events_in all)))

  -- what a conversion wrote where memory was wanting is what its events write up to there
  pub wants_at : (bytes : List ℕ) (written : Option (List ℕ)) → IsWanting capture RecordKind (record_rule rule) (WantsNext rule) bytes written → (done : List ℕ) → written ≡ Some done
      → WantsAt rule (events_by_rule rule (outline_of bytes).fault (outline_of bytes).records) done
  wants_at bytes written it done told =
      let before : List Event = events_in it.records in
      let next : List Event = events_next rule it.records it.next in
      let stand = events_stand bytes it.records it.next it.stands in
      let piece : List ℕ = events_text rule before ++ it.piece in
      let behind : WantsIn rule [] (before ++ (next ++ stand.0)) piece = wants_behind [] before (next ++ stand.0) it.piece (wants_before before next stand.0 it.piece it.wants) in (
        piece,
        sym (append-nil done) ∙ it.holds done told
            ∙ ap (λ (t : List ℕ). (rule.begins ++ t) ++ it.piece) (unread_text rule it.records)
            ∙ append_assoc rule.begins (events_text rule before) it.piece,
        subst (λ (es : List Event). WantsIn rule [] es piece) (sym stand.1) behind,
      )

-- ---- the rule of a target that names it otherwise

pub wants_same : (rule same : EventRule) (before events : List Event) (piece : List ℕ) → rule ≡ same → WantsIn rule before events piece → WantsIn same before events piece
wants_same rule same before events piece e it = subst (λ (r : EventRule). WantsIn r before events piece) e it

-- at the event of a record
pub wants_record : (rule old : EventRule) → old ≡ rule → (records : List Record) (first : Record) (event : Event) → event ≡ event_in first → old.wants (events_in records) event ≡ true
    → WantsNext rule records (Some first) (old.adds (events_in records) (event_in first))
wants_record rule old start records first event is wants =
    wants_same old rule (events_in records) (event_in first ∷ []) (old.adds (events_in records) (event_in first)) start
    (wants_one old (events_in records) (event_in first) (subst (λ (e : Event). old.wants (events_in records) e ≡ true) is wants))

-- at one of so many takes, told the rule of the target before them and at the one
pub wants_taken : (rule here : EventRule) → here ≡ rule → (es : List Event) (n i : ℕ) (before mid now : Option (List ℕ)) (first held : List ℕ) → i + 1 ≤ n → Gathers before mid held (first ++ each_after rule.adds es (replicate i (Takes 0)))
    → now ≡ with_bytes mid (held ++ here.adds (es ++ replicate i (Takes 0)) (Takes 0)) → here.wants (es ++ replicate i (Takes 0)) (Takes 0) ≡ true
    → (piece : List ℕ) × WantsIn rule es (replicate n (Takes 0)) piece × (now ≡ with_bytes before (first ++ piece))
wants_taken rule here same es n i before mid now first held few gathers all wants =
    let behind : List Event = es ++ replicate i (Takes 0) in
    let so_far : List ℕ = each_after rule.adds es (replicate i (Takes 0)) in
    let one : List ℕ = rule.adds behind (Takes 0) in (
      so_far ++ one,
      wants_take rule es n i few (subst (λ (r : EventRule). r.wants behind (Takes 0) ≡ true) same wants),
      gathers_whole before mid now held (first ++ so_far) one gathers (all ∙ ap (λ (r : EventRule). with_bytes mid (held ++ r.adds behind (Takes 0))) same) ∙ ap (with_bytes before) (append_assoc first so_far one),
    )

-- at the end of a capture, told the rule of the target before it, behind the end alone, and as it is named
module _ (rule old mid : EventRule) (start : old ≡ rule) (same : mid ≡ old) (es : List Event) (waiting : ℕ) (waits : waiting ≡ old.waiting es) where
  -- at the end itself
  pub wants_end : old.wants es (Ends 0) ≡ true → WantsIn rule es (end_after rule es) (old.adds es (Ends 0))
  wants_end wants =
      let one : WantsIn rule es (Ends 0 ∷ []) (old.adds es (Ends 0)) = wants_same old rule es (Ends 0 ∷ []) (old.adds es (Ends 0)) start (wants_one old es (Ends 0) wants) in
      wants_before rule es (Ends 0 ∷ []) (replicate (suc (rule.waiting es)) (Takes 0)) (old.adds es (Ends 0)) one

  -- at one of the takes behind it
  pub wants_ending : (piece : List ℕ) → WantsIn mid (es ++ Ends 0 ∷ []) (replicate (waiting + 1) (Takes 0)) piece → WantsIn rule es (end_after rule es) (old.adds es (Ends 0) ++ piece)
  wants_ending piece it =
      let count : waiting + 1 ≡ suc (rule.waiting es) = add-one waiting ∙ ap suc (waits ∙ ap (λ (r : EventRule). r.waiting es) start) in
      let takes : WantsIn old (es ++ Ends 0 ∷ []) (replicate (suc (rule.waiting es)) (Takes 0)) piece =
      subst (λ (n : ℕ). WantsIn old (es ++ Ends 0 ∷ []) (replicate n (Takes 0)) piece) count (wants_same mid old (es ++ Ends 0 ∷ []) (replicate (waiting + 1) (Takes 0)) piece same it) in
      let whole : WantsIn old es (Ends 0 ∷ replicate (suc (rule.waiting es)) (Takes 0)) ((old.adds es (Ends 0) ++ []) ++ piece) = wants_behind old es (Ends 0 ∷ []) (replicate (suc (rule.waiting es)) (Takes 0)) piece takes in
      subst (λ (t : List ℕ). WantsIn rule es (end_after rule es) (t ++ piece)) (append-nil (old.adds es (Ends 0)))
      (wants_same old rule es (Ends 0 ∷ replicate (suc (rule.waiting es)) (Takes 0)) ((old.adds es (Ends 0) ++ []) ++ piece) start whole)
