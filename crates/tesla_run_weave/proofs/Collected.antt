-- The records of a script, kept one after another as they are named and judged.
use Rattle.std.proofs.Common.{◌≡◌, ◌∙◌, ℕ, Bool, true, false, Option, Ok, List, [], ◌∷◌, ◌++◌, map, refl, sym, ap, subst, append_assoc, append-nil}
use Rattle.tesla_base.specs.declared.names.Name.{Name}
use Rattle.tesla_capture.specs.Gathering.{Gathers}
use Rattle.tesla_capture.specs.Script.{Record, Sends, Discloses, script}
use Rattle.tesla_commit.specs.Parts.{Parts}
use Rattle.tesla_convert.specs.Records.{Answers}
use Rattle.tesla_convert.specs.declared.converter.Converted.{Converted}
use Rattle.tesla_convert.specs.declared.converter.Converted.TheVariants.{Whole, Refused, WriteFault, NoMemory}
use Rattle.tesla_desk.specs.Outside.{AppendsPrefix, with_bytes}
use Rattle.tesla_desk.proofs.Told.{appends_none}
use Rattle.tesla_sender.specs.Made.{Call, Disclose, Message, name_of}
use Rattle.tesla_sender.specs.Names.{NamesAfter, Naming, disclosed_of}
use Rattle.tesla_run_weave.specs.Plan.{Planned, plan_of, slot_of, with_disclosure, with_message}
use Rattle.tesla_run_weave.specs.Rule.{Answer, Accepted, Named, Refuses, Undue, answer_to, bodies_of, body_in, disclosure_answer, log_behind, log_of, log_with, message_answer, name_in, names_behind, names_of, refusal_of, rule_of}
use Rattle.tesla_run_weave.specs.Steps.{Collects, HasCollected, Settles, disclosure_judged, log_judged}
use Rattle.tesla_run_weave.specs.declared.plan.Slot.{Slot}
use Rattle.tesla_run_weave.specs.declared.weave_kind.WeaveKind.{WeaveKind}

-- ---- one record more

-- the calls that are accepted, with one record more
log_more : (setup : Parts) (log : List Call) (records : List Record) (first : Record) → log_behind setup log (records ++ first ∷ []) ≡ log_with (answer_to setup (log_behind setup log records) first) first (log_behind setup log records)
log_more setup log [] first = refl
log_more setup log (other ∷ records) first = log_more setup (log_with (answer_to setup log other) other log) records first

-- the names, with one record more
names_more : (setup : Parts) (log : List Call) (records : List Record) (first : Record) → names_behind setup log (records ++ first ∷ []) ≡ names_behind setup log records ++ name_in (answer_to setup (log_behind setup log records) first)
names_more setup log [] first = append-nil (name_in (answer_to setup log first))
names_more setup log (other ∷ records) first =
    let after : List Call = log_with (answer_to setup log other) other log in
    ap (λ (names : List Name). name_in (answer_to setup log other) ++ names) (names_more setup after records first)
    ∙ sym (append_assoc (name_in (answer_to setup log other)) (names_behind setup after records) (name_in (answer_to setup (log_behind setup after records) first)))

bodies_more : (records : List Record) (first : Record) → bodies_of (records ++ first ∷ []) ≡ bodies_of records ++ body_in first
bodies_more [] first = append-nil (body_in first)
bodies_more (other ∷ records) first =
    ap (λ (bodies : List (List ℕ)). body_in other ++ bodies) (bodies_more records first) ∙ sym (append_assoc (body_in other) (bodies_of records) (body_in first))

slots_more : (records : List Record) (first : Record) → map slot_of (records ++ first ∷ []) ≡ map slot_of records ++ slot_of first ∷ []
slots_more [] first = refl
slots_more (other ∷ records) first = ap (λ (slots : List Slot). slot_of other ∷ slots) (slots_more records first)

-- a plan with what is kept of one record more, which was answered so
abbrev with_record : Planned → Answer → Record → Planned
with_record plan answer first = record { slots = plan.slots ++ slot_of first ∷ []; names = plan.names ++ name_in answer; bodies = plan.bodies ++ body_in first }

abbrev planned : List Slot → List Name → List (List ℕ) → Planned
planned slots names bodies = record { slots = slots; names = names; bodies = bodies }

plan_more : (setup : Parts) (records : List Record) (first : Record) → plan_of setup (records ++ first ∷ []) ≡ with_record (plan_of setup records) (answer_to setup (log_of setup records) first) first
plan_more setup records first =
    ap (λ (slots : List Slot). planned slots (names_of setup (records ++ first ∷ [])) (bodies_of (records ++ first ∷ []))) (slots_more records first)
    ∙ ap (λ (names : List Name). planned (map slot_of records ++ slot_of first ∷ []) names (bodies_of (records ++ first ∷ []))) (names_more setup [] records first)
    ∙ ap (λ (bodies : List (List ℕ)). planned (map slot_of records ++ slot_of first ∷ []) (names_of setup records ++ name_in (answer_to setup (log_of setup records) first)) bodies) (bodies_more records first)

-- one record more was kept, which was answered so
collected_more : (answer : Answer) (setup : Parts) (namer : Naming) (before plan : Planned) (records : List Record) (first : Record) → answer_to setup (log_of setup records) first ≡ answer → namer.setup ≡ setup → NamesAfter namer (log_with answer first (log_of setup records)) → before ≡ plan_of setup records → plan ≡ with_record before answer first
    → HasCollected setup namer plan (records ++ first ∷ [])
collected_more answer setup namer before plan records first is under names kept more = record {
  under = under;
  names = subst (λ (log : List Call). NamesAfter namer log) (sym (log_more setup [] records first ∙ ap (λ (a : Answer). log_with a first (log_of setup records)) is)) names;
  plan_is = more ∙ ap (λ (p : Planned). with_record p answer first) kept ∙ sym (plan_more setup records first ∙ ap (λ (a : Answer). with_record (plan_of setup records) a first) is);
}

-- ---- a message

-- what was judged of a message is the answer to it
message_is : (setup : Parts) (namer : Naming) (plan : Planned) (records : List Record) (reading : ℕ) (body : List ℕ) (judged : Answer) → HasCollected setup namer plan records → judged ≡ message_answer body (name_of namer.setup.times (log_of setup records) reading body) → answer_to setup (log_of setup records) (Sends reading body) ≡ judged
message_is setup namer plan records reading body judged has is =
    sym (is ∙ ap (λ (s : Parts). message_answer body (name_of s.times (log_of setup records) reading body)) has.under)

pub message_refused : (setup : Parts) (namer after : Naming) (plan : Planned) (records : List Record) (reading : ℕ) (body : List ℕ) (kind : WeaveKind) → HasCollected setup namer plan records → Refuses kind ≡ message_answer body (name_of namer.setup.times (log_of setup records) reading body) → Collects setup after plan records (Sends reading body) (Refused kind)
message_refused setup namer after plan records reading body kind has is = ap refusal_of (message_is setup namer plan records reading body (Refuses kind) has is)

pub message_wanting : (setup : Parts) (namer after : Naming) (plan now : Planned) (records : List Record) (reading : ℕ) (body : List ℕ) (name : Name) → HasCollected setup namer plan records → Named name ≡ message_answer body (name_of namer.setup.times (log_of setup records) reading body) → Collects setup after now records (Sends reading body) NoMemory
message_wanting setup namer after plan now records reading body name has is = ap refusal_of (message_is setup namer plan records reading body (Named name) has is)

pub message_kept : (setup : Parts) (namer after : Naming) (plan now : Planned) (records : List Record) (reading : ℕ) (body : List ℕ) (name : Name) → HasCollected setup namer plan records → Named name ≡ message_answer body (name_of namer.setup.times (log_of setup records) reading body) → NamesAfter after (log_of setup records ++ Message reading body ∷ []) → after.setup ≡ namer.setup → now ≡ with_message plan reading name body
    → Collects setup after now records (Sends reading body) Whole
message_kept setup namer after plan now records reading body name has is names same kept = (
  message_wanting setup namer after plan now records reading body name has is,
  collected_more (Named name) setup after plan now records (Sends reading body) (message_is setup namer plan records reading body (Named name) has is) (same ∙ has.under) names has.plan_is kept,
)

-- ---- a disclosure

disclosure_is : (setup : Parts) (namer : Naming) (plan : Planned) (records : List Record) (reading : ℕ) (judged : Answer) → HasCollected setup namer plan records → judged ≡ disclosure_answer (disclosed_of namer.setup (log_of setup records) reading) → answer_to setup (log_of setup records) (Discloses reading) ≡ judged
disclosure_is setup namer plan records reading judged has is =
    sym (is ∙ ap (λ (s : Parts). disclosure_answer (disclosed_of s (log_of setup records) reading)) has.under)

pub disclosure_refused : (setup : Parts) (namer after : Naming) (plan : Planned) (records : List Record) (reading : ℕ) (kind : WeaveKind) → HasCollected setup namer plan records → Refuses kind ≡ disclosure_answer (disclosed_of namer.setup (log_of setup records) reading) → Collects setup after plan records (Discloses reading) (Refused kind)
disclosure_refused setup namer after plan records reading kind has is = ap refusal_of (disclosure_is setup namer plan records reading (Refuses kind) has is)

pub disclosure_wanting : (accepted : Bool) (setup : Parts) (namer after : Naming) (plan now : Planned) (records : List Record) (reading : ℕ) → HasCollected setup namer plan records → disclosure_judged (Ok accepted) ≡ disclosure_answer (disclosed_of namer.setup (log_of setup records) reading) → Collects setup after now records (Discloses reading) NoMemory
disclosure_wanting true setup namer after plan now records reading has is = ap refusal_of (disclosure_is setup namer plan records reading Accepted has is)
disclosure_wanting false setup namer after plan now records reading has is = ap refusal_of (disclosure_is setup namer plan records reading Undue has is)

-- a disclosure keeps the names
kept_names : (plan now : Planned) (reading : ℕ) → now ≡ with_disclosure plan reading → now ≡ planned (plan.slots ++ slot_of (Discloses reading) ∷ []) (plan.names ++ []) (plan.bodies ++ [])
kept_names plan now reading is =
    is ∙ ap (λ (names : List Name). planned (plan.slots ++ slot_of (Discloses reading) ∷ []) names plan.bodies) (sym (append-nil plan.names))
    ∙ ap (λ (bodies : List (List ℕ)). planned (plan.slots ++ slot_of (Discloses reading) ∷ []) (plan.names ++ []) bodies) (sym (append-nil plan.bodies))

disclosure_more : (accepted : Bool) (setup : Parts) (namer after : Naming) (plan now : Planned) (records : List Record) (reading : ℕ) → HasCollected setup namer plan records → disclosure_judged (Ok accepted) ≡ disclosure_answer (disclosed_of namer.setup (log_of setup records) reading) → NamesAfter after (log_judged accepted (Disclose reading) (log_of setup records)) → after.setup ≡ namer.setup → now ≡ with_disclosure plan reading
    → HasCollected setup after now (records ++ Discloses reading ∷ [])
disclosure_more true setup namer after plan now records reading has is names same kept =
    collected_more Accepted setup after plan now records (Discloses reading) (disclosure_is setup namer plan records reading Accepted has is) (same ∙ has.under) names has.plan_is (kept_names plan now reading kept)
disclosure_more false setup namer after plan now records reading has is names same kept =
    collected_more Undue setup after plan now records (Discloses reading) (disclosure_is setup namer plan records reading Undue has is) (same ∙ has.under) names has.plan_is (kept_names plan now reading kept)

pub disclosure_kept : (accepted : Bool) (setup : Parts) (namer after : Naming) (plan now : Planned) (records : List Record) (reading : ℕ) → HasCollected setup namer plan records → disclosure_judged (Ok accepted) ≡ disclosure_answer (disclosed_of namer.setup (log_of setup records) reading) → NamesAfter after (log_judged accepted (Disclose reading) (log_of setup records)) → after.setup ≡ namer.setup → now ≡ with_disclosure plan reading
    → Collects setup after now records (Discloses reading) Whole
disclosure_kept accepted setup namer after plan now records reading has is names same kept =
    (disclosure_wanting accepted setup namer after plan now records reading has is, disclosure_more accepted setup namer after plan now records reading has is names same kept)

-- ---- what is written

-- nothing was put
gathers_nothing : (before now : Option (List ℕ)) (held rest : List ℕ) → now ≡ before → rest ≡ held → Gathers before now rest (held ++ [])
gathers_nothing before now held rest written same = record { done = []; written = written ∙ appends_none before; both = append-nil held ∙ sym same }

-- what came of a record is what the rule says
pub answers_settled : (outcome settled : Converted WeaveKind) (setup : Parts) (namer : Naming) (plan : Planned) (records : List Record) (first : Record) (before now : Option (List ℕ)) (held rest : List ℕ) → Collects setup namer plan records first outcome → Settles outcome settled before now held rest
    → Answers script (rule_of setup) (λ (rs : List Record). HasCollected setup namer plan rs) records first settled before now held rest
answers_settled Whole settled setup namer plan records first before now held rest taken does =
    subst (λ (c : Converted WeaveKind). Answers script (rule_of setup) (λ (rs : List Record). HasCollected setup namer plan rs) records first c before now held rest) (sym does.0)
    (taken.0, taken.1, gathers_nothing before now held rest does.1 does.2)
answers_settled (Refused kind) settled setup namer plan records first before now held rest taken does =
    subst (λ (c : Converted WeaveKind). Answers script (rule_of setup) (λ (rs : List Record). HasCollected setup namer plan rs) records first c before now held rest) (sym does.0) (taken, does.1, does.2)
answers_settled WriteFault settled setup namer plan records first before now held rest taken does = absurd taken
answers_settled NoMemory NoMemory setup namer plan records first before now held rest taken does =
    (taken, does.1, does.0 ∙ ap (with_bytes before) (sym (append-nil held)))
answers_settled NoMemory WriteFault setup namer plan records first before now held rest taken does =
    (taken, subst (λ (t : List ℕ). AppendsPrefix before now t) (sym (append-nil held)) does)
answers_settled NoMemory Whole setup namer plan records first before now held rest taken does = absurd does
answers_settled NoMemory (Refused kind) setup namer plan records first before now held rest taken does = absurd does
