-- A run of ask or of reply, from its steps.
use Rattle.std.proofs.Common.{◌≡◌, ◌≢◌, ◌∙◌, ◌⊎◌, inl, inr, ℕ, suc, Result, Ok, Err, List, [], ◌∷◌, refl, sym, subst, arith}
use Rattle.arrayvec.specs.ArrayString.{ArrayString}
use Rattle.tesla_desk.specs.Faults.{Faults, HasCausesBeside}
use Rattle.tesla_desk.specs.Outside.{Page, Told, Opening, OfSource, OfSink}
use Rattle.tesla_desk.proofs.Counts.{cause_as, causes_none, causes_then}
use Rattle.tesla_front.specs.OutcomeView.{OutcomeView, Failed, result_view}
use Rattle.tesla_front.specs.Command.{Performs}
use Rattle.tesla_front.specs.Fault.{Causes}
use Rattle.tesla_front.specs.Files.{ReadsFile}
use Rattle.tesla_front.specs.Openings.{AreFiles, Opens, OpensSome}
use Rattle.tesla_front.specs.Refusal.{StopCauses}
use Rattle.tesla_front.specs.declared.fault.Fault.{Fault}
use Rattle.tesla_front.specs.declared.fault.Fault.TheVariants as faults
use Rattle.tesla_front.specs.declared.refusal.Stop.{Stop}
use Rattle.tesla_front.specs.declared.refusal.Stop.TheVariants as stops
use Rattle.tesla_front.proofs.Commands.{counts_by, counts_stopped}
use Rattle.tesla_front.proofs.Openings.{opens_some, opens_then}
use Rattle.tesla_sync.specs.Ask.{IsAsk}
use Rattle.tesla_run_ask.specs.Arguments.{AskArguments, IsAskForm, IsReplyForm, ReplyArguments, files_of_ask, files_of_reply}
use Rattle.tesla_run_ask.specs.Asking.{ask, asked_line}
use Rattle.tesla_run_ask.specs.Replying.{ReadsNot, RefusesAsk, RefusesKey, Replies, replied_line, reply}
use Rattle.tesla_run_ask.specs.Steps.{Answers, RefusesTexts}
use Rattle.tesla_run_ask.specs.Writing.{WritesMessage}
use Rattle.tesla_run_ask.proofs.Texts.{ask_in, key_in, no_ask_in, no_key_in, there}

-- a fault of reading or writing is one of the command
pub stopped_causes : {A B : Type 0} (fault : Fault) (old new : Faults) → Causes {A = A} (Err fault) old new → StopCauses {A = B} (Err (stops.Failed fault)) old new
stopped_causes fault old new causes = record {
  reads = cause_as old.reads new.reads causes.reads (λ e. cc) (λ e. cc);
  writes = cause_as old.writes new.writes causes.writes (λ e. cc) (λ e. cc);
  openings = cause_as old.openings new.openings causes.openings (λ e. cc) (λ e. cc);
}

-- reading a file that came to its end raised no count
still : {A : Type 0} (x : A) (old new : Faults) → Causes {A = A} (Ok x) old new → new ≡ old
still x old new causes = causes_none old new causes (λ e. absurd cc) (λ e. absurd cc) (λ e. absurd cc)

-- ---- ask

-- none of the files is the console
pub ask_files : (arguments : AskArguments) (words : List (List ℕ)) → IsAskForm arguments words → AreFiles (files_of_ask arguments)
ask_files arguments words is = (is.rest.rest.first.0.file, tt)

-- an ask was written
pub performs_ask : (arguments : AskArguments) (message : List ℕ) (before now : Told) (result : Result ArrayString Stop) → AreFiles (files_of_ask arguments) → IsAsk message arguments.reading → OpensSome (OfSink arguments.out ∷ []) before now → WritesMessage message (asked_line arguments.reading) (before.page arguments.out) (now.page arguments.out) (result_view result) → StopCauses result before.faults now.faults → Performs ask arguments before now (result_view result)
performs_ask arguments message before now result named is opens writes causes = record {
  named = named;
  opened = opens.0;
  opens = opens.2;
  does = record { message = message; is_ask = is; writes = writes };
  counts = counts_by result before.faults now.faults causes;
}

-- ---- reply

-- none of the files is the console
pub reply_files : (arguments : ReplyArguments) (words : List (List ℕ)) → IsReplyForm arguments words → AreFiles (files_of_reply arguments)
reply_files arguments words is = (is.spelled.rest.first.0.file, (is.spelled.rest.rest.first.0.file, (is.spelled.rest.rest.rest.rest.first.0.file, tt)))

counts_failed : {hidden A : Type 0} (fault : Fault) (old new : Faults) → Causes {A = A} (Err fault) old new → HasCausesBeside hidden old new (Failed fault ≡ Failed faults.Read) (Failed fault ≡ Failed faults.Write) (Failed fault ≡ Failed faults.Open)
counts_failed {hidden} {A} fault old new causes = counts_stopped {hidden = hidden} {A = A} (stops.Failed fault) old new (stopped_causes {A = A} {B = A} fault old new causes)

-- ASK wasn't read
pub performs_unasked : {A : Type 0} (arguments : ReplyArguments) (fault : Fault) (before now : Told) → AreFiles (files_of_reply arguments) → OpensSome (OfSource arguments.ask ∷ []) before now → Causes {A = A} (Err fault) before.faults now.faults → fault ≢ faults.Write → Performs reply arguments before now (Failed fault)
performs_unasked {A} arguments fault before now named opens causes kind =
    let it = opens_some (OfSource arguments.ask) (OfSource arguments.key ∷ OfSink arguments.out ∷ []) before now opens in
    record {
      named = named;
      opened = it.0;
      opens = it.2;
      does = inl (record { stops = inl it.1; fault = fault; failed = refl; no_write = kind });
      counts = counts_failed {A = A} fault before.faults now.faults causes;
    }

-- a file was read
pub record Reads (name : List ℕ) (most : ℕ) (read : List ℕ) (before now : Told) : Type 0 where
  pub read_is : ReadsFile most (before.page name) read
  pub opened : Opens (OfSource name ∷ []) 1 before now
  pub pages : (n : List ℕ) → now.page n ≡ before.page n
  pub faults : now.faults ≡ before.faults

pub reads_by : {A : Type 0} (x : A) (name : List ℕ) (most : ℕ) (read : List ℕ) (before now : Told) → ReadsFile most (before.page name) read → Opens (OfSource name ∷ []) 1 before now → ((n : List ℕ) → now.page n ≡ before.page n) → Causes {A = A} (Ok x) before.faults now.faults → Reads name most read before now
reads_by x name most read before now told opened pages causes = record { read_is = told; opened = opened; pages = pages; faults = still x before.faults now.faults causes }

-- ASK was read, and KEY wasn't
pub performs_unkeyed : {A : Type 0} (arguments : ReplyArguments) (fault : Fault) (text : List ℕ) (before mid now : Told) → AreFiles (files_of_reply arguments) → Reads arguments.ask 14 text before mid → OpensSome (OfSource arguments.key ∷ []) mid now → Causes {A = A} (Err fault) mid.faults now.faults → fault ≢ faults.Write → Performs reply arguments before now (Failed fault)
performs_unkeyed {A} arguments fault text before mid now named first opens causes kind =
    let it = opens_some (OfSource arguments.key) (OfSink arguments.out ∷ []) mid now opens in
    record {
      named = named;
      opened = suc it.0;
      opens = opens_then (OfSource arguments.ask) (OfSource arguments.key ∷ OfSink arguments.out ∷ []) it.0 before mid now first.opened it.2;
      does = inl (record {
        stops = inr (omega (arith, it.1), there 14 (before.page arguments.ask) text first.read_is);
        fault = fault;
        failed = refl;
        no_write = kind;
      });
      counts = causes_then before.faults mid.faults now.faults first.faults (counts_failed {A = A} fault mid.faults now.faults causes);
    }

-- an input and no more was opened
first_alone : (opening other : Opening) (before now : Told) → Opens (opening ∷ []) 1 before now → Opens (opening ∷ other ∷ []) 1 before now
first_alone opening other before now opens = record { asked = opens.asked; pages = opens.pages; lefts = opens.lefts }

-- both inputs were read, and one of their texts is refused
does_refused : (reading : ℕ) (text shared : List ℕ) (asked keyed out written : Page) (outcome : OutcomeView) → ReadsFile 14 asked text → ReadsFile 66 keyed shared → RefusesTexts text shared outcome → ReadsNot 2 asked outcome ⊎ RefusesAsk 2 asked keyed outcome ⊎ RefusesKey 2 asked keyed outcome ⊎ Replies reading asked keyed out written outcome
does_refused reading text shared asked keyed out written outcome reads keys (inl it) =
    inr (inl (record { both = refl; read = there 66 keyed shared keys; none = no_ask_in asked text reads it.0; read_is = it.1 }))
does_refused reading text shared asked keyed out written outcome reads keys (inr it) =
    inr (inr (inl (record { both = refl; asked = (it.0.0, ask_in asked text it.0.0 reads it.0.1); none = no_key_in keyed shared keys it.1; read_is = it.2 })))

-- both inputs were read, and their texts answered
pub performs_read : (arguments : ReplyArguments) (text shared : List ℕ) (before mid late now : Told) (result : Result ArrayString Stop) → AreFiles (files_of_reply arguments) → Reads arguments.ask 14 text before mid → Reads arguments.key 66 shared mid late → Answers arguments text shared late now (result_view result) → StopCauses result late.faults now.faults → Performs reply arguments before now (result_view result)
performs_read arguments text shared before mid late now result named first second answers causes =
    let keys : ReadsFile 66 (before.page arguments.key) shared = subst (λ (p : Page). ReadsFile 66 p shared) (first.pages arguments.key) second.read_is in
    let both : late.faults ≡ before.faults = second.faults ∙ first.faults in
    let counts = causes_then before.faults late.faults now.faults both (counts_by result late.faults now.faults causes) in
    elim answers [
      | inl it ↦ record {
        named = named;
        opened = 2;
        opens = opens_then (OfSource arguments.ask) (OfSource arguments.key ∷ OfSink arguments.out ∷ []) 1 before mid now first.opened
            (first_alone (OfSource arguments.key) (OfSink arguments.out) mid now (subst (λ (t : Told). Opens (OfSource arguments.key ∷ []) 1 mid t) (sym it.1) second.opened));
        does = does_refused arguments.reading text shared (before.page arguments.ask) (before.page arguments.key) (before.page arguments.out) (now.page arguments.out) (result_view result) first.read_is keys it.0;
        counts = counts;
      }
      | inr it ↦ record {
        named = named;
        opened = suc (suc it.opens.0);
        opens = opens_then (OfSource arguments.ask) (OfSource arguments.key ∷ OfSink arguments.out ∷ []) (suc it.opens.0) before mid now first.opened
            (opens_then (OfSource arguments.key) (OfSink arguments.out ∷ []) it.opens.0 mid late now second.opened it.opens.2);
        does = inr (inr (inr (record {
          t_r = it.t_r;
          shared = it.shared;
          asked = ask_in (before.page arguments.ask) text it.t_r first.read_is it.asked;
          found = key_in (before.page arguments.key) shared it.shared keys it.found;
          message = it.message;
          is_reply = it.is_reply;
          writes = subst (λ (p : Page). WritesMessage it.message (replied_line arguments.reading) p (now.page arguments.out) (result_view result)) (second.pages arguments.out ∙ first.pages arguments.out) it.writes;
        })));
        counts = counts;
      }
    ]
