-- A run of lag, from its steps.
use Rattle.std.proofs.Common.{◌≡◌, ◌≢◌, ◌∙◌, ℕ, ℤ, Option, Some, None, Result, Ok, Err, List, [], ◌∷◌, take, refl, sym, ap, subst, arith}
use Rattle.tesla_base.specs.declared.names.Key.{Key}
use Rattle.tesla_desk.specs.Faults.{Faults}
use Rattle.tesla_desk.specs.Outside.{Page, Untold, Absent, Holds, Opening, Told}
use Rattle.tesla_desk.proofs.Counts.{cause_as, cause_none, cause_plain, causes_none}
use Rattle.tesla_front.specs.OutcomeView.{OutcomeView, Done, Usage, Refused, Failed}
use Rattle.tesla_front.specs.Command.{Performs}
use Rattle.tesla_front.specs.Fault.{Causes}
use Rattle.tesla_front.specs.Files.{HoldsWhere, ReadsFile}
use Rattle.tesla_front.specs.Openings.{AreFiles, Opens, OpensSome}
use Rattle.tesla_front.specs.declared.fault.Fault.{Fault}
use Rattle.tesla_front.specs.declared.fault.Fault.TheVariants as faults
use Rattle.tesla_front.proofs.Openings.{opens_some}
use Rattle.tesla_sync.specs.Ask.{ask_of}
use Rattle.tesla_sync.specs.KeyText.{key_of}
use Rattle.tesla_sync.specs.Lag.{lag_judged}
use Rattle.tesla_sync.specs.Reply.{reply_judged}
use Rattle.tesla_sync.specs.declared.lag.LagTooLarge.{LagTooLarge}
use Rattle.tesla_sync.specs.declared.reply.SyncRefusal.{SyncRefusal}
use Rattle.tesla_run_ask.specs.lag.Arguments.{LagArguments, files_of_lag}
use Rattle.tesla_run_ask.specs.lag.Lag.{Ends, JudgesTexts, asked_outcome, keyed_outcome, lag, lag_outcome, replied_outcome, summed_outcome}
use Rattle.tesla_run_ask.proofs.lag.Prefixes.{ask_prefix, key_prefix, reply_prefix}

-- of the first file alone it was tried whether it opens
pub first_tried : (opening : Opening) (files : List Opening) (before now : Told) → OpensSome (opening ∷ []) before now → OpensSome (opening ∷ files) before now
first_tried opening files before now opens = let it = opens_some opening files before now opens in (it.0, omega (arith, it.1), it.2)

-- a step gave something, and the one behind it a fault: what the steps come to is that fault
pub causes_then_fault : {A B C : Type 0} (value : A) (fault : Fault) (a b c : Faults) → Causes {A = A} (Ok value) a b → Causes {A = B} (Err fault) b c → Causes {A = C} (Err fault) a c
causes_then_fault {C = C} value fault a b c first second =
    let still : b ≡ a = causes_none a b first (λ e. absurd cc) (λ e. absurd cc) (λ e. absurd cc) in
    subst (λ (f : Faults). Causes {A = C} (Err fault) f c) still (record {
      reads = cause_as b.reads c.reads second.reads (λ e. cc) (λ e. cc);
      writes = cause_as b.writes c.writes second.writes (λ e. cc) (λ e. cc);
      openings = cause_as b.openings c.openings second.openings (λ e. cc) (λ e. cc);
    })

-- ---- what texts come to is no fault

no_sum : (result : Result ℤ LagTooLarge) (fault : Fault) → summed_outcome result ≡ Failed fault → ⊥
no_sum (Ok lag) fault e = cc
no_sum (Err why) fault e = cc

no_time : (drift t_r : ℕ) (result : Result ℕ SyncRefusal) (fault : Fault) → replied_outcome drift t_r result ≡ Failed fault → ⊥
no_time drift t_r (Ok t_s) fault e = no_sum (lag_judged t_s t_r drift) fault e
no_time drift t_r (Err why) fault e = cc

no_key : (drift : ℕ) (reply : List ℕ) (t_r : ℕ) (key : Option Key) (fault : Fault) → keyed_outcome drift reply t_r key ≡ Failed fault → ⊥
no_key drift reply t_r None fault e = cc
no_key drift reply t_r (Some key) fault e = no_time drift t_r (reply_judged reply key t_r) fault e

no_ask : (drift : ℕ) (reply key : List ℕ) (t_r : Option ℕ) (fault : Fault) → asked_outcome drift reply key t_r ≡ Failed fault → ⊥
no_ask drift reply key None fault e = cc
no_ask drift reply key (Some t_r) fault e = no_key drift reply t_r (key_of key) fault e

pub no_fault : (drift : ℕ) (ask reply key : List ℕ) (fault : Fault) → lag_outcome drift ask reply key ≡ Failed fault → ⊥
unfolding lag_outcome
no_fault drift ask reply key fault e = no_ask drift reply key (ask_of ask) fault e

-- ---- what was read is judged as the files are

-- a text that the page holds where it is told, of which what was read is judged as all of it
record Stands (IsAlike : List ℕ → List ℕ → Type 0) (page : Page) (read : List ℕ) : Type 0 where
  pub text : List ℕ
  pub holds : HoldsWhere page (λ t. t ≡ text)
  pub same : IsAlike read text

stands : (IsAlike : List ℕ → List ℕ → Type 0) (most : ℕ) (page : Page) (read : List ℕ) → IsAlike read read → ((text : List ℕ) → IsAlike (take most text) text) → ReadsFile most page read → Stands IsAlike page read
stands IsAlike most Untold read own prefix reads = record { text = read; holds = tt; same = own }
stands IsAlike most Absent read own prefix reads = absurd reads
stands IsAlike most (Holds text failed) read own prefix reads = record { text = text; holds = refl; same = subst (λ (r : List ℕ). IsAlike r text) (sym reads) (prefix text) }

key_changed : (drift t_r : ℕ) (read text : List ℕ) (key : Option Key) → ((k : Key) → reply_judged read k t_r ≡ reply_judged text k t_r) → keyed_outcome drift read t_r key ≡ keyed_outcome drift text t_r key
key_changed drift t_r read text None same = refl
key_changed drift t_r read text (Some key) same = ap (replied_outcome drift t_r) (same key)

ask_changed : (drift : ℕ) (reply reply_text key key_text : List ℕ) (t_r : Option ℕ) → ((k : Key) (t : ℕ) → reply_judged reply k t ≡ reply_judged reply_text k t) → key_of key ≡ key_of key_text → asked_outcome drift reply key t_r ≡ asked_outcome drift reply_text key_text t_r
ask_changed drift reply reply_text key key_text None replies keys = refl
ask_changed drift reply reply_text key key_text (Some t_r) replies keys =
    ap (keyed_outcome drift reply t_r) keys ∙ key_changed drift t_r reply reply_text (key_of key_text) (λ k. replies k t_r)

-- texts that are judged alike come to the same
same_outcome : (drift : ℕ) (ask ask_text reply reply_text key key_text : List ℕ) → ask_of ask ≡ ask_of ask_text → ((k : Key) (t : ℕ) → reply_judged reply k t ≡ reply_judged reply_text k t) → key_of key ≡ key_of key_text → lag_outcome drift ask reply key ≡ lag_outcome drift ask_text reply_text key_text
unfolding lag_outcome
same_outcome drift ask ask_text reply reply_text key key_text asks replies keys =
    ap (asked_outcome drift reply key) asks ∙ ask_changed drift reply reply_text key key_text (ask_of ask_text) replies keys

judges : (drift : ℕ) (ask reply key : Page) (asked replied shared : List ℕ) (outcome : OutcomeView) → ReadsFile 14 ask asked → ReadsFile 54 reply replied → ReadsFile 66 key shared → outcome ≡ lag_outcome drift asked replied shared → JudgesTexts drift 3 ask reply key outcome
judges drift ask reply key asked replied shared outcome asks replies keys is =
    let a = stands (λ read text. ask_of read ≡ ask_of text) 14 ask asked refl ask_prefix asks in
    let r = stands (λ read text. (k : Key) (t : ℕ) → reply_judged read k t ≡ reply_judged text k t) 54 reply replied (λ k t. refl) (λ text k t. reply_prefix k t text) replies in
    let k = stands (λ read text. key_of read ≡ key_of text) 66 key shared refl key_prefix keys in
    record {
      all = refl;
      asked = a.text;
      ask_is = a.holds;
      replied = r.text;
      reply_is = r.holds;
      shared = k.text;
      key_is = k.holds;
      judged = is ∙ same_outcome drift asked a.text replied r.text shared k.text a.same r.same k.same;
    }

ends_by : (drift : ℕ) (ask reply key : Page) (outcome : OutcomeView) → ((fault : Fault) → outcome ≡ Failed fault → ⊥) → outcome ≢ Usage → JudgesTexts drift 3 ask reply key outcome → Ends drift 3 ask reply key outcome
ends_by drift ask reply key (Done lines) none other is = is
ends_by drift ask reply key Usage none other is = absurd (other refl)
ends_by drift ask reply key (Refused status line) none other is = is
ends_by drift ask reply key (Failed fault) none other is = absurd (none fault refl)

-- what was judged of texts is no fault, and not that the words were wrong
no_usage_sum : (result : Result ℤ LagTooLarge) → summed_outcome result ≢ Usage
no_usage_sum (Ok lag) e = cc
no_usage_sum (Err why) e = cc

no_usage_time : (drift t_r : ℕ) (result : Result ℕ SyncRefusal) → replied_outcome drift t_r result ≢ Usage
no_usage_time drift t_r (Ok t_s) e = no_usage_sum (lag_judged t_s t_r drift) e
no_usage_time drift t_r (Err why) e = cc

no_usage_key : (drift : ℕ) (reply : List ℕ) (t_r : ℕ) (key : Option Key) → keyed_outcome drift reply t_r key ≢ Usage
no_usage_key drift reply t_r None e = cc
no_usage_key drift reply t_r (Some key) e = no_usage_time drift t_r (reply_judged reply key t_r) e

no_usage_ask : (drift : ℕ) (reply key : List ℕ) (t_r : Option ℕ) → asked_outcome drift reply key t_r ≢ Usage
no_usage_ask drift reply key None e = cc
no_usage_ask drift reply key (Some t_r) e = no_usage_key drift reply t_r (key_of key) e

no_usage : (drift : ℕ) (ask reply key : List ℕ) → lag_outcome drift ask reply key ≢ Usage
unfolding lag_outcome
no_usage drift ask reply key e = no_usage_ask drift reply key (ask_of ask) e

-- the files were read, and then their texts judged
pub performs_judging : {A : Type 0} (arguments : LagArguments) (texts : A) (before now : Told) (asked replied shared : List ℕ) (outcome : OutcomeView) → AreFiles (files_of_lag arguments) → ReadsFile 14 (before.page arguments.ask) asked → ReadsFile 54 (before.page arguments.reply) replied → ReadsFile 66 (before.page arguments.key) shared → Opens (files_of_lag arguments) 3 before now → Causes {A = A} (Ok texts) before.faults now.faults → outcome ≡ lag_outcome arguments.drift asked replied shared → Performs lag arguments before now outcome
performs_judging {A} arguments texts before now asked replied shared outcome named asks replies keys opens causes is =
    let none : (fault : Fault) → outcome ≡ Failed fault → ⊥ = λ fault e. no_fault arguments.drift asked replied shared fault (sym is ∙ e) in
    let still : now.faults ≡ before.faults = causes_none before.faults now.faults causes (λ e. absurd cc) (λ e. absurd cc) (λ e. absurd cc) in
    record {
      named = named;
      opened = 3;
      opens = opens;
      does = ends_by arguments.drift (before.page arguments.ask) (before.page arguments.reply) (before.page arguments.key) outcome none (λ e. no_usage arguments.drift asked replied shared (sym is ∙ e))
          (judges arguments.drift (before.page arguments.ask) (before.page arguments.reply) (before.page arguments.key) asked replied shared outcome asks replies keys is);
      counts = record {
        reads = cause_none before.faults.reads now.faults.reads (ap (λ (f : Faults). f.reads) still) (none faults.Read);
        writes = cause_plain before.faults.writes now.faults.writes (cause_none before.faults.writes now.faults.writes (ap (λ (f : Faults). f.writes) still) (none faults.Write));
        openings = cause_none before.faults.openings now.faults.openings (ap (λ (f : Faults). f.openings) still) (none faults.Open);
      };
    }
