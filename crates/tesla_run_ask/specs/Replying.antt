-- What reply comes to, and what REPLY-OUT holds.
use Rattle.std.specs.Prelude.{◌≡◌, ◌≢◌, ◌⊎◌, ◌≤◌, ℕ, List, [], ◌∷◌, codes}
use Rattle.tesla_base.specs.declared.names.Key.{Key}
use Rattle.tesla_desk.specs.Outside.{Page}
use Rattle.tesla_front.specs.OutcomeView.{OutcomeView, Refused, Failed}
use Rattle.tesla_front.specs.Command.{Command}
use Rattle.tesla_front.specs.Files.{HoldsWhere}
use Rattle.tesla_front.specs.Lines.{count_line}
use Rattle.tesla_front.specs.Openings.{File}
use Rattle.tesla_front.specs.Refusal.{refused_line}
use Rattle.tesla_front.specs.declared.fault.Fault.{Fault}
use Rattle.tesla_front.specs.declared.fault.Fault.TheVariants as faults
use Rattle.tesla_sync.specs.Ask.{IsAsk}
use Rattle.tesla_sync.specs.KeyText.{IsKeyText}
use Rattle.tesla_sync.specs.Reply.{IsReply}
use Rattle.tesla_run_ask.specs.Arguments.{ReplyArguments, IsReplyForm, files_of_reply}
use Rattle.tesla_run_ask.specs.Writing.{WritesMessage}

-- the line that tells the reading that was replied at
abbrev pub replied_line : ℕ → List ℕ
replied_line reading = count_line (codes "replied") reading

-- what an input that is refused comes to, told the name of the file and of the kind
abbrev pub input_refused : List ℕ → List ℕ → OutcomeView
input_refused file kind = Refused 3 (refused_line file 0 kind)

-- the text is no ask
abbrev pub IsNoAsk : List ℕ → Type 0
IsNoAsk text = (t_r : ℕ) → IsAsk text t_r → ⊥

-- the text is no key
abbrev pub IsNoKey : List ℕ → Type 0
IsNoKey text = (key : Key) → IsKeyText text key → ⊥

-- there is a file
abbrev pub IsThere : Page → Type 0
IsThere page = HoldsWhere page (λ text. Unit {0})

-- ASK or KEY wasn't read, and no file behind it was asked for
pub record ReadsNot (opened : ℕ) (ask : Page) (outcome : OutcomeView) : Type 0 where
  pub stops : (opened ≤ 1) ⊎ ((opened ≤ 2) × IsThere ask)
  pub fault : Fault
  pub failed : outcome ≡ Failed fault
  pub no_write : fault ≢ faults.Write

-- both were read, ASK is no ask, and REPLY-OUT wasn't asked for
pub record RefusesAsk (opened : ℕ) (ask key : Page) (outcome : OutcomeView) : Type 0 where
  pub both : opened ≡ 2
  pub read : IsThere key
  pub none : HoldsWhere ask IsNoAsk
  pub read_is : outcome ≡ input_refused (codes "ask") (codes "BadAsk")

-- both were read, ASK is an ask and KEY is no key, and REPLY-OUT wasn't asked for
pub record RefusesKey (opened : ℕ) (ask key : Page) (outcome : OutcomeView) : Type 0 where
  pub both : opened ≡ 2
  pub asked : (t_r : ℕ) × HoldsWhere ask (λ text. IsAsk text t_r)
  pub none : HoldsWhere key IsNoKey
  pub read_is : outcome ≡ input_refused (codes "key") (codes "BadKey")

-- the reply to the ask in ASK at this reading, under the key in KEY, was written
pub record Replies (reading : ℕ) (ask key before after : Page) (outcome : OutcomeView) : Type 0 where
  pub t_r : ℕ
  pub shared : Key
  pub asked : HoldsWhere ask (λ text. IsAsk text t_r)
  pub found : HoldsWhere key (λ text. IsKeyText text shared)
  pub message : List ℕ
  pub is_reply : IsReply message shared t_r reading
  pub writes : WritesMessage message (replied_line reading) before after outcome

-- a run of the command, of which so many files were asked to be opened, with what is told of ASK, KEY and REPLY-OUT before and after it, and what it came to
abbrev pub DoesReply : ReplyArguments → ℕ → List File → List File → OutcomeView → Type 0
DoesReply arguments opened (ask ∷ key ∷ out ∷ []) (ask_after ∷ key_after ∷ out_after ∷ []) outcome =
    ReadsNot opened ask.page outcome ⊎ RefusesAsk opened ask.page key.page outcome ⊎ RefusesKey opened ask.page key.page outcome
    ⊎ Replies arguments.reading ask.page key.page out.page out_after.page outcome
DoesReply arguments opened before after outcome = ⊥

-- the command
abbrev pub reply : Command
reply = record { Arguments = ReplyArguments; IsForm = IsReplyForm; files = files_of_reply; Does = DoesReply }
