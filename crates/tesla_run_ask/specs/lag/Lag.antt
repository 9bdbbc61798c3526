-- What lag comes to.
use Rattle.std.specs.Prelude.{◌≡◌, ◌≢◌, ℕ, ℤ, Option, Some, None, Result, Ok, Err, List, [], ◌∷◌, ◌++◌, codes, decimal}
use Rattle.std.specs.Fmt.{signed_decimal}
use Rattle.tesla_base.specs.declared.names.Key.{Key}
use Rattle.tesla_desk.specs.Outside.{Page}
use Rattle.tesla_front.specs.OutcomeView.{OutcomeView, Done, Usage, Refused, Failed}
use Rattle.tesla_front.specs.Command.{Command}
use Rattle.tesla_front.specs.Files.{HoldsWhere}
use Rattle.tesla_front.specs.Openings.{File}
use Rattle.tesla_front.specs.Refusal.{refused_line}
use Rattle.tesla_front.specs.declared.fault.Fault.TheVariants as faults
use Rattle.tesla_sync.specs.Ask.{ask_of}
use Rattle.tesla_sync.specs.KeyText.{key_of}
use Rattle.tesla_sync.specs.Lag.{lag_judged}
use Rattle.tesla_sync.specs.Reply.{reply_judged}
use Rattle.tesla_sync.specs.declared.lag.LagTooLarge.{LagTooLarge}
use Rattle.tesla_sync.specs.declared.reply.SyncRefusal.{SyncRefusal}
use Rattle.tesla_sync.specs.declared.reply.SyncRefusal.TheVariants.{Malformed, BadTag, OtherAsk}
use Rattle.tesla_run_ask.specs.lag.Arguments.{LagArguments, IsLag, files_of_lag}

-- ---- the lines

-- the line that tells the lag
abbrev pub lag_line : ℤ → List ℕ
lag_line lag = codes "lag " ++ signed_decimal lag ++ codes "\n"

-- the line of a lag that leaves its type
abbrev pub large_line : LagTooLarge → List ℕ
large_line why = codes "lag too large " ++ decimal why.t_s ++ codes " " ++ decimal why.t_r ++ codes " " ++ decimal why.drift ++ codes "\n"

-- the line of a refused reply
abbrev pub reply_line : SyncRefusal → List ℕ
reply_line Malformed = codes "refused reply Malformed\n"
reply_line BadTag = codes "refused reply BadTag\n"
reply_line (OtherAsk t_r) = codes "refused reply OtherAsk " ++ decimal t_r ++ codes "\n"

-- ---- what it comes to

-- the lag, where it fits in its type
abbrev pub summed_outcome : Result ℤ LagTooLarge → OutcomeView
summed_outcome (Ok lag) = Done (lag_line lag)
summed_outcome (Err why) = Refused 9 (large_line why)

-- the lag of a reply, where it is the reply to the ask of that time
abbrev pub replied_outcome : ℕ → ℕ → Result ℕ SyncRefusal → OutcomeView
replied_outcome drift t_r (Ok t_s) = summed_outcome (lag_judged t_s t_r drift)
replied_outcome drift t_r (Err why) = Refused 10 (reply_line why)

-- the same, where there is a key
abbrev pub keyed_outcome : ℕ → List ℕ → ℕ → Option Key → OutcomeView
keyed_outcome drift reply t_r None = Refused 3 (refused_line (codes "key") 0 (codes "BadKey"))
keyed_outcome drift reply t_r (Some key) = replied_outcome drift t_r (reply_judged reply key t_r)

-- the same, where there is an ask
abbrev pub asked_outcome : ℕ → List ℕ → List ℕ → Option ℕ → OutcomeView
asked_outcome drift reply key None = Refused 3 (refused_line (codes "ask") 0 (codes "BadAsk"))
asked_outcome drift reply key (Some t_r) = keyed_outcome drift reply t_r (key_of key)

-- what a drift and the texts of an ask, a reply and a key come to: the ask is judged first, then the key, then the reply, then the lag
unfoldable pub lag_outcome : ℕ → List ℕ → List ℕ → List ℕ → OutcomeView
lag_outcome drift ask reply key = asked_outcome drift reply key (ask_of ask)

-- all three files were asked to be opened, and this is what their texts come to: where a page is told, its text is that of the page
pub record JudgesTexts (drift opened : ℕ) (ask reply key : Page) (outcome : OutcomeView) : Type 0 where
  pub all : opened ≡ 3
  pub asked : List ℕ
  pub ask_is : HoldsWhere ask (λ text. text ≡ asked)
  pub replied : List ℕ
  pub reply_is : HoldsWhere reply (λ text. text ≡ replied)
  pub shared : List ℕ
  pub key_is : HoldsWhere key (λ text. text ≡ shared)
  pub judged : outcome ≡ lag_outcome drift asked replied shared

-- how the command ends: with what the texts come to, or something else went wrong outside, but no write
abbrev pub Ends : ℕ → ℕ → Page → Page → Page → OutcomeView → Type 0
Ends drift opened ask reply key (Failed fault) = fault ≢ faults.Write
Ends drift opened ask reply key Usage = ⊥
Ends drift opened ask reply key outcome = JudgesTexts drift opened ask reply key outcome

-- a run of the command, of which so many files were asked to be opened, with what is told of ASK, REPLY and KEY before it, and what it came to
abbrev pub DoesLag : LagArguments → ℕ → List File → List File → OutcomeView → Type 0
DoesLag arguments opened (ask ∷ reply ∷ key ∷ []) after outcome = Ends arguments.drift opened ask.page reply.page key.page outcome
DoesLag arguments opened before after outcome = ⊥

-- the command
abbrev pub lag : Command
lag = record { Arguments = LagArguments; IsForm = IsLag; files = files_of_lag; Does = DoesLag }
