-- What the inner steps of reply come to.
use Rattle.std.specs.Prelude.{◌≡◌, ◌⊎◌, ℕ, Result, Ok, Err, List, [], ◌∷◌, codes}
use Rattle.tesla_base.specs.declared.names.Key.{Key}
use Rattle.tesla_desk.specs.Outside.{Told, OfSink}
use Rattle.tesla_front.specs.OutcomeView.{OutcomeView, stop_view}
use Rattle.tesla_front.specs.Openings.{OpensSome}
use Rattle.tesla_front.specs.declared.refusal.Stop.{Stop}
use Rattle.tesla_sync.specs.Ask.{IsAsk}
use Rattle.tesla_sync.specs.KeyText.{IsKeyText}
use Rattle.tesla_sync.specs.Reply.{IsReply}
use Rattle.tesla_run_ask.specs.Arguments.{ReplyArguments}
use Rattle.tesla_run_ask.specs.Replying.{IsNoAsk, IsNoKey, input_refused, replied_line}
use Rattle.tesla_run_ask.specs.Writing.{WritesMessage}

-- one of two texts is refused: the ask, or else the key
abbrev pub RefusesTexts : List ℕ → List ℕ → OutcomeView → Type 0
RefusesTexts ask key outcome =
    (IsNoAsk ask × (outcome ≡ input_refused (codes "ask") (codes "BadAsk")))
    ⊎ (((t_r : ℕ) × IsAsk ask t_r) × IsNoKey key × (outcome ≡ input_refused (codes "key") (codes "BadKey")))

-- the receiver's time and the shared key that two texts spell, or which is refused
abbrev pub Judges : List ℕ → List ℕ → Result (ℕ × Key) Stop → Type 0
Judges ask key (Ok both) = IsAsk ask both.0 × IsKeyText key both.1
Judges ask key (Err stop) = RefusesTexts ask key (stop_view stop)

-- the reply to an ask under a key, which two texts spell, was written, and the output alone was asked for
pub record AnswersTexts (arguments : ReplyArguments) (ask key : List ℕ) (old new : Told) (outcome : OutcomeView) : Type 0 where
  pub t_r : ℕ
  pub shared : Key
  pub asked : IsAsk ask t_r
  pub found : IsKeyText key shared
  pub message : List ℕ
  pub is_reply : IsReply message shared t_r arguments.reading
  pub writes : WritesMessage message (replied_line arguments.reading) (old.page arguments.out) (new.page arguments.out) outcome
  pub opens : OpensSome (OfSink arguments.out ∷ []) old new

-- what two texts come to: one is refused, and nothing was done; or the reply was written
abbrev pub Answers : ReplyArguments → List ℕ → List ℕ → Told → Told → OutcomeView → Type 0
Answers arguments ask key old new outcome = (RefusesTexts ask key outcome × (new ≡ old)) ⊎ AnswersTexts arguments ask key old new outcome
