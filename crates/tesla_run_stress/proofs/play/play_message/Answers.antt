use Rattle.std.proofs.Common.{◌∙◌, ℕ, sym, ap}
use Rattle.tesla_run_stress.specs.Base.{base_stream}
use Rattle.tesla_run_stress.specs.Load.{message_text}
use Rattle.tesla_run_stress.proofs.Loads.{message_played}
use Rattle.tesla_run_stress.proofs.play.play_message.Goals as goal

pub returns-clause-played : goal.returns-clause-played
returns-clause-played g c = λ cfg records seed is was.
    message_played cfg records seed c.args.k c.args.choice c.keep-before.new.self.count _ _ _ is (c.send-length.ensures.text ∙ ap (λ (n : ℕ). message_text (base_stream n) c.args.k) (sym c.keep-before.ensures.count)) c.keep-before.ensures.before
    (c.play_take.ensures.played cfg _ (c.play_arrivals.ensures.played cfg records was))
