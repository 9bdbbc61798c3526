use Rattle.std.proofs.Common.{refl}
use Rattle.tesla_capture.specs.Script.{Sends}
use Rattle.tesla_sender.specs.Made.{made_message}
use Rattle.tesla_run_send.specs.Script.{message_answer}
use Rattle.tesla_run_send.proofs.Frames.{carries_made}
use Rattle.tesla_run_send.proofs.converter.SendConverter.send_message.Goals as goal

pub returns-in-Ok-clause-carries : goal.returns-in-Ok-clause-carries
returns-in-Ok-clause-carries g c log stands =
    carries_made message_answer (λ frame. refl) (made_message c.args.self.now.sender.stream log c.args.reading c.args.payload.now) c.put_frame.result (Sends c.args.reading c.args.payload.now) log c.message.new.self c.put_frame.new.self.sender c.in-Ok.size c.args.self.now.frame c.message.new.into _ _ _ _ _ _
    (c.in-Ok.ensures.answer log stands) (c.in-Ok.ensures.stands log stands) c.put_frame.ensures.sender c.put_frame.ensures.puts
