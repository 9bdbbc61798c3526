use Rattle.std.proofs.Common.{refl}
use Rattle.tesla_capture.specs.Script.{Discloses}
use Rattle.tesla_sender.specs.Made.{made_disclosure}
use Rattle.tesla_run_send.specs.Script.{disclosure_answer}
use Rattle.tesla_run_send.proofs.Frames.{carries_made}
use Rattle.tesla_run_send.proofs.converter.SendConverter.send_disclosure.Goals as goal

pub returns-in-Ok-clause-carries : goal.returns-in-Ok-clause-carries
returns-in-Ok-clause-carries g c log stands =
    carries_made disclosure_answer (λ frame. refl) (made_disclosure c.args.self.now.sender.stream log c.args.reading) c.put_frame.result (Discloses c.args.reading) log c.disclose.new.self c.put_frame.new.self.sender c.in-Ok.size c.args.self.now.frame c.disclose.new.into _ _ _ _ _ _
    (c.in-Ok.ensures.answer log stands) (c.in-Ok.ensures.stands log stands) c.put_frame.ensures.sender c.put_frame.ensures.puts
