use Rattle.std.proofs.Common.{ap}
use Rattle.tesla_capture.specs.Script.{Discloses, Sends, script}
use Rattle.tesla_convert.specs.Records.{record_of}
use Rattle.tesla_run_send.proofs.Scripts.{answers_record}
use Rattle.tesla_run_send.proofs.converter.SendConverterConverter.convert.Goals as goal

pub returns-in-Carrying-clause-answers : goal.returns-in-Carrying-clause-answers
returns-in-Carrying-clause-answers g c records has =
    answers_record c.send_message.result (record_of script c.args.taken) (Sends c.in-Carrying.reading c.in-Carrying.bytes.now) g.L.SendLedger.stream c.args.self.now.sender c.send_message.new.self.sender records _ _ _ _ _ _ (ap (record_of script) c.in-Carrying.is) has c.send_message.ensures.stream c.send_message.ensures.carries

pub returns-in-Bare-clause-answers : goal.returns-in-Bare-clause-answers
returns-in-Bare-clause-answers g c records has =
    answers_record c.send_disclosure.result (record_of script c.args.taken) (Discloses c.in-Bare.reading) g.L.SendLedger.stream c.args.self.now.sender c.send_disclosure.new.self.sender records _ _ _ _ _ _ (ap (record_of script) c.in-Bare.is) has c.send_disclosure.ensures.stream c.send_disclosure.ensures.carries
