use Rattle.std.proofs.Common.{◌≡◌, ◌∙◌, ◌++◌, [], List, ℕ, Option, cond, option_copied, option_map, ap, subst, sym, arith, rules}
use Rattle.std.proofs.lemmas.Result.{IfOk-weaker}
use Rattle.tesla_capture.specs.Gathering.{gathered, Gathers}
use Rattle.tesla_desk.proofs.Told.{prefix_longer}
use Rattle.tesla_frame.specs.Frame.{Frame}
use Rattle.tesla_frame.specs.Reading.{frame_of}
use Rattle.tesla_frame.specs.Shown.{shown}
use Rattle.tesla_receiver.specs.History.{Event, Arrives, entry_of}
use Rattle.tesla_receiver.specs.Events.{after_events}
use Rattle.tesla_receiver.specs.Entries.{Arrival}
use Rattle.tesla_early.specs.Early.{message_in}
use Rattle.tesla_run_replay.specs.Playing.{event_of}
use Rattle.tesla_run_early.specs.Playing.{early_rule, promises}
use Rattle.tesla_run_early.specs.Records.{early_record_in, message_text}
use Rattle.tesla_run_early.proofs.Counted.{counts_on, stands_on}
use Rattle.tesla_run_early.proofs.Texts.{counts_one, message_written}
use Rattle.tesla_run_early.proofs.target.EarlyTargetTarget.play.Goals as goal

pub returns-in-Arrival-clause-rule : goal.returns-in-Arrival-clause-rule
returns-in-Arrival-clause-rule g c = ap early_rule c.arrive_read-answer.ensures.config

pub returns-in-Given-clause-rule : goal.returns-in-Given-clause-rule
returns-in-Given-clause-rule g c = ap early_rule c.take.ensures.config

pub returns-in-Empty-clause-rule : goal.returns-in-Empty-clause-rule
returns-in-Empty-clause-rule g c = ap early_rule c.take.ensures.config

pub returns-in-End-clause-rule : goal.returns-in-End-clause-rule
returns-in-End-clause-rule g c = ap early_rule c.end.ensures.config

pub returns-in-Arrival-clause-has : goal.returns-in-Arrival-clause-has
returns-in-Arrival-clause-has g c =
    let answer = c.arrive_read-answer in let config = c.args.self.now.early.receiver.config in
    let arrival : Arrival = record { ingest = 0; reading = c.in-Arrival.reading; bytes = c.in-Arrival.datagram.now; verdict = answer.result.verdict } in
    IfOk-weaker c.put_or_fault.result _ _
    (λ x put es stands. let h = after_events config [] es in let entry = entry_of config h (Arrives 0 c.in-Arrival.reading c.in-Arrival.datagram.now) in
    let one = counts_one c.args.self.now.early.promises.most h arrival entry answer.result.early (answer.ensures.answer h stands.stands) (answer.ensures.early h stands.stands) in
    let count = counts_on _ h entry _ _ _ _ stands.most stands.few c.requires.few c.counted-self.ensures one in
    stands_on _ _ es _ _ _ _ _ _ answer.ensures.config (ap event_of c.in-Arrival.is) answer.ensures.most answer.ensures.calls count.0 count.1 stands (answer.ensures.stands _)) c.put_or_fault.ensures.put

pub returns-in-Arrival-clause-writes : goal.returns-in-Arrival-clause-writes
returns-in-Arrival-clause-writes g c =
    let answer = c.arrive_read-answer in let config = c.args.self.now.early.receiver.config in
    let frame : option_map shown (option_copied c.as_ref-frame.result) ≡ frame_of c.in-Arrival.datagram.now = search rules in
    let arrival : Arrival = record { ingest = 0; reading = c.in-Arrival.reading; bytes = c.in-Arrival.datagram.now; verdict = answer.result.verdict } in
    IfOk-weaker c.put_or_fault.result _ _
    (λ x put es stands. let h = after_events config [] es in let entry = entry_of config h (Arrives 0 c.in-Arrival.reading c.in-Arrival.datagram.now) in
    let text = message_written c.args.self.now.early.promises.most h arrival entry answer.result.early (answer.ensures.answer h stands.stands) (answer.ensures.early h stands.stands) in
    subst (λ (t : List ℕ). Gathers (g.O.Sink.written c.args.out.now) (g.O.Sink.written c.put_message.new.out) (gathered c.put_message.new.gatherer) (gathered c.args.gatherer.now ++ t))
    (ap (λ (f : Option Frame). cond answer.result.early (message_text (message_in f)) []) frame ∙ text
    ∙ ap (λ (most : ℕ). early_record_in most 0 h entry) stands.most ∙ ap (λ (e : Event). early_record_in promises 0 h (entry_of config h e)) (sym (ap event_of c.in-Arrival.is))) (c.put_message.ensures.writes put)) c.put_or_fault.ensures.put

pub returns-in-Arrival-clause-halts : goal.returns-in-Arrival-clause-halts
returns-in-Arrival-clause-halts g c failed es stands = prefix_longer _ _ _ _ (c.put_message.ensures.prefix (c.put_or_fault.ensures.fault failed))

pub returns-in-Given-clause-has : goal.returns-in-Given-clause-has
returns-in-Given-clause-has g c =
    IfOk-weaker c.put_or_fault-in-Given.result _ _
    (λ x put es stands. stands_on _ _ es _ _ _ _ _ _ c.take.ensures.config (ap event_of c.in-Take.is) c.take.ensures.most c.take.ensures.calls (omega arith) (omega arith) stands (c.take.ensures.stands _)) c.put_or_fault-in-Given.ensures.put

pub returns-in-Given-clause-halts : goal.returns-in-Given-clause-halts
returns-in-Given-clause-halts g c failed es stands = prefix_longer _ _ _ _ (c.put_marked.ensures.prefix (c.put_or_fault-in-Given.ensures.fault failed))

pub returns-in-Empty-clause-has : goal.returns-in-Empty-clause-has
returns-in-Empty-clause-has g c es stands =
    stands_on _ _ es _ _ _ _ _ _ c.take.ensures.config (ap event_of c.in-Take.is) c.take.ensures.most c.take.ensures.calls (omega arith) (omega arith) stands (c.take.ensures.stands _)

pub returns-in-End-clause-has : goal.returns-in-End-clause-has
returns-in-End-clause-has g c es stands =
    stands_on _ _ es _ _ _ _ _ _ c.end.ensures.config (ap event_of c.in-End.is) c.end.ensures.most c.end.ensures.calls (omega arith) (omega arith) stands (c.end.ensures.stands _)
