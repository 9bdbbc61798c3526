use Rattle.std.proofs.Common.{◌≡◌, List, [], ◌∷◌, ◌++◌, length, take, ap, subst, ◌∙◌}
use Rattle.std.specs.Prelude.{Err, IsOk, is_ok}
use Rattle.tesla_receiver.specs.Entries.{Entry}
use Rattle.tesla_sender.specs.Made.{Call, Message, made_message}
use Rattle.tesla_world.specs.Joint.{JointState, StandsFor}
use Rattle.tesla_world.specs.World.{Moment}
use Rattle.tesla_world.proofs.Standing.{made_refused, made_spelled, message_sent, sent_by}
use Rattle.tesla_world.proofs.joint.Joint.send.Goals as goal

pub returns-in-Ok-clause-sends : goal.returns-in-Ok-clause-sends
returns-in-Ok-clause-sends g c =
    let a = c.args in
    let s = c.self.inside in
    let room = c.message.new.into in
    let more : c.push.new.self.sent ≡ s.frames.sent ++ take c.in-Ok.length room ∷ [] =
    c.push.ensures.sent ∙ ap (λ frames. frames ++ c.new.result ∷ []) c.make_room.ensures.sent ∙ ap (λ frame. s.frames.sent ++ frame ∷ []) c.new.ensures in
    sent_by s.sender s.receiver s.frames.sent s.frames.reserved a.self.now c.self.view_is c.message.new.self (Message c.args.reading c.args.payload.now) c.count-number.result (take c.in-Ok.length room) c.push.new.self.sent c.push.new.self.reserved
    (c.count-number.ensures ∙ ap length c.make_room.ensures.sent) more c.message.ensures.stream
    c.in-Ok.ensures.stands
    (λ log stands. message_sent s.sender.stream log c.args.reading c.args.payload.now c.in-Ok.length _ room (c.in-Ok.ensures.answer log stands) (c.in-Ok.ensures.spelled log stands))

pub returns-in-Ok-clause-refuses : goal.returns-in-Ok-clause-refuses
returns-in-Ok-clause-refuses g c =
    let s = c.self.inside in
    subst (λ (joint : JointState). (world : List Moment) (log : List Call) (history : List Entry) → StandsFor joint world log history → IsOk (made_message joint.sender.stream log c.args.reading c.args.payload.now)) c.self.view_is
    (λ world log history stands. ap is_ok (made_spelled c.in-Ok.length (made_message s.sender.stream log c.args.reading c.args.payload.now) _ c.message.new.into (c.in-Ok.ensures.answer log stands.sends) (c.in-Ok.ensures.spelled log stands.sends)).is)

pub returns-in-Err-clause-refuses : goal.returns-in-Err-clause-refuses
returns-in-Err-clause-refuses g c =
    let s = c.self.inside in
    subst (λ (joint : JointState). (world : List Moment) (log : List Call) (history : List Entry) → StandsFor joint world log history → made_message joint.sender.stream log c.args.reading c.args.payload.now ≡ Err c.in-Err.refusal) c.self.view_is
    (λ world log history stands. made_refused c.in-Err.refusal (made_message s.sender.stream log c.args.reading c.args.payload.now) _ c.message.new.into (c.in-Err.ensures.answer log stands.sends))
