use Rattle.std.proofs.Common.{◌∙◌, ◌++◌, ap, arith}
use Rattle.tesla_recorder.specs.Recorded.{with_text}
use Rattle.tesla_recorder.proofs.Texts.{puts_more}
use Rattle.tesla_recorder.proofs.tail.LastEntries.put.Goals as goal

pub invariant_of-self : goal.invariant_of-self
invariant_of-self c =
    (puts_more c.self.inside.bytes c.self.inside.lengths c.make_room.new.bytes c.make_room.new.lengths c.extend_from_slice.new.self c.extend_from_slice-2.new.self c.extend_from_slice-3.new.self c.args.header.now c.args.body.now c.args.back.now _
    c.self.invariant c.requires (omega (arith, c.requires)) c.make_room.ensures.lengths c.make_room.ensures.bytes c.extend_from_slice.ensures c.extend_from_slice-2.ensures c.extend_from_slice-3.ensures).0

pub returns : goal.returns
returns c =
    (puts_more c.self.inside.bytes c.self.inside.lengths c.make_room.new.bytes c.make_room.new.lengths c.extend_from_slice.new.self c.extend_from_slice-2.new.self c.extend_from_slice-3.new.self c.args.header.now c.args.body.now c.args.back.now _
    c.self.invariant c.requires (omega (arith, c.requires)) c.make_room.ensures.lengths c.make_room.ensures.bytes c.extend_from_slice.ensures c.extend_from_slice-2.ensures c.extend_from_slice-3.ensures).1
    ∙ ap (λ tail. with_text tail (c.args.header.now ++ c.args.body.now ++ c.args.back.now)) c.self.view_is
