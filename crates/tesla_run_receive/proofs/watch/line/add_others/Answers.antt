use Rattle.std.proofs.Common.{◌∙◌, ◌<◌, arith, length}
use Rattle.std.proofs.lemmas.List.{length-map}
use Rattle.arrayvec.specs.ArrayString.{array_string_len}
use Rattle.tesla_front.specs.Parts.{texts_of}
use Rattle.tesla_run_receive.proofs.watch.Noted.{name_fits, name_short, name_text, others_end, others_next}
use Rattle.tesla_run_receive.proofs.watch.line.add_others.Goals as goal

pub push_str-requires-in-loop-place : goal.push_str-requires-in-loop-place
push_str-requires-in-loop-place c =
    let loop = c.loop-place in
    (omega arith, name_fits c.args.names.now loop.place _ (omega (arith, c.loop-place-test.true)) (array_string_len c.args.line.now) _ c.requires.short (omega (arith, loop.invariant.few, c.push_str.ensures.len)) c.requires.room)

pub add_number-requires-clause-room : goal.add_number-requires-clause-room
add_number-requires-clause-room c =
    let loop = c.loop-place in
    let below : loop.place < length c.args.names.now = omega (arith, c.loop-place-test.true) in
    let own = name_short c.args.names.now loop.place _ below _ _ c.requires.short c.push_str-in-loop-place.ensures.len in
    omega (arith, own, below, loop.invariant.few, c.push_str.ensures.len, c.requires.short.0, c.requires.room)

pub loop-place-preserved : goal.loop-place-preserved
loop-place-preserved c =
    let loop = c.loop-place in
    let below : loop.place < length c.args.names.now = omega (arith, c.loop-place-test.true) in
    let own = name_short c.args.names.now loop.place _ below _ _ c.requires.short c.push_str-in-loop-place.ensures.len in
    let counted = length-map c.args.names.now (λ name. name.now) in record {
      text = others_next _ _ _ _ _ _ loop.place (texts_of c.args.names.now) c.args.counts.now c.push_str.ensures.bytes c.push_str-in-loop-place.ensures.bytes c.add_number.ensures.text (name_text c.args.names.now loop.place _ below) c.from.ensures (omega (arith, below, counted)) (omega (arith, below, c.requires.same)) ∙ loop.invariant.text;
      few = omega (arith, own, loop.invariant.few, c.push_str.ensures.len, c.add_number.ensures.few);
    }

pub returns-clause-text : goal.returns-clause-text
returns-clause-text c = let counted = length-map c.args.names.now (λ name. name.now) in others_end _ _ (texts_of c.args.names.now) c.args.counts.now c.loop-place.place (omega (arith, counted)) c.loop-place.invariant.text
