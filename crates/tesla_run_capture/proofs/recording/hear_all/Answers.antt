use Rattle.std.proofs.Common.{◌≡◌, ℕ, suc, true, rules, refl, sym, ◌∙◌, subst, take, arith}
use Rattle.std.proofs.lemmas.List.{length-take}
use Rattle.tesla_capture.specs.Gathering.{gathered}
use Rattle.tesla_run_capture.proofs.Kept.{hears_broken, hears_lost, hears_put, hears_rest}
use Rattle.tesla_run_capture.proofs.Pieces.{next_piece}
use Rattle.tesla_run_capture.proofs.recording.hear_all.Goals as goal

pub put-requires-clause-asked : goal.put-requires-clause-asked
put-requires-clause-asked g c =
    let count = c.loop.recorder.count in
    (count, c.requires.asks count (take c.in-Datagram.length c.next-in-loop.new.into) (c.in-Datagram.ensures.numbered count c.loop.invariant.number).0)

pub put-requires-clause-permitted : goal.put-requires-clause-permitted
put-requires-clause-permitted g c =
    c.requires.due c.loop.output (gathered c.loop.recorder.gatherer) c.loop.invariant.output_name (next_piece g.C.Clock.read_for c.loop.recorder _ _ _ _ _ _ c.loop.recorder.most c.requires.begun c.loop.invariant.hears)

pub write-requires : goal.write-requires
write-requires g c =
    c.requires.due c.loop.output (gathered c.loop.recorder.gatherer) c.loop.invariant.output_name (next_piece g.C.Clock.read_for c.loop.recorder _ _ _ _ _ _ c.loop.recorder.most c.requires.begun c.loop.invariant.hears)

pub returns-then-not-put-clause-hears : goal.returns-then-not-put-clause-hears
returns-then-not-put-clause-hears g c =
    hears_lost g.C.Clock.may_ask g.C.Clock.read_for (take c.in-Datagram.length c.next-in-loop.new.into) c.loop.recorder c.put.new.self _ _ _ _ _ _ _ _ _ (omega (arith, c.in-Datagram.ensures.step.fits, length-take c.in-Datagram.length c.next-in-loop.new.into)) c.loop.recorder.gatherer.within (c.if-is_full.ensures.room refl) c.loop.invariant.hears c.in-Datagram.ensures.step.left c.if-not-put.ensures.puts

pub loop-preserved-else-not-put : goal.loop-preserved-else-not-put
loop-preserved-else-not-put g c =
    let count = c.loop.recorder.count in
    let bytes = take c.in-Datagram.length c.next-in-loop.new.into in
    let numbered = c.in-Datagram.ensures.numbered count c.loop.invariant.number in
    let one_more : suc count ≡ c.put.new.self.count = omega (arith, c.if-not-put.ensures.puts.count refl) in record {
      size = search rules;
      hears = hears_put g.C.Clock.may_ask g.C.Clock.read_for bytes c.loop.recorder c.put.new.self _ _ _ _ _ _ _ _ _ c.loop.invariant.hears c.in-Datagram.ensures.step.left (c.requires.asks count bytes numbered.0) c.if-not-put.ensures.puts;
      number = subst (λ (n : ℕ). g.K.Link.has_brought c.next-in-loop.new.self n ≡ true) one_more numbered.1;
      read = c.in-Datagram.ensures.cause.still (λ e. absurd cc) ∙ c.loop.invariant.read;
      write = c.if-not-put.ensures.cause.still (λ e. absurd cc) ∙ c.loop.invariant.write;
      link_name = c.in-Datagram.ensures.name ∙ c.loop.invariant.link_name;
      output_name = c.put.ensures.name ∙ c.loop.invariant.output_name;
    }

pub returns-then-not-write-clause-hears : goal.returns-then-not-write-clause-hears
returns-then-not-write-clause-hears g c =
    hears_broken g.C.Clock.read_for c.loop.recorder _ _ _ _ _ _ _ _ c.loop.recorder.gatherer.within c.loop.recorder.most c.loop.invariant.hears c.in-Quiet.ensures.step c.write.ensures.prefix

pub loop-preserved : goal.loop-preserved
loop-preserved g c = record {
  size = search rules;
  hears = hears_rest g.C.Clock.read_for c.loop.recorder c.write.new.self _ _ _ _ _ _ _ _ c.loop.invariant.hears c.in-Quiet.ensures.step (c.if-not-write.ensures.all refl) (c.if-not-write.ensures.empty refl) c.write.ensures.counts.0 c.write.ensures.counts.1;
  number = subst (λ (n : ℕ). g.K.Link.has_brought c.next-in-loop.new.self n ≡ true) (sym c.write.ensures.counts.0) (c.in-Quiet.ensures.numbered c.loop.recorder.count c.loop.invariant.number);
  read = c.in-Quiet.ensures.cause.still (λ e. absurd cc) ∙ c.loop.invariant.read;
  write = c.if-not-write.ensures.cause.still (λ e. absurd cc) ∙ c.loop.invariant.write;
  link_name = c.in-Quiet.ensures.name ∙ c.loop.invariant.link_name;
  output_name = c.write.ensures.name ∙ c.loop.invariant.output_name;
}
