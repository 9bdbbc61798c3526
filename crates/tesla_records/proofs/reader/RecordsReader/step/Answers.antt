use Rattle.std.proofs.Common.{◌≡◌, ◌∙◌, ℕ, ◌<◌, ap, sym, subst, arith}
use Rattle.std.specs.Option.{option_map}
use Rattle.tesla_records.specs.Steps.{Progress, pending, ahead, Gives}
use Rattle.tesla_records.specs.Pieces as pieces
use Rattle.tesla_records.proofs.NextRecord.{head_some}
use Rattle.tesla_records.proofs.StepGives.{bad_gives, head_gives}
use Rattle.tesla_records.proofs.Moved.{heads_read}
use Rattle.tesla_records.proofs.reader.RecordsReader.step.Goals as goal

pub returns-in-Whole-clause-gives : goal.returns-in-Whole-clause-gives
returns-in-Whole-clause-gives g c rest e =
    let next = c.next_record-in-Whole in
    let start : c.args.self.now.place ≡ 0 = omega arith in
    let told = ap (λ (p : Progress _). ahead p (g.S.Source.left c.args.source.now)) c.self.view_is ∙ e in
    let at : c.take_head.new.self.place ≡ g.F.Format.grammar.head_size = omega (arith, c.take_head.ensures.place, c.in-Whole.ensures.place) in
    subst (λ (offset : ℕ). Gives g.F.Format.grammar g.F.Format.kind_of (λ taken. g.F.Format.shown taken next.new.room) next.result offset rest next.new.self.place (ahead next.new.self (g.S.Source.left next.new.source))) (sym start)
    (head_gives g.F.Format.grammar g.met.F.Format.is g.F.Format.head_of g.F.Format.kind_of next.result c.in-Whole.head c.take_head.new.self.place next.new.self.place (pieces.pending c.find_head.new.self) (pending c.take_head.new.self) rest (λ taken. g.F.Format.shown taken next.new.room) (g.S.Source.left c.find_head.new.source) _
    (c.in-Whole.ensures.finds rest told) c.take_head.ensures.limits c.in-Whole.ensures.whole c.take_head.ensures.spelled c.take_head.ensures.pending at next.ensures.gives)

pub returns-in-Whole-clause-heads : goal.returns-in-Whole-clause-heads
returns-in-Whole-clause-heads g c =
    let next = c.next_record-in-Whole in
    let start : c.args.self.now.place ≡ 0 = omega arith in
    let moved : 0 < next.new.self.place = omega (arith, c.take_head.ensures.place, next.ensures.onward, head_some g.F.Format.grammar g.met.F.Format.is) in
    heads_read g.F.Format.grammar c.args.self.now.place next.new.self.place (option_map g.F.Format.head_of c.args.self.now.head) (option_map g.F.Format.head_of next.new.self.head) (g.F.Format.head_of c.in-Whole.head) start moved
    (ap (option_map g.F.Format.head_of) (next.ensures.head ∙ c.take_head.ensures.head)) c.take_head.ensures.limits

pub returns-in-Bad-clause-gives : goal.returns-in-Bad-clause-gives
returns-in-Bad-clause-gives g c rest e =
    let start : c.args.self.now.place ≡ 0 = omega arith in
    let told = ap (λ (p : Progress _). ahead p (g.S.Source.left c.args.source.now)) c.self.view_is ∙ e in
    bad_gives g.F.Format.grammar g.F.Format.head_of c.args.self.now.place (pieces.pending c.find_head.new.self) rest _ start (c.in-Bad.ensures.finds rest told)
