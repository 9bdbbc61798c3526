use Rattle.tesla_records.specs.Steps.{pending}
use Rattle.tesla_records.proofs.StepGives.{whole_gives, refused_gives, end_gives}
use Rattle.tesla_records.proofs.Moved.{whole_moves}
use Rattle.tesla_records.proofs.reader.RecordsReader.take_record.Goals as goal

pub returns-in-Record-clause-gives : goal.returns-in-Record-clause-gives
returns-in-Record-clause-gives g c rest left h =
    let done = c.take_whole.ensures in
    whole_gives g.F.Format.grammar g.F.Format.kind_of c.args.found c.args.self.now.place c.in-Record.size c.take_whole.new.self.place (g.F.Format.shown c.take_whole.result c.take_whole.new.room) (pending c.args.self.now) (pending c.take_whole.new.self) rest left c.in-Record.is c.requires.placed h c.requires.whole done.took done.pending done.place

pub returns-in-Record-clause-moves : goal.returns-in-Record-clause-moves
returns-in-Record-clause-moves g c =
    let done = c.take_whole.ensures in
    whole_moves g.F.Format.grammar c.args.found c.args.self.now.place c.take_whole.new.self.place c.in-Record.size (g.F.Format.shown c.take_whole.result c.take_whole.new.room) (pending c.args.self.now) c.in-Record.is c.requires.placed c.requires.whole done.took done.place

pub returns-in-Refused-clause-gives : goal.returns-in-Refused-clause-gives
returns-in-Refused-clause-gives g c rest left h =
    refused_gives g.F.Format.grammar g.F.Format.kind_of c.args.found c.args.self.now.place c.place.result c.in-Refused.refusal (pending c.args.self.now) rest left c.in-Refused.is c.place.ensures.value c.requires.placed h

pub returns-in-End-clause-gives : goal.returns-in-End-clause-gives
returns-in-End-clause-gives g c rest left h =
    end_gives g.F.Format.grammar g.F.Format.kind_of c.args.found c.args.self.now.place (pending c.args.self.now) rest left c.in-End.is c.requires.placed h
