use Rattle.std.proofs.Common.{◌<◌, ◌^◌, rules}
use Rattle.tesla_commit.specs.Parts.{Parts}
use Rattle.tesla_commit.proofs.RowLaws.{setup_is}
use Rattle.tesla_commit.proofs.setup.Setup.of_version.Goals as goal

pub assemble-requires-clause-limits : goal.assemble-requires-clause-limits
assemble-requires-clause-limits c =
    let parts : Parts = record { version = c.args.version; stream = c.args.stream; times = c.args.schedule; tag_length = c.args.tag; rows = c.args.rows.now } in
    let stream : parts.stream.0 < 2 ^ 64 = search rules in
    rw c.list_of-rows.ensures (setup_is parts _ stream c.last.ensures.start c.last.ensures.limits c.in_ok-judge_tag.ensures.limits (rw c.last.ensures.value at c.in_ok-judge_rows.ensures.judged))
