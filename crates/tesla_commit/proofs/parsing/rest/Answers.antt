use Rattle.std.proofs.Common.{◌<◌, ◌^◌, rules}
use Rattle.tesla_commit.specs.Parts.{Parts}
use Rattle.tesla_commit.proofs.RowLaws.{setup_is}
use Rattle.tesla_commit.proofs.ChainLaws.{chains_are}
use Rattle.tesla_commit.proofs.Spelled.{chains_found}
use Rattle.tesla_commit.proofs.parsing.rest.Goals as goal

pub assemble-requires-clause-limits : goal.assemble-requires-clause-limits
assemble-requires-clause-limits c =
    let parts : Parts = record { version = c.args.version; stream = c.args.stream; times = c.args.schedule; tag_length = c.in_ok-size.size; rows = c.in_ok-rows.rows.items } in
    let stream : c.args.stream.0 < 2 ^ 64 = search rules in
    setup_is parts _ stream c.last.ensures.start c.last.ensures.limits c.in_ok-size.ensures.limits (chains_are _ _ _ _ _ _ (rw c.last.ensures.value at c.in_ok-rows.ensures))

pub assemble-requires-clause-keys : goal.assemble-requires-clause-keys
assemble-requires-clause-keys c = (chains_found _ _ _ _ _ _ c.in_ok-rows.ensures).1
