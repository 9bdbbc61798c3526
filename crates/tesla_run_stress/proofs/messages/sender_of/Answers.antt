use Rattle.std.proofs.Common.{◌∙◌, length, sym, ap}
use Rattle.tesla_commit.specs.Parts.{Parts}
use Rattle.tesla_run_stress.proofs.Sent.{sent_none}
use Rattle.tesla_run_stress.proofs.Setups.{seeds_right, stream_is}
use Rattle.tesla_run_stress.proofs.messages.sender_of.Goals as goal

pub open-requires : goal.open-requires
open-requires g c = ap length c.requires.2 ∙ sym (ap (λ (p : Parts). length p.rows) c.requires.1)

pub unreachable-requires : goal.unreachable-requires
unreachable-requires g c =
    let memory = seeds_right c.requires.0 c.args.setup c.args.seeds.now c.in-Err-WrongSeed.field-0 c.requires.1 c.requires.2 c.in-Err-WrongSeed.ensures.refused in
    cc

pub returns-in-Ok : goal.returns-in-Ok
returns-in-Ok g c = λ count is. sent_none count c.in-Ok.sender (stream_is count c.args.setup c.args.seeds.now c.in-Ok.sender.stream is c.requires.2 c.in-Ok.ensures.stream) c.in-Ok.ensures.stands
