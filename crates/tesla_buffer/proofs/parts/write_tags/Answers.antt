use Rattle.std.proofs.Common.{◌≤◌, length, arith}
use Rattle.tesla_buffer.proofs.Written.{written}
use Rattle.tesla_buffer.proofs.parts.write_tags.Goals as goal

pub returns-clause-tags : goal.returns-clause-tags
returns-clause-tags c =
    let rows = c.args.frame.now.rows in
    let all : length rows ≤ c.loop-chain.chain = omega arith in
    written rows c.loop-chain.room (omega (arith, c.loop-chain.invariant.0)) (λ k d h. c.loop-chain.invariant.1 k d (omega (arith, h, all)))
