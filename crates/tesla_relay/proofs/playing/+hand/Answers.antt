use Rattle.std.proofs.Common.{◌≡◌, ◌∷◌, refl}
use Rattle.tesla_relay.proofs.Sends.{hands_first, hands_none}
use Rattle.tesla_relay.proofs.playing.+hand.Goals as goal

pub returns-in-Sent : goal.returns-in-Sent
returns-in-Sent g t c =
    let parts : c.args.posts.now ≡ c.in-Some.post.now ∷ c.in-Some.others.now = c.in-Some.ensures.cases.0 in
    rw parts (hands_first c.args.datagram.now c.hand.result _ _ _ _ c.in-Sent.ensures.step c.send.ensures.name (c.in-Sent.ensures.cause.still (λ e. absurd cc)) c.hand.ensures)

pub returns-in-Failed : goal.returns-in-Failed
returns-in-Failed g t c =
    let parts : c.args.posts.now ≡ c.in-Some.post.now ∷ c.in-Some.others.now = c.in-Some.ensures.cases.0 in
    rw parts (hands_none c.args.datagram.now _ _ _ _ c.in-Failed.ensures.step c.send.ensures.name c.in-Failed.ensures.cause refl)
