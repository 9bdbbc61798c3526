use Rattle.std.proofs.Common.{[], ◌∷◌}
use Rattle.tesla_turn.proofs.turn.Turn.take_turn.Given as goal

-- the entry of the act
abbrev pub ghosts-hand_on : goal.ghosts-hand_on
ghosts-hand_on g a = record { entries = g.A.Act.entry a._act.now a._reply.now ∷ [] }
