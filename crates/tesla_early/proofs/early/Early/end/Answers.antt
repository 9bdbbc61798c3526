use Rattle.std.proofs.Common.{◌++◌, ◌∷◌, [], refl, subst}
use Rattle.tesla_receiver.specs.History.{Ends, entry_of}
use Rattle.tesla_early.specs.Stands.{EarlyStands, EarlyState}
use Rattle.tesla_early.proofs.Keeping.{ended_stands}
use Rattle.tesla_early.proofs.early.Early.end.Goals as goal

pub returns-clause-stands : goal.returns-clause-stands
returns-clause-stands c h =
    let i = c.self.inside in
    let before : EarlyState = record { receiver = i.receiver; promises = i.promises } in
    let after : EarlyState = record { receiver = c.end.new.self; promises = i.promises } in
    subst (λ (s : EarlyState). EarlyStands s h → EarlyStands after (h ++ entry_of s.receiver.config h (Ends c.args.ingest) ∷ [])) c.self.view_is
    (λ st. ended_stands before after h c.args.ingest st (c.end.ensures.stands h st.receiver) refl)
