use Rattle.std.proofs.Common.{◌≡◌, ◌++◌, ◌∷◌, [], ap, ◌∙◌, subst, Option}
use Rattle.tesla_frame.specs.Frame.{Frame}
use Rattle.tesla_receiver.specs.History.{Arrives, entry_of}
use Rattle.tesla_receiver.specs.Entries.{Arrival}
use Rattle.tesla_early.specs.Early.{is_early}
use Rattle.tesla_early.specs.Kept.{candidate_in, is_promised_by, kept_after}
use Rattle.tesla_early.specs.Stands.{EarlyStands, EarlyState}
use Rattle.tesla_early.proofs.Keeping.{arrived_early, arrived_stands}
use Rattle.tesla_early.proofs.early.Early.arrive_read.Goals as goal

pub returns-clause-early : goal.returns-clause-early
returns-clause-early g c h =
    let i = c.self.inside in
    let verdict = c.arrive_read-verdict.result in
    let arrival : Arrival = record { ingest = c.args.ingest; reading = c.args.reading; bytes = c.args.bytes.now; verdict = verdict } in
    let before : EarlyState = record { receiver = i.receiver; promises = i.promises } in
    subst (λ (s : EarlyState). EarlyStands s h → c.accept.result ≡ is_early s.promises.most h arrival) c.self.view_is
    (λ st.
    c.accept.ensures.early ∙ ap (λ (o : Option Frame). is_promised_by i.promises.kept (candidate_in verdict o)) c.requires.read
    ∙ arrived_early before h arrival st)

pub returns-clause-stands : goal.returns-clause-stands
returns-clause-stands g c h =
    let i = c.self.inside in
    let verdict = c.arrive_read-verdict.result in
    let before : EarlyState = record { receiver = i.receiver; promises = i.promises } in
    let after : EarlyState = record { receiver = c.arrive_read-verdict.new.self; promises = c.accept.new.self } in
    subst (λ (s : EarlyState). EarlyStands s h → EarlyStands after (h ++ entry_of s.receiver.config h (Arrives c.args.ingest c.args.reading c.args.bytes.now) ∷ [])) c.self.view_is
    (λ st.
    arrived_stands before after h c.args.ingest c.args.reading c.args.bytes.now verdict st
    (c.arrive_read-verdict.ensures.answer h st.receiver) (c.arrive_read-verdict.ensures.stands h st.receiver) c.accept.ensures.most
    (c.accept.ensures.kept ∙ ap (λ (o : Option Frame). kept_after i.promises.most i.promises.kept (candidate_in verdict o)) c.requires.read))
