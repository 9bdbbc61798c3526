use Rattle.std.proofs.Common.{inl, inr, List, ap, map, refl, subst, sym}
use Rattle.std.proofs.lemmas.Result.{MatchResult-weaker, err_from_is_err_and}
use Rattle.tesla_front.specs.OutcomeView.{stop_view}
use Rattle.tesla_relay.specs.Opening.{name_of}
use Rattle.tesla_relay.specs.Posts.{PostSeen}
use Rattle.tesla_run_feed.specs.Steps.{OpensFirst, OpensNoFeeding, OpensReady}
use Rattle.tesla_run_feed.specs.Listing.{IsFirstRight}
use Rattle.tesla_run_feed.proofs.ready.open_ready.Goals as goal
use Rattle.tesla_sender.specs.Made.{Stream}

pub returns-in_err-senders-clause-refused : goal.returns-in_err-senders-clause-refused
returns-in_err-senders-clause-refused g c =
    let port = g.D.Port.Post in
    let seen : g.row.D-Port.Denot → PostSeen = λ post. record { name = port.name post; sent = port.sent post; faults = port.faults post } in
    let p = err_from_is_err_and c.from_residual.result c.from_residual.ensures.1 in
    rw (p.1, p.2) (inl (record { none = ap (map seen) c.requires.empty; same = refl; why = c.in_err-senders.ensures.refused }))

pub open_feeding-requires-clause-first : goal.open_feeding-requires-clause-first
open_feeding-requires-clause-first g c = λ lifetimes within.
    let senders = c.in_ok-senders.senders in
    subst (λ (ss : List Stream). OpensFirst ss senders.first senders.behind.list) c.in_ok-senders.ensures.first.streams_are c.in_ok-senders.ensures.first

pub returns-clause-ready : goal.returns-clause-ready
returns-clause-ready g c =
    let told = g.D.Environment.told in let port = g.D.Port.Post in
    let seen : g.row.D-Port.Denot → PostSeen = λ post. record { name = port.name post; sent = port.sent post; faults = port.faults post } in
    MatchResult-weaker c.open_feeding.result c.open_feeding.ensures.ready
    (λ ready opens. subst (λ (ss : List Stream). OpensReady ss (map name_of c.args.names.now) ready.feed.opened ready.later.list (g.D.Time.Clock.told ready.feed.clock) (map seen c.open_feeding.new.posts.items) (told c.args.desk.now) (told c.open_feeding.new.desk)) (sym c.in_ok-senders.ensures.first.streams_are) opens) (λ stop all. all)

pub returns-clause-right : goal.returns-clause-right
returns-clause-right g c = MatchResult-weaker c.open_feeding.result c.open_feeding.ensures.opening (λ ready given. subst IsFirstRight (sym c.in_ok-senders.ensures.first.streams_are) c.in_ok-senders.ensures.first.right) (λ stop all. all)

pub returns-clause-refused : goal.returns-clause-refused
returns-clause-refused g c =
    let told = g.D.Environment.told in let port = g.D.Port.Post in
    let seen : g.row.D-Port.Denot → PostSeen = λ post. record { name = port.name post; sent = port.sent post; faults = port.faults post } in
    MatchResult-weaker c.open_feeding.result c.open_feeding.ensures.refused (λ ready all. all)
    (λ stop why. inr (subst IsFirstRight (sym c.in_ok-senders.ensures.first.streams_are) c.in_ok-senders.ensures.first.right, subst (λ (ss : List Stream). OpensNoFeeding ss (map name_of c.args.names.now) (map seen c.open_feeding.new.posts.items) (told c.args.desk.now) (told c.open_feeding.new.desk) (stop_view stop)) (sym c.in_ok-senders.ensures.first.streams_are) why))
