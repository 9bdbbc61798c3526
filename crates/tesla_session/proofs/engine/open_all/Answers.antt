use Rattle.std.proofs.Common.{◌≡◌, ◌+◌, ℕ, List, ◌++◌, Ok, Err, length, map, subst, sym, ap, ◌∙◌, arith}
use Rattle.std.proofs.lemmas.List.{length-map}
use Rattle.tesla_shared.specs.Due.{IsDue}
use Rattle.tesla_session.specs.Wanted.{links_wanted, sinks_wanted}
use Rattle.tesla_session.specs.Session.{OpensWorkers, SeenLink, name_of, workers_of}
use Rattle.tesla_session.specs.Allowed.{AllowsSink, AreAllowed}
use Rattle.tesla_session.proofs.Allowed.{links_allowed, opens_joined, sinks_allowed}
use Rattle.tesla_session.proofs.Sessions.{opens_links_sinks, opens_no_more, opens_same, room_left, wants_links}
use Rattle.tesla_session.proofs.engine.open_all.Goals as goal

pub open_each-requires-clause-own : goal.open_each-requires-clause-own
open_each-requires-clause-own g c κs within = c.requires.own

pub open_each-requires-clause-room : goal.open_each-requires-clause-room
open_each-requires-clause-room g c κs within =
    let links : length (map name_of c.as_slice.result.now) ≡ length c.args.links.now = ap length c.as_slice.ensures in omega (arith, length-map c.as_slice.result.now name_of, links, c.requires.room)

pub open_each-requires-clause-few : goal.open_each-requires-clause-few
open_each-requires-clause-few g c κs within =
    let links : length (map name_of c.as_slice.result.now) ≡ length c.args.links.now = ap length c.as_slice.ensures in omega (arith, length-map c.as_slice.result.now name_of, links, c.requires.few_links)

pub open_each-requires-in-Ok-clause-few : goal.open_each-requires-in-Ok-clause-few
open_each-requires-in-Ok-clause-few g c κs within =
    let sinks : length (map name_of c.as_slice-in-Ok.result.now) ≡ length c.args.sinks.now = ap length c.as_slice-in-Ok.ensures in omega (arith, length-map c.as_slice-in-Ok.result.now name_of, sinks, c.requires.few_sinks)

pub open_each-requires-in-Ok-clause-own : goal.open_each-requires-in-Ok-clause-own
open_each-requires-in-Ok-clause-own g c κs within =
    let opened = c.in-Ok.ensures in
    (opens_same (links_wanted 0 (map name_of c.as_slice.result.now)) (g.D.Environment.told c.args.desk.now) (g.D.Environment.told c.open_each.new.desk) c.args.session.now.first c.open_each.new.first (map SeenLink opened.0) (Ok tt) opened.2).turn ∙ c.requires.own

pub open_each-requires-in-Ok-clause-room : goal.open_each-requires-in-Ok-clause-room
open_each-requires-in-Ok-clause-room g c κs within =
    let links : length (map name_of c.as_slice.result.now) ≡ length c.args.links.now = ap length c.as_slice.ensures in
    let sinks : length (map name_of c.as_slice-in-Ok.result.now) ≡ length c.args.sinks.now = ap length c.as_slice-in-Ok.ensures in
    omega (arith, length-map c.as_slice-in-Ok.result.now name_of, sinks, room_left (map name_of c.as_slice.result.now) (g.D.Environment.told c.args.desk.now) (g.D.Environment.told c.open_each.new.desk) c.args.session.now.first c.open_each.new.first c.args.session.now.links.items c.open_each.new.workers.items (length c.args.sinks.now) c.in-Ok.ensures (omega (arith, links, c.requires.room)))

pub returns-in-Ok-clause-opens : goal.returns-in-Ok-clause-opens
returns-in-Ok-clause-opens g c =
    let old = g.D.Environment.told c.args.desk.now in
    let new = g.D.Environment.told c.open_each-in-Ok.new.desk in
    let session = c.args.session.now in
    let workers = workers_of c.open_each.new.workers.items c.open_each-in-Ok.new.workers.items in
    subst (λ (links : List (List ℕ)). OpensWorkers (links_wanted 0 links ++ sinks_wanted 0 c.args.sinks.now) old new session.first c.open_each-in-Ok.new.first workers c.open_each-in-Ok.result) c.as_slice.ensures
    (subst (λ (sinks : List (List ℕ)). OpensWorkers (links_wanted 0 (map name_of c.as_slice.result.now) ++ sinks_wanted 0 sinks) old new session.first c.open_each-in-Ok.new.first workers c.open_each-in-Ok.result) c.as_slice-in-Ok.ensures
    (opens_links_sinks (map name_of c.as_slice.result.now) (map name_of c.as_slice-in-Ok.result.now) old (g.D.Environment.told c.open_each.new.desk) new session.first c.open_each.new.first c.open_each-in-Ok.new.first session.links.items c.open_each.new.workers.items session.sinks.items c.open_each-in-Ok.new.workers.items c.open_each-in-Ok.result c.requires.links.0 c.requires.sinks.0 c.in-Ok.ensures c.open_each-in-Ok.ensures))

pub returns-in-Err-clause-opens : goal.returns-in-Err-clause-opens
returns-in-Err-clause-opens g c =
    let old = g.D.Environment.told c.args.desk.now in
    let new = g.D.Environment.told c.open_each.new.desk in
    let session = c.args.session.now in
    let workers = workers_of c.open_each.new.workers.items session.sinks.items in
    subst (λ (links : List (List ℕ)). OpensWorkers (links_wanted 0 links ++ sinks_wanted 0 c.args.sinks.now) old new session.first c.open_each.new.first workers (Err c.in-Err.fault)) c.as_slice.ensures
    (opens_no_more (map name_of c.as_slice.result.now) c.args.sinks.now old new session.first c.open_each.new.first session.links.items c.open_each.new.workers.items session.sinks.items c.in-Err.fault c.requires.links.0 c.requires.sinks.0 c.in-Err.ensures)

pub open_each-requires-clause-allowed : goal.open_each-requires-clause-allowed
open_each-requires-clause-allowed g c κs within =
    links_allowed g.D.Wire.Link.brought g.D.Time.Clock.may_ask g.D.Wire.Link.may_ask c.args.session.now.first 0 (map name_of c.as_slice.result.now) c.requires.asked c.requires.any_link c.requires.alone

pub open_each-requires-in-Ok-clause-allowed : goal.open_each-requires-in-Ok-clause-allowed
open_each-requires-in-Ok-clause-allowed g c κs within =
    let first = c.args.session.now.first in
    let later = c.open_each.new.first in
    let old = g.D.Environment.told c.args.desk.now in
    let mid = g.D.Environment.told c.open_each.new.desk in
    let links = map name_of c.as_slice.result.now in
    let opened = c.in-Ok.ensures in
    let same = opens_same (links_wanted 0 links) old mid first later (map SeenLink opened.0) (Ok tt) opened.2 in
    let joined : length later.joined ≡ length first.joined + length (links_wanted 0 links) = opens_joined (links_wanted 0 links) old mid first later (map SeenLink opened.0) opened.2 in
    let many : length links ≡ length c.args.links.now = ap length c.as_slice.ensures in
    let pieces = g.D.Pieces.Output in
    let read_for = g.D.Time.Clock.read_for in
    let yields = g.V.Station.yields in
    let is_due = λ (cfg : g.row.V-Config.Denot). IsDue yields (g.V.Station.is_legal cfg) (g.V.Station.ingests cfg) read_for in
    subst (λ (sinks : List (List ℕ)). AreAllowed (AllowsSink pieces.name pieces.written pieces.may_write yields is_due g.V.Station.ingests) later 0 sinks) (sym c.as_slice-in-Ok.ensures)
    (sinks_allowed pieces.name pieces.written pieces.may_write yields is_due g.V.Station.ingests later 0 c.args.sinks.now
    (λ cfg is. c.requires.released cfg (sym same.config ∙ is))
    (λ cfg is. omega (arith, joined, wants_links 0 links, many, c.requires.alone, c.requires.ingests cfg (sym same.config ∙ is))))
