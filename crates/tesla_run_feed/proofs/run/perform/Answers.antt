use Rattle.std.proofs.Common.{arith, refl}
use Rattle.std.proofs.lemmas.Result.{err_from_is_err_and}
use Rattle.tesla_feeds.specs.Fed.{lasting}
use Rattle.tesla_run_feed.specs.Arguments.{arguments_of}
use Rattle.tesla_run_feed.specs.Listing.{streams_in}
use Rattle.tesla_run_feed.proofs.Due.{listed_in, may_write_counts}
use Rattle.tesla_run_feed.proofs.Performed.{performs_fed, performs_unfed}
use Rattle.tesla_run_feed.proofs.run.perform.Goals as goal

pub feed_files-requires-clause-asks : goal.feed_files-requires-clause-asks
feed_files-requires-clause-asks g c = λ lifetimes within. c.requires.asks

pub feed_files-requires-clause-any_link : goal.feed_files-requires-clause-any_link
feed_files-requires-clause-any_link g c = λ lifetimes within. c.requires.any_link

pub feed_files-requires-clause-due : goal.feed_files-requires-clause-due
feed_files-requires-clause-due g c = λ lifetimes within from given post datagram named due.
    let streams = streams_in c.in_ok-list.list in
    c.requires.due post datagram (record {
      named = named;
      streams = streams;
      going = lasting from streams;
      left = record {
        listed = listed_in (arguments_of c.args.arguments.now) streams (g.D.Environment.told c.args.desk.now) _ c.in_ok-list.ensures.read;
        from = from;
        given = given;
        going_is = refl;
      };
      due = due;
    })

pub feed_files-requires-clause-counted : goal.feed_files-requires-clause-counted
feed_files-requires-clause-counted g c = λ lifetimes within.
    let out = g.D.Pieces.Output in let clock = g.D.Time.Clock in
    let streams = streams_in c.in_ok-list.list in
    may_write_counts out.name out.written out.may_write clock.gave clock.read_for (arguments_of c.args.arguments.now) (g.D.Environment.told c.args.desk.now) streams
    (listed_in (arguments_of c.args.arguments.now) streams (g.D.Environment.told c.args.desk.now) _ c.in_ok-list.ensures.read) c.requires.counted

pub feed_files-requires-clause-some : goal.feed_files-requires-clause-some
feed_files-requires-clause-some g c = λ lifetimes within. omega (arith, c.in_ok-list.ensures.each.1, c.requires.form.1.spelled.rest.first.some)

pub returns-in_err-list : goal.returns-in_err-list
returns-in_err-list g c =
    let p = err_from_is_err_and c.from_residual.result c.from_residual.ensures.1 in
    rw (p.1, p.2) (performs_unfed g.D.Pause.Gate.over (arguments_of c.args.arguments.now) c.requires.form.0 (g.D.Environment.told c.args.desk.now) _ _ c.requires.form.1 c.in_err-list.ensures.refused)

pub returns : goal.returns
returns g c =
    performs_fed g.D.Pause.Gate.over (arguments_of c.args.arguments.now) c.requires.form.0 (streams_in c.in_ok-list.list) (g.D.Environment.told c.args.desk.now) _ _ _ c.requires.form.1 c.in_ok-list.ensures.read c.feed_files.ensures
