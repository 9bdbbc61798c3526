use Rattle.std.specs.Prelude.{◌*◌}
use Rattle.tesla_run_feed.specs.Listing.{streams_in}
use Rattle.tesla_run_feed.proofs.counted.feed_open.Given as goal

abbrev pub ghosts-feed_beside : goal.ghosts-feed_beside
ghosts-feed_beside g a = record { streams = streams_in a.later.list }

abbrev pub ghosts-feed_counted-T-ToldBy : goal.ghosts-feed_counted-T-ToldBy
ghosts-feed_counted-T-ToldBy g a = record {
  telling = record {
    schedules = a.ready.schedules.items;
    opening = a.ready.feed.opened.opening;
    every = a.status.now.every * 1000000;
    name = a.status.now.output.now;
  };
}

abbrev pub ghosts-feed_counted-X-Later : goal.ghosts-feed_counted-X-Later
ghosts-feed_counted-X-Later g a = record { streams = streams_in a.ready.later.list }
