use Rattle.std.proofs.Common.{◌≡◌, [], List, ap}
use Rattle.std.proofs.lemmas.Result.{err_from_is_err_and}
use Rattle.tesla_commit.specs.Parts.{Parts}
use Rattle.tesla_front.specs.OutcomeView.{stop_view}
use Rattle.tesla_run_feed.specs.Listing.{streams_in, streams_with}
use Rattle.tesla_run_feed.proofs.Listed.{each_seeds, listed, no_list, not_as, put_as, unlisted}
use Rattle.tesla_run_feed.proofs.listing.read_list.Goals as goal

pub returns-in_err-put_each-clause-refused : goal.returns-in_err-put_each-clause-refused
returns-in_err-put_each-clause-refused g c =
    let told = g.D.Environment.told in
    let arguments = c.args.arguments.now in
    let p = err_from_is_err_and c.from_residual.result c.from_residual.ensures.1 in
    rw (p.1, p.2) (no_list arguments.setups arguments.secrets (stop_view c.in_err-put_each.field-0.0) (told c.args.desk.now) (told c.put_each.new.desk)
    (not_as arguments.setups _ arguments.secrets _ (stop_view c.in_err-put_each.field-0.0) (told c.args.desk.now) (told c.put_each.new.desk) c.as_slice-setups.ensures c.as_slice.ensures c.in_err-put_each.ensures.refused))

pub returns-in-Ok-clause-read : goal.returns-in-Ok-clause-read
returns-in-Ok-clause-read g c =
    let told = g.D.Environment.told in
    let arguments = c.args.arguments.now in
    let list = c.put_each.new.list in
    let none : streams_in c.in-Some.list ≡ [] = ap (λ (setups : List Parts). streams_with setups c.in-Some.list.seeds.items) c.in-Some.ensures.0 in
    listed arguments.setups arguments.secrets list.setups.items list.seeds.items (told c.args.desk.now) (told c.put_each.new.desk) c.put_each.ensures.same
    (put_as arguments.setups _ arguments.secrets _ (streams_in c.in-Some.list) (streams_in list) (told c.args.desk.now) (told c.put_each.new.desk) c.as_slice-setups.ensures c.as_slice.ensures none c.in_ok-put_each.ensures.puts)
    c.in-Ok.ensures.fits

pub returns-in-Ok-clause-have : goal.returns-in-Ok-clause-have
returns-in-Ok-clause-have g c =
    let told = g.D.Environment.told in
    let arguments = c.args.arguments.now in
    let list = c.put_each.new.list in
    each_seeds arguments.setups arguments.secrets (streams_in list) (told c.args.desk.now) (told c.put_each.new.desk) (returns-in-Ok-clause-read g c).reads

pub returns-in-Err-clause-refused : goal.returns-in-Err-clause-refused
returns-in-Err-clause-refused g c =
    let told = g.D.Environment.told in
    let arguments = c.args.arguments.now in
    let list = c.put_each.new.list in
    let none : streams_in c.in-Some.list ≡ [] = ap (λ (setups : List Parts). streams_with setups c.in-Some.list.seeds.items) c.in-Some.ensures.0 in
    unlisted arguments.setups arguments.secrets list.setups.items list.seeds.items (stop_view c.in-Err.stop) (told c.args.desk.now) (told c.put_each.new.desk) c.put_each.ensures.same
    (put_as arguments.setups _ arguments.secrets _ (streams_in c.in-Some.list) (streams_in list) (told c.args.desk.now) (told c.put_each.new.desk) c.as_slice-setups.ensures c.as_slice.ensures none c.in_ok-put_each.ensures.puts)
    c.in-Err.ensures.refused
