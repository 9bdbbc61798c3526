use Rattle.std.proofs.Common.{◌≡◌, ◌∙◌, ◌++◌, ◌∷◌, [], List, ap}
use Rattle.std.proofs.lemmas.Result.{MatchResult-weaker}
use Rattle.tesla_base.specs.declared.names.Key.{Key}
use Rattle.tesla_commit.specs.Parts.{Parts}
use Rattle.tesla_run_feed.specs.Listing.{streams_in, streams_with}
use Rattle.tesla_run_feed.proofs.Listed.{put_on, with_more}
use Rattle.tesla_run_feed.proofs.listing.+put_each.Goals as goal

pub returns-clause-puts : goal.returns-clause-puts
returns-clause-puts g t c =
    let told = g.D.Environment.told in
    let list = c.args.list.now in
    let setup = c.in_ok-setup.field-0.setup in
    let seeds = c.in_ok-setup.field-0.seeds in
    let setups = c.push_reserved.new.self.items in
    let all = c.push_reserved-2.new.self.items in
    let more : streams_with setups all ≡ streams_in list ++ record { setup = setup; seeds = seeds } ∷ [] =
    ap (λ (ps : List Parts). streams_with ps all) c.push_reserved.ensures.items
    ∙ ap (λ (ks : List (List Key)). streams_with (list.setups.items ++ setup ∷ []) ks) c.push_reserved-2.ensures.items
    ∙ with_more list.setups.items list.seeds.items setup seeds c.requires.same in
    MatchResult-weaker c.put_each.result c.put_each.ensures.puts
    (λ done puts. put_on c.args.setups.now c.args.secrets.now _ _ (record { setup = setup; seeds = seeds }) (streams_in list) (streams_with setups all) _ (told c.args.desk.now) (told c.read_sound.new.desk) _ c.in-len1-up.len_at_least c.in-len1-up-secrets.len_at_least more c.in_ok-setup.ensures.read puts) (λ stop all. all)
