use Rattle.std.proofs.Common.{◌≡◌, ◌∙◌, ap, codes, inl, inr, map, Option, string_bytes, subst, sym}
use Rattle.tesla_front.specs.Command.{Command, RunsAs}
use Rattle.tesla_follow.specs.History.{FollowEntry}
use Rattle.tesla_front.specs.OutcomeView.{outcome_view}
use Rattle.tesla_front.specs.Table.{command_in}
use Rattle.tesla_front.proofs.Tables.{first_is}
use Rattle.tesla_receiver.specs.Entries.{Entry}
use Rattle.tesla_run_follow.specs.Follow.{following}
use Rattle.tesla_run_receive.specs.watch.Watch.{watching}
use Rattle.tesla_turn.specs.Held.{Ended}
use Rattle.tesla_cli_live.specs.Commands.{live_tool_named}
use Rattle.tesla_cli_live.proofs.Named.{command_first, command_some, first_isnt, runs_none, where_isnt}
use Rattle.tesla_cli_live.proofs.live_tools.run_words.Goals as goal

pub returns-in-len1-up-3-clause-others : goal.returns-in-len1-up-3-clause-others
returns-in-len1-up-3-clause-others g c other =
    let some = c.in-len1-up.len_at_least in
    absurd (other (inl (first_is string_bytes (codes "watch") c.args.words.now c.word-item-3.result c.as_str-3.result.now c.eq-3.result
    some c.word-item-3.is c.as_str-3.ensures.value c.eq-3.ensures c.if-eq-3.true)))

pub returns-in-len1-up-3-clause-none : goal.returns-in-len1-up-3-clause-none
returns-in-len1-up-3-clause-none g c usage = c.of_watch.ensures.none (c.run_watch.ensures.none (sym (ap outcome_view c.of_watch.ensures.outcome) ∙ usage))

pub returns-in-len1-up-3-clause-runs : goal.returns-in-len1-up-3-clause-runs
returns-in-len1-up-3-clause-runs g c =
    let words = map string_bytes c.args.words.now in
    let old = g.D.Environment.told c.args.desk.now in
    let new = g.D.Environment.told c.run_watch.new.desk in
    let last = c.of_watch.result.last in
    let first = first_is string_bytes (codes "watch") c.args.words.now c.word-item-3.result c.as_str-3.result.now c.eq-3.result
    c.in-len1-up.len_at_least c.word-item-3.is c.as_str-3.ensures.value c.eq-3.ensures c.if-eq-3.true in
    rw c.of_watch.ensures.outcome
    (subst (λ (command : Command). RunsAs command words old new (outcome_view c.run_watch.result.outcome))
    (sym (command_first (live_tool_named g.D.Pause.Gate.over old.live new.live last) (codes "watch") words first))
    (subst (λ (end : Option (Ended Entry)). RunsAs (watching old.live new.live end) words old new (outcome_view c.run_watch.result.outcome)) (sym c.of_watch.ensures.last) c.run_watch.ensures.runs))

pub returns-in-len1-up-5-clause-others : goal.returns-in-len1-up-5-clause-others
returns-in-len1-up-5-clause-others g c other =
    let some = c.in-len1-up.len_at_least in
    absurd (other (inr (first_is string_bytes (codes "follow") c.args.words.now c.word-item-5.result c.as_str-5.result.now c.eq-5.result
    some c.word-item-5.is c.as_str-5.ensures.value c.eq-5.ensures c.if-eq-5.true)))

pub returns-in-len1-up-5-clause-none : goal.returns-in-len1-up-5-clause-none
returns-in-len1-up-5-clause-none g c usage = c.of_follow.ensures.none (c.run_follow.ensures.none (sym (ap outcome_view c.of_follow.ensures.outcome) ∙ usage))

pub returns-in-len1-up-5-clause-runs : goal.returns-in-len1-up-5-clause-runs
returns-in-len1-up-5-clause-runs g c =
    let words = map string_bytes c.args.words.now in
    let old = g.D.Environment.told c.args.desk.now in
    let new = g.D.Environment.told c.run_follow.new.desk in
    let last = c.of_follow.result.last in
    let first = first_is string_bytes (codes "follow") c.args.words.now c.word-item-5.result c.as_str-5.result.now c.eq-5.result
    c.in-len1-up.len_at_least c.word-item-5.is c.as_str-5.ensures.value c.eq-5.ensures c.if-eq-5.true in
    rw c.of_follow.ensures.outcome
    (subst (λ (command : Command). RunsAs command words old new (outcome_view c.run_follow.result.outcome))
    (sym (command_first (live_tool_named g.D.Pause.Gate.over old.live new.live last) (codes "follow") words first))
    (subst (λ (end : Option (Ended FollowEntry)). RunsAs (following old.live new.live end) words old new (outcome_view c.run_follow.result.outcome)) (sym c.of_follow.ensures.last) c.run_follow.ensures.runs))

pub run_capture-requires-clause-any_link : goal.run_capture-requires-clause-any_link
run_capture-requires-clause-any_link g c κs within =
    let some = c.in-len1-up.len_at_least in
    c.requires.any_link (inl (first_is string_bytes (codes "capture") c.args.words.now c.word-item.result c.as_str.result.now c.eq.result
    some c.word-item.is c.as_str.ensures.value c.eq.ensures c.if-eq.true))

pub run_feed-requires-clause-any_link : goal.run_feed-requires-clause-any_link
run_feed-requires-clause-any_link g c κs within =
    let some = c.in-len1-up.len_at_least in
    c.requires.any_link (inr (inl (first_is string_bytes (codes "feed") c.args.words.now c.word-item-2.result c.as_str-2.result.now c.eq-2.result
    some c.word-item-2.is c.as_str-2.ensures.value c.eq-2.ensures c.if-eq-2.true)))

pub run_watch-requires-clause-any_link : goal.run_watch-requires-clause-any_link
run_watch-requires-clause-any_link g c κs within =
    let some = c.in-len1-up.len_at_least in
    c.requires.any_link (inr (inr (inl (first_is string_bytes (codes "watch") c.args.words.now c.word-item-3.result c.as_str-3.result.now c.eq-3.result
    some c.word-item-3.is c.as_str-3.ensures.value c.eq-3.ensures c.if-eq-3.true))))

pub run_follow-requires-clause-any_link : goal.run_follow-requires-clause-any_link
run_follow-requires-clause-any_link g c κs within =
    let some = c.in-len1-up.len_at_least in
    c.requires.any_link (inr (inr (inr (first_is string_bytes (codes "follow") c.args.words.now c.word-item-5.result c.as_str-5.result.now c.eq-5.result
    some c.word-item-5.is c.as_str-5.ensures.value c.eq-5.ensures c.if-eq-5.true))))

pub returns-in-len1-up-4-clause-runs : goal.returns-in-len1-up-4-clause-runs
returns-in-len1-up-4-clause-runs g c =
    let words = map string_bytes c.args.words.now in
    let old = g.D.Environment.told c.args.desk.now in
    let new = g.D.Environment.told c.run_watch_relay.new.desk in
    let last = c.without_history-in-len1-up-4.result.last in
    let first = first_is string_bytes (codes "watch-relay") c.args.words.now c.word-item-4.result c.as_str-4.result.now c.eq-4.result
    c.in-len1-up.len_at_least c.word-item-4.is c.as_str-4.ensures.value c.eq-4.ensures c.if-eq-4.true in
    rw c.without_history-in-len1-up-4.ensures.outcome
    (subst (λ (command : Command). RunsAs command words old new (outcome_view c.run_watch_relay.result))
    (sym (command_first (live_tool_named g.D.Pause.Gate.over old.live new.live last) (codes "watch-relay") words first)) c.run_watch_relay.ensures)

pub returns-in_default-clause-runs : goal.returns-in_default-clause-runs
returns-in_default-clause-runs g c =
    let all = c.args.words.now in
    let words = map string_bytes all in
    let old = g.D.Environment.told c.args.desk.now in
    let last = c.without_history-in_default.result.last in
    let named = live_tool_named g.D.Pause.Gate.over old.live old.live last in
    let some = c.in-len1-up.len_at_least in
    let capture = first_isnt string_bytes (codes "capture") all c.word-item.result c.as_str.result.now c.eq.result some c.word-item.is c.as_str.ensures.value c.eq.ensures c.if-eq.false in
    let feed = first_isnt string_bytes (codes "feed") all c.word-item-2.result c.as_str-2.result.now c.eq-2.result some c.word-item-2.is c.as_str-2.ensures.value c.eq-2.ensures c.if-eq-2.false in
    let watch = first_isnt string_bytes (codes "watch") all c.word-item-3.result c.as_str-3.result.now c.eq-3.result some c.word-item-3.is c.as_str-3.ensures.value c.eq-3.ensures c.if-eq-3.false in
    let relay = first_isnt string_bytes (codes "watch-relay") all c.word-item-4.result c.as_str-4.result.now c.eq-4.result some c.word-item-4.is c.as_str-4.ensures.value c.eq-4.ensures c.if-eq-4.false in
    let follow = first_isnt string_bytes (codes "follow") all c.word-item-5.result c.as_str-5.result.now c.eq-5.result some c.word-item-5.is c.as_str-5.ensures.value c.eq-5.ensures c.if-eq-5.false in
    rw c.without_history-in_default.ensures.outcome
    (runs_none (command_in named words) words old (command_some string_bytes named all some ∙ where_isnt _ _ _ capture ∙ where_isnt _ _ _ feed ∙ where_isnt _ _ _ watch ∙ where_isnt _ _ _ relay ∙ where_isnt _ _ _ follow))
