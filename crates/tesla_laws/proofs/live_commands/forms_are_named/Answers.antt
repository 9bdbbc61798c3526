use Rattle.std.proofs.Common.{codes, refl, subst, sym}
use Rattle.tesla_front.proofs.Tables.{as_spelled, begins_with_name}
use Rattle.tesla_cli_live.specs.Commands.{IsLive, IsLiveTool, live_of, live_tool_of}
use Rattle.tesla_laws.proofs.live_commands.forms_are_named.Goals as goal

pub returns-clause-receives : goal.returns-clause-receives
returns-clause-receives c arguments words before now last old new outcome is runs =
    (as_spelled (live_of before now last) words _ old new outcome is.spelled runs).form arguments is

pub returns-clause-relays : goal.returns-clause-relays
returns-clause-relays c arguments words before now last old new outcome is runs =
    (as_spelled (live_of before now last) words _ old new outcome (begins_with_name (codes "relay") words is.spelled) runs).form arguments is

pub returns-clause-plays : goal.returns-clause-plays
returns-clause-plays c arguments words before now last old new outcome is runs =
    (as_spelled (live_of before now last) words _ old new outcome (begins_with_name (codes "play") words is.spelled) runs).form arguments is

pub returns-clause-captures : goal.returns-clause-captures
returns-clause-captures c arguments words over before now last old new outcome is runs =
    (as_spelled (live_tool_of over before now last) words _ old new outcome (begins_with_name (codes "capture") words is) runs).form arguments is

pub returns-clause-feeds : goal.returns-clause-feeds
returns-clause-feeds c arguments words over before now last old new outcome is runs =
    (as_spelled (live_tool_of over before now last) words _ old new outcome (begins_with_name (codes "feed") words is.spelled) runs).form arguments is

pub returns-clause-watches : goal.returns-clause-watches
returns-clause-watches c arguments words over before now last old new outcome is runs =
    (as_spelled (live_tool_of over before now last) words _ old new outcome is.spelled runs).form arguments is

pub returns-clause-follows : goal.returns-clause-follows
returns-clause-follows c arguments words over before now last old new outcome is runs =
    (as_spelled (live_tool_of over before now last) words _ old new outcome is.form.spelled runs).form arguments is

pub returns-clause-watch_relays : goal.returns-clause-watch_relays
returns-clause-watch_relays c arguments words over before now last old new outcome is runs =
    (as_spelled (live_tool_of over before now last) words _ old new outcome (begins_with_name (codes "watch-relay") words is.spelled) runs).form arguments is

pub returns-clause-relay_is : goal.returns-clause-relay_is
returns-clause-relay_is c arguments words is = subst IsLive (sym (begins_with_name (codes "relay") words is.spelled)) refl

pub returns-clause-play_is : goal.returns-clause-play_is
returns-clause-play_is c arguments words is = subst IsLive (sym (begins_with_name (codes "play") words is.spelled)) refl

pub returns-clause-capture_is : goal.returns-clause-capture_is
returns-clause-capture_is c arguments words is = subst IsLiveTool (sym (begins_with_name (codes "capture") words is)) refl

pub returns-clause-feed_is : goal.returns-clause-feed_is
returns-clause-feed_is c arguments words is = subst IsLiveTool (sym (begins_with_name (codes "feed") words is.spelled)) refl

pub returns-clause-watch_relay_is : goal.returns-clause-watch_relay_is
returns-clause-watch_relay_is c arguments words is = subst IsLiveTool (sym (begins_with_name (codes "watch-relay") words is.spelled)) refl
