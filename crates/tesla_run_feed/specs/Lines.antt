-- The lines that tell what a feed came to.
use Rattle.std.specs.Prelude.{Bool, true, false, ◌||◌, ℕ, List, [], ◌++◌, codes}
use Rattle.tesla_feed.specs.declared.counts.FeedCounts.{FeedCounts}
use Rattle.tesla_feeds.specs.declared.events.FeedsCounts.{FeedsCounts}
use Rattle.tesla_feeds.specs.declared.feeding.FeedsEnd.{FeedsEnd}
use Rattle.tesla_front.specs.OutcomeView.{OutcomeView, Done, Failed, Refused}
use Rattle.tesla_front.specs.Lines.{count_line}
use Rattle.tesla_front.specs.Refusal.{refused_line}
use Rattle.tesla_front.specs.declared.fault.Fault.TheVariants as faults

-- how many messages and disclosures were sent
abbrev pub sent_lines : FeedCounts → List ℕ
sent_lines counts = count_line (codes "messages") counts.messages ++ count_line (codes "disclosures") counts.disclosures

-- how many messages were refused, by the cause
abbrev pub refused_lines : FeedCounts → List ℕ
refused_lines counts =
    count_line (codes "toolong") counts.too_long ++ count_line (codes "early") counts.early ++ count_line (codes "over") counts.over
    ++ count_line (codes "backward") counts.backward ++ count_line (codes "full") counts.full

-- how many messages came while the clock couldn't be read
abbrev pub unread_line : FeedCounts → List ℕ
unread_line counts = count_line (codes "unread") counts.unread

-- how many handovers were sent, where there are several streams
abbrev pub handover_line : Bool → ℕ → List ℕ
handover_line false handovers = []
handover_line true handovers = count_line (codes "handovers") handovers

-- all lines, told whether there are several streams
abbrev pub lines_of : Bool → FeedsCounts → List ℕ
lines_of several counts =
    sent_lines counts.feed ++ handover_line several counts.handovers ++ refused_lines counts.feed ++ unread_line counts.feed

-- what a feed came to, told whether there are several streams, whether the link failed, whether a post or STATUS did, and whether the sender of a later stream was lacking, and what that comes to
abbrev pub outcome_by : Bool → Bool → Bool → Bool → OutcomeView → FeedsCounts → OutcomeView
outcome_by several true write_failed lacking lack counts = Failed faults.Read
outcome_by several false true lacking lack counts = Failed faults.Write
outcome_by several false false true lack counts = lack
outcome_by several false false false lack counts = Done (lines_of several counts)

-- where the link didn't fail, and no sender was lacking
abbrev pub outcome_written : Bool → Bool → FeedsCounts → OutcomeView
outcome_written several true counts = Failed faults.Write
outcome_written several false counts = Done (lines_of several counts)

-- what a feed came to, told whether STATUS failed, and what a lacking sender comes to: a failed link, else a failed post or STATUS, else that, else the lines
abbrev pub outcome_with : Bool → FeedsEnd → Bool → OutcomeView → OutcomeView
outcome_with several end status_failed lack = outcome_by several end.link_failed (end.post_failed || status_failed) end.lacking lack end.counts

-- what streams that are all over when their feed is opened come to: the setup is refused
abbrev pub streams_over : OutcomeView
streams_over = Refused 2 (refused_line (codes "setup") 0 (codes "Over"))
