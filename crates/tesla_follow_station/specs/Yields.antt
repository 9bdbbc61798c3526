-- What a sink gets of the answer to a take of a follower.
use Rattle.tesla_capture.specs.Release.{followed_text}
use Rattle.tesla_follow.specs.declared.answers.FollowReply.{FollowReply}
use Rattle.tesla_follow.specs.declared.answers.FollowReply.TheVariants as replies
use Rattle.tesla_shared.specs.Yields.{Yield, Record, Nothing, Over}

-- a released packet yields a record of kind 0, and a message that was accepted on arrival one of kind 1
abbrev pub follow_yield : FollowReply → Yield
follow_yield (replies.Released epoch head payload next) = Record (followed_text 0 epoch head payload)
follow_yield (replies.Early epoch head payload) = Record (followed_text 1 epoch head payload)
follow_yield replies.Empty = Nothing
follow_yield replies.Over = Over
