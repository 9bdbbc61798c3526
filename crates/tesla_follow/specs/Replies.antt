-- What a take of a follower answers, with the bytes that it fills in.
use Rattle.std.specs.Prelude.{◌≡◌, ◌≤◌, ℕ, List, take, drop}
use Rattle.tesla_follow.specs.declared.answers.FollowReply.{FollowReply}
use Rattle.tesla_follow.specs.declared.answers.FollowReply.TheVariants as replies
use Rattle.tesla_follow.specs.declared.answers.FollowTake.{FollowTake}
use Rattle.tesla_follow.specs.declared.answers.FollowTake.TheVariants.{Released, Early, Empty, Over}

-- the payload stands at the start of the bytes
abbrev pub follow_shown : FollowTake → List ℕ → FollowReply
follow_shown (Released epoch head next) into = replies.Released epoch head (take head.length into) next
follow_shown (Early epoch head) into = replies.Early epoch head (take head.length into)
follow_shown Empty into = replies.Empty
follow_shown Over into = replies.Over

-- a payload fits the bytes, and those behind it are as they were; without one all are
abbrev pub FollowKeepsBehind : FollowTake → List ℕ → List ℕ → Type 0
FollowKeepsBehind (Released epoch head next) old new = (head.length ≤ 1200) × (drop head.length new ≡ drop head.length old)
FollowKeepsBehind (Early epoch head) old new = (head.length ≤ 1200) × (drop head.length new ≡ drop head.length old)
FollowKeepsBehind Empty old new = new ≡ old
FollowKeepsBehind Over old new = new ≡ old
