-- What live commands may ask, write and send while they run. It holds whether or not they end, and is told their words and what their environment tells.
use Rattle.std.specs.Prelude.{◌≡◌, ◌⊎◌, ℕ, Bool, true, List, Option, codes}
use Rattle.tesla_desk.specs.Outside.{Told}
use Rattle.tesla_front.specs.Table.{IsFirst}
use Rattle.tesla_run_capture.specs.Pieces as capturing
use Rattle.tesla_run_feed.specs.Due as feeding
use Rattle.tesla_run_follow.specs.Allowed.{MayWriteCounts, MayWriteFollowed}
use Rattle.tesla_run_follow.specs.Arguments.{IsFollow}
use Rattle.tesla_run_relay.specs.Due as relaying
use Rattle.tesla_run_relay.specs.play.Due as playing
use Rattle.tesla_run_relay.specs.watch.Allowed.{MayTellForWords}
use Rattle.tesla_run_relay.specs.watch.Due as tallying
use Rattle.tesla_run_receive.specs.Allowed.{MayWriteReleased}
use Rattle.tesla_run_receive.specs.Arguments.{IsReceive, ReceiveArguments}
use Rattle.tesla_run_receive.specs.OutputArguments.{OutputArguments}
use Rattle.tesla_run_receive.specs.record.Allowed.{MayWriteTail}
use Rattle.tesla_run_receive.specs.record.Arguments.{IsRecord}
use Rattle.tesla_run_receive.specs.watch.Allowed.{MayWriteLines}
use Rattle.tesla_run_receive.specs.watch.Arguments.{IsWatch}
use Rattle.tesla_session.specs.Allowed.{MayAsk, MayAskLinks}

-- the outputs, by name, what each tells to be written, and what it may write
module _ {S : Type 0} (output_name : S → List ℕ) (written : S → Option (List ℕ)) (may_write : S → List ℕ → Bool)
    -- the posts, by name, what each tells to be sent, and what it may send
    {P : Type 0} (post_name : P → List ℕ) (sent : P → Option (List (List ℕ))) (may_send : P → List ℕ → Bool)
    -- what links brought, and which may be asked; what clocks may be asked for, what they gave, and what they gave when they were asked
    (brought : ℕ → List ℕ → Bool) {K : Type 0} (may_ask_link : K → Bool) (may_ask : ℕ → List ℕ → Bool) (gave : ℕ → Bool) (read_for : ℕ → List ℕ → ℕ → Bool) where
  -- how many datagrams each link has brought; which were put into which queue before a post, and which queue was full when which had come
  module _ (has_brought : K → ℕ → Bool) (was_put : (ℕ → List ℕ → Bool) → ℕ → ℕ → Bool) (was_full : (ℕ → List ℕ → Bool) → ℕ → ℕ → ℕ → Bool) where
    -- receive, relay and play: clocks may be asked for what links brought; outputs may write what is released to them; posts may send what a relay, or a play, is to send next; and links may be asked, that of a relay once it has offered what that has brought to all its posts
    pub record AllowsLive (words : List (List ℕ)) (told : Told) : Type 0 where
      pub any_link : IsFirst (codes "receive") words → MayAskLinks may_ask_link
      pub relay_link : relaying.MayAskForWords (was_put brought) (was_full brought) has_brought may_ask_link words
      pub asked : MayAsk brought may_ask
      pub received : (arguments : ReceiveArguments) → IsReceive arguments words → MayWriteReleased output_name written may_write read_for arguments told
      pub relayed : (post : P) (datagram : List ℕ) → relaying.IsDue brought words (post_name post) (sent post) datagram → may_send post datagram ≡ true
      pub played : (post : P) (datagram : List ℕ) → playing.IsDue gave told words (post_name post) (sent post) datagram → may_send post datagram ≡ true

    -- capture, feed, watch, watch-relay and follow: the same of what is captured, of the frames that are due of a feed, of what is released or followed, and of what a relay is to send next, whose link may be asked as that of relay; STATUS may have each line that comes next
    pub record AllowsLiveTools (words : List (List ℕ)) (told : Told) : Type 0 where
      pub any_link : IsFirst (codes "capture") words ⊎ IsFirst (codes "feed") words ⊎ IsFirst (codes "watch") words ⊎ IsFirst (codes "follow") words → MayAskLinks may_ask_link
      pub relay_link : tallying.MayAskForWords (was_put brought) (was_full brought) has_brought may_ask_link words
      pub asked : MayAsk brought may_ask
      pub captured : (it : S) (piece : List ℕ) → capturing.IsCapturedAs read_for words told.live (output_name it) (written it) piece → may_write it piece ≡ true
      pub fed : (post : P) (datagram : List ℕ) → feeding.IsFedFrom gave read_for words told (post_name post) (sent post) datagram → may_send post datagram ≡ true
      pub counted : (it : S) (piece : List ℕ) → feeding.IsCountedFrom gave read_for words told (output_name it) (written it) piece → may_write it piece ≡ true
      pub watched : (arguments : OutputArguments) → IsWatch arguments words → MayWriteReleased output_name written may_write read_for arguments.receive told
      pub status : (arguments : OutputArguments) → IsWatch arguments words → MayWriteLines output_name written may_write gave arguments told
      pub relayed : (post : P) (datagram : List ℕ) → tallying.IsDue brought words (post_name post) (sent post) datagram → may_send post datagram ≡ true
      pub tallies : MayTellForWords output_name written may_write gave words
      pub followed : (arguments : OutputArguments) → IsFollow arguments words → MayWriteFollowed output_name written may_write read_for arguments.receive told
      pub counts : (arguments : OutputArguments) → IsFollow arguments words → MayWriteCounts output_name written may_write gave arguments

  -- record: the same of what is released; TAIL may have each piece of the last entries of a history
  pub record AllowsRecorded (words : List (List ℕ)) (told : Told) : Type 0 where
    pub any_link : MayAskLinks may_ask_link
    pub asked : MayAsk brought may_ask
    pub recorded : (arguments : OutputArguments) → IsRecord arguments words → MayWriteReleased output_name written may_write read_for arguments.receive told
    pub tail : (arguments : OutputArguments) → IsRecord arguments words → MayWriteTail output_name written may_write read_for arguments told
