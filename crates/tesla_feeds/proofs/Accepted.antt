-- The log of each stream of a list is the log of a sender.
use Rattle.std.proofs.Common.{ℕ, List, [], ◌∷◌}
use Rattle.std.specs.List.{AllByRecursion}
use Rattle.tesla_sender.specs.Made.{Message, Disclose, Stream}
use Rattle.tesla_feed.proofs.Logs.{accepted_more, disclosure_accepted, message_accepted}
use Rattle.tesla_feeds.specs.Fed.{lasting, parts_at}
use Rattle.tesla_feeds.specs.Laws.{FeedsAccepted, IsAcceptedPart}
use Rattle.tesla_feeds.proofs.Kept.{KeptByCalls, fed_keeps}

accepted_kept : KeptByCalls IsAcceptedPart
accepted_kept = record {
  message = λ part reading payload name is kept. accepted_more part.stream [] part.log (Message reading payload) kept (message_accepted part.stream part.first part.log reading payload name is);
  handover = λ part reading payload name is kept. accepted_more part.stream [] part.log (Message reading payload) kept (message_accepted part.stream part.first part.log reading payload name is);
  disclosure = λ part reading due kept. accepted_more part.stream [] part.log (Disclose reading) kept (disclosure_accepted part.stream part.first part.log reading due);
}

opened_kept : (opening : ℕ) (streams : List Stream) → AllByRecursion IsAcceptedPart (parts_at opening streams)
opened_kept opening [] = tt
opened_kept opening (stream ∷ streams) = (tt, opened_kept opening streams)

pub all_accepted : FeedsAccepted
all_accepted streams opening events = fed_keeps IsAcceptedPart accepted_kept streams opening events (opened_kept opening (lasting opening streams))
