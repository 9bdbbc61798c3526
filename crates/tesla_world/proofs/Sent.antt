-- What was sent, moment by moment: each has its call, with the calls before it.
use Rattle.std.proofs.Common.{◌≡◌, ℕ, zero, suc, List, [], ◌∷◌, ◌++◌, take, Some, refl, sym, subst, append_assoc}
use Rattle.std.specs.Prelude.{slice_get}
use Rattle.std.proofs.lemmas.List.{append-nil}
use Rattle.tesla_sender.specs.Made.{Call, Stream}
use Rattle.tesla_world.specs.World.{Moment, Sent, Received, Dated, sent_in, IsSentFor, AreSentFor}

-- what was sent as number k is for the call k, after those before it
pub record HasCall (stream : Stream) (log calls : List Call) (k : ℕ) (sent : Dated) : Type 0 where
  pub call : Call
  pub at : slice_get calls k ≡ Some call
  pub is_sent : IsSentFor stream (log ++ take k calls) call sent

pub sent_for : (stream : Stream) (log calls : List Call) (sents : List Dated) (k : ℕ) (sent : Dated) → AreSentFor stream log calls sents → slice_get sents k ≡ Some sent → HasCall stream log calls k sent
sent_for stream log [] [] k sent all at = absurd (cc)
sent_for stream log [] (one ∷ sents) k sent all at = absurd all
sent_for stream log (call ∷ calls) [] k sent all at = absurd all
sent_for stream log (call ∷ calls) (one ∷ sents) zero sent all at =
    let same : one ≡ sent = cc in
    record {
      call = call;
      at = refl;
      is_sent = subst (λ (before : List Call). IsSentFor stream before call sent) (sym (append-nil log)) (subst (λ (x : Dated). IsSentFor stream log call x) same all.0);
    }
sent_for stream log (call ∷ calls) (one ∷ sents) (suc k) sent all at =
    let rest = sent_for stream (log ++ call ∷ []) calls sents k sent all.1 at in
    record {
      call = rest.call;
      at = rest.at;
      is_sent = subst (λ (before : List Call). IsSentFor stream before rest.call sent) (append_assoc log (call ∷ []) (take k calls)) rest.is_sent;
    }

-- a moment at which something was sent has its number in what was sent
pub sent_number : (world : List Moment) (i reading : ℕ) (bytes : List ℕ) → slice_get world i ≡ Some (Sent reading bytes) → (k : ℕ) × (slice_get (sent_in world) k ≡ Some (record { reading = reading; bytes = bytes }))
sent_number [] i reading bytes at = absurd (cc)
sent_number (Sent r b ∷ world) zero reading bytes at =
    let same : ◌≡◌ {A = Moment} (Sent r b) (Sent reading bytes) = cc in
    let now : r ≡ reading = cc in
    let text : b ≡ bytes = cc in
    (zero, cc)
sent_number (Received r b ∷ world) zero reading bytes at = absurd (cc)
sent_number (Sent r b ∷ world) (suc i) reading bytes at = let rest = sent_number world i reading bytes at in (suc rest.0, rest.1)
sent_number (Received r b ∷ world) (suc i) reading bytes at = sent_number world i reading bytes at
