-- The promise of an early message goes back to a packet that was released.
use Rattle.std.proofs.Common.{◌≡◌, ◌<◌, ℕ, zero, suc, Bool, true, false, List, take, Option, Some, None, refl, ⊎_elim, arith}
use Rattle.std.specs.Prelude.{slice_get}
use Rattle.std.specs.List.{list_all, range_with_len}
use Rattle.tesla_base.specs.declared.release.Head.{Head}
use Rattle.tesla_fitting.specs.declared.config.Config.{Config}
use Rattle.tesla_receiver.specs.History.{IsLegal, arrivals_in, given_in, has_end, payload_of, reply_to, reply_with}
use Rattle.tesla_receiver.specs.Packets.{released}
use Rattle.tesla_receiver.specs.Entries.{Entry}
use Rattle.tesla_receiver.specs.declared.history.Entry.TheVariants.{Taken}
use Rattle.tesla_receiver.proofs.Events.{legal_at}
use Rattle.tesla_state.specs.declared.replies.Reply.TheVariants.{Given}
use Rattle.tesla_walks.specs.declared.release.Release.{Release}
use Rattle.tesla_early.specs.Early.{Message}
use Rattle.tesla_early.specs.Laws.{FromEarly, FromGiven, Gave, IsReleased, ReachesReleased, WasEarly}
use Rattle.tesla_early.proofs.Accepted.{was_promised}

-- ---- a packet that is given

gives_released : (cfg : Config) (h : List Entry) (entry : ℕ) (o : Option Release) (over : Bool) (head : Head) (payload : List ℕ) → slice_get (released cfg (arrivals_in (take entry h))) (given_in (take entry h)) ≡ o
    → Given head payload ≡ reply_with (arrivals_in (take entry h)) (given_in (take entry h)) o over → IsReleased cfg h entry payload
gives_released cfg h entry None true head payload is gave = absurd cc
gives_released cfg h entry None false head payload is gave = absurd cc
gives_released cfg h entry (Some release) over head payload is gave =
    let same : payload ≡ payload_of (slice_get (arrivals_in (take entry h)) release.place) = cc in
    record { release = release; next = is; payload_is = same }

reply_released : (cfg : Config) (h : List Entry) (entry : ℕ) (head : Head) (payload : List ℕ) → Given head payload ≡ reply_to cfg (take entry h) → IsReleased cfg h entry payload
unfolding reply_to
reply_released cfg h entry head payload gave =
    let before = take entry h in
    gives_released cfg h entry (slice_get (released cfg (arrivals_in before)) (given_in before)) (list_all (has_end before) (range_with_len 0 cfg.ingests)) head payload refl gave

-- it's the next that is released
pub gave_released : (cfg : Config) (h : List Entry) (entry : ℕ) (payload : List ℕ) → IsLegal cfg h → Gave h entry payload → IsReleased cfg h entry payload
gave_released cfg h entry payload legal gave =
    let is : Taken gave.releaser (Given gave.head payload) ≡ Taken gave.releaser (reply_to cfg (take entry h)) = legal_at cfg h entry (Taken gave.releaser (Given gave.head payload)) legal gave.is in
    reply_released cfg h entry gave.head payload cc

-- ---- an early message

reaches_below : (cfg : Config) (most : ℕ) (h : List Entry) (n entry : ℕ) (message : Message) → entry < n → IsLegal cfg h → WasEarly most h entry message → ReachesReleased cfg most h entry message
reaches_below cfg most h zero entry message below legal was = absurd (omega arith)
reaches_below cfg most h (suc n) entry message below legal was =
    let promised = was_promised most h entry message was in
    let earlier = promised.before in
    ⊎_elim
    (λ gave. FromGiven entry message promised.teacher promised.payload earlier gave (gave_released cfg h promised.teacher promised.payload legal gave) promised.promise)
    (λ early. FromEarly entry message promised.teacher (record { name = early.0; payload = promised.payload }) earlier early.1 promised.promise
    (reaches_below cfg most h n promised.teacher (record { name = early.0; payload = promised.payload }) (omega arith) legal early.1))
    promised.taught

pub reaches_released : (cfg : Config) (most : ℕ) (h : List Entry) (entry : ℕ) (message : Message) → IsLegal cfg h → WasEarly most h entry message → ReachesReleased cfg most h entry message
reaches_released cfg most h entry message legal was = reaches_below cfg most h (suc entry) entry message (omega arith) legal was
