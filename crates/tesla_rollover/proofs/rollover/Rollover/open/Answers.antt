use Rattle.std.proofs.Common.{◌≡◌, List, [], to_z, of_z, sym, ap, subst, ◌∙◌}
use Rattle.std.specs.Int.{w64}
use Rattle.tesla_commit.specs.Parts.{Parts}
use Rattle.tesla_fitting.specs.declared.config.Config.{Config}
use Rattle.tesla_rollover.specs.Stands.{RollStands}
use Rattle.tesla_state.specs.State.{State}
use Rattle.tesla_rollover.proofs.Called.{receivers_first}
use Rattle.tesla_rollover.proofs.Moved.{roll_opened}
use Rattle.tesla_rollover.proofs.rollover.Rollover.open.Goals as goal

pub returns-clause-stands : goal.returns-clause-stands
returns-clause-stands c =
    let a = c.args in
    let own : a.setup ≡ c.in_ok-copy.field-0 = let copied = c.in_ok-copy.ensures in cc in
    let cfg : Config = record { setup = c.in_ok-copy.field-0; lag = to_z w64 (of_z w64 a.lag); capacity = a.capacity; quota = a.capacity; ingests = a.ingests } in
    let same : c.in_ok-receiver.receiver.config ≡ cfg =
    c.in_ok-receiver.ensures.config
    ∙ ap (λ (s : Parts). record { setup = s; lag = to_z w64 (of_z w64 a.lag); capacity = a.capacity; quota = a.capacity; ingests = a.ingests }) own in
    let receivers = receivers_first _ _ _ c.push_reserved.ensures.items c.in_ok-epochs.ensures.items in
    subst (λ (ss : List State). RollStands (record { config = cfg; receivers = ss; given = 0; calls = 0 }) []) (sym receivers)
    (roll_opened cfg c.in_ok-receiver.receiver same c.in_ok-receiver.ensures.stands)
