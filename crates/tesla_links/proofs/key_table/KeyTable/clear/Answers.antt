use Rattle.std.proofs.Common.{refl, None}
use Rattle.std.proofs.Math.ListN.{set}
use Rattle.std.proofs.lemmas.Option.{none-some}
use Rattle.tesla_links.specs.Tables.{IsKeyed}
use Rattle.tesla_links.proofs.Keyed.{in_view, slot_seen, slots_of_is, somewhere_seen}
use Rattle.tesla_links.proofs.key_table.KeyTable.clear.Goals.{After-transfer}
use Rattle.tesla_links.proofs.key_table.KeyTable.clear.Goals as goal

-- what the slot that is vacant leaves
cleared : (c : After-transfer) → IsKeyed c.self.inside.capacity c.transfer.new.self c.self.inside.keys.items (set c.args.self.now.slots c.args.slot None)
cleared c = slot_seen c.self.inside c.args.self.now c.self.view_is c.self.invariant c.args.slot c.requires None c.transfer.new.self c.self.inside.keys.items c.transfer.ensures.slot_count c.transfer.ensures.lists refl (λ within k is. absurd (none-some k is)) (λ q ne. refl)

pub transfer-requires-clause-somewhere : goal.transfer-requires-clause-somewhere
transfer-requires-clause-somewhere c = somewhere_seen c.self.inside c.args.self.now c.self.view_is c.self.invariant c.args.slot c.requires

pub invariant_of-self : goal.invariant_of-self
invariant_of-self c = in_view _ _ _ _ (cleared (goal.at.invariant_of-self c).After-transfer)

pub returns-clause-slots : goal.returns-clause-slots
returns-clause-slots c = slots_of_is _ _ _ _ (cleared (goal.at.returns-clause-slots c).After-transfer)
