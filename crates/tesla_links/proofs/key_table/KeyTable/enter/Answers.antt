use Rattle.std.proofs.Common.{◌∙◌, ap, Some}
use Rattle.std.proofs.Math.ListN.{set}
use Rattle.std.proofs.lemmas.List.{get_or-set_other, get_or-set_same, length-set}
use Rattle.std.proofs.lemmas.Option.{same_Some}
use Rattle.tesla_links.specs.Lists.{moved}
use Rattle.tesla_links.specs.Tables.{IsKeyed}
use Rattle.tesla_links.proofs.Keyed.{in_view, slot_seen, slots_of_is, somewhere_seen}
use Rattle.tesla_links.proofs.key_table.KeyTable.enter.Goals.{After-transfer}
use Rattle.tesla_links.proofs.key_table.KeyTable.enter.Goals as goal

-- what the slot that has the key leaves
entered : (c : After-transfer) → IsKeyed c.self.inside.capacity c.transfer.new.self (set c.self.inside.keys.items c.args.slot c.args.key) (set c.args.self.now.slots c.args.slot (Some c.args.key))
entered c =
    let i = c.self.inside in
    slot_seen i c.args.self.now c.self.view_is c.self.invariant c.args.slot c.requires (Some c.args.key) c.transfer.new.self (set i.keys.items c.args.slot c.args.key) c.transfer.ensures.slot_count
    (c.transfer.ensures.lists ∙ ap (λ n. moved c.args.slot n i.chains.lists) c.bucket.ensures.value)
    (length-set i.keys.items c.args.slot c.args.key)
    (λ within k is. get_or-set_same i.keys.items c.args.slot c.args.key 0 within ∙ same_Some c.args.key k is)
    (λ q ne. get_or-set_other i.keys.items c.args.slot q c.args.key 0 ne)

pub transfer-requires-clause-somewhere : goal.transfer-requires-clause-somewhere
transfer-requires-clause-somewhere c = somewhere_seen c.self.inside c.args.self.now c.self.view_is c.self.invariant c.args.slot c.requires

pub invariant_of-self : goal.invariant_of-self
invariant_of-self c = in_view _ _ _ _ (entered (goal.at.invariant_of-self c).After-transfer)

pub returns-clause-slots : goal.returns-clause-slots
returns-clause-slots c = slots_of_is _ _ _ _ (entered (goal.at.returns-clause-slots c).After-transfer)
