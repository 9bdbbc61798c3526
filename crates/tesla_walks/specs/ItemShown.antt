-- A held item as the definitions of a receiver see it.
use Rattle.std.specs.Prelude.{◌≡◌, ◌≤◌, ℕ, All, map, take}
use Rattle.tesla_base.specs.declared.names.WideTag.{WideTag}
use Rattle.tesla_base.specs.Tag.{tag_bytes, wide_tag}
use Rattle.tesla_buffer.specs.declared.item.Item.{Item}
use Rattle.tesla_walks.specs.Holding.{Holding}

-- the packet that an item holds, in a stream of so many chains
abbrev pub holding_in : ℕ → Item → Holding
holding_in count item = record {
  order = item.order;
  name = item.name;
  chains = item.chains;
  payload = take item.length item.payload;
  tags = map tag_bytes (take count item.tags);
  released = item.released;
  taken = item.taken;
}

-- zeros fill up the room of the tag
abbrev pub IsFilled : WideTag → Type 0
IsFilled tag = tag ≡ wide_tag (tag_bytes tag)

-- the payload has its room, and so have the tags of so many chains, at most 8
pub record IsItem (count : ℕ) (item : Item) : Type 0 where
  pub few : count ≤ 8
  pub payload : item.length ≤ 1200
  pub tags : All IsFilled (take count item.tags)
