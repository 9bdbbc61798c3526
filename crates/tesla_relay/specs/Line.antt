-- The rule of a queue. What was put in is what was taken out and then what it holds, and a link brought it, in order
-- and each once. One pass at most puts in, and it has the list of what was put in; the same for what is taken out.
use Rattle.std.specs.Prelude.{◌≡◌, ℕ, Bool, true, false, List, [], ◌∷◌, ◌++◌, take, flat_map}
use mathlib.Core.Option.{some}
use lib.ListN.{get_elem?}
use Rattle.tesla_relay.specs.Numbered.{AreBrought, Numbered}
use Rattle.tesla_relay.specs.declared.line.Log.{Log}
use Rattle.tesla_relay.specs.declared.line.Item.{Item}
use Rattle.tesla_relay.specs.declared.line.Item.TheVariants.{Datagram, End}

-- the datagram that an item is, with its number
abbrev pub numbered_in : Item → List Numbered
numbered_in (Datagram number size bytes) = record { number = number; bytes = take size bytes.value } ∷ []
numbered_in End = []

-- the datagrams among items, with their numbers
abbrev pub numbered : List Item → List Numbered
numbered items = flat_map numbered_in items

-- what a pass may do, put in and take out, and what it has put in and taken out
abbrev pub log : Bool → Bool → List Item → List Item → Log
log puts pops put popped = record { puts = puts; pops = pops; put = put; popped = popped }

-- of one that puts in, and of one that takes out
abbrev pub put_log : List Item → Log
put_log put = log true false put []

abbrev pub popped_log : List Item → Log
popped_log popped = log false true [] popped

abbrev pub Fits : ℕ → ℕ → List Item → List Item → ℕ → Log → Type 0
Fits writer reader put popped port v = (v.puts ≡ true → (port ≡ writer) × (v.put ≡ put)) × (v.pops ≡ true → (port ≡ reader) × (v.popped ≡ popped))

abbrev pub IsInOrder : (brought : ℕ → List ℕ → Bool) → List Item → List Log → Type 0
IsInOrder brought items views = (writer : ℕ) × (reader : ℕ) × (put : List Item) × (popped : List Item) × (put ≡ popped ++ items)
    × ((port : ℕ) (v : Log) → get_elem? views port ≡ some v → Fits writer reader put popped port v) × AreBrought brought (numbered put)

-- what the queue holds is the end of what was put in
abbrev pub Offered : List Item → List Item → Type 0
Offered put items = (popped : List Item) × (put ≡ popped ++ items)
