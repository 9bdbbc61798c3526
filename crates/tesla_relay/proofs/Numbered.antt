-- Datagrams that a link brought, and items behind others.
use Rattle.std.proofs.Common.{◌≡◌, ◌∙◌, ℕ, suc, ◌<◌, ◌≤◌, Bool, List, [], ◌∷◌, ◌++◌, length, map, refl, sym, ap, subst, arith, append-nil}
use Rattle.std.proofs.lemmas.List.Concat.{flat_map-append}
use Rattle.tesla_relay.specs.Feeding.{text_in, texts}
use Rattle.tesla_relay.specs.Line.{numbered, numbered_in}
use Rattle.tesla_relay.specs.Numbered.{AreBelow, AreBroughtFrom, Numbered, datagram_of}
use Rattle.tesla_relay.specs.declared.line.Item.{Item}
use Rattle.tesla_relay.specs.declared.line.Item.TheVariants.{Datagram, End}

-- ---- in order and each once

-- what stands before others was brought, too
pub brought_prefix : (brought : ℕ → List ℕ → Bool) (least : ℕ) (front more : List Numbered) → AreBroughtFrom brought least (front ++ more) → AreBroughtFrom brought least front
brought_prefix brought least [] more all = tt
brought_prefix brought least (one ∷ front) more all = (all.0, all.1, brought_prefix brought (suc one.number) front more all.2)

brought_from : (brought : ℕ → List ℕ → Bool) (least number : ℕ) (all : List Numbered) → least ≤ number → AreBroughtFrom brought number all → AreBroughtFrom brought least all
brought_from brought least number [] few all = tt
brought_from brought least number (one ∷ more) few all = (omega (arith, few, all.0), all.1, all.2)

-- others behind them
pub brought_both : (brought : ℕ → List ℕ → Bool) (least number : ℕ) (front more : List Numbered) → least ≤ number → AreBelow number front → AreBroughtFrom brought least front → AreBroughtFrom brought number more → AreBroughtFrom brought least (front ++ more)
brought_both brought least number [] more few below all then = brought_from brought least number more few then
brought_both brought least number (one ∷ front) more few below all then = (all.0, all.1, brought_both brought (suc one.number) number front more (omega (arith, below.0)) below.1 all.2 then)

below_more : (number later : ℕ) (all : List Numbered) → number ≤ later → AreBelow number all → AreBelow later all
below_more number later [] few below = tt
below_more number later (one ∷ more) few below = (omega (arith, few, below.0), below_more number later more few below.1)

below_both : (number : ℕ) (front more : List Numbered) → AreBelow number front → AreBelow number more → AreBelow number (front ++ more)
below_both number [] more first then = then
below_both number (one ∷ front) more first then = (first.0, below_both number front more first.1 then)

-- ---- items

-- the datagrams behind one item more
pub numbered_more : (items : List Item) (item : Item) → numbered (items ++ item ∷ []) ≡ numbered items ++ numbered_in item
numbered_more items item = flat_map-append numbered_in items (item ∷ []) ∙ ap (λ (own : List Numbered). numbered items ++ own) (append-nil (numbered_in item))

-- one datagram more came before a later number
pub below_next : (number later : ℕ) (items : List Item) (item : Item) (datagram : List ℕ) → number < later → AreBelow number (numbered items) → numbered_in item ≡ record { number = number; bytes = datagram } ∷ [] → AreBelow later (numbered (items ++ item ∷ []))
below_next number later items item datagram less below is =
    subst (AreBelow later) (sym (numbered_more items item ∙ ap (λ (own : List Numbered). numbered items ++ own) is))
    (below_both later (numbered items) (record { number = number; bytes = datagram } ∷ []) (below_more number later (numbered items) (omega (arith, less)) below) (less, tt))

-- all came before a later number, too
pub below_later : (number later : ℕ) (items : List Item) → number ≤ later → AreBelow number (numbered items) → AreBelow later (numbered items)
below_later number later items few below = below_more number later (numbered items) few below

-- the text of an item with a number
pub text_of : (item : Item) (number : ℕ) (datagram : List ℕ) → numbered_in item ≡ record { number = number; bytes = datagram } ∷ [] → text_in item ≡ datagram ∷ []
text_of (Datagram own size bytes) number datagram is = ap (λ (all : List Numbered). map datagram_of all) is
text_of End number datagram is = absurd (omega (arith, ap (λ (all : List Numbered). length all) is))

-- the texts of items without their numbers
pub texts_of : (items : List Item) → map datagram_of (numbered items) ≡ texts items
texts_of [] = refl
texts_of (Datagram number size bytes ∷ items) = ap (λ (rest : List (List ℕ)). text_in (Datagram number size bytes) ++ rest) (texts_of items)
texts_of (End ∷ items) = texts_of items
