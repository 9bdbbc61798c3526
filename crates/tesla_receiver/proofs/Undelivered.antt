-- The packets that are held and weren't taken are those that weren't delivered.
use Rattle.std.proofs.Common.{◌≡◌, ℕ, ◌+◌, Bool, true, false, cond, not, ◌&&◌, List, [], ◌∷◌, ◌++◌, Option, Some, None, refl, sym, ap, ◌∙◌, arith}
use Rattle.std.specs.Prelude.{count_by, flat_map, take}
use Rattle.std.specs.List.{enumerate_from, list_any}
use Rattle.std.proofs.lemmas.List.Sums.{sum_by-append, sum_by-cons}
use Rattle.tesla_fitting.specs.declared.config.Config.{Config}
use Rattle.tesla_receiver.specs.Entries.{Arrival, Entry}
use Rattle.tesla_receiver.specs.Held.{is_gone}
use Rattle.tesla_receiver.specs.History.{arrivals_in, given_in}
use Rattle.tesla_receiver.specs.Packets.{packet_of, released}
use Rattle.tesla_receiver.specs.Stands.{Stands, held_at, holding_of, holdings}
use Rattle.tesla_receiver.specs.Undelivered.{is_undelivered, undelivered_in, undelivered_of}
use Rattle.tesla_receiver.specs.declared.packet.Packet.{Packet}
use Rattle.tesla_state.specs.Releases.{is_at}
use Rattle.tesla_state.specs.State.{State}
use Rattle.tesla_state.specs.Steps.{is_untaken}
use Rattle.tesla_walks.specs.Holding.{Holding}

module _ (cfg : Config) (arrivals : List Arrival) (given : ℕ) where
  one_with : (gone : Bool) (order : ℕ) (packet : Packet)
      → count_by is_untaken (cond gone [] (holding_of cfg arrivals given order packet ∷ [])) ≡ cond (not gone && not (list_any (is_at order) (take given (released cfg arrivals)))) 1 0
  one_with true order packet = refl
  one_with false order packet = sum_by-cons (λ (x : Holding). cond (is_untaken x) 1 0) (holding_of cfg arrivals given order packet) [] ∙ omega arith

  one : (order : ℕ) (packet : Option Packet) → count_by is_untaken (held_at cfg arrivals given order packet) ≡ cond (is_undelivered cfg arrivals given order packet) 1 0
  one order None = refl
  one order (Some packet) = one_with (is_gone cfg arrivals given order packet) order packet

  abbrev held_for : ℕ × Arrival → List Holding
  held_for p = held_at cfg arrivals given p.0 (packet_of p.1)

  abbrev counts : ℕ × Arrival → Bool
  counts p = is_undelivered cfg arrivals given p.0 (packet_of p.1)

  all : (ps : List (ℕ × Arrival)) → count_by is_untaken (flat_map held_for ps) ≡ count_by counts ps
  all [] = refl
  all (p ∷ ps) =
      sum_by-append (λ (x : Holding). cond (is_untaken x) 1 0) (held_for p) (flat_map held_for ps)
      ∙ ap (λ n. n + count_by is_untaken (flat_map held_for ps)) (one p.0 (packet_of p.1)) ∙ ap (λ n. cond (counts p) 1 0 + n) (all ps)
      ∙ sym (sum_by-cons (λ (q : ℕ × Arrival). cond (counts q) 1 0) p ps)

held_are : (cfg : Config) (arrivals : List Arrival) (given : ℕ) → count_by is_untaken (holdings cfg arrivals given) ≡ undelivered_of cfg arrivals given
unfolding holdings undelivered_of
held_are cfg arrivals given = all cfg arrivals given (enumerate_from 0 arrivals)

pub dropped_are : (state : State) (h : List Entry) → Stands state h → count_by is_untaken state.held ≡ undelivered_in state.config h
dropped_are state h st = ap (count_by is_untaken) st.held ∙ held_are state.config (arrivals_in h) (given_in h)
