-- What an arrival may cost by what a receiver keeps is what it may cost by the history.
use Rattle.std.proofs.Common.{◌≡◌, ℕ, ◌+◌, ◌-◌, ◌*◌, Bool, true, false, cond, ◌&&◌, ◌||◌, List, [], ◌∷◌, length, take, count_by, Option, Some, None, refl, sym, ap, ⊎_elim, ◌∙◌, arith, ◌==◌, zero-add}
use Rattle.std.specs.Prelude.{not, find, nat_lt, option_map, unwrap_or}
use Rattle.std.specs.List.{list_any, list_all, enumerate_from, sum_by}
use Rattle.std.proofs.lemmas.Bool.{and_parts, and_cases, or_parts, or_left, or_cases, cases_Bool, not_from_false, both_ways, ltb-true}
use Rattle.tesla_clock.specs.Safe.{has_chain}
use Rattle.tesla_base.specs.declared.names.ChainNo.{ChainNo}
use Rattle.tesla_base.specs.declared.names.StreamId.{StreamId}
use Rattle.tesla_base.proofs.Below.{count_below}
use Rattle.tesla_base.proofs.Filtered.{all_filtered, filter_same_in}
use Rattle.tesla_base.proofs.Numbered.{sum_gathered}
use Rattle.tesla_base.proofs.Passing.{any_taken}
use Rattle.tesla_base.proofs.Sums.{sum_same}
use Rattle.tesla_fitting.specs.declared.verdict.Verdict.{Verdict}
use Rattle.tesla_fitting.specs.declared.verdict.Verdict.TheVariants.{Foreign, Misfit, Future, BadKey}
use Rattle.tesla_frame.specs.Frame.{Frame}
use Rattle.tesla_frame.specs.Reading.{frame_of}
use Rattle.tesla_frame.specs.declared.row.KeyRow.{KeyRow}
use Rattle.tesla_fitting.specs.declared.config.Config.{Config}
use Rattle.tesla_receiver.specs.Entries.{Arrival, Entry}
use Rattle.tesla_receiver.specs.declared.packet.Packet.{Packet}
use Rattle.tesla_fitting.specs.Fitting.{stream_of, is_misfit, is_future}
use Rattle.tesla_fitting.specs.Config.{chains}
use Rattle.tesla_state.specs.Costs.{is_unread, has_reaching, gaps_by, gaps_on, is_reached_by, reached_by, pairs_by, most_on, most_by, offers_by}
use Rattle.tesla_receiver.specs.Costs.{newer_rows, gaps, gaps_of, is_reached, reached_on, pairs, most_of, most_evaluations, most_offers}
use Rattle.tesla_state.specs.Releases.{is_at}
use Rattle.tesla_receiver.specs.Held.{has_passed, is_past, is_settled, is_gone}
use Rattle.tesla_receiver.specs.History.{arrivals_in, given_in}
use Rattle.tesla_fitting.specs.Rows.{keys_of}
use Rattle.tesla_receiver.specs.Keys.{newest}
use Rattle.tesla_receiver.specs.Packets.{packet_of, candidates, released}
use Rattle.tesla_walks.specs.Holding.{Holding}
use Rattle.tesla_state.specs.State.{State}
use Rattle.tesla_receiver.specs.Stands.{Stands, holding_of, held_at, holdings}
use Rattle.tesla_walks.specs.Tips.{tip_at, is_newer, fails}
use Rattle.tesla_state.specs.Steps.{new_rows, bound_at, judged, judged_frame, judged_taken, with_keys}
use Rattle.tesla_receiver.proofs.Arriving.{keeps_of}
use Rattle.tesla_receiver.proofs.Judged.{keys_within}
use Rattle.tesla_receiver.proofs.KeptState.{Keeps, tips_kept}
use Rattle.tesla_receiver.proofs.Owners.{released_proved}

-- ---- settled packets

-- a packet that is released is settled, and so is one that is gone
released_settled : (cfg : Config) (xs : List Arrival) (order : ℕ) (packet : Packet) → list_any (is_at order) (released cfg xs) ≡ true → is_settled cfg xs order packet ≡ true
released_settled cfg xs order packet h = or_left (list_any (is_at order) (candidates cfg xs)) (list_all (is_past cfg xs packet) (chains cfg)) (released_proved cfg xs (is_at order) h)

gone_settled : (cfg : Config) (xs : List Arrival) (given order : ℕ) (packet : Packet) → is_gone cfg xs given order packet ≡ true → is_settled cfg xs order packet ≡ true
gone_settled cfg xs given order packet h =
    ⊎_elim
    (λ e. (and_parts (is_settled cfg xs order packet) (not (list_any (is_at order) (released cfg xs))) e).0)
    (λ e. released_settled cfg xs order packet
    (any_taken (is_at order) given (released cfg xs) ((and_parts (list_any (is_at order) (take given (released cfg xs))) (list_all (has_passed cfg xs packet.frame.name.interval) (chains cfg)) e).0)))
    (or_cases (is_settled cfg xs order packet && not (list_any (is_at order) (released cfg xs))) (list_any (is_at order) (take given (released cfg xs)) && list_all (has_passed cfg xs packet.frame.name.interval) (chains cfg)) h)

unsettled : (settled out t : Bool) → (settled && not out || t) ≡ false → out ≡ false → settled ≡ false
unsettled settled out t stays waits =
    ⊎_elim (λ e. e) (λ e. absurd (both_ways (not out) e (not_from_false out waits))) (and_cases settled (not out) ((or_parts (settled && not out) t stays).0))

-- ---- the pairs

module _ (s : State) (xs : List Arrival) (given : ℕ) (k : Keeps s xs given) (new : List KeyRow) where
  reached_same : (order : ℕ) (packet : Packet) → count_by (is_reached_by s.tips new (holding_of s.config xs given order packet)) (chains s.config) ≡ count_by (is_reached s.config xs new packet) (chains s.config)
  reached_same order packet =
      count_below (is_reached_by s.tips new (holding_of s.config xs given order packet)) (is_reached s.config xs new packet) 0 (length s.config.setup.rows)
      (λ c h. ap (λ (n : ℕ). has_chain packet.chains c && nat_lt n packet.frame.name.interval && has_reaching new packet.frame.name.interval c) (tips_kept s xs given k c (omega arith)))

  item_reached : (order : ℕ) (packet : Packet) → is_gone s.config xs given order packet ≡ false → reached_by s new (holding_of s.config xs given order packet) ≡ reached_on s.config xs new order (Some packet)
  item_reached order packet stays =
      let count : ℕ = count_by (is_reached_by s.tips new (holding_of s.config xs given order packet)) (chains s.config) in
      let named : ℕ = count_by (is_reached s.config xs new packet) (chains s.config) in
      ⊎_elim
      (λ out. ap (λ b. cond b 0 count) out ∙ ap (λ b. cond b 0 named) (sym (released_settled s.config xs order packet out)))
      (λ waits. ap (λ b. cond b 0 count) waits ∙ reached_same order packet
      ∙ ap (λ b. cond b 0 named) (sym (unsettled (is_settled s.config xs order packet) (list_any (is_at order) (released s.config xs)) (list_any (is_at order) (take given (released s.config xs)) && list_all (has_passed s.config xs packet.frame.name.interval) (chains s.config)) stays waits)))
      (cases_Bool (list_any (is_at order) (released s.config xs)))

  one_reached : (order : ℕ) (o : Option Packet) → sum_by (reached_by s new) (held_at s.config xs given order o) ≡ reached_on s.config xs new order o
  one_reached order None = refl
  one_reached order (Some packet) =
      let item : Holding = holding_of s.config xs given order packet in
      ⊎_elim
      (λ gone. ap (λ b. sum_by (reached_by s new) (cond b [] (item ∷ []))) gone
      ∙ ap (λ b. cond b 0 (count_by (is_reached s.config xs new packet) (chains s.config))) (sym (gone_settled s.config xs given order packet gone)))
      (λ stays. ap (λ b. sum_by (reached_by s new) (cond b [] (item ∷ []))) stays ∙ zero-add (reached_by s new item) ∙ item_reached order packet stays)
      (cases_Bool (is_gone s.config xs given order packet))

  all_reached : sum_by (reached_by s new) s.held ≡ sum_by (λ (p : ℕ × Arrival). reached_on s.config xs new p.0 (packet_of p.1)) (enumerate_from 0 xs)
  unfolding holdings
  all_reached =
      ap (sum_by (reached_by s new)) k.held
      ∙ sum_gathered (reached_by s new) (λ (p : ℕ × Arrival). held_at s.config xs given p.0 (packet_of p.1)) (λ (p : ℕ × Arrival). reached_on s.config xs new p.0 (packet_of p.1)) 0 xs (λ n x. one_reached n (packet_of x))

-- ---- a frame whose keys are looked at

module _ (s : State) (xs : List Arrival) (given : ℕ) (k : Keeps s xs given) (frame : Frame) (fits : is_misfit s.config frame ≡ false) where
  rows_same : new_rows s frame ≡ newer_rows s.config xs frame
  rows_same =
      filter_same_in (λ row. nat_lt row.chain.0 (length s.config.setup.rows)) (is_newer s.tips) (λ row. nat_lt (newest s.config xs row.chain.0) row.index) (keys_of s.config frame) (keys_within s.config frame fits)
      (λ row e. ap (λ (n : ℕ). nat_lt n row.index) (tips_kept s xs given k row.chain.0 (ltb-true row.chain.0 (length s.config.setup.rows) e)))

  gaps_same : gaps_by s frame ≡ gaps s.config xs frame
  gaps_same =
      ap (sum_by (λ (row : KeyRow). row.index - (tip_at s.tips row.chain.0).index)) rows_same
      ∙ sum_same (λ row. nat_lt row.chain.0 (length s.config.setup.rows)) (λ row. row.index - (tip_at s.tips row.chain.0).index) (λ row. row.index - newest s.config xs row.chain.0) (newer_rows s.config xs frame)
      (all_filtered (λ row. nat_lt row.chain.0 (length s.config.setup.rows)) (λ row. nat_lt (newest s.config xs row.chain.0) row.index) (keys_of s.config frame) (keys_within s.config frame fits))
      (λ row e. ap (λ (n : ℕ). row.index - n) (tips_kept s xs given k row.chain.0 (ltb-true row.chain.0 (length s.config.setup.rows) e)))

  pairs_same : pairs_by s frame ≡ pairs s.config xs frame
  pairs_same = ap (λ new. sum_by (reached_by s new) s.held) rows_same ∙ all_reached s xs given k (newer_rows s.config xs frame)

-- ---- an arrival

pub read_fits : (a b c : Bool) → (a || b || c) ≡ false → b ≡ false
read_fits a b c h = (or_parts a b ((or_parts (a || b) c h).0)).1

unless_same : (b : Bool) (m n : ℕ) → (b ≡ false → m ≡ n) → cond b 0 m ≡ cond b 0 n
unless_same true m n same = refl
unless_same false m n same = same refl

most_same : (s : State) (xs : List Arrival) (given : ℕ) → Keeps s xs given → (bound : Option ℕ) (o : Option Frame) → most_on s bound o ≡ most_of s.config xs bound o
most_same s xs given k bound None = refl
most_same s xs given k bound (Some frame) =
    unless_same (is_unread s.config bound frame) (2 * gaps_by s frame + 2 * pairs_by s frame) (2 * gaps s.config xs frame + 2 * pairs s.config xs frame)
    (λ read. let fits = read_fits (not ((stream_of frame).0 == s.config.setup.stream.0)) (is_misfit s.config frame) (is_future s.config bound frame) read in
    ap (λ (n : ℕ). 2 * n + 2 * pairs_by s frame) (gaps_same s xs given k frame fits) ∙ ap (λ (n : ℕ). 2 * gaps s.config xs frame + 2 * n) (pairs_same s xs given k frame fits))

-- a frame that has a bad key fits the setup
fits_bad : (other misfit early : Bool) (stream : StreamId) (bound : Option ℕ) (o : Option Verdict) (v : Verdict) (chain : ChainNo) → unwrap_or (cond other (Some (Foreign stream)) (cond misfit (Some Misfit) (cond early (Some (Future bound)) o))) v ≡ BadKey chain → misfit ≡ false
fits_bad true misfit early stream bound o v chain e = absurd (cc)
fits_bad false true early stream bound o v chain e = absurd (cc)
fits_bad false false early stream bound o v chain e = refl

offers_same_on : (s : State) (xs : List Arrival) (given : ℕ) → Keeps s xs given → (bound : Option ℕ) (o : Option Frame) (chain : ChainNo) → judged_frame s bound o ≡ BadKey chain → gaps_on s o ≡ gaps_of s.config xs o
offers_same_on s xs given k bound None chain e = refl
offers_same_on s xs given k bound (Some frame) chain e =
    gaps_same s xs given k frame
    (fits_bad (not ((stream_of frame).0 == s.config.setup.stream.0)) (is_misfit s.config frame) (is_future s.config bound frame) (stream_of frame) bound
    (option_map (λ (row : KeyRow). BadKey row.chain) (find (fails s.tips) (keys_of s.config frame))) (judged_taken (with_keys s (new_rows s frame)) bound frame) chain e)

-- the offers by what a receiver keeps are those by the history, where a key is bad
pub offers_same : (s : State) (h : List Entry) → Stands s h → (reading : ℕ) (bytes : List ℕ) (chain : ChainNo) → judged s reading bytes ≡ BadKey chain → offers_by s bytes ≡ most_offers s.config (arrivals_in h) bytes
unfolding judged offers_by most_offers
offers_same s h st reading bytes chain e = offers_same_on s (arrivals_in h) (given_in h) (keeps_of s h st) (bound_at s reading) (frame_of bytes) chain e

-- the most evaluations by what a receiver keeps are those by the history
pub cost_same : (s : State) (h : List Entry) → Stands s h → (reading : ℕ) (bytes : List ℕ) → most_by s reading bytes ≡ most_evaluations s.config (arrivals_in h) reading bytes
unfolding most_by most_evaluations
cost_same s h st reading bytes = most_same s (arrivals_in h) (given_in h) (keeps_of s h st) (bound_at s reading) (frame_of bytes)
