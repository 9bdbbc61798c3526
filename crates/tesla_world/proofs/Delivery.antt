-- A message that was sent, came and was kept is released once a key of its interval or a later one was taken.
use Rattle.std.proofs.Common.{◌≡◌, ℕ, zero, suc, ◌+◌, ◌-◌, ◌<◌, ◌≤◌, true, List, [], ◌∷◌, ◌++◌, length, get_or, map, take, drop, replicate, Some, Result, Ok, Err, refl, sym, ap, subst, ⊎_elim, ◌∙◌, arith, add-zero}
use Rattle.std.specs.Prelude.{option_map, slice_get}
use Rattle.std.specs.List.{list_any}
use Rattle.std.proofs.lemmas.Bool.{cases_lt, or_left}
use Rattle.std.proofs.lemmas.List.Folds.{list_any-append}
use Rattle.std.proofs.lemmas.Option.{same_Some, slice_get-get_or, slice_get-map, slice_get_within}
use Rattle.tesla_base.specs.declared.names.Key.{Key}
use Rattle.tesla_base.specs.declared.names.Name.{Name}
use Rattle.tesla_commit.specs.declared.chain_row.ChainRow.{ChainRow}
use Rattle.tesla_fitting.specs.Config.{no_row}
use Rattle.tesla_fitting.specs.declared.config.Config.{Config}
use Rattle.tesla_frame.specs.Frame.{DataFrame, Data, Frame, IsFrame}
use Rattle.tesla_frame.specs.Reading.{frame_of}
use Rattle.tesla_receiver.specs.Arrivals.{KeptAreSafe, NewAreTaken, NewestRises, ProvedAreReleased}
use Rattle.tesla_receiver.specs.History.{arrivals_in}
use Rattle.tesla_receiver.specs.Keys.{newest}
use Rattle.tesla_receiver.specs.Packets.{released}
use Rattle.tesla_receiver.specs.Entries.{Arrival, Entry}
use Rattle.tesla_sender.specs.Made.{Call, Chain, Disclose, Message, Stream, any_due, chains_from, chains_of, disclosed, disclosed_after, disclosure_frame, frame_in, frame_made, framed, interval_at, latest_of, made_disclosure, made_message, message_frame, name_of, row_of}
use Rattle.tesla_sender.specs.declared.refusal.DiscloseRefusal.{DiscloseRefusal}
use Rattle.tesla_sender.specs.declared.refusal.SendRefusal.{SendRefusal}
use Rattle.tesla_state.specs.Releases.{has_name}
use Rattle.tesla_walks.specs.declared.release.Release.{Release}
use Rattle.tesla_world.specs.Laws.{DeliveryLaw, HasSendersTag, seed_in}
use Rattle.tesla_world.specs.World.{Received, Dated, Joined, Moment, Sent, arrival_at, received_in, dated_of, sent_in}
use Rattle.tesla_world.proofs.Completeness.{below_with, proved_at}
use Rattle.tesla_world.proofs.Newest.{newest_reaches, reached_by, take_further, take_got}
use Rattle.tesla_world.proofs.Sent.{sent_for, sent_number}

-- what is spelled is read
abbrev pub SpelledAreRead : Type 0
SpelledAreRead = (bytes : List ℕ) (frame : Frame) → IsFrame bytes frame → frame_of bytes ≡ Some frame

-- what is released of the first arrivals comes first in what is released of all
abbrev pub ReleasedFirst : Type 0
ReleasedFirst = (cfg : Config) (xs ys : List Arrival) → (rest : List Release) × (released cfg (xs ++ ys) ≡ released cfg xs ++ rest)

-- ---- the sender's tags

-- a chain by its number
chain_at : (last number i : ℕ) (rows : List ChainRow) (seeds : List Key) (row : ChainRow) (seed : Key) → slice_get rows i ≡ Some row → slice_get seeds i ≡ Some seed → slice_get (chains_from last number rows seeds) i ≡ Some (record { number = number + i; row = row; seed = seed; last = last })
chain_at last number i [] seeds row seed r s = absurd (cc)
chain_at last number i (x ∷ rows) [] row seed r s = absurd (cc)
chain_at last number zero (x ∷ rows) (y ∷ seeds) row seed r s =
    let same_row : x ≡ row = cc in
    let same_seed : y ≡ seed = cc in
    ap (λ a. Some (record { number = number; row = a; seed = y; last = last })) same_row
    ∙ ap (λ a. Some (record { number = number; row = row; seed = a; last = last })) same_seed
    ∙ ap (λ n. Some (record { number = n; row = row; seed = seed; last = last })) (sym (add-zero number))
chain_at last number (suc i) (x ∷ rows) (y ∷ seeds) row seed r s =
    let more : number + 1 + i ≡ number + suc i = omega arith in
    chain_at last (number + 1) i rows seeds row seed r s ∙ ap (λ n. Some (record { number = n; row = row; seed = seed; last = last })) more

-- the rows of a data frame are those that the sender makes under its name and for its payload
abbrev HasRows : Stream → DataFrame → Type 0
HasRows stream message = message.rows ≡ map (row_of stream.setup message.name message.payload) (chains_of stream)

message_rows : (stream : Stream) (name : Name) (payload : List ℕ) (message : DataFrame) → message_frame stream.setup (chains_of stream) name payload ≡ Data message → HasRows stream message
unfolding message_frame
message_rows stream name payload message is =
    let made : DataFrame = record {
      version = stream.setup.version;
      stream = stream.setup.stream;
      name = name;
      payload = payload;
      tag_length = stream.setup.tag_length;
      rows = map (row_of stream.setup name payload) (chains_of stream);
    } in
    let same : made ≡ message = cc in
    subst (HasRows stream) same refl

framed_rows : (stream : Stream) (payload : List ℕ) (name : Result Name SendRefusal) (message : DataFrame) → frame_in (framed stream payload name) ≡ Some (Data message) → HasRows stream message
framed_rows stream payload (Ok name) message is = message_rows stream name payload message (same_Some (message_frame stream.setup (chains_of stream) name payload) (Data message) is)
framed_rows stream payload (Err refusal) message is = absurd (cc)

no_data : (stream : Stream) (interval : Result ℕ DiscloseRefusal) (message : DataFrame) → frame_in (disclosed stream interval) ≡ Some (Data message) → HasRows stream message
unfolding disclosure_frame
no_data stream (Ok interval) message is = absurd (cc)
no_data stream (Err refusal) message is = absurd (cc)

made_rows : (stream : Stream) (log : List Call) (call : Call) (message : DataFrame) → frame_made stream log call ≡ Some (Data message) → HasRows stream message
unfolding made_message made_disclosure
made_rows stream log (Message reading payload) message is = framed_rows stream payload (name_of stream.setup.times log reading payload) message is
made_rows stream log (Disclose reading) message is =
    no_data stream (disclosed_after stream.setup.times (latest_of stream.setup.times log) (any_due (interval_at stream.setup.times reading) (chains_of stream)) reading) message is

-- a message with the sender's rows has the sender's tag for each chain
rows_have_tag : (cfg : Config) (seeds : List Key) (message : DataFrame) (chain : ℕ) → length seeds ≡ length cfg.setup.rows → chain < length cfg.setup.rows → HasRows (record { setup = cfg.setup; seeds = seeds }) message → HasSendersTag cfg seeds message chain
rows_have_tag cfg seeds message chain count below rows =
    let stream : Stream = record { setup = cfg.setup; seeds = seeds } in
    let here : Chain = record { number = chain; row = get_or cfg.setup.rows chain no_row; seed = seed_in seeds chain; last = cfg.setup.times.last } in
    let make = row_of cfg.setup message.name message.payload in
    let number : 0 + chain ≡ chain = omega arith in
    let at : slice_get (chains_of stream) chain ≡ Some here =
    chain_at cfg.setup.times.last 0 chain cfg.setup.rows seeds here.row here.seed
    (slice_get-get_or cfg.setup.rows chain no_row below) (slice_get-get_or seeds chain (record { 0 = replicate 32 0 }) (omega arith))
    ∙ ap (λ n. Some (record { number = n; row = here.row; seed = here.seed; last = here.last })) number in
    record {
      row = make here;
      at = ap (λ rs. slice_get rs chain) rows ∙ slice_get-map make (chains_of stream) chain ∙ ap (option_map make) at;
      tag = refl;
    }

-- a message that was sent has the sender's tag for each chain
sent_tag : SpelledAreRead → (cfg : Config) (seeds : List Key) (world : List Moment) (log : List Call) (h : List Entry) → Joined cfg seeds world log h → (i sent : ℕ) (bytes : List ℕ) (message : DataFrame) (chain : ℕ) → slice_get world i ≡ Some (Sent sent bytes) → frame_of bytes ≡ Some (Data message) → chain < length cfg.setup.rows → HasSendersTag cfg seeds message chain
sent_tag read cfg seeds world log h joined i sent bytes message chain at reads below =
    let stream : Stream = record { setup = cfg.setup; seeds = seeds } in
    let number = sent_number world i sent bytes at in
    let found = sent_for stream [] log (sent_in world) number.0 (record { reading = sent; bytes = bytes }) joined.sent number.1 in
    let made = found.is_sent in
    let same : made.frame ≡ Data message = same_Some made.frame (Data message) (sym (read bytes made.frame made.spelled) ∙ reads) in
    rows_have_tag cfg seeds message chain joined.count below (made_rows stream (take number.0 log) found.call message (made.made ∙ ap Some same))

-- ---- what came

-- a moment at which something came has its number in what came
received_number : (world : List Moment) (j reading : ℕ) (bytes : List ℕ) → slice_get world j ≡ Some (Received reading bytes) → slice_get (received_in world) (arrival_at world j) ≡ Some (record { reading = reading; bytes = bytes })
received_number [] j reading bytes at = absurd (cc)
received_number (Received r b ∷ world) zero reading bytes at =
    let now : r ≡ reading = cc in
    let text : b ≡ bytes = cc in
    cc
received_number (Sent r b ∷ world) zero reading bytes at = absurd (cc)
received_number (Received r b ∷ world) (suc j) reading bytes at = received_number world j reading bytes at
received_number (Sent r b ∷ world) (suc j) reading bytes at = received_number world j reading bytes at

-- its arrival has the bytes that came
received_bytes : (cfg : Config) (seeds : List Key) (world : List Moment) (log : List Call) (h : List Entry) → Joined cfg seeds world log h → (j received : ℕ) (bytes : List ℕ) (kept : Arrival) → slice_get world j ≡ Some (Received received bytes) → slice_get (arrivals_in h) (arrival_at world j) ≡ Some kept → kept.bytes ≡ bytes
received_bytes cfg seeds world log h joined j received bytes kept at at_m =
    let m : ℕ = arrival_at world j in
    let dated : Dated = record { reading = received; bytes = bytes } in
    let same : Some (dated_of kept) ≡ Some dated =
    sym (ap (λ ds. slice_get ds m) joined.received ∙ slice_get-map dated_of (arrivals_in h) m ∙ ap (option_map dated_of) at_m) ∙ received_number world j received bytes at in
    ap (λ (d : Dated). d.bytes) (same_Some (dated_of kept) dated same)

-- ---- the key that reaches the interval

-- the newest index of the chain reaches the interval with this arrival
record IsCrossed (cfg : Config) (arrivals : List Arrival) (from chain interval until : ℕ) : Type 0 where
  n : ℕ
  above : from ≤ n
  before : n < until
  below : newest cfg (take n arrivals) chain < interval
  reaches : interval ≤ newest cfg (take (n + 1) arrivals) chain

crossed : (cfg : Config) (arrivals : List Arrival) (from d chain interval : ℕ) → newest cfg (take from arrivals) chain < interval → interval ≤ newest cfg (take (from + d) arrivals) chain → IsCrossed cfg arrivals from chain interval (from + d)
crossed cfg arrivals from zero chain interval below reaches =
    let same : interval ≤ newest cfg (take from arrivals) chain = subst (λ (k : ℕ). interval ≤ newest cfg (take k arrivals) chain) (add-zero from) reaches in
    absurd (omega arith)
crossed cfg arrivals from (suc d) chain interval below reaches =
    let count : from + suc d ≡ (from + d) + 1 = omega arith in
    ⊎_elim
    (λ low. record {
      n = from + d;
      above = omega arith;
      before = omega arith;
      below = low;
      reaches = subst (λ (k : ℕ). interval ≤ newest cfg (take k arrivals) chain) count reaches;
    })
    (λ high. let rest = crossed cfg arrivals from d chain interval below high in
    record { n = rest.n; above = rest.above; before = let less = rest.before in omega (arith, less); below = rest.below; reaches = rest.reaches })
    (cases_lt (newest cfg (take (from + d) arrivals) chain) interval)

-- what was released stays released
still_released : ReleasedFirst → (cfg : Config) (arrivals : List Arrival) (a b : ℕ) (name : Name) → a ≤ b → list_any (has_name name) (released cfg (take a arrivals)) ≡ true → list_any (has_name name) (released cfg (take b arrivals)) ≡ true
still_released first cfg arrivals a b name less there =
    let more = first cfg (take a arrivals) (drop a (take b arrivals)) in
    ap (λ xs. list_any (has_name name) (released cfg xs)) (take_further arrivals a b less) ∙ ap (list_any (has_name name)) more.1
    ∙ list_any-append (has_name name) (released cfg (take a arrivals)) more.0
    ∙ or_left (list_any (has_name name) (released cfg (take a arrivals))) (list_any (has_name name) more.0) there

-- ---- the law

pub delivered : SpelledAreRead → ReleasedFirst → KeptAreSafe → NewAreTaken → NewestRises → ProvedAreReleased → DeliveryLaw
delivered read first safe taken rises proved cfg seeds world log h joined honest i j n sent received bytes message kept arrival packet chain row at_i reads at_j at_m brought set later at_n takes same reaches =
    let arrivals : List Arrival = arrivals_in h in
    let m : ℕ = arrival_at world j in
    let on = safe cfg h m kept packet chain joined.legal at_m brought set in
    let same_bytes : kept.bytes ≡ bytes = received_bytes cfg seeds world log h joined j received bytes kept at_j at_m in
    let frames : Some (Data packet.frame) ≡ Some (Data message) = sym on.framed ∙ ap frame_of same_bytes ∙ reads in
    let is : packet.frame ≡ message = cc in
    let tagged : HasSendersTag cfg seeds packet.frame chain =
    subst (λ (f : DataFrame). HasSendersTag cfg seeds f chain) (sym is) (sent_tag read cfg seeds world log h joined i sent bytes message chain at_i reads on.chain_is) in
    let interval : ℕ = packet.frame.name.interval in
    let newer : interval ≤ row.index = subst (λ (f : DataFrame). f.name.interval ≤ row.index) (sym is) reaches in
    let reached : row.index ≤ newest cfg (take (n + 1) arrivals) chain =
    subst (λ (xs : List Arrival). row.index ≤ newest cfg xs chain) (sym (take_got arrivals n arrival at_n))
    (subst (λ (c : ℕ). row.index ≤ newest cfg (take n arrivals ++ arrival ∷ []) c) same (newest_reaches cfg (take n arrivals) arrival row takes)) in
    let count : n + 1 ≡ (m + 1) + (n - m) = omega arith in
    let high : interval ≤ newest cfg (take ((m + 1) + (n - m)) arrivals) chain =
    subst (λ (k : ℕ). interval ≤ newest cfg (take k arrivals) chain) count (omega (arith, newer, reached)) in
    let at = crossed cfg arrivals (m + 1) (n - m) chain interval (below_with safe cfg h joined.legal m kept packet chain at_m brought set) high in
    let k : ℕ = at.n in
    let after : m + 1 ≤ k = at.above in
    let before : k < (m + 1) + (n - m) = at.before in
    let long : n < length arrivals = slice_get_within arrivals n arrival at_n in
    let other : Arrival = get_or arrivals k arrival in
    let at_k : slice_get arrivals k ≡ Some other = slice_get-get_or arrivals k arrival (omega (arith, before, long, count)) in
    let done = proved_at safe taken proved cfg seeds h joined.legal honest m k kept other packet chain (omega (arith, after)) at_m brought set tagged at_k
    (reached_by rises cfg arrivals k other chain interval at_k at.below at.reaches) at.below in
    subst (λ (f : DataFrame). list_any (has_name f.name) (released cfg (take (n + 1) arrivals)) ≡ true) is
    (still_released first cfg arrivals (k + 1) (n + 1) packet.frame.name (omega (arith, before, count)) done.released_by)
