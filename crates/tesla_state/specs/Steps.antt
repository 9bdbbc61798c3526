-- What one event makes of what a receiver keeps, and the answer to it. Nothing here looks at a history.
use Rattle.std.specs.Prelude.{ℕ, ◌+◌, Bool, true, false, not, ◌&&◌, ◌||◌, List, [], ◌∷◌, ◌++◌, length, map, filter, find, flat_map, replicate, slice_set, take, option_map, unwrap_or, Option, Some, None, nat_le, ◌==◌, if◌then◌else◌, count_by}
use Rattle.std.specs.List.{list_any, list_all}
use Rattle.tesla_base.specs.declared.names.Name.{Name}
use Rattle.tesla_clock.specs.Safe.{has_chain, chain_set}
use Rattle.tesla_clock.specs.Safe as clock
use Rattle.tesla_clock.specs.Schedule.{bound_of}
use Rattle.tesla_frame.specs.declared.row.KeyRow.{KeyRow}
use Rattle.tesla_frame.specs.Frame.{Frame, Data, Disclosure, DataFrame}
use Rattle.tesla_frame.specs.Reading.{frame_of}
use Rattle.tesla_keys.specs.Tip.{Tip}
use Rattle.tesla_fitting.specs.declared.config.Config.{Config}
use Rattle.tesla_state.specs.declared.replies.Reply.{Reply}
use Rattle.tesla_state.specs.declared.replies.Reply.TheVariants.{Given, Empty, Over}
use Rattle.tesla_walks.specs.declared.release.Release.{Release}
use Rattle.tesla_state.specs.declared.report.Report.{Report}
use Rattle.tesla_fitting.specs.declared.verdict.Verdict.{Verdict}
use Rattle.tesla_fitting.specs.declared.verdict.Verdict.TheVariants.{Malformed, Foreign, Misfit, Future, BadKey, Late, Repeat, Full, Kept, Keys}
use Rattle.tesla_fitting.specs.Fitting.{stream_of, is_misfit, is_future}
use Rattle.tesla_fitting.specs.Config.{chains, chain_row}
use Rattle.tesla_state.specs.Releases.{is_at, head_of, each_after, has_name, unless_named}
use Rattle.tesla_fitting.specs.Rows.{keys_of, tag_in}
use Rattle.tesla_walks.specs.Tips.{tip_at, is_newer, fails, tips_after, first_tip}
use Rattle.tesla_walks.specs.Proved.{proof_of}
use Rattle.tesla_walks.specs.Holding.{Holding}
use Rattle.tesla_state.specs.Counting.{line_of}
use Rattle.tesla_state.specs.State.{State}

-- ---- an opening

abbrev pub no_counts : Report
no_counts = record {
  arrivals = 0;
  malformed = 0;
  foreign = 0;
  misfit = 0;
  future = 0;
  badkey = 0;
  late = 0;
  repeat = 0;
  full = 0;
  kept = 0;
  keys = 0;
  given = 0;
}

-- what is kept before any event: the commitments, with so much room
abbrev pub opened : Config → ℕ → State
opened cfg reserved = record { config = cfg; tips = map (first_tip cfg) (chains cfg); held = []; waiting = []; ended = replicate cfg.ingests false; counts = no_counts; calls = 0; reserved = reserved }

-- ---- packets that new keys prove

-- all that these new keys prove, in order of arrival
abbrev pub batch_of : Config → List Tip → List KeyRow → List Holding → List Release
batch_of cfg tips new held = flat_map (proof_of cfg tips new) held

-- a packet as a release, of which the name alone counts
abbrev pub as_release : Holding → Release
as_release item = record { place = item.order; name = item.name; chain = record { 0 = 0 } }

abbrev pub is_released : Holding → Bool
is_released item = item.released

-- the first of each name, where no packet of that name is released
abbrev pub released_of : List Holding → List Release → List Release
released_of held batch = each_after unless_named (map as_release (filter is_released held)) batch

-- ---- slots

-- a key of the chain that reaches the interval was taken
abbrev pub is_passed : List Tip → ℕ → ℕ → Bool
is_passed tips interval chain = nat_le interval (tip_at tips chain).index

abbrev pub is_over : List Tip → Holding → ℕ → Bool
is_over tips item chain = not (has_chain item.chains chain) || is_passed tips item.name.interval chain

-- no key can prove the packet any more, or it was proved, and it isn't released; or it was taken and all chains have passed it
abbrev pub is_let_go : Config → List Tip → List Release → Holding → Bool
is_let_go cfg tips batch item =
    (list_any (is_at item.order) batch || list_all (is_over tips item) (chains cfg)) && not item.released
    || item.taken && list_all (is_passed tips item.name.interval) (chains cfg)

abbrev pub marked : List Release → Holding → Holding
marked now item = record item { released = item.released || list_any (is_at item.order) now }

-- a packet after keys were taken: these tips stand then, these packets were proved, and these of them released
abbrev pub kept_after : Config → List Tip → List Release → List Release → Holding → List Holding
kept_after cfg tips batch now item = if is_let_go cfg tips batch (marked now item) then [] else marked now item ∷ []

-- ---- an arrival

abbrev pub new_rows : State → Frame → List KeyRow
new_rows s frame = filter (is_newer s.tips) (keys_of s.config frame)

-- what is kept after a frame's keys were taken
abbrev pub with_keys : State → List KeyRow → State
with_keys s new =
    let batch = batch_of s.config s.tips new s.held in
    let now = released_of s.held batch in
    let tips = tips_after s.tips new in
    record s { tips = tips; held = flat_map (kept_after s.config tips batch now) s.held; waiting = s.waiting ++ now }

-- why a frame is refused before its keys are taken
abbrev pub refused : State → Option ℕ → Frame → Option Verdict
refused s bound frame =
    if not ((stream_of frame).0 == s.config.setup.stream.0) then Some (Foreign (stream_of frame))
    else (if is_misfit s.config frame then Some Misfit
    else (if is_future s.config bound frame then Some (Future bound)
    else option_map (λ row. BadKey row.chain) (find (fails s.tips) (keys_of s.config frame))))

-- the chains that are safe for a packet of the interval
abbrev pub safe_by : State → Option ℕ → ℕ → ℕ
safe_by s None interval = 0
safe_by s (Some bound) interval =
    chain_set (λ c. clock.is_safe bound interval (chain_row s.config c).delay (tip_at s.tips c).index) (length s.config.setup.rows)

abbrev pub is_named_so : Name → Holding → Bool
is_named_so name item = item.released && has_name name (as_release item)

-- a packet wasn't taken
abbrev pub is_untaken : Holding → Bool
is_untaken item = not item.taken

abbrev pub in_interval : ℕ → Holding → Bool
in_interval interval item = item.name.interval == interval

-- the verdict on a data frame whose keys are taken
abbrev pub judged_packet : State → ℕ → DataFrame → Verdict
judged_packet s set f =
    if set == 0 then Late
    else (if list_any (is_named_so f.name) s.held then Repeat
    else (if length s.held == s.config.capacity || count_by (in_interval f.name.interval) s.held == s.config.quota then Full
    else Kept set))

abbrev pub judged_taken : State → Option ℕ → Frame → Verdict
judged_taken s bound (Data f) = judged_packet s (safe_by s bound f.name.interval) f
judged_taken s bound (Disclosure f) = Keys

-- the packet of an arrival of that number
abbrev pub own : ℕ → Verdict → Frame → List Holding
own order (Kept set) (Data f) =
    record { order = order; name = f.name; chains = set; payload = f.payload; tags = map tag_in f.rows; released = false; taken = false } ∷ []
own order verdict frame = []

abbrev pub one_if : Bool → ℕ → ℕ
one_if b n = if b then n + 1 else n

-- the counts with an arrival of this verdict
abbrev pub counted : Verdict → Report → Report
counted v r = record {
  arrivals = r.arrivals + 1;
  malformed = one_if (line_of v == 1) r.malformed;
  foreign = one_if (line_of v == 2) r.foreign;
  misfit = one_if (line_of v == 3) r.misfit;
  future = one_if (line_of v == 4) r.future;
  badkey = one_if (line_of v == 5) r.badkey;
  late = one_if (line_of v == 6) r.late;
  repeat = one_if (line_of v == 7) r.repeat;
  full = one_if (line_of v == 8) r.full;
  kept = one_if (line_of v == 9) r.kept;
  keys = one_if (line_of v == 10) r.keys;
  given = r.given;
}

-- one arrival more, of this verdict
abbrev pub entered_as : Verdict → State → State
entered_as v s = record s { counts = counted v s.counts; calls = s.calls + 1 }

-- a frame whose keys are taken
abbrev pub entered_with : State → Option ℕ → Frame → Verdict → State
entered_with s bound frame v = entered_as v (record s { held = s.held ++ own s.counts.arrivals v frame })

abbrev pub judged_frame : State → Option ℕ → Option Frame → Verdict
judged_frame s bound None = Malformed
judged_frame s bound (Some frame) = unwrap_or (refused s bound frame) (judged_taken (with_keys s (new_rows s frame)) bound frame)

abbrev pub entered_frame : State → Option ℕ → Option Frame → Option Verdict → State
entered_frame s bound None told = entered_as Malformed s
entered_frame s bound (Some frame) (Some v) = entered_as v s
entered_frame s bound (Some frame) None =
    let after = with_keys s (new_rows s frame) in
    entered_with after bound frame (judged_taken after bound frame)

abbrev pub refused_of : State → Option ℕ → Option Frame → Option Verdict
refused_of s bound None = None
refused_of s bound (Some frame) = refused s bound frame

abbrev pub bound_at : State → ℕ → Option ℕ
bound_at s reading = bound_of s.config.setup.times s.config.lag reading

-- the verdict on an arrival
unfoldable pub judged : State → ℕ → List ℕ → Verdict
judged s reading bytes = judged_frame s (bound_at s reading) (frame_of bytes)

-- what is kept after it
unfoldable pub after_arrival : State → ℕ → List ℕ → State
after_arrival s reading bytes = entered_frame s (bound_at s reading) (frame_of bytes) (refused_of s (bound_at s reading) (frame_of bytes))

-- ---- a take

abbrev pub payload_held : Option Holding → List ℕ
payload_held None = []
payload_held (Some item) = item.payload

abbrev pub is_numbered : ℕ → Holding → Bool
is_numbered order item = item.order == order

abbrev pub payload_at : State → ℕ → List ℕ
payload_at s order = payload_held (find (is_numbered order) s.held)

abbrev pub reply_for : State → List Release → Bool → Reply
reply_for s (release ∷ releases) over = Given (head_of s.counts.given release (payload_at s release.place)) (payload_at s release.place)
reply_for s [] true = Over
reply_for s [] false = Empty

-- the answer to a take
abbrev pub reply_by : State → Reply
reply_by s = reply_for s s.waiting (list_all (λ flag. flag) s.ended)

-- a packet after the one of that number was taken
abbrev pub taken_after : Config → List Tip → ℕ → Holding → List Holding
taken_after cfg tips order item =
    if item.order == order
    then (if list_all (is_passed tips item.name.interval) (chains cfg) then [] else record item { taken = true } ∷ [])
    else item ∷ []

abbrev pub with_taken : State → List Release → State
with_taken s [] = record s { calls = s.calls + 1 }
with_taken s (release ∷ releases) =
    record s { held = flat_map (taken_after s.config s.tips release.place) s.held; waiting = releases; counts = record s.counts { given = s.counts.given + 1 }; calls = s.calls + 1 }

unfoldable pub after_take : State → State
after_take s = with_taken s s.waiting

-- ---- an end

unfoldable pub after_end : State → ℕ → State
after_end s ingest = record s { ended = slice_set s.ended ingest true; calls = s.calls + 1 }

-- ---- fewer ingests

-- the same configuration for so many ingests
abbrev pub with_ingests : Config → ℕ → Config
with_ingests cfg ingests = record cfg { ingests = ingests }

-- only the first ingests are kept, so many of them
unfoldable pub after_limit : State → ℕ → State
after_limit s ingests = record s { config = with_ingests s.config ingests; ended = take ingests s.ended }
