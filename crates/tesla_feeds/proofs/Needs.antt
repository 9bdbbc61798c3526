-- What an open feed tells of its streams, also of those whose senders aren't there.
use Rattle.std.proofs.Common.{◌≡◌, ◌∙◌, ◌≤◌, ℕ, ◌+◌, ◌^◌, ◌-◌, Bool, true, false, List, [], ◌∷◌, ◌++◌, length, min, refl, ap, arith}
use Rattle.std.specs.Prelude.{if◌then◌else◌, not, ◌&&◌, ◌||◌}
use Rattle.std.specs.List.{list_all}
use Rattle.tesla_clock.specs.Schedule.{Times}
use Rattle.tesla_sender.specs.Made.{Stream, chains_of, interval_at}
use Rattle.tesla_feed.specs.Fed.{first_interval, is_unread}
use Rattle.tesla_feed.specs.Steps.{until_begin}
use Rattle.tesla_feeds.specs.Fed.{Part, next_setup, parts_at}
use Rattle.tesla_feeds.specs.Later.{AreLater, are_past, is_one_needed}
use Rattle.tesla_feeds.specs.Opening.{some_begun}
use Rattle.tesla_feeds.specs.Waits.{are_told, is_told, tells_no_more, until_first, until_more, until_next}
use Rattle.tesla_feeds.specs.declared.later.LaterStream.{LaterStream}

-- ---- what is needed

needed_where : (past begun unread : Bool) → unread ≡ false → past ≡ true → (not unread && (past || begun)) ≡ true
needed_where past begun true read all = absurd cc
needed_where true begun false read all = refl
needed_where false begun false read all = absurd cc

-- one is where all in front are past
pub needed_past : (items : List LaterStream) (front left : List Stream) (opening reading : ℕ) → AreLater items left → (length items ≡ 0 → ⊥) → is_unread reading ≡ false → are_past front reading ≡ true → is_one_needed front left opening reading ≡ true
needed_past [] front left opening reading are some read past = absurd (some refl)
needed_past (one ∷ items) front [] opening reading are some read past = absurd are
needed_past (one ∷ items) front (stream ∷ left) opening reading are some read past = needed_where (are_past front reading) (some_begun (stream ∷ left) opening reading) (is_unread reading) read past

-- ---- what is told

all_true : {A : Type 0} (xs : List A) → list_all (λ x. true) xs ≡ true
all_true [] = refl
all_true (x ∷ xs) = all_true xs

told_behind : (opening : ℕ) (left : List Stream) → are_told (parts_at opening left) ≡ true
told_behind opening [] = refl
told_behind opening (stream ∷ left) = ap (λ (b : Bool). b && are_told (parts_at opening left)) (all_true (chains_of stream)) ∙ told_behind opening left

-- nothing is to be told of streams of which nothing was made
pub told_front : (front : List Part) (opening : ℕ) (left : List Stream) → are_told (front ++ parts_at opening left) ≡ are_told front
told_front [] opening left = told_behind opening left
told_front (part ∷ front) opening left = ap (λ (b : Bool). is_told part && b) (told_front front opening left)

-- ---- the waits

begin_limit : (times : Times) (interval reading : ℕ) → until_begin times interval reading ≤ 2 ^ 64 - 1
begin_limit times interval reading = omega arith

first_limit : (streams : List Stream) (opening reading : ℕ) → until_first streams opening reading ≤ 2 ^ 64 - 1
first_limit [] opening reading = omega arith
first_limit (stream ∷ streams) opening reading = (let others = first_limit streams opening reading in omega (arith, others))

-- the least of all streams
pub first_both : (streams more : List Stream) (opening reading : ℕ) → until_first (streams ++ more) opening reading ≡ min (until_first streams opening reading) (until_first more opening reading)
first_both [] more opening reading = (let limit = first_limit more opening reading in omega (arith, limit))
first_both (stream ∷ streams) more opening reading = (let both = first_both streams more opening reading in omega (arith, both))

more_where : (begin : ℕ) (no_more : Bool) → begin ≤ 2 ^ 64 - 1 → begin ≤ (if no_more then 2 ^ 64 - 1 else begin)
more_where begin true limit = limit
more_where begin false limit = omega arith

more_limit : (part : Part) (reading : ℕ) → until_begin part.stream.setup.times (interval_at part.stream.setup.times reading + 1) reading ≤ until_more part reading
more_limit part reading = more_where (until_begin part.stream.setup.times (interval_at part.stream.setup.times reading + 1) reading) (tells_no_more part reading) (begin_limit part.stream.setup.times (interval_at part.stream.setup.times reading + 1) reading)

behind_limit : (streams : List Stream) (opening reading : ℕ) → until_first streams reading reading ≤ until_next (parts_at opening streams) reading
behind_limit [] opening reading = omega arith
behind_limit (stream ∷ streams) opening reading =
    let others = behind_limit streams opening reading in
    let one = more_limit (record { stream = stream; first = first_interval stream.setup.times opening; next = next_setup streams; log = []; handed = 0 }) reading in
    omega (arith, others, one)

-- no longer than until the next interval of some stream
pub next_both : (front : List Part) (streams : List Stream) (opening reading : ℕ) → min (until_next front reading) (until_first streams reading reading) ≤ until_next (front ++ parts_at opening streams) reading
next_both [] streams opening reading = (let limit = behind_limit streams opening reading in omega (arith, limit))
next_both (part ∷ front) streams opening reading = (let others = next_both front streams opening reading in omega (arith, others))
