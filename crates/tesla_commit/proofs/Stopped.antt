-- A text that stops behind the front of a setup's lines is refused there.
use Rattle.std.proofs.Common.{◌≡◌, ◌≢◌, ℕ, zero, suc, ◌+◌, ◌-◌, ◌^◌, ◌<◌, ◌≤◌, true, false, eqb, ltb, List, [], ◌∷◌, ◌++◌, length, map, take, Result, Ok, Err, refl, sym, ap, subst, ◌∙◌, inl, inr, append_assoc, length-append, arith}
use Rattle.std.specs.Prelude.{codes, decimal}
use Rattle.std.specs.List.{AllByRecursion}
use Rattle.std.proofs.lemmas.Bool.Decides.{nat_tests}
use Rattle.tesla_base.specs.Version.{most_chains, shortest_tag, longest_tag, IsTagLength}
use Rattle.tesla_base.specs.declared.names.StreamId.{StreamId}
use Rattle.tesla_base.specs.declared.version.Version.{Version}
use Rattle.tesla_base.specs.declared.version.Version.TheVariants.{One, Two}
use Rattle.tesla_clock.specs.Schedule.{Times, IsSchedule}
use Rattle.tesla_commit.specs.Parts.{Parts, IsRow}
use Rattle.tesla_commit.specs.JudgedLines.{◌>>=◌, at}
use Rattle.tesla_commit.specs.ChainRows.{first_line, end_line}
use Rattle.tesla_commit.specs.Parsing.{lines, next_line, title_in, stream_in, start_in, limited_in, chain_in, chains_judged, opening_judged, times_judged, tag_judged, rest_judged, judged}
use Rattle.tesla_commit.specs.SetupText.{HasKey}
use Rattle.tesla_commit.specs.SetupRefused.{title, StopsHere, WhyTitle, WhyStream, WhyNumber, WhyChain, tag_lines, head_lines, IsHead, why_head, chain_text, last_delay, StopsAtChain, StopsInChains, IsRefused}
use Rattle.tesla_commit.specs.declared.chain_row.ChainRow.{ChainRow}
use Rattle.tesla_commit.specs.declared.refusal.SetupKind.{SetupKind}
use Rattle.tesla_commit.specs.declared.refusal.SetupKind.TheVariants.{NoChain, TooManyChains, TooLong}
use Rattle.tesla_commit.proofs.RowLaws.{not_line, same_line, first_bounds, RiseFrom, rise_again}
use Rattle.tesla_commit.proofs.Spelling.{solid_from_test, title_again, stream_again, start_again, limited_again, row_line_again}
use Rattle.tesla_commit.proofs.Refusals.{after_times, after_opening, whole, stream_line}
use Rattle.tesla_commit.proofs.Refused.{title_refused, stream_refused, start_refused, limited_refused, chain_refused}

-- an LF ends a line that others stand behind
next_some : (number : ℕ) (line : List ℕ) (rest : List (List ℕ)) → 0 < length rest → next_line number (line ∷ rest) ≡ Ok (line, rest)
next_some number line [] some = absurd (omega arith)
next_some number line (next ∷ others) some = refl

-- a text never stops behind its end
stops_some : (why : SetupKind → List ℕ → Type 0) (kind : SetupKind) (rest : List (List ℕ)) → StopsHere why kind rest → 0 < length rest
stops_some why kind [] h = absurd h
stops_some why kind (unended ∷ []) h = omega arith
stops_some why kind (line ∷ next ∷ others) h = omega arith

-- what stops at a line is refused at it
here_refused : {A B : Type 0} (number : ℕ) (why : SetupKind → List ℕ → Type 0) (judge : List ℕ → Result A SetupKind) (f : List ℕ × List (List ℕ) → A → Result B (ℕ × SetupKind)) (kind : SetupKind) (rest : List (List ℕ)) → ((k : SetupKind) (line : List ℕ) → why k line → judge line ≡ Err k) → StopsHere why kind rest → (next_line number rest >>= λ x. at number (judge x.0) >>= λ a. f x a) ≡ Err (number, kind)
here_refused number why judge f kind [] cause h = absurd h
here_refused number why judge f kind (unended ∷ []) cause h = ap (λ (k : SetupKind). Err (number, k)) (sym h)
here_refused number why judge f kind (line ∷ next ∷ others) cause h = rw (cause kind line h) refl

-- ---- lines 1 and 2

-- line 1 is refused
pub first_refused : (kind : SetupKind) (rest : List (List ℕ)) → StopsHere WhyTitle kind rest → opening_judged rest ≡ Err (1, kind)
unfolding opening_judged
first_refused kind rest h = here_refused 1 WhyTitle title_in (λ one version. next_line 2 one.1 >>= λ two. at 2 (stream_in two.0) >>= λ stream. after_opening version stream two.1) kind rest title_refused h

-- line 2 is refused behind the title
pub second_refused : (version : Version) (kind : SetupKind) (rest : List (List ℕ)) → StopsHere WhyStream kind rest → opening_judged (title version ∷ rest) ≡ Err (2, kind)
unfolding opening_judged
second_refused version kind rest h =
    rw (next_some 1 (title version) rest (stops_some WhyStream kind rest h), title_again version) (here_refused 2 WhyStream stream_in (λ two stream. after_opening version stream two.1) kind rest stream_refused h)

-- lines 1 and 2 are taken
pub opening_taken : (version : Version) (stream : StreamId) (rest : List (List ℕ)) → stream.0 < 2 ^ 64 → 0 < length rest → opening_judged (title version ∷ stream_line stream.0 ∷ rest) ≡ Ok (version, stream, rest)
unfolding opening_judged
opening_taken version stream rest fits some = rw (title_again version, next_some 2 (stream_line stream.0) rest some, stream_again stream fits) refl

-- ---- lines 3 to 5

abbrev pub start_line : ℕ → List ℕ
start_line start = codes "start" ++ 32 ∷ decimal start

abbrev pub span_line : ℕ → List ℕ
span_line span = codes "interval" ++ 32 ∷ decimal span

abbrev pub last_line : ℕ → List ℕ
last_line last = codes "last" ++ 32 ∷ decimal last

span_again : (span : ℕ) → 1000 ≤ span → span ≤ 3600000000 → limited_in (codes "interval") 1000 3600000000 (span_line span) ≡ Ok span
span_again span low high = limited_again (codes "interval") 1000 3600000000 span (solid_from_test (codes "interval") refl) (omega arith) low high

last_again : (last : ℕ) → 1 ≤ last → last ≤ 1048576 → limited_in (codes "last") 1 1048576 (last_line last) ≡ Ok last
last_again last low high = limited_again (codes "last") 1 1048576 last (solid_from_test (codes "last") refl) (omega arith) low high

-- line 3 is refused
pub third_refused : (kind : SetupKind) (rest : List (List ℕ)) → StopsHere (WhyNumber (codes "start") 0 (2 ^ 64 - 1)) kind rest → times_judged rest ≡ Err (3, kind)
unfolding times_judged
third_refused kind rest h =
    here_refused 3 (WhyNumber (codes "start") 0 (2 ^ 64 - 1)) start_in (λ three start. next_line 4 three.1 >>= λ four. at 4 (limited_in (codes "interval") 1000 3600000000 four.0) >>= λ length. next_line 5 four.1 >>= λ five. at 5 (limited_in (codes "last") 1 1048576 five.0) >>= λ last. after_times start length last five.1) kind rest start_refused h

-- line 4 is refused
pub fourth_refused : (kind : SetupKind) (start : ℕ) (rest : List (List ℕ)) → start < 2 ^ 64 → StopsHere (WhyNumber (codes "interval") 1000 3600000000) kind rest → times_judged (start_line start ∷ rest) ≡ Err (4, kind)
unfolding times_judged
fourth_refused kind start rest fits h =
    rw (next_some 3 (start_line start) rest (stops_some (WhyNumber (codes "interval") 1000 3600000000) kind rest h), start_again start fits)
    (here_refused 4 (WhyNumber (codes "interval") 1000 3600000000) (limited_in (codes "interval") 1000 3600000000) (λ four length. next_line 5 four.1 >>= λ five. at 5 (limited_in (codes "last") 1 1048576 five.0) >>= λ last. after_times start length last five.1) kind rest (limited_refused (codes "interval") 1000 3600000000) h)

-- line 5 is refused
pub fifth_refused : (kind : SetupKind) (start span : ℕ) (rest : List (List ℕ)) → start < 2 ^ 64 → 1000 ≤ span → span ≤ 3600000000 → StopsHere (WhyNumber (codes "last") 1 1048576) kind rest → times_judged (start_line start ∷ span_line span ∷ rest) ≡ Err (5, kind)
unfolding times_judged
fifth_refused kind start span rest fits low high h =
    rw (start_again start fits, next_some 4 (span_line span) rest (stops_some (WhyNumber (codes "last") 1 1048576) kind rest h), span_again span low high)
    (here_refused 5 (WhyNumber (codes "last") 1 1048576) (limited_in (codes "last") 1 1048576) (λ five last. after_times start span last five.1) kind rest (limited_refused (codes "last") 1 1048576) h)

-- lines 3 to 5 are taken
pub times_taken : (times : Times) (rest : List (List ℕ)) → times.start < 2 ^ 64 → IsSchedule times → 0 < length rest → times_judged (start_line times.start ∷ span_line times.length ∷ last_line times.last ∷ rest) ≡ Ok (times, rest)
unfolding times_judged
times_taken times rest fits limits some =
    rw (start_again times.start fits, span_again times.length limits.shortest limits.longest, next_some 5 (last_line times.last) rest some, last_again times.last limits.first limits.most) refl

-- ---- the line of the tags' length

-- line 6 of version 2 is refused
sixth_refused : (version : Version) (stream : StreamId) (times : Times) (kind : SetupKind) (rest : List (List ℕ)) → 6 < first_line version → StopsHere (WhyNumber (codes "tag") (shortest_tag Two) (longest_tag Two)) kind rest → rest_judged version stream times rest ≡ Err (6, kind)
unfolding rest_judged tag_judged
sixth_refused One stream times kind rest later h = absurd (omega arith)
sixth_refused Two stream times kind rest later h =
    let refused : tag_judged Two rest ≡ Err (6, kind) = here_refused 6 (WhyNumber (codes "tag") (shortest_tag Two) (longest_tag Two)) (limited_in (codes "tag") (shortest_tag Two) (longest_tag Two)) (λ six size. Ok (size, six.1)) kind rest (limited_refused (codes "tag") (shortest_tag Two) (longest_tag Two)) h in
    rw refused refl

-- the line of the tags' length is taken
tag_taken : (version : Version) (size : ℕ) (rest : List (List ℕ)) → IsTagLength version size → 0 < length rest → tag_judged version (tag_lines version size ++ rest) ≡ Ok (size, rest)
unfolding tag_judged
tag_taken One size rest limits some =
    let shortest = limits.shortest in
    let longest = limits.longest in
    let same : longest_tag One ≡ size = omega arith in
    ap (λ (n : ℕ). Ok (n, rest)) same
tag_taken Two size rest limits some =
    let longest = limits.longest in
    rw (next_some 6 (codes "tag" ++ 32 ∷ decimal size) rest some, limited_again (codes "tag") 10 32 size (solid_from_test (codes "tag") refl) (omega arith) limits.shortest longest) refl

-- the refusal of the chains is that of the lines from the tags' length on
rest_refused : (parts : Parts) (behind : List (List ℕ)) (e : ℕ × SetupKind) → IsTagLength parts.version parts.tag_length → 0 < length behind → chains_judged parts.version parts.times.last (first_line parts.version) 0 behind ≡ Err e → rest_judged parts.version parts.stream parts.times (tag_lines parts.version parts.tag_length ++ behind) ≡ Err e
unfolding rest_judged
rest_refused parts behind e limits some h = rw (tag_taken parts.version parts.tag_length behind limits some, h) refl

-- ---- the chains

-- the line of a chain is refused for itself
chain_here : (version : Version) (last number before : ℕ) (kind : SetupKind) (rest : List (List ℕ)) → number ≢ end_line version → rest ≢ [] ∷ [] → StopsHere (WhyChain last before) kind rest → chains_judged version last number before rest ≡ Err (number, kind)
unfolding chains_judged
chain_here version last number before kind [] ne some h = absurd h
chain_here version last number before kind ([] ∷ []) ne some h = absurd (some refl)
chain_here version last number before kind ((b ∷ unended) ∷ []) ne some h =
    let nonempty : eqb (length (b ∷ unended)) 0 ≡ false = grind (arith, nat_tests) in
    let test = not_line number (end_line version) ne in
    rw (nonempty, test) (ap (λ (k : SetupKind). Err (number, k)) (sym h))
chain_here version last number before kind (line ∷ next ∷ others) ne some h =
    let test = not_line number (end_line version) ne in
    rw (test, chain_refused last before kind line h) refl

-- a line behind the last chain that there may be is refused
chain_over : (version : Version) (last number before : ℕ) (rest : List (List ℕ)) → number ≡ end_line version → 0 < length rest → rest ≢ [] ∷ [] → chains_judged version last number before rest ≡ Err (number, TooManyChains)
unfolding chains_judged
chain_over version last number before [] ten some other = absurd (omega arith)
chain_over version last number before ([] ∷ []) ten some other = absurd (other refl)
chain_over version last number before ((b ∷ unended) ∷ []) ten some other =
    let nonempty : eqb (length (b ∷ unended)) 0 ≡ false = grind (arith, nat_tests) in
    let test = same_line number (end_line version) ten in
    rw (nonempty, test) refl
chain_over version last number before (line ∷ next ∷ others) ten some other =
    let test = same_line number (end_line version) ten in
    rw test refl

-- a text that ends before the first chain is refused
chain_none : (version : Version) (last number before : ℕ) (rest : List (List ℕ)) → number ≡ first_line version → rest ≡ [] ∷ [] → chains_judged version last number before rest ≡ Err (number, NoChain)
unfolding chains_judged
chain_none version last number before rest six none =
    let test = same_line number (first_line version) six in
    rw (none, test) refl

-- the line of a chain is refused where it stops
chain_stopped : (version : Version) (last number count before : ℕ) (kind : SetupKind) (rest : List (List ℕ)) → number ≡ first_line version + count → StopsAtChain (most_chains version) count last before kind rest → chains_judged version last number before rest ≡ Err (number, kind)
chain_stopped version last number count before NoChain rest offset h = chain_none version last number before rest (let c = h.0 in omega arith) h.1
chain_stopped version last number count before TooManyChains rest offset h = chain_over version last number before rest (let c = h.0 in omega arith) h.1 h.2
chain_stopped version last number count before kind rest offset h = chain_here version last number before kind rest (let c = h.0 in omega arith) h.1 h.2

-- a text stops behind no more chains than there may be, and never behind its end
chain_bounds : (most count last before : ℕ) (kind : SetupKind) (rest : List (List ℕ)) → StopsAtChain most count last before kind rest → (count ≤ most) × (0 < length rest)
chain_bounds most count last before NoChain rest h = (let c = h.0 in omega arith, let n : length rest ≡ 1 = ap (length {A = List ℕ}) h.1 in omega arith)
chain_bounds most count last before TooManyChains rest h = (let c = h.0 in omega arith, h.1)
chain_bounds most count last before kind rest h = (let c = h.0 in omega arith, stops_some (WhyChain last before) kind rest h.2)

-- the refusal of a later line is that of all lines
one_refused : (version : Version) (last number before : ℕ) (text : List ℕ) (row : ChainRow) (parts : List (List ℕ)) (e : ℕ × SetupKind) → number ≢ end_line version → 0 < length parts → chain_in last before text ≡ Ok row → chains_judged version last (number + 1) row.delay parts ≡ Err e → chains_judged version last number before (text ∷ parts) ≡ Err e
unfolding chains_judged
one_refused version last number before text row [] e ne some one more = absurd (omega arith)
one_refused version last number before text row (first ∷ others) e ne some one more =
    let test = not_line number (end_line version) ne in
    rw (test, one, more) refl

-- something stands behind the lines of chains
rest_some : (rows : List ChainRow) (rest : List (List ℕ)) → 0 < length rest → 0 < length (map chain_text rows ++ rest)
rest_some [] rest some = some
rest_some (row ∷ rows) rest some = omega arith

-- the refusal behind the lines of chains is that of all lines
chains_behind : (version : Version) (last number before : ℕ) (rows : List ChainRow) (rest : List (List ℕ)) (e : ℕ × SetupKind) → last < 2 ^ 64 → number + length rows ≤ end_line version → 0 < length rest → AllByRecursion (IsRow last) rows → RiseFrom before rows → AllByRecursion HasKey rows → chains_judged version last (number + length rows) (last_delay before rows) rest ≡ Err e → chains_judged version last number before (map chain_text rows ++ rest) ≡ Err e
chains_behind version last number before [] rest e most high some each rise keys h =
    let same : number + 0 ≡ number = omega arith in
    subst (λ (n : ℕ). chains_judged version last n before rest ≡ Err e) same h
chains_behind version last number before (row ∷ rows) rest e most high some each rise keys h =
    let same : number + length (row ∷ rows) ≡ (number + 1) + length rows = omega arith in
    let one = row_line_again last before row most (record { limits = each.0; above = rise.0 }) keys.0 in
    let more = chains_behind version last (number + 1) row.delay rows rest e most (omega arith) some each.1 rise.1 keys.1 (subst (λ (n : ℕ). chains_judged version last n (last_delay row.delay rows) rest ≡ Err e) same h) in
    one_refused version last number before (chain_text row) row (map chain_text rows ++ rest) e (omega arith) (rest_some rows rest some) one more

-- ---- the whole text

-- a text that stops before its chains is refused there
head_refused : (before : ℕ) (kind : SetupKind) (parts : Parts) (rest : List (List ℕ)) → IsHead parts → before + 1 < first_line parts.version → StopsHere (why_head before) kind rest → whole (take before (head_lines parts) ++ rest) ≡ Err (suc before, kind)
head_refused zero kind parts rest limits few h = rw (first_refused kind rest h) refl
head_refused (suc zero) kind parts rest limits few h = rw (second_refused parts.version kind rest h) refl
head_refused (suc (suc zero)) kind parts rest limits few h =
    rw (opening_taken parts.version parts.stream rest limits.stream (stops_some (why_head 2) kind rest h), third_refused kind rest h) refl
head_refused (suc (suc (suc zero))) kind parts rest limits few h =
    rw (opening_taken parts.version parts.stream (start_line parts.times.start ∷ rest) limits.stream (omega arith), fourth_refused kind parts.times.start rest limits.start h) refl
head_refused (suc (suc (suc (suc zero)))) kind parts rest limits few h =
    rw (opening_taken parts.version parts.stream (start_line parts.times.start ∷ span_line parts.times.length ∷ rest) limits.stream (omega arith), fifth_refused kind parts.times.start parts.times.length rest limits.start limits.times.shortest limits.times.longest h) refl
head_refused (suc (suc (suc (suc (suc zero))))) kind parts rest limits few h =
    rw (opening_taken parts.version parts.stream (start_line parts.times.start ∷ span_line parts.times.length ∷ last_line parts.times.last ∷ rest) limits.stream (omega arith), times_taken parts.times rest limits.start limits.times (stops_some (why_head 5) kind rest h)) (sixth_refused parts.version parts.stream parts.times kind rest few h)
head_refused (suc (suc (suc (suc (suc (suc n)))))) kind parts rest limits few h = absurd (omega (arith, (first_bounds parts.version).1))

-- the refusal of the chains is that of the text
chains_refused_behind : (parts : Parts) (behind : List (List ℕ)) (e : ℕ × SetupKind) → IsHead parts → 0 < length behind → chains_judged parts.version parts.times.last (first_line parts.version) 0 behind ≡ Err e → whole (head_lines parts ++ behind) ≡ Err e
chains_refused_behind parts behind e limits some h =
    let tag = tag_lines parts.version parts.tag_length in
    let more : 0 < length (tag ++ behind) = omega (arith, length-append tag behind) in
    rw (opening_taken parts.version parts.stream (start_line parts.times.start ∷ span_line parts.times.length ∷ last_line parts.times.last ∷ tag ++ behind) limits.stream (omega arith), times_taken parts.times (tag ++ behind) limits.start limits.times more) (rest_refused parts behind e limits.tag_length some h)

-- a text that stops in its chains is refused there
chain_lines_refused : (text : List (List ℕ)) (before : ℕ) (kind : SetupKind) → StopsInChains text before kind → whole text ≡ Err (suc before, kind)
chain_lines_refused text before kind s =
    let version = s.parts.version in
    let first = first_line version in
    let last = s.parts.times.last in
    let rows = s.parts.rows in
    let most = s.limits.times.most in
    let bounds = chain_bounds (most_chains version) (length rows) last (last_delay 0 rows) kind s.rest s.why in
    let few = bounds.0 in
    let count = s.count in
    let number : first + length rows ≡ suc before = omega arith in
    let here = chain_stopped version last (first + length rows) (length rows) (last_delay 0 rows) kind s.rest refl s.why in
    let stopped = chains_behind version last first 0 rows s.rest (first + length rows, kind) (omega arith) (omega arith) bounds.1 s.each (rise_again last rows s.each s.rise) s.keys here in
    ap whole (s.spelled ∙ append_assoc (head_lines s.parts) (map chain_text rows) s.rest) ∙ chains_refused_behind s.parts (map chain_text rows ++ s.rest) (first + length rows, kind) s.limits (rest_some rows s.rest bounds.1) stopped ∙ ap (λ (n : ℕ). Err (n, kind)) number

-- the refusal of the lines is that of a text within its length
short_refused : (text : List ℕ) (e : ℕ × SetupKind) → length text ≤ 4096 → whole (lines text) ≡ Err e → judged text ≡ Err e
unfolding judged
short_refused text e short h =
    let test : ltb 4096 (length text) ≡ false = grind (arith, nat_tests) in
    rw test h

-- a text past its length is refused
long_refused : (text : List ℕ) → 4096 < length text → judged text ≡ Err (0, TooLong)
unfolding judged
long_refused text long =
    let test : ltb 4096 (length text) ≡ true = grind (arith, nat_tests) in
    rw test refl

-- a text with the cause at a line is refused there
pub refused_judged : (text : List ℕ) (number : ℕ) (kind : SetupKind) → IsRefused text number kind → judged text ≡ Err (number, kind)
refused_judged text zero kind h = long_refused text h.1 ∙ ap (λ (k : SetupKind). Err (0, k)) (sym h.0)
refused_judged text (suc before) kind h =
    elim h.1 [
      | inl s ↦ short_refused text (suc before, kind) h.0 (ap whole s.spelled ∙ head_refused before kind s.parts s.rest s.limits s.few s.why)
      | inr s ↦ short_refused text (suc before, kind) h.0 (chain_lines_refused (lines text) before kind s)
    ]
