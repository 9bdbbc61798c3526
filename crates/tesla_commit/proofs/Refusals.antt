-- A refused text stops behind the front of a setup's lines.
use Rattle.std.proofs.Common.{◌≡◌, ◌≢◌, ◌⊎◌, ℕ, zero, suc, ◌+◌, ◌-◌, ◌^◌, ◌<◌, ◌≤◌, Bool, true, false, cond, eqb, ltb, List, [], ◌∷◌, ◌++◌, length, map, take, Result, Ok, Err, refl, sym, ap, subst, ◌∙◌, append_assoc, inl, inr, arith}
use Rattle.std.specs.Prelude.{codes, decimal}
use Rattle.std.specs.Int.{w64, to_be_bytes}
use Rattle.std.specs.List.{AllByRecursion}
use Rattle.std.proofs.lemmas.Bool.Decides.{nat_tests}
use Rattle.hex.specs.Hex.{encode_lower}
use Rattle.tesla_base.specs.Version.{most_chains, shortest_tag, longest_tag, IsTagLength}
use Rattle.tesla_base.specs.declared.names.StreamId.{StreamId}
use Rattle.tesla_base.specs.declared.version.Version.{Version}
use Rattle.tesla_base.specs.declared.version.Version.TheVariants.{One, Two}
use Rattle.tesla_clock.specs.Schedule.{Times, IsSchedule}
use Rattle.tesla_commit.specs.Parts.{Parts, IsRow}
use Rattle.tesla_commit.specs.JudgedLines.{◌>>=◌, at}
use Rattle.tesla_commit.specs.ChainRows.{first_line, end_line}
use Rattle.tesla_commit.specs.Parsing.{lines, next_line, title_in, stream_in, start_in, limited_in, chain_in, chains_judged, opening_judged, times_judged, tag_judged, rest_judged, judged}
use Rattle.tesla_commit.specs.SetupText.{HasKey}
use Rattle.tesla_commit.specs.SetupRefused.{title, StopsHere, tag_lines, head_lines, IsHead, why_head, StopsInHead, chain_text, last_delay, StopsAtChain, StopsInChains, IsRefused, WhyChain}
use Rattle.tesla_commit.specs.declared.chain_row.ChainRow.{ChainRow}
use Rattle.tesla_commit.specs.declared.refusal.SetupKind.{SetupKind}
use Rattle.tesla_commit.specs.declared.refusal.SetupKind.TheVariants.{BadLine, BadNumber, BadHex, NoChain, TooManyChains, DelaysNotRising, IndexPastLast, LimitPassed, TooLong}
use Rattle.tesla_commit.proofs.RowLaws.{first_bounds, bind_ok, at_ok, ok_is, RiseFrom, rise_is, row_is}
use Rattle.tesla_commit.proofs.ChainLaws.{same_taken, no_row, no_line, chain_row}
use Rattle.tesla_commit.proofs.Spelled.{title_found, stream_found, start_found, limited_found, row_found, nothing_is}
use Rattle.tesla_commit.proofs.WordLaws.{has_first}
use Rattle.tesla_commit.proofs.Causes.{by_steps, err_is, title_why, stream_why, start_why, limited_why, chain_why}

-- the text stops at that line
abbrev pub StopsAt : List (List ℕ) → ℕ → SetupKind → Type 0
StopsAt text zero kind = ⊥
StopsAt text (suc before) kind = StopsInHead text before kind ⊎ StopsInChains text before kind

abbrev pub Stops : List (List ℕ) → ℕ × SetupKind → Type 0
Stops text e = StopsAt text e.0 e.1

-- a line that was taken stands before the others, of which there is one
pub line_taken : (number : ℕ) (parts : List (List ℕ)) (x : List ℕ × List (List ℕ)) → next_line number parts ≡ Ok x → (parts ≡ x.0 ∷ x.1) × (0 < length x.1)
line_taken number [] x h = absurd cc
line_taken number (unended ∷ []) x h = absurd cc
line_taken number (line ∷ next ∷ others) x h =
    subst (λ (y : List ℕ × List (List ℕ)). (line ∷ next ∷ others ≡ y.0 ∷ y.1) × (0 < length y.1)) (same_taken (line, next ∷ others) x h) (refl, omega arith)

-- why no line was taken
pub next_why : (why : SetupKind → List ℕ → Type 0) (number : ℕ) (parts : List (List ℕ)) (d : ℕ × SetupKind) → 0 < length parts → next_line number parts ≡ Err d → (number ≡ d.0) × StopsHere why d.1 parts
next_why why number [] d some h = absurd (omega arith)
next_why why number (unended ∷ []) d some h =
    let e = err_is (number, BadLine) d (next_line number (unended ∷ [])) refl h in
    (ap (λ (p : ℕ × SetupKind). p.0) e, sym (ap (λ (p : ℕ × SetupKind). p.1) e))
next_why why number (line ∷ next ∷ others) d some h = absurd cc

-- the kind that is refused at a line is that of its judgment
pub at_why : {A E : Type 0} (number : ℕ) (r : Result A E) (d : ℕ × E) → at number r ≡ Err d → (number ≡ d.0) × (r ≡ Err d.1)
at_why number (Ok x) d h = absurd cc
at_why {A = A} {E = E} number (Err kind) d h =
    let e = err_is (number, kind) d (at {A = A} number (Err kind)) refl h in
    (ap (λ (p : ℕ × E). p.0) e, ap (λ (p : ℕ × E). Err p.1) e)

-- why the line that was taken is refused
pub line_why : {A : Type 0} (why : SetupKind → List ℕ → Type 0) (number : ℕ) (parts : List (List ℕ)) (x : List ℕ × List (List ℕ)) (r : Result A SetupKind) (d : ℕ × SetupKind) → next_line number parts ≡ Ok x → ((k : SetupKind) → r ≡ Err k → why k x.0) → at number r ≡ Err d → (number ≡ d.0) × StopsHere why d.1 parts
line_why why number [] x r d taken cause h = absurd cc
line_why why number (unended ∷ []) x r d taken cause h = absurd cc
line_why why number (line ∷ next ∷ others) x r d taken cause h =
    let a = at_why number r d h in
    let same : x.0 ≡ line = sym (ap (λ (y : List ℕ × List (List ℕ)). y.0) (same_taken (line, next ∷ others) x taken)) in
    (a.0, subst (λ (l : List ℕ). why d.1 l) same (cause d.1 a.1))

-- ---- before the chains

-- the parts with what is known of them
abbrev known : Version → ℕ → Times → Parts
known version stream times = record { version = version; stream = record { 0 = stream }; times = times; tag_length = longest_tag version; rows = [] }

abbrev times_of : ℕ → ℕ → Times
times_of start length = record { start = start; length = length; last = 1 }

pub head_stops : (text : List (List ℕ)) (before : ℕ) (parts : Parts) (rest : List (List ℕ)) (d : ℕ × SetupKind) → IsHead parts → before + 1 < first_line parts.version → text ≡ take before (head_lines parts) ++ rest → (suc before ≡ d.0) × StopsHere (why_head before) d.1 rest → Stops text d
head_stops text before parts rest d limits few spelled why =
    subst (λ (n : ℕ). StopsAt text n d.1) why.0 (inl (record { parts = parts; limits = limits; few = few; rest = rest; spelled = spelled; why = why.1 }))

-- some head of a setup with that stream
longest_is : (version : Version) → IsTagLength version (longest_tag version)
longest_is One = record { shortest = omega arith; longest = omega arith }
longest_is Two = record { shortest = omega arith; longest = omega arith }

pub some_head : (version : Version) (stream start length : ℕ) → stream < 2 ^ 64 → start < 2 ^ 64 → 1000 ≤ length → length ≤ 3600000000 → IsHead (known version stream (times_of start length))
some_head version stream start length fits begins shortest longest =
    record { stream = fits; start = begins; times = record { shortest = shortest; longest = longest; first = omega arith; most = omega arith }; tag_length = longest_is version }

-- the text with one more of its lines known
pub grown : (text prefix parts others : List (List ℕ)) (line spelled : List ℕ) → text ≡ prefix ++ parts → parts ≡ line ∷ others → line ≡ spelled → text ≡ prefix ++ spelled ∷ others
grown text prefix parts others line spelled h k e = h ∙ ap (λ (r : List (List ℕ)). prefix ++ r) (k ∙ ap (λ (l : List ℕ). l ∷ others) e)

abbrev pub stream_line : ℕ → List ℕ
stream_line stream = codes "stream" ++ 32 ∷ encode_lower (to_be_bytes w64 stream)

-- what is judged of lines 1 and 2
abbrev pub after_opening : Version → StreamId → List (List ℕ) → Result (Version × StreamId × List (List ℕ)) (ℕ × SetupKind)
after_opening version stream rest = Ok (version, stream, rest)

-- a text whose first line is the title stops at line 2
second_stops : (version : Version) (text parts : List (List ℕ)) (e : ℕ × SetupKind) → 0 < length parts → text ≡ title version ∷ parts → (next_line 2 parts >>= λ two. at 2 (stream_in two.0) >>= λ stream. after_opening version stream two.1) ≡ Err e → Stops text e
second_stops version text parts e some prefix h =
    let known_of = known version 0 (times_of 0 1000) in
    let limits = some_head version 0 0 1000 (omega arith) (omega arith) (omega arith) (omega arith) in
    by_steps (λ (d : ℕ × SetupKind). Stops text d) (next_line 2 parts) (λ two. at 2 (stream_in two.0) >>= λ stream. after_opening version stream two.1) e
    (λ d refused. head_stops text 1 known_of parts d limits (omega (arith, first_bounds version)) prefix (next_why (why_head 1) 2 parts d some refused))
    (λ two taken d refused.
    by_steps (λ (k : ℕ × SetupKind). Stops text k) (at 2 (stream_in two.0)) (λ stream. after_opening version stream two.1) d
    (λ k end. head_stops text 1 known_of parts k limits (omega (arith, first_bounds version)) prefix (line_why (why_head 1) 2 parts two (stream_in two.0) k taken (λ j r. stream_why two.0 j r) end))
    (λ stream ok k end. absurd cc)
    refused)
    h

-- a text stops at line 1 or 2
pub opening_stops : (text : List (List ℕ)) (e : ℕ × SetupKind) → 0 < length text → opening_judged text ≡ Err e → Stops text e
unfolding opening_judged
opening_stops text e some h =
    let known_of = known One 0 (times_of 0 1000) in
    let limits = some_head One 0 0 1000 (omega arith) (omega arith) (omega arith) (omega arith) in
    by_steps (λ (d : ℕ × SetupKind). Stops text d) (next_line 1 text) (λ one. at 1 (title_in one.0) >>= λ version. next_line 2 one.1 >>= λ two. at 2 (stream_in two.0) >>= λ stream. after_opening version stream two.1) e
    (λ d refused. head_stops text 0 known_of text d limits (omega arith) refl (next_why (why_head 0) 1 text d some refused))
    (λ one taken d refused.
    by_steps (λ (k : ℕ × SetupKind). Stops text k) (at 1 (title_in one.0)) (λ version. next_line 2 one.1 >>= λ two. at 2 (stream_in two.0) >>= λ stream. after_opening version stream two.1) d
    (λ k end. head_stops text 0 known_of text k limits (omega arith) refl (line_why (why_head 0) 1 text one (title_in one.0) k taken (λ j r. title_why one.0 j r) end))
    (λ version ok k end. second_stops version text one.1 k (line_taken 1 text one taken).1 (grown text [] text one.1 one.0 (title version) refl (line_taken 1 text one taken).0 (title_found one.0 version (at_ok 1 (title_in one.0) version ok))) end)
    refused)
    h

-- lines 1 and 2 where neither is refused
pub opening_spelled : (text : List (List ℕ)) (x : Version × StreamId × List (List ℕ)) → opening_judged text ≡ Ok x → (text ≡ title x.0 ∷ stream_line x.1.0 ∷ x.2) × (x.1.0 < 2 ^ 64) × (0 < length x.2)
unfolding opening_judged
opening_spelled text x h =
    let one = bind_ok (next_line 1 text) (λ one. at 1 (title_in one.0) >>= λ version. next_line 2 one.1 >>= λ two. at 2 (stream_in two.0) >>= λ stream. Ok (version, stream, two.1)) x h in
    let version = bind_ok (at 1 (title_in one.0.0)) (λ version. next_line 2 one.0.1 >>= λ two. at 2 (stream_in two.0) >>= λ stream. Ok (version, stream, two.1)) x one.2 in
    let two = bind_ok (next_line 2 one.0.1) (λ two. at 2 (stream_in two.0) >>= λ stream. Ok (version.0, stream, two.1)) x version.2 in
    let stream = bind_ok (at 2 (stream_in two.0.0)) (λ stream. Ok (version.0, stream, two.0.1)) x two.2 in
    let said = stream_found two.0.0 stream.0 (at_ok 2 (stream_in two.0.0) stream.0 stream.1) in
    let first = grown text [] text one.0.1 one.0.0 (title version.0) refl (line_taken 1 text one.0 one.1).0 (title_found one.0.0 version.0 (at_ok 1 (title_in one.0.0) version.0 version.1)) in
    let second = grown text (title version.0 ∷ []) one.0.1 two.0.1 two.0.0 (stream_line stream.0.0) first (line_taken 2 one.0.1 two.0 two.1).0 said.0 in
    let made : Version × StreamId × List (List ℕ) = (version.0, stream.0, two.0.1) in
    subst (λ (y : Version × StreamId × List (List ℕ)). (text ≡ title y.0 ∷ stream_line y.1.0 ∷ y.2) × (y.1.0 < 2 ^ 64) × (0 < length y.2)) (ok_is made x (Ok made) refl stream.2) (second, said.1, (line_taken 2 one.0.1 two.0 two.1).1)

-- what is judged of lines 3 to 5
abbrev pub after_times : ℕ → ℕ → ℕ → List (List ℕ) → Result (Times × List (List ℕ)) (ℕ × SetupKind)
after_times start length last rest = Ok (record { start = start; length = length; last = last }, rest)

-- a text stops at line 5
fifth_stops : (version : Version) (text parts : List (List ℕ)) (stream start span : ℕ) (e : ℕ × SetupKind) → 0 < length parts → IsHead (known version stream (times_of start span)) → text ≡ take 4 (head_lines (known version stream (times_of start span))) ++ parts → (next_line 5 parts >>= λ five. at 5 (limited_in (codes "last") 1 1048576 five.0) >>= λ last. after_times start span last five.1) ≡ Err e → Stops text e
fifth_stops version text parts stream start span e some limits prefix h =
    by_steps (λ (d : ℕ × SetupKind). Stops text d) (next_line 5 parts) (λ five. at 5 (limited_in (codes "last") 1 1048576 five.0) >>= λ last. after_times start span last five.1) e
    (λ d refused. head_stops text 4 (known version stream (times_of start span)) parts d limits (omega (arith, first_bounds version)) prefix (next_why (why_head 4) 5 parts d some refused))
    (λ five taken d refused.
    by_steps (λ (k : ℕ × SetupKind). Stops text k) (at 5 (limited_in (codes "last") 1 1048576 five.0)) (λ last. after_times start span last five.1) d
    (λ k end. head_stops text 4 (known version stream (times_of start span)) parts k limits (omega (arith, first_bounds version)) prefix (line_why (why_head 4) 5 parts five (limited_in (codes "last") 1 1048576 five.0) k taken (λ j r. limited_why (codes "last") 1 1048576 five.0 j r) end))
    (λ last ok k end. absurd cc)
    refused)
    h

-- a text stops at line 4 or 5
fourth_stops : (version : Version) (text parts : List (List ℕ)) (stream start : ℕ) (e : ℕ × SetupKind) → 0 < length parts → stream < 2 ^ 64 → start < 2 ^ 64 → text ≡ take 3 (head_lines (known version stream (times_of start 1000))) ++ parts → (next_line 4 parts >>= λ four. at 4 (limited_in (codes "interval") 1000 3600000000 four.0) >>= λ length. next_line 5 four.1 >>= λ five. at 5 (limited_in (codes "last") 1 1048576 five.0) >>= λ last. after_times start length last five.1) ≡ Err e → Stops text e
fourth_stops version text parts stream start e some fits begins prefix h =
    let known_of = known version stream (times_of start 1000) in
    let limits = some_head version stream start 1000 fits begins (omega arith) (omega arith) in
    by_steps (λ (d : ℕ × SetupKind). Stops text d) (next_line 4 parts) (λ four. at 4 (limited_in (codes "interval") 1000 3600000000 four.0) >>= λ length. next_line 5 four.1 >>= λ five. at 5 (limited_in (codes "last") 1 1048576 five.0) >>= λ last. after_times start length last five.1) e
    (λ d refused. head_stops text 3 known_of parts d limits (omega (arith, first_bounds version)) prefix (next_why (why_head 3) 4 parts d some refused))
    (λ four taken d refused.
    by_steps (λ (k : ℕ × SetupKind). Stops text k) (at 4 (limited_in (codes "interval") 1000 3600000000 four.0)) (λ length. next_line 5 four.1 >>= λ five. at 5 (limited_in (codes "last") 1 1048576 five.0) >>= λ last. after_times start length last five.1) d
    (λ k end. head_stops text 3 known_of parts k limits (omega (arith, first_bounds version)) prefix (line_why (why_head 3) 4 parts four (limited_in (codes "interval") 1000 3600000000 four.0) k taken (λ j r. limited_why (codes "interval") 1000 3600000000 four.0 j r) end))
    (λ span ok k end.
    let said = limited_found (codes "interval") 1000 3600000000 four.0 span (at_ok 4 (limited_in (codes "interval") 1000 3600000000 four.0) span ok) in
    let more = grown text (take 3 (head_lines known_of)) parts four.1 four.0 (codes "interval" ++ 32 ∷ decimal span) prefix (line_taken 4 parts four taken).0 said.0 in
    fifth_stops version text four.1 stream start span k (line_taken 4 parts four taken).1 (some_head version stream start span fits begins said.1 said.2) more end)
    refused)
    h

-- a text stops at line 3, 4 or 5
pub times_stops : (version : Version) (text parts : List (List ℕ)) (stream : ℕ) (e : ℕ × SetupKind) → 0 < length parts → stream < 2 ^ 64 → text ≡ title version ∷ stream_line stream ∷ parts → times_judged parts ≡ Err e → Stops text e
unfolding times_judged
times_stops version text parts stream e some fits prefix h =
    let known_of = known version stream (times_of 0 1000) in
    let limits = some_head version stream 0 1000 fits (omega arith) (omega arith) (omega arith) in
    by_steps (λ (d : ℕ × SetupKind). Stops text d) (next_line 3 parts) (λ three. at 3 (start_in three.0) >>= λ start. next_line 4 three.1 >>= λ four. at 4 (limited_in (codes "interval") 1000 3600000000 four.0) >>= λ length. next_line 5 four.1 >>= λ five. at 5 (limited_in (codes "last") 1 1048576 five.0) >>= λ last. after_times start length last five.1) e
    (λ d refused. head_stops text 2 known_of parts d limits (omega (arith, first_bounds version)) prefix (next_why (why_head 2) 3 parts d some refused))
    (λ three taken d refused.
    by_steps (λ (k : ℕ × SetupKind). Stops text k) (at 3 (start_in three.0)) (λ start. next_line 4 three.1 >>= λ four. at 4 (limited_in (codes "interval") 1000 3600000000 four.0) >>= λ length. next_line 5 four.1 >>= λ five. at 5 (limited_in (codes "last") 1 1048576 five.0) >>= λ last. after_times start length last five.1) d
    (λ k end. head_stops text 2 known_of parts k limits (omega (arith, first_bounds version)) prefix (line_why (why_head 2) 3 parts three (start_in three.0) k taken (λ j r. start_why three.0 j r) end))
    (λ start ok k end.
    let said = start_found three.0 start (at_ok 3 (start_in three.0) start ok) in
    let more = grown text (title version ∷ stream_line stream ∷ []) parts three.1 three.0 (codes "start" ++ 32 ∷ decimal start) prefix (line_taken 3 parts three taken).0 said.0 in
    fourth_stops version text three.1 stream start k (line_taken 3 parts three taken).1 fits said.1 more end)
    refused)
    h

-- what lines 3 to 5 are where none is refused
pub record AreTimes (parts : List (List ℕ)) (x : Times × List (List ℕ)) : Type 0 where
  pub spelled : parts ≡ (codes "start" ++ 32 ∷ decimal x.0.start) ∷ (codes "interval" ++ 32 ∷ decimal x.0.length) ∷ (codes "last" ++ 32 ∷ decimal x.0.last) ∷ x.1
  pub limits : IsSchedule x.0
  pub start : x.0.start < 2 ^ 64
  pub more : 0 < length x.1

-- lines 3 to 5 where none is refused
pub times_spelled_out : (parts : List (List ℕ)) (x : Times × List (List ℕ)) → times_judged parts ≡ Ok x → AreTimes parts x
unfolding times_judged
times_spelled_out parts x h =
    let three = bind_ok (next_line 3 parts) (λ three. at 3 (start_in three.0) >>= λ start. next_line 4 three.1 >>= λ four. at 4 (limited_in (codes "interval") 1000 3600000000 four.0) >>= λ length. next_line 5 four.1 >>= λ five. at 5 (limited_in (codes "last") 1 1048576 five.0) >>= λ last. after_times start length last five.1) x h in
    let start = bind_ok (at 3 (start_in three.0.0)) (λ start. next_line 4 three.0.1 >>= λ four. at 4 (limited_in (codes "interval") 1000 3600000000 four.0) >>= λ length. next_line 5 four.1 >>= λ five. at 5 (limited_in (codes "last") 1 1048576 five.0) >>= λ last. after_times start length last five.1) x three.2 in
    let four = bind_ok (next_line 4 three.0.1) (λ four. at 4 (limited_in (codes "interval") 1000 3600000000 four.0) >>= λ length. next_line 5 four.1 >>= λ five. at 5 (limited_in (codes "last") 1 1048576 five.0) >>= λ last. after_times start.0 length last five.1) x start.2 in
    let span = bind_ok (at 4 (limited_in (codes "interval") 1000 3600000000 four.0.0)) (λ length. next_line 5 four.0.1 >>= λ five. at 5 (limited_in (codes "last") 1 1048576 five.0) >>= λ last. after_times start.0 length last five.1) x four.2 in
    let five = bind_ok (next_line 5 four.0.1) (λ five. at 5 (limited_in (codes "last") 1 1048576 five.0) >>= λ last. after_times start.0 span.0 last five.1) x span.2 in
    let last = bind_ok (at 5 (limited_in (codes "last") 1 1048576 five.0.0)) (λ last. after_times start.0 span.0 last five.0.1) x five.2 in
    let starts = start_found three.0.0 start.0 (at_ok 3 (start_in three.0.0) start.0 start.1) in
    let spans = limited_found (codes "interval") 1000 3600000000 four.0.0 span.0 (at_ok 4 (limited_in (codes "interval") 1000 3600000000 four.0.0) span.0 span.1) in
    let lasts = limited_found (codes "last") 1 1048576 five.0.0 last.0 (at_ok 5 (limited_in (codes "last") 1 1048576 five.0.0) last.0 last.1) in
    let start_text = codes "start" ++ 32 ∷ decimal start.0 in
    let span_text = codes "interval" ++ 32 ∷ decimal span.0 in
    let last_text = codes "last" ++ 32 ∷ decimal last.0 in
    let taken = line_taken 5 four.0.1 five.0 five.1 in
    let first = grown parts [] parts three.0.1 three.0.0 start_text refl (line_taken 3 parts three.0 three.1).0 starts.0 in
    let second = grown parts (start_text ∷ []) three.0.1 four.0.1 four.0.0 span_text first (line_taken 4 three.0.1 four.0 four.1).0 spans.0 in
    let third = grown parts (start_text ∷ span_text ∷ []) four.0.1 five.0.1 five.0.0 last_text second taken.0 lasts.0 in
    let made : Times × List (List ℕ) = (record { start = start.0; length = span.0; last = last.0 }, five.0.1) in
    subst (λ (y : Times × List (List ℕ)). AreTimes parts y) (ok_is made x (Ok made) refl last.2) (record { spelled = third; limits = record { shortest = spans.1; longest = spans.2; first = lasts.1; most = lasts.2 }; start = starts.1; more = taken.1 })

-- ---- the chains

-- the lines of chains stop behind those of these rows
pub record ChainStop (version : Version) (last number before : ℕ) (parts : List (List ℕ)) (e : ℕ × SetupKind) : Type 0 where
  pub rows : List ChainRow
  pub rest : List (List ℕ)
  pub spelled : parts ≡ map chain_text rows ++ rest
  pub place : number + length rows ≡ e.0
  pub each : AllByRecursion (IsRow last) rows
  pub rise : RiseFrom before rows
  pub keys : AllByRecursion HasKey rows
  pub why : StopsAtChain (most_chains version) (e.0 - first_line version) last (last_delay before rows) e.1 rest

-- at the first of them
chain_now : (version : Version) (last number before : ℕ) (parts : List (List ℕ)) (e : ℕ × SetupKind) → StopsAtChain (most_chains version) (number - first_line version) last before e.1 parts → number ≡ e.0 → ChainStop version last number before parts e
chain_now version last number before parts e why offset =
    record { rows = []; rest = parts; spelled = refl; place = omega (arith, offset); each = tt; rise = tt; keys = tt; why = subst (λ (n : ℕ). StopsAtChain (most_chains version) (n - first_line version) last before e.1 parts) offset why }

-- behind one that is not refused
chain_later : (version : Version) (last number before : ℕ) (line : List ℕ) (others : List (List ℕ)) (row : ChainRow) (e : ℕ × SetupKind) → chain_in last before line ≡ Ok row → ChainStop version last (number + 1) row.delay others e → ChainStop version last number before (line ∷ others) e
chain_later version last number before line others row e ok more =
    let found = row_found last before line row ok in
    let next = (row_is last before row row (chain_row last before line row ok)).1 in
    let offset = more.place in
    record {
      rows = row ∷ more.rows;
      rest = more.rest;
      spelled = ap (λ (l : List ℕ). l ∷ others) found.0 ∙ ap (λ (r : List (List ℕ)). chain_text row ∷ r) more.spelled;
      place = omega arith;
      each = (next.limits, more.each);
      rise = (next.above, more.rise);
      keys = (found.1, more.keys);
      why = more.why;
    }

-- the line of a chain that is refused is there, and isn't past the last that there may be
chain_at : (most count last before : ℕ) (kind : SetupKind) (line next : List ℕ) (others : List (List ℕ)) → count < most → WhyChain last before kind line → StopsAtChain most count last before kind (line ∷ next ∷ others)
chain_at most count last before BadLine line next others few why = (few, λ e. cc, why)
chain_at most count last before BadNumber line next others few why = (few, λ e. cc, why)
chain_at most count last before BadHex line next others few why = (few, λ e. cc, why)
chain_at most count last before NoChain line next others few why = absurd why
chain_at most count last before TooManyChains line next others few why = absurd why
chain_at most count last before DelaysNotRising line next others few why = (few, λ e. cc, why)
chain_at most count last before IndexPastLast line next others few why = (few, λ e. cc, why)
chain_at most count last before LimitPassed line next others few why = (few, λ e. cc, why)
chain_at most count last before TooLong line next others few why = absurd why

-- which of the three refusals the end of a text has
end_why : (none first over : Bool) (number : ℕ) (e : ℕ × SetupKind) → cond none (no_row number first) (no_line number over) ≡ Err e → ((none ≡ true) × (first ≡ true) × ((number, NoChain) ≡ e)) ⊎ ((none ≡ false) × (((over ≡ true) × ((number, TooManyChains) ≡ e)) ⊎ ((over ≡ false) × ((number, BadLine) ≡ e))))
end_why true true over number e h = inl (refl, refl, err_is (number, NoChain) e (no_row number true) refl h)
end_why true false over number e h = absurd cc
end_why false first true number e h = inr (refl, inl (refl, err_is (number, TooManyChains) e (no_line number true) refl h))
end_why false first false number e h = inr (refl, inr (refl, err_is (number, BadLine) e (no_line number false) refl h))

-- bytes that no LF ends are something
not_nothing : (text : List ℕ) → eqb (length text) 0 ≡ false → text ∷ [] ≢ [] ∷ []
not_nothing [] some e = cc
not_nothing (b ∷ text) some e = cc

-- the end of a text stops the chains
end_stops : (version : Version) (last number before : ℕ) (unended : List ℕ) (e : ℕ × SetupKind) → first_line version ≤ number → number ≤ end_line version → cond (eqb (length unended) 0) (no_row number (eqb number (first_line version))) (no_line number (eqb number (end_line version))) ≡ Err e → ChainStop version last number before (unended ∷ []) e
end_stops version last number before unended e low high h =
    elim (end_why (eqb (length unended) 0) (eqb number (first_line version)) (eqb number (end_line version)) number e h) [
      | inl none ↦
          let nothing : unended ≡ [] = nothing_is unended (grind (arith, nat_tests, none.0)) in
          let six : number ≡ first_line version = grind (arith, nat_tests, none.1) in
          subst (λ (d : ℕ × SetupKind). ChainStop version last number before (unended ∷ []) d) none.2 (chain_now version last number before (unended ∷ []) (number, NoChain) (omega arith, ap (λ (t : List ℕ). t ∷ []) nothing) refl)
      | inr some ↦
          elim some.1 [
            | inl over ↦
                let ten : number ≡ end_line version = grind (arith, nat_tests, over.0) in
                subst (λ (d : ℕ × SetupKind). ChainStop version last number before (unended ∷ []) d) over.1 (chain_now version last number before (unended ∷ []) (number, TooManyChains) (omega arith, omega arith, not_nothing unended some.0) refl)
            | inr bad ↦
                let ne : number ≢ end_line version = grind (arith, nat_tests, bad.0) in
                subst (λ (d : ℕ × SetupKind). ChainStop version last number before (unended ∷ []) d) bad.1 (chain_now version last number before (unended ∷ []) (number, BadLine) (omega arith, not_nothing unended some.0, refl) refl)
          ]
    ]

-- a test that refuses, or the refusal behind it
pub guard_err : {A E : Type 0} (b : Bool) (x : E) (r : Result A E) (e : E) → cond b (Err x) r ≡ Err e → ((b ≡ true) × (x ≡ e)) ⊎ ((b ≡ false) × (r ≡ Err e))
guard_err {A = A} true x r e h = inl (refl, err_is {A = A} x e (Err x) refl h)
guard_err false x r e h = inr (refl, h)

-- the lines of chains stop where they are refused
pub chains_stop : (version : Version) (last number before : ℕ) (parts : List (List ℕ)) (e : ℕ × SetupKind) → first_line version ≤ number → number ≤ end_line version → 0 < length parts → chains_judged version last number before parts ≡ Err e → ChainStop version last number before parts e
unfolding chains_judged
chains_stop version last number before [] e low high some h = absurd (omega arith)
chains_stop version last number before (unended ∷ []) e low high some h = end_stops version last number before unended e low high h
chains_stop version last number before (line ∷ next ∷ others) e low high some h =
    elim (guard_err (eqb number (end_line version)) (number, TooManyChains) (at number (chain_in last before line) >>= λ row. chains_judged version last (number + 1) row.delay (next ∷ others) >>= λ rows. Ok (row ∷ rows)) e h) [
      | inl over ↦
          let ten : number ≡ end_line version = grind (arith, nat_tests, over.0) in
          subst (λ (d : ℕ × SetupKind). ChainStop version last number before (line ∷ next ∷ others) d) over.1 (chain_now version last number before (line ∷ next ∷ others) (number, TooManyChains) (omega arith, omega arith, λ e. cc) refl)
      | inr on ↦
          let ne : number ≢ end_line version = grind (arith, nat_tests, on.0) in
          by_steps (λ (d : ℕ × SetupKind). ChainStop version last number before (line ∷ next ∷ others) d) (at number (chain_in last before line)) (λ row. chains_judged version last (number + 1) row.delay (next ∷ others) >>= λ rows. Ok (row ∷ rows)) e
          (λ d refused.
          let a = at_why number (chain_in last before line) d refused in
          chain_now version last number before (line ∷ next ∷ others) d (chain_at (most_chains version) (number - first_line version) last before d.1 line next others (omega arith) (chain_why last before line d.1 a.1)) a.0)
          (λ row ok d refused.
          by_steps (λ (k : ℕ × SetupKind). ChainStop version last number before (line ∷ next ∷ others) k) (chains_judged version last (number + 1) row.delay (next ∷ others)) (λ rows. Ok (row ∷ rows)) d
          (λ k end. chain_later version last number before line (next ∷ others) row k (at_ok number (chain_in last before line) row ok) (chains_stop version last (number + 1) row.delay (next ∷ others) k (omega arith) (omega arith) (omega arith) end))
          (λ rows found k end. absurd cc)
          refused)
          on.1
    ]

-- ---- the whole text

-- a text stops at the line of the tags' length
tag_stops : (version : Version) (text parts : List (List ℕ)) (stream : ℕ) (times : Times) (e : ℕ × SetupKind) → 0 < length parts → IsHead (known version stream times) → text ≡ take 5 (head_lines (known version stream times)) ++ parts → tag_judged version parts ≡ Err e → Stops text e
unfolding tag_judged
tag_stops One text parts stream times e some limits prefix h = absurd cc
tag_stops Two text parts stream times e some limits prefix h =
    by_steps (λ (d : ℕ × SetupKind). Stops text d) (next_line 6 parts) (λ six. at 6 (limited_in (codes "tag") (shortest_tag Two) (longest_tag Two) six.0) >>= λ size. Ok (size, six.1)) e
    (λ d refused. head_stops text 5 (known Two stream times) parts d limits (omega arith) prefix (next_why (why_head 5) 6 parts d some refused))
    (λ six taken d refused.
    by_steps (λ (k : ℕ × SetupKind). Stops text k) (at 6 (limited_in (codes "tag") (shortest_tag Two) (longest_tag Two) six.0)) (λ size. Ok (size, six.1)) d
    (λ k end. head_stops text 5 (known Two stream times) parts k limits (omega arith) prefix (line_why (why_head 5) 6 parts six (limited_in (codes "tag") (shortest_tag Two) (longest_tag Two) six.0) k taken (λ j r. limited_why (codes "tag") (shortest_tag Two) (longest_tag Two) six.0 j r) end))
    (λ size ok k end. absurd cc)
    refused)
    h

-- the line of the tags' length where it isn't refused
tag_spelled : (version : Version) (parts : List (List ℕ)) (x : ℕ × List (List ℕ)) → 0 < length parts → tag_judged version parts ≡ Ok x → (parts ≡ tag_lines version x.0 ++ x.1) × IsTagLength version x.0 × (0 < length x.1)
unfolding tag_judged
tag_spelled One parts x some h =
    let made : ℕ × List (List ℕ) = (longest_tag One, parts) in
    subst (λ (y : ℕ × List (List ℕ)). (parts ≡ tag_lines One y.0 ++ y.1) × IsTagLength One y.0 × (0 < length y.1)) (ok_is made x (Ok made) refl h) (refl, longest_is One, some)
tag_spelled Two parts x some h =
    let six = bind_ok (next_line 6 parts) (λ six. at 6 (limited_in (codes "tag") (shortest_tag Two) (longest_tag Two) six.0) >>= λ size. Ok (size, six.1)) x h in
    let size = bind_ok (at 6 (limited_in (codes "tag") (shortest_tag Two) (longest_tag Two) six.0.0)) (λ size. Ok (size, six.0.1)) x six.2 in
    let said = limited_found (codes "tag") (shortest_tag Two) (longest_tag Two) six.0.0 size.0 (at_ok 6 (limited_in (codes "tag") (shortest_tag Two) (longest_tag Two) six.0.0) size.0 size.1) in
    let taken = line_taken 6 parts six.0 six.1 in
    let made : ℕ × List (List ℕ) = (size.0, six.0.1) in
    subst (λ (y : ℕ × List (List ℕ)). (parts ≡ tag_lines Two y.0 ++ y.1) × IsTagLength Two y.0 × (0 < length y.1)) (ok_is made x (Ok made) refl size.2)
    (grown parts [] parts six.0.1 six.0.0 (codes "tag" ++ 32 ∷ decimal size.0) refl taken.0 said.0, record { shortest = said.1; longest = said.2 }, taken.1)

-- a text stops at a line of its chains
chains_whole : (text others : List (List ℕ)) (head : Parts) (e : ℕ × SetupKind) → IsHead head → text ≡ head_lines head ++ others → 0 < length others → chains_judged head.version head.times.last (first_line head.version) 0 others ≡ Err e → Stops text e
chains_whole text others head e limits prefix some h =
    let first = first_line head.version in
    let bounds = first_bounds head.version in
    let c = chains_stop head.version head.times.last first 0 others e (omega arith) (omega arith) some h in
    let offset = c.place in
    let count : e.0 - first ≡ length c.rows = omega arith in
    let before : suc ((first - 1) + length c.rows) ≡ e.0 = omega (arith, bounds.0) in
    subst (λ (n : ℕ). StopsAt text n e.1) before (inr (record {
      parts = record { version = head.version; stream = head.stream; times = head.times; tag_length = head.tag_length; rows = c.rows };
      limits = record { stream = limits.stream; start = limits.start; times = limits.times; tag_length = limits.tag_length };
      each = c.each;
      rise = rise_is 0 c.rows c.rise;
      keys = c.keys;
      count = omega (arith, bounds.0);
      rest = c.rest;
      spelled = prefix ∙ ap (λ (r : List (List ℕ)). head_lines head ++ r) c.spelled ∙ sym (append_assoc (head_lines head) (map chain_text c.rows) c.rest);
      why = subst (λ (n : ℕ). StopsAtChain (most_chains head.version) n head.times.last (last_delay 0 c.rows) e.1 c.rest) count c.why;
    }))

abbrev pub whole_setup : Version → StreamId → Times → ℕ → List ChainRow → Result Parts (ℕ × SetupKind)
whole_setup version stream times size rows = Ok (record { version = version; stream = stream; times = times; tag_length = size; rows = rows })

-- a text stops behind the lines of the intervals
rest_stops : (version : Version) (text others : List (List ℕ)) (stream : StreamId) (times : Times) (e : ℕ × SetupKind) → 0 < length others → IsHead (known version stream.0 times) → text ≡ take 5 (head_lines (known version stream.0 times)) ++ others → rest_judged version stream times others ≡ Err e → Stops text e
unfolding rest_judged
rest_stops version text others stream times e some limits prefix h =
    by_steps (λ (d : ℕ × SetupKind). Stops text d) (tag_judged version others) (λ tag. chains_judged version times.last (first_line version) 0 tag.1 >>= λ rows. whole_setup version stream times tag.0 rows) e
    (λ d refused. tag_stops version text others stream.0 times d some limits prefix refused)
    (λ tag ok d refused.
    let t = tag_spelled version others tag some ok in
    let head : Parts = record { version = version; stream = stream; times = times; tag_length = tag.0; rows = [] } in
    let whole : text ≡ head_lines head ++ tag.1 = prefix ∙ ap (λ (r : List (List ℕ)). take 5 (head_lines (known version stream.0 times)) ++ r) t.0 in
    by_steps (λ (k : ℕ × SetupKind). Stops text k) (chains_judged version times.last (first_line version) 0 tag.1) (λ rows. whole_setup version stream times tag.0 rows) d
    (λ k stop. chains_whole text tag.1 head k (record { stream = limits.stream; start = limits.start; times = limits.times; tag_length = t.1 }) whole t.2 stop)
    (λ rows are k stop. absurd cc)
    refused)
    h

-- a text within its length that stops is refused there
refused_at : (text : List ℕ) (number : ℕ) (kind : SetupKind) → length text ≤ 4096 → StopsAt (lines text) number kind → IsRefused text number kind
refused_at text zero kind short h = absurd h
refused_at text (suc before) kind short h = (short, h)

-- what is judged of the lines of a text
abbrev pub whole : List (List ℕ) → Result Parts (ℕ × SetupKind)
whole text = opening_judged text >>= λ opening. times_judged opening.2 >>= λ times. rest_judged opening.0 opening.1 times.0 times.1

-- the lines of a text stop where they are refused
lines_stop : (text : List (List ℕ)) (e : ℕ × SetupKind) → 0 < length text → whole text ≡ Err e → Stops text e
lines_stop text e some h =
    by_steps (λ (d : ℕ × SetupKind). Stops text d) (opening_judged text) (λ opening. times_judged opening.2 >>= λ times. rest_judged opening.0 opening.1 times.0 times.1) e
    (λ d refused. opening_stops text d some refused)
    (λ opening ok d refused.
    let o = opening_spelled text opening ok in
    by_steps (λ (k : ℕ × SetupKind). Stops text k) (times_judged opening.2) (λ times. rest_judged opening.0 opening.1 times.0 times.1) d
    (λ k end. times_stops opening.0 text opening.2 opening.1.0 k o.2 o.1 o.0 end)
    (λ times found k end.
    let t = times_spelled_out opening.2 times found in
    let prefix : text ≡ take 5 (head_lines (known opening.0 opening.1.0 times.0)) ++ times.1 = o.0 ∙ ap (λ (r : List (List ℕ)). title opening.0 ∷ stream_line opening.1.0 ∷ r) t.spelled in
    rest_stops opening.0 text times.1 opening.1 times.0 k t.more (record { stream = o.1; start = t.start; times = t.limits; tag_length = longest_is opening.0 }) prefix end)
    refused)
    h

-- a text that is refused at a line has the cause there
pub judged_refused : (text : List ℕ) (number : ℕ) (kind : SetupKind) → judged text ≡ Err (number, kind) → IsRefused text number kind
unfolding judged
judged_refused text number kind h =
    elim (guard_err (ltb 4096 (length text)) (0, TooLong) (whole (lines text)) (number, kind) h) [
      | inl long ↦
          let above : 4096 < length text = grind (arith, nat_tests, long.0) in
          subst (λ (d : ℕ × SetupKind). IsRefused text d.0 d.1) long.1 (refl, above)
      | inr short ↦
          let within : length text ≤ 4096 = grind (arith, nat_tests, short.0) in
          let f = has_first 10 text in
          let some : 0 < length (lines text) = omega (arith, ap (length {A = List ℕ}) f.2) in
          refused_at text number kind within (lines_stop (lines text) (number, kind) some short.1)
    ]
