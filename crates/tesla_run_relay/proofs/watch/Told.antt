-- What is written to STATUS, line by line, and what its page holds once it is closed.
use Rattle.std.proofs.Common.{◌≡◌, ◌∙◌, inl, inr, ℕ, suc, ◌+◌, ◌<◌, Bool, true, false, List, [], ◌∷◌, ◌++◌, drop, flat_map, get_or, length, map, take, Option, Some, None, IfSome, append-nil, append_assoc, refl, sym, ap, subst, arith}
use Rattle.std.proofs.lemmas.List.{length-map}
use Rattle.std.proofs.lemmas.List.Concat.{flat_map-append}
use Rattle.tesla_desk.specs.Outside.{page_of, with_bytes}
use Rattle.tesla_desk.proofs.Told.{first_written}
use Rattle.tesla_relay.proofs.Mails.{failed_is}
use Rattle.tesla_relay.specs.declared.relayed.PostCount.{PostCount}
use Rattle.tesla_relay.specs.declared.tally.SoFar.{SoFar}
use Rattle.tesla_status.specs.Written.{Puts, PutsAll}
use Rattle.tesla_status.proofs.Written.{puts_more, puts_none}
use Rattle.tesla_run_relay.proofs.Counted.{one_left}
use Rattle.tesla_run_relay.specs.watch.Allowed.{IsNextTally}
use Rattle.tesla_run_relay.specs.watch.Lines.{Follow, NoneFalls, TallyLine, counts_behind, end_text, last_text, no_counts, numbers_of, time_text}
use Rattle.tesla_run_relay.specs.watch.Written.{HasAllTold, HasTold, HoldsLines, HoldsStatus}

-- ---- numbers that don't fall

pub none_falls : (counts : List SoFar) → NoneFalls counts counts
none_falls [] = tt
none_falls (count ∷ counts) = (omega arith, omega arith, none_falls counts)

falls_then : (a b c : List SoFar) → NoneFalls a b → NoneFalls b c → NoneFalls a c
falls_then [] [] [] first second = tt
falls_then [] [] (z ∷ c) first second = absurd second
falls_then [] (y ∷ b) c first second = absurd first
falls_then (x ∷ a) [] c first second = absurd first
falls_then (x ∷ a) (y ∷ b) [] first second = absurd second
falls_then (x ∷ a) (y ∷ b) (z ∷ c) first second = (omega (arith, first.0, second.0), omega (arith, first.1, second.1), falls_then a b c first.2 second.2)

-- they are of as many posts
pub falls_size : (a b : List SoFar) → NoneFalls a b → length b ≡ length a
falls_size [] [] falls = refl
falls_size [] (y ∷ b) falls = absurd falls
falls_size (x ∷ a) [] falls = absurd falls
falls_size (x ∷ a) (y ∷ b) falls = ap (λ (n : ℕ). suc n) (falls_size a b falls.2)

-- ---- the numbers that a relay came to

pub next_numbers : (counts : List PostCount) (k : ℕ) (count : PostCount) (old pushed now : List SoFar) → ((d : PostCount) → count ≡ get_or counts k d) → k < length counts → pushed ≡ old ++ numbers_of count ∷ [] → now ≡ pushed ++ map numbers_of (drop (k + 1) counts) → now ≡ old ++ map numbers_of (drop k counts)
next_numbers counts k count old pushed now is within one rest =
    let behind : List SoFar = map numbers_of (drop (k + 1) counts) in
    rest ∙ ap (λ (cs : List SoFar). cs ++ behind) one
    ∙ append_assoc old (numbers_of count ∷ []) behind
    ∙ ap (λ (cs : List PostCount). old ++ map numbers_of cs) (sym (one_left counts k count is within))

-- ---- one line more

follow_more : (before : List SoFar) (lines : List TallyLine) (line : TallyLine) → Follow before lines → NoneFalls (counts_behind before lines) line.counts → Follow before (lines ++ line ∷ [])
follow_more before [] line follow falls = (falls, tt)
follow_more before (first ∷ lines) line follow falls = (follow.0, follow_more first.counts lines line follow.1 falls)

behind_more : (before : List SoFar) (lines : List TallyLine) (line : TallyLine) → counts_behind before (lines ++ line ∷ []) ≡ line.counts
behind_more before [] line = refl
behind_more before (first ∷ lines) line = behind_more first.counts lines line

text_more : (lines : List TallyLine) (line : TallyLine) → flat_map time_text (lines ++ line ∷ []) ≡ flat_map time_text lines ++ time_text line
text_more lines line = flat_map-append time_text lines (line ∷ []) ∙ ap (λ (bytes : List ℕ). flat_map time_text lines ++ bytes) (append-nil (time_text line))

-- nothing was told yet
pub told_none : (posts : ℕ) (told : List SoFar) (written : Option (List ℕ)) (faults : ℕ) → IfSome written (λ bytes. bytes ≡ []) → faults ≡ 0 → told ≡ no_counts posts → HasTold posts told written faults false
told_none posts told written faults empty none is = record {
  before = written;
  empty = empty;
  lines = [];
  follow = tt;
  within = subst (λ (counts : List SoFar). NoneFalls (no_counts posts) counts) (sym is) (none_falls (no_counts posts));
  puts = puts_none written faults none;
}

module _ (posts : ℕ) (told : List SoFar) (old new : Option (List ℕ)) (faults count : ℕ) (was is : Bool) (has : HasTold posts told old faults was) where
  -- a line of counts that didn't fall was put
  pub told_more : (line : TallyLine) → NoneFalls told line.counts → Puts (time_text line) old new faults count was is → HasTold posts line.counts new count is
  told_more line falls puts = record {
    before = has.before;
    empty = has.empty;
    lines = has.lines ++ line ∷ [];
    follow = follow_more (no_counts posts) has.lines line has.follow (falls_then (counts_behind (no_counts posts) has.lines) told line.counts has.within falls);
    within = subst (λ (counts : List SoFar). NoneFalls counts line.counts) (sym (behind_more (no_counts posts) has.lines line)) (none_falls line.counts);
    puts = subst (λ (text : List ℕ). PutsAll text has.before new count is) (sym (text_more has.lines line)) (puts_more (flat_map time_text has.lines) (time_text line) has.before old new faults count was is has.puts puts);
  }

  -- the last line was put
  pub told_all : (line : TallyLine) (counts : List PostCount) → line.counts ≡ map numbers_of counts → Puts (end_text line) old new faults count was is → HasAllTold posts (Some counts) new count is
  told_all line counts numbers puts = record {
    before = has.before;
    empty = has.empty;
    lines = has.lines;
    follow = has.follow;
    last = Some line;
    tells = numbers;
    puts = puts_more (flat_map time_text has.lines) (end_text line) has.before old new faults count was is has.puts puts;
  }

-- there is no last line
pub told_alone : (posts : ℕ) (told : List SoFar) (written : Option (List ℕ)) (faults : ℕ) (failed : Bool) → HasTold posts told written faults failed → HasAllTold posts None written faults failed
told_alone posts told written faults failed has = record {
  before = has.before;
  empty = has.empty;
  lines = has.lines;
  follow = has.follow;
  last = None;
  tells = tt;
  puts = subst (λ (text : List ℕ). PutsAll text has.before written faults failed) (sym (append-nil (flat_map time_text has.lines))) has.puts;
}

-- ---- the next line

-- what an output that was new has is what was written to it
has_written : (fresh written : Option (List ℕ)) (bytes : List ℕ) → IfSome fresh (λ prefix. prefix ≡ []) → written ≡ with_bytes fresh bytes → IfSome written (λ held. held ≡ bytes)
has_written fresh None bytes empty is = tt
has_written fresh (Some held) bytes empty is = first_written fresh (Some held) bytes held empty is refl

module _ (gave : ℕ → Bool) (posts : ℕ) (told : List SoFar) (old : Option (List ℕ)) (faults : ℕ) (was : Bool) (has : HasTold posts told old faults was) (still : was ≡ false) (line : TallyLine) (given : gave line.time ≡ true) where
  -- a line of counts that didn't fall comes next while the output hasn't failed
  pub next_time : NoneFalls told line.counts → IsNextTally gave posts old (time_text line)
  next_time falls = record {
    lines = has.lines;
    written_is = has_written has.before old (flat_map time_text has.lines) has.empty (has.puts.all still);
    follow = has.follow;
    line = line;
    given = given;
    next = inl (refl, falls_then (counts_behind (no_counts posts) has.lines) told line.counts has.within falls);
  }

  -- and so does the last one
  pub next_last : length line.counts ≡ posts → IsNextTally gave posts old (end_text line)
  next_last size = record {
    lines = has.lines;
    written_is = has_written has.before old (flat_map time_text has.lines) has.empty (has.puts.all still);
    follow = has.follow;
    line = line;
    given = given;
    next = inr (refl, size);
  }

-- there are as many numbers as counts
pub numbers_size : (posts : ℕ) (counts : List PostCount) (numbers : List SoFar) → posts ≡ length counts → numbers ≡ map numbers_of counts → length numbers ≡ posts
numbers_size posts counts numbers size is = ap (λ (ns : List SoFar). length ns) is ∙ length-map counts numbers_of ∙ sym size

-- ---- its page

holds_lines : (posts : ℕ) (counts : Option (List PostCount)) (faults : ℕ) (failed : Bool) (bytes : List ℕ) → HasAllTold posts counts (Some bytes) faults failed → HoldsLines posts counts failed bytes
holds_lines posts counts faults false bytes has = record {
  lines = has.lines;
  follow = has.follow;
  last = has.last;
  tells = has.tells;
  bytes_are = first_written has.before (Some bytes) (flat_map time_text has.lines ++ last_text has.last) bytes has.empty (has.puts.all refl) refl;
}
holds_lines posts counts faults true bytes has = record {
  lines = has.lines;
  follow = has.follow;
  last = has.last;
  tells = has.tells;
  prefix = (has.puts.prefix.0, first_written has.before (Some bytes) (take has.puts.prefix.0 (flat_map time_text has.lines ++ last_text has.last)) bytes has.empty has.puts.prefix.1.written refl);
}

pub holds_status : (posts : ℕ) (counts : Option (List PostCount)) (written : Option (List ℕ)) (faults : ℕ) (failed : Bool) → HasAllTold posts counts written faults failed → HoldsStatus posts counts failed (page_of written faults)
holds_status posts counts None faults failed has = tt
holds_status posts counts (Some bytes) faults failed has = (failed_is failed 0 faults refl has.puts.cause, holds_lines posts counts faults failed bytes has)
