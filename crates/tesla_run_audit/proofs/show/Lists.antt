-- One entry after another is listed.
use Rattle.std.proofs.Common.{◌≡◌, ◌∙◌, inl, inr, ℕ, zero, suc, ◌≤◌, ◌<◌, ◌+◌, Option, Some, None, List, [], ◌∷◌, ◌++◌, length, true, refl, sym, ap, subst, arith, append_assoc, append-nil}
use Rattle.tesla_capture.specs.Gathering.{Gathers}
use Rattle.tesla_desk.specs.Outside.{AppendsPrefix}
use Rattle.tesla_desk.proofs.Told.{appends_none, prefix_longer}
use Rattle.tesla_records.specs.Grammar.{Grammar, IsGrammar, limit}
use Rattle.tesla_records.specs.Found.{AwaitsAt}
use Rattle.tesla_records.specs.Records.{AtEnd, Refuses, dropped_by, parsed_head, next_at, record_offset, refusal_by}
use Rattle.tesla_records.specs.Steps.{GivesRecord, LeavesFrom, MovesHead, Progress, ReadsHead, ahead, pending}
use Rattle.tesla_records.specs.declared.refusal.Refusal.{Refusal}
use Rattle.tesla_records.specs.declared.refusal.Refusal.TheVariants.{BadHead, Truncated, TooLarge, BadRecord}
use Rattle.tesla_trace.specs.declared.kind.TraceKind.{TraceKind}
use Rattle.tesla_trace.specs.declared.kind.TraceKind.TheVariants as kinds
use Rattle.tesla_run_audit.specs.show.Numbered.{IsAt, IsListed, IsListedSoFar, numbered}
use Rattle.tesla_run_audit.specs.show.Steps.{GoesUp, IsListedTo, Lists, ListedSoFar, ListsOne, PutsText}
use Rattle.tesla_run_audit.specs.declared.show.listing.Listed.{Listed}
use Rattle.tesla_run_audit.specs.declared.show.listing.Listed.TheVariants as listed
use Rattle.tesla_run_audit.proofs.show.Heads.{bad_head}
use Rattle.tesla_run_audit.proofs.show.Listed.{at_end, at_fault, at_prefix, at_next, at_refused, at_start, record_some}
use Rattle.tesla_run_audit.proofs.show.Shown.{puts_both}

-- what is dropped doesn't depend on what a kind is called
same_drop : {K L : Type 0} (f : K → L) (at : ℕ) (refusal : Refusal K) → dropped_by at refusal ≡ dropped_by at (refusal_by f refusal)
same_drop f at BadHead = refl
same_drop f at Truncated = refl
same_drop f at TooLarge = refl
same_drop f at (BadRecord kind) = refl

-- nothing was put
nothing_put : (written : Option (List ℕ)) (held : List ℕ) → Gathers written written held (held ++ [])
nothing_put written held = record { done = []; written = appends_none written; both = append-nil held }

no_bytes : (bytes prefix rest : List ℕ) → bytes ≡ prefix ++ rest → length prefix ≡ 0 → bytes ≡ rest
no_bytes bytes [] rest e none = e
no_bytes bytes (b ∷ prefix) rest e none = absurd cc

module _ (G : Grammar) (is : IsGrammar G) (line : ℕ → G.Record → List ℕ) (number : Option G.Head → ℕ) (kind_of : Refusal G.Kind → TraceKind) where
  -- where a place is refused for the head, all of the file is ahead
  headless_ahead : (rest : List ℕ) (now : ℕ) (left : Option (List ℕ)) → LeavesFrom G 0 0 rest now left → now ≡ 0 → left ≡ Some rest
  headless_ahead rest now left (after, is_left, inl same) start = is_left ∙ ap (λ (r : List ℕ). Some r) same.1
  headless_ahead rest now left (after, is_left, inr (first, at, head, limits, parts)) start = let some = is.head_some in absurd (omega (arith, start, at, some))

  bad_ahead : (offset : ℕ) (rest : List ℕ) (at : ℕ) (refusal : Refusal G.Kind) (left : Option (List ℕ)) → refusal ≡ BadHead → offset ≡ 0 → at ≡ 0 → LeavesFrom G (dropped_by at refusal) offset rest at left → left ≡ Some rest
  bad_ahead offset rest at refusal left bad start first leaves =
      headless_ahead rest at left (subst (λ (p : ℕ). LeavesFrom G 0 p rest at left) start (subst (λ (r : Refusal G.Kind). LeavesFrom G (dropped_by at r) offset rest at left) bad leaves)) first

  start_text : (bytes : List ℕ) (head : Option G.Head) (offset count : ℕ) (before : Option (List ℕ)) (text : List ℕ) → (at : IsAt G line number bytes head offset count before text) → offset ≡ 0 → text ≡ []
  start_text bytes head offset count before text at start = at.text_is ∙ ap (numbered line (number head)) (at.fresh start)

  start_rest : (bytes : List ℕ) (head : Option G.Head) (offset count : ℕ) (before : Option (List ℕ)) (text : List ℕ) → (at : IsAt G line number bytes head offset count before text) → offset ≡ 0 → bytes ≡ at.rest
  start_rest bytes head offset count before text at start = no_bytes bytes at.taken.prefix at.rest at.taken.whole (at.taken.size ∙ start)

  -- what a refused place leaves, whatever its kind is called
  pub leaves_by : {K : Type 0} (f : K → G.Kind) (at offset : ℕ) (rest : List ℕ) (left : Option (List ℕ)) (refusal : Refusal K) → LeavesFrom G (dropped_by at refusal) offset rest at left → LeavesFrom G (dropped_by at (refusal_by f refusal)) offset rest at left
  leaves_by f at offset rest left refusal leaves = subst (λ (n : ℕ). LeavesFrom G n offset rest at left) (same_drop f at refusal) leaves

  -- a place is refused
  refused_to : (bytes : List ℕ) (head : Option G.Head) (offset count : ℕ) (before left : Option (List ℕ)) (text : List ℕ) (where_at : ℕ) (refusal : Refusal G.Kind) (kind : TraceKind) → (kind ≡ kinds.BadHead → refusal ≡ BadHead) → kind_of refusal ≡ kind
      → (at : IsAt G line number bytes head offset count before text) → next_at G offset at.rest ≡ Refuses where_at refusal → LeavesFrom G (dropped_by where_at refusal) offset at.rest where_at left → IsListedTo G line number kind_of bytes where_at kind left text
  refused_to bytes head offset count before left text where_at refusal kind bad_is kind_is at next leaves = record {
    refusal = refusal;
    kind_is = sym kind_is;
    listed = at_refused G is line number bytes head offset count before text where_at refusal at next;
    headless = λ e.
        let bad = bad_is e in
        let it = bad_head G is offset at.rest where_at (next ∙ ap (λ (r : Refusal G.Kind). Refuses where_at r) bad) in
        let rest = start_rest bytes head offset count before text at it.0 in
        (ap (λ (b : List ℕ). parsed_head (G.parse_head b)) rest ∙ it.2, bad_ahead offset at.rest where_at refusal left bad it.0 it.1 leaves ∙ ap (λ (b : List ℕ). Some b) (sym rest), start_text bytes head offset count before text at it.0);
  }

  offset_rises : (offset now : ℕ) (it : G.Record) → now ≡ record_offset G offset + length (G.record_text it) → G.IsRecord it → offset < now
  offset_rises zero now it e limits = let some = is.head_some in omega (arith, e, some)
  offset_rises (suc offset) now it e limits = let some = record_some G is line number it limits in omega (arith, e, some)

  -- after an entry the reader goes on
  pub goes_up : (before after : Progress G.Head) (it : G.Record) → after.place ≡ record_offset G before.place + length (G.record_text it) → G.IsRecord it → after.place ≤ limit → after.going ≡ true → GoesUp before after
  goes_up before after it moved limits within going = record { rises = offset_rises before.place after.place it moved limits; limited = within; going = going }

  module _ (before after : Progress G.Head) (count : ℕ) (left_before left : Option (List ℕ)) where
    -- a step gave this entry, told what was ahead
    pub record Gave (given : G.Record) : Type 0 where
      pub gives : (rest : List ℕ) → ahead before left_before ≡ Some rest → GivesRecord G given before.place rest after.place (ahead after left)
      pub moved : after.place ≡ record_offset G before.place + length (G.record_text given)
      pub heads : MovesHead G before.place before.head after.place after.head
      pub head : (rest : List ℕ) → ahead before left_before ≡ Some rest → ReadsHead G before.place rest after.place after.head

    one_at : (given : G.Record) → Gave given → (bytes so_far : List ℕ) → IsAt G line number bytes before.head before.place count (ahead before left_before) so_far
        → IsAt G line number bytes after.head after.place (suc count) (ahead after left) (so_far ++ line (number after.head + count) given)
    one_at given gave bytes so_far at =
        at_next G is line number bytes before.head after.head before.place after.place count (ahead before left_before) (ahead after left) so_far given at (gave.gives at.rest at.ahead_is) gave.moved gave.heads (gave.head at.rest at.ahead_is)

    -- its line was put
    pub one_listed : (given : G.Record) (text : List ℕ) (written now : Option (List ℕ)) (held rest : List ℕ) → Gave given → line (number after.head + count) given ≡ text → Gathers written now rest (held ++ text) → ListsOne G line number kind_of None before after count left_before left written now held rest
    one_listed given text written now held rest gave text_is gathers = record {
      text = text;
      puts = gathers;
      is = λ bytes so_far at. subst (λ (t : List ℕ). IsAt G line number bytes after.head after.place (suc count) (ahead after left) (so_far ++ t)) text_is (one_at given gave bytes so_far at);
    }

    -- a write failed
    pub one_broke : (given : G.Record) (text : List ℕ) (written now : Option (List ℕ)) (held rest : List ℕ) → Gave given → line (number after.head + count) given ≡ text → AppendsPrefix written now held → ListsOne G line number kind_of (Some listed.WriteFault) before after count left_before left written now held rest
    one_broke given text written now held rest gave text_is prefix = record {
      text = text;
      puts = prefix_longer written now held text prefix;
      is = λ bytes so_far at.
          at_prefix G is line number bytes after.head after.place (suc count) (ahead after left) (so_far ++ text)
          (subst (λ (t : List ℕ). IsAt G line number bytes after.head after.place (suc count) (ahead after left) (so_far ++ t)) text_is (one_at given gave bytes so_far at));
    }

    nothing_more : (so_far : List ℕ) → so_far ≡ so_far ++ []
    nothing_more so_far = sym (append-nil so_far)

    -- the file ended
    pub one_ended : (written : Option (List ℕ)) (held : List ℕ) → ((rest : List ℕ) → ahead before left_before ≡ Some rest → next_at G before.place rest ≡ AtEnd) → ListsOne G line number kind_of (Some listed.End) before after count left_before left written written held held
    one_ended written held ends = record {
      text = [];
      puts = nothing_put written held;
      is = λ bytes so_far at.
          subst (λ (t : List ℕ). IsListed G line number bytes None t) (nothing_more so_far) (at_end G is line number bytes before.head before.place count (ahead before left_before) so_far at (ends at.rest at.ahead_is));
    }

    -- a place is refused
    pub one_refused : (offset : ℕ) (kind : TraceKind) (refusal : Refusal G.Kind) (written : Option (List ℕ)) (held : List ℕ) → (kind ≡ kinds.BadHead → refusal ≡ BadHead) → kind_of refusal ≡ kind → after.place ≡ offset
        → ((rest : List ℕ) → ahead before left_before ≡ Some rest → (next_at G before.place rest ≡ Refuses offset refusal) × LeavesFrom G (dropped_by offset refusal) before.place rest offset (ahead after left))
        → ListsOne G line number kind_of (Some (listed.Refused offset kind)) before after count left_before left written written held held
    one_refused offset kind refusal written held bad kind_is at_is gives = record {
      text = [];
      puts = nothing_put written held;
      is = λ bytes so_far at.
          let it = gives at.rest at.ahead_is in
          subst (λ (t : List ℕ). IsListedTo G line number kind_of bytes offset kind (ahead after left) t) (nothing_more so_far)
          (refused_to bytes before.head before.place count (ahead before left_before) (ahead after left) so_far offset refusal kind bad kind_is at it.0 it.1);
    }

    -- a read failed
    pub one_fault : (written : Option (List ℕ)) (held : List ℕ) → ((rest : List ℕ) → ahead before left_before ≡ Some rest → LeavesFrom G 0 before.place rest after.place (ahead after left)) → MovesHead G before.place before.head after.place after.head
        → ((rest : List ℕ) → ahead before left_before ≡ Some rest → ReadsHead G before.place rest after.place after.head) → AwaitsAt G after.place (pending after) → ListsOne G line number kind_of (Some listed.ReadFault) before after count left_before left written written held held
    one_fault written held gives heads head awaits = record {
      text = [];
      puts = nothing_put written held;
      is = λ bytes so_far at.
          subst (λ (t : List ℕ). IsListedSoFar G line number bytes left t) (nothing_more so_far)
          (at_fault G is line number bytes before.head after.head before.place after.place count (ahead before left_before) (pending after) left so_far at (gives at.rest at.ahead_is) heads (head at.rest at.ahead_is) awaits);
    }

  -- nothing was listed yet
  pub far_start : (at : Progress G.Head) (left written : Option (List ℕ)) (held : List ℕ) → at.place ≡ 0 → at.head ≡ None → ListedSoFar G line number kind_of at 0 (ahead at left) left written written held held
  far_start at left written held start none = record {
    text = [];
    puts = nothing_put written held;
    is = λ bytes e. at_start G is line number bytes at.head at.place (ahead at left) start none e;
  }

  -- one entry more was listed
  pub far_next : (at next : Progress G.Head) (count : ℕ) (before left_before left written between now : Option (List ℕ)) (held waiting rest : List ℕ) (told : Option Listed) → told ≡ None → ListedSoFar G line number kind_of at count before left_before written between held waiting
      → ListsOne G line number kind_of told at next count left_before left between now waiting rest → ListedSoFar G line number kind_of next (count + 1) before left written now held rest
  far_next at next count before left_before left written between now held waiting rest told none far one =
      let it : ListsOne G line number kind_of None at next count left_before left between now waiting rest = subst (λ (t : Option Listed). ListsOne G line number kind_of t at next count left_before left between now waiting rest) none one in
      record {
        text = far.text ++ it.text;
        puts = subst (λ (t : List ℕ). Gathers written now rest t) (append_assoc held far.text it.text) (puts_both listed.End written between now waiting rest (held ++ far.text) it.text far.puts it.puts);
        is = λ bytes e. subst (λ (n : ℕ). IsAt G line number bytes next.head next.place n (ahead next left) (far.text ++ it.text)) (let one_more : suc count ≡ count + 1 = omega arith in one_more) (it.is bytes far.text (far.is bytes e));
      }

  -- the file was listed to there
  pub far_stops : (at next : Progress G.Head) (count : ℕ) (before left_before left written between now : Option (List ℕ)) (held waiting rest : List ℕ) (told : Option Listed) (outcome : Listed) → told ≡ Some outcome → ListedSoFar G line number kind_of at count before left_before written between held waiting
      → ListsOne G line number kind_of told at next count left_before left between now waiting rest → Lists G line number kind_of outcome before (ahead next left) left written now held rest
  far_stops at next count before left_before left written between now held waiting rest told outcome some far one =
      let it : ListsOne G line number kind_of (Some outcome) at next count left_before left between now waiting rest = subst (λ (t : Option Listed). ListsOne G line number kind_of t at next count left_before left between now waiting rest) some one in
      record {
        text = far.text ++ it.text;
        puts = subst (λ (t : List ℕ). PutsText outcome written now rest t) (append_assoc held far.text it.text) (puts_both outcome written between now waiting rest (held ++ far.text) it.text far.puts it.puts);
        is = λ bytes e. it.is bytes far.text (far.is bytes e);
      }
