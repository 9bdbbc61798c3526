-- Lines that are written to STATUS, one after another.
use Rattle.std.proofs.Common.{◌≡◌, ◌∙◌, inl, inr, ℕ, ◌+◌, ◌*◌, ◌<◌, ◌≤◌, Bool, true, false, List, [], ◌∷◌, ◌++◌, codes, drop, get_or, length, flat_map, Option, Some, None, IfSome, append-nil, append_assoc, refl, sym, ap, subst, arith}
use Rattle.std.specs.List.{AllByRecursion}
use denote.Ref.{Bor}
use Rattle.std.proofs.lemmas.List.{drop_all, drop_more, get_or-map}
use Rattle.std.proofs.lemmas.List.Concat.{flat_map-append}
use Rattle.tesla_counters.specs.Counts.{CountersId, NoneFalls}
use Rattle.tesla_desk.specs.Faults.{HasCause}
use Rattle.tesla_desk.specs.Outside.{AppendsPrefix, with_bytes}
use Rattle.tesla_desk.proofs.Counts.{cause_as, cause_both, cause_none}
use Rattle.tesla_desk.proofs.Told.{appends_none, first_written, prefix_after, prefix_longer, prefix_none, with_more}
use Rattle.tesla_front.specs.Parts.{texts_of}
use Rattle.tesla_status.specs.Lines.{number_text}
use Rattle.tesla_status.specs.Written.{Puts}
use Rattle.tesla_run_receive.specs.declared.watch.line.LineFacts.{LineFacts}
use Rattle.tesla_run_receive.specs.watch.Allowed.{IsNextLine}
use Rattle.tesla_run_receive.specs.watch.Lines.{AddsUp, AreShort, Columns, Counted, Follow, NoneFall, StatusLine, arrivals_at, chains_at, chains_text, columns_of, counted_at, counts_text, first_word, line_at, line_text, none_counted, others_at, others_text, report_at}
use Rattle.tesla_run_receive.specs.watch.Written.{AreNoted, EndsWith, IsMonitored, IsRunning, Notes, WritesStatus, counted_behind}
use Rattle.tesla_run_receive.proofs.watch.Counts.{chains_counted, chains_fall, others_counted, others_fall}

-- ---- text

-- a text was put behind what there was, and then another
pub text_then : (first now later prefix back : List ℕ) → now ≡ first ++ prefix → later ≡ now ++ back → later ≡ first ++ (prefix ++ back)
text_then first now later prefix back once then = then ∙ ap (λ (bytes : List ℕ). bytes ++ back) once ∙ append_assoc first prefix back

-- the numbers of the next chain were put behind what there was, before those of the others
pub chains_next : (now later after : List ℕ) (n : ℕ) (chain : ℕ) (counts : List ℕ) → later ≡ now ++ number_text (codes " chain") chain → after ≡ later ++ number_text (codes "=") n → n ≡ get_or counts chain 0 → chain < length counts
    → after ++ chains_text (chain + 1) (drop (chain + 1) counts) ≡ now ++ chains_text chain (drop chain counts)
unfolding chains_text
chains_next now later after n chain counts once then is below =
    let rest : List ℕ = chains_text (chain + 1) (drop (chain + 1) counts) in
    ap (λ (bytes : List ℕ). bytes ++ rest) (text_then now later after (number_text (codes " chain") chain) (number_text (codes "=") n) once then)
    ∙ append_assoc now (number_text (codes " chain") chain ++ number_text (codes "=") n) rest
    ∙ ap (λ (k : ℕ). now ++ (number_text (codes " chain") chain ++ number_text (codes "=") k ++ rest)) is
    ∙ ap (λ (xs : List ℕ). now ++ chains_text chain xs) (sym (drop_more counts chain 0 below))

-- and then there are no more
pub chains_end : (first now counts : List ℕ) (chain : ℕ) → length counts ≤ chain → now ++ chains_text chain (drop chain counts) ≡ first ++ chains_text 0 counts → now ≡ first ++ chains_text 0 counts
unfolding chains_text
chains_end first now counts chain past all = sym (ap (λ (xs : List ℕ). now ++ chains_text chain xs) (drop_all chain counts past) ∙ append-nil now) ∙ all

-- the next of the further numbers was put behind what there was, before the others
pub others_next : (now first second third name : List ℕ) (n place : ℕ) (names : List (List ℕ)) (counts : List ℕ) → first ≡ now ++ codes " " → second ≡ first ++ name → third ≡ second ++ number_text (codes "=") n → name ≡ get_or names place [] → n ≡ get_or counts place 0
    → place < length names → place < length counts → third ++ others_text (drop (place + 1) names) (drop (place + 1) counts) ≡ now ++ others_text (drop place names) (drop place counts)
unfolding others_text
others_next now first second third name n place names counts one two three named is within below =
    let own : List ℕ = get_or names place [] in
    let rest : List ℕ = others_text (drop (place + 1) names) (drop (place + 1) counts) in
    let more : List ℕ = codes " " ++ name ++ number_text (codes "=") n in
    ap (λ (bytes : List ℕ). bytes ++ rest) (text_then now second third (codes " " ++ name) (number_text (codes "=") n) (text_then now first second (codes " ") name one two) three)
    ∙ append_assoc now more rest
    ∙ ap (λ (bytes : List ℕ). now ++ (codes " " ++ bytes ++ number_text (codes "=") n ++ rest)) named
    ∙ ap (λ (k : ℕ). now ++ (codes " " ++ own ++ number_text (codes "=") k ++ rest)) is
    ∙ ap (λ (ns : List (List ℕ)). now ++ others_text ns (get_or counts place 0 ∷ drop (place + 1) counts)) (sym (drop_more names place [] within))
    ∙ ap (λ (cs : List ℕ). now ++ others_text (drop place names) cs) (sym (drop_more counts place 0 below))

-- and then there are no more
pub others_end : (first now : List ℕ) (names : List (List ℕ)) (counts : List ℕ) (place : ℕ) → length names ≤ place → now ++ others_text (drop place names) (drop place counts) ≡ first ++ others_text names counts → now ≡ first ++ others_text names counts
unfolding others_text
others_end first now names counts place past all = sym (ap (λ (ns : List (List ℕ)). now ++ others_text ns (drop place counts)) (drop_all place names past) ∙ append-nil now) ∙ all

-- a name as it stands in code, its text, and its bytes
module _ (names : List (Bor (List ℕ))) (place : ℕ) (d : Bor (List ℕ)) (below : place < length names) where
  pub name_text : (get_or names place d).now ≡ get_or (texts_of names) place []
  name_text = sym (get_or-map (λ (name : Bor (List ℕ)). name.now) names place d [] below)

  -- there is room for it behind those before
  pub name_fits : (old now : ℕ) → AreShort names → now ≤ old + 65 * place + 1 → old + 325 ≤ 2048 → now + length (get_or names place d).now ≤ 2048
  name_fits old now short few room = let own = short.1 place d below in omega (arith, short.0, own, below, few, room)

  pub name_short : (now later : ℕ) → AreShort names → later ≡ now + length (get_or names place d).now → later ≤ now + 12
  name_short now later short is = let own = short.1 place d below in omega (arith, own, is)

-- a whole line, part by part
module _ (facts : LineFacts) (chains : ℕ) (counts : List ℕ) where
  abbrev front : List ℕ
  front = number_text (first_word facts.is_last) facts.time ++ number_text (codes " arrivals=") (arrivals_at counts)

  abbrev middle : List ℕ
  middle = front ++ counts_text (report_at counts) ++ chains_text 0 (chains_at chains counts)

  pub front_is : (start first later : List ℕ) (arrivals : ℕ) → start ≡ [] → first ≡ start ++ number_text (first_word facts.is_last) facts.time → later ≡ first ++ number_text (codes " arrivals=") arrivals → arrivals ≡ arrivals_at counts → later ≡ front
  front_is start first later arrivals none reading put is =
      let begun : first ≡ number_text (first_word facts.is_last) facts.time = reading ∙ ap (λ (bytes : List ℕ). bytes ++ number_text (first_word facts.is_last) facts.time) none in
      put ∙ ap (λ (bytes : List ℕ). bytes ++ number_text (codes " arrivals=") arrivals) begun ∙ ap (λ (n : ℕ). number_text (first_word facts.is_last) facts.time ++ number_text (codes " arrivals=") n) is

  pub middle_is : (before first later some : List ℕ) → before ≡ front → first ≡ before ++ counts_text (report_at counts) → later ≡ first ++ chains_text 0 some → some ≡ chains_at chains counts → later ≡ middle
  middle_is before first later some begun counted put are =
      let whole : first ≡ front ++ counts_text (report_at counts) = counted ∙ ap (λ (bytes : List ℕ). bytes ++ counts_text (report_at counts)) begun in
      put ∙ ap (λ (bytes : List ℕ). bytes ++ chains_text 0 some) whole ∙ ap (λ (xs : List ℕ). front ++ counts_text (report_at counts) ++ chains_text 0 xs) are

  pub line_is : (names : List (List ℕ)) (before first second third last some : List ℕ) (held failed : ℕ) → before ≡ middle → first ≡ before ++ number_text (codes " held=") held → held ≡ facts.held_readings → second ≡ first ++ number_text (codes " failedsinks=") failed → failed ≡ facts.failed_sinks
      → third ≡ second ++ others_text names some → some ≡ others_at counts → last ≡ third ++ codes "\n" → last ≡ line_text names (line_at facts chains counts)
  unfolding line_text
  line_is names before first second third last some held failed begun put is then are others behind ended =
      let one : first ≡ middle ++ number_text (codes " held=") facts.held_readings = put ∙ ap (λ (bytes : List ℕ). bytes ++ number_text (codes " held=") held) begun ∙ ap (λ (n : ℕ). middle ++ number_text (codes " held=") n) is in
      let two : second ≡ middle ++ number_text (codes " held=") facts.held_readings ++ number_text (codes " failedsinks=") facts.failed_sinks =
      then ∙ ap (λ (bytes : List ℕ). bytes ++ number_text (codes " failedsinks=") failed) one ∙ ap (λ (n : ℕ). middle ++ number_text (codes " held=") facts.held_readings ++ number_text (codes " failedsinks=") n) are in
      let three : third ≡ middle ++ number_text (codes " held=") facts.held_readings ++ number_text (codes " failedsinks=") facts.failed_sinks ++ others_text names (others_at counts) =
      others ∙ ap (λ (bytes : List ℕ). bytes ++ others_text names some) two ∙ ap (λ (xs : List ℕ). middle ++ number_text (codes " held=") facts.held_readings ++ number_text (codes " failedsinks=") facts.failed_sinks ++ others_text names xs) behind in
      ended ∙ ap (λ (bytes : List ℕ). bytes ++ codes "\n") three

-- ---- numbers that don't fall

falls_then : (a b c : Counted) → NoneFall a b → NoneFall b c → NoneFall a c
falls_then a b c first second = record {
  arrivals = omega (arith, first.arrivals, second.arrivals);
  malformed = omega (arith, first.malformed, second.malformed);
  foreign = omega (arith, first.foreign, second.foreign);
  misfit = omega (arith, first.misfit, second.misfit);
  future = omega (arith, first.future, second.future);
  badkey = omega (arith, first.badkey, second.badkey);
  late = omega (arith, first.late, second.late);
  repeat = omega (arith, first.repeat, second.repeat);
  full = omega (arith, first.full, second.full);
  kept = omega (arith, first.kept, second.kept);
  keys = omega (arith, first.keys, second.keys);
  given = omega (arith, first.given, second.given);
  chains = λ chain. let one = first.chains chain in let two = second.chains chain in omega (arith, one, two);
  others = λ place. let one = first.others place in let two = second.others place in omega (arith, one, two);
}

-- from counts that don't fall no number does that is made of them
falls_at : (chains : ℕ) (before now : List ℕ) → NoneFalls before now → NoneFall (counted_at chains before) (counted_at chains now)
falls_at chains before now falls = record {
  arrivals = omega (arith, falls 0, falls 1, falls 2, falls 3, falls 4, falls 5, falls 6, falls 7, falls 8, falls 9);
  malformed = falls 0;
  foreign = falls 1;
  misfit = falls 2;
  future = falls 3;
  badkey = falls 4;
  late = falls 5;
  repeat = falls 6;
  full = falls 7;
  kept = falls 8;
  keys = falls 9;
  given = falls 10;
  chains = chains_fall chains before now falls;
  others = others_fall before now falls;
}

falls_not : (chains : ℕ) (counts : List ℕ) → NoneFall (counted_at chains counts) (counted_at chains counts)
falls_not chains counts = falls_at chains counts counts (λ place. omega arith)

falls_none : (chains : ℕ) (counts : List ℕ) → NoneFall none_counted (counted_at chains counts)
falls_none chains counts =
    let it = falls_at chains [] counts (λ place. omega arith) in
    record {
      arrivals = it.arrivals;
      malformed = it.malformed;
      foreign = it.foreign;
      misfit = it.misfit;
      future = it.future;
      badkey = it.badkey;
      late = it.late;
      repeat = it.repeat;
      full = it.full;
      kept = it.kept;
      keys = it.keys;
      given = it.given;
      chains = λ chain. omega arith;
      others = λ place. omega arith;
    }

-- ---- one line more

follow_more : (columns : Columns) (before : Counted) (lines : List StatusLine) (line : StatusLine) → Follow columns before lines → AllByRecursion IsRunning lines → AddsUp line.counted.report → length line.counted.chains ≡ columns.chains → length line.counted.others ≡ length columns.names
    → NoneFall (counted_behind before lines) line.counted → Follow columns before (lines ++ line ∷ [])
follow_more columns before [] line follow running adds size others falls = (adds, size, others, falls, λ last. refl, tt)
follow_more columns before (first ∷ lines) line follow running adds size others falls =
    (follow.0, follow.1, follow.2, follow.3, λ last. absurd (let clash : false ≡ true = sym running.0 ∙ last in cc), follow_more columns first.counted lines line follow.5 running.1 adds size others falls)

running_more : (lines : List StatusLine) (line : StatusLine) → AllByRecursion IsRunning lines → line.is_last ≡ false → AllByRecursion IsRunning (lines ++ line ∷ [])
running_more [] line running is = (is, tt)
running_more (first ∷ lines) line running is = (running.0, running_more lines line running.1 is)

behind_more : (before : Counted) (lines : List StatusLine) (line : StatusLine) → counted_behind before (lines ++ line ∷ []) ≡ line.counted
behind_more before [] line = refl
behind_more before (first ∷ lines) line = behind_more first.counted lines line

-- counts that don't fall are not below the numbers behind lines that were noted
falls_behind : (chains : ℕ) (earlier counts : List ℕ) (lines : List StatusLine) → NoneFall (counted_behind none_counted lines) (counted_at chains earlier) → NoneFalls earlier counts → NoneFall (counted_behind none_counted lines) (counted_at chains counts)
falls_behind chains earlier counts lines within falls = falls_then (counted_behind none_counted lines) (counted_at chains earlier) (counted_at chains counts) within (falls_at chains earlier counts falls)

-- what a sink that was new has is what was written to it
has_written : (fresh written : Option (List ℕ)) (bytes : List ℕ) → IfSome fresh (λ prefix. prefix ≡ []) → written ≡ with_bytes fresh bytes → IfSome written (λ held. held ≡ bytes)
has_written fresh None bytes empty is = tt
has_written fresh (Some held) bytes empty is = first_written fresh (Some held) bytes held empty is refl

-- the columns, and counts for them
module _ (columns : Columns) (few : columns.chains ≤ 8) (facts : LineFacts) (earlier counts : List ℕ) (size : length counts ≡ 19 + length columns.names) where
  abbrev text : List StatusLine → List ℕ
  text lines = flat_map (line_text columns.names) lines

  abbrev line : StatusLine
  line = line_at facts columns.chains counts

  text_more : (lines : List StatusLine) → text (lines ++ line ∷ []) ≡ text lines ++ line_text columns.names line
  text_more lines = flat_map-append (line_text columns.names) lines (line ∷ []) ∙ ap (λ (bytes : List ℕ). text lines ++ bytes) (append-nil (line_text columns.names line))

  -- lines that were noted, and the line of these counts
  module _ (before old : Option (List ℕ)) (first faults : ℕ) (was : Bool) (noted : Notes columns earlier before old first faults was) where
    abbrev lines_more : List StatusLine
    lines_more = noted.lines ++ line ∷ []

    follows : NoneFalls earlier counts → Follow columns none_counted lines_more
    follows falls = follow_more columns none_counted noted.lines line noted.follow noted.running refl (chains_counted columns.chains (length columns.names) counts few size) (others_counted (length columns.names) counts size) (falls_behind columns.chains earlier counts noted.lines noted.within falls)

    ends_more : facts.is_last ≡ true → EndsWith (counted_at columns.chains counts) lines_more
    ends_more last = record { prefix = noted.lines; last = line; lines_are = refl; running = noted.running; is_last = last; counted_is = refl }

    -- where nothing more was written, there is a prefix of them as there was
    prefix_still : AppendsPrefix before old (text lines_more)
    prefix_still = subst (λ (bytes : List ℕ). AppendsPrefix before old bytes) (sym (text_more noted.lines)) (prefix_longer before old (text noted.lines) (line_text columns.names line) noted.prefix)

  -- the line of these counts was put behind what was noted
  module _ (before old new : Option (List ℕ)) (first faults count : ℕ) (noted : Notes columns earlier before old first faults false) where
    written_more : new ≡ with_bytes old (line_text columns.names line) → new ≡ with_bytes before (text (noted.lines ++ line ∷ []))
    written_more put = with_more before old new (text noted.lines) (line_text columns.names line) (noted.all refl) put ∙ ap (λ (bytes : List ℕ). with_bytes before bytes) (sym (text_more noted.lines))

    prefix_more : AppendsPrefix old new (line_text columns.names line) → AppendsPrefix before new (text (noted.lines ++ line ∷ []))
    prefix_more put = subst (λ (bytes : List ℕ). AppendsPrefix before new bytes) (sym (text_more noted.lines)) (prefix_after before old new (text noted.lines) (line_text columns.names line) (noted.all refl) put)

    caused : (failed : Bool) → HasCause faults count (failed ≡ true) → HasCause first count (failed ≡ true)
    caused failed cause = cause_both first faults count noted.cause cause (λ is. inr is) (λ either. elim either [ inl never ↦ absurd cc | inr is ↦ is ])

  pub notes_more : (before old new : Option (List ℕ)) (first faults count : ℕ) (was is : Bool) → facts.is_last ≡ false → Notes columns earlier before old first faults was → NoneFalls earlier counts
      → Puts (line_text columns.names line) old new faults count was is → Notes columns counts before new first count is
  notes_more before old new first faults count true is running noted falls puts =
      let still = puts.still refl in
      record {
        lines = noted.lines;
        running = noted.running;
        follow = noted.follow;
        within = falls_behind columns.chains earlier counts noted.lines noted.within falls;
        all = λ no. absurd (let clash : true ≡ false = sym still.0 ∙ no in cc);
        prefix = subst (λ (w : Option (List ℕ)). AppendsPrefix before w (text noted.lines)) (sym still.1) noted.prefix;
        cause = subst (λ (n : ℕ). HasCause first n (is ≡ true)) (sym still.2) (cause_as first faults noted.cause (λ e. refl) (λ e. still.0));
      }
  notes_more before old new first faults count false is running noted falls puts = record {
    lines = lines_more before old first faults false noted;
    running = running_more noted.lines line noted.running running;
    follow = follows before old first faults false noted falls;
    within = subst (λ (counted : Counted). NoneFall counted (counted_at columns.chains counts)) (sym (behind_more none_counted noted.lines line)) (falls_not columns.chains counts);
    all = λ no. written_more before old new first faults count noted (puts.all no).1;
    prefix = prefix_more before old new first faults count noted (puts.prefix refl);
    cause = caused before old new first faults count noted is (puts.cause refl);
  }

  -- a sink that was new has the lines that were noted, and then one more
  pub are_more : (old new : Option (List ℕ)) (faults count : ℕ) (was is : Bool) → facts.is_last ≡ false → AreNoted columns earlier old faults was → NoneFalls earlier counts → Puts (line_text columns.names line) old new faults count was is → AreNoted columns counts new count is
  are_more old new faults count was is running are falls puts = record { before = are.before; empty = are.empty; noted = notes_more are.before old new 0 faults count was is running are.noted falls puts }

  -- the line of counts that didn't fall, at a reading that a clock gave, comes next while the sink hasn't failed
  pub next_line : (gave : ℕ → Bool) (old : Option (List ℕ)) (faults : ℕ) (was : Bool) → AreNoted columns earlier old faults was → was ≡ false → NoneFalls earlier counts → gave facts.time ≡ true → IsNextLine gave columns old (line_text columns.names line)
  next_line gave old faults was are still falls given = record {
    lines = are.noted.lines;
    line = line;
    piece_is = refl;
    written_is = has_written are.before old (text are.noted.lines) are.empty (are.noted.all still);
    follow = follows are.before old 0 faults was are.noted falls;
    given = given;
  }

  -- the last line
  pub writes_last : (before old new : Option (List ℕ)) (faults count : ℕ) (was is : Bool) → facts.is_last ≡ true → IfSome before (λ bytes. bytes ≡ []) → Notes columns earlier before old 0 faults was → NoneFalls earlier counts
      → Puts (line_text columns.names line) old new faults count was is → WritesStatus columns (counted_at columns.chains counts) before new count is
  writes_last before old new faults count true is last empty noted falls puts =
      let still = puts.still refl in
      record {
        lines = lines_more before old 0 faults true noted;
        follow = follows before old 0 faults true noted falls;
        ends = ends_more before old 0 faults true noted last;
        empty = empty;
        all = λ no. absurd (let clash : true ≡ false = sym still.0 ∙ no in cc);
        prefix = subst (λ (w : Option (List ℕ)). AppendsPrefix before w (text (lines_more before old 0 faults true noted))) (sym still.1) (prefix_still before old 0 faults true noted);
        cause = subst (λ (n : ℕ). HasCause 0 n (is ≡ true)) (sym still.2) (cause_as 0 faults noted.cause (λ e. refl) (λ e. still.0));
      }
  writes_last before old new faults count false is last empty noted falls puts = record {
    lines = lines_more before old 0 faults false noted;
    follow = follows before old 0 faults false noted falls;
    ends = ends_more before old 0 faults false noted last;
    empty = empty;
    all = λ no. written_more before old new 0 faults count noted (puts.all no).1;
    prefix = prefix_more before old new 0 faults count noted (puts.prefix refl);
    cause = caused before old new 0 faults count noted is (puts.cause refl);
  }

-- ---- before the first line

module _ (columns : Columns) (counts : List ℕ) where
  -- nothing was noted
  notes_none : (before : Option (List ℕ)) (faults : ℕ) → Notes columns counts before before faults faults false
  notes_none before faults = record {
    lines = [];
    running = tt;
    follow = tt;
    within = falls_none columns.chains counts;
    all = λ none. appends_none before;
    prefix = prefix_none before [];
    cause = cause_none faults faults refl (λ e. absurd cc);
  }

  -- nothing was noted to a sink that is new
  pub are_new : (fresh : Option (List ℕ)) (faults : ℕ) (failed : Bool) → IfSome fresh (λ bytes. bytes ≡ []) → faults ≡ 0 → failed ≡ false → AreNoted columns counts fresh faults failed
  are_new fresh faults failed empty none still = record {
    before = fresh;
    empty = empty;
    noted = subst (λ (is : Bool). Notes columns counts fresh fresh 0 faults is) (sym still) (subst (λ (n : ℕ). Notes columns counts fresh fresh 0 n false) (sym none) (notes_none fresh 0));
  }

-- ---- a monitor

-- columns of the same chains and names
pub columns_same : (chains others : ℕ) (names more : List (Bor (List ℕ))) → chains ≡ others → names ≡ more → columns_of others more ≡ columns_of chains names
columns_same chains others names more same named = sym (ap (λ (n : ℕ). columns_of n names) same ∙ ap (λ (ns : List (Bor (List ℕ))). columns_of others ns) named)

module _ {name named : List ℕ} {counters own : CountersId} {columns seen : Columns} {counts : List ℕ} {written : Option (List ℕ)} {faults : ℕ} {failed : Bool} where
  -- a sink that is new, to which nothing was written yet
  pub monitored_none : IfSome written (λ bytes. bytes ≡ []) → faults ≡ 0 → failed ≡ false → named ≡ name → own ≡ counters → seen ≡ columns → IsMonitored name counters columns named own seen counts written faults failed
  monitored_none empty none still name_is counters_are columns_are =
      let are = are_new seen counts written faults failed empty none still in
      record { before = are.before; empty = are.empty; noted = are.noted; name_is = name_is; counters_are = counters_are; columns_are = columns_are }

  -- what was noted of it
  pub are_noted : IsMonitored name counters columns named own seen counts written faults failed → AreNoted seen counts written faults failed
  are_noted is = record { before = is.before; empty = is.empty; noted = is.noted }
