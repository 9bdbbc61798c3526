-- What a feed has put in and dropped, one datagram later.
use Rattle.std.proofs.Common.{◌≡◌, ◌∙◌, ℕ, suc, ◌+◌, ◌-◌, ◌^◌, ◌<◌, ◌≤◌, min, Bool, true, false, List, [], ◌∷◌, ◌++◌, length, refl, sym, ap, subst, arith, append-nil}
use Rattle.std.specs.Arc.{arc_value}
use Rattle.std.specs.List.{AllByRecursion}
use Rattle.std.proofs.lemmas.List.{length-append}
use Rattle.std.proofs.lemmas.List.Concat.{flat_map-append}
use Rattle.tesla_relay.specs.Counts.{counted}
use Rattle.tesla_relay.specs.Feeding.{text_in, texts, Closed, Fed, IsDatagram, IsFeeding, Keeps}
use Rattle.tesla_relay.specs.Line.{numbered_in, put_log}
use Rattle.tesla_relay.proofs.Numbered.{below_later, below_next}
use Rattle.tesla_relay.specs.Relay.{kept_of, dropped_in, DropsBehind}
use Rattle.crossbeam_queue.specs.Passes.{view, IsSamePass, ruled_capacity}
use Rattle.tesla_relay.specs.declared.feed.Feed.{Feed}
use Rattle.tesla_relay.specs.declared.line.Log.{Log}
use Rattle.tesla_relay.specs.declared.line.Item.{Item}
use Rattle.tesla_relay.specs.declared.line.Item.TheVariants.{Datagram, End}

-- ---- marks

kept_one : (marks : List Bool) (arrived : List (List ℕ)) (datagram : List ℕ) → length marks ≡ length arrived → kept_of (marks ++ true ∷ []) (arrived ++ datagram ∷ []) ≡ kept_of marks arrived ++ datagram ∷ []
kept_one [] [] datagram same = refl
kept_one [] (d ∷ arrived) datagram same = absurd (omega (arith, same))
kept_one (m ∷ marks) [] datagram same = absurd (omega (arith, same))
kept_one (true ∷ marks) (d ∷ arrived) datagram same = ap (λ rest. d ∷ rest) (kept_one marks arrived datagram (omega (arith, same)))
kept_one (false ∷ marks) (d ∷ arrived) datagram same = kept_one marks arrived datagram (omega (arith, same))

kept_none : (marks : List Bool) (arrived : List (List ℕ)) (datagram : List ℕ) → length marks ≡ length arrived → kept_of (marks ++ false ∷ []) (arrived ++ datagram ∷ []) ≡ kept_of marks arrived
kept_none [] [] datagram same = refl
kept_none [] (d ∷ arrived) datagram same = absurd (omega (arith, same))
kept_none (m ∷ marks) [] datagram same = absurd (omega (arith, same))
kept_none (true ∷ marks) (d ∷ arrived) datagram same = ap (λ rest. d ∷ rest) (kept_none marks arrived datagram (omega (arith, same)))
kept_none (false ∷ marks) (d ∷ arrived) datagram same = kept_none marks arrived datagram (omega (arith, same))

dropped_one : (marks : List Bool) → dropped_in (marks ++ false ∷ []) ≡ suc (dropped_in marks)
dropped_one [] = refl
dropped_one (true ∷ marks) = dropped_one marks
dropped_one (false ∷ marks) = ap suc (dropped_one marks)

dropped_none : (marks : List Bool) → dropped_in (marks ++ true ∷ []) ≡ dropped_in marks
dropped_none [] = refl
dropped_none (true ∷ marks) = dropped_none marks
dropped_none (false ∷ marks) = ap suc (dropped_none marks)

behind_one : (capacity before : ℕ) (marks : List Bool) → DropsBehind capacity before marks → DropsBehind capacity before (marks ++ true ∷ [])
behind_one capacity before [] behind = tt
behind_one capacity before (true ∷ marks) behind = behind_one capacity (suc before) marks behind
behind_one capacity before (false ∷ marks) behind = (behind.0, behind_one capacity before marks behind.1)

-- a datagram more is dropped behind all that were kept
behind_drop : (capacity before : ℕ) (marks : List Bool) (arrived : List (List ℕ)) → length marks ≡ length arrived → capacity ≤ before + length (kept_of marks arrived) → DropsBehind capacity before marks → DropsBehind capacity before (marks ++ false ∷ [])
behind_drop capacity before [] [] same full behind = (omega (arith, full), tt)
behind_drop capacity before [] (d ∷ arrived) same full behind = absurd (omega (arith, same))
behind_drop capacity before (m ∷ marks) [] same full behind = absurd (omega (arith, same))
behind_drop capacity before (true ∷ marks) (d ∷ arrived) same full behind = behind_drop capacity (suc before) marks arrived (omega (arith, same)) (omega (arith, full)) behind
behind_drop capacity before (false ∷ marks) (d ∷ arrived) same full behind = (behind.0, behind_drop capacity before marks arrived (omega (arith, same)) full behind.1)

-- ---- items

all_more : (items : List Item) (item : Item) → AllByRecursion IsDatagram items → IsDatagram item → AllByRecursion IsDatagram (items ++ item ∷ [])
all_more [] item all is = (is, tt)
all_more (first ∷ items) item all is = (all.0, all_more items item all.1 is)

texts_count : (items : List Item) → AllByRecursion IsDatagram items → length (texts items) ≡ length items
texts_count [] all = refl
texts_count (Datagram number size bytes ∷ items) all = ap suc (texts_count items all.1)
texts_count (End ∷ items) all = absurd all.0

-- one text more
pub texts_more : (items : List Item) (item : Item) (datagram : List ℕ) → text_in item ≡ datagram ∷ [] → texts (items ++ item ∷ []) ≡ texts items ++ datagram ∷ []
texts_more items item datagram is = flat_map-append text_in items (item ∷ []) ∙ ap (λ (own : List (List ℕ)). texts items ++ own) (append-nil (text_in item) ∙ is)

is_datagram : (item : Item) (datagram : List ℕ) → text_in item ≡ datagram ∷ [] → IsDatagram item
is_datagram (Datagram number size bytes) datagram is = tt
is_datagram End datagram is = absurd (omega (arith, ap (λ (l : List (List ℕ)). length l) is))

pub keeps_more : (capacity : ℕ) (arrived : List (List ℕ)) (items : List Item) (dropped : ℕ) (item : Item) (datagram : List ℕ) → text_in item ≡ datagram ∷ [] → Keeps capacity arrived items dropped → Keeps capacity (arrived ++ datagram ∷ []) (items ++ item ∷ []) dropped
keeps_more capacity arrived items dropped item datagram is keeps = record {
  marks = keeps.marks ++ true ∷ [];
  each = length-append keeps.marks (true ∷ []) ∙ ap (λ n. n + 1) keeps.each ∙ sym (length-append arrived (datagram ∷ []));
  full = behind_one capacity 0 keeps.marks keeps.full;
  texts_are = texts_more items item datagram is ∙ ap (λ prefix. prefix ++ datagram ∷ []) keeps.texts_are ∙ sym (kept_one keeps.marks arrived datagram keeps.each);
  whole = all_more items item keeps.whole (is_datagram item datagram is);
  dropped_is = keeps.dropped_is ∙ ap counted (sym (dropped_none keeps.marks));
}

pub keeps_drop : (capacity : ℕ) (arrived : List (List ℕ)) (items : List Item) (dropped more : ℕ) (datagram : List ℕ) → capacity ≤ length items → more ≡ min (dropped + 1) (2 ^ 64 - 1) → Keeps capacity arrived items dropped → Keeps capacity (arrived ++ datagram ∷ []) items more
keeps_drop capacity arrived items dropped more datagram full is keeps =
    let stored : length items ≡ length (kept_of keeps.marks arrived) = sym (texts_count items keeps.whole) ∙ ap length keeps.texts_are in record {
      marks = keeps.marks ++ false ∷ [];
      each = length-append keeps.marks (false ∷ []) ∙ ap (λ n. n + 1) keeps.each ∙ sym (length-append arrived (datagram ∷ []));
      full = behind_drop capacity 0 keeps.marks arrived keeps.each (omega (arith, full, stored)) keeps.full;
      texts_are = keeps.texts_are ∙ sym (kept_none keeps.marks arrived datagram keeps.each);
      whole = keeps.whole;
      dropped_is = is ∙ omega (arith, keeps.dropped_is) ∙ ap counted (sym (dropped_one keeps.marks));
    }

-- ---- feeds

-- a datagram more was put in
pub fed_more : {X : Type 0} (arrived : List (List ℕ)) (old new : Feed X) (item : Item) (datagram : List ℕ) → text_in item ≡ datagram ∷ [] → view new.pass ≡ put_log ((view old.pass).put ++ item ∷ []) → new.capacity ≡ old.capacity → new.dropped ≡ old.dropped → Fed arrived old → Fed (arrived ++ datagram ∷ []) new
fed_more arrived old new item datagram is put capacity dropped fed =
    let items : (view old.pass).put ≡ fed.0 = ap (λ (l : Log). l.put) fed.1 in (
      fed.0 ++ item ∷ [],
      put ∙ ap (λ (is : List Item). put_log (is ++ item ∷ [])) items,
      subst (λ (n : ℕ). Keeps new.capacity (arrived ++ datagram ∷ []) (fed.0 ++ item ∷ []) n) (sym dropped)
          (subst (λ (n : ℕ). Keeps n (arrived ++ datagram ∷ []) (fed.0 ++ item ∷ []) old.dropped) (sym capacity) (keeps_more old.capacity arrived fed.0 old.dropped item datagram is fed.2)),
    )

-- a datagram more was dropped
pub fed_drops : {X : Type 0} (arrived : List (List ℕ)) (old new : Feed X) (datagram : List ℕ) → old.capacity ≤ length (view old.pass).put → view new.pass ≡ view old.pass → new.capacity ≡ old.capacity → new.dropped ≡ min (old.dropped + 1) (2 ^ 64 - 1) → Fed arrived old → Fed (arrived ++ datagram ∷ []) new
fed_drops arrived old new datagram full same capacity dropped fed =
    let items : length (view old.pass).put ≡ length fed.0 = ap (λ (l : Log). length l.put) fed.1 in (
      fed.0,
      same ∙ fed.1,
      subst (λ (n : ℕ). Keeps n (arrived ++ datagram ∷ []) fed.0 new.dropped) (sym capacity) (keeps_drop old.capacity arrived fed.0 old.dropped new.dropped datagram (omega (arith, full, items)) dropped fed.2),
    )

moved : {L I : Type 0} (a b : L) → b ≡ a → (f : L → I) → f b ≡ f a
moved a b same f = ap f same

-- a count one higher, which stands still at the most
pub raised_to : (most old mid new : ℕ) → new ≡ min (mid + 1) most → mid ≡ old → new ≡ min (old + 1) most
raised_to most old mid new is same = is ∙ ap (λ (n : ℕ). min (n + 1) most) same

-- the feed goes on behind an item that was put in
pub feeding_more : {X : Type 0} (old new : Feed X) (item : Item) (datagram : List ℕ) → IsFeeding old → IsSamePass old.pass new.pass → new.line ≡ old.line → new.capacity ≡ old.capacity → old.came < 2 ^ 62 - 2 → new.came ≡ min (old.came + 1) (2 ^ 62 - 2) → numbered_in item ≡ record { number = old.came; bytes = datagram } ∷ []
    → view new.pass ≡ put_log ((view old.pass).put ++ item ∷ []) → IsFeeding new
feeding_more old new item datagram feeding pass line capacity few came is put =
    let items : (view old.pass).put ≡ feeding.items = ap (λ (l : Log). l.put) feeding.view_is in
    let size : length (feeding.items ++ item ∷ []) ≡ length feeding.items + 1 = length-append feeding.items (item ∷ []) in record {
      own = (pass.0 ∙ feeding.own.0 ∙ moved new.line old.line (sym line) (λ l. (arc_value l).table.shared.table_id), pass.2 ∙ feeding.own.1);
      items = feeding.items ++ item ∷ [];
      view_is = put ∙ ap (λ (is : List Item). put_log (is ++ item ∷ [])) items;
      counts = omega (arith, came);
      below = below_next old.came new.came feeding.items item datagram (omega (arith, came, few)) feeding.below is;
      first = omega (arith, came, capacity, size, feeding.first);
      room = ap (λ l. ruled_capacity (arc_value l)) line ∙ feeding.room ∙ ap (λ n. n + 1) (sym capacity);
      few = subst (λ n. n ≤ 4096) (sym capacity) feeding.few;
    }

-- the feed goes on behind a datagram that was dropped
pub feeding_drops : {X : Type 0} (old new : Feed X) → IsFeeding old → IsSamePass old.pass new.pass → new.line ≡ old.line → new.capacity ≡ old.capacity → new.came ≡ min (old.came + 1) (2 ^ 62 - 2) → old.capacity ≤ length (view old.pass).put → view new.pass ≡ view old.pass → IsFeeding new
feeding_drops old new feeding pass line capacity came full same =
    let items : length (view old.pass).put ≡ length feeding.items = ap (λ (l : Log). length l.put) feeding.view_is in record {
      own = (pass.0 ∙ feeding.own.0 ∙ moved new.line old.line (sym line) (λ l. (arc_value l).table.shared.table_id), pass.2 ∙ feeding.own.1);
      items = feeding.items;
      view_is = same ∙ feeding.view_is;
      counts = omega (arith, came);
      below = below_later old.came new.came feeding.items (omega (arith, came, feeding.counts)) feeding.below;
      first = omega (arith, capacity, items, full);
      room = ap (λ l. ruled_capacity (arc_value l)) line ∙ feeding.room ∙ ap (λ n. n + 1) (sym capacity);
      few = subst (λ n. n ≤ 4096) (sym capacity) feeding.few;
    }

-- where as many came as are counted, as many were put in as the queue holds
pub feeding_full : {X : Type 0} (feed : Feed X) → IsFeeding feed → 2 ^ 62 - 2 ≤ feed.came → feed.capacity ≤ length (view feed.pass).put
feeding_full feed feeding many =
    let items : length (view feed.pass).put ≡ length feeding.items = ap (λ (l : Log). length l.put) feeding.view_is in
    omega (arith, items, many, feeding.first, feeding.few)

-- the end was put in
pub fed_closed : {X : Type 0} (arrived : List (List ℕ)) (old new : Feed X) → view new.pass ≡ put_log ((view old.pass).put ++ End ∷ []) → new.capacity ≡ old.capacity → new.dropped ≡ old.dropped → Fed arrived old → Closed arrived new
fed_closed arrived old new put capacity dropped fed = (
  fed.0,
  put ∙ ap (λ (l : Log). put_log (l.put ++ End ∷ [])) fed.1,
  subst (λ (n : ℕ). Keeps new.capacity arrived fed.0 n) (sym dropped) (subst (λ (n : ℕ). Keeps n arrived fed.0 old.dropped) (sym capacity) fed.2),
)
