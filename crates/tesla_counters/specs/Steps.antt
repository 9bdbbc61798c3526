-- The rule of the table, and what each step on it tells. Also what holds of each seat between two calls.
use Rattle.std.specs.Prelude.{◌≡◌, ℕ, ◌≤◌, List, [], slice_index_or, slice_set}
use mathlib.Core.Option.{some}
use lib.ListN.{get_elem?}
use Rattle.atomic_table.specs.Table.{State, Me, Step}
use Rattle.atomic_table.specs.declared.shared.Seat.{Seat}
use Rattle.tesla_counters.specs.declared.view.View.{View}
use Rattle.tesla_counters.specs.Counts.{CountersId, no_counts, NoneFalls}

-- The first seat, the writer's, knows the words, and what any seat has seen is not above them
pub record Ruled (s : State ℕ View) : Type 0 where
  pub first : View
  pub first_at : get_elem? s.views 0 ≡ some first
  pub exact : first.exact ≡ s.words
  pub below : (seat : ℕ) (v : View) → get_elem? s.views seat ≡ some v → NoneFalls v.below s.words

abbrev pub first_view : ℕ → View
first_view n = record { exact = no_counts n; below = [] }

abbrev pub reader_view : List ℕ → View
reader_view counts = record { exact = []; below = counts }

abbrev pub both_views : View → View → View
both_views v w = record { exact = v.exact; below = w.below }

abbrev pub spent_view : View
spent_view = record { exact = []; below = [] }

-- a seat's view, with the slots that it holds
abbrev pub Mine : Type 0
Mine = Me ℕ View

abbrev pub entered : ℕ → Step ℕ → Mine → ℕ → Mine → Type 0
entered count st m n m' = m'.0 ≡ reader_view (no_counts count)

-- the word was set
abbrev pub stored : Step ℕ → Mine → ℕ → Mine → Type 0
stored st m n m' = m' ≡ (record { exact = slice_set m.0.exact st.word n; below = m.0.below }, m.1)

-- the word was read, and is not below what the seat had seen of it
abbrev pub looked : Step ℕ → Mine → ℕ → Mine → Type 0
looked st m n m' = (m' ≡ (record { exact = m.0.exact; below = slice_set m.0.below st.word n }, m.1)) × (slice_index_or m.0.below st.word 0 ≤ n)

-- what the first seat has below the words is below what it knows of them
abbrev pub told : Step ℕ → Mine → ℕ → Mine → Type 0
told st m n m' = (m' ≡ m) × NoneFalls m.0.below m.0.exact

-- the writer's seat: the first one, which knows the counts
pub record IsSetting (z : CountersId) (counts : List ℕ) (seat : Seat ℕ View) : Type 0 where
  pub table : seat.table_id ≡ z
  pub first : seat.id ≡ 0
  pub no_slot : seat.me.1 ≡ []
  pub exact : seat.me.0.exact ≡ counts

-- the reader's seat: it has seen the counts
pub record IsReading (z : CountersId) (counts : List ℕ) (seat : Seat ℕ View) : Type 0 where
  pub table : seat.table_id ≡ z
  pub no_slot : seat.me.1 ≡ []
  pub seen : seat.me.0 ≡ reader_view counts
