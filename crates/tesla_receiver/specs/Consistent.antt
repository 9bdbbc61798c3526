-- What is so of every state that stands for a history.
use Rattle.std.specs.Prelude.{◌≡◌, ℕ, ◌+◌, ◌<◌, ◌≤◌, true, false, List, [], ◌∷◌, length, filter, find, Some, slice_get, count_by}
use Rattle.tesla_walks.specs.declared.release.Release.{Release}
use Rattle.tesla_state.specs.declared.report.Report.{Report}
use Rattle.tesla_walks.specs.Holding.{Holding}
use Rattle.tesla_state.specs.State.{State}
use Rattle.tesla_state.specs.Steps.{is_released, is_let_go, in_interval, is_numbered}

-- the first packet's number is n or above, and each further one's is above the one before
abbrev pub RisesFrom : ℕ → List Holding → Type 0
RisesFrom n [] = Unit {0}
RisesFrom n (item ∷ held) = (n ≤ item.order) × RisesFrom (item.order + 1) held

-- the packet of a release is held, released and not taken
pub record IsWaiting (held : List Holding) (release : Release) : Type 0 where
  pub item : Holding
  pub found : find (is_numbered release.place) held ≡ Some item
  pub name : item.name ≡ release.name
  pub released : item.released ≡ true
  pub taken : item.taken ≡ false

-- the counts of the verdicts are as many as the arrivals
abbrev pub IsCounted : Report → Type 0
IsCounted r = r.malformed + r.foreign + r.misfit + r.future + r.badkey + r.late + r.repeat + r.full + r.kept + r.keys ≡ r.arrivals

pub record IsConsistent (s : State) : Type 0 where
  -- a newest key for each chain, and a flag for each ingest
  pub tips : length s.tips ≡ length s.config.setup.rows
  pub ended : length s.ended ≡ s.config.ingests
  pub counted : IsCounted s.counts
  -- no more arrived and was given than events were
  pub entered : s.counts.arrivals + s.counts.given ≤ s.calls
  -- no more packets than places, nor more of an interval than its quota
  pub few : length s.held ≤ s.config.capacity
  pub quota : (interval : ℕ) → count_by (in_interval interval) s.held ≤ s.config.quota
  -- the packets stand in order of arrival
  pub rise : RisesFrom 0 s.held
  pub numbered : (k : ℕ) (item : Holding) → slice_get s.held k ≡ Some item → item.order < s.counts.arrivals
  -- none could be let go, and none was taken that isn't released
  pub stays : (k : ℕ) (item : Holding) → slice_get s.held k ≡ Some item → is_let_go s.config s.tips [] item ≡ false
  pub taken : (k : ℕ) (item : Holding) → slice_get s.held k ≡ Some item → item.taken ≡ true → item.released ≡ true
  -- no two that are released have one name
  pub names : (j k : ℕ) (a b : Holding) → slice_get s.held j ≡ Some a → slice_get s.held k ≡ Some b → a.released ≡ true → b.released ≡ true → a.name ≡ b.name → j ≡ k
  -- each release that waits is that of a held packet, and no two are of one
  pub waiting : (k : ℕ) (release : Release) → slice_get s.waiting k ≡ Some release → IsWaiting s.held release
  pub once : (j k : ℕ) (a b : Release) → slice_get s.waiting j ≡ Some a → slice_get s.waiting k ≡ Some b → a.place ≡ b.place → j ≡ k
  pub few_waiting : length s.waiting ≤ length (filter is_released s.held)
