-- Counts of faults, and causes. Counts never fall, they stand still at the end of their type, and a failure is answered exactly where one rose.
use Rattle.std.specs.Prelude.{◌≡◌, ◌⊎◌, ℕ, ◌+◌, ◌-◌, ◌^◌, ◌<◌, ◌≤◌, if◌then◌else◌, nat_lt}

-- a count after one fault more: it stands still at the end of its type
abbrev pub raised : ℕ → ℕ
raised n = if nat_lt n (2 ^ 64 - 1) then n + 1 else n

-- a count of objects that failed, after an object with this many faults was closed
abbrev pub raised_where_failed : ℕ → ℕ → ℕ
raised_where_failed faults n = if nat_lt 0 faults then raised n else n

-- the count rose, or stood at the end of its type
abbrev pub Rose : ℕ → ℕ → Type 0
Rose before now = (before < now) ⊎ (2 ^ 64 - 1 ≤ before)

-- the count has not fallen; where the call failed it rose, and else it is as before
pub record HasCause (before now : ℕ) (failed : Type 0) : Type 0 where
  pub stays : before ≤ now
  pub rose : failed → Rose before now
  pub still : (failed → ⊥) → now ≡ before

-- the same of a call behind which another failure may stand that isn't told
pub record HasCauseBeside (hidden : Type 0) (before now : ℕ) (failed : Type 0) : Type 0 where
  pub stays : before ≤ now
  pub rose : failed → Rose before now
  pub still : (failed → ⊥) → (hidden → ⊥) → now ≡ before

-- how many sources and links, sinks and posts, and openings of a desk failed
pub record Faults : Type 0 where
  pub reads : ℕ
  pub writes : ℕ
  pub openings : ℕ

-- nothing failed yet
abbrev pub no_faults : Faults
no_faults = record { reads = 0; writes = 0; openings = 0 }

-- what an opening does to the counts of its desk
pub record CountsOpening (before now : Faults) (failed : Type 0) : Type 0 where
  pub reads : now.reads ≡ before.reads
  pub writes : now.writes ≡ before.writes
  pub openings : HasCause before.openings now.openings failed

-- the counts after the closing of a source with this many faults
abbrev pub after_source : Faults → ℕ → Faults
after_source before faults = record before { reads = raised_where_failed faults before.reads }

-- the counts after the closing of a sink with this many faults
abbrev pub after_sink : Faults → ℕ → Faults
after_sink before faults = record before { writes = raised_where_failed faults before.writes }

-- each failure raised its count, and no other count rose
pub record HasCauses (before now : Faults) (read write opening : Type 0) : Type 0 where
  pub reads : HasCause before.reads now.reads read
  pub writes : HasCause before.writes now.writes write
  pub openings : HasCause before.openings now.openings opening

-- the same of calls among which a write may have failed that isn't told
pub record HasCausesBeside (hidden : Type 0) (before now : Faults) (read write opening : Type 0) : Type 0 where
  pub reads : HasCause before.reads now.reads read
  pub writes : HasCauseBeside hidden before.writes now.writes write
  pub openings : HasCause before.openings now.openings opening
