-- The disclosure delays of the chains of a setup.
use Rattle.std.specs.Prelude.{◌<◌, ◌≤◌, ℕ, List, [], ◌∷◌, length}
use Rattle.std.specs.Coded.{Unit-prop, le_prop}
use Rattle.tesla_base.specs.Version.{most_chains}
use Rattle.tesla_base.specs.declared.version.Version.{Version}

-- delays of at most 4,096 intervals, each above the one before
abbrev pub RiseAbove : ℕ → List ℕ → Type 0
RiseAbove before [] = Unit {0}
RiseAbove before (delay ∷ delays) = (before < delay) × (delay ≤ 4096) × RiseAbove delay delays

-- there is one proof of that at most
pub RiseAbove-prop : (before : ℕ) (delays : List ℕ) → IsProp (RiseAbove before delays)
RiseAbove-prop before [] = Unit-prop
RiseAbove-prop before (delay ∷ delays) = let others : IsProp (RiseAbove delay delays) = RiseAbove-prop delay delays in Prim.hlevel (others, le_prop)

-- the delays of the chains of a setup of the version
pub record AreDelays (version : Version) (delays : List ℕ) : Type 0 where
  pub some : 1 ≤ length delays
  pub few : length delays ≤ most_chains version
  pub rise : RiseAbove 0 delays
