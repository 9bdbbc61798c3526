-- The clock of a run that sends to posts.
use Rattle.std.proofs.Common.{◌≡◌, ◌∙◌, ℕ, Option, Some, None, List, [], sym, ap, arith}
use Rattle.std.specs.Option.{option_map}
use Rattle.tesla_desk.specs.Clocks.{Gives, Ticking}
use Rattle.tesla_desk.specs.Faults.{raised}
use Rattle.tesla_desk.specs.Live.{Live, clock_told}
use Rattle.tesla_desk.specs.Outside.{MakesClock, Opening, Told}
use Rattle.tesla_desk.proofs.Given.{first_readings}
use Rattle.tesla_front.specs.Openings.{Opens}
use Rattle.tesla_relay.specs.Clocks.{ReadWhere}
use Rattle.tesla_relay.proofs.Openings.{opens_still}

-- the readings that it gave are the first of the next clock
pub read_where : (readings : List ℕ) (all : Option (ℕ → List ℕ)) (made : Option ℕ) (after : Option Ticking) → Gives readings (clock_told all made) after → ReadWhere readings all made
read_where readings None made after gives = tt
read_where readings (Some all) None after gives = tt
read_where readings (Some all) (Some made) after gives = λ few. first_readings readings (record { ahead = all made; given = [] }) after (omega (arith, few)) gives

-- ---- what is as before

-- where all is, all but the number of clocks is
pub live_alone : (before now : Live) → now ≡ before → now ≡ record before { made = now.made }
live_alone before now same = same ∙ ap (λ (made : Option ℕ). let it : Live = record before { made = made } in it) (sym (ap (λ (l : Live). l.made) same))

module _ (before mid now : Told) (makes : MakesClock mid now) where
  -- behind the making of a clock all but the number of clocks is
  pub clock_alone : mid.live ≡ before.live → now.live ≡ record before.live { made = now.live.made }
  clock_alone same = ap (λ (t : Told). t.live) makes.same ∙ ap (λ (l : Live). let it : Live = record l { made = now.live.made } in it) same

  -- and one more was made
  pub clock_made : mid.live ≡ before.live → now.live.made ≡ option_map raised before.live.made
  clock_made same = makes.counted ∙ ap (λ (l : Live). option_map raised l.made) same

  -- nothing more was opened
  pub clock_opens : (files : List Opening) (opened : ℕ) → Opens files opened before mid → Opens files opened before now
  clock_opens files opened opens =
      opens_still files opened before mid now opens (ap (λ (t : Told). t.openings) makes.same) (λ name. ap (λ (t : Told). t.page name) makes.same) (λ name. ap (λ (t : Told). t.left name) makes.same)
