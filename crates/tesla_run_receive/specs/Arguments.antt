-- Which words are receive, and what is opened in order.
use Rattle.std.specs.Prelude.{◌≡◌, ◌≢◌, ℕ, ℤ, List, [], ◌∷◌, length, map, ◌≤◌, codes, FitsSigned}
use Rattle.std.specs.Fmt.{signed_decimal}
use Rattle.std.specs.Int.{w64}
use Rattle.tesla_desk.specs.Outside.{Opening, OfSource}
use Rattle.tesla_front.specs.Words.{IsName, ArePacketLimits}
use Rattle.tesla_front.specs.declared.words.PacketLimits.{PacketLimits}
use Rattle.tesla_front.specs.Names.{AreNames}
use Rattle.tesla_session.specs.Wanted.{Wanted, opening_for, wanted_for}
use Rattle.tesla_run_receive.specs.declared.arguments.Arguments.{Arguments}

-- the names of the setup, of the links and of the sinks, the lag, and how many packets are held at most
pub record ReceiveArguments : Type 0 where
  pub setup : List ℕ
  pub lag : ℤ
  pub limits : PacketLimits
  pub links : List (List ℕ)
  pub sinks : List (List ℕ)

-- what the words that were read ask for
abbrev pub arguments_of : Arguments → ReceiveArguments
arguments_of words =
    record { setup = words.setup.now; lag = words.lag; limits = words.limits; links = words.links; sinks = words.sinks }

-- none of the names is this one
abbrev pub AreOthers : List ℕ → List (List ℕ) → Type 0
AreOthers name [] = Unit {0}
AreOthers name (other ∷ others) = (other ≢ name) × AreOthers name others

-- the words are the form 'receive SETUP LAG CAPACITY LINKS SINKS'
pub record IsReceive (arguments : ReceiveArguments) (words : List (List ℕ)) : Type 0 where
  pub capacity : List ℕ
  pub links : List ℕ
  pub sinks : List ℕ
  pub spelled : words ≡ codes "receive" ∷ arguments.setup ∷ signed_decimal arguments.lag ∷ capacity ∷ links ∷ sinks ∷ []
  pub lag : FitsSigned w64 arguments.lag
  pub limits : ArePacketLimits capacity arguments.limits
  pub setup : IsName arguments.setup
  pub links_are : AreNames links arguments.links
  pub sinks_are : AreNames sinks arguments.sinks
  -- no output is the input
  pub outputs : AreOthers arguments.setup arguments.sinks

-- the workers that the words ask for: of the links, and then of the sinks
abbrev pub workers_wanted : ReceiveArguments → List Wanted
workers_wanted arguments = wanted_for arguments.links arguments.sinks

-- there are 1 to 32 links and sinks
pub record AreFew (arguments : ReceiveArguments) : Type 0 where
  pub some_links : 1 ≤ length arguments.links
  pub few_links : length arguments.links ≤ 32
  pub some_sinks : 1 ≤ length arguments.sinks
  pub few_sinks : length arguments.sinks ≤ 32

-- what is opened, in order: the setup, the links and the sinks
abbrev pub files_of_receive : ReceiveArguments → List Opening
files_of_receive arguments = OfSource arguments.setup ∷ map opening_for (workers_wanted arguments)
