-- Which words are a command that plays a capture, and its files in order. It plays it under a setup.
use Rattle.std.specs.Prelude.{◌≡◌, ◌≢◌, ℕ, ℤ, List, [], ◌∷◌, codes, FitsSigned}
use Rattle.std.specs.Fmt.{signed_decimal}
use Rattle.std.specs.Int.{w64}
use Rattle.tesla_desk.specs.Outside.{Opening, OfSource, OfSink}
use Rattle.tesla_front.specs.Words.{IsName, IsNumberWithin, ArePacketLimits}
use Rattle.tesla_front.specs.declared.words.PacketLimits.{PacketLimits}
use Rattle.tesla_run_replay.specs.declared.arguments.Arguments.{Arguments}
use Rattle.tesla_run_replay.specs.declared.arguments.Capacity.{Capacity}
use Rattle.tesla_run_replay.specs.declared.arguments.Capacity.TheVariants as capacities
use Rattle.tesla_run_replay.specs.declared.arguments.Form.{Form}

-- the form of such a command: its name, and what the word CAPACITY may be
pub record PlayedForm : Type 0 where
  pub name : List ℕ
  pub capacity : Capacity

-- that which is told
abbrev pub form_of : Form → PlayedForm
form_of form = record { name = form.name.now; capacity = form.capacity }

-- the form of a command of that name whose CAPACITY may have a slash
abbrev pub limits_form : List ℕ → PlayedForm
limits_form name = record { name = name; capacity = capacities.PacketLimits }

-- the word spells how many packets are held at most
abbrev pub IsCapacity : Capacity → List ℕ → PacketLimits → Type 0
IsCapacity capacities.PacketLimits word limits = ArePacketLimits word limits
IsCapacity (capacities.Whole most) word limits = IsNumberWithin 1 most word limits.capacity × (limits.quota ≡ limits.capacity)

-- the names are names of files, and the output is neither of the inputs
pub record AreNames (setup capture out : List ℕ) : Type 0 where
  pub setup_is : IsName setup
  pub capture_is : IsName capture
  pub out_is : IsName out
  pub not_setup : out ≢ setup
  pub not_capture : out ≢ capture

-- the names of the files, the lag, and how many packets are held at most
pub record PlayedArguments : Type 0 where
  pub setup : List ℕ
  pub lag : ℤ
  pub limits : PacketLimits
  pub capture : List ℕ
  pub out : List ℕ

-- what the words that were read ask for
abbrev pub arguments_of : Arguments → PlayedArguments
arguments_of words =
    record { setup = words.names.setup.now; lag = words.lag; limits = words.limits; capture = words.names.capture.now; out = words.names.out.now }

-- its files, in the order in which they are opened
abbrev pub files_of : PlayedArguments → List Opening
files_of arguments = OfSource arguments.setup ∷ OfSource arguments.capture ∷ OfSink arguments.out ∷ []

-- the words are the form 'NAME SETUP LAG CAPACITY CAPTURE OUT'
pub record IsPlayed (form : PlayedForm) (arguments : PlayedArguments) (words : List (List ℕ)) : Type 0 where
  pub capacity : List ℕ
  pub spelled : words ≡ form.name ∷ arguments.setup ∷ signed_decimal arguments.lag ∷ capacity ∷ arguments.capture ∷ arguments.out ∷ []
  pub lag : FitsSigned w64 arguments.lag
  pub limits : IsCapacity form.capacity capacity arguments.limits
  pub names : AreNames arguments.setup arguments.capture arguments.out

-- what the words of replay ask for
abbrev pub ReplayArguments : Type 0
ReplayArguments = PlayedArguments

-- the words are the form 'replay SETUP LAG CAPACITY CAPTURE OUT'
abbrev pub IsReplay : ReplayArguments → List (List ℕ) → Type 0
IsReplay = IsPlayed (limits_form (codes "replay"))
