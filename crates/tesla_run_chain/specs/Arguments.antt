-- Which words are chain and chain2, and their files in order.
use Rattle.std.specs.Prelude.{◌≡◌, ◌≢◌, ◌<◌, ◌^◌, ℕ, List, [], ◌∷◌, ◌++◌, map, codes, decimal}
use Rattle.std.specs.Int.{w64, to_be_bytes}
use Rattle.hex.specs.Hex.{encode_lower}
use Rattle.tesla_base.specs.Version.{IsTagLength}
use Rattle.tesla_base.specs.declared.version.Version.{Version}
use Rattle.tesla_base.specs.declared.version.Version.TheVariants.{One, Two}
use Rattle.tesla_clock.specs.Schedule.{Times, IsSchedule}
use Rattle.tesla_desk.specs.Outside.{Opening, OfSource, OfSink}
use Rattle.tesla_front.specs.Words.{IsName}
use Rattle.tesla_sender_setup.specs.Delays.{AreDelays}
use Rattle.tesla_sender_setup.specs.Parameters.{StreamParameters, parameters_of}
use Rattle.tesla_run_chain.specs.declared.arguments.Arguments.{Arguments}

-- the names of the files, and the parameters of the stream
pub record ChainArguments : Type 0 where
  pub out : List ℕ
  pub secret : List ℕ
  pub parameters : StreamParameters

-- what the words that were read ask for
abbrev pub arguments_of : Arguments → ChainArguments
arguments_of words = record { out = words.out.now; secret = words.secret.now; parameters = parameters_of words.parameters }

-- the command that makes a setup of the version
abbrev pub command_of : Version → List ℕ
command_of One = codes "chain"
command_of Two = codes "chain2"

-- the word of the length of tags, which chain doesn't have
abbrev pub tag_words : Version → ℕ → List (List ℕ)
tag_words One size = []
tag_words Two size = decimal size ∷ []

-- the words behind those of the intervals spell the length of tags and the delays
pub record AreChains (version : Version) (words : List (List ℕ)) (size : ℕ) (list : List ℕ) : Type 0 where
  pub spelled : words ≡ tag_words version size ++ map decimal list
  pub tag_length : IsTagLength version size
  pub delays : AreDelays version list

-- three words spell the intervals
pub record AreTimes (start interval last : List ℕ) (times : Times) : Type 0 where
  pub start_is : start ≡ decimal times.start
  pub interval_is : interval ≡ decimal times.length
  pub last_is : last ≡ decimal times.last
  pub limits : IsSchedule times
  pub fits : times.start < 2 ^ 64

-- the names are names of files, and the output is not the input
pub record AreApart (out secret : List ℕ) : Type 0 where
  pub out_is : IsName out
  pub secret_is : IsName secret
  pub other : out ≢ secret

-- the words are the form 'chain SETUP-OUT SECRET STREAM START INTERVAL LAST DELAY..', with a word TAG before the delays in 'chain2'
pub record IsChain (arguments : ChainArguments) (words : List (List ℕ)) : Type 0 where
  pub start : List ℕ
  pub interval : List ℕ
  pub last : List ℕ
  pub chains : List (List ℕ)
  pub spelled : words ≡ command_of arguments.parameters.version ∷ arguments.out ∷ arguments.secret ∷ encode_lower (to_be_bytes w64 arguments.parameters.stream.0) ∷ start ∷ interval ∷ last ∷ chains
  pub stream : arguments.parameters.stream.0 < 2 ^ 64
  pub times : AreTimes start interval last arguments.parameters.times
  pub delays : AreChains arguments.parameters.version chains arguments.parameters.tag_length arguments.parameters.delays
  pub names : AreApart arguments.out arguments.secret

-- the files of the command, in the order in which they are opened
abbrev pub files_of_chain : ChainArguments → List Opening
files_of_chain arguments = OfSource arguments.secret ∷ OfSink arguments.out ∷ []
