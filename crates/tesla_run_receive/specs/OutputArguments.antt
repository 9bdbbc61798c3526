-- Which words are a command with one output more.
use Rattle.std.specs.Prelude.{◌≡◌, ◌≢◌, ℕ, List, [], ◌∷◌, codes}
use Rattle.tesla_front.specs.Words.{IsName, IsNumberWithin}
use Rattle.tesla_run_receive.specs.Arguments.{ReceiveArguments, IsReceive, AreOthers}
use Rattle.tesla_run_receive.specs.Arguments as receiving
use Rattle.tesla_run_receive.specs.declared.output_arguments.OutputWords.{OutputWords}
use Rattle.tesla_run_receive.specs.declared.output_form.Order.{Order}
use Rattle.tesla_run_receive.specs.declared.output_form.Order.TheVariants.{NumberFirst, OutputFirst}

-- what the words of receive ask for, the name of the output, and a number
pub record OutputArguments : Type 0 where
  pub receive : ReceiveArguments
  pub output : List ℕ
  pub number : ℕ

-- what the words that were read ask for
abbrev pub arguments_of : OutputWords → OutputArguments
arguments_of words = record { receive = receiving.arguments_of words.receive; output = words.output.now; number = words.number }

-- the last two words, in the order in which they stand
abbrev pub last_words : Order → List ℕ → List ℕ → List (List ℕ)
last_words NumberFirst output number = number ∷ output ∷ []
last_words OutputFirst output number = output ∷ number ∷ []

-- the words are the form 'NAME SETUP LAG CAPACITY LINKS SINKS' and two more, of which one is the output and the other a number from 1 to the greatest
pub record IsOutputForm (name : List ℕ) (greatest : ℕ) (order : Order) (arguments : OutputArguments) (words : List (List ℕ)) : Type 0 where
  pub lag : List ℕ
  pub capacity : List ℕ
  pub links : List ℕ
  pub sinks : List ℕ
  pub number : List ℕ
  pub spelled : words ≡ name ∷ arguments.receive.setup ∷ lag ∷ capacity ∷ links ∷ sinks ∷ last_words order arguments.output number
  -- but for the last two they ask for what those of receive ask for
  pub received : IsReceive arguments.receive (codes "receive" ∷ arguments.receive.setup ∷ lag ∷ capacity ∷ links ∷ sinks ∷ [])
  pub numbered : IsNumberWithin 1 greatest number arguments.number
  pub named : IsName arguments.output
  -- no output is the input, and none is opened twice
  pub not_setup : arguments.output ≢ arguments.receive.setup
  pub not_sink : AreOthers arguments.output arguments.receive.sinks
