-- Which words are lag, and its files in order.
use Rattle.std.specs.Prelude.{ℕ, List, [], ◌∷◌, codes}
use Rattle.tesla_desk.specs.Outside.{Opening, OfSource}
use Rattle.tesla_front.specs.Forms.{AreSpelled, NameIs, NumberIs, WordIs}
use Rattle.tesla_run_ask.specs.declared.lag.form.Arguments.{Arguments}

-- its words
abbrev pub usage : List ℕ
usage = codes "lag ASK REPLY KEY DRIFT"

-- the names of the files, and the drift that is allowed for
pub record LagArguments : Type 0 where
  pub ask : List ℕ
  pub reply : List ℕ
  pub key : List ℕ
  pub drift : ℕ

-- what the words that were read ask for
abbrev pub arguments_of : Arguments → LagArguments
arguments_of words = record { ask = words.ask.now; reply = words.reply.now; key = words.key.now; drift = words.drift }

-- the words are the form 'lag ASK REPLY KEY DRIFT'; the names may be the same, since none is written
abbrev pub IsLag : LagArguments → List (List ℕ) → Type 0
IsLag it = AreSpelled (WordIs (codes "lag") ∷ NameIs it.ask ∷ NameIs it.reply ∷ NameIs it.key ∷ NumberIs 0 4294967295 it.drift ∷ [])

-- the files of the command, in the order in which they are opened
abbrev pub files_of_lag : LagArguments → List Opening
files_of_lag arguments = OfSource arguments.ask ∷ OfSource arguments.reply ∷ OfSource arguments.key ∷ []
