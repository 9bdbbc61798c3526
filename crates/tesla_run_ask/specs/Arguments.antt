-- Which words are ask and reply, and their files in order.
use Rattle.std.specs.Prelude.{ℕ, List, [], ◌∷◌, codes}
use Rattle.tesla_desk.specs.Outside.{Opening, OfSource, OfSink}
use Rattle.tesla_front.specs.Forms.{AreSpelled, NameIs, NumberIs, WordIs}
use Rattle.tesla_front.specs.Names.{IsNoneOf}
use Rattle.tesla_run_ask.specs.declared.arguments.AskWords.{AskWords}
use Rattle.tesla_run_ask.specs.declared.arguments.ReplyWords.{ReplyWords}

-- the words of each form, in the order in which they are told
abbrev pub usages : List (List ℕ)
usages = codes "ask READING ASK-OUT" ∷ codes "reply ASK KEY READING REPLY-OUT" ∷ []

-- ---- ask

-- the receiver's time, and the name of the output
pub record AskArguments : Type 0 where
  pub reading : ℕ
  pub out : List ℕ

-- what the words that were read ask for
abbrev pub ask_arguments : AskWords → AskArguments
ask_arguments words = record { reading = words.reading; out = words.out.now }

-- the words are the form 'ask READING ASK-OUT'
abbrev pub IsAskForm : AskArguments → List (List ℕ) → Type 0
IsAskForm it = AreSpelled (WordIs (codes "ask") ∷ NumberIs 0 18446744073709551615 it.reading ∷ NameIs it.out ∷ [])

-- the file of the command
abbrev pub files_of_ask : AskArguments → List Opening
files_of_ask arguments = OfSink arguments.out ∷ []

-- ---- reply

-- the names of the inputs, the sender's time, and the name of the output
pub record ReplyArguments : Type 0 where
  pub ask : List ℕ
  pub key : List ℕ
  pub reading : ℕ
  pub out : List ℕ

-- what the words that were read ask for
abbrev pub reply_arguments : ReplyWords → ReplyArguments
reply_arguments words = record { ask = words.ask.now; key = words.key.now; reading = words.reading; out = words.out.now }

-- the words are the form 'reply ASK KEY READING REPLY-OUT'
pub record IsReplyForm (it : ReplyArguments) (words : List (List ℕ)) : Type 0 where
  pub spelled : AreSpelled (WordIs (codes "reply") ∷ NameIs it.ask ∷ NameIs it.key ∷ NumberIs 0 18446744073709551615 it.reading ∷ NameIs it.out ∷ []) words
  -- the output is none of the inputs
  pub apart : IsNoneOf it.out (it.ask ∷ it.key ∷ [])

-- the files of the command, in the order in which they are opened
abbrev pub files_of_reply : ReplyArguments → List Opening
files_of_reply arguments = OfSource arguments.ask ∷ OfSource arguments.key ∷ OfSink arguments.out ∷ []
