-- Which words are capture, and what is opened in order.
use Rattle.std.specs.Prelude.{ℕ, List, [], ◌∷◌, codes}
use Rattle.tesla_desk.specs.Outside.{Opening, OfLink, OfSink}
use Rattle.tesla_front.specs.Forms.{AreSpelled, NameIs, WordIs}
use Rattle.tesla_run_capture.specs.declared.form.Arguments.{Arguments}

-- the words of each form, in the order in which they are told
abbrev pub usages : List (List ℕ)
usages = codes "capture LINK CAPTURE" ∷ []

-- the names of the link and of the file of the capture
pub record CaptureArguments : Type 0 where
  pub link : List ℕ
  pub out : List ℕ

-- what the words that were read ask for
abbrev pub arguments_of : Arguments → CaptureArguments
arguments_of words = record { link = words.link.now; out = words.out.now }

-- the words are the form 'capture LINK CAPTURE'; the names may be the same, since what a link brings is under no file
abbrev pub IsCaptureForm : CaptureArguments → List (List ℕ) → Type 0
IsCaptureForm it = AreSpelled (WordIs (codes "capture") ∷ NameIs it.link ∷ NameIs it.out ∷ [])

-- what is opened, in order: the link, so that one that is taken costs no recording that was there, and then the file of the capture
abbrev pub files_of_capture : CaptureArguments → List Opening
files_of_capture arguments = OfLink arguments.link ∷ OfSink arguments.out ∷ []
