-- Which files of a command were asked for, and what is told of them.
use Rattle.std.specs.Prelude.{◌≡◌, ◌≢◌, ◌⊎◌, ℕ, ◌≤◌, Option, List, [], ◌∷◌, length, map, take, codes}
use Rattle.tesla_desk.specs.Outside.{Page, Opening, OfSource, OfSink, OfLink, OfPost, Told, with_openings}
use Rattle.tesla_front.specs.Files.{HasFailed, HasFailedMail}

-- the name of an opening
abbrev pub name_of : Opening → List ℕ
name_of (OfSource name) = name
name_of (OfSink name) = name
name_of (OfLink name) = name
name_of (OfPost name) = name

-- the opening is one of these
abbrev pub IsAmong : Opening → List Opening → Type 0
IsAmong opening [] = ⊥
IsAmong opening (other ∷ others) = (other ≡ opening) ⊎ IsAmong opening others

-- none of them is the console
abbrev pub AreFiles : List Opening → Type 0
AreFiles [] = Unit {0}
AreFiles (opening ∷ others) = (name_of opening ≢ codes "-") × AreFiles others

-- so many of these files were asked to be opened, in order; what isn't an output among them is as before, and of what isn't an input among them nothing was read
pub record Opens (files : List Opening) (opened : ℕ) (old new : Told) : Type 0 where
  pub asked : new.openings ≡ with_openings old.openings (take opened files)
  pub pages : (name : List ℕ) → (IsAmong (OfSink name) (take opened files) → ⊥) → new.page name ≡ old.page name
  pub lefts : (name : List ℕ) → (IsAmong (OfSource name) (take opened files) → ⊥) → new.left name ≡ old.left name

-- some of these files were asked to be opened, in order
abbrev pub OpensSome : List Opening → Told → Told → Type 0
OpensSome files old new = (opened : ℕ) × (opened ≤ length files) × Opens files opened old new

-- what a desk tells of one file: the page under its name, and what was left of the source that was closed last under it
pub record File : Type 0 where
  pub page : Page
  pub left : Option (List ℕ)

-- what a desk tells under a name
abbrev pub file_told : Told → List ℕ → File
file_told told name = record { page = told.page name; left = told.left name }

-- what it tells of the files of a command, in their order
abbrev pub files_told : Told → List Opening → List File
files_told told openings = map (λ (opening : Opening). file_told told (name_of opening)) openings

-- one of the outputs among these files failed, where that is told
abbrev pub AnyFailed : List Opening → Told → Type 0
AnyFailed [] told = ⊥
AnyFailed (OfSource name ∷ others) told = AnyFailed others told
AnyFailed (OfLink name ∷ others) told = AnyFailed others told
AnyFailed (OfSink name ∷ others) told = HasFailed (told.page name) ⊎ AnyFailed others told
AnyFailed (OfPost name ∷ others) told = HasFailedMail (told.live.mail name) ⊎ AnyFailed others told
