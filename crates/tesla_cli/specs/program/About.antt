-- The texts about the program, and what printing one comes to. Also the words that ask for them.
use Rattle.std.specs.Prelude.{◌≡◌, ◌≢◌, ◌⊎◌, ℕ, List, [], ◌∷◌, codes}
use Rattle.tesla_desk.specs.Faults.{HasCauses}
use Rattle.tesla_desk.specs.Outside.{Told, AsksPrefix}
use Rattle.tesla_front.specs.Run.{console}
use Rattle.tesla_cli.specs.declared.program.about.About.{About}
use Rattle.tesla_cli.specs.declared.program.about.About.TheVariants.{Help, Version}

-- the word that asks for a text
abbrev pub word_of : About → List ℕ
word_of Help = codes "--help"
word_of Version = codes "--version"

-- a text was printed, or wasn't: at most the console was opened and has changed, and the status is 0, or 5 where a write failed, 6 where there was no memory, 7 where it wasn't opened
pub record Prints (old new : Told) (status : ℕ) : Type 0 where
  pub asked : AsksPrefix (console ∷ []) old.openings new.openings
  pub pages : (name : List ℕ) → name ≢ codes "-" → new.page name ≡ old.page name
  pub lefts : (name : List ℕ) → new.left name ≡ old.left name
  pub status_is : (status ≡ 0) ⊎ (status ≡ 5) ⊎ (status ≡ 6) ⊎ (status ≡ 7)
  pub counts : HasCauses old.faults new.faults ⊥ (status ≡ 5) (status ≡ 7)
