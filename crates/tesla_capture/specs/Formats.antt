-- What is proved of the formats of captures and of scripts. Their records are those of the two kinds, as a reader takes them.
use Rattle.std.proofs.Common.{◌≡◌, ◌⊎◌, ℕ, ◌<◌, ◌≤◌, ◌^◌, Bool, List, [], ◌∷◌, ◌++◌, length, refl, lit<, lit≤, inl, inr}
use Rattle.std.specs.Prelude.{if◌then◌else◌}
use Rattle.std.specs.Int.{w16, w64, to_be_bytes}
use Rattle.tesla_capture.specs.Grammar.{AreBytes, Grammar}
use Rattle.tesla_capture.specs.Capture as captures
use Rattle.tesla_capture.specs.Script as scripts

-- the reading of a record of kind 2, 0 where it has none
abbrev pub bare_reading : Bool → ℕ → ℕ
bare_reading timed reading = if timed then reading else 0

-- what follows the kind of a record of kind 2
abbrev pub bare_text : Bool → ℕ → List ℕ
bare_text timed reading = if timed then to_be_bytes w64 reading else []

-- a record is of kind 1 or of kind 2, within the limits
abbrev pub IsOfKind : (G : Grammar) → G.Record → Type 0
IsOfKind G x =
    ((reading : ℕ) × (bytes : List ℕ) × (x ≡ G.carrying reading bytes) × (reading < 2 ^ 64) × (length bytes ≤ G.longest) × AreBytes bytes)
    ⊎ ((reading : ℕ) × (x ≡ G.bare (bare_reading G.timed reading)) × (reading < 2 ^ 64))

-- the head has five bytes, and the records are those of the two kinds, spelled so
pub record IsGrammar (G : Grammar) : Type 0 where
  pub five : length G.head ≡ 5
  pub few : G.longest ≤ 2048
  pub carrying_spelled : (reading : ℕ) (bytes : List ℕ) → G.record_text (G.carrying reading bytes) ≡ 1 ∷ to_be_bytes w64 reading ++ to_be_bytes w16 (length bytes) ++ bytes
  pub carrying_fits : (reading : ℕ) (bytes : List ℕ) → reading < 2 ^ 64 → length bytes ≤ G.longest → AreBytes bytes → G.IsRecord (G.carrying reading bytes)
  pub bare_spelled : (reading : ℕ) → G.record_text (G.bare reading) ≡ 2 ∷ bare_text G.timed reading
  pub bare_fits : (reading : ℕ) → reading < 2 ^ 64 → G.IsRecord (G.bare reading)
  pub of_kind : (x : G.Record) → G.IsRecord x → IsOfKind G x

capture_of_kind : (x : captures.Record) → captures.IsRecord x → IsOfKind captures.capture x
capture_of_kind (captures.Arrives reading bytes) fits = inl (reading, bytes, refl, fits.0, fits.1, fits.2)
capture_of_kind captures.Takes fits = inr (0, refl, lit< tt)

pub capture_is : IsGrammar captures.capture
capture_is = record {
  five = refl;
  few = lit≤ tt;
  carrying_spelled = λ reading bytes. refl;
  carrying_fits = λ reading bytes below few fits. (below, few, fits);
  bare_spelled = λ reading. refl;
  bare_fits = λ reading below. tt;
  of_kind = capture_of_kind;
}

script_of_kind : (x : scripts.Record) → scripts.IsRecord x → IsOfKind scripts.script x
script_of_kind (scripts.Sends reading payload) fits = inl (reading, payload, refl, fits.0, fits.1, fits.2)
script_of_kind (scripts.Discloses reading) below = inr (reading, refl, below)

pub script_is : IsGrammar scripts.script
script_is = record {
  five = refl;
  few = lit≤ tt;
  carrying_spelled = λ reading bytes. refl;
  carrying_fits = λ reading bytes below few fits. (below, few, fits);
  bare_spelled = λ reading. refl;
  bare_fits = λ reading below. below;
  of_kind = script_of_kind;
}
