-- Lists of releases: their slots, their names, and the heads of their records.
use Rattle.std.specs.Prelude.{ℕ, Bool, ◌&&◌, List, [], ◌∷◌, ◌++◌, length, ◌==◌, if◌then◌else◌}
use Rattle.std.specs.List.{list_any}
use Rattle.tesla_base.specs.declared.names.Name.{Name}
use Rattle.tesla_base.specs.declared.release.Head.{Head}
use Rattle.tesla_walks.specs.declared.release.Release.{Release}

-- what f gives for each element, told of those that stand before it
abbrev pub each_after : {A B : Type 0} → (List A → A → List B) → List A → List A → List B
each_after f before [] = []
each_after f before (x ∷ xs) = f before x ++ each_after f (before ++ x ∷ []) xs

abbrev pub is_at : ℕ → Release → Bool
is_at slot release = release.place == slot

abbrev pub has_name : Name → Release → Bool
has_name name release = release.name.interval == name.interval && release.name.number == name.number

abbrev pub unless_named : List Release → Release → List Release
unless_named before release = if list_any (has_name release.name) before then [] else release ∷ []

-- the head of a release record
abbrev pub head_of : ℕ → Release → List ℕ → Head
head_of position release payload =
    record { position = position; interval = release.name.interval; number = release.name.number; chain = release.chain.0; length = length payload }
