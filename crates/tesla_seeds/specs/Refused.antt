-- Why a text spells no seeds, and at which line. So many seeds are wanted.
use Rattle.std.specs.Prelude.{◌≡◌, ◌≢◌, ◌⊎◌, ℕ, zero, suc, ◌<◌, ◌≤◌, List, [], ◌∷◌, ◌++◌, length, map, codes}
use Rattle.std.specs.List.{AllByRecursion}
use Rattle.hex.specs.Hex.{encode_lower}
use Rattle.tesla_base.specs.declared.names.Key.{Key}
use Rattle.tesla_commit.specs.Parsing.{lines, words}
use Rattle.tesla_commit.specs.SetupRefused.{IsNoHex}
use Rattle.tesla_seeds.specs.Text.{IsKey}
use Rattle.tesla_seeds.specs.declared.refusal.SeedsKind.{SeedsKind}
use Rattle.tesla_seeds.specs.declared.refusal.SeedsKind.TheVariants.{BadLine, BadHex, WrongCount, TooLong}

-- line 1
abbrev pub seeds_title : List ℕ
seeds_title = codes "tesla-seeds" ++ 32 ∷ codes "1"

-- why line 1 is refused
abbrev pub WhySeedsTitle : SeedsKind → List ℕ → Type 0
WhySeedsTitle BadLine line = line ≢ seeds_title
WhySeedsTitle _ line = ⊥

-- the line of a seed
abbrev pub seed_text : Key → List ℕ
seed_text key = codes "seed" ++ 32 ∷ encode_lower key.0

-- why the line of a seed is refused
abbrev pub WhySeed : SeedsKind → List ℕ → Type 0
WhySeed BadLine line = (word : List ℕ) → words line ≢ codes "seed" ∷ word ∷ []
WhySeed BadHex line = (word : List ℕ) × (words line ≡ codes "seed" ∷ word ∷ []) × IsNoHex 32 word
WhySeed _ line = ⊥

-- the text ends before a line that is wanted, or no LF ends that line, or it is refused by why
abbrev pub StopsAtWanted : (SeedsKind → List ℕ → Type 0) → SeedsKind → List (List ℕ) → Type 0
StopsAtWanted why kind [] = ⊥
StopsAtWanted why kind ([] ∷ []) = kind ≡ WrongCount
StopsAtWanted why kind ((byte ∷ unended) ∷ []) = kind ≡ BadLine
StopsAtWanted why kind (line ∷ next ∷ others) = why kind line

-- bytes stand behind the last line that is wanted
abbrev pub GoesOn : SeedsKind → List (List ℕ) → Type 0
GoesOn kind rest = (kind ≡ WrongCount) × (0 < length rest) × (rest ≢ [] ∷ [])

-- behind line 1 and the lines of so many seeds a line is refused
pub record StopsBehindSeeds (text : List (List ℕ)) (wanted before : ℕ) (kind : SeedsKind) : Type 0 where
  pub seeds : List Key
  pub keys : AllByRecursion IsKey seeds
  pub count : length seeds ≡ before
  pub rest : List (List ℕ)
  pub spelled : text ≡ seeds_title ∷ map seed_text seeds ++ rest
  pub why : ((before < wanted) × StopsAtWanted WhySeed kind rest) ⊎ ((before ≡ wanted) × GoesOn kind rest)

-- the text is refused at this line, where so many seeds are wanted: it is too long, or its lines before that one are those of
-- seeds
abbrev pub IsSeedsRefused : List ℕ → ℕ → ℕ → SeedsKind → Type 0
IsSeedsRefused text wanted zero kind = (kind ≡ TooLong) × (4096 < length text)
IsSeedsRefused text wanted (suc zero) kind = (length text ≤ 4096) × StopsAtWanted WhySeedsTitle kind (lines text)
IsSeedsRefused text wanted (suc (suc before)) kind = (length text ≤ 4096) × StopsBehindSeeds (lines text) wanted before kind
