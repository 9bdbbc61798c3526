-- The words that commands share: names of files, and the spelling of CAPACITY.
use Rattle.std.specs.Prelude.{◌≡◌, ◌≢◌, ◌⊎◌, ◌==◌, Bool, ℕ, ◌≤◌, List, [], ◌++◌, codes, decimal}
use Rattle.tesla_front.specs.declared.words.PacketLimits.{PacketLimits}

-- a name of a file: it is not empty, and not the console's
pub record IsName (word : List ℕ) : Type 0 where
  pub some : word ≢ []
  pub file : word ≢ codes "-"

-- the word spells this number, which is within these limits
pub record IsNumberWithin (low high : ℕ) (word : List ℕ) (number : ℕ) : Type 0 where
  pub spelled : word ≡ decimal number
  pub least : low ≤ number
  pub limit : number ≤ high

-- a slash
abbrev pub is_slash : ℕ → Bool
is_slash b = b == 47

-- the word spells how many packets are held at most: one number, which is the capacity and the quota, or the one, a slash and the other
pub record ArePacketLimits (word : List ℕ) (limits : PacketLimits) : Type 0 where
  pub spelled : ((word ≡ decimal limits.capacity) × (limits.quota ≡ limits.capacity)) ⊎ (word ≡ decimal limits.capacity ++ (codes "/" ++ decimal limits.quota))
  pub capacity : limits.capacity ≤ 65536
  pub some : 1 ≤ limits.quota
  pub within : limits.quota ≤ limits.capacity
