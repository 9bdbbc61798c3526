-- The forms of chain and chain2, as the usage lines tell them.
use Rattle.std.specs.Prelude.{ℕ, List, [], ◌∷◌, codes}

-- the words of each form, in the order in which they are told
abbrev pub usages : List (List ℕ)
usages =
    codes "chain SETUP-OUT SECRET STREAM START INTERVAL LAST DELAY [DELAY] [DELAY] [DELAY]"
    ∷ codes "chain2 SETUP-OUT SECRET STREAM START INTERVAL LAST TAG DELAY [DELAY] [DELAY] [DELAY] [DELAY] [DELAY] [DELAY] [DELAY]"
    ∷ []
