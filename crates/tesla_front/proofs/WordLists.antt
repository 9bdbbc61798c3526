-- Words of a command, of which each is told.
use Rattle.std.proofs.Common.{◌≡◌, ◌≤◌, ◌<◌, ◌-◌, ℕ, List, [], ◌∷◌, length, get_or, map, take, drop, ap, arith}
use Rattle.std.proofs.lemmas.List.{take_rest}

-- a list of six, told each of them
pub six_is : {A : Type 0} (f : A → List ℕ) (xs : List A) (a b c d e g : A) → 6 ≤ length xs → length xs < 7 → a ≡ get_or xs 0 a → b ≡ get_or xs 1 b → c ≡ get_or xs 2 c → d ≡ get_or xs 3 d → e ≡ get_or xs 4 e → g ≡ get_or xs 5 g → map f xs ≡ f a ∷ f b ∷ f c ∷ f d ∷ f e ∷ f g ∷ []
six_is f [] a b c d e g least most _ _ _ _ _ _ = absurd (omega arith)
six_is f (x0 ∷ []) a b c d e g least most _ _ _ _ _ _ = absurd (omega arith)
six_is f (x0 ∷ x1 ∷ []) a b c d e g least most _ _ _ _ _ _ = absurd (omega arith)
six_is f (x0 ∷ x1 ∷ x2 ∷ []) a b c d e g least most _ _ _ _ _ _ = absurd (omega arith)
six_is f (x0 ∷ x1 ∷ x2 ∷ x3 ∷ []) a b c d e g least most _ _ _ _ _ _ = absurd (omega arith)
six_is f (x0 ∷ x1 ∷ x2 ∷ x3 ∷ x4 ∷ []) a b c d e g least most _ _ _ _ _ _ = absurd (omega arith)
six_is f (x0 ∷ x1 ∷ x2 ∷ x3 ∷ x4 ∷ x5 ∷ []) a b c d e g least most p0 p1 p2 p3 p4 p5 = cc
six_is f (x0 ∷ x1 ∷ x2 ∷ x3 ∷ x4 ∷ x5 ∷ x6 ∷ xs) a b c d e g least most _ _ _ _ _ _ = absurd (omega arith)

-- a list of seven and more, told each of them
pub seven_is : {A : Type 0} (f : A → List ℕ) (xs : List A) (a b c d e g h : A) → 7 ≤ length xs → a ≡ get_or xs 0 a → b ≡ get_or xs 1 b → c ≡ get_or xs 2 c → d ≡ get_or xs 3 d → e ≡ get_or xs 4 e → g ≡ get_or xs 5 g → h ≡ get_or xs 6 h → map f xs ≡ f a ∷ f b ∷ f c ∷ f d ∷ f e ∷ f g ∷ f h ∷ map f (take (length xs - 7) (drop 7 xs))
seven_is f [] a b c d e g h least _ _ _ _ _ _ _ = absurd (omega arith)
seven_is f (x0 ∷ []) a b c d e g h least _ _ _ _ _ _ _ = absurd (omega arith)
seven_is f (x0 ∷ x1 ∷ []) a b c d e g h least _ _ _ _ _ _ _ = absurd (omega arith)
seven_is f (x0 ∷ x1 ∷ x2 ∷ []) a b c d e g h least _ _ _ _ _ _ _ = absurd (omega arith)
seven_is f (x0 ∷ x1 ∷ x2 ∷ x3 ∷ []) a b c d e g h least _ _ _ _ _ _ _ = absurd (omega arith)
seven_is f (x0 ∷ x1 ∷ x2 ∷ x3 ∷ x4 ∷ []) a b c d e g h least _ _ _ _ _ _ _ = absurd (omega arith)
seven_is f (x0 ∷ x1 ∷ x2 ∷ x3 ∷ x4 ∷ x5 ∷ []) a b c d e g h least _ _ _ _ _ _ _ = absurd (omega arith)
seven_is f (x0 ∷ x1 ∷ x2 ∷ x3 ∷ x4 ∷ x5 ∷ x6 ∷ xs) a b c d e g h least p0 p1 p2 p3 p4 p5 p6 =
    let rest = take_rest (x0 ∷ x1 ∷ x2 ∷ x3 ∷ x4 ∷ x5 ∷ x6 ∷ xs) 7 in
    let others : map f (take (length (x0 ∷ x1 ∷ x2 ∷ x3 ∷ x4 ∷ x5 ∷ x6 ∷ xs) - 7) (drop 7 (x0 ∷ x1 ∷ x2 ∷ x3 ∷ x4 ∷ x5 ∷ x6 ∷ xs))) ≡ map f xs = ap (map f) rest in
    cc

-- lists of the same seven and the same rest
pub same_seven : (rest : List (List ℕ)) (a b c d e g h a1 b1 c1 d1 e1 g1 h1 : List ℕ) → a ≡ a1 → b ≡ b1 → c ≡ c1 → d ≡ d1 → e ≡ e1 → g ≡ g1 → h ≡ h1 → a ∷ b ∷ c ∷ d ∷ e ∷ g ∷ h ∷ rest ≡ a1 ∷ b1 ∷ c1 ∷ d1 ∷ e1 ∷ g1 ∷ h1 ∷ rest
same_seven rest a b c d e g h a1 b1 c1 d1 e1 g1 h1 pa pb pc pd pe pg ph = cc
