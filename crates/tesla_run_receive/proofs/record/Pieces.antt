-- The pieces of TAIL, one behind the other.
use Rattle.std.proofs.Common.{◌≡◌, ◌∙◌, ℕ, List, [], ◌++◌, Option, Some, None, IfSome, append-nil, append_assoc, sym, ap, subst}
use Rattle.tesla_desk.specs.Outside.{with_bytes}

-- what an output has when a piece was written behind what it had
pub has_then : (old new : Option (List ℕ)) (before piece : List ℕ) → IfSome old (λ bytes. bytes ≡ before) → new ≡ with_bytes old piece → IfSome new (λ bytes. bytes ≡ before ++ piece)
has_then None new before piece has put = subst (λ (w : Option (List ℕ)). IfSome w (λ bytes. bytes ≡ before ++ piece)) (sym put) tt
has_then (Some held) new before piece has put = subst (λ (w : Option (List ℕ)). IfSome w (λ bytes. bytes ≡ before ++ piece)) (sym put) (ap (λ (bytes : List ℕ). bytes ++ piece) has)

-- the last of two pieces ends a text
pub ends_text : (text before front back : List ℕ) → text ≡ before ++ (front ++ back) → text ≡ (before ++ front) ++ (back ++ [])
ends_text text before front back is = is ∙ sym (append_assoc before front back) ∙ ap (λ (bytes : List ℕ). (before ++ front) ++ bytes) (sym (append-nil back))
