-- Seeds one behind another in the first bytes of a source.
use Rattle.std.proofs.Common.{◌≡◌, ◌∙◌, inl, inr, ℕ, ◌+◌, ◌*◌, List, [], ◌∷◌, ◌++◌, take, drop, sym, ap, subst, arith}
use Rattle.std.specs.List.{AllByRecursion}
use Rattle.std.proofs.Math.Seq.{take-add}
use Rattle.std.proofs.lemmas.List.{flat_map_more, take_all, length-take, length-append}
use Rattle.tesla_base.specs.declared.names.Key.{Key}
use Rattle.tesla_seeds.specs.Text.{IsKey}
use Rattle.tesla_front.proofs.SmallTexts.{IsOfPrefix, WantsMemory}
use Rattle.tesla_run_info.specs.seeds.Drawn.{AreDrawn, DrawsWeak, EndsEarly, IsNoDraw, key_bytes}

keys_more : (seeds : List Key) (seed : Key) → AllByRecursion IsKey seeds → IsKey seed → AllByRecursion IsKey (seeds ++ seed ∷ [])
keys_more [] seed all one = (one, tt)
keys_more (first ∷ seeds) seed all one = (all.0, keys_more seeds seed all.1 one)

-- one seed more is drawn
pub drawn_more : (count : ℕ) (bytes : List ℕ) (seeds : List Key) (seed : Key) → AreDrawn count bytes seeds → IsKey seed → seed.0 ≡ take 32 (drop (32 * count) bytes) → AreDrawn (count + 1) bytes (seeds ++ seed ∷ [])
drawn_more count bytes seeds seed drawn whole is =
    let each = drawn.each in
    let place : 32 * (count + 1) ≡ 32 * count + 32 = omega arith in
    record {
      each = length-append seeds (seed ∷ []) ∙ omega (arith, each);
      keys = keys_more seeds seed drawn.keys whole;
      first = sym (flat_map_more key_bytes [] seeds seed) ∙ ap (λ (l : List ℕ). l ++ seed.0) drawn.first ∙ ap (λ (l : List ℕ). take (32 * count) bytes ++ l) is
          ∙ sym (take-add (32 * count) 32 bytes) ∙ ap (λ (n : ℕ). take n bytes) (sym place);
    }

-- ---- the first bytes of a source tell what all of them do

twice : (n : ℕ) (bytes : List ℕ) → take n (take n bytes) ≡ take n bytes
twice n bytes = take_all n (take n bytes) (omega (arith, length-take n bytes))

pub drawn_of_prefix : (count : ℕ) → IsOfPrefix (32 * count) (AreDrawn count)
drawn_of_prefix count bytes seeds drawn = record { each = drawn.each; keys = drawn.keys; first = drawn.first ∙ twice (32 * count) bytes }

ends_of_prefix : (count : ℕ) → IsOfPrefix (32 * count) (EndsEarly count)
ends_of_prefix count bytes outcome ends =
    let few = ends.few in
    let same : take (32 * count) bytes ≡ bytes = take_all (32 * count) bytes (omega (arith, few, length-take (32 * count) bytes)) in
    subst (λ (b : List ℕ). EndsEarly count b outcome) same ends

weak_of_prefix : (count : ℕ) → IsOfPrefix (32 * count) (DrawsWeak count)
weak_of_prefix count bytes outcome draws = record {
  seeds = draws.seeds;
  drawn = drawn_of_prefix count bytes draws.seeds draws.drawn;
  chain = draws.chain;
  kind = draws.kind;
  weak = draws.weak;
  told = draws.told;
}

pub no_draw_of_prefix : (count : ℕ) → IsOfPrefix (32 * count) (IsNoDraw count)
no_draw_of_prefix count bytes outcome (inl ends) = inl (ends_of_prefix count bytes outcome ends)
no_draw_of_prefix count bytes outcome (inr (inl weak)) = inr (inl (weak_of_prefix count bytes outcome weak))
no_draw_of_prefix count bytes outcome (inr (inr memory)) = inr (inr memory)

pub draw_memory : (count : ℕ) → WantsMemory (IsNoDraw count)
draw_memory count bytes fault (inl ends) = absurd (let no = ends.told in cc)
draw_memory count bytes fault (inr (inl weak)) = absurd (let no = weak.told in cc)
draw_memory count bytes fault (inr (inr memory)) = cc
