-- Each move keeps the rule of the queue, and what its passes learn of it.
use Rattle.std.proofs.Common.{◌≡◌, ◌≢◌, ℕ, zero, suc, Bool, true, false, true≢false, List, [], ◌∷◌, ◌++◌, length, set, sym, refl, ap, ◌∙◌, subst, ⊎_elim, append_assoc, arith}
use Rattle.std.proofs.lemmas.List.Concat.{flat_map-append}
use mathlib.Core.Option.{some, some-ne-none}
use lib.ListN.{get_elem?}
use Rattle.crossbeam_queue.specs.Fifo.{Pushes, Pops, Forks, Merges, Learns}
use Rattle.crossbeam_queue.proofs.Lists.{at_set, at_snoc}
use Rattle.tesla_relay.specs.declared.line.Log.{Log}
use Rattle.tesla_relay.specs.declared.line.Item.{Item}
use Rattle.tesla_relay.specs.Line.{log, numbered, numbered_in, Fits, IsInOrder, Offered}
use Rattle.tesla_relay.specs.Numbered.{AreBelow, AreBrought, AreBroughtFrom}
use Rattle.tesla_relay.proofs.Numbered.{brought_both, brought_prefix, numbered_more}

at_end : (l : List Log) (a b : Log) (j : ℕ) → get_elem? l j ≢ some b → get_elem? (l ++ a ∷ []) j ≡ some b → j ≡ length l
at_end [] a b zero n e = refl
at_end [] a b (suc j) n e = absurd (some-ne-none b (sym e))
at_end (x ∷ xs) a b zero n e = absurd (n e)
at_end (x ∷ xs) a b (suc j) n e = ap suc (at_end xs a b j n e)

abbrev All : (ℕ → Log → Type 0) → List Log → Type 0
All F views = (port : ℕ) (v : Log) → get_elem? views port ≡ some v → F port v

all_set : (F : ℕ → Log → Type 0) (views : List Log) (port : ℕ) (w : Log) → F port w → ((j : ℕ) (u : Log) → j ≢ port → get_elem? views j ≡ some u → F j u) → All F (set views port w)
all_set F views port w mine others j u e = ⊎_elim (λ (x : (j ≡ port) × (w ≡ u)). subst (λ (y : ℕ × Log). F y.0 y.1) (λ i. (sym x.0 i, x.1 i)) mine)
    (λ (x : (j ≢ port) × (get_elem? views j ≡ some u)). others j u x.0 x.1) (at_set views port j w u e)

pub begins : (brought : ℕ → List ℕ → Bool) → IsInOrder brought [] (log true true [] [] ∷ [])
begins brought = (0, 0, [], [], refl, all_set (Fits 0 0 [] []) (log true true [] [] ∷ []) 0 (log true true [] []) ((λ _. (refl, refl)), λ _. (refl, refl)) (λ j u other e. absurd (other (at_end [] _ u j (λ x. some-ne-none u (sym x)) e))), tt)

pub sends : (brought : ℕ → List ℕ → Bool) (n port : ℕ) (v : Log) (x : Item) (number : ℕ) → v.puts ≡ true → AreBelow number (numbered v.put) → AreBroughtFrom brought number (numbered_in x) → Pushes (IsInOrder brought) n port v x (λ w. w ≡ log v.puts v.pops (v.put ++ x ∷ []) v.popped)
sends brought n port v x number may below new items views _ h at = let w : Log = log v.puts v.pops (v.put ++ x ∷ []) v.popped in let mine = h.5 port v at in let sent = h.2 ++ x ∷ [] in (
  w,
  (
    h.0,
    h.1,
    sent,
    h.3,
    ap (λ l. l ++ x ∷ []) h.4 ∙ append_assoc h.3 items (x ∷ []),
    all_set (Fits h.0 h.1 sent h.3) views port w ((λ _. ((mine.0 may).0, ap (λ l. l ++ x ∷ []) (mine.0 may).1)), mine.1)
        (λ j u other e. ((λ p. absurd (other (((h.5 j u e).0 p).0 ∙ sym (mine.0 may).0))), (h.5 j u e).1)),
    subst (AreBrought brought) (sym (numbered_more h.2 x)) (brought_both brought 0 number (numbered h.2) (numbered_in x) (omega arith) (subst (λ (l : List Item). AreBelow number (numbered l)) (mine.0 may).1 below) h.6 new),
  ),
  refl,
)

-- what stands before others in a queue
front_brought : (brought : ℕ → List ℕ → Bool) (put front more : List Item) → put ≡ front ++ more → AreBrought brought (numbered put) → AreBrought brought (numbered front)
front_brought brought put front more is all = brought_prefix brought 0 (numbered front) (numbered more) (subst (AreBrought brought) (ap numbered is ∙ flat_map-append numbered_in front more) all)

pub gets : (brought : ℕ → List ℕ → Bool) (port : ℕ) (v : Log) → v.pops ≡ true → Pops (IsInOrder brought) port v (λ x w. (w ≡ log v.puts v.pops v.put (v.popped ++ x ∷ [])) × AreBrought brought (numbered (v.popped ++ x ∷ [])))
gets brought port v may x items views h at = let w : Log = log v.puts v.pops v.put (v.popped ++ x ∷ []) in let mine = h.5 port v at in let got = h.3 ++ x ∷ [] in (
  w,
  (
    h.0,
    h.1,
    h.2,
    got,
    h.4 ∙ sym (append_assoc h.3 (x ∷ []) items),
    all_set (Fits h.0 h.1 h.2 got) views port w (mine.0, λ _. ((mine.1 may).0, ap (λ l. l ++ x ∷ []) (mine.1 may).1))
        (λ j u other e. ((h.5 j u e).0, λ p. absurd (other (((h.5 j u e).1 p).0 ∙ sym (mine.1 may).0)))),
    h.6,
  ),
  (refl, subst (λ (l : List Item). AreBrought brought (numbered (l ++ x ∷ []))) (sym (mine.1 may).1) (front_brought brought h.2 got items (h.4 ∙ sym (append_assoc h.3 (x ∷ []) items)) h.6)),
)

pub forks : (brought : ℕ → List ℕ → Bool) (port : ℕ) (v : Log) → v.puts ≡ true → v.pops ≡ true → Forks (IsInOrder brought) port v (log true false v.put []) (log false true [] v.popped)
forks brought port v a b items views h at = let l : Log = log true false v.put [] in let r : Log = log false true [] v.popped in let mine = h.5 port v at in let vs : List Log = set views port l in
    let Old : ℕ → Log → Type 0 = λ j u. (u.puts ≡ true → (j ≡ h.0) × (u.put ≡ h.2)) × (u.pops ≢ true) in
    let old : All Old vs = all_set Old views port l ((λ _. mine.0 a), λ p. true≢false (sym p)) (λ j u other e. ((h.5 j u e).0, λ p. other (((h.5 j u e).1 p).0 ∙ sym (mine.1 b).0))) in (
      h.0,
      length vs,
      h.2,
      h.3,
      h.4,
      λ j u e. ⊎_elim (λ x. ((old j u x).0, λ p. absurd ((old j u x).1 p)))
          (λ (is : r ≡ u). ((λ p. absurd (true≢false (sym (ap (λ (y : Log). y.puts) is ∙ p)))), λ p. (at_end vs r u j (λ x. (old j u x).1 p) e, ap (λ (y : Log). y.popped) (sym is) ∙ (mine.1 b).1))) (at_snoc vs r u j e),
      h.6,
    )

pub merges : (brought : ℕ → List ℕ → Bool) (port : ℕ) (v : Log) (other : ℕ) (u : Log) → v.puts ≡ true → u.pops ≡ true → Merges (IsInOrder brought) port v other u (log true true v.put u.popped) (log false false [] [])
merges brought port v other u a b items views h at two at' = let both : Log = log true true v.put u.popped in let mine = h.5 port v at in let vs : List Log = set views port both in
    let was : get_elem? views other ≡ some u = ⊎_elim (λ x. absurd (two x.0)) (λ x. x.1) (at_set views port other both u at') in let theirs = (h.5 other u was).1 b in
    let Now : ℕ → Log → Type 0 = λ j y. j ≢ other → Fits h.0 port h.2 h.3 j y in
    let now : All Now vs = all_set Now views port both (λ _. ((λ _. mine.0 a), λ _. (refl, theirs.1))) (λ j y _ e apart. ((h.5 j y e).0, λ p. absurd (apart (((h.5 j y e).1 p).0 ∙ sym theirs.0)))) in
    (h.0, port, h.2, h.3, h.4, all_set (Fits h.0 port h.2 h.3) vs other (log false false [] []) ((λ p. absurd (true≢false (sym p))), λ p. absurd (true≢false (sym p))) (λ j y apart e. now j y e apart), h.6)

pub totals : (brought : ℕ → List ℕ → Bool) (port : ℕ) (v : Log) → v.puts ≡ true → v.pops ≡ true → Learns (IsInOrder brought) port v (λ items. v.put ≡ v.popped ++ items)
totals brought port v a b items views h at = let mine = h.5 port v at in (mine.0 a).1 ∙ h.4 ∙ ap (λ l. l ++ items) (sym (mine.1 b).1)

pub offers : (brought : ℕ → List ℕ → Bool) (port : ℕ) (v : Log) → v.puts ≡ true → Learns (IsInOrder brought) port v (λ items. Offered v.put items)
offers brought port v a items views h at = let mine = h.5 port v at in (h.3, (mine.0 a).1 ∙ h.4)
