-- The machine value of a `Slot`, and what it owns. Assumes `Logic`.
use Rattle.std.proofs.Common.{◌≡◌, ℕ, Bool, true, false, List, [], ◌∷◌, ◌++◌, refl, subst}
use Rattle.std.specs.Prelude.{◌==◌, ◌<◌, ◌^◌}
use Rattle.std.specs.declared.option.Option.{Option}
use lib.Dec.{T}
use seplogic.Ra.Ura.{Ura}
use mir.Syntax.{w64, ty_ptr}
use Rattle.core.proofs.atomic.Steps.{Ptr-Good}
use Rattle.std_alloc.proofs.ResultValues.{and_tt}
use mathlib.Core.Bool.{◌&&◌, not}
use Rattle.tesla_c.specs.Held.{held_in, none_if}
use mir.Val.{Val, vint, vptr, vstruct, vcons, vnil, of_list, has_ty, WT}
use types.Logic.{Logic}
use types.Kit.{raw, use1, Item, Goal, Seq, Step, step, ‵, ◌$◌, move, drop, fsplit, fjoin, fpick, fpack, feq_i, feq_l}
use denote.RattleType.{RattleType, Valss}
use denote.Builtin.{u64, RawPtr}
use denote.RawPtr.{Ptr, block_ptr, ptr_val}
use denote.Plain.{uint_Makes}
use denote.Steps.{nothing, owned, peeks, heard}
use denote.Laws.{Is, shows}
use base.Logic.{never_e}
use contract.Monad.{fact}
use denote.Param.{layout}
use denote.Struct.Struct.{within}
use denote.Struct.Owning.{shape}
use Rattle.std_heap.specs.contracts.Global as Heap
use Rattle.std_heap.specs.contracts.GlobalAllocator.TheImpl.{ghosts}
use Rattle.std_heap.proofs.Global.TheLaws as heap
use Rattle.tesla_c.specs.Slot.{slot_owns, owned_unless, boxed}
use Rattle.tesla_c.proofs.Loosely.{both, loose_out}
use Rattle.core.proofs.cell.Inside.{Good}
use Rattle.std.specs.declared.option.Option.TheVariants.{None, Some}
use Rattle.tesla_c.specs.contracts.engine.Engine as engine
use Rattle.tesla_c.specs.contracts.slot.Slot as slot
use Rattle.tesla_c.specs.contracts.loose.Loose as loose

-- what was opened, boxed, as its pointer
abbrev pub Held : RattleType
Held = loose.the_row engine.the_row Heap.the_row ghosts

abbrev pub words : ℕ → Ptr → Val
words full p = vstruct (vcons (vint w64 full) (vcons (ptr_val p) vnil))

both_true : (a b : Bool) → T a → T b → T (a && (b && true))
both_true true true s t = tt
both_true true false s t = absurd t
both_true false b s t = absurd s

pub words_good : (full : ℕ) (p : Ptr) → full < 2 ^ 64 → T (has_ty ty_ptr (ptr_val p) && true) × WT (words full p)
words_good full p fits = (and_tt (has_ty ty_ptr (ptr_val p)) (Ptr-Good p).0, (record { fits = fits }, ((Ptr-Good p).1, tt)))

module _ {M : Type 1} {𝓤 : Ura M} {𝓛 : Logic 𝓤} {K : Type 0} {Γ : List (Item 𝓤)} {G : Goal 𝓤 𝓛.H} where
  pub slot_in : K → (full : ℕ) (p : Ptr) (held : Option engine.the_row.Denot) → full < 2 ^ 64
      → Step K 𝓛 (‵ (slot.the_row.own_val (record { full = full; at = p; held = held }) (words full p ∷ [])) ∷ Γ) G (‵ (slot_owns full p held) ∷ Γ) G
  slot_in t full p held fits = step (λ s. let v : Val = words full p in
      nothing t $ feq_i t (List Val) (ptr_val p ∷ []) (ptr_val p ∷ []) refl $ fjoin t $ owned t u64 _ (uint_Makes 𝓛 w64) full (vint w64 full ∷ []) (refl, fits) $ fjoin t $ feq_i t (List Val) (v ∷ []) (v ∷ []) refl $ fjoin t $
      fpack t (Valss (u64 ∷ RawPtr ∷ [])) (within (shape slot.the_type) (full, (p, tt)) (v ∷ [])) (vint w64 full ∷ [], (ptr_val p ∷ [], tt)) $ fjoin t $ s)

  -- what was opened, as its pointer, comes apart
  pub held_out : K → (d : Held.Denot) (vs : List Val)
      → ((b o : ℕ) (h : Val) → d.at ≡ block_ptr b o → vs ≡ both (vptr b o) h ∷ [] → Good (layout Heap.the_row) h → Seq K 𝓛 (‵ (boxed (block_ptr b o) (Some d.value)) ∷ ‵ (Heap.the_row.own_val d.alloc (h ∷ [])) ∷ Γ) G)
      → Seq K 𝓛 (‵ (Held.own_val d vs) ∷ Γ) G
  held_out t d vs k = loose_out engine.the_row Heap.the_row heap.the_row_laws ghosts t d vs k

  -- a slot comes apart
  pub slot_out : K → (d : slot.the_row.Denot) (vs : List Val)
      → (vs ≡ words d.full d.at ∷ [] → d.full < 2 ^ 64 → Seq K 𝓛 (‵ (slot_owns d.full d.at d.held) ∷ Γ) G)
      → Seq K 𝓛 (‵ (slot.the_row.own_val d vs) ∷ Γ) G
  slot_out t d vs k =
      fsplit t $ fpick t (λ vss. fsplit t $ feq_l t (λ ev. fsplit t $ peeks t u64 (Is u64) (shows 𝓛 u64) d.full vss.0 (λ ef. drop t $ fsplit t $ feq_l t (λ ep. drop t $
      k (subst (λ (ps : List Val). vs ≡ vstruct (of_list (vint w64 d.full ∷ (ps ++ []))) ∷ []) ep (subst (λ (ns : List Val). vs ≡ vstruct (of_list (ns ++ (vss.1.0 ++ []))) ∷ []) ef.0 ev)) ef.1))))

  -- a full slot holds a box
  full_out : K → (b : Bool) → T (not b) → (p : Ptr) (held : Option engine.the_row.Denot)
      → ((x : engine.the_row.Denot) → none_if b held ≡ Some x → Seq K 𝓛 (‵ (boxed p (Some x)) ∷ Γ) G)
      → Seq K 𝓛 (‵ (owned_unless b p held) ∷ Γ) G
  full_out t true wrong p held k = absurd wrong
  full_out t false is p None k = use1 𝓛 (raw (fact 𝓤 ⊥)) (never_e 𝓤 _) $ heard t ⊥ (λ wrong. absurd wrong)
  full_out t false is p (Some x) k = k x refl

  pub box_out : K → (d : slot.the_row.Denot) → T (not (d.full == 0))
      → ((x : engine.the_row.Denot) → held_in d ≡ Some x → Seq K 𝓛 (‵ (boxed d.at (Some x)) ∷ Γ) G)
      → Seq K 𝓛 (‵ (slot_owns d.full d.at d.held) ∷ Γ) G
  box_out t d is k = full_out t (d.full == 0) is d.at d.held k

  -- the pointer with its allocator
  pub held_put : K → (p : Ptr) (h : Val) (a : Heap.the_row.Denot) (x : engine.the_row.Denot)
      → Step K 𝓛 (‵ (Held.own_val (record { at = p; alloc = a; value = x }) (both (ptr_val p) h ∷ [])) ∷ Γ) G (‵ (boxed p (Some x)) ∷ ‵ (Heap.the_row.own_val a (h ∷ [])) ∷ Γ) G
  held_put t p h a x = step (λ s. let v : Val = both (ptr_val p) h in
      nothing t $ move t (2 ∷ 0 ∷ []) $ fjoin t $ feq_i t (List Val) (ptr_val p ∷ []) (ptr_val p ∷ []) refl $ fjoin t $ feq_i t (List Val) (v ∷ []) (v ∷ []) refl $ fjoin t $
      fpack t (Valss (RawPtr ∷ Heap.the_row ∷ [])) (within (shape (loose.the_type engine.the_row Heap.the_row ghosts)) (p, (a, tt)) (v ∷ [])) (ptr_val p ∷ [], (h ∷ [], tt)) $ fjoin t $ s)

none_where : (b : Bool) → T b → (held : Option engine.the_row.Denot) → None ≡ none_if b held
none_where true is held = refl
none_where false wrong held = absurd wrong

-- an empty slot holds nothing
pub empty_is : (d : slot.the_row.Denot) → T (d.full == 0) → None ≡ held_in d
empty_is d is = none_where (d.full == 0) is d.held

pub held_good : (p : Ptr) (h : Val) → Good (layout Heap.the_row) h → T (has_ty ty_ptr (ptr_val p) && (has_ty (layout Heap.the_row) h && true)) × WT (both (ptr_val p) h)
held_good p h fits = (both_true (has_ty ty_ptr (ptr_val p)) (has_ty (layout Heap.the_row) h) (Ptr-Good p).0 fits.0, ((Ptr-Good p).1, (fits.1, tt)))
