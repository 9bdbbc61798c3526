-- `into_loose` tests the first word, and moves the pointer with what it owns.
use Rattle.std.proofs.Common.{◌≡◌, List, [], ◌∷◌, ◌++◌, refl, sym, subst, lit<}
use mir.Val.{Val, vcons, vnil}
use types.Match.{live}
use Rattle.core.proofs.option.Made.{Some-of, none_of}
use Rattle.std_alloc.proofs.ResultValues.{and_tt}
use Rattle.core.proofs.cell.Inside.{Good}
use Rattle.tesla_c.specs.Held.{held_in}
use denote.Param.{layout}
use base.Logic.{SProp, ent, emp, id⊢}
use prog.Wp.{WpFn}
use types.Kit.{use1, at_ret, ‵, raw, ◌⊛◌, ◌$◌, ◌∵◌, !, qed, by, move, keep, split, fsplit, fjoin, suffices, use0}
use types.Run.{bin, first, branches, exec, stop, fld, lit, of_opd, no_more, and_then, returns, enter}
use types.ByLocal.{env, sets_last, alloc_all, pass_all, free_all, look_at, get, get_in, sets}
use types.Part.{agg, sub, whole}
use contract.Running.{tables}
use contract.Monad.{fact, fact_i}
use denote.Exit.{yes}
use denote.RattleType.{RattleType, owns}
use denote.Signature.{Slot as ParamSlot, types_at, type_at, plain}
use denote.RawPtr.{ptr_val}
use denote.Steps.{nothing}
use denote.Triple.Entry.{alive}
use denote.Triple.Walked.{Stays, stay_dropped, walk_of, Goes-dropped}
use Rattle.std.proofs.raw_atomic.Walks.{proved_at, leaves}
use Rattle.std.specs.declared.option.Option.TheVariants.{None, Some}
use Rattle.core.proofs.alloc.Calls.{handle_tells}
use Rattle.std_heap.specs.contracts.Global as Heap
use Rattle.std_heap.specs.contracts.GlobalAllocator.TheImpl.{ghosts}
use Rattle.std_heap.proofs.Global.TheLaws as heap
use Rattle.tesla_c.specs.contracts.engine.Engine as engine
use Rattle.tesla_c.proofs.Loosely.{both, al}
use Rattle.tesla_c.proofs.Slotted.{Held, words, words_good, slot_out, box_out, held_put, held_good, empty_is}
use Rattle.tesla_c.specs.contracts.slot.Slot.into_loose as f
use Rattle.tesla_c.specs.contracts.slot.Slot.into_loose.Key.{name as #self}
use Rattle.tesla_c.proofs.slot.Slot.into_loose.Statement.{statement}
use Rattle.tesla_c.proofs.slot.Slot.into_loose.Code as code
use Rattle.tesla_c.specs.contracts.slot.Slot as slot
use Rattle.core.proofs.atomic.Steps.{Ptr-Good}
use Rattle.core.proofs.alloc.Shapes.{after}

abbrev From : ParamSlot 0
From = plain (λ _. slot.the_row)

abbrev Handle : ParamSlot 0
Handle = plain (λ _. Heap.the_row)

abbrev stayed : Stays f.ended.signature.params f.ended.kept
stayed = (stay_dropped From yes, (stay_dropped Handle yes, tt))

pub into_loose_spec : {M : Type 1} → statement M
into_loose_spec 𝓤 𝓛 𝓜 𝓡 wired =
    let H = 𝓛.H in let 𝓣 = tables 𝓤 H 𝓜 𝓡 𝓡.env in let c = f.clauses 𝓛 𝓜.mem 𝓡.returns in let fn = code.function in
    proved_at 𝓛 f.ended stayed c 𝓜 𝓡 (Goes-dropped 𝓛 0 From yes (λ κs x w. refl), (Goes-dropped 𝓛 0 Handle yes (λ κs x w. refl), tt)) #self fn (code.unfolded 𝓤 H 𝓜 𝓡 wired) (λ z are.
    let κs = z.0.0 in let qs = z.0.1 in let v = z.0.3.0 in let a = z.0.3.1.0 in let Post : Val → SProp 𝓤 = (walk_of 𝓛 f.ended stayed c).post z in let Run : List Val → SProp 𝓤 = λ ws. WpFn 𝓤 H 𝓣.C 𝓣.Λ fn ws Post in
    qed 𝓛 ((raw (alive 𝓛 f.ended.signature κs qs) ⊛ ‵ (owns (types_at f.ended.signature.params κs) z.0.3 z.0.4)) ∷ raw ((c κs z.0.3).requires z.1) ∷ []) ∵
    split ! $ move ! (1 ∷ []) $ fsplit ! $ slot_out ! v z.0.4.0 (λ ws fits. move ! (1 ∷ []) $ fsplit ! $ handle_tells (al engine.the_row Heap.the_row heap.the_row_laws ghosts) ! a z.0.4.1.0 (λ h eh good.
    let w : Val = words v.full v.at in let Out : RattleType = type_at f.ended.signature.result κs in
    suffices ! (Run (w ∷ h ∷ [])) (subst (λ (us : List Val). ent 𝓤 (Run (w ∷ h ∷ [])) (Run us)) (sym (λ i. ws i ++ (eh i ++ []))) (id⊢ 𝓤 (Run (w ∷ h ∷ [])))) $
    enter ! 𝓣.C 𝓣.Λ fn (w ∷ h ∷ []) Post $ alloc_all ! (λ l. pass_all ! refl (words_good v.full v.at fits, (good, tt)) $ let Ev = env fn.locals l in
    sets ! (of_opd ! (get_in ! (fld ! refl (stop !)) (sub ! 0 refl (whole !)))) refl (tt, record { fits = fits }) $
    sets ! (of_opd ! (get_in ! (fld ! refl (stop !)) (sub ! 1 refl (whole !)))) refl (Ptr-Good v.at) $
    sets ! (bin ! (get ! refl) (lit ! tt) tt) refl (tt, tt) $
    first ! $ branches ! (get ! refl)
    -- [the handle; true; what the slot owns; the tokens; nothing; the locals]
    (λ empty. sets_last ! (agg ! (and_then ! (lit ! tt) (no_more !))) refl (tt, (record { fits = lit< tt }, tt)) $
    exec ! 𝓣.C 𝓣.Λ Ev (after 4 fn.body) (at_ret Ev Post) $ sets ! (of_opd ! (get ! refl)) refl (tt, (record { fits = lit< tt }, tt)) $
    use0 𝓛 (‵ (Out.own_val None (live 0 vnil ∷ []))) (none_of 𝓛 Held) $
    use0 𝓛 (raw (fact 𝓤 (None ≡ held_in v))) (fact_i 𝓤 (None ≡ held_in v) (emp 𝓤) (empty_is v empty)) $ nothing ! $ nothing ! $ fjoin ! $ nothing ! $ fjoin ! $
    returns ! (look_at ! 0 refl) $ free_all ! refl $ keep ! (6 ∷ 0 ∷ 2 ∷ 1 ∷ []) $
    by ! (leaves 𝓛 f.ended stayed c z (live 0 vnil) None (tt, (tt, tt)) (tt, (tt, tt))))
    (λ full. let made : Val = both (ptr_val v.at) h in let typed = held_good v.at h good in let out : Val = live 1 (vcons made vnil) in
    let whole_good : Good (layout Out) out = (and_tt _ typed.0, (record { fits = lit< tt }, (typed.1, tt))) in
    sets ! (of_opd ! (get ! refl)) refl (Ptr-Good v.at) $
    sets ! (agg ! (and_then ! (get ! refl) (and_then ! (get ! refl) (no_more !)))) refl typed $ sets_last ! (agg ! (and_then ! (lit ! tt) (and_then ! (get ! refl) (no_more !)))) refl whole_good $
    exec ! 𝓣.C 𝓣.Λ Ev (after 4 fn.body) (at_ret Ev Post) $ sets ! (of_opd ! (get ! refl)) refl whole_good $ move ! (2 ∷ []) $
    box_out ! v full (λ x is. let d : Held.Denot = record { at = v.at; alloc = a; value = x } in
    held_put ! v.at h a x $ use1 𝓛 (‵ (Out.own_val (Some d) (out ∷ []))) (Some-of 𝓛 Held d made) $
    use0 𝓛 (raw (fact 𝓤 (Some x ≡ held_in v))) (fact_i 𝓤 (Some x ≡ held_in v) (emp 𝓤) (sym is)) $ nothing ! $ nothing ! $ fjoin ! $ nothing ! $ fjoin ! $
    returns ! (look_at ! 0 refl) $ free_all ! refl $ keep ! (4 ∷ 0 ∷ 2 ∷ 1 ∷ []) $
    by ! (leaves 𝓛 f.ended stayed c z out (Some d) (tt, (tt, tt)) (tt, (tt, tt)))))))))
