-- Takes one after another.
use Rattle.std.proofs.Common.{◌≡◌, ◌∙◌, ◌+◌, ◌-◌, ◌≤◌, ℕ, zero, suc, Option, Result, Err, List, [], ◌∷◌, ◌++◌, replicate, refl, sym, ap, subst, arith, append_assoc, append-nil, add-one}
use Rattle.tesla_capture.specs.Gathering.{Gathers}
use Rattle.tesla_desk.specs.Outside.{AppendsPrefix, with_bytes}
use Rattle.tesla_desk.proofs.Told.{appends_none, prefix_after, prefix_longer, prefix_whole, with_bytes_twice}
use Rattle.tesla_receiver.specs.History.{Event, Ends, Takes}
use Rattle.tesla_receiver.proofs.EachAfter.{each_after-append}
use Rattle.tesla_state.specs.Releases.{each_after}
use Rattle.tesla_convert.specs.declared.converter.Halt.{Halt}
use Rattle.tesla_convert.specs.declared.converter.Halt.TheVariants.{NoMemory, WriteFault}
use Rattle.tesla_run_replay.specs.Playing.{EventRule, end_after, with_end}

-- so many takes, and one
takes_more : (n : ℕ) → replicate (suc n) (Takes 0) ≡ replicate n (Takes 0) ++ Takes 0 ∷ []
takes_more zero = refl
takes_more (suc n) = ap (λ (l : List Event). Takes 0 ∷ l) (takes_more n)

pub next_take : (n : ℕ) → replicate (n + 1) (Takes 0) ≡ replicate n (Takes 0) ++ Takes 0 ∷ []
next_take n = ap (λ k. replicate k (Takes 0)) (add-one n) ∙ takes_more n

-- one take more behind some events and takes
pub take_more : (events : List Event) (n : ℕ) → (events ++ replicate n (Takes 0)) ++ Takes 0 ∷ [] ≡ events ++ replicate (n + 1) (Takes 0)
take_more events n = append_assoc events (replicate n (Takes 0)) (Takes 0 ∷ []) ∙ ap (λ l. events ++ l) (sym (next_take n))

pub takes_apart : (n i : ℕ) → i ≤ n → replicate n (Takes 0) ≡ replicate i (Takes 0) ++ replicate (n - i) (Takes 0)
takes_apart n zero h = ap (λ k. replicate k (Takes 0)) (omega arith)
takes_apart zero (suc i) h = absurd (omega arith)
takes_apart (suc n) (suc i) h =
    let count : suc n - suc i ≡ n - i = omega arith in
    ap (λ (l : List Event). Takes 0 ∷ l) (takes_apart n i (omega arith)) ∙ ap (λ k. Takes 0 ∷ replicate i (Takes 0) ++ replicate k (Takes 0)) (sym count)

-- nothing was gathered behind what is held
pub gathers_none : (written : Option (List ℕ)) (held : List ℕ) → Gathers written written held (held ++ [])
gathers_none written held = record { done = []; written = appends_none written; both = append-nil held }

-- a piece was gathered, and then another
pub gathers_both : (before mid now : Option (List ℕ)) (held rest text piece : List ℕ) → Gathers before mid held text → Gathers mid now rest (held ++ piece) → Gathers before now rest (text ++ piece)
gathers_both before mid now held rest text piece first second = record {
  done = first.done ++ second.done;
  written = second.written ∙ ap (λ w. with_bytes w second.done) first.written ∙ with_bytes_twice before first.done second.done;
  both = ap (λ t. t ++ piece) first.both ∙ append_assoc first.done held piece ∙ ap (λ t. first.done ++ t) second.both ∙ sym (append_assoc first.done second.done rest);
}

-- a piece was gathered, and then a prefix of it and of another was written
pub gathers_prefix : (before mid now : Option (List ℕ)) (held text piece : List ℕ) → Gathers before mid held text → AppendsPrefix mid now (held ++ piece) → AppendsPrefix before now (text ++ piece)
gathers_prefix before mid now held text piece first second =
    let whole : first.done ++ (held ++ piece) ≡ text ++ piece = sym (append_assoc first.done held piece) ∙ ap (λ t. t ++ piece) (sym first.both) in
    subst (λ (t : List ℕ). AppendsPrefix before now t) whole (prefix_after before mid now first.done (held ++ piece) first.written second)

-- where an event halts, a prefix of what was held and of what is written of it was written
pub prefix_halted : (halt : Halt) (before now : Option (List ℕ)) (piece : List ℕ) → (◌≡◌ {A = Result (Unit {0}) Halt} (Err halt) (Err WriteFault) → AppendsPrefix before now piece) → (◌≡◌ {A = Result (Unit {0}) Halt} (Err halt) (Err NoMemory) → now ≡ with_bytes before piece) → AppendsPrefix before now piece
prefix_halted WriteFault before now piece failed wants = failed refl
prefix_halted NoMemory before now piece failed wants = prefix_whole before now piece (wants refl)

-- ---- told the rule of a target, which is the same behind some takes

module _ (rule here : EventRule) (same : here ≡ rule) (events : List Event) where
  -- what is written of so many takes, and of one more
  take_text : (n : ℕ) → each_after rule.adds events (replicate (n + 1) (Takes 0)) ≡ each_after rule.adds events (replicate n (Takes 0)) ++ here.adds (events ++ replicate n (Takes 0)) (Takes 0)
  take_text n =
      ap (each_after rule.adds events) (next_take n) ∙ each_after-append rule.adds events (replicate n (Takes 0)) (Takes 0 ∷ [])
      ∙ ap (λ t. each_after rule.adds events (replicate n (Takes 0)) ++ t) (append-nil (rule.adds (events ++ replicate n (Takes 0)) (Takes 0)))
      ∙ ap (λ (r : EventRule). each_after rule.adds events (replicate n (Takes 0)) ++ r.adds (events ++ replicate n (Takes 0)) (Takes 0)) (sym same)

  -- one take more was gathered
  pub take_gathered : (n : ℕ) (before mid now : Option (List ℕ)) (first held rest : List ℕ) → Gathers before mid held (first ++ each_after rule.adds events (replicate n (Takes 0))) → Gathers mid now rest (held ++ here.adds (events ++ replicate n (Takes 0)) (Takes 0)) → Gathers before now rest (first ++ each_after rule.adds events (replicate (n + 1) (Takes 0)))
  take_gathered n before mid now first held rest before_it it =
      subst (λ (t : List ℕ). Gathers before now rest t)
      (append_assoc first (each_after rule.adds events (replicate n (Takes 0))) (here.adds (events ++ replicate n (Takes 0)) (Takes 0)) ∙ ap (λ t. first ++ t) (sym (take_text n)))
      (gathers_both before mid now held rest (first ++ each_after rule.adds events (replicate n (Takes 0))) (here.adds (events ++ replicate n (Takes 0)) (Takes 0)) before_it it)

  -- a write failed at one of so many takes
  pub take_stops : (n i : ℕ) (before mid now : Option (List ℕ)) (first held : List ℕ) → i + 1 ≤ n → Gathers before mid held (first ++ each_after rule.adds events (replicate i (Takes 0))) → AppendsPrefix mid now (held ++ here.adds (events ++ replicate i (Takes 0)) (Takes 0)) → AppendsPrefix before now (first ++ each_after rule.adds events (replicate n (Takes 0)))
  take_stops n i before mid now first held h before_it it =
      let more = each_after rule.adds (events ++ replicate (i + 1) (Takes 0)) (replicate (n - (i + 1)) (Takes 0)) in
      let apart : each_after rule.adds events (replicate n (Takes 0)) ≡ each_after rule.adds events (replicate (i + 1) (Takes 0)) ++ more =
      ap (each_after rule.adds events) (takes_apart n (i + 1) h) ∙ each_after-append rule.adds events (replicate (i + 1) (Takes 0)) (replicate (n - (i + 1)) (Takes 0)) in
      let one : (first ++ each_after rule.adds events (replicate i (Takes 0))) ++ here.adds (events ++ replicate i (Takes 0)) (Takes 0) ≡ first ++ each_after rule.adds events (replicate (i + 1) (Takes 0)) =
      append_assoc first (each_after rule.adds events (replicate i (Takes 0))) (here.adds (events ++ replicate i (Takes 0)) (Takes 0)) ∙ ap (λ t. first ++ t) (sym (take_text i)) in
      subst (λ (t : List ℕ). AppendsPrefix before now t) (append_assoc first (each_after rule.adds events (replicate (i + 1) (Takes 0))) more ∙ ap (λ t. first ++ t) (sym apart))
      (prefix_longer before now (first ++ each_after rule.adds events (replicate (i + 1) (Takes 0))) more
      (subst (λ (t : List ℕ). AppendsPrefix before now t) one (gathers_prefix before mid now held (first ++ each_after rule.adds events (replicate i (Takes 0))) (here.adds (events ++ replicate i (Takes 0)) (Takes 0)) before_it it)))

-- ---- the end of a capture, told the rule of the target before it, behind the end alone, and as it is named

module _ (rule old mid : EventRule) (start : old ≡ rule) (same : mid ≡ old) (es : List Event) (waiting : ℕ) (waits : waiting ≡ old.waiting es) where
  takes_named : each_after mid.adds (es ++ Ends 0 ∷ []) (replicate (waiting + 1) (Takes 0)) ≡ each_after rule.adds (es ++ Ends 0 ∷ []) (replicate (suc (rule.waiting es)) (Takes 0))
  takes_named =
      let count : waiting + 1 ≡ suc (rule.waiting es) = add-one waiting ∙ ap suc (waits ∙ ap (λ (r : EventRule). r.waiting es) start) in
      ap (λ (r : EventRule). each_after r.adds (es ++ Ends 0 ∷ []) (replicate (waiting + 1) (Takes 0))) (same ∙ start)
      ∙ ap (λ n. each_after rule.adds (es ++ Ends 0 ∷ []) (replicate n (Takes 0))) count

  -- the events with the end are these
  pub end_named : (es ++ Ends 0 ∷ []) ++ replicate (waiting + 1) (Takes 0) ≡ with_end rule es
  end_named =
      let count : waiting + 1 ≡ suc (rule.waiting es) = add-one waiting ∙ ap suc (waits ∙ ap (λ (r : EventRule). r.waiting es) start) in
      append_assoc es (Ends 0 ∷ []) (replicate (waiting + 1) (Takes 0)) ∙ ap (λ n. es ++ Ends 0 ∷ replicate n (Takes 0)) count

  -- what is written of the end and of the takes
  end_text : (first : List ℕ) → (first ++ old.adds es (Ends 0)) ++ each_after mid.adds (es ++ Ends 0 ∷ []) (replicate (waiting + 1) (Takes 0)) ≡ first ++ each_after rule.adds es (end_after rule es)
  end_text first =
      ap (λ t. (first ++ old.adds es (Ends 0)) ++ t) takes_named
      ∙ ap (λ (r : EventRule). (first ++ r.adds es (Ends 0)) ++ each_after rule.adds (es ++ Ends 0 ∷ []) (replicate (suc (rule.waiting es)) (Takes 0))) start
      ∙ append_assoc first (rule.adds es (Ends 0)) (each_after rule.adds (es ++ Ends 0 ∷ []) (replicate (suc (rule.waiting es)) (Takes 0)))

  -- both were gathered
  pub end_gathered : (before between now : Option (List ℕ)) (first held rest : List ℕ) → Gathers before between held (first ++ old.adds es (Ends 0)) → Gathers between now rest (held ++ each_after mid.adds (es ++ Ends 0 ∷ []) (replicate (waiting + 1) (Takes 0))) → Gathers before now rest (first ++ each_after rule.adds es (end_after rule es))
  end_gathered before between now first held rest before_it it =
      subst (λ (t : List ℕ). Gathers before now rest t) (end_text first)
      (gathers_both before between now held rest (first ++ old.adds es (Ends 0)) (each_after mid.adds (es ++ Ends 0 ∷ []) (replicate (waiting + 1) (Takes 0))) before_it it)

  -- a write failed at one of the takes
  pub end_stops : (before between now : Option (List ℕ)) (first held : List ℕ) → Gathers before between held (first ++ old.adds es (Ends 0)) → AppendsPrefix between now (held ++ each_after mid.adds (es ++ Ends 0 ∷ []) (replicate (waiting + 1) (Takes 0))) → AppendsPrefix before now (first ++ each_after rule.adds es (end_after rule es))
  end_stops before between now first held before_it it =
      subst (λ (t : List ℕ). AppendsPrefix before now t) (end_text first)
      (gathers_prefix before between now held (first ++ old.adds es (Ends 0)) (each_after mid.adds (es ++ Ends 0 ∷ []) (replicate (waiting + 1) (Takes 0))) before_it it)

  -- a write failed at the end itself
  pub end_alone : (before now : Option (List ℕ)) (first : List ℕ) → AppendsPrefix before now (first ++ old.adds es (Ends 0)) → AppendsPrefix before now (first ++ each_after rule.adds es (end_after rule es))
  end_alone before now first it =
      subst (λ (t : List ℕ). AppendsPrefix before now t) (end_text first)
      (prefix_longer before now (first ++ old.adds es (Ends 0)) (each_after mid.adds (es ++ Ends 0 ∷ []) (replicate (waiting + 1) (Takes 0))) it)
