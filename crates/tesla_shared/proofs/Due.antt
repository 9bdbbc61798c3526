-- What a pass has taken is due, told of the whole history that it has seen.
use Rattle.std.proofs.Common.{◌≡◌, ◌∙◌, ℕ, suc, ◌+◌, ◌==◌, Bool, true, List, [], ◌∷◌, ◌++◌, Option, Some, None, refl, sym, ap, subst, append_assoc}
use Rattle.std.specs.Prelude.{IfSome}
use Rattle.std.specs.List.{list_all}
use Rattle.std.proofs.lemmas.Bool.{and_from, eq-eqb}
use Rattle.tesla_desk.specs.Outside.{with_bytes}
use Rattle.tesla_receiver.specs.declared.history.Entry.{Entry}
use Rattle.tesla_turn.specs.Held.{Held}
use Rattle.tesla_turn.specs.History.{calls_by, entries}
use Rattle.tesla_turn.specs.Permitted.{ArePermitted}
use Rattle.tesla_turn.specs.declared.view.Call.{Call}
use Rattle.tesla_shared.specs.Due.{IsDue, IsOfWorker, IsTaken}
use Rattle.tesla_shared.specs.Whole.{pass_of, replies_by, reply_by}
use Rattle.tesla_shared.specs.Workers.{takes_of}
use Rattle.tesla_shared.specs.Yields.{Yield, records}
use Rattle.tesla_shared.proofs.Whole.{replies_of_sink, reply_elsewhere}
use Rattle.tesla_shared.proofs.WholeLists.{calls_by_entries, flat_map-filter}

module _ {V R : Type 0} (read_for : ℕ → List ℕ → ℕ → Bool) (links : ℕ) where
  own_from : (whole before log : List (Call (Entry V R))) → whole ≡ before ++ log → ArePermitted (IsOfWorker read_for links) whole → list_all (λ (c : Call (Entry V R)). pass_of links c.entry == c.by) log ≡ true
  own_from whole before [] are permitted = refl
  own_from whole before (call ∷ log) are permitted =
      and_from (pass_of links call.entry == call.by) (list_all (λ (c : Call (Entry V R)). pass_of links c.entry == c.by) log)
      (eq-eqb (pass_of links call.entry) call.by (sym (permitted.each before call log are).own))
      (own_from whole (before ++ call ∷ []) log (are ∙ sym (append_assoc before (call ∷ []) log)) permitted)

  -- the answers to a releaser are those to the pass of its worker
  pub replies_own : (releaser : ℕ) (log : List (Call (Entry V R))) → ArePermitted (IsOfWorker read_for links) log → replies_by releaser (entries log) ≡ replies_by releaser (calls_by (suc (links + releaser)) log)
  replies_own releaser log permitted =
      sym (flat_map-filter (λ (e : Entry V R). pass_of links e == suc (links + releaser)) (reply_by releaser) (reply_elsewhere links releaser) (entries log))
      ∙ ap (replies_by releaser) (sym (calls_by_entries (pass_of links) (suc (links + releaser)) log (own_from log [] log refl permitted)))

-- what was written behind nothing
pub written_first : (first written : Option (List ℕ)) (text : List ℕ) → IfSome first (λ bytes. bytes ≡ []) → written ≡ with_bytes first text → IfSome written (λ bytes. bytes ≡ text)
written_first None written text none is = subst (λ (w : Option (List ℕ)). IfSome w (λ bytes. bytes ≡ text)) (sym is) tt
written_first (Some bytes) written text none is = subst (λ (w : Option (List ℕ)). IfSome w (λ bytes. bytes ≡ text)) (sym is) (ap (λ (bs : List ℕ). bs ++ text) none)

module _ {X C V R : Type 0} (config_of : X → C) (stands : X → List (Entry V R) → Type 0) (is_legal : C → List (Entry V R) → Type 0) (ingests : C → ℕ) (yields : R → Yield) (read_for : ℕ → List ℕ → ℕ → Bool) where
  -- an answer that was taken by the pass of a releaser's worker is due to it
  pub taken_due : ((value : X) (h : List (Entry V R)) → stands value h → is_legal (config_of value) h)
      → (cfg : C) (releaser : ℕ) (before : Held C (Entry V R)) (first written : Option (List ℕ)) (reply : R)
      → before.config ≡ Some cfg → before.made ≡ [] → before.number ≡ suc (ingests cfg + releaser) → IfSome first (λ bytes. bytes ≡ [])
      → IsTaken config_of stands (λ own. IsOfWorker read_for (ingests own)) yields releaser before first written reply → IsDue yields (is_legal cfg) (ingests cfg) read_for releaser written reply
  taken_due legal cfg releaser before first written reply configured none numbered empty taken =
      let links = ingests cfg in
      let log = taken.pass.seen in
      let (value, stood, own) = taken.stood in
      let configs : Some cfg ≡ Some (config_of value) = sym configured ∙ sym taken.config ∙ own in
      let same : cfg ≡ config_of value = cc in
      let permitted : ArePermitted (IsOfWorker read_for links) log = taken.permitted cfg (taken.config ∙ configured) in
      let number : taken.pass.number ≡ suc (links + releaser) = taken.number ∙ numbered in
      let calls : calls_by (suc (links + releaser)) log ≡ takes_of releaser (taken.answers ++ reply ∷ []) =
      ap (λ (k : ℕ). calls_by k log) (sym number) ∙ taken.calls ∙ ap (λ (es : List (Entry V R)). es ++ takes_of releaser (taken.answers ++ reply ∷ [])) none in
      record {
        log = log;
        legal = subst (λ (c : C). is_legal c (entries log)) (sym same) (legal value (entries log) stood);
        calls = permitted;
        answers = taken.answers;
        replies = replies_own read_for links releaser log permitted ∙ ap (replies_by releaser) calls ∙ replies_of_sink V releaser (taken.answers ++ reply ∷ []);
        written_is = written_first first written (records yields taken.answers) empty taken.written_is;
      }
