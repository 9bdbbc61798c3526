-- What is written of an arrival, told whether it is early.
use Rattle.std.proofs.Common.{◌≡◌, ◌∙◌, ℕ, Bool, true, false, cond, Option, None, List, [], ◌∷◌, length, if◌then◌else◌, refl, sym, ap}
use Rattle.tesla_receiver.specs.Entries.{Arrival, Entry}
use Rattle.tesla_receiver.specs.declared.history.Entry.TheVariants.{Arrived}
use Rattle.tesla_early.specs.Early.{Message, is_early, is_promised, learnt, may_be_early, message_of}
use Rattle.tesla_early.specs.Learnt.{Learnt}
use Rattle.tesla_early.specs.Counted.{early_in}
use Rattle.tesla_run_early.specs.Records.{early_record_in, message_text}

-- where a verdict makes no message early, none is written
same_text : (most : ℕ) (promised : List Learnt) (may : Bool) (message : Option Message)
    → cond (is_promised most promised (if may then message else None)) (message_text message) [] ≡ cond (is_promised most promised (if may then message else None)) (message_text (if may then message else None)) []
same_text most promised true message = refl
same_text most promised false message = refl

-- told an entry that is this arrival, and whether it is early
module _ (most : ℕ) (history : List Entry) (arrival : Arrival) (entry : Entry) (early : Bool) (answered : Arrived arrival ≡ entry) (told : early ≡ is_early most history arrival) where
  -- the record of its message is written where it is
  pub message_written : cond early (message_text (message_of arrival.bytes)) [] ≡ early_record_in most 0 history entry
  message_written =
      ap (λ (e : Bool). cond e (message_text (message_of arrival.bytes)) []) told
      ∙ same_text most (learnt most history) (may_be_early arrival.verdict) (message_of arrival.bytes)
      ∙ ap (early_record_in most 0 history) answered

  count_by : (e : Bool) → length (cond e (arrival ∷ []) []) ≡ cond e 1 0
  count_by true = refl
  count_by false = refl

  -- it counts where it is
  pub counts_one : length (early_in most history entry) ≡ cond early 1 0
  counts_one = ap (λ (e : Entry). length (early_in most history e)) (sym answered) ∙ count_by (is_early most history arrival) ∙ ap (λ (e : Bool). cond e 1 0) (sym told)
