-- The records of a load, as they are played.
use Rattle.std.proofs.Common.{◌≡◌, ◌∙◌, ℕ, List, [], ◌∷◌, ◌++◌, Option, ap, subst}
use Rattle.tesla_capture.specs.Capture.{Record, Arrives, Takes}
use Rattle.tesla_fitting.specs.declared.config.Config.{Config}
use Rattle.tesla_state.specs.State.{State}
use Rattle.tesla_run_stress.specs.Base.{base_stream, last_of}
use Rattle.tesla_run_stress.specs.Load.{arrivals_chosen, choice_at, disclosure_text, end_reading, load, message_text, records_of, records_to, text_before}
use Rattle.tesla_run_stress.specs.Steps.{HasPlayed}
use Rattle.tesla_run_stress.proofs.Histories.{played_both}

-- the records of a message were played
pub message_played : (cfg : Config) (records : List Record) (seed k choice count : ℕ) (text : List ℕ) (before : Option (List ℕ)) (now : State) → choice ≡ choice_at seed k → text ≡ message_text (base_stream count) k → before ≡ text_before (base_stream count) k → HasPlayed cfg ((records ++ arrivals_chosen choice k text before) ++ Takes ∷ []) now → HasPlayed cfg (records ++ records_of (base_stream count) seed k) now
message_played cfg records seed k choice count text before now is makes had all =
    let same : arrivals_chosen choice k text before ≡ arrivals_chosen (choice_at seed k) k (message_text (base_stream count) k) (text_before (base_stream count) k) =
    ap (λ (c : ℕ). arrivals_chosen c k text before) is ∙ ap (λ (t : List ℕ). arrivals_chosen (choice_at seed k) k t before) makes ∙ ap (arrivals_chosen (choice_at seed k) k (message_text (base_stream count) k)) had in
    subst (λ (l : List Record). HasPlayed cfg (records ++ (l ++ Takes ∷ [])) now) same (played_both cfg records (arrivals_chosen choice k text before) (Takes ∷ []) now all)

-- all records of a load
pub load_is : (seed count before reading : ℕ) (text : List ℕ) → before ≡ count → reading ≡ end_reading (last_of before) → text ≡ disclosure_text (base_stream before) before → records_to (base_stream before) seed before ++ Arrives reading text ∷ [] ≡ load (base_stream count) seed count
load_is seed count before reading text same reads tells =
    ap (λ (r : ℕ). records_to (base_stream before) seed before ++ Arrives r text ∷ []) reads
    ∙ ap (λ (t : List ℕ). records_to (base_stream before) seed before ++ Arrives (end_reading (last_of before)) t ∷ []) tells
    ∙ ap (λ (n : ℕ). load (base_stream n) seed n) same
