-- The histories of records that are played one after another.
use Rattle.std.proofs.Common.{◌≡◌, ◌∙◌, ℕ, zero, suc, ◌+◌, true, List, [], ◌∷◌, ◌++◌, map, replicate, refl, sym, ap, subst, arith, add-one, append_assoc, append-nil}
use Rattle.std.specs.List.{flat_map, range_with_len}
use Rattle.std.proofs.lemmas.List.{map-append}
use Rattle.std.proofs.lemmas.List.Concat.{flat_map-append}
use Rattle.tesla_capture.specs.Capture.{Record}
use Rattle.tesla_fitting.specs.declared.config.Config.{Config}
use Rattle.tesla_receiver.specs.Entries.{Entry}
use Rattle.tesla_receiver.specs.History.{Event, Takes, Ends, entry_of}
use Rattle.tesla_replay.specs.Played.{event_in, played}
use Rattle.tesla_receiver.specs.Events.{after_events, waiting_in}
use Rattle.tesla_receiver.specs.Report.{report_of}
use Rattle.tesla_receiver.specs.Stands.{Stands}
use Rattle.tesla_receiver.proofs.Events.{after_one}
use Rattle.tesla_sender.specs.Made.{Stream}
use Rattle.tesla_state.specs.State.{State}
use Rattle.tesla_state.specs.declared.report.Report.{Report}
use Rattle.tesla_run_stress.specs.Load.{records_of, records_to}
use Rattle.tesla_run_stress.specs.Steps.{HasPlayed}

-- one record more adds the entry of its event
played_one : (cfg : Config) (records : List Record) (one : Record) → after_events cfg [] (map event_in (records ++ one ∷ [])) ≡ after_events cfg [] (map event_in records) ++ entry_of cfg (after_events cfg [] (map event_in records)) (event_in one) ∷ []
played_one cfg records one = ap (after_events cfg []) (map-append event_in records (one ∷ [])) ∙ after_one cfg [] (map event_in records) (event_in one)

pub played_more : (cfg : Config) (records : List Record) (one : Record) (before now : State) → HasPlayed cfg records before → now.config ≡ before.config → ((h : List Entry) → Stands before h → Stands now (h ++ entry_of before.config h (event_in one) ∷ [])) → HasPlayed cfg (records ++ one ∷ []) now
played_more cfg records one before now was same stands =
    let h : List Entry = after_events cfg [] (map event_in records) in
    record {
      config = same ∙ was.config;
      stands = subst (λ (l : List Entry). Stands now l) (sym (played_one cfg records one)) (subst (λ (c : Config). Stands now (h ++ entry_of c h (event_in one) ∷ [])) was.config (stands h was.stands));
    }

-- nothing more was played
pub played_none : (cfg : Config) (records : List Record) (now : State) → HasPlayed cfg records now → HasPlayed cfg (records ++ []) now
played_none cfg records now was = subst (λ (l : List Record). HasPlayed cfg l now) (sym (append-nil records)) was

-- one list of records behind another
pub played_both : (cfg : Config) (records first second : List Record) (now : State) → HasPlayed cfg ((records ++ first) ++ second) now → HasPlayed cfg (records ++ (first ++ second)) now
played_both cfg records first second now was = subst (λ (l : List Record). HasPlayed cfg l now) (append_assoc records first second) was

-- ---- takes

takes_more : (n : ℕ) → replicate (suc n) (Takes 0) ≡ replicate n (Takes 0) ++ Takes 0 ∷ []
takes_more zero = refl
takes_more (suc n) = ap (λ (l : List Event). Takes 0 ∷ l) (takes_more n)

-- one take more
pub take_more : (cfg : Config) (h : List Entry) (n : ℕ) (before now : State) → before.config ≡ cfg → Stands before (after_events cfg h (replicate n (Takes 0))) → ((l : List Entry) → Stands before l → Stands now (l ++ entry_of before.config l (Takes 0) ∷ [])) → Stands now (after_events cfg h (replicate (n + 1) (Takes 0)))
take_more cfg h n before now same was stands =
    let l : List Entry = after_events cfg h (replicate n (Takes 0)) in
    let more : after_events cfg h (replicate (n + 1) (Takes 0)) ≡ l ++ entry_of cfg l (Takes 0) ∷ [] =
    ap (λ (k : ℕ). after_events cfg h (replicate k (Takes 0))) (add-one n) ∙ ap (after_events cfg h) (takes_more n) ∙ after_one cfg h (replicate n (Takes 0)) (Takes 0) in
    subst (λ (x : List Entry). Stands now x) (sym more) (subst (λ (c : Config). Stands now (l ++ entry_of c l (Takes 0) ∷ [])) same (stands l was))

-- ---- the end

-- the report after the end and the takes behind it
pub finished : (cfg : Config) (records : List Record) (before ended taken : State) (waiting : ℕ) (report : Report) → HasPlayed cfg records before → ((h : List Entry) → Stands before h → waiting ≡ waiting_in before.config h) → ended.config ≡ before.config
    → ((h : List Entry) → Stands before h → Stands ended (h ++ entry_of before.config h (Ends 0) ∷ [])) → ((h : List Entry) → Stands ended h → Stands taken (after_events ended.config h (replicate (waiting + 1) (Takes 0)))) → ((h : List Entry) → Stands taken h → report ≡ report_of h) → report ≡ report_of (played cfg records true)
finished cfg records before ended taken waiting report was waits same ends takes reports =
    let h : List Entry = after_events cfg [] (map event_in records) in
    let over : List Entry = after_events cfg h (Ends 0 ∷ []) in
    let count : waiting + 1 ≡ suc (waiting_in cfg h) = add-one waiting ∙ ap suc (waits h was.stands ∙ ap (λ (c : Config). waiting_in c h) was.config) in
    let all : Stands taken (after_events ended.config over (replicate (waiting + 1) (Takes 0))) = takes over (ends h was.stands) in
    let here : Stands taken (after_events cfg over (replicate (waiting + 1) (Takes 0))) = subst (λ (c : Config). Stands taken (after_events c over (replicate (waiting + 1) (Takes 0)))) (same ∙ was.config) all in
    reports _ (subst (λ (n : ℕ). Stands taken (after_events cfg over (replicate n (Takes 0)))) count here)

-- ---- the records of the messages

range_more : (from n : ℕ) → range_with_len from (suc n) ≡ range_with_len from n ++ (from + n) ∷ []
range_more from zero = ap (λ (k : ℕ). k ∷ []) (omega arith)
range_more from (suc n) =
    let offset : from + 1 + n ≡ from + suc n = omega arith in
    ap (λ (l : List ℕ). from ∷ l) (range_more (from + 1) n ∙ ap (λ (k : ℕ). range_with_len (from + 1) n ++ k ∷ []) offset)

pub numbers_more : (n : ℕ) → range_with_len 0 (n + 1) ≡ range_with_len 0 n ++ n ∷ []
numbers_more n =
    let offset : 0 + n ≡ n = omega arith in
    ap (range_with_len 0) (add-one n) ∙ range_more 0 n ∙ ap (λ (k : ℕ). range_with_len 0 n ++ k ∷ []) offset

pub records_none : (stream : Stream) (seed : ℕ) → records_to stream seed 0 ≡ []
unfolding records_to
records_none stream seed = refl

pub records_more : (stream : Stream) (seed k : ℕ) → records_to stream seed (k + 1) ≡ records_to stream seed k ++ records_of stream seed k
unfolding records_to
records_more stream seed k =
    ap (flat_map (records_of stream seed)) (numbers_more k) ∙ flat_map-append (records_of stream seed) (range_with_len 0 k) (k ∷ [])
    ∙ ap (λ (l : List Record). flat_map (records_of stream seed) (range_with_len 0 k) ++ l) (append-nil (records_of stream seed k))
