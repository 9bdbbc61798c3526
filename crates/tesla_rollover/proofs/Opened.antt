-- What comes of the opening of a further epoch.
use Rattle.std.proofs.Common.{◌≡◌, ◌+◌, ◌-◌, eqb, ◌<◌, ◌≤◌, ℕ, suc, Bool, true, false, cond, not, ◌&&◌, List, [], ◌∷◌, ◌++◌, length, map, get_or, Option, Some, Result, Ok, nat_lt, ap, sym, refl, subst, ◌∙◌, arith}
use Rattle.std.specs.Option.{is_some}
use Rattle.std.specs.List.{filter, list_any, position, range_with_len}
use Rattle.std.proofs.lemmas.Bool.{and_parts, eq-eqb, ne_eqb}
use Rattle.std.proofs.lemmas.Bool.Decides.{nat_tests}
use Rattle.std.proofs.lemmas.List.{append-nil, map-append, map-id}
use Rattle.std.proofs.lemmas.List.Elements.{filter-append}
use Rattle.std.proofs.lemmas.List.FromFn.{map-range_with_len_more}
use Rattle.tesla_commit.specs.Parsing.{judged}
use Rattle.tesla_commit.specs.Parts.{Parts}
use Rattle.tesla_commit.specs.declared.refusal.SetupKind.{SetupKind}
use Rattle.tesla_fitting.specs.declared.config.Config.{Config}
use Rattle.tesla_base.specs.declared.names.StreamId.{StreamId}
use Rattle.tesla_receiver.specs.History.{has_end}
use Rattle.tesla_receiver.specs.Stands.{Stands}
use Rattle.tesla_receiver.specs.Entries.{Entry}
use Rattle.tesla_receiver.specs.declared.history.Entry.TheVariants.{Ended}
use Rattle.tesla_state.specs.State.{State}
use Rattle.tesla_rollover.specs.Epochs.{has_stream, next_judged, next_of, next_spelled}
use Rattle.tesla_rollover.specs.History.{config_with}
use Rattle.tesla_rollover.specs.Kept.{configs_of, ends_in, receiver_of, receivers_of}
use Rattle.tesla_rollover.specs.declared.answers.Next.{Next}
use Rattle.tesla_rollover.specs.declared.answers.Next.TheVariants.{Plain, Old, EpochsSpent, BadSetup, UsedStream, NoMemory, Opened}
use Rattle.tesla_rollover.specs.Replies.{had_memory}
use Rattle.tesla_rollover.specs.Handover.{handover_text, setup_in, setup_judged, setup_spelled}
use Rattle.tesla_rollover.specs.declared.epoch.Epoch.{Epoch}
use Rattle.tesla_rollover.proofs.Found.{any_position_found}

-- ---- the ends that it begins with

numbers_more : (n : ℕ) → range_with_len 0 (n + 1) ≡ range_with_len 0 n ++ n ∷ []
numbers_more n = sym (map-id (range_with_len 0 (n + 1))) ∙ map-range_with_len_more (λ (k : ℕ). k) 0 n n (omega arith) ∙ ap (λ (ns : List ℕ). ns ++ n ∷ []) (map-id (range_with_len 0 n))

ends_more : (n : ℕ) (history : List Entry) → ends_in (n + 1) history ≡ ends_in n history ++ map (λ (ingest : ℕ). Ended ingest) (cond (has_end history n) (n ∷ []) [])
ends_more n history =
    ap (λ (ns : List ℕ). map (λ (ingest : ℕ). Ended ingest) (filter (has_end history) ns)) (numbers_more n)
    ∙ ap (λ (ns : List ℕ). map (λ (ingest : ℕ). Ended ingest) ns) (filter-append (has_end history) (range_with_len 0 n) (n ∷ []))
    ∙ map-append (λ (ingest : ℕ). Ended ingest) (filter (has_end history) (range_with_len 0 n)) (cond (has_end history n) (n ∷ []) [])

-- an ingest more that has ended
pub ends_ended : (n : ℕ) (history : List Entry) → has_end history n ≡ true → ends_in (n + 1) history ≡ ends_in n history ++ Ended n ∷ []
ends_ended n history ended = ends_more n history ∙ ap (λ (ended : Bool). ends_in n history ++ map (λ (ingest : ℕ). Ended ingest) (cond ended (n ∷ []) [])) ended

-- one more that hasn't
pub ends_same : (n : ℕ) (history : List Entry) → has_end history n ≡ false → ends_in (n + 1) history ≡ ends_in n history
ends_same n history ended =
    ends_more n history ∙ ap (λ (ended : Bool). ends_in n history ++ map (λ (ingest : ℕ). Ended ingest) (cond ended (n ∷ []) [])) ended
    ∙ append-nil (ends_in n history)

-- a receiver stands for the ends of the ingests below that have ended in the history of the first
abbrev pub StandsEnded : State → State → ℕ → Type 0
StandsEnded first state n = (history : List Entry) → Stands first history → Stands state (ends_in n history)

-- the first has told whether an ingest has ended
abbrev pub TellsEnd : State → ℕ → Bool → Type 0
TellsEnd first n has = (history : List Entry) → Stands first history → has ≡ (nat_lt n first.config.ingests && has_end history n)

-- a receiver is open, and the ends of the ingests below are made
pub record IsOpening (cfg : Config) (first : State) (setup : Parts) (n : ℕ) (state : State) : Type 0 where
  pub config : state.config ≡ config_with cfg setup
  pub stands : StandsEnded first state n
  pub few : state.calls ≤ n

pub end_made : (first old new : State) (n : ℕ) (has : Bool) → TellsEnd first n has → has ≡ true → StandsEnded first old n
    → ((history : List Entry) → Stands old history → Stands new (history ++ Ended n ∷ [])) → StandsEnded first new (n + 1)
end_made first old new n has tells is old_stands makes history stands =
    let ended : has_end history n ≡ true = (and_parts (nat_lt n first.config.ingests) (has_end history n) (sym (tells history stands) ∙ is)).1 in
    subst (λ (ends : List Entry). Stands new ends) (sym (ends_ended n history ended)) (makes (ends_in n history) (old_stands history stands))

pub no_end_made : (first state : State) (n : ℕ) (has : Bool) → n < first.config.ingests → TellsEnd first n has → has ≡ false → StandsEnded first state n → StandsEnded first state (n + 1)
no_end_made first state n has below tells is old_stands history stands =
    let within : nat_lt n first.config.ingests ≡ true = grind (arith, nat_tests) in
    let ended : has_end history n ≡ false = ap (λ (b : Bool). b && has_end history n) (sym within) ∙ sym (tells history stands) ∙ is in
    subst (λ (ends : List Entry). Stands state ends) (sym (ends_same n history ended)) (old_stands history stands)

-- ---- what its setup comes to

-- a setup whose stream has an epoch is refused, and one whose stream has none is opened, where there is memory
pub next_is : (epochs found_in : List Epoch) (setup : Parts) (stream : StreamId) (spelled : Result Parts (ℕ × SetupKind)) (found : Option ℕ) (used enough : Bool)
    → found_in ≡ epochs → stream ≡ setup.stream → spelled ≡ Ok setup → found ≡ position (has_stream stream) (configs_of found_in) → used ≡ is_some found
    → cond used (UsedStream stream) (cond enough Opened NoMemory) ≡ next_judged (configs_of epochs) enough spelled
next_is epochs found_in setup stream spelled found used enough same own is place some =
    let any : used ≡ list_any (has_stream setup.stream) (configs_of epochs) =
    some ∙ ap (λ (o : Option ℕ). is_some o) place ∙ ap (λ (es : List Epoch). is_some (position (has_stream stream) (configs_of es))) same
    ∙ ap (λ (s : StreamId). is_some (position (has_stream s) (configs_of epochs))) own ∙ sym (any_position_found (has_stream setup.stream) (configs_of epochs)) in
    let unused : Next = cond enough Opened NoMemory in
    ap (λ (s : StreamId). cond used (UsedStream s) unused) own
    ∙ ap (λ (b : Bool). cond b (UsedStream setup.stream) unused) any
    ∙ sym (ap (λ (judged : Result Parts (ℕ × SetupKind)). next_judged (configs_of epochs) enough judged) is)

-- the receiver of the first epoch
pub first_is : (epochs : List Epoch) (epoch : Epoch) (first : State) (rest : List State) → get_or epochs 0 epoch ≡ epoch → receivers_of epochs ≡ first ∷ rest → epoch.receiver ≡ first
first_is [] epoch first rest is receivers = cc
first_is (own ∷ epochs) epoch first rest is receivers = let same : own.receiver ≡ first = cc in ap receiver_of (sym is) ∙ same

-- ---- what a packet's payload comes to

-- a handover by the newest of less than sixteen epochs comes to what its text is judged
pub next_newest : (configs : List Config) (number : ℕ) (payload text : List ℕ) (next : Next)
    → handover_text payload ≡ Some text → suc number ≡ length configs → (length configs ≡ 16 → ⊥) → next ≡ next_judged configs (had_memory next) (judged text)
    → next ≡ next_of configs number (had_memory next) payload
next_newest configs number payload text next is newest few judged_is =
    let spelled : Next = next_judged configs (had_memory next) (judged text) in
    let few_enough : Next = cond (eqb (length configs) 16) EpochsSpent spelled in
    let apart : eqb (length configs) 16 ≡ false = ne_eqb (length configs) 16 few in
    judged_is
    ∙ sym (ap (next_spelled configs number (had_memory next)) is
    ∙ ap (λ (b : Bool). cond (not b) (Old (length configs - 1)) few_enough) (eq-eqb (suc number) (length configs) newest)
    ∙ ap (λ (b : Bool). cond b EpochsSpent spelled) apart)

-- the setup that it hands over to
pub spelled_setup : (payload text : List ℕ) (setup : Parts) → handover_text payload ≡ Some text → judged text ≡ Ok setup → setup_in payload ≡ setup ∷ []
spelled_setup payload text setup is own = ap setup_spelled is ∙ ap setup_judged own
