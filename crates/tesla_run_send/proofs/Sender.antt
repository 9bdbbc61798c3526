-- The opening of a sender, from its steps, and the files of a command that begins with it.
use Rattle.std.proofs.Common.{◌≡◌, ◌∙◌, ◌⊎◌, inl, inr, ℕ, zero, suc, ◌+◌, ◌≤◌, Option, Some, None, Ok, Err, List, [], ◌∷◌, ◌++◌, length, take, codes, refl, sym, ap, subst, arith, append_assoc}
use Rattle.std.specs.Option.{option_map}
use Rattle.tesla_base.specs.declared.names.ChainNo.{ChainNo}
use Rattle.tesla_base.specs.declared.names.Key.{Key}
use Rattle.tesla_commit.specs.Parts.{Parts}
use Rattle.tesla_desk.specs.Faults.{Faults, HasCauses}
use Rattle.tesla_desk.specs.Outside.{Opening, OfSource, Page, Told, with_openings}
use Rattle.tesla_desk.proofs.Counts.{cause_none, causes_none}
use Rattle.tesla_front.specs.OutcomeView.{OutcomeView, Refused, Failed, stop_view}
use Rattle.tesla_front.specs.Openings.{IsAmong, Opens, OpensSome, file_told}
use Rattle.tesla_front.specs.Refusal.{StopCauses, refused_line}
use Rattle.tesla_front.specs.Seeds.{IsNoSeeds, IsSeedsIn}
use Rattle.tesla_front.specs.Setup.{IsNoSetup, IsSetupIn}
use Rattle.tesla_front.specs.declared.fault.Fault.{Fault}
use Rattle.tesla_front.specs.declared.fault.Fault.TheVariants as faults
use Rattle.tesla_front.specs.declared.refusal.Stop.{Stop}
use Rattle.tesla_front.proofs.Commands.{counts_stopped}
use Rattle.tesla_front.proofs.Openings.{opens_some, opens_then}
use Rattle.tesla_sender.specs.Chains.{wrong_seed}
use Rattle.tesla_sender.specs.Made.{Chain, Stream, chains_of}
use Rattle.tesla_sender.specs.Opening.{first_wrong}
use Rattle.tesla_sender.specs.declared.refusal.SenderRefusal.{SenderRefusal}
use Rattle.tesla_sender.specs.declared.refusal.SenderRefusal.TheVariants as unopened_for
use Rattle.tesla_run_send.specs.Sender.{IsFoundIn, IsNoSender, IsStreamIn, LacksSeeds, LacksSender, OpensNoSender, OpensSender, ReadsNoStream, ReadsStream, wrong_line}

-- ---- a wrong seed

wrong_by : (found : Option Chain) (number : ChainNo) (made : Key) → option_map wrong_seed found ≡ Some (unopened_for.WrongSeed number made) → option_map (λ (chain : Chain). chain.number + 2) found ≡ Some (number.0 + 2)
wrong_by None number made e = absurd cc
wrong_by (Some chain) number made e =
    let same : ◌≡◌ {A = ChainNo} (record { 0 = chain.number }) number = cc in
    ap (λ (n : ChainNo). Some (n.0 + 2)) same

-- a seed is wrong: its line is told
pub seed_is_wrong : (stream : Stream) (refusal : SenderRefusal) (number : ChainNo) (line status : ℕ) (text : List ℕ) (made : Key) → refusal ≡ unopened_for.WrongSeed number made → line ≡ number.0 + 2 → status ≡ 3 → text ≡ refused_line (codes "seeds") line (codes "WrongSeed")
    → (refusal ≡ unopened_for.NoMemory) ⊎ (option_map wrong_seed (first_wrong (chains_of stream)) ≡ Some refusal) → IsNoSender stream (Refused status text)
seed_is_wrong stream refusal number line status text made is told three spelled (inl none) = absurd cc
seed_is_wrong stream refusal number line status text made is told three spelled (inr wrong) = inl (
  line,
  wrong_by (first_wrong (chains_of stream)) number made (wrong ∙ ap (λ (r : SenderRefusal). Some r) is) ∙ ap (λ (n : ℕ). Some n) (sym told),
  ap (λ (s : ℕ). Refused s text) three ∙ ap (λ (t : List ℕ). Refused 3 t) spelled,
)

-- why no sender is opened is no fault but want of memory
pub no_sender_fault : (stream : Stream) (outcome : OutcomeView) (fault : Fault) → IsNoSender stream outcome → (fault ≡ faults.NoMemory → ⊥) → outcome ≡ Failed fault → ⊥
no_sender_fault stream outcome fault (inl (line, wrong, told)) other e = cc
no_sender_fault stream outcome fault (inr told) other e = let memory : fault ≡ faults.NoMemory = cc in other memory

-- ---- no sender

-- what a stop raised, whatever its call gives else
stop_causes : {A : Type 0} (stop : Stop) (old new : Faults) → StopCauses {A = A} (Err stop) old new → HasCauses old new (stop_view stop ≡ Failed faults.Read) (stop_view stop ≡ Failed faults.Write) (stop_view stop ≡ Failed faults.Open)
stop_causes {A} stop old new causes =
    let beside = counts_stopped {hidden = ⊥} {A = A} stop old new causes in
    record { reads = beside.reads; writes = record { stays = beside.writes.stays; rose = beside.writes.rose; still = λ none. beside.writes.still none (λ never. never) }; openings = beside.openings }

module _ (setup secret : List ℕ) (old : Told) where
  -- there was no setup
  pub unset : (stop : Stop) (new : Told) → OpensSome (OfSource setup ∷ []) old new → new.live ≡ old.live → IsNoSetup (old.page setup) (stop_view stop) → StopCauses {A = Parts} (Err stop) old.faults new.faults → ReadsNoStream setup secret (stop_view stop) old new
  unset stop new opens live why causes =
      let it = opens_some (OfSource setup) (OfSource secret ∷ []) old new opens in
      record { opened = it.0; few = omega (arith, it.1); opens = it.2; live = live; why = inl (record { alone = it.1; why = why }); causes = stop_causes stop old.faults new.faults causes }

  -- there was one
  module _ (parts : Parts) (mid : Told) (first : Opens (OfSource setup ∷ []) 1 old mid) (pages : (name : List ℕ) → mid.page name ≡ old.page name) (live : mid.live ≡ old.live) (still : StopCauses {A = Parts} (Ok parts) old.faults mid.faults) (found : IsSetupIn (old.page setup) parts) where
    set_counts : mid.faults ≡ old.faults
    set_counts = causes_none old.faults mid.faults still (λ e. absurd cc) (λ e. absurd cc) (λ e. absurd cc)

    -- there were no seeds
    pub unseeded : (stop : Stop) (new : Told) → OpensSome (OfSource secret ∷ []) mid new → new.live ≡ mid.live → IsNoSeeds (length parts.rows) (mid.page secret) (stop_view stop) → StopCauses {A = List Key} (Err stop) mid.faults new.faults → ReadsNoStream setup secret (stop_view stop) old new
    unseeded stop new opens same why causes =
        let it = opens_some (OfSource secret) [] mid new opens in
        record {
          opened = suc it.0;
          few = omega (arith, it.1);
          opens = opens_then (OfSource setup) (OfSource secret ∷ []) it.0 old mid new first it.2;
          live = same ∙ live;
          why = inr (record { parts = parts; found = found; few = omega (arith, it.1); why = subst (λ (p : Page). IsNoSeeds (length parts.rows) p (stop_view stop)) (pages secret) why });
          causes = subst (λ (f : Faults). HasCauses f new.faults (stop_view stop ≡ Failed faults.Read) (stop_view stop ≡ Failed faults.Write) (stop_view stop ≡ Failed faults.Open)) set_counts (stop_causes stop mid.faults new.faults causes);
        }

    -- there were seeds
    module _ (seeds : List Key) (new : Told) (second : Opens (OfSource secret ∷ []) 1 mid new) (pages_then : (name : List ℕ) → new.page name ≡ mid.page name) (same : new.live ≡ mid.live) (still_then : StopCauses {A = List Key} (Ok seeds) mid.faults new.faults) (count : length seeds ≡ length parts.rows) (seeds_found : IsSeedsIn (length parts.rows) (mid.page secret) seeds) where
      both : Opens (OfSource setup ∷ OfSource secret ∷ []) 2 old new
      both = opens_then (OfSource setup) (OfSource secret ∷ []) 1 old mid new first second

      both_counts : new.faults ≡ old.faults
      both_counts = causes_none mid.faults new.faults still_then (λ e. absurd cc) (λ e. absurd cc) (λ e. absurd cc) ∙ set_counts

      both_found : IsFoundIn (old.page setup) (old.page secret) (record { setup = parts; seeds = seeds })
      both_found = record { setup_found = found; count = count; seeds_found = subst (λ (p : Page). IsSeedsIn (length parts.rows) p seeds) (pages secret) seeds_found }

      -- which are read
      pub seeded : ReadsStream setup secret (record { setup = parts; seeds = seeds }) old new
      seeded = record { opens = both; pages = λ name. pages_then name ∙ pages name; live = same ∙ live; counts = both_counts; is = both_found }

-- ---- the sender

-- without seeds there is no sender
pub unread : (setup secret : List ℕ) (outcome : OutcomeView) (old new : Told) → ReadsNoStream setup secret outcome old new → OpensNoSender setup secret outcome old new
unread setup secret outcome old new none = record {
  opened = none.opened;
  few = none.few;
  opens = none.opens;
  live = none.live;
  why = lacks none.why;
  causes = none.causes;
} where
  lacks : LacksSeeds (file_told old setup) (file_told old secret) none.opened outcome → LacksSender (file_told old setup) (file_told old secret) none.opened outcome
  lacks (inl alone) = inl alone
  lacks (inr at) = inr (inl at)

-- there are seeds, but no sender with them
pub unopened : (setup secret : List ℕ) (stream : Stream) (outcome : OutcomeView) (old new : Told) → ReadsStream setup secret stream old new → IsNoSender stream outcome → OpensNoSender setup secret outcome old new
unopened setup secret stream outcome old new read why = record {
  opened = 2;
  few = omega arith;
  opens = read.opens;
  live = read.live;
  why = inr (inr (record { stream = stream; found = read.is; few = omega arith; why = why }));
  causes = record {
    reads = cause_none old.faults.reads new.faults.reads (ap (λ (f : Faults). f.reads) read.counts) (no_sender_fault stream outcome faults.Read why (λ e. cc));
    writes = cause_none old.faults.writes new.faults.writes (ap (λ (f : Faults). f.writes) read.counts) (no_sender_fault stream outcome faults.Write why (λ e. cc));
    openings = cause_none old.faults.openings new.faults.openings (ap (λ (f : Faults). f.openings) read.counts) (no_sender_fault stream outcome faults.Open why (λ e. cc));
  };
}

-- and the sender of both
pub opened : (setup secret : List ℕ) (stream sent : Stream) (old new : Told) → ReadsStream setup secret stream old new → sent ≡ stream → wrong_line stream ≡ None → OpensSender setup secret sent old new
opened setup secret stream sent old new read is right = record {
  opens = read.opens;
  pages = read.pages;
  live = read.live;
  counts = read.counts;
  is = subst (λ (s : Stream). IsStreamIn (file_told old setup) (file_told old secret) s) (sym is) (record { found = read.is; right = right });
}

-- ---- the files of a command that begins with both

openings_more : (told : Option (List Opening)) (first others : List Opening) → with_openings (with_openings told first) others ≡ with_openings told (first ++ others)
openings_more None first others = refl
openings_more (Some before) first others = ap (λ openings. Some openings) (append_assoc before first others)

-- no file behind both was asked for
pub opens_no_more : (first second : Opening) (files : List Opening) (opened : ℕ) (before now : Told) → opened ≤ 2 → Opens (first ∷ second ∷ []) opened before now → Opens (first ∷ second ∷ files) opened before now
opens_no_more first second files zero before now few opens = record { asked = opens.asked; pages = opens.pages; lefts = opens.lefts }
opens_no_more first second files (suc zero) before now few opens = record { asked = opens.asked; pages = opens.pages; lefts = opens.lefts }
opens_no_more first second files (suc (suc zero)) before now few opens = record { asked = opens.asked; pages = opens.pages; lefts = opens.lefts }
opens_no_more first second files (suc (suc (suc n))) before now few opens = absurd (omega (arith, few))

both_alone : (opening first second : Opening) (others : List Opening) → (IsAmong opening (first ∷ second ∷ others) → ⊥) → IsAmong opening (first ∷ second ∷ []) → ⊥
both_alone opening first second others none (inl same) = none (inl same)
both_alone opening first second others none (inr (inl same)) = none (inr (inl same))
both_alone opening first second others none (inr (inr never)) = never

-- both were opened, and then so many of the others
pub opens_behind : (setup secret : List ℕ) (files : List Opening) (opened : ℕ) (before mid now : Told) → Opens (OfSource setup ∷ OfSource secret ∷ []) 2 before mid → ((name : List ℕ) → mid.page name ≡ before.page name) → Opens files opened mid now → Opens (OfSource setup ∷ OfSource secret ∷ files) (suc (suc opened)) before now
opens_behind setup secret files opened before mid now both pages then = record {
  asked = then.asked ∙ ap (λ told. with_openings told (take opened files)) both.asked ∙ openings_more before.openings (OfSource setup ∷ OfSource secret ∷ []) (take opened files);
  pages = λ name none. then.pages name (λ among. none (inr (inr among))) ∙ pages name;
  lefts = λ name none. then.lefts name (λ among. none (inr (inr among))) ∙ both.lefts name (both_alone (OfSource name) (OfSource setup) (OfSource secret) (take opened files) none);
}
