-- The setup of a load, its seeds, and that they belong together.
use Rattle.std.proofs.Common.{◌≡◌, ◌∙◌, ◌⊎◌, inl, inr, ℕ, zero, suc, ◌-◌, ◌<◌, ◌≤◌, true, List, length, replicate, Some, None, Result, Ok, Err, refl, sym, ap, subst, arith}
use Rattle.std.proofs.lemmas.Bool.Decides.{nat_tests}
use Rattle.std.proofs.lemmas.Slice.Eq.{bytes_eq-Decides}
use Rattle.std.specs.Prelude.{bytes_eq, slice_index}
use Rattle.tesla_base.specs.declared.names.Key.{Key}
use Rattle.tesla_base.specs.Version.{longest_tag, shortest_tag}
use Rattle.tesla_clock.specs.Schedule.{IsSchedule, Times}
use Rattle.tesla_commit.specs.ChainRows.{parts_judged}
use Rattle.tesla_commit.specs.JudgedLines.{Answers, within}
use Rattle.tesla_commit.specs.Parts.{Parts, IsSetupOf}
use Rattle.tesla_commit.specs.declared.chain_row.ChainRow.{ChainRow}
use Rattle.tesla_commit.specs.declared.refusal.SetupKind.{SetupKind}
use Rattle.tesla_commit.specs.declared.refusal.SetupRefusal.{SetupRefusal}
use Rattle.tesla_commit.specs.declared.refusal.SetupRefusal.TheVariants as refusals
use Rattle.tesla_commit.proofs.RowLaws.{setup_again}
use Rattle.tesla_prf.specs.Keys.{walk}
use Rattle.tesla_seeds.specs.Text.{IsKey, IsSeeds, seeds_text}
use Rattle.tesla_seeds.specs.declared.refusal.SeedsKind.{SeedsKind}
use Rattle.tesla_seeds.specs.declared.refusal.SeedsRefusal.{SeedsRefusal}
use Rattle.tesla_seeds.specs.declared.refusal.SeedsRefusal.TheVariants as unread
use Rattle.tesla_sender.specs.Made.{Stream, chains_of}
use Rattle.tesla_sender.specs.Opening.{IsRefusal, seeds_refused}
use Rattle.tesla_sender.specs.declared.refusal.SenderRefusal.{SenderRefusal}
use Rattle.tesla_sender.specs.declared.refusal.SenderRefusal.TheVariants as unsent
use Rattle.tesla_run_stress.specs.Base.{base_seeds, base_setup, base_stream, base_times, key_of_byte, last_of}

-- ---- the setup

pub times_are : (last : ℕ) → 1 ≤ last → last ≤ 10000 → IsSchedule (base_times last)
times_are last some most = record { shortest = omega arith; longest = omega arith; first = omega arith; most = omega arith }

pub setup_is : (last : ℕ) → 1 ≤ last → last ≤ 10000 → IsSetupOf (base_setup last)
setup_is last some most = record {
  stream = omega arith;
  start = omega arith;
  times = times_are last some most;
  tag_length = record { shortest = omega arith; longest = omega arith };
  some = omega arith;
  few = omega arith;
  each = (record { shortest = omega arith; longest = omega arith; within = omega arith }, (record { shortest = omega arith; longest = omega arith; within = omega arith }, tt));
  rise = (omega arith, tt);
}

within_again : (low high n : ℕ) → low ≤ n → n ≤ high → within low high n ≡ Ok n
within_again low high n least most = grind (arith, nat_tests)

-- parts within the limits are not refused
parts_again : (parts : Parts) → IsSetupOf parts → parts_judged parts.version parts.stream parts.times parts.tag_length parts.rows ≡ Ok parts
unfolding parts_judged
parts_again parts is = rw (within_again (shortest_tag parts.version) (longest_tag parts.version) parts.tag_length is.tag_length.shortest is.tag_length.longest, setup_again parts is) refl

answered_by : (parts : Parts) (result : Result Parts SetupRefusal) (judged : Result Parts (ℕ × SetupKind)) → judged ≡ Ok parts → Answers (λ setup. setup) result judged → (result ≡ Ok parts) ⊎ (result ≡ Err refusals.NoMemory)
answered_by parts (Ok setup) judged e answers = inl (let both : Ok parts ≡ Ok setup = sym e ∙ answers in cc)
answered_by parts (Err (refusals.At line kind)) judged e answers = absurd (let no : Ok parts ≡ Err (line, kind) = sym e ∙ answers in cc)
answered_by parts (Err refusals.NoMemory) judged e answers = inr refl

-- they are the setup, or memory was wanting
pub answered : (parts : Parts) (result : Result Parts SetupRefusal) → IsSetupOf parts → Answers (λ setup. setup) result (parts_judged parts.version parts.stream parts.times parts.tag_length parts.rows) → (result ≡ Ok parts) ⊎ (result ≡ Err refusals.NoMemory)
answered parts result is answers = answered_by parts result _ (parts_again parts is) answers

pub no_line : (parts : Parts) (result : Result Parts SetupRefusal) (line : ℕ) (kind : SetupKind) → (result ≡ Ok parts) ⊎ (result ≡ Err refusals.NoMemory) → result ≡ Err (refusals.At line kind) → ⊥
no_line parts result line kind (inl ok) refused = cc
no_line parts result line kind (inr none) refused = cc

pub the_setup : (parts setup : Parts) (result : Result Parts SetupRefusal) → (result ≡ Ok parts) ⊎ (result ≡ Err refusals.NoMemory) → result ≡ Ok setup → setup ≡ parts
the_setup parts setup result (inl ok) is = cc
the_setup parts setup result (inr none) is = absurd cc

pub from_start : (n : ℕ) → n - 0 ≡ n
from_start n = omega arith

-- ---- the seeds

bytes_below : (byte n i : ℕ) → byte < 256 → slice_index (replicate n byte) i < 256
bytes_below byte zero i small = omega arith
bytes_below byte (suc n) zero small = small
bytes_below byte (suc n) (suc i) small = bytes_below byte n i small

key_is : (byte : ℕ) → byte < 256 → IsKey (key_of_byte byte)
unfolding key_of_byte
key_is byte small = record { whole = refl; bytes = λ i. bytes_below byte 32 i small }

-- a text that spells the seeds
pub seeds_are : (text : List ℕ) → text ≡ seeds_text base_seeds → length text ≤ 4096 → IsSeeds text 2 base_seeds
seeds_are text spelled short = record { each = refl; keys = (key_is 17 (omega arith), (key_is 34 (omega arith), tt)); text = spelled; short = short }

-- what is read of it
pub seeds_read : (result : Result (List Key) SeedsRefusal) (seeds : List Key) → (result ≡ Ok base_seeds) ⊎ (result ≡ Err unread.NoMemory) → result ≡ Ok seeds → seeds ≡ base_seeds
seeds_read result seeds (inl ok) is = cc
seeds_read result seeds (inr none) is = absurd cc

pub never_unread : (result : Result (List Key) SeedsRefusal) (line : ℕ) (kind : SeedsKind) → (result ≡ Ok base_seeds) ⊎ (result ≡ Err unread.NoMemory) → result ≡ Err (unread.At line kind) → ⊥
never_unread result line kind (inl ok) is = cc
never_unread result line kind (inr none) is = cc

-- each seed gives the commitment of its chain
right : (last : ℕ) (seed : Key) → bytes_eq (walk seed (last - 0)).0 (walk seed last).0 ≡ true
right last seed = rw (from_start last) ((bytes_eq-Decides (walk seed last).0 (walk seed last).0).1 refl)

pub none_refused : (count : ℕ) → seeds_refused (chains_of (base_stream count)) ≡ None
none_refused count = rw (right (last_of count) (key_of_byte 17), right (last_of count) (key_of_byte 34)) refl

pub never_wrong : (count : ℕ) (refusal : SenderRefusal) → IsRefusal (chains_of (base_stream count)) refusal → refusal ≡ unsent.NoMemory
never_wrong count refusal (inl memory) = memory
never_wrong count refusal (inr wrong) = absurd (let no : None ≡ Some refusal = sym (none_refused count) ∙ wrong in cc)

pub seeds_right : (count : ℕ) (setup : Parts) (seeds : List Key) (refusal : SenderRefusal) → setup ≡ base_setup (last_of count) → seeds ≡ base_seeds → IsRefusal (chains_of (record { setup = setup; seeds = seeds })) refusal → refusal ≡ unsent.NoMemory
seeds_right count setup seeds refusal is are refused =
    never_wrong count refusal
    (subst (λ (ks : List Key). IsRefusal (chains_of (record { setup = base_setup (last_of count); seeds = ks })) refusal) are
    (subst (λ (p : Parts). IsRefusal (chains_of (record { setup = p; seeds = seeds })) refusal) is refused))

abbrev stream_with : Parts → List Key → Stream
stream_with setup seeds = record { setup = setup; seeds = seeds }

pub stream_is : (count : ℕ) (setup : Parts) (seeds : List Key) (stream : Stream) → setup ≡ base_setup (last_of count) → seeds ≡ base_seeds → stream ≡ record { setup = setup; seeds = seeds } → stream ≡ base_stream count
stream_is count setup seeds stream is are same = same ∙ ap (λ (p : Parts). stream_with p seeds) is ∙ ap (stream_with (base_setup (last_of count))) are

-- the setup that is made of these rows
pub assembled_is : (last : ℕ) (times : Times) (rows : List ChainRow) (result : Result Parts SetupRefusal) → 1 ≤ last → last ≤ 10000 → times ≡ base_times last → rows ≡ (base_setup last).rows → Answers (λ setup. setup) result (parts_judged (base_setup last).version (base_setup last).stream times 16 rows) → (result ≡ Ok (base_setup last)) ⊎ (result ≡ Err refusals.NoMemory)
assembled_is last times rows result some most is are answers =
    let parts : Parts = base_setup last in
    answered parts result (setup_is last some most)
    (subst (λ (rs : List ChainRow). Answers (λ setup. setup) result (parts_judged parts.version parts.stream parts.times 16 rs)) are
    (subst (λ (t : Times). Answers (λ setup. setup) result (parts_judged parts.version parts.stream t 16 rows)) is answers))
