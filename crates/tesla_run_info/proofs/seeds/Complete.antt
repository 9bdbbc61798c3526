-- A run of seeds comes to its end where its seeds can be drawn and nothing fails.
use Rattle.std.proofs.Common.{◌≡◌, ◌∙◌, ◌⊎◌, inl, inr, ℕ, ◌*◌, ◌≤◌, Bool, Option, Some, None, List, [], ◌∷◌, ◌++◌, length, take, refl, sym, ap, subst, arith}
use Rattle.std.specs.List.{flat_map, AllByRecursion}
use Rattle.std.proofs.Math.Seq.{take-append_seam}
use Rattle.std.proofs.lemmas.List.{append_cancel_left}
use Rattle.std.proofs.lemmas.Option.{slice_get_within}
use Rattle.tesla_base.specs.declared.names.Key.{Key}
use Rattle.tesla_seeds.specs.Text.{IsKey}
use Rattle.tesla_seeds.specs.Weak.{AreSound, IsFirstWeak}
use Rattle.tesla_seeds.specs.declared.weak.WeakSeed.{WeakSeed}
use Rattle.tesla_desk.specs.Outside.{Page, Holds, Told}
use Rattle.tesla_front.specs.OutcomeView.{OutcomeView, Done, Refused, Failed}
use Rattle.tesla_front.specs.Command.{Performs}
use Rattle.tesla_front.specs.Files.{HoldsWhere, IsRefusedIn}
use Rattle.tesla_front.specs.Openings.{File, file_told}
use Rattle.tesla_front.specs.Run.{NothingFailed}
use Rattle.tesla_front.specs.declared.fault.Fault.{Fault}
use Rattle.tesla_front.specs.declared.fault.Fault.TheVariants as faults
use Rattle.tesla_front.proofs.Commands.{memory_alone}
use Rattle.tesla_run_info.specs.seeds.Arguments.{SeedsArguments, random}
use Rattle.tesla_run_info.specs.seeds.Drawn.{AreDrawn, IsNoDraw, key_bytes}
use Rattle.tesla_run_info.specs.seeds.Drawing.{DoesSeeds, WritesSeeds, seeds, seeds_line}

-- ---- the same bytes are the same seeds

front_is : (seed : Key) (rest : List ℕ) → IsKey seed → take 32 (seed.0 ++ rest) ≡ seed.0
front_is seed rest is = ap (λ (n : ℕ). take n (seed.0 ++ rest)) (sym is.whole) ∙ take-append_seam seed.0 rest

first_same : (one other : Key) (rest more : List ℕ) → IsKey one → IsKey other → one.0 ++ rest ≡ other.0 ++ more → one ≡ other
first_same one other rest more is was same =
    let bytes : one.0 ≡ other.0 = sym (front_is one rest is) ∙ ap (take 32) same ∙ front_is other more was in
    ap (λ (b : List ℕ). let key : Key = record { 0 = b } in key) bytes

same_seeds : (ones others : List Key) → AllByRecursion IsKey ones → AllByRecursion IsKey others → length ones ≡ length others → flat_map key_bytes ones ≡ flat_map key_bytes others → ones ≡ others
same_seeds [] [] are were each same = refl
same_seeds [] (other ∷ others) are were each same = absurd (omega (arith, each))
same_seeds (one ∷ ones) [] are were each same = absurd (omega (arith, each))
same_seeds (one ∷ ones) (other ∷ others) are were each same =
    let first : one ≡ other = first_same one other (flat_map key_bytes ones) (flat_map key_bytes others) are.0 were.0 same in
    let turned : one.0 ++ flat_map key_bytes ones ≡ one.0 ++ flat_map key_bytes others = subst (λ (k : Key). one.0 ++ flat_map key_bytes ones ≡ k.0 ++ flat_map key_bytes others) (sym first) same in
    let rest : ones ≡ others = same_seeds ones others are.1 were.1 (omega (arith, each)) (append_cancel_left one.0 (flat_map key_bytes ones) (flat_map key_bytes others) turned) in
    ap (λ (k : Key). k ∷ ones) first ∙ ap (λ (ks : List Key). other ∷ ks) rest

drawn_once : (count : ℕ) (bytes : List ℕ) (ones others : List Key) → AreDrawn count bytes ones → AreDrawn count bytes others → ones ≡ others
drawn_once count bytes ones others are were = same_seeds ones others are.keys were.keys (are.each ∙ sym were.each) (are.first ∙ sym were.first)

-- ---- none of them is refused

never_weak : (drawn : List Key) (chain : ℕ) (kind : WeakSeed) → AreSound drawn → IsFirstWeak drawn chain kind → ⊥
never_weak drawn chain kind sound weak =
    let none = sound chain weak.seed (slice_get_within drawn chain weak.seed weak.there) weak.there in
    let no : ◌≡◌ {A = Option WeakSeed} None (Some kind) = sym none ∙ weak.why in
    cc

refused_never : (count : ℕ) (bytes : List ℕ) (drawn : List Key) (status : ℕ) (line : List ℕ) → 32 * count ≤ length bytes → AreDrawn count bytes drawn → AreSound drawn → IsNoDraw count bytes (Refused status line) → ⊥
refused_never count bytes drawn status line enough are sound (inl ends) = omega (arith, enough, ends.few)
refused_never count bytes drawn status line enough are sound (inr (inl weak)) =
    never_weak drawn weak.chain weak.kind sound (subst (λ (ks : List Key). IsFirstWeak ks weak.chain weak.kind) (drawn_once count bytes weak.seeds drawn weak.drawn are) weak.weak)
refused_never count bytes drawn status line enough are sound (inr (inr memory)) = cc

none_ends : (count : ℕ) (page : Page) (outcome : OutcomeView) (bytes : List ℕ) (failed : Bool) (drawn : List Key) → page ≡ Holds bytes failed → 32 * count ≤ length bytes → AreDrawn count bytes drawn → AreSound drawn → IsRefusedIn page (IsNoDraw count) outcome → (fault : Fault) × (outcome ≡ Failed fault)
none_ends count page (Failed fault) bytes failed drawn is enough are sound why = (fault, refl)
none_ends count page (Refused status line) bytes failed drawn is enough are sound why =
    absurd (refused_never count bytes drawn status line enough are sound (subst (λ (p : Page). HoldsWhere p (λ b. IsNoDraw count b (Refused status line))) is why))
none_ends count page _ bytes failed drawn is enough are sound why = absurd why

-- seeds that were drawn are written, or something went wrong outside
writing_ends : (drawn : List Key) (count : ℕ) (before after : Page) (outcome : OutcomeView) → length drawn ≡ count → WritesSeeds drawn before after outcome → (outcome ≡ Done (seeds_line count)) ⊎ ((fault : Fault) × (outcome ≡ Failed fault))
writing_ends drawn count before after (Done lines) each writes = inl (ap Done (writes.0 ∙ ap seeds_line each))
writing_ends drawn count before after (Failed fault) each writes = inr (fault, refl)
writing_ends drawn count before after _ each writes = absurd writes

seeds_end : (arguments : SeedsArguments) (opened : ℕ) (source out read written : File) (outcome : OutcomeView) (bytes : List ℕ) (failed : Bool) (drawn : List Key) → source.page ≡ Holds bytes failed → 32 * arguments.count ≤ length bytes → AreDrawn arguments.count bytes drawn → AreSound drawn → DoesSeeds arguments opened (source ∷ out ∷ []) (read ∷ written ∷ []) outcome → (outcome ≡ Done (seeds_line arguments.count)) ⊎ ((fault : Fault) × (outcome ≡ Failed fault))
seeds_end arguments opened source out read written outcome bytes failed drawn page enough are sound (inl none) = inr (none_ends arguments.count source.page outcome bytes failed drawn page enough are sound none.why)
seeds_end arguments opened source out read written outcome bytes failed drawn page enough are sound (inr draws) =
    writing_ends draws.seeds arguments.count out.page written.page outcome draws.each draws.writes

-- a run of seeds comes to the number of the seeds, or to want of memory
pub complete : (arguments : SeedsArguments) (old new : Told) (outcome : OutcomeView) (bytes : List ℕ) (failed : Bool) (drawn : List Key) → Performs seeds arguments old new outcome → old.page random ≡ Holds bytes failed → 32 * arguments.count ≤ length bytes → AreDrawn arguments.count bytes drawn → AreSound drawn → NothingFailed old.faults new.faults → (outcome ≡ Done (seeds_line arguments.count)) ⊎ (outcome ≡ Failed faults.NoMemory)
complete arguments old new outcome bytes failed drawn performs page enough are sound none =
    elim (seeds_end arguments performs.opened (file_told old random) (file_told old arguments.out) (file_told new random) (file_told new arguments.out) outcome bytes failed drawn page enough are sound performs.does) [
      | inl done ↦ inl done
      | inr fault ↦ inr (memory_alone old.faults new.faults outcome fault.0 performs.counts none fault.1)
    ]
