-- Laws of counts of faults, for callers that make several calls one after another.
use Rattle.std.proofs.Common.{◌≡◌, ◌∙◌, ◌⊎◌, ℕ, ◌-◌, ◌^◌, ◌<◌, ◌≤◌, refl, sym, subst, ap, arith, inl, inr, nat_lt, true, false, if◌then◌else◌}
use Rattle.std.proofs.lemmas.Bool.Decides.{nat_tests}
use Rattle.tesla_desk.specs.Faults.{Faults, Rose, HasCause, HasCauseBeside, HasCauses, HasCausesBeside, CountsOpening, after_source, after_sink, raised, raised_where_failed}

-- a count that rose within a longer time rose in that time too
pub rose_within : (a b c d : ℕ) → a ≤ b → b ≤ c → c ≤ d → Rose b c → Rose a d
rose_within a b c d ab bc cd rose = grind arith

-- a failure of two calls together is one of the first or one of the second
pub cause_both : {first second failed : Type 0} (a b c : ℕ) → HasCause a b first → HasCause b c second → (failed → first ⊎ second) → (first ⊎ second → failed) → HasCause a c failed
cause_both a b c one two from to = record {
  stays = omega (arith, one.stays, two.stays);
  rose = λ f. elim (from f) [
    | inl was ↦ rose_within a a b c (omega arith) one.stays two.stays (one.rose was)
    | inr is ↦ rose_within a b c c one.stays two.stays (omega arith) (two.rose is)
  ];
  still = λ none. two.still (λ is. none (to (inr is))) ∙ one.still (λ was. none (to (inl was)));
}

-- the same where another failure may be hidden
pub cause_beside : {hidden first second failed : Type 0} (a b c : ℕ) → HasCauseBeside hidden a b first → HasCauseBeside hidden b c second → (failed → first ⊎ second) → (first ⊎ second → failed) → HasCauseBeside hidden a c failed
cause_beside a b c one two from to = record {
  stays = omega (arith, one.stays, two.stays);
  rose = λ f. elim (from f) [
    | inl was ↦ rose_within a a b c (omega arith) one.stays two.stays (one.rose was)
    | inr is ↦ rose_within a b c c one.stays two.stays (omega arith) (two.rose is)
  ];
  still = λ none clear. two.still (λ is. none (to (inr is))) clear ∙ one.still (λ was. none (to (inl was))) clear;
}

-- what fails without hiding anything
pub cause_plain : {hidden failed : Type 0} (a b : ℕ) → HasCause a b failed → HasCauseBeside hidden a b failed
cause_plain a b cause = record { stays = cause.stays; rose = cause.rose; still = λ none clear. cause.still none }

-- the same failure in other words
pub cause_as : {failed other : Type 0} (a b : ℕ) → HasCause a b failed → (other → failed) → (failed → other) → HasCause a b other
cause_as a b cause from to = record { stays = cause.stays; rose = λ f. cause.rose (from f); still = λ none. cause.still (λ f. none (to f)) }

-- the same where another failure, in other words, may be hidden
pub cause_beside_as : {hidden wider failed other : Type 0} (a b : ℕ) → HasCauseBeside hidden a b failed → (hidden → wider) → (other → failed) → (failed → other) → HasCauseBeside wider a b other
cause_beside_as a b cause wide from to = record { stays = cause.stays; rose = λ f. cause.rose (from f); still = λ none clear. cause.still (λ f. none (to f)) (λ h. clear (wide h)) }

-- nothing failed
pub cause_none : {failed : Type 0} (a b : ℕ) → b ≡ a → (failed → ⊥) → HasCause a b failed
cause_none a b same none = record { stays = omega (arith, same); rose = λ f. absurd (none f); still = λ _. same }

-- a count rises by one fault more
pub rose_raised : (n : ℕ) → Rose n (raised n)
rose_raised n = grind (arith, nat_tests)

-- a count does not fall by one fault more
pub raised_stays : (n : ℕ) → n ≤ raised n
raised_stays n = grind (arith, nat_tests)

-- what failed raises the count of its desk when it is closed
pub rose_where_some : (n faults : ℕ) → Rose 0 faults → Rose n (raised_where_failed faults n)
rose_where_some n faults rose =
    let some : 0 < faults = grind (arith, rose) in
    let test : nat_lt 0 faults ≡ true = grind (arith, nat_tests, some) in
    rw test (rose_raised n)

-- a closing does not lower the count of its desk
pub where_failed_stays : (n faults : ℕ) → n ≤ raised_where_failed faults n
where_failed_stays n faults = elim (nat_lt 0 faults) as (λ b. n ≤ (if b then raised n else n)) [ true ↦ raised_stays n | false ↦ omega arith ]

-- a count that did not change did not rise, unless it stands at the end of its type
pub not_rose : (before now : ℕ) → now ≡ before → before < 2 ^ 64 - 1 → Rose before now → ⊥
not_rose before now same below rose = grind arith

-- ---- the counts of a desk

-- a failure of two calls together is one of the first or one of the second
pub causes_both : {read0 write0 opening0 read1 write1 opening1 read write opening : Type 0} (a b c : Faults) → HasCauses a b read0 write0 opening0 → HasCauses b c read1 write1 opening1 → (read → read0 ⊎ read1) → (read0 ⊎ read1 → read) → (write → write0 ⊎ write1) → (write0 ⊎ write1 → write) → (opening → opening0 ⊎ opening1) → (opening0 ⊎ opening1 → opening) → HasCauses a c read write opening
causes_both a b c one two reads of_reads writes of_writes openings of_openings = record {
  reads = cause_both a.reads b.reads c.reads one.reads two.reads reads of_reads;
  writes = cause_both a.writes b.writes c.writes one.writes two.writes writes of_writes;
  openings = cause_both a.openings b.openings c.openings one.openings two.openings openings of_openings;
}

-- nothing failed in the first of two calls
pub causes_then : {hidden read write opening : Type 0} (a b c : Faults) → b ≡ a → HasCausesBeside hidden b c read write opening → HasCausesBeside hidden a c read write opening
causes_then {hidden = hidden} {read = read} {write = write} {opening = opening} a b c same causes = subst (λ (f : Faults). HasCausesBeside hidden f c read write opening) same causes

-- calls whose writes all are told
pub causes_plain : {hidden read write opening : Type 0} (a b : Faults) → HasCauses a b read write opening → HasCausesBeside hidden a b read write opening
causes_plain a b causes = record { reads = causes.reads; writes = cause_plain a.writes b.writes causes.writes; openings = causes.openings }

-- the same failures in other words
pub causes_as : {hidden read0 write0 opening0 wider read write opening : Type 0} (a b : Faults) → HasCausesBeside hidden a b read0 write0 opening0 → (hidden → wider) → (read → read0) → (read0 → read) → (write → write0) → (write0 → write) → (opening → opening0) → (opening0 → opening) → HasCausesBeside wider a b read write opening
causes_as a b causes wide read of_read write of_write opening of_opening = record {
  reads = cause_as a.reads b.reads causes.reads read of_read;
  writes = cause_beside_as a.writes b.writes causes.writes wide write of_write;
  openings = cause_as a.openings b.openings causes.openings opening of_opening;
}

counts_of : ℕ → ℕ → ℕ → Faults
counts_of reads writes openings = record { reads = reads; writes = writes; openings = openings }

-- counts are the same where each is
same_counts : (a b : Faults) → b.reads ≡ a.reads → b.writes ≡ a.writes → b.openings ≡ a.openings → b ≡ a
unfolding counts_of
same_counts a b reads writes openings =
    ap (λ n. counts_of n b.writes b.openings) reads ∙ ap (λ n. counts_of a.reads n b.openings) writes ∙ ap (λ n. counts_of a.reads a.writes n) openings

-- where none of these failures came, the counts are as before
pub causes_none : {read write opening : Type 0} (a b : Faults) → HasCauses a b read write opening → (read → ⊥) → (write → ⊥) → (opening → ⊥) → b ≡ a
causes_none a b causes read write opening =
    let reads = causes.reads.still read in
    let writes = causes.writes.still write in
    let openings = causes.openings.still opening in
    same_counts a b reads writes openings

-- an opening fails as an opening
pub causes_opening : {failed read write opening : Type 0} (a b : Faults) → CountsOpening a b failed → (read → ⊥) → (write → ⊥) → (opening → failed) → (failed → opening) → HasCauses a b read write opening
causes_opening a b counts read write opening of_opening = record {
  reads = cause_none a.reads b.reads counts.reads read;
  writes = cause_none a.writes b.writes counts.writes write;
  openings = cause_as a.openings b.openings counts.openings opening of_opening;
}

-- an opening that did not fail leaves the counts
pub counts_stay : {failed : Type 0} (a b : Faults) → CountsOpening a b failed → (failed → ⊥) → b ≡ a
counts_stay a b counts none =
    let reads = counts.reads in
    let writes = counts.writes in
    let openings = counts.openings.still none in
    same_counts a b reads writes openings

-- an object that failed since its opening, or not, is counted so when it is closed
closed_cause : {failed : Type 0} (n faults : ℕ) → HasCause 0 faults failed → HasCause n (raised_where_failed faults n) failed
closed_cause n faults cause = record {
  stays = where_failed_stays n faults;
  rose = λ f. rose_where_some n faults (cause.rose f);
  still = λ none. let zero : faults ≡ 0 = cause.still none in rw zero refl;
}

closed_beside : {hidden failed : Type 0} (n faults : ℕ) → HasCauseBeside hidden 0 faults failed → HasCauseBeside hidden n (raised_where_failed faults n) failed
closed_beside n faults cause = record {
  stays = where_failed_stays n faults;
  rose = λ f. rose_where_some n faults (cause.rose f);
  still = λ none clear. let zero : faults ≡ 0 = cause.still none clear in rw zero refl;
}

-- a source that failed since its opening is counted when it is closed
pub causes_source : {failed read write opening : Type 0} (a b : Faults) (faults : ℕ) → b ≡ after_source a faults → HasCause 0 faults failed → (read → failed) → (failed → read) → (write → ⊥) → (opening → ⊥) → HasCauses a b read write opening
causes_source {read = read} a b faults closed cause from to write opening =
    let reads : b.reads ≡ raised_where_failed faults a.reads = ap (λ (f : Faults). f.reads) closed in
    record {
      reads = subst (λ (n : ℕ). HasCause a.reads n read) (sym reads) (closed_cause a.reads faults (cause_as 0 faults cause from to));
      writes = cause_none a.writes b.writes (ap (λ (f : Faults). f.writes) closed) write;
      openings = cause_none a.openings b.openings (ap (λ (f : Faults). f.openings) closed) opening;
    }

-- a sink that failed since its opening is counted when it is closed
pub causes_sink : {failed read write opening : Type 0} (a b : Faults) (faults : ℕ) → b ≡ after_sink a faults → HasCause 0 faults failed → (read → ⊥) → (write → failed) → (failed → write) → (opening → ⊥) → HasCauses a b read write opening
causes_sink {write = write} a b faults closed cause read from to opening =
    let writes : b.writes ≡ raised_where_failed faults a.writes = ap (λ (f : Faults). f.writes) closed in
    record {
      reads = cause_none a.reads b.reads (ap (λ (f : Faults). f.reads) closed) read;
      writes = subst (λ (n : ℕ). HasCause a.writes n write) (sym writes) (closed_cause a.writes faults (cause_as 0 faults cause from to));
      openings = cause_none a.openings b.openings (ap (λ (f : Faults). f.openings) closed) opening;
    }

-- a source and then a sink are closed: each that failed since its opening is counted
pub causes_closed : {hidden read write opening : Type 0} (a b c : Faults) (taken given : ℕ) → b ≡ after_source a taken → c ≡ after_sink b given → HasCause 0 taken read → HasCauseBeside hidden 0 given write → (opening → ⊥) → HasCausesBeside hidden a c read write opening
causes_closed {hidden = hidden} {read = read} {write = write} a b c taken given source sink reading writing opening =
    let reads : c.reads ≡ raised_where_failed taken a.reads = ap (λ (f : Faults). f.reads) sink ∙ ap (λ (f : Faults). f.reads) source in
    let writes : c.writes ≡ raised_where_failed given a.writes = ap (λ (f : Faults). f.writes) sink ∙ ap (λ (f : Faults). raised_where_failed given f.writes) source in
    record {
      reads = subst (λ (n : ℕ). HasCause a.reads n read) (sym reads) (closed_cause a.reads taken reading);
      writes = subst (λ (n : ℕ). HasCauseBeside hidden a.writes n write) (sym writes) (closed_beside a.writes given writing);
      openings = cause_none a.openings c.openings (ap (λ (f : Faults). f.openings) sink ∙ ap (λ (f : Faults). f.openings) source) opening;
    }
