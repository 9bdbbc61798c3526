-- The opening of posts, as openings of files.
use Rattle.std.proofs.Common.{◌≡◌, ◌∙◌, inl, inr, ℕ, zero, suc, Result, Ok, Err, List, [], ◌∷◌, ◌++◌, length, map, take, refl, sym, ap, subst, arith}
use Rattle.std.proofs.lemmas.List.{length-map}
use Rattle.tesla_desk.specs.Faults.{Faults, CountsOpening}
use Rattle.tesla_desk.specs.Outside.{Told, Opening, OfPost, OpensPost}
use Rattle.tesla_desk.specs.declared.desk.OpenRefusal.{OpenRefusal}
use Rattle.tesla_desk.specs.declared.desk.OpenRefusal.TheVariants as refusals
use Rattle.tesla_desk.proofs.Counts.{cause_as, counts_stay}
use Rattle.tesla_front.specs.Fault.{unopened}
use Rattle.tesla_front.specs.Openings.{AreFiles, Opens, OpensSome}
use Rattle.tesla_front.specs.declared.fault.Fault.{Fault}
use Rattle.tesla_front.specs.declared.fault.Fault.TheVariants as faults
use Rattle.tesla_front.proofs.Openings.{opens_first, opens_none, opens_some, opens_then}
use Rattle.tesla_front.specs.Names.{AreListNames, IsNoneOf}
use Rattle.tesla_relay.specs.Opened.{OpensNotAll, OpensTo, post_name}
use Rattle.tesla_relay.specs.Opening.{OpensEach, OpensOne, OpensPosts, RefusesOne}
use Rattle.tesla_relay.specs.Posts.{PostSeen}

-- what a desk does behind openings doesn't change which there were, where it changes no page and nothing that is left
pub opens_still : (files : List Opening) (opened : ℕ) (before mid now : Told) → Opens files opened before mid → now.openings ≡ mid.openings → ((name : List ℕ) → now.page name ≡ mid.page name) → ((name : List ℕ) → now.left name ≡ mid.left name) → Opens files opened before now
opens_still files opened before mid now opens asked pages lefts = record {
  asked = asked ∙ opens.asked;
  pages = λ name none. pages name ∙ opens.pages name none;
  lefts = λ name none. lefts name ∙ opens.lefts name none;
}

-- none of the posts' names is the console's
pub post_files : (names : List (List ℕ)) → AreListNames names → AreFiles (map OfPost names)
post_files [] each = tt
post_files (name ∷ names) each = (each.0.named.file, post_files names each.1)

-- ---- one opening

one_opened : (name : List ℕ) (before now : Told) (post : PostSeen) → OpensOne name before now post → Opens (OfPost name ∷ []) 1 before now
one_opened name before now post one = opens_first (OfPost name) [] before now one.opens.asked (λ n none. one.opens.pages n) (λ n none. one.opens.lefts n)

one_tried : {A : Type 0} (name : List ℕ) (refusal : OpenRefusal) (before now : Told) → OpensPost {A = A} name (Err refusal) before now → OpensSome (OfPost name ∷ []) before now
one_tried name refusals.Failed before now tried = (1, omega arith, opens_first (OfPost name) [] before now tried.asked (λ n none. tried.pages n) (λ n none. tried.lefts n))
one_tried name refusals.NoMemory before now tried = (0, omega arith, opens_none (OfPost name ∷ []) before now tried.asked tried.pages tried.lefts)

-- an opening was refused or found no memory, and only in the first case the count of openings rose
pub refused_not_all : {A : Type 0} (refusal : OpenRefusal) (before now : Told) → CountsOpening before.faults now.faults (◌≡◌ {A = Result A OpenRefusal} (Err refusal) (Err refusals.Failed)) → OpensNotAll (unopened refusal) before now
refused_not_all refusals.Failed before now counts = record {
  cause = inl refl;
  counts = record { reads = counts.reads; writes = counts.writes; openings = cause_as before.faults.openings now.faults.openings counts.openings (λ e. refl) (λ e. refl) };
}
refused_not_all refusals.NoMemory before now counts = record {
  cause = inr refl;
  counts = record { reads = counts.reads; writes = counts.writes; openings = cause_as before.faults.openings now.faults.openings counts.openings (λ e. absurd cc) (λ e. absurd cc) };
}

refused_by : (refusal : OpenRefusal) (fault own : Fault) (before now : Told) (result : Result (Unit {0}) Fault) → own ≡ unopened refusal → result ≡ Err own → result ≡ Err fault → OpensNotAll (unopened refusal) before now → OpensNotAll fault before now
refused_by refusal fault own before now result own_is is also not_all =
    let same : unopened refusal ≡ fault = cc in
    subst (λ (f : Fault). OpensNotAll f before now) same not_all

-- ---- all openings

opens_nothing : (before now : Told) (result : Result (Unit {0}) Fault) → now ≡ before → result ≡ Ok tt → OpensTo [] [] before now result
opens_nothing before now result same whole = record {
  opened = 0;
  few = omega arith;
  opens = opens_none [] before now (ap (λ (t : Told). t.openings) same) (λ name. ap (λ (t : Told). t.page name) same) (λ name. ap (λ (t : Told). t.left name) same);
  live = ap (λ (t : Told). t.live) same;
  pages = λ name. ap (λ (t : Told). t.page name) same;
  lefts = λ name. ap (λ (t : Told). t.left name) same;
  fresh = tt;
  names_are = refl;
  whole = λ e. record { all = refl; names_are = refl; counts = ap (λ (t : Told). t.faults) same };
  refused = λ fault e. absurd cc;
}

opens_refused : (name : List ℕ) (names : List (List ℕ)) (before now : Told) (fault : Fault) (result : Result (Unit {0}) Fault) → RefusesOne name before now fault → result ≡ Err fault → OpensTo (name ∷ names) [] before now result
opens_refused name names before now fault result (refusal, tried, fault_is) is =
    let some = opens_some (OfPost name) (map OfPost names) before now (one_tried {A = Unit {0}} name refusal before now tried) in
    record {
      opened = some.0;
      few = omega (arith, some.1);
      opens = some.2;
      live = tried.live;
      pages = tried.pages;
      lefts = tried.lefts;
      fresh = tt;
      names_are = refl;
      whole = λ e. absurd cc;
      refused = λ other also. refused_by refusal other fault before now result fault_is is also (refused_not_all {A = Unit {0}} refusal before now tried.counts);
    }

opens_more : (name : List ℕ) (names : List (List ℕ)) (post : PostSeen) (posts : List PostSeen) (before mid now : Told) (result : Result (Unit {0}) Fault) → OpensOne name before mid post → OpensTo names posts mid now result → OpensTo (name ∷ names) (post ∷ posts) before now result
opens_more name names post posts before mid now result one rest =
    let first : mid.faults ≡ before.faults = counts_stay before.faults mid.faults one.opens.counts (λ e. absurd cc) in
    record {
      opened = suc rest.opened;
      few = omega (arith, rest.few);
      opens = opens_then (OfPost name) (map OfPost names) rest.opened before mid now (one_opened name before mid post one) rest.opens;
      live = rest.live ∙ one.opens.live;
      pages = λ n. rest.pages n ∙ one.opens.pages n;
      lefts = λ n. rest.lefts n ∙ one.opens.lefts n;
      fresh = ((one.empty, one.fresh), rest.fresh);
      names_are = ap (λ n. n ∷ map post_name posts) one.name_is ∙ ap (λ ns. name ∷ ns) rest.names_are;
      whole = λ e. let all = rest.whole e in record {
        all = ap suc all.all;
        names_are = ap (λ n. n ∷ map post_name posts) one.name_is ∙ ap (λ ns. name ∷ ns) all.names_are;
        counts = all.counts ∙ first;
      };
      refused = λ fault e. let not_all = rest.refused fault e in record {
        cause = not_all.cause;
        counts = subst (λ (f : Faults). CountsOpening f now.faults (fault ≡ faults.Open)) first not_all.counts;
      };
    }

-- posts were opened in order, until an opening was refused
pub opens_to : (names : List (List ℕ)) (before now : Told) (posts : List PostSeen) (result : Result (Unit {0}) Fault) → OpensEach names before now posts result → OpensTo names posts before now result
opens_to [] before now posts result (posts_are, same, whole) =
    subst (λ (ps : List PostSeen). OpensTo [] ps before now result) (sym posts_are) (opens_nothing before now result same whole)
opens_to (name ∷ names) before now posts result (inl (fault, refused, posts_are, is)) =
    subst (λ (ps : List PostSeen). OpensTo (name ∷ names) ps before now result) (sym posts_are) (opens_refused name names before now fault result refused is)
opens_to (name ∷ names) before now posts result (inr (post, others, mid, posts_are, one, rest)) =
    subst (λ (ps : List PostSeen). OpensTo (name ∷ names) ps before now result) (sym posts_are) (opens_more name names post others before mid now result one (opens_to names mid now others result rest))

-- ---- behind the openings

-- posts were opened, and there were none before
pub opens_new : (names : List (List ℕ)) (before now : Told) (posts : List PostSeen) (result : Result (Unit {0}) Fault) → OpensPosts names before now [] posts result → OpensTo names posts before now result
opens_new names before now posts result (opened, posts_are, each) =
    subst (λ (ps : List PostSeen). OpensTo names ps before now result) (sym posts_are) (opens_to names before now opened result each)

none_of_prefix : (n : ℕ) (name : List ℕ) (names : List (List ℕ)) → IsNoneOf name names → IsNoneOf name (take n names)
none_of_prefix zero name names none = tt
none_of_prefix (suc n) name [] none = tt
none_of_prefix (suc n) name (other ∷ names) none = (none.0, none_of_prefix n name names none.1)

-- what is none of the names is none of the posts'
pub none_of_opened : (name : List ℕ) (names : List (List ℕ)) (posts : List PostSeen) (before now : Told) (result : Result (Unit {0}) Fault) → OpensTo names posts before now result → IsNoneOf name names → IsNoneOf name (map post_name posts)
none_of_opened name names posts before now result to none = subst (λ (ns : List (List ℕ)). IsNoneOf name ns) (sym to.names_are) (none_of_prefix (length posts) name names none)

module _ {P : Type 0} (seen : P → PostSeen) (names : List (List ℕ)) (before now : Told) (old : List PostSeen) (posts : List P) (opens : OpensPosts names before now old (map seen posts) (Ok tt)) (none : old ≡ []) where
  -- the posts that were opened are all that there are
  pub opened_each : OpensEach names before now (map seen posts) (Ok tt)
  opened_each =
      let same : map seen posts ≡ opens.0 = opens.1 ∙ ap (λ (ps : List PostSeen). ps ++ opens.0) none in
      subst (λ (ps : List PostSeen). OpensEach names before now ps (Ok tt)) (sym same) opens.2

  -- and as many as names
  pub opened_size : length posts ≡ length names
  opened_size =
      let to = opens_to names before now (map seen posts) (Ok tt) opened_each in
      sym (length-map posts seen) ∙ sym (length-map (map seen posts) post_name) ∙ ap (λ (ns : List (List ℕ)). length ns) (to.whole refl).names_are
