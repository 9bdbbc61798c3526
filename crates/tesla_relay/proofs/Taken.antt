-- The records of a capture, of which one after another is taken and its arrival is played.
use Rattle.std.proofs.Common.{◌≡◌, ◌∙◌, ℕ, zero, suc, ◌+◌, ◌≤◌, List, [], ◌∷◌, ◌++◌, length, map, Option, Some, None, refl, sym, ap, subst, append_assoc, append-nil, length-append, arith}
use Rattle.std.specs.List.{AllByRecursion}
use Rattle.tesla_desk.specs.Outside.{after_bytes}
use Rattle.tesla_desk.specs.Clocks.{Gives, Ticking}
use Rattle.tesla_capture.specs.Capture.{Record, Arrives, Takes, capture}
use Rattle.tesla_capture.specs.Formats.{capture_is}
use Rattle.tesla_capture.specs.Found.{AwaitsAt}
use Rattle.tesla_capture.specs.Records.{AtEnd, Outline, Refuses, next_at, outline_at, outline_of, record_offset, refusal_of, with_records}
use Rattle.tesla_capture.specs.Reader.{GivesRecord}
use Rattle.tesla_capture.specs.Steps.{LeavesFrom}
use Rattle.tesla_capture.specs.declared.record.RecordKind.{RecordKind}
use Rattle.tesla_capture.proofs.OutlineStep.{one_refused, one_step}
use Rattle.tesla_capture.proofs.Taken.{fault_taken, given_taken, none_taken, taken_outline}
use Rattle.tesla_relay.specs.Posts.{PostSeen}
use Rattle.tesla_relay.specs.declared.playing.PlayEnd.TheVariants.{Ended, Refused, ReadFault, PostFault}
use Rattle.tesla_relay.specs.Play.{BreaksAt, IsCutOff, IsPrefixOf, IsPlayed, Paced, Played, Plays, arrivals_in, arrivals_of, bytes_of, having_sent, reading_of}
use Rattle.tesla_relay.specs.Steps.{IsPlayedTo, PlaysOn, WaitsFor}
use Rattle.tesla_relay.proofs.Pace.{gives_both, paced_both}
use Rattle.tesla_relay.proofs.Sends.{both_sent, none_sent}

-- ---- lists

arrivals_more : (records others : List Record) → arrivals_of (records ++ others) ≡ arrivals_of records ++ arrivals_of others
arrivals_more [] others = refl
arrivals_more (first ∷ records) others = ap (λ (rest : List Played). arrivals_in first ++ rest) (arrivals_more records others) ∙ sym (append_assoc (arrivals_in first) (arrivals_of records) (arrivals_of others))

map_more : {A B : Type 0} (f : A → B) (xs : List A) (x : A) → map f (xs ++ x ∷ []) ≡ map f xs ++ f x ∷ []
map_more f [] x = refl
map_more f (y ∷ xs) x = ap (λ ys. f y ∷ ys) (map_more f xs x)

all_more : (xs : List Played) (x : Played) → AllByRecursion IsPlayed xs → IsPlayed x → AllByRecursion IsPlayed (xs ++ x ∷ [])
all_more [] x all one = (one, tt)
all_more (y ∷ xs) x all one = (all.0, all_more xs x all.1 one)

left_told : (pending : List ℕ) (left : Option (List ℕ)) (all : List ℕ) → after_bytes pending left ≡ Some all → (behind : List ℕ) × (left ≡ Some behind)
left_told pending None all e = absurd cc
left_told pending (Some behind) all e = (behind, refl)

-- the place of the next record isn't before the place
pub offset_rises : (offset : ℕ) → offset ≤ record_offset offset
offset_rises zero = omega arith
offset_rises (suc offset) = omega arith

-- ---- the file

-- no record was taken yet
played_none : (bytes : List ℕ) (offset : ℕ) (ahead : Option (List ℕ)) → offset ≡ 0 → ahead ≡ Some bytes → IsPlayedTo bytes [] offset ahead
played_none bytes offset ahead first told =
    subst (λ (p : ℕ). IsPlayedTo bytes [] p ahead) (sym first) (record { records = []; rest = bytes; ahead_is = told; taken = none_taken capture capture_is bytes; arrivals = refl })

-- one record more was taken
pub played_more : (bytes : List ℕ) (played : List Played) (offset now : ℕ) (ahead later : Option (List ℕ)) (given : Record) → (to : IsPlayedTo bytes played offset ahead) → GivesRecord given offset to.rest now later → IsPlayedTo bytes (played ++ arrivals_in given) now later
played_more bytes played offset now ahead later given to gives = record {
  records = to.records ++ given ∷ [];
  rest = gives.0;
  ahead_is = gives.1;
  taken = given_taken capture capture_is bytes to.records offset to.rest given now later to.taken gives;
  arrivals = arrivals_more to.records (given ∷ []) ∙ ap (λ (prefix : List Played). prefix ++ arrivals_of (given ∷ [])) to.arrivals ∙ ap (λ (last : List Played). played ++ last) (append-nil (arrivals_in given));
}

-- none follows
played_all : (bytes : List ℕ) (played : List Played) (offset : ℕ) (ahead : Option (List ℕ)) (fault : Option (ℕ × RecordKind)) → (to : IsPlayedTo bytes played offset ahead) → outline_at capture offset to.rest ≡ record { records = []; fault = fault }
    → ((outline_of capture bytes).fault ≡ fault) × (arrivals_of (outline_of capture bytes).records ≡ played)
played_all bytes played offset ahead fault to none =
    let whole : outline_of capture bytes ≡ with_records to.records (record { records = []; fault = fault }) = taken_outline capture capture_is bytes to.records offset to.rest to.taken ∙ ap (with_records to.records) none in (
      ap (λ (o : Outline Record). o.fault) whole,
      ap (λ (o : Outline Record). arrivals_of o.records) whole ∙ ap arrivals_of (append-nil to.records) ∙ to.arrivals,
    )

-- others may follow
pub played_prefix : (bytes : List ℕ) (played : List Played) (offset : ℕ) (ahead : Option (List ℕ)) → IsPlayedTo bytes played offset ahead → IsPrefixOf bytes played
played_prefix bytes played offset ahead to =
    let others = (outline_at capture offset to.rest).records in
    record {
      more = arrivals_of others;
      arrivals = ap (λ (o : Outline Record). arrivals_of o.records) (taken_outline capture capture_is bytes to.records offset to.rest to.taken) ∙ arrivals_more to.records others ∙ ap (λ (prefix : List Played). prefix ++ arrivals_of others) to.arrivals;
    }

-- a read failed
played_cut : (bytes : List ℕ) (played : List Played) (offset now : ℕ) (ahead : Option (List ℕ)) (pending : List ℕ) (left : Option (List ℕ)) → (to : IsPlayedTo bytes played offset ahead) → LeavesFrom capture 0 offset to.rest now (after_bytes pending left) → AwaitsAt capture now pending → IsCutOff bytes left played
played_cut bytes played offset now ahead pending left to leaves awaits =
    let behind = left_told pending left leaves.0 leaves.1 in
    record {
      left = behind.0;
      records = to.records;
      left_is = behind.1;
      read = fault_taken capture capture_is bytes to.records offset to.rest now pending left behind.0 to.taken leaves awaits behind.1;
      arrivals = to.arrivals;
    }

-- ---- the play

-- nothing was played yet
pub plays_none : (count offset : ℕ) (left ahead : Option (List ℕ)) (told : Option Ticking) (posts : List PostSeen) → count ≡ 0 → offset ≡ 0 → ((bytes : List ℕ) → left ≡ Some bytes → ahead ≡ Some bytes) → PlaysOn count offset left ahead told told posts posts
plays_none count offset left ahead told posts none first same = record {
  played = [];
  limits = tt;
  readings = [];
  gives = refl;
  paced = tt;
  posts_are = none_sent posts;
  count_is = none;
  file = λ bytes is. played_none bytes offset ahead first (same bytes is);
}

-- a take was skipped
pub plays_take : (count offset now : ℕ) (left ahead later : Option (List ℕ)) (before after : Option Ticking) (posts posts_now : List PostSeen) → PlaysOn count offset left ahead before after posts posts_now → ((rest : List ℕ) → ahead ≡ Some rest → GivesRecord Takes offset rest now later) → PlaysOn count now left later before after posts posts_now
plays_take count offset now left ahead later before after posts posts_now on gives = record {
  played = on.played;
  limits = on.limits;
  readings = on.readings;
  gives = on.gives;
  paced = on.paced;
  posts_are = on.posts_are;
  count_is = on.count_is;
  file = λ bytes is.
      let to = on.file bytes is in subst (λ (p : List Played). IsPlayedTo bytes p now later) (append-nil on.played) (played_more bytes on.played offset now ahead later Takes to (gives to.rest to.ahead_is));
}

-- an arrival was waited for
record Next (one : Played) (count offset now : ℕ) (left later : Option (List ℕ)) (before after : Option Ticking) (posts posts_now : List PostSeen) : Type 0 where
  played : List Played
  limits : AllByRecursion IsPlayed (played ++ one ∷ [])
  readings : List ℕ
  gives : Gives readings before after
  paced : Paced (map reading_of (played ++ one ∷ [])) readings
  posts_are : posts_now ≡ map (having_sent (map bytes_of played)) posts
  count_is : count ≡ length played
  file : (bytes : List ℕ) → left ≡ Some bytes → IsPlayedTo bytes (played ++ one ∷ []) now later

next_of : (one : Played) (count offset now : ℕ) (left ahead later : Option (List ℕ)) (before mid after : Option Ticking) (posts posts_now : List PostSeen) → PlaysOn count offset left ahead before mid posts posts_now → ((rest : List ℕ) → ahead ≡ Some rest → GivesRecord (Arrives one.reading one.bytes) offset rest now later) → IsPlayed one → WaitsFor one.reading mid after
    → Next one count offset now left later before after posts posts_now
next_of one count offset now left ahead later before mid after posts posts_now on gives fits waits = record {
  played = on.played;
  limits = all_more on.played one on.limits fits;
  readings = on.readings ++ waits.readings;
  gives = gives_both on.readings waits.readings before mid after on.gives waits.gives;
  paced = subst (λ (due : List ℕ). Paced due (on.readings ++ waits.readings)) (sym (map_more reading_of on.played one)) (paced_both on.readings (map reading_of on.played) waits.readings (one.reading ∷ []) on.paced waits.paced);
  posts_are = on.posts_are;
  count_is = on.count_is;
  file = λ bytes is. let to = on.file bytes is in played_more bytes on.played offset now ahead later (Arrives one.reading one.bytes) to (gives to.rest to.ahead_is);
}

-- an arrival was sent to all posts
pub plays_arrival : (one : Played) (count next offset now : ℕ) (left ahead later : Option (List ℕ)) (before mid after : Option Ticking) (posts posts_mid posts_now : List PostSeen) → PlaysOn count offset left ahead before mid posts posts_mid → ((rest : List ℕ) → ahead ≡ Some rest → GivesRecord (Arrives one.reading one.bytes) offset rest now later) → IsPlayed one → WaitsFor one.reading mid after
    → posts_now ≡ map (having_sent (one.bytes ∷ [])) posts_mid → next ≡ count + 1 → PlaysOn next now left later before after posts posts_now
plays_arrival one count next offset now left ahead later before mid after posts posts_mid posts_now on gives fits waits sends counted =
    let to = next_of one count offset now left ahead later before mid after posts posts_mid on gives fits waits in
    record {
      played = to.played ++ one ∷ [];
      limits = to.limits;
      readings = to.readings;
      gives = to.gives;
      paced = to.paced;
      posts_are =
          sends ∙ ap (map (having_sent (one.bytes ∷ []))) to.posts_are ∙ both_sent posts (map bytes_of to.played) (one.bytes ∷ []) ∙ ap (λ (sent : List (List ℕ)). map (having_sent sent) posts) (sym (map_more bytes_of to.played one));
      count_is = (let is = to.count_is in omega (arith, is, counted, length-append to.played (one ∷ [])));
      file = to.file;
    }

-- a post failed
pub plays_broken : (one : Played) (count offset now : ℕ) (left ahead later : Option (List ℕ)) (final : Option (List ℕ)) (before mid after : Option Ticking) (posts posts_mid posts_now : List PostSeen) → PlaysOn count offset left ahead before mid posts posts_mid → ((rest : List ℕ) → ahead ≡ Some rest → GivesRecord (Arrives one.reading one.bytes) offset rest now later) → IsPlayed one → WaitsFor one.reading mid after
    → BreaksAt one.bytes posts_mid posts_now → Plays PostFault left final before after posts posts_now
plays_broken one count offset now left ahead later final before mid after posts posts_mid posts_now on gives fits waits breaks =
    let to = next_of one count offset now left ahead later before mid after posts posts_mid on gives fits waits in
    record {
      played = to.played ++ one ∷ [];
      limits = to.limits;
      readings = to.readings;
      gives = to.gives;
      paced = to.paced;
      posts_are = record {
        prefix = map bytes_of to.played;
        last = one.bytes;
        datagrams_are = map_more bytes_of to.played one;
        breaks = subst (λ (ps : List PostSeen). BreaksAt one.bytes ps posts_now) to.posts_are breaks;
      };
      count = tt;
      file = λ bytes is. played_prefix bytes (to.played ++ one ∷ []) now later (to.file bytes is);
    }

-- the file ended
pub plays_ended : (count offset : ℕ) (left ahead later : Option (List ℕ)) (before after : Option Ticking) (posts posts_now : List PostSeen) → PlaysOn count offset left ahead before after posts posts_now → ((rest : List ℕ) → ahead ≡ Some rest → next_at capture offset rest ≡ AtEnd) → Plays (Ended count) left later before after posts posts_now
plays_ended count offset left ahead later before after posts posts_now on ends = record {
  played = on.played;
  limits = on.limits;
  readings = on.readings;
  gives = on.gives;
  paced = on.paced;
  posts_are = on.posts_are;
  count = on.count_is;
  file = λ bytes is. let to = on.file bytes is in played_all bytes on.played offset ahead None to (one_step capture capture_is offset to.rest AtEnd (ends to.rest to.ahead_is));
}

-- a place is refused
pub plays_refused : (at : ℕ) (kind : RecordKind) (count offset : ℕ) (left ahead later : Option (List ℕ)) (before after : Option Ticking) (posts posts_now : List PostSeen) → PlaysOn count offset left ahead before after posts posts_now → ((rest : List ℕ) → ahead ≡ Some rest → next_at capture offset rest ≡ Refuses at (refusal_of kind)) → Plays (Refused at kind) left later before after posts posts_now
plays_refused at kind count offset left ahead later before after posts posts_now on refuses = record {
  played = on.played;
  limits = on.limits;
  readings = on.readings;
  gives = on.gives;
  paced = on.paced;
  posts_are = on.posts_are;
  count = tt;
  file = λ bytes is.
      let to = on.file bytes is in played_all bytes on.played offset ahead (Some (at, kind)) to (one_refused capture capture_is offset to.rest at kind (refuses to.rest to.ahead_is));
}

-- a read failed
pub plays_cut : (count offset now : ℕ) (pending : List ℕ) (left ahead later : Option (List ℕ)) (before after : Option Ticking) (posts posts_now : List PostSeen) → PlaysOn count offset left ahead before after posts posts_now → ((rest : List ℕ) → ahead ≡ Some rest → LeavesFrom capture 0 offset rest now (after_bytes pending later)) → AwaitsAt capture now pending → Plays ReadFault left later before after posts posts_now
plays_cut count offset now pending left ahead later before after posts posts_now on leaves awaits = record {
  played = on.played;
  limits = on.limits;
  readings = on.readings;
  gives = on.gives;
  paced = on.paced;
  posts_are = on.posts_are;
  count = tt;
  file = λ bytes is. let to = on.file bytes is in played_cut bytes on.played offset now ahead pending later to (leaves to.rest to.ahead_is) awaits;
}
