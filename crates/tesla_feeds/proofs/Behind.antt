-- The streams of a list whose senders aren't there yet: nothing is done with them as long as none is needed.
use Rattle.std.proofs.Common.{◌≡◌, ◌∙◌, ℕ, Bool, true, false, List, [], ◌∷◌, ◌++◌, map, Option, Some, None, refl, sym, ap, subst, append-nil}
use Rattle.std.specs.Prelude.{if◌then◌else◌, not, ◌&&◌, ◌||◌}
use Rattle.std.specs.List.{list_all}
use Rattle.tesla_sender.specs.Made.{Stream}
use Rattle.tesla_feed.specs.Fed.{is_unread}
use Rattle.tesla_feeds.specs.Events.{frames_handed, frames_item, frames_read, frames_said, frames_told}
use Rattle.tesla_feeds.specs.Fed.{AllDone, Done, Fed, Part, after_handover, after_item, after_keys, after_message, after_missed, after_read, both_done, disclosed, done_behind, done_each, done_on, handed_over, is_past, one_done, parts_at, said, with_done, with_handovers}
use Rattle.tesla_feeds.specs.Later.{are_past, is_one_needed, is_right_where_used, is_unused, with_parts}
use Rattle.tesla_feeds.specs.Opening.{some_begun}
use Rattle.tesla_feeds.proofs.Early.{each_none, none_begun, or_first, or_second, quiet, tell_none}
use Rattle.tesla_feeds.proofs.Streams.{on_same, over_same, said_same, stream_in}

-- ---- what is done

-- with streams behind with which nothing is
abbrev pub with_behind : AllDone → List Part → AllDone
with_behind done behind = record { parts = done.parts ++ behind; calls = done.calls; frames = done.frames; refused = done.refused }

with_none : (done : AllDone) → with_behind done [] ≡ done
with_none done = ap (λ (ps : List Part). let it : AllDone = record { parts = ps; calls = done.calls; frames = done.frames; refused = done.refused } in it) (append-nil done.parts)

each_front : (act : Part → Done) (front behind : List Part) → done_each act behind ≡ quiet behind → done_each act (front ++ behind) ≡ with_behind (done_each act front) behind
each_front act [] behind none = none
each_front act (part ∷ front) behind none = ap (both_done (act part)) (each_front act front behind none)

last_where : (act : Part → Done) (reading : ℕ) (part next : Part) (behind : List Part) (past : Bool) → (past && true) ≡ false
    → (if not past then one_done (act part) (next ∷ behind) else done_behind part (done_on act reading (next ∷ behind))) ≡ with_behind (one_done (act part) []) (next ∷ behind)
last_where act reading part next behind true some = absurd cc
last_where act reading part next behind false some = refl

more_where : (act : Part → Done) (reading : ℕ) (part : Part) (front behind whole : List Part) (past all : Bool) → (past && all) ≡ false → (all ≡ false → done_on act reading whole ≡ with_behind (done_on act reading front) behind) → whole ≡ front ++ behind
    → (if not past then one_done (act part) whole else done_behind part (done_on act reading whole)) ≡ with_behind (if not past then one_done (act part) front else done_behind part (done_on act reading front)) behind
more_where act reading part front behind whole true all some rest is = ap (done_behind part) (rest some)
more_where act reading part front behind whole false all some rest is = ap (λ (ps : List Part). one_done (act part) ps) is

-- one of the streams in front isn't past
on_front : (act : Part → Done) (reading : ℕ) (part : Part) (front : List Part) (next : Part) (behind : List Part) → are_past (map stream_in (part ∷ front)) reading ≡ false
    → done_on act reading (part ∷ (front ++ next ∷ behind)) ≡ with_behind (done_on act reading (part ∷ front)) (next ∷ behind)
on_front act reading part [] next behind some = last_where act reading part next behind (is_past part reading) some
on_front act reading part (other ∷ front) next behind some =
    more_where act reading part (other ∷ front) (next ∷ behind) (other ∷ (front ++ next ∷ behind)) (is_past part reading) (are_past (map stream_in (other ∷ front)) reading) some (on_front act reading other front next behind) refl

on_some : (act : Part → Done) (reading : ℕ) (front : List Part) (next : Part) (behind : List Part) → are_past (map stream_in front) reading ≡ false
    → done_on act reading (front ++ next ∷ behind) ≡ with_behind (done_on act reading front) (next ∷ behind)
on_some act reading [] next behind some = absurd cc
on_some act reading (part ∷ front) next behind some = on_front act reading part front next behind some

-- ---- none is needed

-- at a reading that could be had
abbrev pub AreUnneeded : List Stream → List Stream → ℕ → ℕ → Type 0
AreUnneeded front [] opening reading = Unit {0}
AreUnneeded front (stream ∷ left) opening reading = (are_past front reading ≡ false) × (some_begun (stream ∷ left) opening reading ≡ false)

unneeded_where : (past begun unread : Bool) → unread ≡ false → (not unread && (past || begun)) ≡ false → (past || begun) ≡ false
unneeded_where past begun true read none = absurd cc
unneeded_where past begun false read none = none

unneeded : (front left : List Stream) (opening reading : ℕ) → is_unread reading ≡ false → is_one_needed front left opening reading ≡ false → AreUnneeded front left opening reading
unneeded front [] opening reading read none = tt
unneeded front (stream ∷ left) opening reading read none =
    let past = are_past front reading in
    let begun = some_begun (stream ∷ left) opening reading in
    let neither = unneeded_where past begun (is_unread reading) read none in
    (or_first past begun neither, or_second past begun neither)

module _ (opening reading : ℕ) (left : List Stream) (read : is_unread reading ≡ false) where
  on_behind : (act : Part → Done) (front : List Part) (streams : List Stream) → AreUnneeded (map stream_in front) streams opening reading → done_on act reading (front ++ parts_at opening streams) ≡ with_behind (done_on act reading front) (parts_at opening streams)
  on_behind act front [] none = ap (done_on act reading) (append-nil front) ∙ sym (with_none (done_on act reading front))
  on_behind act front (stream ∷ streams) none = on_some act reading front _ _ none.0

  each_behind : (front : List Part) (streams : List Stream) → AreUnneeded (map stream_in front) streams opening reading → done_each (disclosed reading) (front ++ parts_at opening streams) ≡ with_behind (done_each (disclosed reading) front) (parts_at opening streams)
  each_behind front [] none = each_front (disclosed reading) front [] refl
  each_behind front (stream ∷ streams) none =
      let parts = parts_at opening (stream ∷ streams) in
      each_front (disclosed reading) front parts (each_none (disclosed reading) parts (tell_none reading read parts (none_begun (stream ∷ streams) opening reading none.1)))

-- ---- events

-- what was made, with streams behind of which nothing was
abbrev pub join : Fed → List Part → Fed
join fed behind = with_parts fed (fed.parts ++ behind)

abbrev pub own_streams : Fed → List Stream
own_streams fed = map stream_in fed.parts

module _ (opening reading : ℕ) (left : List Stream) (read : is_unread reading ≡ false) where
  handover_join : (fed : Fed) → AreUnneeded (own_streams fed) left opening reading → after_handover reading (join fed (parts_at opening left)) ≡ join (after_handover reading fed) (parts_at opening left)
  handover_join fed none = ap (with_handovers (join fed (parts_at opening left))) (on_behind opening reading left read (handed_over reading) fed.parts left none)

  message_join : (payload : Option (List ℕ)) (fed : Fed) → AreUnneeded (own_streams fed) left opening reading → after_message reading payload (join fed (parts_at opening left)) ≡ join (after_message reading payload fed) (parts_at opening left)
  message_join None fed none = refl
  message_join (Some payload) fed none = ap (with_done (join fed (parts_at opening left))) (on_behind opening reading left read (said reading payload) fed.parts left none)

  keys_join : (fed : Fed) → AreUnneeded (own_streams fed) left opening reading → after_keys reading (join fed (parts_at opening left)) ≡ join (after_keys reading fed) (parts_at opening left)
  keys_join fed none = ap (with_done (join fed (parts_at opening left))) (each_behind opening reading left read fed.parts left none)

  -- the streams stay what they are
  handover_none : (fed : Fed) → AreUnneeded (own_streams fed) left opening reading → AreUnneeded (own_streams (after_handover reading fed)) left opening reading
  handover_none fed none = subst (λ (ss : List Stream). AreUnneeded ss left opening reading) (sym (on_same (handed_over reading) reading fed.parts (λ part. over_same part reading part.next))) none

  message_none : (payload : Option (List ℕ)) (fed : Fed) → AreUnneeded (own_streams fed) left opening reading → AreUnneeded (own_streams (after_message reading payload fed)) left opening reading
  message_none None fed none = none
  message_none (Some payload) fed none = subst (λ (ss : List Stream). AreUnneeded ss left opening reading) (sym (on_same (said reading payload) reading fed.parts (λ part. said_same part reading payload _))) none

  read_join : (payload : Option (List ℕ)) (fed : Fed) → AreUnneeded (own_streams fed) left opening reading → after_read reading payload (join fed (parts_at opening left)) ≡ join (after_read reading payload fed) (parts_at opening left)
  read_join payload fed none =
      let handed = after_handover reading fed in
      let none_handed = handover_none fed none in
      ap (λ (f : Fed). after_keys reading (after_message reading payload f)) (handover_join fed none)
      ∙ ap (after_keys reading) (message_join payload handed none_handed)
      ∙ keys_join (after_message reading payload handed) (message_none payload handed none_handed)

  said_frames : (payload : Option (List ℕ)) (fed : Fed) → AreUnneeded (own_streams fed) left opening reading → frames_said reading payload (join fed (parts_at opening left)) ≡ frames_said reading payload fed
  said_frames None fed none = refl
  said_frames (Some payload) fed none = ap (λ (d : AllDone). d.frames) (on_behind opening reading left read (said reading payload) fed.parts left none)

  read_frames : (payload : Option (List ℕ)) (fed : Fed) → AreUnneeded (own_streams fed) left opening reading → frames_read reading payload (join fed (parts_at opening left)) ≡ frames_read reading payload fed
  read_frames payload fed none =
      let parts = parts_at opening left in
      let handed = after_handover reading fed in
      let said_now = after_message reading payload handed in
      let none_handed = handover_none fed none in
      ap (λ (f : Fed). frames_handed reading (join fed parts) ++ (frames_said reading payload f ++ frames_told reading (after_message reading payload f))) (handover_join fed none)
      ∙ ap (λ (f : Fed). frames_handed reading (join fed parts) ++ (frames_said reading payload (join handed parts) ++ frames_told reading f)) (message_join payload handed none_handed)
      ∙ ap (λ (ds : List (List ℕ)). frames_handed reading (join fed parts) ++ (ds ++ frames_told reading (join said_now parts))) (said_frames payload handed none_handed)
      ∙ ap (λ (d : AllDone). frames_handed reading (join fed parts) ++ (frames_said reading payload handed ++ d.frames)) (each_behind opening reading left read said_now.parts left (message_none payload handed none_handed))
      ∙ ap (λ (d : AllDone). d.frames ++ (frames_said reading payload handed ++ frames_told reading said_now)) (on_behind opening reading left read (handed_over reading) fed.parts left none)

missed_join : (payload : Option (List ℕ)) (fed : Fed) (parts : List Part) → after_missed payload (join fed parts) ≡ join (after_missed payload fed) parts
missed_join None fed parts = refl
missed_join (Some payload) fed parts = refl

item_where : (opening reading : ℕ) (left : List Stream) (payload : Option (List ℕ)) (fed : Fed) (unread : Bool) → is_unread reading ≡ unread → is_one_needed (own_streams fed) left opening reading ≡ false
    → (if unread then after_missed payload (join fed (parts_at opening left)) else after_read reading payload (join fed (parts_at opening left))) ≡ join (if unread then after_missed payload fed else after_read reading payload fed) (parts_at opening left)
item_where opening reading left payload fed true is none = missed_join payload fed (parts_at opening left)
item_where opening reading left payload fed false is none = read_join opening reading left is payload fed (unneeded (own_streams fed) left opening reading is none)

frames_where : (opening reading : ℕ) (left : List Stream) (payload : Option (List ℕ)) (fed : Fed) (unread : Bool) → is_unread reading ≡ unread → is_one_needed (own_streams fed) left opening reading ≡ false
    → (let none : List (List ℕ) = [] in if unread then none else frames_read reading payload (join fed (parts_at opening left))) ≡ (let none : List (List ℕ) = [] in if unread then none else frames_read reading payload fed)
frames_where opening reading left payload fed true is none = refl
frames_where opening reading left payload fed false is none = read_frames opening reading left is payload fed (unneeded (own_streams fed) left opening reading is none)

module _ (opening reading : ℕ) (left : List Stream) (payload : Option (List ℕ)) (fed : Fed) (none : is_one_needed (own_streams fed) left opening reading ≡ false) where
  -- an event does what it does with the streams in front
  pub item_join : after_item reading payload (join fed (parts_at opening left)) ≡ join (after_item reading payload fed) (parts_at opening left)
  item_join = item_where opening reading left payload fed (is_unread reading) refl none

  pub frames_join : frames_item reading payload (join fed (parts_at opening left)) ≡ frames_item reading payload fed
  frames_join = frames_where opening reading left payload fed (is_unread reading) refl none

-- ---- seeds

all_where : (a b c : Bool) → (a && b) ≡ true → (b ≡ true → c ≡ true) → (a && c) ≡ true
all_where true b c both rest = rest both
all_where false b c both rest = absurd cc

all_both : {A : Type 0} (p : A → Bool) (xs ys : List A) → list_all p xs ≡ true → list_all p ys ≡ true → list_all p (xs ++ ys) ≡ true
all_both p [] ys first second = second
all_both p (x ∷ xs) ys first second = all_where (p x) (list_all p xs) (list_all p (xs ++ ys)) first (λ rest. all_both p xs ys rest second)

or_right : (a b : Bool) → b ≡ true → (a || b) ≡ true
or_right true b is = refl
or_right false b is = is

both_true : (a b c d : Bool) → (a && b) ≡ true → (a ≡ true → c ≡ true) → (b ≡ true → d ≡ true) → (c && d) ≡ true
both_true true true c d both first second = ap (λ (x : Bool). x && d) (first refl) ∙ second refl
both_true true false c d both first second = absurd cc
both_true false b c d both first second = absurd cc

used_front : (right : Stream → Bool) (parts : List Part) → list_all right (map stream_in parts) ≡ true → list_all (is_right_where_used right) parts ≡ true
used_front right [] all = refl
used_front right (part ∷ parts) all =
    both_true (right part.stream) (list_all right (map stream_in parts)) (is_right_where_used right part) (list_all (is_right_where_used right) parts) all
    (or_right (is_unused part.log) (right part.stream)) (used_front right parts)

used_behind : (right : Stream → Bool) (opening : ℕ) (left : List Stream) → list_all (is_right_where_used right) (parts_at opening left) ≡ true
used_behind right opening [] = refl
used_behind right opening (stream ∷ left) = used_behind right opening left

-- of the streams of which something was made the seeds are right
pub used_all : (right : Stream → Bool) (front : List Part) (opening : ℕ) (left : List Stream) → list_all right (map stream_in front) ≡ true → list_all (is_right_where_used right) (front ++ parts_at opening left) ≡ true
used_all right front opening left all = all_both (is_right_where_used right) front (parts_at opening left) (used_front right front all) (used_behind right opening left)
