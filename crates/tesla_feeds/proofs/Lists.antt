-- What is done with the streams of a list.
use Rattle.std.proofs.Common.{◌≡◌, ◌∙◌, ℕ, Bool, true, false, List, [], ◌∷◌, length, Option, refl, sym, ap, subst}
use Rattle.std.specs.Prelude.{if◌then◌else◌, not, nat_lt}
use Rattle.tesla_relay.specs.Posts.{PostSeen}
use Rattle.tesla_sender.specs.Made.{Call, Stream, interval_at}
use Rattle.tesla_sender.specs.declared.refusal.SendRefusal.{SendRefusal}
use Rattle.tesla_feed.specs.Steps.{MayHand}
use Rattle.tesla_feeds.specs.Fed.{AllDone, Done, Part, done_behind, done_on, is_on, is_past, one_done}
use Rattle.tesla_feeds.specs.Steps.{DoesAll, DoesPart, FeedParts, FeedsPart, HandsAll, HandsPart, MayDo, MaySendOn, SendOn, frames_made, many_made, many_where}
use Rattle.tesla_feeds.specs.declared.listed.ListedFeeder.{ListedFeeder}
use Rattle.tesla_feeds.proofs.Sending.{may_one_frame, send_none}

-- ---- the stream that is on

abbrev on_where : (Part → Done) → ℕ → Part → List Part → Bool → AllDone
on_where act reading part parts on = if on then one_done (act part) parts else done_behind part (done_on act reading parts)

pub on_here : (act : Part → Done) (reading : ℕ) (part : Part) (parts : List Part) → is_on reading part parts ≡ true → done_on act reading (part ∷ parts) ≡ one_done (act part) parts
on_here act reading part parts on = ap (on_where act reading part parts) on

pub on_behind : (act : Part → Done) (reading : ℕ) (part : Part) (parts : List Part) → is_on reading part parts ≡ false → done_on act reading (part ∷ parts) ≡ done_behind part (done_on act reading parts)
on_behind act reading part parts on = ap (on_where act reading part parts) on

-- whether a stream is past is judged by its feeder
pub past_is : (feeder : ListedFeeder) (part : Part) (reading : ℕ) → FeedsPart feeder part
    → nat_lt feeder.feeder.sender.stream.setup.times.last (interval_at feeder.feeder.sender.stream.setup.times reading) ≡ is_past part reading
past_is feeder part reading feeds = ap (λ (s : Stream). nat_lt s.setup.times.last (interval_at s.setup.times reading)) feeds.stands.stream_is

-- a stream with others behind it is on unless it is past
pub on_past : (behind : List ListedFeeder) (part : Part) (parts : List Part) (reading : ℕ) (past : Bool) → (length behind ≡ 0 → ⊥) → FeedParts behind parts
    → past ≡ is_past part reading → not past ≡ is_on reading part parts
on_past [] part parts reading past some stands is = absurd (some refl)
on_past (next ∷ behind) part [] reading past some stands is = absurd stands
on_past (next ∷ behind) part (other ∷ parts) reading past some stands is = ap not is

-- ---- none is there

pub does_none : (act : Part → Done) (reading : ℕ) (parts : List Part) (posts : List PostSeen) (failed : List Bool) → FeedParts [] parts → DoesAll (done_on act reading parts) [] [] [] posts posts failed failed
does_none act reading [] posts failed stands = record { stands = tt; sends = send_none posts failed; calls_are = refl; refused_are = refl }
does_none act reading (part ∷ parts) posts failed stands = absurd stands

-- ---- with the stream that is on

module _ (act : Part → Done) (reading : ℕ) (feeder : ListedFeeder) (behind : List ListedFeeder) (on : Bool)
    (is : (part : Part) (parts : List Part) → FeedsPart feeder part → FeedParts behind parts → on ≡ is_on reading part parts) where
  -- it was done with the first one
  pub does_here : (calls : List Call) (refused : List SendRefusal) (now : ListedFeeder) (parts : List Part) (result : Option ℕ) (posts posts_now : List PostSeen) (failed failed_now : List Bool) → on ≡ true
      → ((part : Part) → FeedsPart feeder part → DoesPart (act part) calls refused now result) → SendOn (frames_made result now.feeder.frame) posts posts_now failed failed_now
      → FeedParts (feeder ∷ behind) parts → DoesAll (done_on act reading parts) calls refused (now ∷ behind) posts posts_now failed failed_now
  does_here calls refused now [] result posts posts_now failed failed_now here does sends stands = absurd stands
  does_here calls refused now (part ∷ parts) result posts posts_now failed failed_now here does sends stands =
      let done = does part stands.0 in
      subst (λ (d : AllDone). DoesAll d calls refused (now ∷ behind) posts posts_now failed failed_now) (sym (on_here act reading part parts (sym (is part parts stands.0 stands.1) ∙ here))) (record {
        stands = (done.stands, stands.1);
        sends = subst (λ (fs : List (List ℕ)). SendOn fs posts posts_now failed failed_now) (sym done.frames) sends;
        calls_are = done.calls_are;
        refused_are = done.refused_are;
      })

  -- it was done with those behind it
  pub does_behind : (calls : List Call) (refused : List SendRefusal) (nows : List ListedFeeder) (parts : List Part) (posts posts_now : List PostSeen) (failed failed_now : List Bool) → on ≡ false
      → ((parts : List Part) → FeedParts behind parts → DoesAll (done_on act reading parts) calls refused nows posts posts_now failed failed_now)
      → FeedParts (feeder ∷ behind) parts → DoesAll (done_on act reading parts) calls refused (feeder ∷ nows) posts posts_now failed failed_now
  does_behind calls refused nows [] posts posts_now failed failed_now here does stands = absurd stands
  does_behind calls refused nows (part ∷ parts) posts posts_now failed failed_now here does stands =
      let all = does parts stands.1 in
      subst (λ (d : AllDone). DoesAll d calls refused (feeder ∷ nows) posts posts_now failed failed_now) (sym (on_behind act reading part parts (sym (is part parts stands.0 stands.1) ∙ here))) (record {
        stands = (stands.0, all.stands);
        sends = all.sends;
        calls_are = all.calls_are;
        refused_are = all.refused_are;
      })

  -- a handover was made of the first one, or none
  pub hands_here : (now : ListedFeeder) (parts : List Part) (result : Option ℕ) (sent : Bool) (posts posts_now : List PostSeen) (failed failed_now : List Bool) → on ≡ true
      → ((part : Part) → FeedsPart feeder part → HandsPart (act part) now result) → SendOn (frames_made result now.feeder.frame) posts posts_now failed failed_now
      → many_made result ≡ many_where sent → FeedParts (feeder ∷ behind) parts → HandsAll (done_on act reading parts) sent (now ∷ behind) posts posts_now failed failed_now
  hands_here now [] result sent posts posts_now failed failed_now here hands sends many stands = absurd stands
  hands_here now (part ∷ parts) result sent posts posts_now failed failed_now here hands sends many stands =
      let it = hands part stands.0 in
      subst (λ (d : AllDone). HandsAll d sent (now ∷ behind) posts posts_now failed failed_now) (sym (on_here act reading part parts (sym (is part parts stands.0 stands.1) ∙ here))) (record {
        does = record {
          stands = (it.does.stands, stands.1);
          sends = subst (λ (fs : List (List ℕ)). SendOn fs posts posts_now failed failed_now) (sym it.does.frames) sends;
          calls_are = refl;
          refused_are = it.does.refused_are;
        };
        count = it.count ∙ many;
      })

  -- so may the frame be sent
  module _ {P : Type 0} (seen : P → PostSeen) (may_send : P → List ℕ → Bool) (posts : List P) (failed : List Bool) where
    may_cases : (parts : List Part) → FeedParts (feeder ∷ behind) parts → MaySendOn seen may_send (done_on act reading parts).frames posts failed → on ≡ true
        → (datagram : List ℕ) → ((part : Part) → FeedsPart feeder part → (act part).frames ≡ datagram ∷ []) → MayHand may_send datagram posts failed
    may_cases [] stands may here datagram frames = absurd stands
    may_cases (part ∷ parts) stands may here datagram frames =
        may_one_frame seen may_send (done_on act reading (part ∷ parts)).frames datagram posts failed may
        (ap (λ (d : AllDone). d.frames) (on_here act reading part parts (sym (is part parts stands.0 stands.1) ∙ here)) ∙ frames part stands.0)

    pub may_hand_here : (feeders : List ListedFeeder) → feeders ≡ feeder ∷ behind → MayDo seen may_send feeders (done_on act reading) posts failed → on ≡ true
        → (datagram : List ℕ) → ((part : Part) → FeedsPart feeder part → (act part).frames ≡ datagram ∷ []) → MayHand may_send datagram posts failed
    may_hand_here feeders whole may here datagram frames =
        may_cases may.parts (subst (λ (fs : List ListedFeeder). FeedParts fs may.parts) whole may.stands) may.may here datagram frames
