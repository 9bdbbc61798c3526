-- What was done with a sender, from the openings and closings of the link and the posts.
use Rattle.std.proofs.Common.{◌≡◌, ◌∙◌, ◌⊎◌, inl, inr, ℕ, suc, ◌≤◌, nat_lt, ◌||◌, Bool, true, false, Ok, Err, List, [], ◌∷◌, ◌++◌, map, length, Option, Some, None, IfSome, refl, sym, ap, subst, arith, append_assoc}
use Rattle.std.proofs.lemmas.Bool.{or_cases, or_left, or_right}
use Rattle.std.specs.List.{AllByRecursion}
use Rattle.std.proofs.lemmas.List.{length-append, length-map}
use Rattle.std.specs.Option.{option_map}
use Rattle.tesla_desk.specs.Clocks.{Gives, Ticking}
use Rattle.tesla_desk.specs.Faults.{Faults, HasCause, HasCausesBeside, after_source, raised}
use Rattle.tesla_desk.specs.Live.{LeavesAll, Live, OpenedLink, Remainder, Wire, clock_told, mail_of, remainder_of}
use Rattle.tesla_desk.specs.Outside.{ClosesLink, MakesClock, OfLink, OfPost, OfSink, Opening, OpensLink, Told}
use Rattle.tesla_desk.specs.declared.desk.OpenRefusal.{OpenRefusal}
use Rattle.tesla_desk.specs.declared.desk.OpenRefusal.TheVariants as refusals
use Rattle.tesla_desk.specs.declared.link.Letter.{Letter}
use Rattle.tesla_desk.proofs.Told.{leaves_all}
use Rattle.tesla_desk.proofs.Counts.{cause_both, cause_none, causes_plain, causes_source, causes_then, counts_stay}
use Rattle.tesla_feed.specs.Fed.{reading_of}
use Rattle.tesla_feed.specs.Feed.{OpensAt, events_of, letter_of, rested_at}
use Rattle.tesla_feeds.specs.Fed.{lasting}
use Rattle.tesla_feeds.specs.Feeds.{ComesTo, Feeds, StopsEarly}
use Rattle.tesla_feeds.specs.Later.{last_streams, letters_in}
use Rattle.tesla_feeds.specs.Notes.{Note, all_counts, notes_of}
use Rattle.tesla_feeds.specs.Opening.{first_lasts, opened_at, streams_fed}
use Rattle.tesla_feeds.specs.declared.events.FeedsCounts.{FeedsCounts}
use Rattle.tesla_feeds.specs.declared.feeding.FeedsEnd.{FeedsEnd}
use Rattle.tesla_front.specs.OutcomeView.{OutcomeView, Failed}
use Rattle.tesla_front.specs.Fault.{unopened}
use Rattle.tesla_front.specs.Openings.{AnyFailed, IsAmong, Opens, files_told}
use Rattle.tesla_front.specs.declared.fault.Fault.{Fault}
use Rattle.tesla_front.specs.declared.fault.Fault.TheVariants as faults
use Rattle.tesla_front.proofs.Openings.{opens_first, opens_none, opens_then}
use Rattle.tesla_front.specs.Names.{AreDistinct, IsNoneOf}
use Rattle.tesla_relay.specs.Clocks.{ReadWhere}
use Rattle.tesla_relay.specs.Closed.{AnyFaulty, ClosesTo, HasMails, IsUnsent}
use Rattle.tesla_relay.specs.Links.{LeftWhere}
use Rattle.tesla_relay.specs.Opened.{AreFresh, OpensTo, post_name}
use Rattle.tesla_relay.specs.Opening.{ClosesPosts, OpensPosts}
use Rattle.tesla_relay.specs.Posts.{PostSeen}
use Rattle.tesla_relay.proofs.Closings.{closes_to, fresh_counts, fresh_mails, fresh_sound, mails_same}
use Rattle.tesla_relay.proofs.Clocks.{clock_alone, clock_made, clock_opens, read_where}
use Rattle.tesla_relay.proofs.Links.{left_where}
use Rattle.tesla_relay.proofs.Mails.{faulty_told, unsent_on}
use Rattle.tesla_relay.proofs.Openings.{none_of_opened, opens_new, opens_still, refused_not_all}
use Rattle.tesla_relay.proofs.Stopped.{outcome_cause, memory_counts, not_all_counts}
use Rattle.tesla_run_feed.specs.Arguments.{FeedArguments, IsFeedForm, files_of_feed, live_files, sources_of, status_files}
use Rattle.tesla_run_feed.specs.Feeding.{EndsAs, FeedsLink, FeedsOrEnds, FindsEnd, FindsOver, HoldsStatus, LackLater, LackSenders, LacksFirst, SendPosts, TouchesLive, behind_first, last_page, status_page}
use Rattle.tesla_run_feed.specs.Lines.{outcome_with, streams_over}
use Rattle.tesla_run_feed.specs.Listing.{IsFirstRight, all_times, are_several, is_right_stream}
use Rattle.tesla_run_feed.specs.Steps.{FeedsFiles, FeedsReady, LacksSender, RefusesStatus, RunsLinked, TriesToFeed, WritesStatus}
use Rattle.tesla_front.proofs.Behind.{failed_back, failed_prefix, opens_prefix}
use Rattle.tesla_run_feed.proofs.Behind.{Behind, RefusedBehind, last_same, refused_behind, status_behind}
use Rattle.tesla_run_feed.proofs.Ended.{IsNoFault, end_read, ends_by, failed_either, first_fault, lack_fault, lost_none, lost_of, no_open, read_end, write_end, written_is}
use Rattle.tesla_run_feed.proofs.Mailed.{each_reported, faulty_marked, marked_faulty, names_kept, sends_posts}
use Rattle.tesla_sender.specs.Made.{Stream}

-- what is opened behind the link
abbrev files_behind : FeedArguments → List Opening
files_behind arguments = map OfPost arguments.posts ++ status_files arguments.status

swap : {A B : Type 0} → A ⊎ B → B ⊎ A
swap (inl a) = inr a
swap (inr b) = inl b

-- posts that are new sent nothing, where that is told
unsent_mail : (sent : Option (List (List ℕ))) (faults : ℕ) → IfSome sent (λ datagrams. datagrams ≡ []) → faults ≡ 0 → IsUnsent (mail_of sent faults)
unsent_mail None faults empty none = tt
unsent_mail (Some datagrams) faults empty none = (empty, ap (λ (n : ℕ). nat_lt 0 n) none)

all_unsent : (posts : List PostSeen) (now : Told) → AreFresh posts → HasMails posts now → AllByRecursion (λ name. IsUnsent (now.live.mail name)) (map post_name posts)
all_unsent [] now fresh mails = tt
all_unsent (post ∷ posts) now fresh mails = (subst IsUnsent (sym mails.0) (unsent_mail post.sent post.faults fresh.0.0 fresh.0.1), all_unsent posts now fresh.1 mails.1)

-- ---- nothing was opened

pub touches_nothing : (link : List ℕ) (posts : List (List ℕ)) (before now : Live) → now ≡ before → TouchesLive link posts before now
touches_nothing link posts before now same = record {
  wires = λ name. ap (λ (l : Live). l.wire name) same;
  others = λ name other. ap (λ (l : Live). l.left name) same;
  mails = λ name none. ap (λ (l : Live). l.mail name) same;
  readings = ap (λ (l : Live). l.readings) same;
}

-- there was no room for the posts
pub fed_roomless : (over : Bool) (streams : List Stream) (arguments : FeedArguments) (told : Told) → FeedsFiles over streams arguments told told (Failed faults.NoMemory)
fed_roomless over streams arguments told = record {
  opened = 0;
  opens = opens_none (live_files arguments) told told refl (λ name. refl) (λ name. refl);
  touches = touches_nothing arguments.link arguments.posts told.live told.live refl;
  does = inl (record { few = omega arith; same = refl; cause = inr refl });
  counts = memory_counts told.faults told.faults refl;
}

-- ---- the link wasn't opened

-- at most the link was asked for
link_asked : {A : Type 0} (link : List ℕ) (files : List Opening) (refusal : OpenRefusal) (before now : Told) → OpensLink {A = A} link (Err refusal) before now → (n : ℕ) × (n ≤ 1) × Opens (OfLink link ∷ files) n before now
link_asked link files refusals.Failed before now tried = (1, omega arith, opens_first (OfLink link) files before now tried.asked (λ name none. tried.pages name) (λ name none. tried.lefts name))
link_asked link files refusals.NoMemory before now tried = (0, omega arith, opens_none (OfLink link ∷ files) before now tried.asked tried.pages tried.lefts)

pub fed_unlinked : {A : Type 0} (over : Bool) (streams : List Stream) (arguments : FeedArguments) (refusal : OpenRefusal) (fault : Fault) (before now : Told) → fault ≡ unopened refusal → OpensLink {A = A} arguments.link (Err refusal) before now → FeedsFiles over streams arguments before now (Failed fault)
fed_unlinked {A} over streams arguments refusal fault before now is tried =
    let it = link_asked {A = A} arguments.link (files_behind arguments) refusal before now tried in
    let not_all = refused_not_all {A = A} refusal before now tried.counts in
    subst (λ (f : Fault). FeedsFiles over streams arguments before now (Failed f)) (sym is) (record {
      opened = it.0;
      opens = it.2;
      touches = touches_nothing arguments.link arguments.posts before.live now.live tried.live;
      does = inl (record { few = omega (arith, it.1); same = tried.live; cause = outcome_cause (unopened refusal) not_all.cause });
      counts = not_all_counts (unopened refusal) before now not_all;
    })

-- ---- the clock

gives_both : (readings more : List ℕ) (before mid after : Option Ticking) → Gives readings before mid → Gives more mid after → Gives (readings ++ more) before after
gives_both [] more before mid after gives others = subst (λ (told : Option Ticking). Gives more told after) gives others
gives_both (reading ∷ readings) more before mid after (next, ticks, rest) others = (next, ticks, gives_both readings more next mid after rest others)

-- the readings up to the opening, and those behind it
gives_all : (unread : List ℕ) (opening : ℕ) (early later : List ℕ) (before mid after : Option Ticking) → Gives (unread ++ opening ∷ []) before mid → Gives (early ++ later) mid after → Gives (unread ++ opening ∷ early ++ later) before after
gives_all unread opening early later before mid after gives others =
    let same : (unread ++ opening ∷ []) ++ (early ++ later) ≡ unread ++ opening ∷ early ++ later = append_assoc unread (opening ∷ []) (early ++ later) ∙ sym (append_assoc unread (opening ∷ early) later) in
    subst (λ (rs : List ℕ). Gives rs before after) same (gives_both (unread ++ opening ∷ []) (early ++ later) before mid after gives others)

-- ---- a refused stream

-- no count rises
over_counts : {hidden : Type 0} (before now : Faults) → now ≡ before → HasCausesBeside hidden before now (streams_over ≡ Failed faults.Read) (streams_over ≡ Failed faults.Write) (streams_over ≡ Failed faults.Open)
over_counts {hidden} before now same = causes_plain {hidden = hidden} before now (record {
  reads = cause_none before.reads now.reads (ap (λ (f : Faults). f.reads) same) (λ e. absurd cc);
  writes = cause_none before.writes now.writes (ap (λ (f : Faults). f.writes) same) (λ e. absurd cc);
  openings = cause_none before.openings now.openings (ap (λ (f : Faults). f.openings) same) (λ e. absurd cc);
})

-- ---- a link of which nothing was taken

left_unheard : (wire : Wire) (left later : Option (List Letter)) (missed : ℕ) (now : Option Remainder) → OpenedLink wire left → now ≡ remainder_of later missed → later ≡ left → missed ≡ 0 → LeavesAll wire now
left_unheard wire left later missed now opened own left_is missed_is =
    subst (λ (r : Option Remainder). LeavesAll wire r) (sym own)
    (subst (λ (l : Option (List Letter)). LeavesAll wire (remainder_of l missed)) (sym left_is) (leaves_all wire left missed opened missed_is))

-- ---- there was no sender, and the link was closed

-- no count rises
lacks_counts : {hidden : Type 0} (streams : List Stream) (outcome : OutcomeView) (before now : Faults) → LacksFirst streams outcome → now ≡ before → HasCausesBeside hidden before now (outcome ≡ Failed faults.Read) (outcome ≡ Failed faults.Write) (outcome ≡ Failed faults.Open)
lacks_counts {hidden} streams outcome before now why same = causes_plain {hidden = hidden} before now (record {
  reads = cause_none before.reads now.reads (ap (λ (f : Faults). f.reads) same) (first_fault streams outcome faults.Read why (λ e. cc));
  writes = cause_none before.writes now.writes (ap (λ (f : Faults). f.writes) same) (first_fault streams outcome faults.Write why (λ e. cc));
  openings = cause_none before.openings now.openings (ap (λ (f : Faults). f.openings) same) (first_fault streams outcome faults.Open why (λ e. cc));
})

module _ (over : Bool) (streams : List Stream) (arguments : FeedArguments) (left : Option (List Letter)) (before linked tried closed now : Told) (outcome : OutcomeView) (link_opened : OpenedLink (before.live.wire arguments.link) left) (link_live : linked.live ≡ before.live) (link_counts : linked.faults ≡ before.faults) (link_opens : Opens (OfLink arguments.link ∷ []) 1 before linked) (posts : List PostSeen) (later : Option (List Letter)) (missed : ℕ)
    (posts_closed : ClosesPosts posts tried closed) (link_closed : ClosesLink arguments.link later missed closed now) (lacks : LacksSender streams posts linked tried outcome) (left_is : later ≡ left) (missed_is : missed ≡ 0) where
  senderless_closes : ClosesTo posts tried closed
  senderless_closes = closes_to posts tried closed posts_closed

  senderless_live : tried.live ≡ before.live
  senderless_live = ap (λ (t : Told). t.live) lacks.same ∙ link_live

  senderless_none : (name : List ℕ) → IsNoneOf name (map post_name posts)
  senderless_none name = subst (λ (ps : List PostSeen). IsNoneOf name (map post_name ps)) (sym lacks.none) tt

  senderless_mails : (name : List ℕ) → now.live.mail name ≡ before.live.mail name
  senderless_mails name = link_closed.mails name ∙ senderless_closes.others name (senderless_none name) ∙ ap (λ (l : Live). l.mail name) senderless_live

  senderless_opens : Opens (live_files arguments) 1 before now
  senderless_opens =
      let closes = senderless_closes in
      let none = opens_none (files_behind arguments) linked tried (ap (λ (t : Told). t.openings) lacks.same) (λ name. ap (λ (t : Told). t.page name) lacks.same) (λ name. ap (λ (t : Told). t.left name) lacks.same) in
      opens_then (OfLink arguments.link) (files_behind arguments) 0 before linked now link_opens
      (opens_still (files_behind arguments) 0 linked tried now none (link_closed.asked ∙ closes.asked) (λ name. link_closed.pages name ∙ closes.pages name) (λ name. link_closed.lefts name ∙ closes.lefts name))

  senderless_faults : now.faults ≡ before.faults
  senderless_faults =
      let fresh : AreFresh posts = subst AreFresh (sym lacks.none) tt in
      link_closed.counts ∙ ap (λ (n : ℕ). after_source closed.faults n) missed_is ∙ fresh_counts posts tried closed fresh senderless_closes
      ∙ ap (λ (t : Told). t.faults) lacks.same ∙ link_counts

  fed_senderless : FeedsFiles over streams arguments before now outcome
  fed_senderless =
      let closes = senderless_closes in
      record {
        opened = 1;
        opens = senderless_opens;
        touches = record {
          wires = λ name. link_closed.wires name ∙ closes.wires name ∙ ap (λ (l : Live). l.wire name) senderless_live;
          others = λ name other. link_closed.others name other ∙ closes.remainders name ∙ ap (λ (l : Live). l.left name) senderless_live;
          mails = λ name none. senderless_mails name;
          readings = link_closed.clocks.0 ∙ closes.clocks.0 ∙ ap (λ (l : Live). l.readings) senderless_live;
        };
        does = inr (inl (
          refl,
          record {
            unheard = left_unheard (before.live.wire arguments.link) left later missed (now.live.left arguments.link) link_opened link_closed.own left_is missed_is;
            unsent = senderless_mails;
            made = link_closed.clocks.1 ∙ closes.clocks.1 ∙ ap (λ (l : Live). l.made) senderless_live;
            why = lacks.why;
          },
        ));
        counts = lacks_counts streams outcome before.faults now.faults lacks.why senderless_faults;
      }

-- ---- a link that was opened, and closed behind the clock and the posts

module _ (over : Bool) (streams : List Stream) (arguments : FeedArguments) (left : Option (List Letter)) (before linked clocked now : Told) (link_opened : OpenedLink (before.live.wire arguments.link) left) (link_live : linked.live ≡ before.live) (link_counts : linked.faults ≡ before.faults) (link_opens : Opens (OfLink arguments.link ∷ []) 1 before linked) (ticking : Option Ticking) (makes : MakesClock linked clocked)
    (posts : List PostSeen) (tried closed : Told) (later : Option (List Letter)) (missed : ℕ) (posts_closed : ClosesPosts posts tried closed) (link_closed : ClosesLink arguments.link later missed closed now) where
  closes : ClosesTo posts tried closed
  closes = closes_to posts tried closed posts_closed

  clock_counts : clocked.faults ≡ before.faults
  clock_counts = ap (λ (t : Told). t.faults) makes.same ∙ link_counts

  opens_at_first : (opening : ℕ) → OpensAt opening (clock_told linked.live.readings linked.live.made) ticking → OpensAt opening (clock_told before.live.readings before.live.made) ticking
  opens_at_first opening opens = subst (λ (l : Live). OpensAt opening (clock_told l.readings l.made) ticking) link_live opens

  -- the link and so many of the posts and STATUS were asked to be opened, and nothing else was
  all_opens : (n : ℕ) → Opens (files_behind arguments) n clocked tried → Opens (live_files arguments) (suc n) before now
  all_opens n opens =
      opens_then (OfLink arguments.link) (files_behind arguments) n before clocked now (clock_opens before linked clocked makes (OfLink arguments.link ∷ []) 1 link_opens)
      (opens_still (files_behind arguments) n clocked tried now opens (link_closed.asked ∙ closes.asked) (λ name. link_closed.pages name ∙ closes.pages name) (λ name. link_closed.lefts name ∙ closes.lefts name))

  -- each page is as the closings found it
  all_pages : (name : List ℕ) → now.page name ≡ tried.page name
  all_pages name = link_closed.pages name ∙ closes.pages name

  -- where nothing was opened but the link and posts, that of STATUS is as at first
  status_stays : ((name : List ℕ) → tried.page name ≡ clocked.page name) → status_page arguments now ≡ status_page arguments before
  status_stays same = last_same (files_of_feed arguments) before now (λ name. all_pages name ∙ same name ∙ (clock_opens before linked clocked makes (OfLink arguments.link ∷ []) 1 link_opens).pages name no_sink) where
    no_sink : {name : List ℕ} → IsAmong (OfSink name) (OfLink arguments.link ∷ []) → ⊥
    no_sink (inl same) = absurd cc
    no_sink (inr never) = never

  -- what is told of links, posts and clocks is as before the posts were opened, and but for the clock as at first
  module _ (same : tried.live ≡ clocked.live) where
    at_first : tried.live ≡ record before.live { made = clocked.live.made }
    at_first = same ∙ clock_alone before linked clocked makes link_live

    all_touches : ((name : List ℕ) → IsNoneOf name arguments.posts → IsNoneOf name (map post_name posts)) → TouchesLive arguments.link arguments.posts before.live now.live
    all_touches none_of = record {
      wires = λ name. link_closed.wires name ∙ closes.wires name ∙ ap (λ (l : Live). l.wire name) at_first;
      others = λ name other. link_closed.others name other ∙ closes.remainders name ∙ ap (λ (l : Live). l.left name) at_first;
      mails = λ name none. link_closed.mails name ∙ closes.others name (none_of name none) ∙ ap (λ (l : Live). l.mail name) at_first;
      readings = link_closed.clocks.0 ∙ closes.clocks.0 ∙ ap (λ (l : Live). l.readings) at_first;
    }

    all_made : now.live.made ≡ option_map raised before.live.made
    all_made = link_closed.clocks.1 ∙ closes.clocks.1 ∙ ap (λ (l : Live). l.made) same ∙ clock_made before linked clocked makes link_live

  -- ---- nothing was taken from the link

  module _ (same : (later ≡ left) × (missed ≡ 0)) where
    all_unheard : LeavesAll (before.live.wire arguments.link) (now.live.left arguments.link)
    all_unheard = left_unheard (before.live.wire arguments.link) left later missed (now.live.left arguments.link) link_opened link_closed.own same.0 same.1

    all_faults : AreFresh posts → now.faults ≡ tried.faults
    all_faults fresh = link_closed.counts ∙ ap (λ (n : ℕ). after_source closed.faults n) same.1 ∙ fresh_counts posts tried closed fresh closes

  -- ---- no post was asked for

  module _ (none : posts ≡ []) (same : tried ≡ clocked) where
    none_fresh : AreFresh posts
    none_fresh = subst AreFresh (sym none) tt

    none_live : tried.live ≡ clocked.live
    none_live = ap (λ (t : Told). t.live) same

    none_opens : Opens (files_behind arguments) 0 clocked tried
    none_opens = opens_none (files_behind arguments) clocked tried (ap (λ (t : Told). t.openings) same) (λ name. ap (λ (t : Told). t.page name) same) (λ name. ap (λ (t : Told). t.left name) same)

    none_named : (name : List ℕ) → IsNoneOf name (map post_name posts)
    none_named name = subst (λ (ps : List PostSeen). IsNoneOf name (map post_name ps)) (sym none) tt

    none_mails : (name : List ℕ) → now.live.mail name ≡ before.live.mail name
    none_mails name = link_closed.mails name ∙ closes.others name (none_named name) ∙ ap (λ (l : Live). l.mail name) (at_first none_live)

    none_faults : (later ≡ left) × (missed ≡ 0) → now.faults ≡ before.faults
    none_faults unheard = all_faults unheard none_fresh ∙ ap (λ (t : Told). t.faults) same ∙ clock_counts

  -- ---- all streams were over

  module _ (opening : ℕ) (opens_at : OpensAt opening (clock_told before.live.readings before.live.made) ticking) (right : IsFirstRight streams) (ended : lasting opening streams ≡ []) (none : posts ≡ []) (same : tried ≡ clocked) (unheard : (later ≡ left) × (missed ≡ 0)) where
    over_found : FindsOver arguments streams before.live now.live streams_over
    over_found = record {
      unread = opens_at.unread;
      opening = opening;
      clock = read_where (opens_at.unread ++ opening ∷ []) before.live.readings before.live.made ticking opens_at.gives;
      clock_made = all_made (none_live none same);
      missed = opens_at.missed;
      read = opens_at.read;
      over = ended;
      unheard = all_unheard unheard;
      unsent = none_mails none same;
      outcome_is = refl;
    }

    fed_over : FeedsFiles over streams arguments before now streams_over
    fed_over = record {
      opened = 1;
      opens = all_opens 0 (none_opens none same);
      touches = all_touches (none_live none same) (λ name other. none_named none same name);
      does = inr (inr (right, inr (inl (refl, over_found))));
      counts = over_counts before.faults now.faults (none_faults none same unheard);
    }

  -- ---- there was no memory for the feed

  fed_unheld : IsFirstRight streams → posts ≡ [] → tried ≡ clocked → (later ≡ left) × (missed ≡ 0) → FeedsFiles over streams arguments before now (Failed faults.NoMemory)
  fed_unheld right none same unheard = record {
    opened = 1;
    opens = all_opens 0 (none_opens none same);
    touches = all_touches (none_live none same) (λ name other. none_named none same name);
    does = inr (inr (
      right,
      inl (record {
        unheard = all_unheard unheard;
        unsent = λ name. inl (none_mails none same name);
        unwritten = status_stays (λ name. ap (λ (t : Told). t.page name) same);
        made = all_made (none_live none same);
        cause = inr refl;
      }),
    ));
    counts = memory_counts before.faults now.faults (none_faults none same unheard);
  }

  -- ---- the opening of a post was refused

  module _ (right : IsFirstRight streams) (fault : Fault) (posts_open : OpensPosts arguments.posts clocked tried [] posts (Err fault)) (unheard : (later ≡ left) × (missed ≡ 0)) where
    refused_to : OpensTo arguments.posts posts clocked tried (Err fault)
    refused_to = opens_new arguments.posts clocked tried posts (Err fault) posts_open

    refused_few : refused_to.opened ≤ length (map OfPost arguments.posts)
    refused_few = subst (λ (n : ℕ). refused_to.opened ≤ n) (sym (length-map arguments.posts OfPost)) refused_to.few

    refused_unsent : (name : List ℕ) → (now.live.mail name ≡ before.live.mail name) ⊎ IsUnsent (now.live.mail name)
    refused_unsent name =
        unsent_on before.live now.live closed.live name (link_closed.mails name)
        (subst (λ (l : Live). (closed.live.mail name ≡ l.mail name) ⊎ IsUnsent (closed.live.mail name)) (at_first refused_to.live) (fresh_mails posts tried closed refused_to.fresh posts_closed name))

    fed_refused : FeedsFiles over streams arguments before now (Failed fault)
    fed_refused =
        let not_all = refused_to.refused fault refl in
        let hidden = (Failed fault ≡ Failed faults.Read) × AnyFailed (live_files arguments) now in
        let counts = causes_then before.faults clocked.faults tried.faults clock_counts (not_all_counts {hidden = hidden} fault clocked tried not_all) in
        record {
          opened = suc refused_to.opened;
          opens = all_opens refused_to.opened (opens_prefix (map OfPost arguments.posts) (status_files arguments.status) refused_to.opened clocked tried refused_few refused_to.opens);
          touches = all_touches refused_to.live (λ name none. none_of_opened name arguments.posts posts clocked tried (Err fault) refused_to none);
          does = inr (inr (
            right,
            inl (record {
              unheard = all_unheard unheard;
              unsent = refused_unsent;
              unwritten = status_stays refused_to.pages;
              made = all_made refused_to.live;
              cause = outcome_cause fault not_all.cause;
            }),
          ));
          counts = subst (λ (f : Faults). HasCausesBeside hidden before.faults f (Failed fault ≡ Failed faults.Read) (Failed fault ≡ Failed faults.Write) (Failed fault ≡ Failed faults.Open)) (sym (all_faults unheard refused_to.fresh)) counts;
        }

  -- ---- all posts were opened

  module _ (right : IsFirstRight streams) (some : 1 ≤ length arguments.posts) (distinct : AreDistinct arguments.posts) (opening : ℕ) (opens_at : OpensAt opening (clock_told before.live.readings before.live.made) ticking) (lasts : first_lasts opening (lasting opening streams) ≡ true) (fresh : List PostSeen) (opened : Told) (posts_open : OpensPosts arguments.posts clocked opened [] fresh (Ok tt)) where
    fed_to : OpensTo arguments.posts fresh clocked opened (Ok tt)
    fed_to = opens_new arguments.posts clocked opened fresh (Ok tt) posts_open

    fed_first : Opens (map OfPost arguments.posts) (length (map OfPost arguments.posts)) clocked opened
    fed_first = subst (λ (n : ℕ). Opens (map OfPost arguments.posts) n clocked opened) ((fed_to.whole refl).all ∙ sym (length-map arguments.posts OfPost)) fed_to.opens

    fed_counts : opened.faults ≡ before.faults
    fed_counts = (fed_to.whole refl).counts ∙ clock_counts

    -- ---- the opening of STATUS was refused

    module _ (fault : Fault) (refuses : RefusesStatus arguments.status opened tried fault) (unheard : (later ≡ left) × (missed ≡ 0)) (unsent : posts ≡ fresh) where
      lacks_behind : RefusedBehind (map OfPost arguments.posts) arguments.status opened tried fault
      lacks_behind = refused_behind (map OfPost arguments.posts) arguments.status opened tried fault refuses

      lacks_fresh : AreFresh posts
      lacks_fresh = subst AreFresh (sym unsent) fed_to.fresh

      lacks_live : tried.live ≡ clocked.live
      lacks_live = lacks_behind.live ∙ fed_to.live

      lacks_unsent : (name : List ℕ) → (now.live.mail name ≡ before.live.mail name) ⊎ IsUnsent (now.live.mail name)
      lacks_unsent name =
          unsent_on before.live now.live closed.live name (link_closed.mails name)
          (subst (λ (l : Live). (closed.live.mail name ≡ l.mail name) ⊎ IsUnsent (closed.live.mail name)) (at_first lacks_live) (fresh_mails posts tried closed lacks_fresh posts_closed name))

      fed_unstatused : FeedsFiles over streams arguments before now (Failed fault)
      fed_unstatused =
          let asked = lacks_behind.opens clocked fed_first in
          let hidden = (Failed fault ≡ Failed faults.Read) × AnyFailed (live_files arguments) now in
          let counts = causes_then before.faults opened.faults tried.faults fed_counts (not_all_counts {hidden = hidden} fault opened tried lacks_behind.not_all) in
          record {
            opened = suc asked.0;
            opens = all_opens asked.0 asked.1;
            touches = all_touches lacks_live (λ name none. subst (λ (ps : List PostSeen). IsNoneOf name (map post_name ps)) (sym unsent) (subst (λ (ns : List (List ℕ)). IsNoneOf name ns) (sym (fed_to.whole refl).names_are) none));
            does = inr (inr (
              right,
              inl (record {
                unheard = all_unheard unheard;
                unsent = lacks_unsent;
                unwritten = status_stays (λ name. lacks_behind.pages name ∙ fed_to.pages name);
                made = all_made lacks_live;
                cause = outcome_cause fault lacks_behind.not_all.cause;
              }),
            ));
            counts = subst (λ (f : Faults). HasCausesBeside hidden before.faults f (Failed fault ≡ Failed faults.Read) (Failed fault ≡ Failed faults.Write) (Failed fault ≡ Failed faults.Open)) (sym (all_faults unheard lacks_fresh)) counts;
          }

    -- ---- all were opened

    module _ (end : FeedsEnd) (status_failed : Bool) (lack : OutcomeView) (no_fault : IsNoFault end.lacking lack) (link_read : HasCause 0 missed (end.link_failed ≡ true)) (notes : List Note) (writes : WritesStatus arguments.status (all_times streams) opening end.counts opened tried status_failed notes) (names_are : map post_name posts ≡ arguments.posts) (marked : AnyFaulty posts → end.post_failed ≡ true) (faulty : end.post_failed ≡ true → AnyFaulty posts) where
      fed_behind : Behind (map OfPost arguments.posts) arguments.status (all_times streams) opening end.counts opened tried status_failed notes
      fed_behind = status_behind (map OfPost arguments.posts) arguments.status (all_times streams) opening end.counts opened tried status_failed notes writes

      fed_live : tried.live ≡ clocked.live
      fed_live = fed_behind.live ∙ fed_to.live

      fed_mails : HasMails posts now
      fed_mails = mails_same posts closed now link_closed.mails (closes.mails (subst AreDistinct (sym names_are) distinct))

      fed_status : HoldsStatus arguments.status (all_times streams) opening notes end.counts status_failed (status_page arguments now)
      fed_status =
          let linked : List Opening = OfLink arguments.link ∷ map OfPost arguments.posts in
          subst (λ (files : List Opening). HoldsStatus arguments.status (all_times streams) opening notes end.counts status_failed (last_page (files_told now files)))
          (append_assoc (sources_of arguments) linked (status_files arguments.status))
          (fed_behind.holds now (sources_of arguments ++ linked) all_pages)

      -- a post or STATUS failed, where that is told
      fed_either : (end.post_failed || status_failed) ≡ true → AnyFaulty posts ⊎ (status_failed ≡ true)
      fed_either e = elim (or_cases end.post_failed status_failed e) [ inl post ↦ inl (faulty post) | inr status ↦ inr status ]

      fed_failed : AnyFaulty posts ⊎ (status_failed ≡ true) → (end.post_failed || status_failed) ≡ true
      fed_failed (inl post) = or_left end.post_failed status_failed (marked post)
      fed_failed (inr status) = or_right end.post_failed status_failed status

      fed_any : AnyFaulty posts ⊎ (status_failed ≡ true) → AnyFailed (live_files arguments) now
      fed_any (inl post) = failed_prefix (map OfPost arguments.posts) (status_files arguments.status) now (subst (λ (ns : List (List ℕ)). AnyFailed (map OfPost ns) now) names_are (faulty_told posts now fed_mails post))
      fed_any (inr status) = failed_back (map OfPost arguments.posts) (status_files arguments.status) now (fed_behind.any now all_pages status)

      -- the count of reads rose where the link failed, and that of writes where a post or STATUS did
      fed_causes : HasCausesBeside ((outcome_with (are_several (all_times streams)) end status_failed lack ≡ Failed faults.Read) × AnyFailed (live_files arguments) now) opened.faults now.faults (outcome_with (are_several (all_times streams)) end status_failed lack ≡ Failed faults.Read) (outcome_with (are_several (all_times streams)) end status_failed lack ≡ Failed faults.Write) (outcome_with (are_several (all_times streams)) end status_failed lack ≡ Failed faults.Open)
      fed_causes =
          let write = end.post_failed || status_failed in
          let own = fed_behind.own in
          let outcome = outcome_with (are_several (all_times streams)) end status_failed lack in
          let source = causes_source {read = outcome ≡ Failed faults.Read} {write = ⊥} {opening = ⊥} closed.faults now.faults missed link_closed.counts link_read
          (λ e. read_end (are_several (all_times streams)) end.link_failed write end.lacking lack end.counts no_fault e) (λ e. end_read (are_several (all_times streams)) end.link_failed write end.lacking lack end.counts e) (λ never. never) (λ never. never) in
          let reads : closed.faults.reads ≡ opened.faults.reads = closes.reads ∙ own.reads.still (λ never. never) in
          let writes_are : now.faults.writes ≡ closed.faults.writes = ap (λ (f : Faults). f.writes) link_closed.counts in
          let openings : now.faults.openings ≡ opened.faults.openings = ap (λ (f : Faults). f.openings) link_closed.counts ∙ closes.openings ∙ own.openings.still (λ never. never) in
          let both : HasCause opened.faults.writes closed.faults.writes (AnyFaulty posts ⊎ (status_failed ≡ true)) =
          cause_both opened.faults.writes tried.faults.writes closed.faults.writes own.writes closes.writes (λ either. swap either) (λ either. swap either) in
          let cause : HasCause opened.faults.writes now.faults.writes (AnyFaulty posts ⊎ (status_failed ≡ true)) = subst (λ (n : ℕ). HasCause opened.faults.writes n (AnyFaulty posts ⊎ (status_failed ≡ true))) (sym writes_are) both in
          record {
            reads = subst (λ (n : ℕ). HasCause n now.faults.reads (outcome ≡ Failed faults.Read)) reads source.reads;
            writes = record {
              stays = cause.stays;
              rose = λ e. cause.rose (fed_either (write_end (are_several (all_times streams)) end.link_failed write end.lacking lack end.counts no_fault e));
              still = λ none clear. cause.still (λ either.
                  elim (failed_either (are_several (all_times streams)) end.link_failed write end.lacking lack end.counts (fed_failed either)) [
                    | inl read ↦ clear (read, fed_any either)
                    | inr failed ↦ none failed
                  ]);
            };
            openings = cause_none opened.faults.openings now.faults.openings openings (λ e. no_open (are_several (all_times streams)) end.link_failed write end.lacking lack end.counts no_fault e);
          }

      -- what was done with the link and the posts
      fed_by : FeedsOrEnds over arguments streams before.live now.live (status_page arguments now) (outcome_with (are_several (all_times streams)) end status_failed lack) → FeedsFiles over streams arguments before now (outcome_with (are_several (all_times streams)) end status_failed lack)
      fed_by does =
          record {
            opened = suc (length (files_behind arguments));
            opens = all_opens (length (files_behind arguments)) (fed_behind.opens clocked fed_first);
            touches = all_touches fed_live (λ name none. subst (λ (ns : List (List ℕ)). IsNoneOf name ns) (sym names_are) none);
            does = inr (inr (right, inr (inr (sym (length-append (sources_of arguments) (live_files arguments)), does))));
            counts = causes_then before.faults opened.faults now.faults fed_counts fed_causes;
          }

    module _ (many : ℕ) (front behind : List Stream) (behind_is : behind ≡ last_streams many (behind_first streams)) (streams_are : lasting opening streams ≡ front ++ behind)
        (end : FeedsEnd) (status_failed : Bool) (lack : OutcomeView) (lacks : end.lacking ≡ true → LackSenders behind lack) (link_read : HasCause 0 missed (end.link_failed ≡ true)) (after : Option Ticking) where
      -- where a sender was lacking
      end_lacks : end.lacking ≡ true → LackLater streams opening lack
      end_lacks e = record {
        many = many;
        front = front;
        are = streams_are ∙ ap (λ (ss : List Stream). front ++ ss) behind_is;
        why = subst (λ (ss : List Stream). LackSenders ss lack) behind_is (lacks e);
      }

      end_no_fault : IsNoFault end.lacking lack
      end_no_fault e fault other is = lack_fault behind lack fault (lacks e) other is

      -- ---- the link was fed

      module _ (feeds : Feeds is_right_stream (lasting opening streams) opening end left later ticking after fresh posts (WritesStatus arguments.status (all_times streams) opening end.counts opened tried status_failed)) where
        abbrev ran_notes : List Note
        ran_notes = notes_of (lasting opening streams) opening (map rested_at feeds.early ++ events_of feeds.heard feeds.rests)

        ran_names : map post_name posts ≡ arguments.posts
        ran_names = names_kept feeds.made.frames fresh posts feeds.failed feeds.posts_are ∙ (fed_to.whole refl).names_are

        ran_marked : AnyFaulty posts → end.post_failed ≡ true
        ran_marked any = feeds.some_failed ∙ faulty_marked feeds.made.frames fresh posts feeds.failed fed_to.fresh feeds.posts_are any

        ran_faulty : end.post_failed ≡ true → AnyFaulty posts
        ran_faulty e = marked_faulty feeds.made.frames fresh posts feeds.failed fed_to.fresh feeds.posts_are (sym feeds.some_failed ∙ e)

        ran_posts : SendPosts feeds.made.frames arguments.posts now.live feeds.failed
        ran_posts =
            subst (λ (ns : List (List ℕ)). SendPosts feeds.made.frames ns now.live feeds.failed) ran_names
            (sends_posts feeds.made.frames fresh posts feeds.failed now fed_to.fresh (fed_mails end status_failed lack end_no_fault link_read ran_notes feeds.noted ran_names ran_marked ran_faulty) feeds.posts_are)

        ran_clock : ReadWhere (opens_at.unread ++ opening ∷ feeds.early ++ feeds.begun ∷ map reading_of (events_of feeds.heard feeds.rests ++ feeds.lost)) before.live.readings before.live.made
        ran_clock =
            let later : List ℕ = feeds.begun ∷ map reading_of (events_of feeds.heard feeds.rests ++ feeds.lost) in
            read_where (opens_at.unread ++ opening ∷ feeds.early ++ later) before.live.readings before.live.made after
            (gives_all opens_at.unread opening feeds.early later (clock_told before.live.readings before.live.made) ticking after opens_at.gives feeds.gives)

        ran_link : LeftWhere (map letter_of feeds.heard ++ letters_in feeds.lost) (before.live.wire arguments.link) (now.live.left arguments.link)
        ran_link =
            let taken = map letter_of feeds.heard ++ letters_in feeds.lost in
            subst (λ (r : Option Remainder). LeftWhere taken (before.live.wire arguments.link) r) (sym link_closed.own)
            (left_where taken (before.live.wire arguments.link) left later missed link_opened feeds.left_is)

        ran_some : 1 ≤ length feeds.failed
        ran_some =
            let size : length feeds.failed ≡ length arguments.posts =
            each_reported feeds.made.frames fresh posts feeds.failed feeds.posts_are
            ∙ sym (length-map posts post_name) ∙ ap (λ (ns : List (List ℕ)). length ns) ran_names in
            subst (λ (n : ℕ). 1 ≤ n) (sym size) some

        ran_ends : EndsAs streams opening (now.live.left arguments.link) feeds.made feeds.lost feeds.failed status_failed (outcome_with (are_several (all_times streams)) end status_failed lack)
        ran_ends =
            subst (λ (r : Option Remainder). EndsAs streams opening r feeds.made feeds.lost feeds.failed status_failed (outcome_with (are_several (all_times streams)) end status_failed lack)) (sym link_closed.own)
            (ends_by streams opening end.link_failed (end.post_failed || status_failed) end.lacking lack end.counts feeds.made feeds.lost feeds.failed status_failed later missed link_read ran_some feeds.keys_disclosed feeds.ended
            end_lacks (lost_none (lasting opening streams) opening end.lacking feeds.lost feeds.lost_is) feeds.counts (ap (λ (b : Bool). b || status_failed) feeds.some_failed))

        ran_feeds : FeedsLink arguments streams before.live now.live (status_page arguments now) (outcome_with (are_several (all_times streams)) end status_failed lack)
        ran_feeds = record {
          unread = opens_at.unread;
          opening = opening;
          early = feeds.early;
          begun = feeds.begun;
          heard = feeds.heard;
          rests = feeds.rests;
          lost = feeds.lost;
          lost_is = lost_of streams opening end.lacking feeds.lost (λ e. (lack, end_lacks e)) feeds.lost_is;
          clock = ran_clock;
          clock_made = all_made (fed_live end status_failed lack end_no_fault link_read ran_notes feeds.noted ran_names ran_marked ran_faulty);
          missed = opens_at.missed;
          read = opens_at.read;
          lasts = lasts;
          waits = feeds.waits;
          begins = feeds.begins;
          link = ran_link;
          made = feeds.made;
          made_is = feeds.made_is;
          used = feeds.used;
          failed = feeds.failed;
          posts = ran_posts;
          status_failed = status_failed;
          status = subst (λ (counts : FeedsCounts). HoldsStatus arguments.status (all_times streams) opening ran_notes counts status_failed (status_page arguments now)) feeds.counts
              (fed_status end status_failed lack end_no_fault link_read ran_notes feeds.noted ran_names ran_marked ran_faulty);
          needed = feeds.needed;
          ends = ran_ends;
        }

        fed_all : FeedsFiles over streams arguments before now (outcome_with (are_several (all_times streams)) end status_failed lack)
        fed_all = fed_by end status_failed lack end_no_fault link_read ran_notes feeds.noted ran_names ran_marked ran_faulty (inr ran_feeds)

      -- ---- the run was asked to end

      module _ (stops : StopsEarly over (lasting opening streams) opening end left later ticking after fresh posts (WritesStatus arguments.status (all_times streams) opening end.counts opened tried status_failed)) where
        abbrev stopped_notes : List Note
        stopped_notes = notes_of (lasting opening streams) opening (map rested_at stops.early)

        stopped_names : map post_name posts ≡ arguments.posts
        stopped_names = ap (λ (ps : List PostSeen). map post_name ps) stops.posts_are ∙ (fed_to.whole refl).names_are

        stopped_fresh : AreFresh posts
        stopped_fresh = subst AreFresh (sym stops.posts_are) fed_to.fresh

        stopped_marked : AnyFaulty posts → end.post_failed ≡ true
        stopped_marked any = absurd (fresh_sound posts stopped_fresh any)

        stopped_faulty : end.post_failed ≡ true → AnyFaulty posts
        stopped_faulty e = absurd (let clash : true ≡ false = sym e ∙ ap (λ (it : FeedsEnd). it.post_failed) stops.result_is in cc)

        stopped_missed : missed ≡ 0
        stopped_missed = link_read.still (λ e. absurd (let clash : true ≡ false = sym e ∙ ap (λ (it : FeedsEnd). it.link_failed) stops.result_is in cc))

        stopped_clock : ReadWhere (opens_at.unread ++ opening ∷ stops.early) before.live.readings before.live.made
        stopped_clock =
            let told = clock_told before.live.readings before.live.made in
            let same : (opens_at.unread ++ opening ∷ []) ++ stops.early ≡ opens_at.unread ++ opening ∷ stops.early = append_assoc opens_at.unread (opening ∷ []) stops.early in
            read_where (opens_at.unread ++ opening ∷ stops.early) before.live.readings before.live.made after
            (subst (λ (rs : List ℕ). Gives rs told after) same (gives_both (opens_at.unread ++ opening ∷ []) stops.early told ticking after opens_at.gives stops.gives))

        stopped_end : FindsEnd over arguments streams before.live now.live (status_page arguments now) (outcome_with (are_several (all_times streams)) end status_failed lack)
        stopped_end = record {
          asked = stops.asked;
          unread = opens_at.unread;
          opening = opening;
          early = stops.early;
          clock = stopped_clock;
          clock_made = all_made (fed_live end status_failed lack end_no_fault link_read stopped_notes stops.noted stopped_names stopped_marked stopped_faulty);
          missed = opens_at.missed;
          read = opens_at.read;
          lasts = lasts;
          waits = stops.waits;
          unheard = all_unheard (stops.left_is, stopped_missed);
          unsent = subst (λ (ns : List (List ℕ)). AllByRecursion (λ name. IsUnsent (now.live.mail name)) ns) stopped_names
              (all_unsent posts now stopped_fresh (fed_mails end status_failed lack end_no_fault link_read stopped_notes stops.noted stopped_names stopped_marked stopped_faulty));
          status_failed = status_failed;
          status = subst (λ (counts : FeedsCounts). HoldsStatus arguments.status (all_times streams) opening stopped_notes counts status_failed (status_page arguments now)) (ap (λ (it : FeedsEnd). it.counts) stops.result_is)
              (fed_status end status_failed lack end_no_fault link_read stopped_notes stops.noted stopped_names stopped_marked stopped_faulty);
          outcome_is = ap (λ (it : FeedsEnd). outcome_with (are_several (all_times streams)) it status_failed lack) stops.result_is
              ∙ written_is (are_several (all_times streams)) false status_failed false lack (all_counts (opened_at opening (lasting opening streams))) refl refl;
        }

        fed_stopped : FeedsFiles over streams arguments before now (outcome_with (are_several (all_times streams)) end status_failed lack)
        fed_stopped = fed_by end status_failed lack end_no_fault link_read stopped_notes stops.noted stopped_names stopped_marked stopped_faulty (inl stopped_end)

    -- ---- whatever was done with the link and the posts

    fed_ready : (many : ℕ) (front behind : List Stream) → behind ≡ last_streams many (behind_first streams) → lasting opening streams ≡ front ++ behind → (outcome : OutcomeView) → FeedsReady over (all_times streams) (lasting opening streams) behind opening arguments.status left later 0 missed ticking opened tried fresh posts outcome → FeedsFiles over streams arguments before now outcome
    fed_ready many front behind behind_is streams_are outcome (inl lacks) =
        subst (λ (c : OutcomeView). FeedsFiles over streams arguments before now c) (sym lacks.outcome_is) (fed_unstatused lacks.fault lacks.refuses lacks.unheard lacks.unsent)
    fed_ready many front behind behind_is streams_are outcome (inr fed) =
        subst (λ (c : OutcomeView). FeedsFiles over streams arguments before now c) (sym fed.outcome_is) (fed_comes fed.end fed.status_failed fed.lack fed.lacks fed.read fed.fed.after fed.fed.comes) where
          fed_comes : (end : FeedsEnd) (status_failed : Bool) (lack : OutcomeView) (lacks : end.lacking ≡ true → LackSenders behind lack) (read : HasCause 0 missed (end.link_failed ≡ true)) (after : Option Ticking)
              → ComesTo is_right_stream over (lasting opening streams) opening end left later ticking after fresh posts (WritesStatus arguments.status (all_times streams) opening end.counts opened tried status_failed) → FeedsFiles over streams arguments before now (outcome_with (are_several (all_times streams)) end status_failed lack)
          fed_comes end status_failed lack lacks read after (inl feeds) = fed_all many front behind behind_is streams_are end status_failed lack lacks read after feeds
          fed_comes end status_failed lack lacks read after (inr stops) = fed_stopped many front behind behind_is streams_are end status_failed lack lacks read after stops

-- ---- what was tried, and closed

fed_tried : (over : Bool) (streams : List Stream) (arguments : FeedArguments) (left : Option (List Letter)) (before linked now : Told) (link_opened : OpenedLink (before.live.wire arguments.link) left) (link_live : linked.live ≡ before.live) (link_counts : linked.faults ≡ before.faults) (link_opens : Opens (OfLink arguments.link ∷ []) 1 before linked) (posts : List PostSeen) (tried closed : Told) (later : Option (List Letter)) (missed : ℕ)
    (posts_closed : ClosesPosts posts tried closed) (link_closed : ClosesLink arguments.link later missed closed now) (some : 1 ≤ length arguments.posts) (distinct : AreDistinct arguments.posts) (outcome : OutcomeView) → TriesToFeed over streams arguments.posts arguments.status left later 0 missed linked tried posts outcome → FeedsFiles over streams arguments before now outcome
fed_tried over streams arguments left before linked now link_opened link_live link_counts link_opens posts tried closed later missed posts_closed link_closed some distinct outcome (inl (inl lacks, left_is, missed_is)) =
    fed_senderless over streams arguments left before linked tried closed now outcome link_opened link_live link_counts link_opens posts later missed posts_closed link_closed lacks left_is missed_is
fed_tried over streams arguments left before linked now link_opened link_live link_counts link_opens posts tried closed later missed posts_closed link_closed some distinct outcome (inl (inr (right, inl ends), left_is, missed_is)) =
    let clocked = ends.opens in
    let makes = clocked.makes in
    let at = opens_at_first over streams arguments left before linked tried now link_opened link_live link_counts link_opens ends.ticking makes posts tried closed later missed posts_closed link_closed clocked.opening clocked.opens_at in
    let ended : lasting clocked.opening streams ≡ [] = ap (lasting clocked.opening) clocked.streams_are ∙ clocked.opens in
    subst (λ (c : OutcomeView). FeedsFiles over streams arguments before now c) (sym ends.outcome_is)
    (fed_over over streams arguments left before linked tried now link_opened link_live link_counts link_opens ends.ticking makes posts tried closed later missed posts_closed link_closed clocked.opening at right ended ends.none refl (left_is, missed_is))
fed_tried over streams arguments left before linked now link_opened link_live link_counts link_opens posts tried closed later missed posts_closed link_closed some distinct outcome (inl (inr (right, inr (inl ends)), left_is, missed_is)) =
    subst (λ (c : OutcomeView). FeedsFiles over streams arguments before now c) (sym ends.outcome_is)
    (fed_unheld over streams arguments left before linked tried now link_opened link_live link_counts link_opens None ends.makes posts tried closed later missed posts_closed link_closed right ends.none refl (left_is, missed_is))
fed_tried over streams arguments left before linked now link_opened link_live link_counts link_opens posts tried closed later missed posts_closed link_closed some distinct outcome (inl (inr (right, inr (inr refuses)), left_is, missed_is)) =
    subst (λ (c : OutcomeView). FeedsFiles over streams arguments before now c) (sym refuses.outcome_is)
    (fed_refused over streams arguments left before linked refuses.opens.clocked now link_opened link_live link_counts link_opens refuses.ticking refuses.opens.opens.makes posts tried closed later missed posts_closed link_closed right refuses.fault refuses.opens.posts_open (left_is, missed_is))
fed_tried over streams arguments left before linked now link_opened link_live link_counts link_opens posts tried closed later missed posts_closed link_closed some distinct outcome (inr (right, feeds)) =
    let clocked = feeds.opens.opens in
    let opens = clocked.opens in
    let makes = clocked.makes in
    let opening = feeds.feed.opening in
    let front = streams_fed feeds.feed.feeders in
    let many = length feeds.feed.later.items in
    let first_at : OpensAt opening (clock_told linked.live.readings linked.live.made) feeds.ticking = subst (λ (n : ℕ). OpensAt n (clock_told linked.live.readings linked.live.made) feeds.ticking) (sym opens.0) clocked.opens_at in
    let at = opens_at_first over streams arguments left before linked feeds.opens.clocked now link_opened link_live link_counts link_opens feeds.ticking makes posts tried closed later missed posts_closed link_closed opening first_at in
    let own : front ++ last_streams many (behind_first streams) ≡ lasting opening streams =
    opens.1 ∙ ap (λ (n : ℕ). lasting n (clocked.first ∷ behind_first streams)) (sym opens.0) ∙ ap (λ (ss : List Stream). lasting opening ss) (sym clocked.streams_are) in
    let all : front ++ feeds.behind ≡ lasting opening streams = ap (λ (ss : List Stream). front ++ ss) feeds.behind_is ∙ own in
    fed_ready over streams arguments left before linked feeds.opens.clocked now link_opened link_live link_counts link_opens feeds.ticking makes posts tried closed later missed posts_closed link_closed right some distinct opening at (subst (λ (ss : List Stream). first_lasts opening ss ≡ true) own opens.2.lasts) feeds.fresh feeds.opened feeds.opens.posts_open many front feeds.behind feeds.behind_is (sym all) outcome
    (subst (λ (ss : List Stream). FeedsReady over (all_times streams) ss feeds.behind opening arguments.status left later 0 missed feeds.ticking feeds.opened tried feeds.fresh posts outcome) all feeds.feeds)

-- the link was opened, what follows was tried, and all was closed
pub fed_linked : {A : Type 0} (over : Bool) (streams : List Stream) (arguments : FeedArguments) (words : List (List ℕ)) (it : A) (name : List ℕ) (names : List (List ℕ)) (left : Option (List Letter)) (before linked now : Told) (outcome : OutcomeView) → IsFeedForm arguments words → name ≡ arguments.link → names ≡ arguments.posts → OpenedLink (before.live.wire arguments.link) left → OpensLink {A = A} arguments.link (Ok it) before linked → RunsLinked over streams names arguments.status name left linked now outcome → FeedsFiles over streams arguments before now outcome
fed_linked {A} over streams arguments words it name names left before linked now outcome is own posts_are opened opens runs =
    let tries = subst (λ (ns : List (List ℕ)). TriesToFeed over streams ns arguments.status left runs.later 0 runs.missed linked runs.tried runs.posts outcome) posts_are runs.tries in
    let link_closed = subst (λ (n : List ℕ). ClosesLink n runs.later runs.missed runs.closed now) own runs.link_closed in
    let first = opens_first (OfLink arguments.link) [] before linked opens.asked (λ n none. opens.pages n) (λ n none. opens.lefts n) in
    let posts = is.spelled.rest.rest.rest.rest.first in
    fed_tried over streams arguments left before linked now opened opens.live (counts_stay before.faults linked.faults opens.counts (λ e. absurd cc)) first runs.posts runs.tried runs.closed runs.later runs.missed runs.posts_closed link_closed posts.some posts.distinct outcome tries
