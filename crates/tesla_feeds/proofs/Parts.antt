-- What is done with one stream of a list.
use Rattle.std.proofs.Common.{◌≡◌, ◌∙◌, ℕ, Bool, true, false, List, [], ◌∷◌, ◌++◌, length, Option, Some, None, refl, sym, ap, subst, append-nil, length-append, arith}
use Rattle.std.specs.Prelude.{Result, Ok, Err, if◌then◌else◌, ◌&&◌, nat_lt}
use Rattle.tesla_base.specs.declared.names.Name.{Name}
use Rattle.tesla_clock.specs.Schedule.{Times}
use Rattle.tesla_commit.specs.Parts.{Parts}
use Rattle.tesla_sender.specs.Made.{Call, Message, Disclose, Stream, interval_at}
use Rattle.tesla_sender.specs.declared.refusal.SendRefusal.{SendRefusal}
use Rattle.tesla_feed.specs.Fed.{Feeding, after_none, datagram_of, is_due, name_from}
use Rattle.tesla_feed.specs.Fed as feed
use Rattle.tesla_feed.specs.Steps.{Makes, Says, StandsFor}
use Rattle.tesla_feed.specs.declared.feeder.Feeder.{Feeder}
use Rattle.tesla_feed.proofs.Whole.{of_equal}
use Rattle.tesla_feeds.specs.Fed.{Done, Part, call_done, disclosed, handed_as, handed_over, handed_to, may_hand_over, nothing_done, said, said_as}
use Rattle.tesla_feeds.specs.Order.{greatest_delay, handover_to, is_in_window}
use Rattle.tesla_feeds.specs.Steps.{DoesPart, FeedsPart, HandsOver, HandsPart, calls_made, refused_by, size_said}
use Rattle.tesla_feeds.specs.declared.listed.Handover.{Handover}
use Rattle.tesla_feeds.specs.declared.listed.ListedFeeder.{ListedFeeder}

-- a stream with a log
abbrev pub with_log : Part → List Call → Part
with_log part log = record { stream = part.stream; first = part.first; next = part.next; log = log; handed = part.handed }

abbrev pub ok_size : ℕ → Result ℕ SendRefusal
ok_size size = Ok size

abbrev pub err_size : SendRefusal → Result ℕ SendRefusal
err_size refusal = Err refusal

-- a feeder in the place of another
abbrev pub with_feeder : ListedFeeder → Feeder → ListedFeeder
with_feeder before now = record { feeder = now; handover = before.handover; handed = before.handed }

-- ---- messages

-- what is said to a feeder's own stream is said to the stream it stands for
pub says_of : (stream : Stream) (first : ℕ) (before now : Feeder) (made : Feeding) (reading : ℕ) (payload : List ℕ) (result : Result ℕ SendRefusal)
    → ((m : Feeding) → StandsFor before.sender.stream before.first before m → Says before.sender.stream before.first m reading payload now result)
    → StandsFor stream first before made → Says stream first made reading payload now result
says_of stream first before now made reading payload result says stands =
    let P : Stream → ℕ → Type 0 = λ s f. StandsFor s f before made → Says s f made reading payload now result in
    of_equal P before.sender.stream stream before.first first stands.stream_is stands.first_is (says made) stands

-- a feeder stands for a stream whose log this is
stands_with : (before : ListedFeeder) (now : Feeder) (part : Part) (made : Feeding) → HandsOver before.handover part.stream part.next → before.handed ≡ part.handed
    → StandsFor part.stream part.first now made → FeedsPart (with_feeder before now) (with_log part made.log)
stands_with before now part made handover handed stands = record {
  made = made;
  log_is = refl;
  stands = stands;
  handover = handover;
  handed = handed;
}

says_as : (before : ListedFeeder) (now : Feeder) (part : Part) (made : Feeding) (reading : ℕ) (payload : List ℕ) (result : Result ℕ SendRefusal)
    → HandsOver before.handover part.stream part.next → before.handed ≡ part.handed → Says part.stream part.first made reading payload now result
    → DoesPart (said reading payload (with_log part made.log)) (calls_made (size_said result) (Message reading payload)) (refused_by result) (with_feeder before now) (size_said result)
says_as before now part made reading payload (Ok size) handover handed says =
    let it = with_log part made.log in
    let Q : Result Name SendRefusal → Type 0 = λ n. DoesPart (said_as it reading payload n) (Message reading payload ∷ []) [] (with_feeder before now) (Some size) in
    subst Q (sym says.1) (record {
      stands = stands_with before now part (feed.with_call made (Message reading payload)) handover handed says.2;
      frames = append-nil (datagram_of part.stream made.log (Message reading payload)) ∙ says.3;
      calls_are = refl;
      refused_are = refl;
    })
says_as before now part made reading payload (Err refusal) handover handed says =
    let it = with_log part made.log in
    let Q : Result Name SendRefusal → Type 0 = λ n. DoesPart (said_as it reading payload n) [] (refusal ∷ []) (with_feeder before now) None in
    subst Q (sym says.0) (record {
      stands = stands_with before now part (feed.with_refusal made refusal) handover handed says.1;
      frames = refl;
      calls_are = refl;
      refused_are = refl;
    })

pub says_part : (before : ListedFeeder) (now : Feeder) (part : Part) (reading : ℕ) (payload : List ℕ) (result : Result ℕ SendRefusal)
    → ((m : Feeding) → StandsFor before.feeder.sender.stream before.feeder.first before.feeder m → Says before.feeder.sender.stream before.feeder.first m reading payload now result)
    → FeedsPart before part
    → DoesPart (said reading payload part) (calls_made (size_said result) (Message reading payload)) (refused_by result) (with_feeder before now) (size_said result)
says_part before now part reading payload result says feeds =
    let P : List Call → Type 0 = λ log. DoesPart (said reading payload (with_log part log)) (calls_made (size_said result) (Message reading payload)) (refused_by result) (with_feeder before now) (size_said result) in
    subst P feeds.log_is (says_as before now part feeds.made reading payload result feeds.handover feeds.handed (says_of part.stream part.first before.feeder now feeds.made reading payload result says feeds.stands))

-- ---- disclosures

last_same : (log : List Call) (a b : Call) → log ++ a ∷ [] ≡ log ++ b ∷ [] → a ≡ b
last_same [] a b same = cc
last_same (call ∷ log) a b same = last_same log a b cc

one_more_not : (log : List Call) (call : Call) → log ++ call ∷ [] ≡ log → ⊥
one_more_not log call same = (let n = ap (λ (l : List Call). length l) same in absurd (omega (arith, length-append log (call ∷ []), n)))

discloses_as : (before : ListedFeeder) (now : Feeder) (part : Part) (made : Feeding) (reading : ℕ) (due : Bool) (result : Option ℕ)
    → HandsOver before.handover part.stream part.next → before.handed ≡ part.handed
    → Makes part.stream part.first made (if due then feed.with_call made (Disclose reading) else made) now result
    → DoesPart (if due then call_done (with_log part made.log) (Disclose reading) else nothing_done (with_log part made.log)) (calls_made result (Disclose reading)) [] (with_feeder before now) result
discloses_as before now part made reading true (Some size) handover handed makes =
    let same : Disclose reading ≡ makes.adds.0 = last_same made.log (Disclose reading) makes.adds.0 makes.adds.1 in
    record {
      stands = stands_with before now part (feed.with_call made (Disclose reading)) handover handed makes.stands;
      frames = append-nil (datagram_of part.stream made.log (Disclose reading)) ∙ ap (datagram_of part.stream made.log) same ∙ makes.adds.2;
      calls_are = refl;
      refused_are = refl;
    }
discloses_as before now part made reading true None handover handed makes = absurd (one_more_not made.log (Disclose reading) makes.adds)
discloses_as before now part made reading false (Some size) handover handed makes = absurd (one_more_not made.log makes.adds.0 (sym makes.adds.1))
discloses_as before now part made reading false None handover handed makes = record {
  stands = stands_with before now part made handover handed makes.stands;
  frames = refl;
  calls_are = refl;
  refused_are = refl;
}

pub discloses_part : (before : ListedFeeder) (now : Feeder) (part : Part) (reading : ℕ) (result : Option ℕ)
    → ((m : Feeding) → StandsFor before.feeder.sender.stream before.feeder.first before.feeder m → Makes before.feeder.sender.stream before.feeder.first m (after_none before.feeder.sender.stream before.feeder.first m reading) now result)
    → FeedsPart before part → DoesPart (disclosed reading part) (calls_made result (Disclose reading)) [] (with_feeder before now) result
discloses_part before now part reading result makes feeds =
    let made = feeds.made in
    let own : Stream → ℕ → Type 0 = λ s f. StandsFor s f before.feeder made → Makes s f made (after_none s f made reading) now result in
    let it : Makes part.stream part.first made (after_none part.stream part.first made reading) now result = of_equal own before.feeder.sender.stream part.stream before.feeder.first part.first feeds.stands.stream_is feeds.stands.first_is (makes made) feeds.stands in
    let P : List Call → Type 0 = λ log. DoesPart (disclosed reading (with_log part log)) (calls_made result (Disclose reading)) [] (with_feeder before now) result in
    subst P feeds.log_is (discloses_as before now part made reading (is_due part.stream part.first made.log reading) result feeds.handover feeds.handed it)

-- ---- handovers

-- nothing was done
pub nothing_part : (before : ListedFeeder) (part : Part) → FeedsPart before part → DoesPart (nothing_done part) [] [] before None
nothing_part before part feeds = record { stands = feeds; frames = refl; calls_are = refl; refused_are = refl }

hands_nothing : (before : ListedFeeder) (part : Part) → FeedsPart before part → HandsPart (nothing_done part) before None
hands_nothing before part feeds = record { does = nothing_part before part feeds; count = refl }

-- there is no next stream
hands_last : (before : ListedFeeder) (part : Part) (reading : ℕ) (next : Option Parts) → FeedsPart before part → HandsOver None part.stream next → HandsPart (handed_to reading part next) before None
hands_last before part reading None feeds hands = hands_nothing before part feeds
hands_last before part reading (Some next) feeds hands = absurd hands

pub no_handover : (before : ListedFeeder) (part : Part) (reading : ℕ) → before.handover ≡ None → FeedsPart before part → HandsPart (handed_over reading part) before None
no_handover before part reading none feeds =
    hands_last before part reading part.next feeds (subst (λ (h : Option Handover). HandsOver h part.stream part.next) none feeds.handover)

-- whether one may be made is judged by what the feeder keeps
may_is : (before : ListedFeeder) (part : Part) (handover : Handover) (next : Parts) (reading : ℕ) → FeedsPart before part → HandsOver (Some handover) part.stream (Some next)
    → may_hand_over part next reading ≡ (nat_lt before.handed (interval_at before.feeder.sender.stream.setup.times reading) && is_in_window before.feeder.sender.stream.setup.times handover.delay handover.next (interval_at before.feeder.sender.stream.setup.times reading))
may_is before part handover next reading feeds hands =
    let at : Stream → ℕ = λ s. interval_at s.setup.times reading in
    ap (λ (s : Stream). nat_lt part.handed (at s) && is_in_window s.setup.times (greatest_delay part.stream.setup) next.times (at s)) (sym feeds.stands.stream_is)
    ∙ ap (λ (h : ℕ). nat_lt h (at before.feeder.sender.stream) && is_in_window before.feeder.sender.stream.setup.times (greatest_delay part.stream.setup) next.times (at before.feeder.sender.stream)) (sym feeds.handed)
    ∙ ap (λ (d : ℕ). nat_lt before.handed (at before.feeder.sender.stream) && is_in_window before.feeder.sender.stream.setup.times d next.times (at before.feeder.sender.stream)) (sym hands.0)
    ∙ ap (λ (t : Times). nat_lt before.handed (at before.feeder.sender.stream) && is_in_window before.feeder.sender.stream.setup.times handover.delay t (at before.feeder.sender.stream)) (sym hands.1)

abbrev handed_where : ℕ → Part → Parts → Bool → Done
handed_where reading part next may =
    if may then handed_as part reading (handover_to next) (name_from part.stream.setup.times part.first part.log reading (handover_to next)) else nothing_done part

hands_not : (before : ListedFeeder) (part : Part) (reading : ℕ) (handover : Handover) (next : Option Parts) → FeedsPart before part → HandsOver (Some handover) part.stream next
    → (nat_lt before.handed (interval_at before.feeder.sender.stream.setup.times reading) && is_in_window before.feeder.sender.stream.setup.times handover.delay handover.next (interval_at before.feeder.sender.stream.setup.times reading)) ≡ false
    → HandsPart (handed_to reading part next) before None
hands_not before part reading handover None feeds hands may = absurd hands
hands_not before part reading handover (Some next) feeds hands may =
    let none : may_hand_over part next reading ≡ false = may_is before part handover next reading feeds hands ∙ may in
    subst (λ (d : Done). HandsPart d before None) (sym (ap (handed_where reading part next) none)) (hands_nothing before part feeds)

pub not_in_window : (before : ListedFeeder) (part : Part) (reading : ℕ) (handover : Handover) → before.handover ≡ Some handover → FeedsPart before part
    → (nat_lt before.handed (interval_at before.feeder.sender.stream.setup.times reading) && is_in_window before.feeder.sender.stream.setup.times handover.delay handover.next (interval_at before.feeder.sender.stream.setup.times reading)) ≡ false
    → HandsPart (handed_over reading part) before None
not_in_window before part reading handover some feeds may =
    hands_not before part reading handover part.next feeds (subst (λ (h : Option Handover). HandsOver h part.stream part.next) some feeds.handover) may

-- the feeder behind a handover, where it was accepted
abbrev pub handed_feeder : ListedFeeder → Feeder → ℕ → Result ℕ SendRefusal → ListedFeeder
handed_feeder before now interval (Ok size) = record { feeder = now; handover = before.handover; handed = interval }
handed_feeder before now interval (Err refusal) = with_feeder before now

hands_as : (before : ListedFeeder) (now : Feeder) (part : Part) (made : Feeding) (reading interval : ℕ) (payload : List ℕ) (result : Result ℕ SendRefusal)
    → HandsOver before.handover part.stream part.next → before.handed ≡ part.handed → interval ≡ interval_at part.stream.setup.times reading
    → Says part.stream part.first made reading payload now result
    → HandsPart (handed_as (with_log part made.log) reading payload (name_from part.stream.setup.times part.first made.log reading payload)) (handed_feeder before now interval result) (size_said result)
hands_as before now part made reading interval payload (Ok size) handover handed at says =
    let it = with_log part made.log in
    let Q : Result Name SendRefusal → Type 0 = λ n. HandsPart (handed_as it reading payload n) (handed_feeder before now interval (Ok size)) (Some size) in
    subst Q (sym says.1) (record {
      does = record {
        stands = record {
          made = feed.with_call made (Message reading payload);
          log_is = refl;
          stands = says.2;
          handover = handover;
          handed = at;
        };
        frames = append-nil (datagram_of part.stream made.log (Message reading payload)) ∙ says.3;
        calls_are = refl;
        refused_are = refl;
      };
      count = refl;
    })
hands_as before now part made reading interval payload (Err refusal) handover handed at says =
    let it = with_log part made.log in
    let Q : Result Name SendRefusal → Type 0 = λ n. HandsPart (handed_as it reading payload n) (with_feeder before now) None in
    subst Q (sym says.0) (record {
      does = record {
        stands = stands_with before now part (feed.with_refusal made refusal) handover handed says.1;
        frames = refl;
        calls_are = refl;
        refused_are = refl;
      };
      count = refl;
    })

hands_in : (before : ListedFeeder) (now : Feeder) (part : Part) (reading interval : ℕ) (handover : Handover) (next : Option Parts) (result : Result ℕ SendRefusal)
    → FeedsPart before part → HandsOver (Some handover) part.stream next
    → (nat_lt before.handed (interval_at before.feeder.sender.stream.setup.times reading) && is_in_window before.feeder.sender.stream.setup.times handover.delay handover.next (interval_at before.feeder.sender.stream.setup.times reading)) ≡ true
    → interval ≡ interval_at before.feeder.sender.stream.setup.times reading
    → ((m : Feeding) → StandsFor before.feeder.sender.stream before.feeder.first before.feeder m → Says before.feeder.sender.stream before.feeder.first m reading handover.payload.items now result)
    → HandsPart (handed_to reading part next) (handed_feeder before now interval result) (size_said result)
hands_in before now part reading interval handover None result feeds hands may at says = absurd hands
hands_in before now part reading interval handover (Some next) result feeds hands may at says =
    let made = feeds.made in
    let is : may_hand_over part next reading ≡ true = may_is before part handover next reading feeds hands ∙ may in
    let own : interval ≡ interval_at part.stream.setup.times reading = at ∙ ap (λ (s : Stream). interval_at s.setup.times reading) feeds.stands.stream_is in
    let said_own = says_of part.stream part.first before.feeder now made reading handover.payload.items result says feeds.stands in
    let it : HandsPart (handed_as (with_log part made.log) reading handover.payload.items (name_from part.stream.setup.times part.first made.log reading handover.payload.items)) (handed_feeder before now interval result) (size_said result) =
    hands_as before now part made reading interval handover.payload.items result feeds.handover feeds.handed own said_own in
    let P : List ℕ → List Call → Type 0 = λ payload log. HandsPart (handed_as (with_log part log) reading payload (name_from part.stream.setup.times part.first log reading payload)) (handed_feeder before now interval result) (size_said result) in
    let moved : P (handover_to next) part.log = subst (λ (p : List ℕ). P p part.log) hands.2 (subst (λ (l : List Call). P handover.payload.items l) feeds.log_is it) in
    subst (λ (d : Done). HandsPart d (handed_feeder before now interval result) (size_said result)) (sym (ap (handed_where reading part next) is)) moved

pub hands_part : (before : ListedFeeder) (now : Feeder) (part : Part) (reading interval : ℕ) (handover : Handover) (result : Result ℕ SendRefusal)
    → before.handover ≡ Some handover → FeedsPart before part
    → (nat_lt before.handed (interval_at before.feeder.sender.stream.setup.times reading) && is_in_window before.feeder.sender.stream.setup.times handover.delay handover.next (interval_at before.feeder.sender.stream.setup.times reading)) ≡ true
    → interval ≡ interval_at before.feeder.sender.stream.setup.times reading
    → ((m : Feeding) → StandsFor before.feeder.sender.stream before.feeder.first before.feeder m → Says before.feeder.sender.stream before.feeder.first m reading handover.payload.items now result)
    → HandsPart (handed_over reading part) (handed_feeder before now interval result) (size_said result)
hands_part before now part reading interval handover result some feeds may at says =
    hands_in before now part reading interval handover part.next result feeds (subst (λ (h : Option Handover). HandsOver h part.stream part.next) some feeds.handover) may at says
