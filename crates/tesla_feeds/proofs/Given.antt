-- Events at readings that the clock gave, and what comes of them over a list.
use Rattle.std.proofs.Common.{◌≡◌, ◌∙◌, ℕ, Bool, true, false, List, [], ◌∷◌, ◌++◌, refl, sym, ap, subst}
use Rattle.std.specs.Prelude.{if◌then◌else◌, not}
use Rattle.std.proofs.lemmas.List.Sums.{fold-append}
use Rattle.tesla_sender.specs.Made.{Stream}
use Rattle.tesla_feed.specs.Due.{AreGiven, IsGiven, datagrams_by}
use Rattle.tesla_feed.specs.Fed.{Event, has_ended}
use Rattle.tesla_feed.proofs.Given.{given_more}
use Rattle.tesla_feeds.specs.Fed.{Fed, after_event, fed_all, fed_from, lasting, parts_at}
use Rattle.tesla_feeds.specs.Going.{ComesOfGiven, fed_after}
use Rattle.tesla_feeds.specs.Later.{are_right_where_used}
use Rattle.tesla_feeds.specs.Opening.{first_lasts, opened_at}

-- ---- a list whose first stream isn't over

lasting_where : (stream : Stream) (streams : List Stream) (opening : ℕ) (events : List Event) (over : Bool) → not over ≡ true
    → fed_from (parts_at opening (if over then lasting opening streams else stream ∷ streams)) events ≡ fed_after (opened_at opening (stream ∷ streams)) events
lasting_where stream streams opening events true lasts = absurd cc
lasting_where stream streams opening events false lasts = refl

pub fed_lasting : (streams : List Stream) (opening : ℕ) (events : List Event) → first_lasts opening streams ≡ true → fed_all streams opening events ≡ fed_after (opened_at opening streams) events
fed_lasting [] opening events lasts = absurd cc
fed_lasting (stream ∷ streams) opening events lasts = lasting_where stream streams opening events (has_ended stream opening) lasts

-- ---- what came of events

module _ (right : Stream → Bool) (gave : ℕ → Bool) (read_for : ℕ → List ℕ → ℕ → Bool) (streams : List Stream) (number : ℕ) (fed : Fed) (event : Event)
    (comes : ComesOfGiven right gave read_for streams number fed) (given : IsGiven gave read_for number event) where
  pub all_given : AreGiven gave read_for 0 (comes.events ++ event ∷ [])
  all_given = given_more gave read_for 0 comes.events event comes.given
      (subst (λ (n : ℕ). IsGiven gave read_for n event) (sym comes.number_is) given)

  pub all_fed : fed_all streams comes.opening (comes.events ++ event ∷ []) ≡ after_event fed event
  all_fed =
      fed_lasting streams comes.opening (comes.events ++ event ∷ []) comes.lasts
      ∙ fold-append after_event (opened_at comes.opening streams) comes.events (event ∷ [])
      ∙ ap (λ (f : Fed). after_event f event) (sym (fed_lasting streams comes.opening comes.events comes.lasts) ∙ comes.fed_is)

  pub used_given : are_right_where_used right (after_event fed event) ≡ true → are_right_where_used right (fed_all streams comes.opening (comes.events ++ event ∷ [])) ≡ true
  used_given used = ap (are_right_where_used right) all_fed ∙ used

  pub comes_more : are_right_where_used right (after_event fed event) ≡ true → ComesOfGiven right gave read_for streams (datagrams_by number event) (after_event fed event)
  comes_more used = record {
    opening = comes.opening;
    opened = comes.opened;
    lasts = comes.lasts;
    events = comes.events ++ event ∷ [];
    given = all_given;
    number_is = fold-append datagrams_by 0 comes.events (event ∷ []) ∙ ap (λ (n : ℕ). datagrams_by n event) comes.number_is;
    fed_is = all_fed;
    used = used;
  }

  pub comes_events : (used : are_right_where_used right (after_event fed event) ≡ true) → (comes_more used).events ≡ comes.events ++ event ∷ []
  unfolding comes_more
  comes_events used = refl

  pub comes_opening : (used : are_right_where_used right (after_event fed event) ≡ true) → (comes_more used).opening ≡ comes.opening
  unfolding comes_more
  comes_opening used = refl
