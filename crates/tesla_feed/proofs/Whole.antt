-- A whole feed, put together from its parts.
use Rattle.std.proofs.Common.{◌≡◌, ◌∙◌, ℕ, ◌≤◌, Bool, true, false, List, [], ◌∷◌, ◌++◌, length, map, take, Option, Some, None, refl, sym, ap, subst, append-nil, arith}
use Rattle.std.specs.Prelude.{IfSome, not}
use Rattle.std.specs.List.{list_all}
use Rattle.tesla_desk.specs.Clocks.{Gives, Ticking}
use Rattle.tesla_desk.specs.declared.link.Letter.{Letter}
use Rattle.tesla_relay.specs.Posts.{PostSeen, with_datagrams}
use Rattle.tesla_sender.specs.Made.{Stream}
use Rattle.tesla_feed.specs.Feed.{SendPosts, has_failed}
use Rattle.tesla_feed.specs.Steps.{StopsHearing, lacks_sender}
use Rattle.tesla_feed.specs.declared.hearing.Hearing.{Hearing}
use Rattle.tesla_feed.specs.declared.hearing.Hearing.TheVariants as hearings
use Rattle.tesla_feed.proofs.Going.{both_ways}

-- ---- the beginning

unsent : (sent : Option (List (List ℕ))) → sent ≡ with_datagrams sent []
unsent None = refl
unsent (Some prefix) = ap (λ (ds : List (List ℕ)). Some ds) (sym (append-nil prefix))

-- nothing was sent, and no post has failed
pub none_sent : {A : Type 0} (f : A → PostSeen) (xs : List A) (marks : List Bool) → length xs ≤ length marks → list_all not marks ≡ true → SendPosts [] (map f xs) (map f xs) (take (length xs) marks)
none_sent f [] marks few none = tt
none_sent f (x ∷ xs) [] few none = absurd (omega arith)
none_sent f (x ∷ xs) (true ∷ marks) few none = absurd cc
none_sent f (x ∷ xs) (false ∷ marks) few none = (
  record { sends = 0; many = refl; sent = unsent (f x).sent; name = refl; cause = record { stays = omega arith; rose = λ e. absurd cc; still = λ e. refl } },
  none_sent f xs marks (omega arith) none,
)

-- ---- readings

pub gives_both : (readings more : List ℕ) (before mid after : Option Ticking) → Gives readings before mid → Gives more mid after → Gives (readings ++ more) before after
gives_both [] more before mid after first next = subst (λ (told : Option Ticking). Gives more told after) first next
gives_both (reading ∷ readings) more before mid after first next = (first.0, first.1, gives_both readings more first.0 mid after first.2 next)

pub map_both : {A B : Type 0} (f : A → B) (xs ys : List A) → map f (xs ++ ys) ≡ map f xs ++ map f ys
map_both f [] ys = refl
map_both f (x ∷ xs) ys = ap (λ zs. f x ∷ zs) (map_both f xs ys)

-- ---- the end

-- nothing is left of the link, where it didn't fail, not all posts did, and no sender is lacking
pub ended : (hearing : Hearing) (mid failed : List Bool) (later : Option (List Letter)) → StopsHearing hearing mid later → (hearing ≡ hearings.LinkFailed → ⊥) → lacks_sender hearing ≡ false → (list_all has_failed mid ≡ true → failed ≡ mid) → list_all has_failed failed ≡ false → IfSome later (λ rest. rest ≡ [])
ended hearings.Ended mid failed later stops no_fault there stays some = stops
ended hearings.LinkFailed mid failed later stops no_fault there stays some = absurd (no_fault refl)
ended hearings.Lacking mid failed later stops no_fault there stays some = absurd cc
ended hearings.Lost mid failed later stops no_fault there stays some = absurd cc
ended hearings.Unheard mid failed later stops no_fault there stays some = absurd (both_ways (list_all has_failed failed) (ap (list_all has_failed) (stays stops) ∙ stops) some)

-- ---- streams

-- what holds of a stream and a first interval holds of equal ones
pub of_equal : (P : Stream → ℕ → Type 0) (own stream : Stream) (first from : ℕ) → own ≡ stream → first ≡ from → P own first → P stream from
of_equal P own stream first from same_stream same_first holds = subst (λ (f : ℕ). P stream f) same_first (subst (λ (s : Stream). P s first) same_stream holds)
