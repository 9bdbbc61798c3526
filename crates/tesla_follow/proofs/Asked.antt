-- What epochs come to that are asked in order.
use Rattle.std.proofs.Common.{◌≡◌, ◌≢◌, refl, ◌+◌, ℕ, suc, List, [], ◌∷◌, length, map, ap, sym, subst, ◌∙◌, arith}
use Rattle.std.specs.List.{AllByRecursion}
use Rattle.std.proofs.lemmas.List.Sums.{sum_by-cons}
use Rattle.tesla_base.specs.declared.release.Head.{Head}
use Rattle.tesla_fitting.specs.declared.config.Config.{Config}
use Rattle.tesla_state.specs.declared.replies.Reply.{Reply}
use Rattle.tesla_state.specs.declared.replies.Reply.TheVariants as replies
use Rattle.tesla_rollover.specs.Epochs.{up_to_given}
use Rattle.tesla_rollover.specs.History.{config_with}
use Rattle.tesla_rollover.specs.Kept.{AskedReply, Gives, asked_from, not_over}
use Rattle.tesla_follow.specs.declared.asking.Asked.{Asked}
use Rattle.tesla_follow.specs.declared.asking.Asked.TheVariants as asks
use Rattle.tesla_follow.specs.Followed.{FollowedEpoch, asked_all, asked_with, most_promises}
use Rattle.tesla_follow.specs.Kept.{IsAlike, IsCalled, Shape, asked_shown, reply_of, room_of, rooms_of, shape_of, shapes_of}
use Rattle.tesla_follow.specs.Stands.{EpochStands, EpochsStand, EpochState}

-- ---- what stays

-- epochs of the same shapes are as many
pub as_many : (xs ys : List EpochState) → shapes_of xs ≡ shapes_of ys → length xs ≡ length ys
as_many [] [] same = refl
as_many [] (y ∷ ys) same = absurd cc
as_many (x ∷ xs) [] same = absurd cc
as_many (x ∷ xs) (y ∷ ys) same = let others : shapes_of xs ≡ shapes_of ys = cc in ap suc (as_many xs ys others)

pub same_rooms : (xs ys : List EpochState) → shapes_of xs ≡ shapes_of ys → rooms_of xs ≡ rooms_of ys
same_rooms [] [] same = refl
same_rooms [] (y ∷ ys) same = absurd cc
same_rooms (x ∷ xs) [] same = absurd cc
same_rooms (x ∷ xs) (y ∷ ys) same =
    let first : shape_of x ≡ shape_of y = cc in
    let others : shapes_of xs ≡ shapes_of ys = cc in
    let own : room_of x ≡ room_of y = ap (λ (s : Shape). s.room) first in
    let rest : rooms_of xs ≡ rooms_of ys = same_rooms xs ys others in
    sum_by-cons room_of x xs ∙ ap (λ n. n + rooms_of xs) own ∙ ap (λ n. room_of y + n) rest ∙ sym (sum_by-cons room_of y ys)

pub alike_still : (cfg : Config) (xs ys : List EpochState) → shapes_of ys ≡ shapes_of xs → AllByRecursion (IsAlike cfg) xs → AllByRecursion (IsAlike cfg) ys
alike_still cfg [] [] same all = tt
alike_still cfg [] (y ∷ ys) same all = absurd cc
alike_still cfg (x ∷ xs) [] same all = absurd cc
alike_still cfg (x ∷ xs) (y ∷ ys) same all =
    let first : shape_of x ≡ shape_of y = cc in
    let others : shapes_of ys ≡ shapes_of xs = cc in
    (subst (λ (s : Shape). (s.config ≡ config_with cfg s.config.setup) × (s.most ≡ most_promises)) first all.0, alike_still cfg xs ys others all.1)

-- who has had so many calls at most has had one more at most
pub called_more : (most : ℕ) (states : List EpochState) → AllByRecursion (IsCalled most) states → AllByRecursion (IsCalled (most + 1)) states
called_more most [] called = called
called_more most (state ∷ states) called = (omega (arith, called.0), called_more most states called.1)

-- ---- answers

-- what isn't over stays as it is
pub shown_kept : (asked : Asked) (into : List ℕ) → asked ≢ asks.Over → not_over (asked_shown asked into) ≡ asked_shown asked into
shown_kept (asks.Given epoch head) into other = refl
shown_kept asks.Empty into other = refl
shown_kept asks.Over into other = absurd (other refl)

-- an epoch answers so
abbrev pub IsAnswered : EpochState → Reply → Type 0
IsAnswered state reply = (e : FollowedEpoch) → EpochStands state e → reply ≡ reply_of e

-- an epoch is so after a take
abbrev pub IsTaken : ℕ → EpochState → EpochState → Type 0
IsTaken releaser old new = (e : FollowedEpoch) → EpochStands old e → EpochStands new (asked_with releaser (reply_of e) e)

-- these epochs come to this when they are asked
abbrev pub ComesTo : ℕ → List EpochState → AskedReply → Type 0
ComesTo number states reply = (es : List FollowedEpoch) → EpochsStand states es → reply ≡ asked_from number (up_to_given (map reply_of es))

-- these epochs are so after they were asked
abbrev pub AreAsked : ℕ → List EpochState → List EpochState → Type 0
AreAsked releaser old new = (es : List FollowedEpoch) → EpochsStand old es → EpochsStand new (asked_all releaser (up_to_given (map reply_of es)) es)

taken_stands : (releaser : ℕ) (old new : EpochState) (reply : Reply) (e : FollowedEpoch) → IsAnswered old reply → IsTaken releaser old new → EpochStands old e → EpochStands new (asked_with releaser reply e)
taken_stands releaser old new reply e answered taken stands =
    subst (λ (own : Reply). EpochStands new (asked_with releaser own e)) (sym (answered e stands)) (taken e stands)

-- the first gives a packet, and the others aren't asked
pub given_comes : (number : ℕ) (state : EpochState) (states : List EpochState) (head : Head) (payload : List ℕ)
    → IsAnswered state (replies.Given head payload) → ComesTo number (state ∷ states) (Gives number head payload)
given_comes number state states head payload answered [] stand = absurd stand
given_comes number state states head payload answered (e ∷ es) stand =
    ap (λ (own : Reply). asked_from number (up_to_given (own ∷ map reply_of es))) (answered e stand.0)

pub given_asked : (releaser : ℕ) (old new : EpochState) (states : List EpochState) (head : Head) (payload : List ℕ)
    → IsAnswered old (replies.Given head payload) → IsTaken releaser old new → AreAsked releaser (old ∷ states) (new ∷ states)
given_asked releaser old new states head payload answered taken [] stand = absurd stand
given_asked releaser old new states head payload answered taken (e ∷ es) stand =
    subst (λ (reply : Reply). EpochsStand (new ∷ states) (asked_all releaser (up_to_given (reply ∷ map reply_of es)) (e ∷ es))) (answered e stand.0)
    (taken_stands releaser old new (replies.Given head payload) e answered taken stand.0, stand.1)

-- the first has none, and the others are asked
pub empty_comes : (number : ℕ) (state : EpochState) (states : List EpochState) (reply : AskedReply)
    → IsAnswered state replies.Empty → ComesTo (number + 1) states reply → ComesTo number (state ∷ states) (not_over reply)
empty_comes number state states reply answered others [] stand = absurd stand
empty_comes number state states reply answered others (e ∷ es) stand =
    ap not_over (others es stand.1)
    ∙ ap (λ (own : Reply). asked_from number (up_to_given (own ∷ map reply_of es))) (answered e stand.0)

pub over_comes : (number : ℕ) (state : EpochState) (states : List EpochState) (reply : AskedReply)
    → IsAnswered state replies.Over → ComesTo (number + 1) states reply → ComesTo number (state ∷ states) reply
over_comes number state states reply answered others [] stand = absurd stand
over_comes number state states reply answered others (e ∷ es) stand =
    others es stand.1
    ∙ ap (λ (own : Reply). asked_from number (up_to_given (own ∷ map reply_of es))) (answered e stand.0)

-- the first gave nothing, and the others are asked
asked_on : (reply : Reply) → ((more : List Reply) → up_to_given (reply ∷ more) ≡ reply ∷ up_to_given more) → (releaser : ℕ) (old new : EpochState) (states others : List EpochState)
    → IsAnswered old reply → IsTaken releaser old new → AreAsked releaser states others → AreAsked releaser (old ∷ states) (new ∷ others)
asked_on reply goes_on releaser old new states others answered taken asked [] stand = absurd stand
asked_on reply goes_on releaser old new states others answered taken asked (e ∷ es) stand =
    let Stand : List Reply → Type 0 = λ rs. EpochsStand (new ∷ others) (asked_all releaser rs (e ∷ es)) in
    subst (λ (own : Reply). Stand (up_to_given (own ∷ map reply_of es))) (answered e stand.0)
    (subst Stand (sym (goes_on (map reply_of es))) (taken_stands releaser old new reply e answered taken stand.0, asked es stand.1))

pub empty_asked : (releaser : ℕ) (old new : EpochState) (states others : List EpochState) → IsAnswered old replies.Empty → IsTaken releaser old new → AreAsked releaser states others → AreAsked releaser (old ∷ states) (new ∷ others)
empty_asked = asked_on replies.Empty (λ more. refl)

pub over_asked : (releaser : ℕ) (old new : EpochState) (states others : List EpochState) → IsAnswered old replies.Over → IsTaken releaser old new → AreAsked releaser states others → AreAsked releaser (old ∷ states) (new ∷ others)
over_asked = asked_on replies.Over (λ more. refl)
