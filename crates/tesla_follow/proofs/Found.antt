-- Where the first epoch of a stream stands.
use Rattle.std.proofs.Common.{◌≡◌, ◌==◌, ◌+◌, ◌||◌, ℕ, suc, Bool, true, false, arith, List, [], ◌∷◌, length, cond, not, Some, None, ltb, ap, ap₂, sym, refl, ◌∙◌}
use Rattle.std.specs.List.{list_any, position, position_or_len}
use Rattle.std.specs.Option.{is_some}
use Rattle.std.proofs.lemmas.Bool.Decides.{nat_tests}
use Rattle.std.proofs.lemmas.List.{length-map}
use Rattle.tesla_base.specs.declared.names.StreamId.{StreamId}
use Rattle.tesla_rollover.specs.Epochs.{has_stream}
use Rattle.tesla_follow.specs.Kept.{config_in, configs_of}
use Rattle.tesla_follow.specs.Stands.{EpochState}

abbrev pub is_of : StreamId → EpochState → Bool
is_of stream state = has_stream stream (config_in state)

-- each epoch has a configuration
pub count_is : (states : List EpochState) → length (configs_of states) ≡ length states
count_is states = length-map states config_in

index_is : (stream : StreamId) (states : List EpochState) → position_or_len (is_of stream) states ≡ position_or_len (has_stream stream) (configs_of states)
index_is stream [] = refl
index_is stream (state ∷ states) =
    ap (λ (place : ℕ). cond (not (state.receiver.config.setup.stream.0 == stream.0)) (1 + place) 0) (index_is stream states)

-- the first epoch of a stream has the first configuration of it
pub found_is : (stream : StreamId) (states : List EpochState) → position (is_of stream) states ≡ position (has_stream stream) (configs_of states)
found_is stream states = ap₂ (λ (place count : ℕ). cond (ltb place count) (Some place) None) (index_is stream states) (sym (count_is states))

any_here : (passes any : Bool) (place count : ℕ) → any ≡ ltb place count → (passes || any) ≡ ltb (cond (not passes) (1 + place) 0) (suc count)
any_here true any place count here = grind (arith, nat_tests)
any_here false any place count here = here ∙ grind (arith, nat_tests)

any_position : {X : Type 0} (passes : X → Bool) (xs : List X) → list_any passes xs ≡ ltb (position_or_len passes xs) (length xs)
any_position passes [] = refl
any_position passes (x ∷ xs) = any_here (passes x) (list_any passes xs) (position_or_len passes xs) (length xs) (any_position passes xs)

position_within : (within : Bool) (place : ℕ) → within ≡ is_some (cond within (Some place) None)
position_within true place = refl
position_within false place = refl

-- one passes where a place was found
pub any_position_found : {X : Type 0} (passes : X → Bool) (xs : List X) → list_any passes xs ≡ is_some (position passes xs)
any_position_found passes xs = any_position passes xs ∙ position_within (ltb (position_or_len passes xs) (length xs)) (position_or_len passes xs)
