-- Where the first epoch of a stream stands.
use Rattle.std.proofs.Common.{◌≡◌, ◌==◌, ◌+◌, ◌||◌, ℕ, suc, Bool, true, false, List, [], ◌∷◌, length, cond, not, Some, None, ltb, ap, ap₂, sym, refl, ◌∙◌, arith}
use Rattle.std.specs.List.{list_any, position, position_or_len}
use Rattle.std.specs.Option.{is_some}
use Rattle.std.proofs.lemmas.Bool.Decides.{nat_tests}
use Rattle.std.proofs.lemmas.List.{length-map}
use Rattle.tesla_base.specs.declared.names.StreamId.{StreamId}
use Rattle.tesla_rollover.specs.Epochs.{has_stream}
use Rattle.tesla_rollover.specs.Kept.{configs_of}
use Rattle.tesla_rollover.specs.declared.epoch.Epoch.{Epoch}

abbrev pub is_of : StreamId → Epoch → Bool
is_of stream epoch = epoch.stream.0 == stream.0

-- each epoch has a configuration
pub count_is : (epochs : List Epoch) → length (configs_of epochs) ≡ length epochs
count_is epochs = simp length-map

index_is : (stream : StreamId) (epochs : List Epoch) → position_or_len (is_of stream) epochs ≡ position_or_len (has_stream stream) (configs_of epochs)
index_is stream [] = refl
index_is stream (epoch ∷ epochs) =
    ap (λ (own : StreamId). cond (not (own.0 == stream.0)) (1 + position_or_len (is_of stream) epochs) 0) epoch.same
    ∙ ap (λ (place : ℕ). cond (not (epoch.receiver.config.setup.stream.0 == stream.0)) (1 + place) 0) (index_is stream epochs)

-- the first epoch of a stream has the first configuration of it
pub found_is : (stream : StreamId) (epochs : List Epoch) → position (is_of stream) epochs ≡ position (has_stream stream) (configs_of epochs)
found_is stream epochs = ap₂ (λ (place count : ℕ). cond (ltb place count) (Some place) None) (index_is stream epochs) (sym (count_is epochs))

any_here : (passes any : Bool) (place count : ℕ) → any ≡ ltb place count → (passes || any) ≡ ltb (cond (not passes) (1 + place) 0) (suc count)
any_here true any place count here = grind (arith, nat_tests)
any_here false any place count here = here ∙ grind (arith, nat_tests)

any_position : {X : Type 0} (passes : X → Bool) (xs : List X) → list_any passes xs ≡ ltb (position_or_len passes xs) (length xs)
any_position passes [] = refl
any_position passes (x ∷ xs) = any_here (passes x) (list_any passes xs) (position_or_len passes xs) (length xs) (any_position passes xs)

position_within : (within : Bool) (place : ℕ) → within ≡ is_some (cond within (Some place) None)
position_within true place = refl
position_within false place = refl

-- one passes where a place was found
pub any_position_found : {X : Type 0} (passes : X → Bool) (xs : List X) → list_any passes xs ≡ is_some (position passes xs)
any_position_found passes xs = any_position passes xs ∙ position_within (ltb (position_or_len passes xs) (length xs)) (position_or_len passes xs)
