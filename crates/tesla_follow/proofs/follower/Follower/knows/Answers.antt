use Rattle.std.proofs.Common.{◌≡◌, ◌||◌, Bool, false, List, Option, ℕ, sym, ap, ◌∙◌}
use Rattle.std.specs.List.{list_any, position}
use Rattle.std.specs.Option.{is_some}
use Rattle.tesla_rollover.specs.Epochs.{has_stream}
use Rattle.tesla_follow.proofs.Found.{any_position_found}
use Rattle.tesla_follow.specs.Kept.{configs_of, is_stream}
use Rattle.tesla_follow.specs.Stands.{EpochState, FollowState}
use Rattle.tesla_follow.proofs.follower.Follower.knows.Goals as goal

pub returns-else-has : goal.returns-else-has
returns-else-has c =
    let i = c.self.inside in
    let stream = c.args.stream in
    let open_one : Bool = list_any (has_stream stream) (configs_of i.epochs.items) in
    let closed : list_any (is_stream stream) i.known ≡ false = sym c.has.ensures ∙ c.if-has.false in
    c.is_some.ensures ∙ ap (λ (o : Option ℕ). is_some o) c.place_of.ensures ∙ ap (λ (es : List EpochState). is_some (position (has_stream stream) (configs_of es))) c.as_slice.ensures.value
    ∙ sym (any_position_found (has_stream stream) (configs_of i.epochs.items))
    ∙ sym (ap (λ (b : Bool). b || open_one) closed)
    ∙ ap (λ (s : FollowState). list_any (is_stream stream) s.known || list_any (has_stream stream) (configs_of s.receiving)) c.self.view_is
