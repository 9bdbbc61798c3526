-- What no event changes of what a receiver keeps, and that each is one call.
use Rattle.std.proofs.Common.{◌≡◌, ℕ, ◌+◌, List, [], ◌∷◌, Option, Some, None, refl}
use Rattle.tesla_frame.specs.Frame.{Frame}
use Rattle.tesla_frame.specs.Reading.{frame_of}
use Rattle.tesla_walks.specs.declared.release.Release.{Release}
use Rattle.tesla_fitting.specs.declared.verdict.Verdict.{Verdict}
use Rattle.tesla_state.specs.State.{State}
use Rattle.tesla_state.specs.Steps.{entered_frame, refused_of, bound_at, with_taken, after_arrival, after_take, after_end}

entered_config : (s : State) (bound : Option ℕ) (frame : Option Frame) (told : Option Verdict) → (entered_frame s bound frame told).config ≡ s.config
entered_config s bound None told = refl
entered_config s bound (Some frame) (Some verdict) = refl
entered_config s bound (Some frame) None = refl

entered_calls : (s : State) (bound : Option ℕ) (frame : Option Frame) (told : Option Verdict) → (entered_frame s bound frame told).calls ≡ s.calls + 1
entered_calls s bound None told = refl
entered_calls s bound (Some frame) (Some verdict) = refl
entered_calls s bound (Some frame) None = refl

pub arrival_config : (s : State) (reading : ℕ) (bytes : List ℕ) → (after_arrival s reading bytes).config ≡ s.config
unfolding after_arrival
arrival_config s reading bytes = entered_config s (bound_at s reading) (frame_of bytes) (refused_of s (bound_at s reading) (frame_of bytes))

pub arrival_calls : (s : State) (reading : ℕ) (bytes : List ℕ) → (after_arrival s reading bytes).calls ≡ s.calls + 1
unfolding after_arrival
arrival_calls s reading bytes = entered_calls s (bound_at s reading) (frame_of bytes) (refused_of s (bound_at s reading) (frame_of bytes))

taken_config : (s : State) (waiting : List Release) → (with_taken s waiting).config ≡ s.config
taken_config s [] = refl
taken_config s (release ∷ releases) = refl

taken_calls : (s : State) (waiting : List Release) → (with_taken s waiting).calls ≡ s.calls + 1
taken_calls s [] = refl
taken_calls s (release ∷ releases) = refl

pub take_config : (s : State) → (after_take s).config ≡ s.config
unfolding after_take
take_config s = taken_config s s.waiting

pub take_calls : (s : State) → (after_take s).calls ≡ s.calls + 1
unfolding after_take
take_calls s = taken_calls s s.waiting

pub end_config : (s : State) (ingest : ℕ) → (after_end s ingest).config ≡ s.config
unfolding after_end
end_config s ingest = refl

pub end_calls : (s : State) (ingest : ℕ) → (after_end s ingest).calls ≡ s.calls + 1
unfolding after_end
end_calls s ingest = refl
