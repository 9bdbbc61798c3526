-- Records that are gathered before they are written.
use Rattle.std.specs.Prelude.{◌≡◌, ℕ, List, ◌++◌, take, Option}
use Rattle.tesla_desk.specs.Outside.{with_bytes}
use Rattle.tesla_capture.specs.declared.gathering.Gatherer.{Gatherer}

-- the bytes that are gathered and not written yet
abbrev pub gathered : Gatherer → List ℕ
gathered gatherer = take gatherer.length gatherer.piece

-- of this text a front was written, and the rest of it is held
pub record Gathers (before now : Option (List ℕ)) (held text : List ℕ) : Type 0 where
  pub done : List ℕ
  pub written : now ≡ with_bytes before done
  pub both : text ≡ done ++ held
