-- What was gathered behind some bytes was written at last.
use Rattle.std.proofs.Common.{◌≡◌, ◌∙◌, ℕ, Option, List, sym, ap, subst}
use Rattle.tesla_capture.specs.Gathering.{Gathers}
use Rattle.tesla_desk.specs.Outside.{AppendsPrefix, with_bytes}
use Rattle.tesla_desk.proofs.Told.{prefix_after, with_bytes_twice}

-- all of it
pub flushed_whole : (before mid now : Option (List ℕ)) (held text : List ℕ) → Gathers before mid held text → now ≡ with_bytes mid held → now ≡ with_bytes before text
flushed_whole before mid now held text gathers flushed =
    flushed ∙ ap (λ w. with_bytes w held) gathers.written ∙ with_bytes_twice before gathers.done held ∙ ap (with_bytes before) (sym gathers.both)

-- a prefix of it
pub flushed_part : (before mid now : Option (List ℕ)) (held text : List ℕ) → Gathers before mid held text → AppendsPrefix mid now held → AppendsPrefix before now text
flushed_part before mid now held text gathers flushed =
    subst (λ (t : List ℕ). AppendsPrefix before now t) (sym gathers.both) (prefix_after before mid now gathers.done held gathers.written flushed)
