-- What watch may write to STATUS, whether or not a run ends. It holds at each write.
use Rattle.std.specs.Prelude.{◌≡◌, ℕ, Bool, true, List, [], ◌∷◌, ◌++◌, length, flat_map, Option, IfSome}
use Rattle.tesla_commit.specs.Parts.{Parts}
use Rattle.tesla_desk.specs.Outside.{Told}
use Rattle.tesla_front.specs.Setup.{IsSetupIn}
use Rattle.tesla_run_receive.specs.OutputArguments.{OutputArguments}
use Rattle.tesla_run_receive.specs.watch.Lines.{Columns, Follow, StatusLine, chain_columns, line_text, none_counted}

-- The piece is the next line of the output that has this written, where it tells that: a whole line, at a reading that a clock gave. What was written are whole lines of which none is a last one, and it follows them: its arrivals are the sum of its verdicts, it has a count for each chain and for each name, and none of its counts is below that of a line before
pub record IsNextLine (gave : ℕ → Bool) (columns : Columns) (written : Option (List ℕ)) (piece : List ℕ) : Type 0 where
  pub lines : List StatusLine
  pub line : StatusLine
  pub piece_is : piece ≡ line_text columns.names line
  pub written_is : IfSome written (λ bytes. bytes ≡ flat_map (line_text columns.names) lines)
  pub follow : Follow columns none_counted (lines ++ line ∷ [])
  pub given : gave line.time ≡ true

module _ {S : Type 0} (name : S → List ℕ) (written : S → Option (List ℕ)) (may_write : S → List ℕ → Bool) (gave : ℕ → Bool) where
  -- the outputs of this name may write each line that comes next
  abbrev pub MayWriteLinesOf : Columns → List ℕ → Type 0
  MayWriteLinesOf columns under = (it : S) (piece : List ℕ) → name it ≡ under → IsNextLine gave columns (written it) piece → may_write it piece ≡ true

  -- STATUS may be given each of these, with a count for each chain of the setup that SETUP spells, and no further number
  abbrev pub MayWriteLines : OutputArguments → Told → Type 0
  MayWriteLines arguments told = (setup : Parts) → IsSetupIn (told.page arguments.receive.setup) setup → MayWriteLinesOf (chain_columns (length setup.rows)) arguments.output
