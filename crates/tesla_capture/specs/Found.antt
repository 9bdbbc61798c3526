-- What pending bytes tell of a place of a capture or a script.
use Rattle.std.specs.Prelude.{ℕ, List}
use Rattle.tesla_records.specs.Found as files
use Rattle.tesla_capture.specs.Grammar.{Grammar}
use Rattle.tesla_capture.specs.Parsing.{file_of}

-- only what follows these bytes tells what comes next at a place; at place 0 the head comes first
abbrev pub AwaitsAt : Grammar → ℕ → List ℕ → Type 0
AwaitsAt G offset bytes = files.AwaitsAt (file_of G) offset bytes
