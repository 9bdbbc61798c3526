-- Which words are record.
use Rattle.std.specs.Prelude.{ℕ, List, codes}
use Rattle.tesla_run_receive.specs.OutputArguments.{OutputArguments, IsOutputForm}
use Rattle.tesla_run_receive.specs.declared.output_form.Order.TheVariants.{NumberFirst}

-- the words are the form 'record SETUP LAG CAPACITY LINKS SINKS KEEP TAIL': the number is KEEP, how many entries of the history are kept at most, and the output is TAIL, the file of these
abbrev pub IsRecord : OutputArguments → List (List ℕ) → Type 0
IsRecord arguments words = IsOutputForm (codes "record") 4096 NumberFirst arguments words
