-- Which words are watch.
use Rattle.std.specs.Prelude.{ℕ, List, codes}
use Rattle.tesla_run_receive.specs.OutputArguments.{OutputArguments, IsOutputForm}
use Rattle.tesla_run_receive.specs.declared.output_form.Order.TheVariants.{OutputFirst}

-- the words are the form 'watch SETUP LAG CAPACITY LINKS SINKS STATUS EVERY': the output is STATUS, the file of the counts, and the number is EVERY, how many seconds pass from a line to the next
abbrev pub IsWatch : OutputArguments → List (List ℕ) → Type 0
IsWatch arguments words = IsOutputForm (codes "watch") 3600 OutputFirst arguments words
