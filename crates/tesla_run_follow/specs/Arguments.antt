-- Which words are follow, and what is opened in order.
use Rattle.std.specs.Prelude.{ℕ, ◌≤◌, List, codes}
use Rattle.tesla_run_receive.specs.OutputArguments.{OutputArguments, IsOutputForm}
use Rattle.tesla_run_receive.specs.declared.output_form.Order.TheVariants.{OutputFirst}

-- The words are the form 'follow SETUP LAG CAPACITY LINKS SINKS STATUS EVERY': the output is STATUS, the file of the counts, and the number is EVERY, how many seconds pass from a line to the next. Each epoch holds at most 4,096 packets
pub record IsFollow (arguments : OutputArguments) (words : List (List ℕ)) : Type 0 where
  pub form : IsOutputForm (codes "follow") 3600 OutputFirst arguments words
  pub capacity : arguments.receive.limits.capacity ≤ 4096
