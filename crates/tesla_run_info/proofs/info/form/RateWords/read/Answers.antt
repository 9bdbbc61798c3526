use Rattle.std.proofs.Common.{map, string_bytes, arith}
use Rattle.std.proofs.lemmas.Bool.Decides.{nat_tests}
use Rattle.tesla_run_info.proofs.info.Rates.{rate_none, rate_only, some_words}
use Rattle.tesla_run_info.proofs.info.form.RateWords.read.Goals as goal

pub returns-in-Some-clause-only : goal.returns-in-Some-clause-only
returns-in-Some-clause-only c it is =
    let some = some_words string_bytes c.args.words.now (λ e. grind (arith, nat_tests, c.is_empty.ensures, c.if-is_empty.false)) in
    rw c.get.ensures.number (rate_only it (map string_bytes c.args.words.now) c.read.result c.in-Some.rate some c.in-Some.is c.read.ensures.only is)

pub returns-in-None-clause-only : goal.returns-in-None-clause-only
returns-in-None-clause-only c it is =
    let some = some_words string_bytes c.args.words.now (λ e. grind (arith, nat_tests, c.is_empty.ensures, c.if-is_empty.false)) in
    absurd (rate_none it.rate (map string_bytes c.args.words.now) c.read.result some c.in-None.is c.read.ensures.only is)
