use Rattle.std.proofs.Common.{◌∙◌, List, ℕ, string_bytes, sym, subst}
use Rattle.tesla_run_chain.specs.Arguments.{IsChain}
use Rattle.tesla_front.proofs.WordLists.{seven_is, same_seven}
use Rattle.tesla_run_chain.proofs.words.arguments_in.Goals as goal

pub returns-clause-only : goal.returns-clause-only
returns-clause-only c arguments is =
    let all = seven_is string_bytes c.args.words.now c.command-item.result c.out-item.result c.secret-item.result c.stream-item.result c.start-item.result c.interval-item.result c.last-item.result c.in-len7-up.len_at_least c.command-item.is c.out-item.is c.secret-item.is c.stream-item.is c.start-item.is c.interval-item.is c.last-item.is in
    let same = all ∙ same_seven _ _ _ _ _ _ _ _ _ _ _ _ _ _ _ (sym c.as_str.ensures.value ∙ c.in-Some.ensures.found) (sym c.as_str-2.ensures.value) (sym c.as_str-3.ensures.value) (sym c.as_bytes.ensures.value) (sym c.as_bytes-2.ensures.value) (sym c.as_bytes-3.ensures.value) (sym c.as_bytes-4.ensures.value) in
    c.arguments_from.ensures.only arguments (subst (λ (words : List (List ℕ)). IsChain arguments words) same is)
