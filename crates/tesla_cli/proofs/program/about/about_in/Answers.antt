use Rattle.std.proofs.Common.{◌≡◌, ◌∙◌, [], ◌∷◌, codes, string_bytes, ap, rules}
use Rattle.tesla_cli.proofs.program.OneWord.{one_is}
use Rattle.tesla_cli.proofs.program.about.about_in.Goals as goal

pub returns-in-len1-clause-found : goal.returns-in-len1-clause-found
returns-in-len1-clause-found c =
    let all = one_is string_bytes c.args.words.now c.word-item.result c.in-len1.len_at_least c.in-len1.len_below c.word-item.is in
    let same : string_bytes c.word-item.result ≡ codes "--help" = search rules in
    all ∙ ap (λ word. word ∷ []) same

pub returns-in-len1-2-clause-found : goal.returns-in-len1-2-clause-found
returns-in-len1-2-clause-found c =
    let all = one_is string_bytes c.args.words.now c.word-item-then-words-lt2.result c.in-len1.len_at_least c.in-len1.len_below c.word-item-then-words-lt2.is in
    let same : string_bytes c.word-item-then-words-lt2.result ≡ codes "--version" = search rules in
    all ∙ ap (λ word. word ∷ []) same
