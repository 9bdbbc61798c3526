use Rattle.std.proofs.Common.{◌≡◌, List, ℕ, [], ◌∷◌, IfSome, map, string_bytes, sym, subst, rules}
use Rattle.tesla_run_replay.specs.Arguments.{IsPlayed, arguments_of, form_of}
use Rattle.tesla_front.proofs.WordLists.{six_is}
use Rattle.tesla_run_replay.proofs.words.arguments_in.Goals as goal

pub returns-clause-found : goal.returns-clause-found
returns-clause-found c =
    let all = six_is string_bytes c.args.words.now c.command-item.result c.setup-item.result c.lag-item.result c.capacity-item.result c.capture-item.result c.out-item.result c.in-len6.len_at_least c.in-len6.len_below c.command-item.is c.setup-item.is c.lag-item.is c.capacity-item.is c.capture-item.is c.out-item.is in
    let first : string_bytes c.command-item.result ≡ c.args.form.now.name.now = search rules in
    let same : c.args.form.now.name.now ∷ c.as_str-2.result.now ∷ c.as_bytes.result.now ∷ c.as_bytes-2.result.now ∷ c.as_str-3.result.now ∷ c.as_str-4.result.now ∷ [] ≡ map string_bytes c.args.words.now = cc in
    subst (λ (words : List (List ℕ)). IfSome c.read_words.result (λ arguments. IsPlayed (form_of c.args.form.now) (arguments_of arguments) words)) same c.read_words.ensures.found

pub returns-clause-only : goal.returns-clause-only
returns-clause-only c arguments is =
    let all = six_is string_bytes c.args.words.now c.command-item.result c.setup-item.result c.lag-item.result c.capacity-item.result c.capture-item.result c.out-item.result c.in-len6.len_at_least c.in-len6.len_below c.command-item.is c.setup-item.is c.lag-item.is c.capacity-item.is c.capture-item.is c.out-item.is in
    let first : string_bytes c.command-item.result ≡ c.args.form.now.name.now = search rules in
    let same : c.args.form.now.name.now ∷ c.as_str-2.result.now ∷ c.as_bytes.result.now ∷ c.as_bytes-2.result.now ∷ c.as_str-3.result.now ∷ c.as_str-4.result.now ∷ [] ≡ map string_bytes c.args.words.now = cc in
    c.read_words.ensures.only arguments (subst (λ (words : List (List ℕ)). IsPlayed (form_of c.args.form.now) arguments words) (sym same) is)

pub returns-then-ne-clause-only : goal.returns-then-ne-clause-only
returns-then-ne-clause-only c arguments is =
    let all = six_is string_bytes c.args.words.now c.command-item.result c.setup-item.result c.lag-item.result c.capacity-item.result c.capture-item.result c.out-item.result c.in-len6.len_at_least c.in-len6.len_below c.command-item.is c.setup-item.is c.lag-item.is c.capacity-item.is c.capture-item.is c.out-item.is in
    let spelled = is.spelled in
    let first : string_bytes c.command-item.result ≡ c.args.form.now.name.now = cc in
    search rules
