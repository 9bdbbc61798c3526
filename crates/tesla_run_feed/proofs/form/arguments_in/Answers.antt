use Rattle.std.proofs.Common.{◌≡◌, ◌∙◌, Global, Some, false, map, string_bytes, sym, ap, subst}
use Rattle.std.specs.Option.{option_map}
use Rattle.tesla_run_feed.specs.Arguments.{FeedArguments, IsFeedForm, arguments_of}
use Rattle.tesla_run_feed.proofs.form.arguments_in.Goals.{then-not-is_list-via-then-not-is_list, then-not-is_list-via-else-not-is_list+then-not-is_apart}
use Rattle.tesla_run_feed.proofs.form.arguments_in.Goals as goal

pub returns-in_default-clause-only : goal.returns-in_default-clause-only
returns-in_default-clause-only c it is = let no = c.read_words.ensures.only it is.spelled in cc

pub returns-clause-only : goal.returns-clause-only
returns-clause-only c it is = sym (ap (option_map arguments_of) c.in-Some.is) ∙ c.read_words.ensures.only it is.spelled

pub returns-then-not-is_list-clause-only : goal.returns-then-not-is_list-clause-only
returns-then-not-is_list-clause-only c it is =
    let same : arguments_of c.in-Some.arguments ≡ it = (let both : Some (arguments_of c.in-Some.arguments) ≡ Some it = sym (ap (option_map arguments_of) c.in-Some.is) ∙ c.read_words.ensures.only it is.spelled in cc) in
    let form = subst (λ (a : FeedArguments). IsFeedForm a (map (string_bytes {Z = Global}) c.args.words.now)) (sym same) is in
    absurd (elim c.then-not-is_list.branch [
      | then-not-is_list-via-then-not-is_list w ↦ c.is_list.ensures.no (let no : c.is_list.result ≡ false = cc in no) form.few form.each
      | then-not-is_list-via-else-not-is_list+then-not-is_apart w ↦ w.is_apart.ensures.no (let no : w.is_apart.result ≡ false = cc in no) form.apart
    ])
