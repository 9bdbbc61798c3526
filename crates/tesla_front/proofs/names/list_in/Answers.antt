use Rattle.std.proofs.Common.{◌≡◌, ◌∙◌, Some, ℕ, List, [], ◌++◌, sym, ap, subst}
use Rattle.std.specs.List.{slice_split}
use Rattle.std.proofs.lemmas.Bool.{both_ways}
use Rattle.tesla_front.specs.Names.{AreNames, is_comma}
use Rattle.tesla_front.specs.Parts.{Follow, texts_of}
use Rattle.tesla_front.proofs.Parts.{names_from_parts, parts_are, parts_follow}
use Rattle.tesla_front.proofs.names.list_in.Goals as goal

pub returns-then-not-put_parts-clause-only : goal.returns-then-not-put_parts-clause-only
returns-then-not-put_parts-clause-only c names are =
    let none : [] ≡ texts_of c.new-list.result.items = ap texts_of (sym c.new-list.ensures) in
    let done = c.put_parts.ensures.only (subst (λ (before : List (List ℕ)). Follow before (slice_split is_comma c.args.word.now)) none (parts_follow c.args.word.now names are)) in
    absurd (both_ways c.put_parts.result c.if-not-put_parts.true done.0)

pub returns-clause-found : goal.returns-clause-found
returns-clause-found c =
    let none : texts_of c.new-list.result.items ≡ [] = ap texts_of c.new-list.ensures in
    let put = c.put_parts.ensures.found c.if-not-put_parts.false in
    let same : texts_of c.put_parts.new.list.items ≡ slice_split is_comma c.args.word.now = put.1 ∙ ap (λ (before : List (List ℕ)). before ++ slice_split is_comma c.args.word.now) none in
    let follow = subst (λ (before : List (List ℕ)). Follow before (slice_split is_comma c.args.word.now)) none put.0 in
    subst (AreNames c.args.word.now) (sym same) (names_from_parts c.args.word.now follow)

pub returns-clause-only : goal.returns-clause-only
returns-clause-only c names are =
    let none : texts_of c.new-list.result.items ≡ [] = ap texts_of c.new-list.ensures in
    let put = c.put_parts.ensures.found c.if-not-put_parts.false in
    let same : texts_of c.put_parts.new.list.items ≡ names = put.1 ∙ ap (λ (before : List (List ℕ)). before ++ slice_split is_comma c.args.word.now) none ∙ parts_are c.args.word.now names are in
    ap (λ (names : List (List ℕ)). Some names) same
