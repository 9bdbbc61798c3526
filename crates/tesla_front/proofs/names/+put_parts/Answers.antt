use Rattle.std.proofs.Common.{Some, None, ℕ, List, [], sym, subst, arith}
use Rattle.std.specs.List.{slice_split}
use Rattle.std.proofs.lemmas.Bool.{true_from_ne_false}
use Rattle.std.proofs.lemmas.Str.Pattern.{split_parts}
use Rattle.tesla_front.specs.Names.{is_comma}
use Rattle.tesla_front.specs.Parts.{Follow, texts_of}
use Rattle.tesla_front.proofs.Parts.{part_alone, parts_around, all_follow, one_follows, first_follows}
use Rattle.tesla_front.proofs.names.+put_parts.Goals as goal

pub returns-then-put_name-clause-found : goal.returns-then-put_name-clause-found
returns-then-put_name-clause-found t c all =
    let around = split_parts 44 c.args.word.now (Some (c.in-Some.name, c.in-Some.others)) c.in-Some.ensures.cases (omega arith) in
    let split = parts_around c.args.word.now c.in-Some.name.now c.in-Some.others.now around.0 around.1 in
    all_follow (texts_of c.args.list.now.items) (texts_of c.put_name.new.list.items) (texts_of c.put_parts.new.list.items) (slice_split is_comma c.in-Some.others.now) (slice_split is_comma c.args.word.now) c.in-Some.name.now split (c.put_name.ensures.yes c.if-put_name.true) (c.put_parts.ensures.found all)

pub returns-then-put_name-clause-only : goal.returns-then-put_name-clause-only
returns-then-put_name-clause-only t c follow =
    let around = split_parts 44 c.args.word.now (Some (c.in-Some.name, c.in-Some.others)) c.in-Some.ensures.cases (omega arith) in
    let split = parts_around c.args.word.now c.in-Some.name.now c.in-Some.others.now around.0 around.1 in
    let both = first_follows (texts_of c.args.list.now.items) (slice_split is_comma c.in-Some.others.now) (slice_split is_comma c.args.word.now) c.in-Some.name.now split follow in
    let put = c.put_name.ensures.yes c.if-put_name.true in
    let rest = c.put_parts.ensures.only (subst (λ (names : List (List ℕ)). Follow names (slice_split is_comma c.in-Some.others.now)) (sym put.1) both.1) in
    let done = all_follow (texts_of c.args.list.now.items) (texts_of c.put_name.new.list.items) (texts_of c.put_parts.new.list.items) (slice_split is_comma c.in-Some.others.now) (slice_split is_comma c.args.word.now) c.in-Some.name.now split put (c.put_parts.ensures.found rest.0) in
    (rest.0, done.1)

pub returns-else-put_name-clause-only : goal.returns-else-put_name-clause-only
returns-else-put_name-clause-only t c follow =
    let around = split_parts 44 c.args.word.now (Some (c.in-Some.name, c.in-Some.others)) c.in-Some.ensures.cases (omega arith) in
    let split = parts_around c.args.word.now c.in-Some.name.now c.in-Some.others.now around.0 around.1 in
    let both = first_follows (texts_of c.args.list.now.items) (slice_split is_comma c.in-Some.others.now) (slice_split is_comma c.args.word.now) c.in-Some.name.now split follow in
    absurd (c.put_name.ensures.no c.if-put_name.false both.0)

pub returns-in-None-clause-found : goal.returns-in-None-clause-found
returns-in-None-clause-found t c all =
    let alone = part_alone c.args.word.now (split_parts 44 c.args.word.now None c.in-None.ensures.cases (omega arith)) in
    one_follows (texts_of c.args.list.now.items) (texts_of c.put_name-in-None.new.list.items) (slice_split is_comma c.args.word.now) c.args.word.now alone (c.put_name-in-None.ensures.yes all)

pub returns-in-None-clause-only : goal.returns-in-None-clause-only
returns-in-None-clause-only t c follow =
    let alone = part_alone c.args.word.now (split_parts 44 c.args.word.now None c.in-None.ensures.cases (omega arith)) in
    let first = first_follows (texts_of c.args.list.now.items) [] (slice_split is_comma c.args.word.now) c.args.word.now alone follow in
    let all = true_from_ne_false c.put_name-in-None.result (λ other. c.put_name-in-None.ensures.no other first.0) in
    (all, (one_follows (texts_of c.args.list.now.items) (texts_of c.put_name-in-None.new.list.items) (slice_split is_comma c.args.word.now) c.args.word.now alone (c.put_name-in-None.ensures.yes all)).1)
