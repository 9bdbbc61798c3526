use Rattle.std.proofs.Common.{◌∙◌, sym, ap, Some, None}
use Rattle.std.proofs.Math.ListN.{set}
use Rattle.std.proofs.lemmas.List.{set-get_or}
use Rattle.std.proofs.lemmas.Option.{get_or_from_slice_get, slice_get_within}
use Rattle.tesla_links.proofs.index.enter_group.Goals as goal

pub returns-in-Some-clause-keys : goal.returns-in-Some-clause-keys
returns-in-Some-clause-keys c =
    let keys = c.args.keys.now.slots in
    sym (ap (set keys c.in-Some.group) (sym (get_or_from_slice_get keys c.in-Some.group (Some c.args.key) None c.in-Some.ensures)) ∙ set-get_or keys c.in-Some.group None)

pub enter-requires : goal.enter-requires
enter-requires c = slice_get_within c.args.keys.now.slots c.in-Some-vacant.group None c.in-Some-vacant.ensures
