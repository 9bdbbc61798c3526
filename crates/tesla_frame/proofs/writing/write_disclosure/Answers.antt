use Rattle.std.proofs.Common.{ℕ, List, [], ◌∷◌, ◌++◌, length, refl, subst, arith, length-append}
use Rattle.std.specs.List.{flat_map}
use Rattle.tesla_frame.specs.Frame.{key_row_text}
use Rattle.tesla_frame.specs.Written.{Begins}
use Rattle.tesla_frame.proofs.Begun.{begins_none}
use Rattle.tesla_frame.proofs.writing.write_disclosure.Goals as goal

pub returns-clause-text : goal.returns-clause-text
returns-clause-text c =
    let before = c.args.into.now in
    let prefix = c.keys_head.result in
    let count = length c.args.rows.now ∷ [] in
    let f1 = c.put-at.ensures.text [] before refl (begins_none before) in
    let f2 = c.put-at-2.ensures.text prefix before (omega arith) f1 in
    let f3 = c.put_key_rows.ensures.text (prefix ++ count) before (omega (arith, length-append prefix count)) f2 in
    let f4 = subst (λ (h : List ℕ). Begins ((h ++ count) ++ flat_map key_row_text c.args.rows.now) before c.put_key_rows.new.into) c.keys_head.ensures f3 in
    rw c.version_of.ensures at f4
