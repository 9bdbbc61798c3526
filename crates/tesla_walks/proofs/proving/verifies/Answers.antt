use Rattle.std.proofs.Common.{◌≡◌, ◌≤◌, ◌-◌, ◌==◌, ◌&&◌, [], length, get_or, take, ap, ◌∙◌, arith, bytes_eq}
use Rattle.tesla_base.specs.declared.names.WideTag.{WideTag}
use Rattle.tesla_frame.specs.declared.row.KeyRow.{KeyRow}
use Rattle.tesla_prf.specs.Keys.{walk, tag_of}
use Rattle.tesla_walks.specs.Walking.{Walking}
use Rattle.tesla_walks.proofs.Tried.{tags_equal}
use Rattle.tesla_walks.proofs.proving.verifies.Goals as goal

pub returns-clause-value : goal.returns-clause-value
returns-clause-value g c =
    let chain : c.from.result ≡ c.args.walking.now.row.chain.0 =
    c.from.ensures ∙ ap (λ (r : KeyRow). r.chain.0) c.row.ensures ∙ ap (λ (w : Walking). w.row.chain.0) c.reach.ensures.reached in
    let none : WideTag = record { bytes = []; length = 0 } in
    let room : length c.args.config.now.setup.rows ≤ length c.args.item.now.tags = omega arith in
    tags_equal c.args.config.now (length c.args.config.now.setup.rows) c.args.item.now c.args.walking.now.row.chain.0 c.args.walking.now.row none c.made_tag-made.result _ c.eq.result c.requires.item c.requires.chain room
    c.made_tag-made.ensures.value
    (ap (λ (w : Walking). tag_of c.args.config.now.setup.tag_length (walk w.row.key (w.row.index - c.args.item.now.name.interval)) c.args.config.now.setup.stream w.row.chain c.args.item.now.name (take c.args.item.now.length c.args.item.now.payload)) c.reach.ensures.reached)
    (c.eq.ensures ∙ ap (λ n. bytes_eq (get_or c.args.item.now.tags n none).bytes c.made_tag-made.result.bytes && ((get_or c.args.item.now.tags n none).length == c.made_tag-made.result.length)) chain)
