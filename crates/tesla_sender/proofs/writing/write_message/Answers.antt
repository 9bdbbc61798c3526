use Rattle.std.proofs.Common.{◌≡◌, ◌≤◌, List, [], length, map, take, sym, ◌∙◌, ap, subst, arith}
use Rattle.std.proofs.lemmas.List.{length-map}
use Rattle.std.specs.List.{AllByRecursion}
use Rattle.tesla_base.specs.Version.{version_named, IsTagLength}
use Rattle.tesla_base.specs.declared.names.WideTag.{WideTag}
use Rattle.tesla_base.specs.declared.version.Version.{Version}
use Rattle.tesla_frame.specs.Frame.{Frame}
use Rattle.tesla_frame.specs.Written.{HasLength, first_length}
use Rattle.tesla_sender.specs.Made.{key_due}
use Rattle.tesla_sender.specs.Chains.{chain_in, tag_made}
use Rattle.tesla_sender.specs.Stands.{IsWritten}
use Rattle.tesla_sender.proofs.Frames.{put_first, version_back, tags_first, tags_each_first, message_is}
use Rattle.tesla_sender.proofs.writing.write_message.Given as given
use Rattle.tesla_sender.proofs.writing.write_message.Goals.{After-put_tags}
use Rattle.tesla_sender.proofs.writing.write_message.Goals as goal

-- the tags were put, of which there is one at least
tags_put : (g : given.Over) (c : After-put_tags g) → (take c.from-count.result c.put_tags.new.tags ≡ map (tag_made c.args.setup.now c.args.name c.args.payload.now) (map chain_in c.args.chains.now)) × (1 ≤ length (map (tag_made c.args.setup.now c.args.name c.args.payload.now) (map chain_in c.args.chains.now))) × (c.from-count.result ≡ length c.args.chains.now)
tags_put g c =
    let a = c.args in
    let chains = map chain_in a.chains.now in
    let limits = c.count.ensures.limits in
    let count : c.from-count.result ≡ length a.chains.now = omega arith in (
      put_first (length a.chains.now) c.from-count.result [] c.put_tags.new.tags _ count c.put_tags.ensures.tags,
      omega (arith, length-map chains (tag_made a.setup.now a.name a.payload.now), length-map a.chains.now chain_in, count, c.from-count.ensures, c.count.ensures.some),
      count,
    )

pub write_data-requires-clause-size : goal.write_data-requires-clause-size
write_data-requires-clause-size g c =
    let setup = c.args.setup.now in
    let limits = c.count.ensures.limits in
    let tags = tags_put g (goal.at.write_data-requires-clause-size g c).After-put_tags in
    let version : version_named c.version.result ≡ setup.version = ap version_named c.version.ensures ∙ version_back setup.version in
    let size : first_length (take c.from-count.result c.put_tags.new.tags) ≡ setup.tag_length = ap first_length tags.0 ∙ tags_first setup.tag_length (map (tag_made c.args.setup.now c.args.name c.args.payload.now) (map chain_in c.args.chains.now)) tags.1 c.put_tags.ensures.lengths in
    let P : Version → Type 0 = λ v. IsTagLength v (first_length (take c.from-count.result c.put_tags.new.tags)) in
    subst P (sym version) (subst (IsTagLength setup.version) (sym size) limits.tag_length)

pub write_data-requires-clause-each : goal.write_data-requires-clause-each
write_data-requires-clause-each g c =
    let tags = tags_put g (goal.at.write_data-requires-clause-each g c).After-put_tags in
    let P : List WideTag → Type 0 = λ ts. AllByRecursion (HasLength (first_length ts)) ts in
    subst P (sym tags.0) (tags_each_first c.args.setup.now.tag_length (map (tag_made c.args.setup.now c.args.name c.args.payload.now) (map chain_in c.args.chains.now)) tags.1 c.put_tags.ensures.lengths)

pub returns-clause-written : goal.returns-clause-written
returns-clause-written g c =
    let a = c.args in
    let setup = a.setup.now in
    let chains = map chain_in a.chains.now in
    let tags = tags_put g (goal.at.returns-clause-written g c).After-put_tags in
    let keys : take c.from-count.result c.put_keys.new.keys ≡ map (key_due a.name.interval) chains = put_first (length a.chains.now) c.from-count.result [] c.put_keys.new.keys _ tags.2 c.put_keys.ensures in
    let version : version_named c.version.result ≡ setup.version = ap version_named c.version.ensures ∙ version_back setup.version in
    let frame = message_is setup a.name a.payload.now chains (version_named c.version.result) c.stream.result (take c.from-count.result c.put_tags.new.tags) (take c.from-count.result c.put_keys.new.keys) (tags_first setup.tag_length (map (tag_made c.args.setup.now c.args.name c.args.payload.now) (map chain_in c.args.chains.now)) tags.1 c.put_tags.ensures.lengths) version c.stream.ensures tags.0 keys in
    let P : Frame → Type 0 = λ f. IsWritten f c.write_data.result a.into.now c.write_data.new.into in
    subst P frame (record { limits = c.write_data.ensures.limits; length = c.write_data.ensures.length; text = c.write_data.ensures.text })
