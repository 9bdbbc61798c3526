use Rattle.std.proofs.Common.{◌≡◌, ◌≤◌, List, length, map, take, sym, ◌∙◌, ap, subst}
use Rattle.tesla_base.specs.Version.{version_named}
use Rattle.tesla_frame.specs.Frame.{ChainsRise, Frame}
use Rattle.tesla_frame.specs.declared.row.KeyRow.{KeyRow}
use Rattle.tesla_sender.specs.Chains.{chain_in}
use Rattle.tesla_sender.specs.Stands.{IsWritten}
use Rattle.tesla_sender.proofs.Frames.{due_some, due_rise, version_back, disclosure_is}
use Rattle.tesla_sender.proofs.writing.write_due.Goals as goal

pub write_disclosure-requires-clause-some : goal.write_disclosure-requires-clause-some
write_disclosure-requires-clause-some c =
    let rows = c.put_due-end.ensures.rows in
    let P : List KeyRow → Type 0 = λ rs. 1 ≤ length rs in
    subst P (sym rows) (due_some c.args.interval (map chain_in c.args.chains.now) c.requires.due)

pub write_disclosure-requires-clause-rise : goal.write_disclosure-requires-clause-rise
write_disclosure-requires-clause-rise c =
    subst ChainsRise (sym c.put_due-end.ensures.rows) (due_rise 0 c.args.interval (map chain_in c.args.chains.now) c.requires.numbered)

pub returns : goal.returns
returns c =
    let a = c.args in
    let setup = a.setup.now in
    let chains = map chain_in a.chains.now in
    let version : version_named c.version.result ≡ setup.version = ap version_named c.version.ensures ∙ version_back setup.version in
    let frame = disclosure_is setup a.interval chains (version_named c.version.result) c.stream.result (take c.put_due-end.result c.put_due-end.new.rows) version c.stream.ensures c.put_due-end.ensures.rows in
    let P : Frame → Type 0 = λ f. IsWritten f c.write_disclosure.result a.into.now c.write_disclosure.new.into in
    subst P frame (record { limits = c.write_disclosure.ensures.limits; length = c.write_disclosure.ensures.length; text = c.write_disclosure.ensures.text })
