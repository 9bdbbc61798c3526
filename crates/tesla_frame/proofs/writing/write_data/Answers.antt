use Rattle.std.proofs.Common.{ℕ, List, [], ◌++◌, length, refl, subst, arith, length-append}
use Rattle.std.specs.List.{flat_map}
use Rattle.tesla_base.specs.declared.version.Version.{Version}
use Rattle.tesla_frame.specs.Frame.{Frame, Data, counts_text, tag_row_text, frame_text}
use Rattle.tesla_frame.specs.Written.{Begins, rows_of, first_length}
use Rattle.tesla_frame.proofs.Begun.{begins_none, data_begun, rows_length}
use Rattle.tesla_frame.proofs.writing.write_data.Goals as goal

pub returns-clause-text : goal.returns-clause-text
returns-clause-text c =
    let before = c.args.into.now in
    let new = c.put_tag_rows.new.into in
    let prefix = c.data_head.result in
    let payload = c.args.payload.now in
    let version = c.version_of-version.result in
    let size = c.first_length-size.result in
    let rows = rows_of c.args.tags.now c.args.keys.now in
    let counts = counts_text version (length c.args.tags.now) size in
    let f1 = c.put-at.ensures.text [] before refl (begins_none before) in
    let f2 = c.put-at-2.ensures.text prefix before (omega arith) f1 in
    let f3 = c.put_counts-at.ensures.text (prefix ++ payload) before (omega (arith, length-append prefix payload)) f2 in
    let f4 = c.put_tag_rows.ensures.text ((prefix ++ payload) ++ counts) before (omega (arith, length-append prefix payload, length-append (prefix ++ payload) counts)) f3 in
    let f5 = data_begun prefix payload version size c.args.tags.now c.args.keys.now before new c.requires.same f4 in
    let frame : Version → ℕ → Frame = λ v s. Data (record { version = v; stream = c.args.stream; name = c.args.name; payload = payload; tag_length = s; rows = rows }) in
    let f6 : Begins (frame_text (frame version size)) before new = subst (λ (h : List ℕ). Begins (((h ++ payload) ++ counts_text version (length rows) size) ++ flat_map tag_row_text rows) before new) c.data_head.ensures f5 in
    let f7 = subst (λ (s : ℕ). Begins (frame_text (frame version s)) before new) c.first_length-size.ensures f6 in
    subst (λ (v : Version). Begins (frame_text (frame v (first_length c.args.tags.now))) before new) c.version_of-version.ensures f7

pub returns-clause-limits : goal.returns-clause-limits
returns-clause-limits c =
    let count = rows_length c.args.tags.now c.args.keys.now c.requires.same in
    record {
      stream = omega arith;
      interval = omega arith;
      number = omega arith;
      payload = c.requires.limit;
      bytes = c.put-at-2.ensures.bytes;
      tag_length = c.requires.size;
      some = omega (arith, count);
      few = omega (arith, count);
      rows = rw c.first_length-size.ensures at c.put_tag_rows.ensures.rows;
    }
