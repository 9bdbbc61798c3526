use Rattle.std.proofs.Common.{◌<◌, arith}
use Rattle.std.proofs.lemmas.List.{take_rest}
use Rattle.tesla_frame.proofs.InPlace.{key_rows_length, key_rows_get}
use Rattle.tesla_frame.proofs.view.KeysView.row.Goals as goal

pub returns : goal.returns
returns c =
    let rows = c.self.inside.rows.now in
    let requires = rw (← c.self.view_is) at c.requires in
    let within : c.args.place < c.self.inside.count = omega (arith, requires, key_rows_length c.self.inside.count rows) in
    rw (← c.self.view_is, c.key_row_of.ensures, take_rest) (key_rows_get c.self.inside.count rows c.args.place within)
