use Rattle.std.proofs.Common.{◌≡◌, ℕ, ◌+◌, ◌-◌, ap, arith, drop, length, length-drop, take}
use Rattle.std.proofs.lemmas.List.{take_all}
use Rattle.tesla_front.specs.Parts.{texts_of}
use Rattle.tesla_run_receive.proofs.watch.Noted.{front_is, line_is, middle_is}
use Rattle.tesla_run_receive.proofs.watch.line.line_of.Goals as goal

pub returns : goal.returns
returns c =
    let facts = c.args.facts.now in
    let chains = c.args.chains in
    let counts = c.args.counts.now in
    let front = front_is facts chains counts _ _ _ _ c.new-line.ensures c.add_reading.ensures.text c.add_number.ensures.text c.arrivals_of.ensures in
    let all : 11 + c.from.result - 11 ≡ chains = omega (arith, c.from.ensures) in
    let middle = middle_is facts chains counts _ _ _ _ front c.add_counts.ensures.text c.add_chains.ensures.text (ap (λ (n : ℕ). take n (drop 11 counts)) all) in
    line_is facts chains counts (texts_of c.args.names.now) _ _ _ _ _ _ _ _ middle c.add_number-2.ensures.text c.from-2.ensures c.add_number-3.ensures.text c.from-3.ensures c.add_others.ensures.text (take_all (length counts - 19) (drop 19 counts) (let rest = length-drop 19 counts in omega (arith, rest))) c.push_str.ensures.bytes
