use Rattle.std.proofs.Common.{◌≡◌, ◌≤◌, ◌+◌, ℕ, List, [], not, cond, length, sym, ap, ◌∙◌, arith, Some}
use Rattle.std.specs.Prelude.{count_by}
use Rattle.tesla_buffer.specs.Held.{Held, first_slot, is_untaken}
use Rattle.tesla_buffer.proofs.Cleared.{first_gone, first_there, none_first, none_left, untaken_first}
use Rattle.tesla_buffer.proofs.buffer.Buffer.clear.Goals.{In-Some}
use Rattle.tesla_buffer.proofs.buffer.Buffer.clear.Goals as goal

first : (c : In-Some) → Some c.in-Some.place ≡ first_slot c.loop-gone.self.held
first c = sym c.in-Some.is ∙ c.oldest.ensures.place

pub item-requires : goal.item-requires
item-requires c = first_there c.loop-gone.self.held c.in-Some.place (first (goal.at.item-requires c).In-Some)

pub remove-requires : goal.remove-requires
remove-requires c = first_there c.loop-gone.self.held c.in-Some.place (first (goal.at.remove-requires c).In-Some)

pub loop-gone-preserved : goal.loop-gone-preserved
loop-gone-preserved c =
    let at = (goal.at.loop-gone-preserved c).In-Some in
    let i = c.loop-gone.invariant in
    let counts = untaken_first c.loop-gone.self.held c.in-Some.place c.item.result.now (first at) c.oldest.ensures.distinct c.item.ensures.item in
    record {
      left = omega (arith, i.left, ap length c.remove.ensures.held, first_gone c.loop-gone.self.held c.in-Some.place (first at));
      few = omega (arith, i.few, c.untaken-dropped.ensures.few);
      counted =
          ap (λ (n : ℕ). c.loop-gone.dropped + n + count_by is_untaken c.remove.new.self.held) c.untaken-dropped.ensures.value
          ∙ ap (λ (hs : List Held). c.loop-gone.dropped + cond (not c.item.result.now.taken) 1 0 + count_by is_untaken hs) c.remove.ensures.held
          ∙ omega (arith, counts, i.counted);
      capacity = c.remove.ensures.capacity ∙ i.capacity;
      reserved = c.remove.ensures.reserved ∙ i.reserved;
    }

-- where none is held any more, all were counted
all_counted : (dropped all : ℕ) (held : List Held) → held ≡ [] → dropped + count_by is_untaken held ≡ all → dropped ≡ all
all_counted dropped all held none counted =
    let zero_left : count_by is_untaken held ≡ 0 = ap (count_by is_untaken) none in
    omega (arith, zero_left, counted)

pub returns-in_default-clause-held : goal.returns-in_default-clause-held
returns-in_default-clause-held c = none_first c.loop-gone.self.held (sym c.in_default.is ∙ c.oldest.ensures.place)

pub returns-in_default-clause-dropped : goal.returns-in_default-clause-dropped
returns-in_default-clause-dropped c =
    all_counted c.loop-gone.dropped (count_by is_untaken c.args.self.now.held) c.loop-gone.self.held (none_first c.loop-gone.self.held (sym c.in_default.is ∙ c.oldest.ensures.place)) c.loop-gone.invariant.counted

pub returns-clause-held : goal.returns-clause-held
returns-clause-held c =
    let all : length c.loop-gone.self.held ≤ 0 = omega (arith, c.loop-gone.invariant.left, c.held-gone-end.ensures.held, c.loop-gone-test.false) in
    none_left c.loop-gone.self.held all

pub returns-clause-dropped : goal.returns-clause-dropped
returns-clause-dropped c =
    let all : length c.loop-gone.self.held ≤ 0 = omega (arith, c.loop-gone.invariant.left, c.held-gone-end.ensures.held, c.loop-gone-test.false) in
    all_counted c.loop-gone.dropped (count_by is_untaken c.args.self.now.held) c.loop-gone.self.held (none_left c.loop-gone.self.held all) c.loop-gone.invariant.counted
