use Rattle.std.proofs.Common.{◌≡◌, ◌∙◌, ◌+◌, ◌∷◌, ◌++◌, [], List, ℕ, string_bytes, sym, ap, subst, arith, append_assoc}
use Rattle.tesla_base.proofs.Prefixes.{some_is}
use Rattle.tesla_front.specs.Words.{IsNumberWithin}
use Rattle.tesla_sender_setup.specs.Delays.{RiseAbove}
use Rattle.tesla_run_chain.proofs.DelayWords.{begins}
use Rattle.tesla_run_chain.proofs.words.+put_delays.Goals as goal

pub returns-in_default-clause-only : goal.returns-in_default-clause-only
returns-in_default-clause-only t c more spelled rise =
    let it = begins string_bytes c.args.words.now c.first-item.result c.args.before more c.in-len1-up.len_at_least c.first-item.is spelled rise in
    let within : IsNumberWithin (c.from.result + 1) 4096 c.as_bytes.result.now it.delay = record { spelled = c.as_bytes.ensures.value ∙ it.within.spelled; least = omega (arith, c.from.ensures, it.within.least); limit = it.within.limit } in
    absurd (c.in_default.not-Some it.delay (c.number_in.ensures.only it.delay within))

pub returns-in-Some-clause-only : goal.returns-in-Some-clause-only
returns-in-Some-clause-only t c more spelled rise =
    let it = begins string_bytes c.args.words.now c.first-item.result c.args.before more c.in-len1-up.len_at_least c.first-item.is spelled rise in
    let within : IsNumberWithin (c.from.result + 1) 4096 c.as_bytes.result.now it.delay = record { spelled = c.as_bytes.ensures.value ∙ it.within.spelled; least = omega (arith, c.from.ensures, it.within.least); limit = it.within.limit } in
    let same : c.in-Some.delay ≡ it.delay = some_is _ _ (sym c.in-Some.is ∙ c.number_in.ensures.only it.delay within) in
    let done = c.put_delays.ensures.only it.rest it.others (subst (λ (d : ℕ). RiseAbove d it.rest) (sym same) it.rise) in (
      done.0,
      done.1 ∙ ap (λ (items : List ℕ). items ++ it.rest) c.push.ensures.items ∙ append_assoc c.args.delays.now.items (c.in-Some.delay ∷ []) it.rest
          ∙ ap (λ (d : ℕ). c.args.delays.now.items ++ d ∷ it.rest) same ∙ ap (λ (l : List ℕ). c.args.delays.now.items ++ l) (sym it.whole),
    )
