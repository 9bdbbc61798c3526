use Rattle.std.proofs.Common.{◌≡◌, ◌∙◌, Bool, codes, ℕ, List, ◌++◌, append-nil, ap, append_assoc, sym}
use Rattle.arrayvec.specs.ArrayString.{ArrayString}
use Rattle.tesla_run_feed.proofs.Numbers.{number_then}
use Rattle.tesla_run_feed.specs.Status.{handover_text, refused_text, sent_text}
use Rattle.tesla_run_feed.proofs.line.add_counts.Goals.{else-several, then-several}
use Rattle.tesla_run_feed.proofs.line.add_counts.Goals as goal

pub returns-clause-text : goal.returns-clause-text
returns-clause-text c =
    let first = c.args.line.now.bytes in
    let sent = sent_text c.args.counts.now.feed in
    let refused = refused_text c.args.counts.now.feed in
    let told : List ℕ = handover_text c.args.several c.args.counts.now.handovers in
    let middle : c.if-several.line.bytes ≡ first ++ (sent ++ told) =
    elim c.if-several.branch as (λ _. c.if-several.line.bytes ≡ first ++ (sent ++ told)) [
      | then-several w ↦ ap (λ (l : ArrayString). l.bytes) w.line-is
          ∙ number_then first c.add_sent.new.line.bytes w.add_number.new.line.bytes sent (codes " handovers=") w.from.result c.args.counts.now.handovers w.from.ensures c.add_sent.ensures.text w.add_number.ensures.text
          ∙ ap (λ (b : Bool). first ++ (sent ++ handover_text b c.args.counts.now.handovers)) (sym w.if-several.true)
      | else-several w ↦ ap (λ (l : ArrayString). l.bytes) w.line-is ∙ c.add_sent.ensures.text ∙ ap (λ (bytes : List ℕ). first ++ bytes) (sym (append-nil sent))
          ∙ ap (λ (b : Bool). first ++ (sent ++ handover_text b c.args.counts.now.handovers)) (sym w.if-several.false)
    ] in
    c.add_refused.ensures.text ∙ ap (λ (bytes : List ℕ). bytes ++ refused) middle ∙ append_assoc first (sent ++ told) refused ∙ ap (λ (bytes : List ℕ). first ++ bytes) (append_assoc sent told refused)
