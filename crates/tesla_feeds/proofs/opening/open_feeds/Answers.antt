use Rattle.std.proofs.Common.{◌∙◌, ◌++◌, ◌∷◌, [], List, sym, ap, arith}
use Rattle.std.proofs.lemmas.Bool.Decides.{nat_tests}
use Rattle.tesla_feeds.specs.declared.listed.ListedFeeder.{ListedFeeder}
use Rattle.tesla_feeds.proofs.Opened.{opens_behind, opens_first, opens_none}
use Rattle.tesla_feeds.proofs.opening.open_feeds.Goals as goal

pub returns-then-is_empty : goal.returns-then-is_empty
returns-then-is_empty g c = λ streams are.
    opens_none c.args.opening c.args.first.sender.stream c.lasting_setups-left.result.now (sym c.has_ended.ensures ∙ c.if-has_ended.true) (grind (arith, nat_tests, c.is_empty.ensures, c.if-is_empty.true)) streams (c.lasting_setups-left.ensures streams are)

pub returns-then-has_ended : goal.returns-then-has_ended
returns-then-has_ended g c = λ streams are.
    opens_behind c.args.opening c.args.first.sender.stream c.lasting_setups-left.result.now c.new-feeders.result.items c.in_ok-opened.opened c.new-feeders.ensures.items (sym c.has_ended.ensures ∙ c.if-has_ended.true) (λ none. grind (arith, nat_tests, none, c.is_empty.ensures, c.if-is_empty.false)) c.in_ok-opened.ensures streams (c.lasting_setups-left.ensures streams are)

pub returns : goal.returns
returns g c = λ streams are.
    let it : ListedFeeder = record { feeder = c.open.result; handover = c.args.first.handover; handed = 0 } in
    opens_first c.args.opening c.args.first.sender.stream c.open.result c.args.first.handover c.args.behind.now c.push.new.self.items c.in_ok-opened-2.opened
    (c.in_ok-push.ensures.items ∙ ap (λ (fs : List ListedFeeder). fs ++ it ∷ []) c.new-feeders.ensures.items) c.open.ensures.stands c.requires.hands (sym c.has_ended.ensures ∙ c.if-has_ended.false) c.in_ok-opened-2.ensures streams are
