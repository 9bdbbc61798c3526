use Rattle.std.proofs.Common.{[], ◌∙◌, sym, ap, subst}
use Rattle.std.specs.Prelude.{count_by}
use Rattle.tesla_state.specs.State.{State}
use Rattle.tesla_state.specs.Steps.{is_untaken}
use Rattle.tesla_receiver.specs.Stands.{Stands}
use Rattle.tesla_receiver.proofs.Undelivered.{dropped_are}
use Rattle.tesla_receiver.proofs.Ends.{stands_opened}
use Rattle.tesla_receiver.proofs.receiver.Receiver.reopen.Goals as goal

pub returns-clause-stands : goal.returns-clause-stands
returns-clause-stands c = subst (λ (s : State). Stands s []) (sym c.reopen.ensures.opened) (stands_opened _ _)

pub returns-clause-config : goal.returns-clause-config
returns-clause-config c =
    ap (λ (s : State). s.config) c.reopen.ensures.opened
    ∙ ap (λ (s : State). record s.config { setup = c.args.setup }) (c.deref_mut.ensures.value ∙ c.self.view_is)

pub returns-clause-reserved : goal.returns-clause-reserved
returns-clause-reserved c = ap (λ (s : State). s.reserved) c.reopen.ensures.opened ∙ ap (λ (s : State). s.reserved) (c.deref_mut.ensures.value ∙ c.self.view_is)

pub returns-clause-dropped : goal.returns-clause-dropped
returns-clause-dropped c h st =
    c.reopen.ensures.dropped ∙ ap (λ (s : State). count_by is_untaken s.held) (c.deref_mut.ensures.value ∙ c.self.view_is)
    ∙ dropped_are c.args.self.now h st
