use Rattle.std.proofs.Common.{◌≡◌, ◌+◌, ◌<◌, ◌++◌, false, length, sym, subst, ap, ◌∙◌, arith}
use Rattle.std.specs.Prelude.{option_to_list}
use Rattle.tesla_frame.specs.declared.view.FrameView.{FrameView}
use Rattle.tesla_frame.specs.Frame.{Data}
use Rattle.tesla_frame.specs.Shown.{shown}
use Rattle.tesla_keys.specs.Tip.{Tip}
use Rattle.tesla_fitting.specs.Fitting.{is_misfit}
use Rattle.tesla_fitting.specs.Rows.{row_count}
use Rattle.tesla_walks.specs.Offered.{newer_keys}
use Rattle.tesla_walks.proofs.Beginning.{row_each}
use Rattle.tesla_walks.proofs.Offering.{tip_found}
use Rattle.tesla_walks.proofs.NewerKeys.{data_more, disclosed_more}
use Rattle.tesla_walks.proofs.offers.newer_key.Goals as goal

pub returns-in-Data-clause-more : goal.returns-in-Data-clause-more
returns-in-Data-clause-more c =
    let fits : is_misfit c.args.config.now (Data c.in-Data.data) ≡ false = subst (λ (f : FrameView). is_misfit c.args.config.now (shown f) ≡ false) c.in-Data.is c.requires.fits in
    let within : c.args.place < length c.in-Data.data.rows = subst (λ (f : FrameView). c.args.place < row_count (shown f)) c.in-Data.is c.requires.within in
    let inside : c.args.place < length c.args.tips.now = omega (arith, within, row_each c.args.config.now c.in-Data.data fits, c.requires.tips) in
    let tip = tip_found c.args.tips.now c.from.result c.args.place c.index-tips-from.result c.index-tips-from.is c.from.ensures inside in
    subst (λ (f : FrameView). newer_keys c.args.config.now c.args.tips.now (shown f) (c.args.place + 1) ≡ newer_keys c.args.config.now c.args.tips.now (shown f) c.args.place ++ option_to_list c.key_above.result) (sym c.in-Data.is)
    (data_more c.args.config.now c.args.tips.now c.in-Data.data c.args.place c.newest-newest.result.0 c.key_above.result (c.newest-newest.ensures.index ∙ ap (λ (t : Tip). t.index) tip) c.key_above.ensures.value)

pub returns-in-Disclosure-clause-more : goal.returns-in-Disclosure-clause-more
returns-in-Disclosure-clause-more c =
    subst (λ (f : FrameView). newer_keys c.args.config.now c.args.tips.now (shown f) (c.args.place + 1) ≡ newer_keys c.args.config.now c.args.tips.now (shown f) c.args.place ++ option_to_list c.disclosed_key.result) (sym c.in-Disclosure.is)
    (disclosed_more c.args.config.now c.args.tips.now c.in-Disclosure.keys c.args.place c.disclosed_key.result c.disclosed_key.ensures.value)
