use Rattle.std.proofs.Common.{◌-◌, ◌∙◌, sym}
use Rattle.gf_fig_tokens.specs.Layout.{lines}
use Rattle.gf_fig_tokens.proofs.LayoutLemmas.{drop_more}
use Rattle.gf_fig_faults.proofs.LineLemmas.{drop_past}
use Rattle.gf_fig_faults.proofs.fields.from_line.Goals as goal

pub returns-in-None : goal.returns-in-None
returns-in-None c =
    drop_past (lines c.args.text.now) c.loop.counter (c.args.line - 1) (lines c.loop.left.now)
    c.in-None.ensures.lines c.loop.invariant (rw c.saturating_sub-end.ensures at c.loop-test.true)

pub loop-preserved : goal.loop-preserved
loop-preserved c =
    sym (drop_more c.loop.counter (lines c.args.text.now) c.in-Some.field-0-0.now
    (lines c.in-Some.rest.now) (sym c.loop.invariant ∙ c.in-Some.ensures.lines)).0
