use Rattle.gf_fig_tokens.specs.Layout.{lines}
use Rattle.gf_fig_named.proofs.BeneathLemmas.{figures_read}
use Rattle.gf_fig_named.proofs.figures.figure_names.Goals as goal

pub returns : goal.returns
returns c = figures_read c.args.fig.now c.loop-line.names.items c.loop-line.place
    (lines c.loop-line.above.now) (lines c.loop-line.rest.now) c.in_default.ensures.lines
    c.loop-line.invariant
