use Rattle.std.proofs.Common.{◌≡◌, ◌++◌, length}
use Rattle.gf_fig_tokens.specs.Layout.{lines}
use Rattle.gf_fig_named.specs.FigureNames.{figures_named, named_figures}
use Rattle.gf_fig_named.proofs.figures.figure_names.Given as goal

abbrev pub invariant-loop-line : goal.invariant-loop-line
invariant-loop-line l = l.names.items ++ named_figures l.place (lines l.above) (lines l.rest)
    ≡ figures_named (lines l.fig)

abbrev pub decreases-loop-line : goal.decreases-loop-line
decreases-loop-line l = length l.rest
