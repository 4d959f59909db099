use Rattle.std.proofs.Common.{◌≡◌, ◌++◌, length}
use Rattle.std.specs.Prelude.{None}
use Rattle.std.specs.List.{fold}
use Rattle.gf_fig_tokens.specs.Layout.{words}
use Rattle.gf_fig_named.specs.FigureNames.{line_figures, next}
use Rattle.gf_fig_named.proofs.figures.push_unnamed.Given as goal

abbrev pub invariant-loop-token : goal.invariant-loop-token
invariant-loop-token l = record {
  names : l.names.items ++ line_figures l.place None (words l.rest)
      ≡ l.initial.names.items ++ line_figures l.fn.place None (words l.line);
  place : fold next l.place (words l.rest) ≡ fold next l.fn.place (words l.line);
}

abbrev pub decreases-loop-token : goal.decreases-loop-token
decreases-loop-token l = length (words l.rest)
