use Rattle.std.proofs.Common.{◌≡◌, ◌++◌, length, map, take}
use Rattle.std.specs.Prelude.{flat_map, zip}
use Rattle.gf_shape.specs.Outlines.{any_outline}
use Rattle.gf_fig_named.specs.NamedText.{named_lines}
use Rattle.gf_fig_named.specs.Raised.{figure_raised, named_depth}
use Rattle.gf_fig_named.proofs.text.push_figures.Given as goal

abbrev pub invariant-loop-index : goal.invariant-loop-index
invariant-loop-index l = l.out.items
    ≡ l.initial.out.items ++ flat_map (named_lines any_outline) (take l.index (zip l.names
    (map (figure_raised (named_depth (length l.figures))) l.figures)))
