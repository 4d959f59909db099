use Rattle.std.proofs.Common.{length}
use Rattle.gf_shape.specs.Outlines.{any_outline}
use Rattle.gf_fig_named.specs.NamedText.{named_lines}
use Rattle.gf_fig_named.specs.Raised.{figure_raised, named_depth}
use Rattle.gf_fig_named.proofs.TextLemmas.{pairs_done, pairs_pushed}
use Rattle.gf_fig_named.proofs.text.push_figures.Goals as goal

pub loop-index-preserved : goal.loop-index-preserved
loop-index-preserved c =
    let g = figure_raised (named_depth (length c.args.figures.now)) in
    pairs_pushed (named_lines any_outline) g c.args.names.now c.args.figures.now c.requires.long
    c.loop-index.index c.index-names-index.result c.index-figures-index.result
    c.loop-index-test.true c.index-names-index.is c.index-figures-index.is
    c.args.out.now.items c.loop-index.out.items c.push_named.new.out.items
    c.in_ok-push_named.ensures c.loop-index.invariant

pub returns : goal.returns
returns c =
    let g = figure_raised (named_depth (length c.args.figures.now)) in
    pairs_done (named_lines any_outline) g c.args.names.now c.args.figures.now c.requires.long
    c.loop-index.index c.loop-index-test.false c.args.out.now.items c.loop-index.out.items
    c.loop-index.invariant
