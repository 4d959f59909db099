use Rattle.std.proofs.Common.{◌+◌, ◌∙◌, [], arith, length, length-append, take, sym, ap}
use Rattle.gf_figures.specs.Colours.{rgb}
use Rattle.gf_figures.specs.DrawingState.{DrawingState}
use Rattle.gf_drawing.proofs.NumberLemmas.{free_next}
use Rattle.gf_drawing.proofs.CompilingLemmas.{numbered-next}
use Rattle.gf_drawing.proofs.compiling.add_colours.Goals as goal

pub add_colour-requires : goal.add_colour-requires
add_colour-requires g c =
    let loop = c.loop-colour.invariant in
    let long = c.len.ensures ∙ (ap length c.colours.ensures.table ∙ loop.counted) in
    let items = ap length c.as_slice-colour-items.ensures.keys in
    let less = c.loop-colour-test.true in
    let few = c.requires.few in
    rw long (free_next c.loop-colour.drawing.table
    (take c.loop-colour.colour-index c.args.colours.now.keys) c.loop-colour.colour-index
    (ap (λ (d : DrawingState g.row.S.Denot). d.table) loop.drawing) loop.counted (omega arith))

pub loop-colour-preserved : goal.loop-colour-preserved
loop-colour-preserved g c =
    let loop = c.loop-colour.invariant in
    let keys = c.as_slice-colour-items.ensures.keys in
    let long = c.len.ensures ∙ (ap length c.colours.ensures.table ∙ loop.counted) in
    let less = rw keys at c.loop-colour-test.true in
    let added = rw (long, keys) at c.in_ok-add_colour.ensures.ok in
    let table = ap (λ (d : DrawingState g.row.S.Denot). d.table) added in
    record {
      drawing = rw loop.drawing at added
          ∙ (λ k. record {
            table = sym (numbered-next c.args.colours.now.keys c.loop-colour.colour-index
                (rgb 0 0 0) less) k;
            figures = [];
          });
      counted = ap length table ∙ (length-append c.loop-colour.drawing.table _
          ∙ ap (λ n. n + 1) loop.counted);
    }
