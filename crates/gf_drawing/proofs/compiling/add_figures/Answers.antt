use Rattle.std.proofs.Common.{◌+◌, ◌++◌, ◌∷◌, arith, length, length-append, append_assoc, sym, ap}
use Rattle.std.proofs.Common.{◌∙◌}
use Rattle.std.specs.Vec.Iter.{into_iter_items}
use Rattle.gf_figures.specs.DrawingState.{DrawingState}
use Rattle.gf_drawing.specs.CanonicalDrawing.{colours_of}
use Rattle.gf_drawing.proofs.NumberLemmas.{lawful_numbered}
use Rattle.gf_drawing.proofs.CompilingLemmas.{figures-push, item_colour}
use Rattle.gf_drawing.proofs.compiling.add_figures.Goals as goal

pub number-requires : goal.number-requires
number-requires g c =
    let items = ap (λ xs. c.loop-item.yielded ++ xs) (sym c.in-Some.ensures.steps.0)
    ∙ c.loop-item.invariant.items in
    record {
      few = rw c.requires.colours c.requires.fits.colours;
      there = rw (c.requires.colours, ← items) (item_colour c.loop-item.yielded c.in-Some.item
          (into_iter_items c.next.new.self));
    }

pub overflow_cast-figures : goal.overflow_cast-figures
overflow_cast-figures g c =
    let items = ap length (ap (λ xs. c.loop-item.yielded ++ xs) (sym c.in-Some.ensures.steps.0)
    ∙ c.loop-item.invariant.items) in
    let parts = length-append c.loop-item.yielded (c.in-Some.item ∷ into_iter_items c.next.new.self)
    in
    let long = ap length c.figures.ensures.figures ∙ c.loop-item.invariant.counted in
    let few = c.requires.fits.versions in
    omega arith

pub add_figure-requires : goal.add_figure-requires
add_figure-requires g c =
    let items = ap (λ xs. c.loop-item.yielded ++ xs) (sym c.in-Some.ensures.steps.0)
    ∙ c.loop-item.invariant.items in
    let whole = ap length items in
    let parts = length-append c.loop-item.yielded (c.in-Some.item ∷ into_iter_items c.next.new.self)
    in
    let long = ap length c.figures.ensures.figures ∙ c.loop-item.invariant.counted in
    let few = c.requires.fits.versions in
    lawful_numbered c.loop-item.drawing.table (colours_of c.args.items.items) c.in-Some.item.colour
    c.in-Some.item.shape _ _
    c.loop-item.invariant.table (rw c.requires.colours at c.number.ensures)
    (rw (← items) (item_colour c.loop-item.yielded c.in-Some.item
    (into_iter_items c.next.new.self))) (omega arith)

pub loop-item-preserved : goal.loop-item-preserved
loop-item-preserved g c =
    let steps = c.in-Some.ensures.steps.0 in
    let loop = c.loop-item.invariant in
    let long = ap length c.figures.ensures.figures ∙ loop.counted in
    let added = c.in_ok-add_figure.ensures.ok in
    let figures = ap (λ (d : DrawingState g.row.S.Denot). d.figures) added in
    let number = rw c.requires.colours at c.number.ensures in
    record {
      items = rw (append_assoc, ← steps) loop.items;
      left = let was = loop.left in let gone = c.in-Some.ensures.steps.1 in
          let short = ap length steps in omega arith;
      table = ap (λ (d : DrawingState g.row.S.Denot). d.table) added ∙ loop.table;
      figures = rw (number, long, loop.figures) at figures
          ∙ sym (figures-push (colours_of c.args.items.items) c.loop-item.yielded c.in-Some.item);
      counted = ap length figures ∙ (length-append c.loop-item.drawing.figures _
          ∙ (ap (λ n. n + 1) loop.counted ∙ sym (length-append c.loop-item.yielded _)));
    }
