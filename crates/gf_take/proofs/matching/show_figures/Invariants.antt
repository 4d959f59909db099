use Rattle.std.proofs.Common.{drop, map, take}
use Rattle.gf_figures.specs.DrawingColour.{from_front}
use Rattle.gf_take.specs.Matching.{AreMatched, AreShown}
use Rattle.gf_take.proofs.matching.show_figures.Given as goal

abbrev pub invariant-loop-item : goal.invariant-loop-item
invariant-loop-item l = AreMatched l.drawing.table (from_front l.drawing.figures)
    (take l.item-index l.items) (map (λ f. f.now) l.left.items)
    × (AreShown l.drawing.table (from_front l.drawing.figures) l.items
    → AreShown l.drawing.table (map (λ f. f.now) l.left.items) (drop l.item-index l.items))
