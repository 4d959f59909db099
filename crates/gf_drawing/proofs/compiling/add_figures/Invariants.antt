use Rattle.std.proofs.Common.{◌≡◌, ◌++◌, length, map}
use Rattle.std.specs.List.{enumerate_from}
use Rattle.std.specs.Vec.Iter.{into_iter_items, into_iter_len}
use Rattle.gf_drawing.specs.CanonicalDrawing.{canonical_figure, canonical_table, colours_of}
use Rattle.gf_drawing.proofs.compiling.add_figures.Given as goal

abbrev pub invariant-loop-item : goal.invariant-loop-item
invariant-loop-item g l = record {
  items : l.yielded ++ into_iter_items l.item-iterator ≡ l.fn.items.items;
  left : into_iter_len l.item-iterator ≡ length (into_iter_items l.item-iterator);
  table : l.drawing.table ≡ canonical_table l.fn.items.items;
  figures : l.drawing.figures ≡ map (canonical_figure (colours_of l.fn.items.items))
      (enumerate_from 0 l.yielded);
  counted : length l.drawing.figures ≡ length l.yielded;
}
