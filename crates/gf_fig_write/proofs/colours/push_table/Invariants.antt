use Rattle.std.proofs.Common.{◌≡◌, ◌++◌, take}
use Rattle.std.specs.Prelude.{flat_map, All}
use Rattle.gf_plane.specs.ColourBytes.{HasBytes}
use Rattle.gf_fig_write.specs.FigText.{colour_line}
use Rattle.gf_fig_write.proofs.colours.push_table.Given as goal

abbrev pub invariant-loop-i : goal.invariant-loop-i
invariant-loop-i l = record {
  text : l.out.items ≡ l.initial.out.items ++ flat_map colour_line (take l.i l.table);
  bytes : All (λ e. HasBytes e.1) (take l.i l.table);
}
