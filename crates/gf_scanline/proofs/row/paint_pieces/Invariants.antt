use Rattle.std.proofs.Common.{ℕ, drop}
use Rattle.gf_plane.specs.declared.colour.Rgb.{Rgb}
use Rattle.gf_scanline.specs.Strips.{IsPainted}
use Rattle.gf_scanline.specs.Layers.{row_colours}
use Rattle.gf_scanline.specs.Pieces.{layers_of}
use Rattle.gf_scanline.proofs.row.paint_pieces.Given as goal

abbrev pub invariant-loop-piece : goal.invariant-loop-piece
invariant-loop-piece g l = (target : ℕ → Rgb)
    → IsPainted target (row_colours g.S.Shape.holds (layers_of l.pieces) l.window l.j)
    l.window.width l.initial.strip
    → IsPainted target (row_colours g.S.Shape.holds (layers_of (drop l.piece-index l.pieces))
    l.window l.j) l.window.width l.strip
