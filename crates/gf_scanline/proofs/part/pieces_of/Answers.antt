use Rattle.std.proofs.Common.{◌+◌, ◌<◌, ◌++◌, ◌∷◌, drop, length, rules, ap, subst, sym, ◌∙◌}
use Rattle.std.proofs.lemmas.List.{at_drop_more}
use Rattle.std.specs.Prelude.{List}
use Rattle.gf_plane.specs.declared.colour.Rgb.{Rgb}
use Rattle.gf_scanline.specs.declared.layer.Layer.{Layer}
use Rattle.gf_scanline.specs.Layers.{IsLayer, row_colours}
use Rattle.gf_scanline.specs.Pieces.{layers_of}
use Rattle.gf_scanline.proofs.part.pieces_of.Goals as goal

pub loop-layer-preserved : goal.loop-layer-preserved
loop-layer-preserved g c =
    let ls = c.args.layers.now in
    let i = c.loop-layer.layer-index in
    let l : i < length ls = search rules in
    record {
      pieces = λ j row. c.in_ok-add_piece.ensures.pieces j row
          (c.loop-layer.invariant.pieces j row);
      seen = λ j k row in_it.
          let colours : List (Layer g.row.S.Denot)
          → Rgb = λ rest. row_colours g.S.Shape.holds (layers_of c.loop-layer.pieces.items ++ rest)
          c.args.band.window j k in
          c.in_ok-add_piece.ensures.seen (drop (i + 1) ls) j k row in_it
          ∙ (ap (λ x. colours (x ∷ drop (i + 1) ls)) c.layer-item.is
          ∙ (sym (at_drop_more colours ls i c.layer-item.result l)
          ∙ c.loop-layer.invariant.seen j k row in_it));
    }

pub add_piece-requires : goal.add_piece-requires
add_piece-requires g c =
    let l : c.loop-layer.layer-index < length c.args.layers.now = search rules in
    subst (IsLayer g.S.Shape.holds) (sym c.layer-item.is)
    (c.requires c.loop-layer.layer-index c.layer-item.result l)
