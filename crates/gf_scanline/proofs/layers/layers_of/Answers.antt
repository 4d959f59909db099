use Rattle.std.proofs.Common.{rules, ap, ◌∙◌, ◌<◌, length, ◌∷◌, []}
use Rattle.std.proofs.lemmas.List.Elements.{All-append, All-cons, All-nil}
use Rattle.gf_scanline.specs.Layers.{IsLayer}
use Rattle.gf_scanline.specs.Seen.{seen, seen_figure}
use Rattle.gf_scanline.proofs.SeenLemmas.{shown_more}
use Rattle.gf_scanline.proofs.layers.layers_of.Goals as goal

pub loop-figure-preserved : goal.loop-figure-preserved
loop-figure-preserved g c =
    let P = IsLayer g.S.Shape.holds in
    let i = c.loop-figure.figure-index in
    let l : i < length c.args.figures.now = search rules in
    record {
      seen = shown_more seen (λ f. seen_figure c.args.drawing.now.table f.now)
          c.loop-figure.layers.items _ c.in_ok-layer.layer c.args.figures.now i c.figure-item.result
          l c.in_ok-push.ensures.items c.loop-figure.invariant.seen (c.in_ok-layer.ensures.seen
          ∙ ap (λ x. seen_figure c.args.drawing.now.table x.now) c.figure-item.is);
      layers = rw c.in_ok-push.ensures.items
          (All-append P c.loop-figure.layers.items (c.in_ok-layer.layer ∷ [])
          c.loop-figure.invariant.layers
          (All-cons P c.in_ok-layer.layer [] c.in_ok-layer.ensures.layer (All-nil P)));
    }
