use Rattle.std.proofs.Common.{◌∙◌, ◌≡◌, map}
use Rattle.gf_scanline.specs.Seen.{seen, seen_figure}
use Rattle.gf_scanline.proofs.SeenLemmas.{alike, in_two_steps}
use Rattle.gf_scanline.proofs.layers.Layers.new.Goals as goal

pub returns : goal.returns
returns g c = λ p.
    let table = c.args.drawing.now.table in
    let figures = c.in_ok-figures.figures.items in
    let same : map seen c.in_ok-layers.layers.items ≡ map (seen_figure table)
    (map (λ f. f.now) figures) =
    (rw c.deref.ensures.value at c.in_ok-layers.ensures.seen)
    ∙ in_two_steps (λ f. f.now) (seen_figure table) figures in
    alike g.S.Shape.holds table c.in_ok-layers.layers.items (map (λ f. f.now) figures) p same
    ∙ c.in_ok-figures.ensures.colours p
