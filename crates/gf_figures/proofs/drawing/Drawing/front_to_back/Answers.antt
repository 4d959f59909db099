use Rattle.std.proofs.Common.{◌≡◌, ◌==◌, ◌<◌, ◌∙◌, ap, map, reverse, ℕ, All}
use Rattle.std.proofs.lemmas.List.Elements.{All-weaker}
use Rattle.std.proofs.lemmas.List.Sorted.{All-permutation, IsPermutation-reverse}
use Rattle.std.proofs.lemmas.Map.Views.{All-map-IsPermutation}
use Rattle.gf_figures.specs.DrawingColour.{figures_at}
use Rattle.gf_figures.specs.DrawingState.{IsLawfulFigure}
use Rattle.gf_figures.proofs.FrontLemmas.{filter-reverse, rises_map, sorted_figure_colours}
use Rattle.gf_figures.proofs.DrawingLaw.{lawful_depth}
use Rattle.gf_figures.proofs.SortedLemmas.{sorted_front}
use Rattle.gf_figures.proofs.drawing.Drawing.front_to_back.Goals as goal

pub returns-clause-order : goal.returns-clause-order
returns-clause-order g c =
    let figures = c.self.inside.figures.items in
    let turned : map (λ f. f.now) c.in_ok-figures.figures.items ≡ reverse
    figures = rw c.deref.ensures.value at c.in_ok-figures.ensures in
    let fs = map (λ f. f.now) c.sort_by_depth.new.figures.items in
    let ties : (d : ℕ) → figures_at fs d ≡ reverse (figures_at figures d) = λ d.
    c.in_ok-sort_by_depth.ensures.stable d
    ∙ (ap (λ xs. figures_at xs d) turned ∙ filter-reverse (λ f. f.depth == d) figures) in
    let lawful : All (λ f. f.depth < 1000) figures = All-weaker (IsLawfulFigure c.self.inside.table)
    (λ f. f.depth < 1000) (lawful_depth c.self.inside.table) figures c.self.invariant.figures in
    let within : All (λ f. f.depth < 1000) fs =
    All-map-IsPermutation (λ f. f.now) (λ f. f.depth < 1000) c.in_ok-figures.figures.items
    c.sort_by_depth.new.figures.items c.sort_by_depth.ensures.same
    (rw turned (All-permutation (λ f. f.depth < 1000) figures (reverse figures)
    (IsPermutation-reverse figures) lawful)) in
    let rises = rises_map (λ f. f.now) (λ f. f.depth) c.sort_by_depth.new.figures.items
    c.in_ok-sort_by_depth.ensures.sorted in
    rw (← c.self.view_is) (sorted_front figures fs rises ties within)

pub returns-clause-colours : goal.returns-clause-colours
returns-clause-colours g c =
    let figures = c.self.inside.figures.items in
    let turned : map (λ f. f.now) c.in_ok-figures.figures.items ≡ reverse
    figures = rw c.deref.ensures.value at c.in_ok-figures.ensures in
    let fs = map (λ f. f.now) c.sort_by_depth.new.figures.items in
    let ties : (d : ℕ) → figures_at fs d ≡ reverse (figures_at figures d) = λ d.
    c.in_ok-sort_by_depth.ensures.stable d
    ∙ (ap (λ xs. figures_at xs d) turned ∙ filter-reverse (λ f. f.depth == d) figures) in
    let lawful : All (λ f. f.depth < 1000) figures = All-weaker (IsLawfulFigure c.self.inside.table)
    (λ f. f.depth < 1000) (lawful_depth c.self.inside.table) figures c.self.invariant.figures in
    let within : All (λ f. f.depth < 1000) fs =
    All-map-IsPermutation (λ f. f.now) (λ f. f.depth < 1000) c.in_ok-figures.figures.items
    c.sort_by_depth.new.figures.items c.sort_by_depth.ensures.same
    (rw turned (All-permutation (λ f. f.depth < 1000) figures (reverse figures)
    (IsPermutation-reverse figures) lawful)) in
    let rises = rises_map (λ f. f.now) (λ f. f.depth) c.sort_by_depth.new.figures.items
    c.in_ok-sort_by_depth.ensures.sorted in
    rw (← c.self.view_is) (λ p. sorted_figure_colours g.S.Shape.holds c.self.inside.table figures fs
    p rises ties within)
