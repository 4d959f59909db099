-- The colour of a drawing at a point (Xfig, FIG Format 3.2: depth); file order within a depth and
-- the white ground are this project's choice.
use Rattle.std.specs.Prelude.{ℕ, Bool, List, fold, filter, find, flat_map, reverse, option_map}
use Rattle.std.specs.Prelude.{◌==◌, if◌then◌else◌, unwrap_or}
use Rattle.std.specs.List.{range_with_len}
use Rattle.gf_plane.specs.declared.colour.Rgb.{Rgb}
use Rattle.gf_plane.specs.declared.point.Point.{Point}
use Rattle.gf_plane.specs.White.{white}
use Rattle.gf_figures.specs.declared.figure.Figure.{Figure}
use Rattle.gf_figures.specs.Colours.{Table, rgb_of}

module _ {S : Type 0} where
  -- the figures of this depth, in file order
  abbrev pub figures_at : List (Figure S) → ℕ → List (Figure S)
  figures_at figures depth = filter (λ (f : Figure S). f.depth == depth) figures

  -- the figures from the back: those of depth 999 first, and those of a depth in file order
  unfoldable pub from_back : List (Figure S) → List (Figure S)
  from_back figures = flat_map (figures_at figures) (reverse (range_with_len 0 1000))

  -- the figures from the front: those that are painted last come first
  abbrev pub from_front : List (Figure S) → List (Figure S)
  from_front figures = reverse (from_back figures)

  -- the colour of figure f by its number, white if it has none
  abbrev pub figure_colour : Table → Figure S → Rgb
  figure_colour table f = unwrap_or (rgb_of table f.colour) white

  -- holds says which points a shape holds
  module _ (holds : S → Point → Bool) where
    -- the colour at p where figure f is painted over what lies below: that of f if f holds p
    abbrev pub painted : Table → Point → Rgb → Figure S → Rgb
    painted table p below f = if holds f.shape p then figure_colour table f else below

    -- the colour at p: white, painted over by each figure from the back
    abbrev pub drawing_colour : Table → List (Figure S) → Point → Rgb
    drawing_colour table figures p = fold (painted table p) white (from_back figures)

    -- of figures from the front to the back, the colour of the first that holds p; white if none
    -- does
    abbrev pub front_colour : Table → List (Figure S) → Point → Rgb
    front_colour table figures p =
        unwrap_or (option_map (figure_colour table)
        (find (λ (f : Figure S). holds f.shape p) figures)) white
