-- Worked examples of the FIG text, checked by computing.
use Rattle.std.specs.Prelude.{◌≡◌, refl, ℤ, pos, negsuc, false, List, [], ◌∷◌}
use Rattle.std.specs.Prelude.{◌++◌, length, codes}
use Rattle.std.specs.Fmt.{digits}
use Rattle.gf_plane.specs.declared.point.Point.{Point}
use Rattle.gf_shape.specs.declared.outline.Outline.{Outline}
use Rattle.gf_shape.specs.declared.outline.Outline.TheVariants.{Chain, Disc, Oval}
use Rattle.gf_shape.specs.Area.{Area}
use Rattle.gf_shape.specs.Outlines.{rect_outline}
use Rattle.gf_figures.specs.Colours.{rgb}
use Rattle.gf_figures.specs.DrawingState.{DrawingState}
use Rattle.gf_fig_write.specs.FigText.{fig_header, fig_text, outline_lines}

-- the point of these coordinates
abbrev pub at : ℤ → ℤ → Point
at x y = record { x = x; y = y }

-- the drawing of no figures
abbrev pub empty : DrawingState Area
empty = record { table = []; figures = [] }

-- the header alone has 60 bytes
pub empty_length : length (fig_text rect_outline empty) ≡ 60
empty_length = refl

-- a red box from (100, 200), 300 by 400
abbrev pub red_box : DrawingState Area
red_box = record {
  table = (32, rgb 255 0 0) ∷ [];
  figures = record {
    shape = record { low = at (pos 100) (pos 200); width = 300; height = 400 };
    colour = 32;
    depth = 0;
  } ∷ [];
}

-- the colour and the five points of the red box, after the header
pub red_box_text : fig_text rect_outline red_box
    ≡ fig_header
    ++ codes "0 32 #ff0000\n2 2 0 0 32 32 0 -1 20 0.000 0 0 -1 0 0 5\n"
    ++ codes "\t 100 200 400 200 400 600 100 600 100 200\n"
unfolding digits
red_box_text = refl

-- 156 bytes in all
pub red_box_length : length (fig_text rect_outline red_box) ≡ 156
unfolding digits
red_box_length = refl

-- a disc of radius 1 round the origin
pub unit_disc : outline_lines 32 0 (Disc (record { centre = at (pos 0) (pos 0); radius = 1 }))
    ≡ codes "1 3 0 0 32 32 0 -1 20 0.000 1 0.0000 0 0 1 1 0 0 1 0\n"
unfolding digits
unit_disc = refl

-- an oval three wide and two high round the origin
pub flat_oval : outline_lines 32 0 (Oval (record { centre = at (pos 0) (pos 0); rx = 3; ry = 2 }))
    ≡ codes "1 1 0 0 32 32 0 -1 20 0.000 1 0.0000 0 0 3 2 0 0 3 2\n"
unfolding digits
flat_oval = refl

-- a drawing of that disc alone, where each shape is its own outline
abbrev pub disc_drawing : DrawingState Outline
disc_drawing =
    record {
      table = [];
      figures = record {
        shape = Disc (record { centre = at (pos 0) (pos 0); radius = 1 });
        colour = 4;
        depth = 999;
      }
          ∷ [];
    }

-- one line, after the header
pub disc_text : fig_text (λ (o : Outline). o) disc_drawing
    ≡ fig_header ++ codes "1 3 0 0 4 4 999 -1 20 0.000 1 0.0000 0 0 1 1 0 0 1 0\n"
unfolding digits
disc_text = refl

-- a triangle left of and above the origin
abbrev pub triangle : List Point
triangle = at (negsuc 999999) (negsuc 999999) ∷ at (negsuc 1999999) (negsuc 999999)
    ∷ at (negsuc 999999) (negsuc 1999999) ∷ at (negsuc 999999) (negsuc 999999) ∷ []

-- a polygon of FIG, the first of its three points written again
pub triangle_lines : outline_lines 32 0 (Chain (record { boxed = false; points = triangle })) ≡
    codes "2 3 0 0 32 32 0 -1 20 0.000 0 0 -1 0 0 4\n\t -1000000 -1000000 -2000000 "
    ++ codes "-1000000 -1000000 -2000000 -1000000 -1000000\n"
unfolding digits
triangle_lines = refl
