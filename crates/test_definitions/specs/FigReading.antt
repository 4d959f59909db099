-- Worked examples of the FIG grammar, checked by computing: drawings that texts read as, and faults
-- with which some fail.
use Rattle.std.specs.Prelude.{refl, ℕ, pos, false, List, [], ◌∷◌, ◌++◌, codes}
use Rattle.gf_plane.specs.declared.point.Point.{Point}
use Rattle.gf_shape.specs.declared.outline.Outline.TheVariants.{Chain, Disc, Oval}
use Rattle.gf_plane.specs.Reach.{is_reached}
use Rattle.gf_figures.specs.Colours.{rgb}
use Rattle.gf_fig_tokens.specs.declared.faults.FigFault.TheVariants as fault
use Rattle.gf_fig_tokens.specs.Layout.{object_tokens}
use Rattle.gf_fig_tokens.specs.Forms.{whole, decimal, colour}
use Rattle.gf_fig_tokens.specs.Fields.{natural, point, points}
use Rattle.gf_fig_read.specs.Styles.{known_colour, filling, style}
use Rattle.gf_fig_read.specs.Outlines.{count, chain, ellipse}
use Rattle.gf_fig_read.specs.Objects.{Drawn, object, colour_object, figure_object}
use Rattle.gf_fig_read.specs.FigGrammar.{Reads, Fails, nothing}
use Rattle.gf_fig_read.specs.Computed.{outcome_of, objects_of}
use Rattle.gf_fig_read.proofs.GrammarLemmas.{reads_by, fails_by}

-- the point of these coordinates
abbrev pub at : ℕ → ℕ → Point
at x y = record { x = pos x; y = pos y }

-- first line, header and resolution
abbrev pub head : List ℕ
head = codes "#FIG 3.2\nLandscape\nCenter\nMetric\nA4\n100.00\nSingle\n-2\n1200 2\n"

-- the head alone is the drawing of no colours and no figures
pub no_objects : Reads head nothing
unfolding outcome_of objects_of object_tokens
no_objects = reads_by head nothing refl

-- a text that ends before its first line, its header or its resolution
pub cut_heads : Fails [] fault.Version 0 × Fails (codes "#FIG 3.2\n") fault.Header 0
    × Fails (codes "#FIG 3.2\nLandscape\nCenter\nMetric\nA4\n100.00\nSingle\n-2\n")
    fault.Resolution 0
unfolding outcome_of objects_of object_tokens
cut_heads = (
  fails_by [] fault.Version 0 refl,
  fails_by (codes "#FIG 3.2\n") fault.Header 0 refl,
  fails_by (codes "#FIG 3.2\nLandscape\nCenter\nMetric\nA4\n100.00\nSingle\n-2\n")
      fault.Resolution 0 refl,
)

-- ---- a triangle of another program

-- the first line, header, resolution and comment of the text
abbrev pub front : List ℕ
front = codes "#FIG 3.2  Produced by xfig version 3.2.5\nLandscape\nCenter\nInches\n"
    ++ codes "Letter  \n100.00\nSingle\n-2\n1200 2\n# a triangle\n"

abbrev pub triangle_text : List ℕ
triangle_text =
    front ++ codes "2 3 0 0 4 4 50 -1 20 0.000 0 0 -1 0 0 4\n\t 0 0 1200 0\n\t 600 900 0 0\n"

abbrev pub triangle : Drawn
triangle = record {
  table = [];
  figures = record {
    shape = Chain
        (record { boxed = false; points = at 0 0 ∷ at 1200 0 ∷ at 600 900 ∷ at 0 0 ∷ [] });
    colour = 4;
    depth = 50;
  } ∷ [];
}

pub a_triangle : Reads triangle_text triangle
unfolding outcome_of objects_of object_tokens object natural figure_object known_colour filling
    style count chain point points whole decimal is_reached
a_triangle = reads_by triangle_text triangle refl

-- an open chain is no polygon
abbrev pub open_text : List ℕ
open_text =
    front ++ codes "2 1 0 0 4 4 50 -1 20 0.000 0 0 -1 0 0 4\n\t 0 0 1200 0\n\t 600 900 0 0\n"

-- no colour has the number 40
abbrev pub unknown_text : List ℕ
unknown_text =
    front ++ codes "2 3 0 0 4 40 50 -1 20 0.000 0 0 -1 0 0 4\n\t 0 0 1200 0\n\t 600 900 0 0\n"

abbrev pub cut_text : List ℕ
cut_text = front ++ codes "2 3 0 0 4 4 50 -1 20 0.000 0 0 -1 0 0 4\n\t 0 0 1200 0\n\t 600"

pub no_triangles : Fails open_text fault.SubType 1 × Fails unknown_text fault.NoColour 1
    × Fails cut_text fault.Cut 1
unfolding outcome_of objects_of object_tokens object natural figure_object known_colour filling
    style count chain point points whole decimal is_reached
no_triangles = (
  fails_by open_text fault.SubType 1 refl,
  fails_by unknown_text fault.NoColour 1 refl,
  fails_by cut_text fault.Cut 1 refl,
)

-- ---- colours and circles

abbrev pub circle_text : List ℕ
circle_text = head ++ codes "0 32 #00ff00\n1 3 0 0 32 32 0 -1 20 0.000 1 0.0000 0 0 1 1 0 0 1 0\n"

abbrev pub circle : Drawn
circle = record {
  table = (32, rgb 0 255 0) ∷ [];
  figures = record { shape = Disc (record { centre = at 0 0; radius = 1 }); colour = 32; depth = 0 }
      ∷ [];
}

pub a_circle : Reads circle_text circle
unfolding outcome_of objects_of object_tokens object natural colour_object figure_object
    known_colour filling style ellipse point whole decimal colour is_reached
a_circle = reads_by circle_text circle refl

abbrev pub unequal_text : List ℕ
unequal_text = head ++ codes "0 32 #00ff00\n1 3 0 0 32 32 0 -1 20 0.000 1 0.0000 0 0 1 2 0 0 1 0\n"

abbrev pub late_text : List ℕ
late_text = circle_text ++ codes "0 33 #00ff00\n"

pub unequal_radii_and_a_late_colour : Fails unequal_text fault.Radius 2
    × Fails late_text fault.LateColour 3
unfolding outcome_of objects_of object_tokens object natural colour_object figure_object
    known_colour filling style ellipse point whole decimal colour is_reached
unequal_radii_and_a_late_colour =
    (fails_by unequal_text fault.Radius 2 refl, fails_by late_text fault.LateColour 3 refl)

abbrev pub twice_text : List ℕ
twice_text = head ++ codes "0 32 #ff0000\n0 32 #ff0000\n"

pub a_colour_twice : Fails twice_text fault.ColourTwice 2
unfolding outcome_of objects_of object_tokens object natural colour_object whole colour
a_colour_twice = fails_by twice_text fault.ColourTwice 2 refl

-- ---- ellipses

-- an ellipse three wide and two high, of this sub type and angle
abbrev pub oval_text : List ℕ → List ℕ → List ℕ
oval_text sub_type turn = head ++ codes "1 " ++ sub_type ++ codes " 0 0 4 4 50 -1 20 0.000 1 "
    ++ turn ++ codes " 0 0 3 2 0 0 3 2\n"

abbrev pub flat : Drawn
flat = record {
  table = [];
  figures = record {
    shape = Oval (record { centre = at 0 0; rx = 3; ry = 2 });
    colour = 4;
    depth = 50;
  } ∷ [];
}

-- by radii and by diameters
pub ovals : Reads (oval_text (codes "1") (codes "-0.000")) flat
    × Reads (oval_text (codes "2") (codes "0")) flat
unfolding outcome_of objects_of object_tokens object natural figure_object known_colour filling
    style ellipse point whole decimal is_reached
ovals = (
  reads_by (oval_text (codes "1") (codes "-0.000")) flat refl,
  reads_by (oval_text (codes "2") (codes "0")) flat refl,
)

abbrev pub flattened_text : List ℕ
flattened_text = head ++ codes "1 1 0 0 4 4 50 -1 20 0.000 1 0 0 0 3 0 0 0 3 0\n"

-- a turned one, one of no sub type, and one of no height
pub no_ovals : Fails (oval_text (codes "1") (codes "0.5000")) fault.Angle 1
    × Fails (oval_text (codes "5") (codes "0")) fault.SubType 1
    × Fails flattened_text fault.Radius 1
unfolding outcome_of objects_of object_tokens object natural figure_object known_colour filling
    style ellipse point whole decimal is_reached
no_ovals = (
  fails_by (oval_text (codes "1") (codes "0.5000")) fault.Angle 1 refl,
  fails_by (oval_text (codes "5") (codes "0")) fault.SubType 1 refl,
  fails_by flattened_text fault.Radius 1 refl,
)
