-- What a polyline and an ellipse begin with, field by field (Xfig, FIG Format 3.2: sub_type to
-- style_val); the limits and the faults are this project's profile.
use Rattle.std.specs.Prelude.{ℕ, Bool, ◌&&◌, is_some, ℤ, pos, nat_abs}
use Rattle.gf_figures.specs.Colours.{Table, rgb_of}
use Rattle.gf_fig_tokens.specs.Forms.{whole, decimal}
use Rattle.gf_fig_tokens.specs.Fields.{Reader, ◌>>=◌, field, any, give, is_in, natural}
use Rattle.gf_fig_read.specs.declared.styles.Style.{Style}
use Rattle.gf_fig_tokens.specs.declared.faults.FigFault.TheVariants as fault

-- n is the number of a standard colour, or of one in the table
abbrev pub is_known : Table → ℤ → Bool
is_known table n = is_in (pos 0) (pos 543) n && is_some (rgb_of table (nat_abs n))

-- the field fill_color
unfoldable pub known_colour : Table → Reader ℕ
known_colour table = do
  n ← field whole (is_known table) fault.NoColour
  give (nat_abs n)

-- the fields from line_style to fill_color, which is kept
unfoldable pub filling : Table → Reader ℕ
filling table = do
  line_style ← any whole
  thickness ← natural 0 0 fault.Outline
  pen_color ← any whole
  known_colour table

-- the fields from sub_type, which is one from least to most, to style_val
unfoldable pub style : ℕ → ℕ → Table → Reader Style
style least most table = do
  sub_type ← natural least most fault.SubType
  fill_color ← filling table
  depth ← natural 0 999 fault.Depth
  pen_style ← any whole
  area_fill ← natural 20 20 fault.Fill
  style_val ← any decimal
  give (record { sub_type = sub_type; colour = fill_color; depth = depth })
