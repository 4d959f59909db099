-- When a FIG text shows a history (Xfig, FIG Format 3.2; what a history means is this project's
-- choice).
use Rattle.std.specs.Prelude.{ℕ, List}
use Rattle.gf_ops.specs.declared.op.Op.{Op}
use Rattle.gf_drawing.specs.CanonicalDrawing.{PaintsAsFig}
use Rattle.gf_fig_read.specs.FigGrammar.{Reads}
use Rattle.gf_fig_read.specs.Objects.{Drawn}

-- the text reads as a drawing. Each drawing that it reads as has at every grid point the colour
-- that h means there
pub record Shows (text : List ℕ) (h : List Op) : Type 0 where
  pub drawing : Drawn
  pub reads : Reads text drawing
  pub colours : (d : Drawn) → Reads text d → PaintsAsFig h d
