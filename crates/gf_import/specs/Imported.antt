-- The history of changes that one site makes in their order, and which drawings are imported (this
-- project's choice).
use Rattle.std.specs.Prelude.{ℕ, ◌≤◌, List, [], ◌∷◌, ◌++◌, fold, length, IsTrue, All}
use Rattle.gf_shape.specs.declared.outline.Outline.{Outline}
use Rattle.gf_shape.specs.ShapeLaws.{IsLawful}
use Rattle.gf_ops.specs.declared.op.Op.{Op}
use Rattle.gf_ops.specs.declared.change.Change.{Change}
use Rattle.gf_ops.specs.Limits.{is_change}
use Rattle.gf_site.specs.SiteState.{SiteState, authored}
use Rattle.gf_site.specs.Events.{Authors}
use Rattle.gf_figures.specs.declared.figure.Figure.{Figure}
use Rattle.gf_figures.specs.DrawingState.{DrawingState, IsLawfulDrawing}
use Rattle.gf_import.specs.Importing.{creations_of}

-- the history h with the change c made by site s behind it
abbrev pub with_change : ℕ → List Op → Change → List Op
with_change s h c = h ++ authored s h c ∷ []

-- the history of these changes, made by site s in their order
abbrev pub history_of : ℕ → List Change → List Op
history_of s cs = fold (with_change s) [] cs

-- site x makes these changes one after the other, and is then z
pub data AuthorsAll : SiteState → List Change → SiteState → Type 0 where
  none : (x : SiteState) → AuthorsAll x [] x
  next : {x y z : SiteState} {cs : List Change} (c : Change) (a : Op) → Authors x c a y
      → AuthorsAll y cs z → AuthorsAll x (c ∷ cs) z

-- d is a lawful drawing of lawful outlines. The creations keep the limits, and are no more than a
-- site makes
pub record IsImportable (d : DrawingState Outline) : Type 0 where
  pub drawing : IsLawfulDrawing d
  pub outlines : All (λ (f : Figure Outline). IsLawful f.shape) d.figures
  pub in_range : All (λ c. IsTrue (is_change c)) (creations_of d)
  pub few : length d.figures ≤ 10000
