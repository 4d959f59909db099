-- What a site takes: it makes changes behind its base, and then shows a drawing (this project's
-- choice).
use Rattle.std.specs.Prelude.{◌≡◌, ◌⊎◌, ℕ, List, ◌∷◌, ◌++◌}
use Rattle.gf_shape.specs.declared.outline.Outline.{Outline}
use Rattle.gf_ops.specs.declared.op.Op.{Op}
use Rattle.gf_ops.specs.declared.change.Change.{Change}
use Rattle.gf_ops.specs.Accepted.{AreAccepted}
use Rattle.gf_ops.specs.ValidHistory.{IsValid}
use Rattle.gf_site.specs.Events.{Refuses}
use Rattle.gf_site.specs.SiteState.{SiteState}
use Rattle.gf_site.specs.declared.faults.AuthorFault.{AuthorFault}
use Rattle.gf_site.specs.declared.faults.AuthorFault.TheVariants as fault
use Rattle.gf_figures.specs.DrawingState.{DrawingState}
use Rattle.gf_drawing.specs.CanonicalDrawing.{PaintsAsFig}
use Rattle.gf_site.specs.MadeEach.{MakesEach}
use Rattle.gf_take.specs.ShownDrawing.{ShowsDrawing}

-- site s makes these changes behind its base b, by the operations new. Then it shows the drawing d,
-- and has at every point the colour of d
pub record Takes (s : ℕ) (b : List Op) (changes : List Change) (new : List Op)
    (d : DrawingState Outline) : Type 0 where
  pub makes : MakesEach s b changes new
  pub accepted : AreAccepted (b ++ new)
  pub valid : IsValid (b ++ new)
  pub shows : ShowsDrawing (b ++ new) d
  pub paints : PaintsAsFig (b ++ new) d

-- the site x, which had the history h, made these changes by the operations new
pub record HasMade (s : ℕ) (h : List Op) (changes : List Change) (x : SiteState) (new : List Op)
    : Type 0 where
  pub makes : MakesEach s h changes new
  pub ops : x.ops ≡ h ++ new
  pub number : x.number ≡ s

-- the change c of these is the first that site s refuses behind its base, for this fault
pub record HasRefusal (s : ℕ) (b : List Op) (changes : List Change) (why : AuthorFault)
    : Type 0 where
  pub before : List Change
  pub change : Change
  pub after : List Change
  pub whole : changes ≡ before ++ change ∷ after
  pub new : List Op
  pub makes : MakesEach s b before new
  pub refused : Refuses s (b ++ new) change why

-- why site s does not make these changes behind its base; want of memory may come with any
abbrev pub RefusesMaking : ℕ → List Op → List Change → AuthorFault → Type 0
RefusesMaking s b changes why = (why ≡ fault.OutOfMemory) ⊎ HasRefusal s b changes why
