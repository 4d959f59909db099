-- The drawing of a history: what compiling its ranked versions makes, and that histories of the
-- same operations have one.
use Rattle.std.specs.Prelude.{◌<◌, ◌≤◌, IfErr, IfNone, IfOk, IfSome, None, OnOk, Option, Result, Ok}
use Rattle.std.specs.Prelude.{Err, Some}
use Rattle.std.proofs.Common.{◌≡◌, ◌∙◌, ℕ, List, length, ap, refl, sym}
use Rattle.gf_shape.specs.declared.any_shape.AnyShape.{AnyShape}
use Rattle.gf_ops.specs.declared.op.Op.{Op}
use Rattle.gf_versions.specs.declared.placed.Placed.{Placed}
use Rattle.gf_versions.specs.Ranking.{AreRanked}
use Rattle.gf_versions.proofs.SameHistoryLemmas.{ranked_alike, ranks_both}
use Rattle.gf_causal.specs.DeliveredPart.{HaveSame}
use Rattle.gf_figures.specs.DrawingState.{DrawingState}
use Rattle.gf_drawing.specs.declared.compiling.CompileFault.{CompileFault}
use Rattle.gf_drawing.specs.declared.compiling.CompileFault.TheVariants as compile
use Rattle.gf_drawing.specs.CanonicalDrawing.{Fits, IsCanonical, canonical_drawing, colours_of}
use Rattle.gf_drawing.proofs.CanonicalColour.{canonical_colour, canonical_colour-outlined}
use Rattle.gf_replay.specs.Denoting.{Denotes}
use Rattle.gf_base.specs.declared.memory.OutOfMemory.{OutOfMemory}
use Rattle.gf_visible.specs.ShownVersions.{HasMoreVisible}
use Rattle.gf_run.specs.Refusals.{of_compile}
use Rattle.gf_studio.specs.Refusals.{of_ranked}
use Rattle.gf_studio.specs.FigRun.{IsDrawn, RefusesHistory}
use Rattle.gf_run.specs.RefusedRuns.{IsBetween}
use Rattle.gf_studio.specs.RefusedRuns.{RefusesLines}

pub drawn : (h : List Op) (d : DrawingState AnyShape) → IsCanonical h d → IsDrawn h d
drawn h d canonical = record {
  canonical = canonical;
  colours = canonical_colour h d canonical;
  figures = canonical_colour-outlined h d canonical;
}

-- histories of the same operations have one drawing
module _ (h k : List Op) (same : HaveSame h k) where
  pub one_drawing : (drawing other : DrawingState AnyShape) → IsCanonical h drawing
      → IsCanonical k other → drawing ≡ other
  one_drawing drawing other x y =
      let items = ranked_alike h k same x.items y.items x.ranked y.ranked in
      x.drawing ∙ (ap canonical_drawing items ∙ sym y.drawing)

  pub both_canonical : (drawing : DrawingState AnyShape) → IsCanonical h drawing
      → IsCanonical k drawing
  both_canonical drawing x = record {
    items = x.items;
    ranked = ranks_both h k same x.items x.ranked;
    fits = x.fits;
    drawing = x.drawing;
  }

  pub both_drawn : (drawing : DrawingState AnyShape) → IsDrawn h drawing → IsDrawn k drawing
  both_drawn drawing x = drawn k drawing (both_canonical drawing x.canonical)

-- the items are the ranked versions of h, and r is the answer of compiling them
module _ (h : List Op) (items : List (Placed AnyShape)) (ranked : AreRanked h items) where
  pub compiled : (r : Result (DrawingState AnyShape) CompileFault)
      → IfOk r (λ d. d ≡ canonical_drawing items) → OnOk r (Fits items) → IfOk r (IsDrawn h)
  compiled (Ok d) is fits = drawn h d
      (record { items = items; ranked = ranked; fits = fits; drawing = is })
  compiled (Err fault) is fits = tt

  pub not_compiled : {D : Type 0} (r : Result D CompileFault)
      → (r ≡ Err compile.TooManyVersions → 1000 < length items)
      → (r ≡ Err compile.TooManyColours → (length items ≤ 1000) × (512 < length (colours_of items)))
      → IfErr r (RefusesHistory h)
  not_compiled (Ok d) versions colours = tt
  not_compiled (Err compile.TooManyVersions) versions colours = record {
    items = items;
    ranked = ranked;
    many = versions refl;
  }
  not_compiled (Err compile.TooManyColours) versions colours = let c = colours refl in record {
    items = items;
    ranked = ranked;
    few = c.0;
    many = c.1;
  }
  not_compiled (Err compile.OutOfMemory) versions colours = tt

-- what refuses the history that the bytes denote, refuses them
pub history_refused : (bytes : List ℕ) (h : List Op) → Denotes bytes h → (fault : CompileFault)
    → RefusesHistory h fault → RefusesLines bytes (of_compile fault) × IsBetween (of_compile fault)
history_refused bytes h denoted compile.TooManyVersions r = (
  record { history = h; denoted = denoted; such = r },
  tt,
)
history_refused bytes h denoted compile.TooManyColours r = (
  record { history = h; denoted = denoted; such = r },
  tt,
)
history_refused bytes h denoted compile.OutOfMemory r = (tt, tt)

-- a list that was made keeps what it has
pub list_made : {T : Type 0} (P : T → Type 0) (found : Result (Option T) OutOfMemory)
    → IfOk found (λ f. IfSome f P) → IfOk (of_ranked found) P
list_made P (Ok (Some ranked)) p = p
list_made P (Ok None) p = tt
list_made P (Err e) p = tt

-- a list that was not made is too long, or memory was wanting
pub list_refused : {T : Type 0} (h : List Op) (found : Result (Option T) OutOfMemory)
    → IfOk found (λ f. IfNone f (HasMoreVisible h 1000))
    → IfErr (of_ranked found) (RefusesHistory h)
list_refused h (Ok (Some ranked)) more = tt
list_refused h (Ok None) more = more
list_refused h (Err e) more = tt
