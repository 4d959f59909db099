-- What can be imported is refused for want of memory alone.
use Rattle.std.proofs.Common.{◌≡◌, ℕ, ◌-◌, ◌<◌, true, ◌&&◌, List, ◌∷◌, ◌++◌, length}
use Rattle.std.proofs.Common.{length-append, refl, subst, arith}
use Rattle.std.specs.Prelude.{All, IsTrue, None, nat_le}
use Rattle.std.specs.List.{list_all}
use Rattle.std.proofs.Math.Seq.{get_or-append_seam}
use Rattle.std.proofs.lemmas.Bool.{and_parts}
use Rattle.gf_shape.specs.declared.outline.Outline.{Outline}
use Rattle.gf_shape.proofs.PolygonBounds.{All-from_map}
use Rattle.gf_ops.specs.declared.change.Form.{Form}
use Rattle.gf_ops.specs.declared.change.Form.TheVariants.{Rect, Circle, Ellipse, Polygon}
use Rattle.gf_ops.specs.Limits.{is_change, is_form, is_layer, is_near}
use Rattle.gf_figures.specs.declared.figure.Figure.{Figure}
use Rattle.gf_figures.specs.Colours.{Table}
use Rattle.gf_figures.specs.DrawingState.{DrawingState}
use Rattle.gf_fig_read.specs.FigGrammar.{Reads}
use Rattle.gf_fig_read.proofs.GrammarLemmas.{not_both, one_drawing}
use Rattle.gf_run.specs.declared.studio_error.StudioError.TheVariants as studio
use Rattle.gf_objects.specs.declared.figure_fault.FigureFault.{FigureFault}
use Rattle.gf_import.specs.declared.import_error.ImportError.{ImportError}
use Rattle.gf_import.specs.declared.import_error.ImportError.TheVariants as import_error
use Rattle.gf_objects.specs.StartFaults.{figure_fault, form_fault}
use Rattle.gf_import.specs.CreationFaults.{IsFirstFault}
use Rattle.gf_import.specs.Imported.{IsImportable}
use Rattle.gf_objects.specs.Objects.{form_of, place_of}
use Rattle.gf_import.specs.Importing.{creation_of}
use Rattle.gf_import.specs.ImportRun.{RefusesImport}

form_unbroken : (f : Form) → is_form f ≡ true → form_fault f ≡ None
form_unbroken (Rect width height) t = rw t refl
form_unbroken (Circle radius) t = rw t refl
form_unbroken (Ellipse rx ry) t = rw t refl
form_unbroken (Polygon ps) t =
    let parts = and_parts _ (list_all is_near ps) t in
    let count = and_parts (nat_le 3 (length ps)) (nat_le (length ps) 64) parts.0 in
    rw (count.1, parts.1) refl

-- a figure whose creation keeps the limits breaks none
figure_unbroken : (table : Table) (f : Figure Outline) → IsTrue (is_change (creation_of table f))
    → figure_fault table f ≡ None
figure_unbroken table f t =
    let whole = and_parts (is_form (form_of f.shape) && is_near (place_of f.shape)
    && is_layer (999 - f.depth)) _ t in
    let parts = and_parts (is_form (form_of f.shape) && is_near (place_of f.shape)) _ whole.0 in
    let two = and_parts (is_form (form_of f.shape)) (is_near (place_of f.shape)) parts.0 in
    rw two.1 (form_unbroken (form_of f.shape) two.0)

none_at_fault : (d : DrawingState Outline) → IsImportable d → (n : ℕ) (fault : FigureFault)
    → ¬ (IsFirstFault d n fault)
none_at_fault d imports n fault first =
    let Q : Figure Outline → Type 0 = λ f. IsTrue (is_change (creation_of d.table f)) in
    let all : All Q d.figures =
    All-from_map (λ c. IsTrue (is_change c)) (creation_of d.table) d.figures imports.in_range in
    let there : All Q (first.before ++ first.figure ∷ first.after) =
    subst (All Q) first.whole all in
    let long = length-append first.before (first.figure ∷ first.after) in
    let at = there (length first.before) first.figure (omega (arith, long)) in
    let fits : Q first.figure =
    subst Q (get_or-append_seam first.before first.figure first.after first.figure) at in
    let broken = first.broken in
    let unbroken = figure_unbroken d.table first.figure fits in absurd cc

pub only_memory : (fig : List ℕ) (d : DrawingState Outline) (e : ImportError) → Reads fig d
    → IsImportable d → RefusesImport fig e → e ≡ import_error.Run studio.OutOfMemory
only_memory fig d (import_error.Fig line x) reads imports f =
    absurd (not_both fig d x.fault x.object reads f.0)
only_memory fig d import_error.TooManyFigures reads imports f =
    let same = one_drawing fig f.drawing d f.reads reads in
    let many = subst (λ (b : DrawingState Outline). 10000 < length b.figures) same f.refused in
    let few = imports.few in absurd (omega (arith, many, few))
only_memory fig d (import_error.Figure line object fault) reads imports f =
    let none = f.0 in
    let same = one_drawing fig none.drawing d none.reads reads in
    absurd (none_at_fault d imports object fault
    (subst (λ b. IsFirstFault b object fault) same none.refused.1))
only_memory fig d (import_error.Run studio.OutOfMemory) reads imports f = refl
only_memory fig d (import_error.Run (studio.Fig x)) reads imports f = absurd f
only_memory fig d (import_error.Run (studio.Line m why)) reads imports f = absurd f
only_memory fig d (import_error.Run (studio.Dropped id fault)) reads imports f = absurd f
only_memory fig d (import_error.Run (studio.Compile x)) reads imports f = absurd f
only_memory fig d (import_error.Run (studio.NoObject o)) reads imports f = absurd f
only_memory fig d (import_error.Run studio.ReadFailed) reads imports f = absurd f
only_memory fig d (import_error.Run studio.TooLong) reads imports f = absurd f
only_memory fig d (import_error.Run studio.WriteFailed) reads imports f = absurd f
