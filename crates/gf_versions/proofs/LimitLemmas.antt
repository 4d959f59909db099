-- What a version of a valid history settles keeps the limits of an operation.
use Rattle.std.proofs.Common.{◌≡◌, refl, subst}
use Rattle.std.specs.Prelude.{◌&&◌, List, Some, IsTrue}
use Rattle.std.proofs.lemmas.Bool.{and_parts, and_from}
use Rattle.gf_ops.specs.declared.op.Op.{Op}
use Rattle.gf_ops.specs.declared.op.OpId.{OpId}
use Rattle.gf_ops.specs.declared.change.Attr.{Attr}
use Rattle.gf_ops.specs.declared.change.Attr.TheVariants as attr
use Rattle.gf_ops.specs.declared.change.Change.{Change}
use Rattle.gf_ops.specs.declared.change.Change.TheVariants.{Create, Set}
use Rattle.gf_ops.specs.declared.change.Form.{Form}
use Rattle.gf_ops.specs.declared.change.Form.TheVariants as form
use Rattle.gf_ops.specs.declared.change.Start.{Start}
use Rattle.gf_ops.specs.declared.change.Value.{Value}
use Rattle.gf_ops.specs.declared.change.Value.TheVariants.{Place, Points, Size, Colour, Layer}
use Rattle.gf_ops.specs.declared.change.Value.TheVariants.{Shown}
use Rattle.gf_ops.specs.Attribute.{change_value, form_value, start_value, value_as}
use Rattle.gf_ops.specs.Limits.{is_change, is_clock, is_colour, is_form, is_id, is_layer, is_near}
use Rattle.gf_ops.specs.Limits.{is_size, is_start, is_value, is_aim}
use Rattle.gf_ops.specs.SettledValue.{IsSettled}
use Rattle.gf_ops.specs.ValidHistory.{IsValid}
use Rattle.gf_versions.specs.declared.key.Version.{Version}
use Rattle.gf_versions.specs.VersionOf.{IsVersionOf}

one_fits : (v w : Value) → IsTrue (is_value v) → Some v ≡ Some w → IsTrue (is_value w)
one_fits v w fits e = let same : v ≡ w = cc in subst (λ u. IsTrue (is_value u)) same fits

form_fits : (f : Form) → IsTrue (is_form f) → IsTrue (is_value (form_value f))
form_fits (form.Rect width height) fits = fits
form_fits (form.Circle radius) fits = and_from (is_size radius) (is_size radius) fits fits
form_fits (form.Ellipse rx ry) fits = fits
form_fits (form.Polygon ps) fits = fits

fits_form : (f : Form) → IsTrue (is_value (form_value f)) → IsTrue (is_form f)
fits_form (form.Rect width height) fits = fits
fits_form (form.Circle radius) fits = (and_parts (is_size radius) (is_size radius) fits).0
fits_form (form.Ellipse rx ry) fits = fits
fits_form (form.Polygon ps) fits = fits

size_fits : (u v : Value) → IsTrue (is_value u) → value_as u attr.Size ≡ Some v
    → IsTrue (is_value v)
size_fits (Size m n) v fits e = one_fits (Size m n) v fits e
size_fits u v fits e = absurd cc

points_fit : (u v : Value) → IsTrue (is_value u) → value_as u attr.Points ≡ Some v
    → IsTrue (is_value v)
points_fit (Points ps) v fits e = one_fits (Points ps) v fits e
points_fit u v fits e = absurd cc

start_fits : (s : Start) (t : Attr) (v : Value) → IsTrue (is_start s) → start_value s t ≡ Some v
    → IsTrue (is_value v)
start_fits s t v fits e = by_attribute t e
  where
    whole : IsTrue (is_form s.form && is_near s.place && is_layer s.layer)
        × IsTrue (is_colour s.colour)
    whole = and_parts (is_form s.form && is_near s.place && is_layer s.layer) (is_colour s.colour)
        fits

    parts : IsTrue (is_form s.form && is_near s.place) × IsTrue (is_layer s.layer)
    parts = and_parts (is_form s.form && is_near s.place) (is_layer s.layer) whole.0

    shape : IsTrue (is_form s.form) × IsTrue (is_near s.place)
    shape = and_parts (is_form s.form) (is_near s.place) parts.0

    by_attribute : (t : Attr) → start_value s t ≡ Some v → IsTrue (is_value v)
    by_attribute attr.Place e = one_fits (Place s.place) v shape.1 e
    by_attribute attr.Size e = size_fits (form_value s.form) v (form_fits s.form shape.0) e
    by_attribute attr.Points e = points_fit (form_value s.form) v (form_fits s.form shape.0) e
    by_attribute attr.Colour e = one_fits (Colour s.colour) v whole.1 e
    by_attribute attr.Layer e = one_fits (Layer s.layer) v parts.1 e
    by_attribute attr.Shown e = one_fits (Shown s.shown) v refl e

set_fits : (u v : Value) (t : Attr) → IsTrue (is_value u) → value_as u t ≡ Some v
    → IsTrue (is_value v)
set_fits (Place p) v attr.Place fits e = one_fits (Place p) v fits e
set_fits (Points ps) v attr.Points fits e = one_fits (Points ps) v fits e
set_fits (Size m n) v attr.Size fits e = one_fits (Size m n) v fits e
set_fits (Colour c) v attr.Colour fits e = one_fits (Colour c) v fits e
set_fits (Layer n) v attr.Layer fits e = one_fits (Layer n) v fits e
set_fits (Shown b) v attr.Shown fits e = one_fits (Shown b) v fits e
set_fits u v t fits e = absurd cc

change_fits : (c : Change) (t : Attr) (v : Value) → IsTrue (is_change c) → change_value c t ≡ Some v
    → IsTrue (is_value v)
change_fits (Create s) t v fits e = start_fits s t v fits e
change_fits (Set o u aim) t v fits e = set_fits u v t
    (and_parts (is_id o.0) (is_value u) (and_parts (is_id o.0 && is_value u) (is_aim aim) fits).0).1
    e

pub settled_fits : (h : List Op) → IsValid h → (g : List OpId) (t : Attr) (v : Value)
    → IsSettled h g t v → IsTrue (is_value v)
settled_fits h valid g t v s =
    let a = s.setter in
    change_fits a.change t v (and_parts (is_id a.id && is_clock a.past) (is_change a.change)
    (valid.in_range a s.member.contained)).1 s.gives

-- the form and the place of a version keep their limits
pub version_fits : (h : List Op) → IsValid h → (v : Version) → IsVersionOf h v
    → IsTrue (is_form v.form && is_near v.place)
version_fits h valid v is = and_from (is_form v.form) (is_near v.place)
    (fits_form v.form (settled_fits h valid v.key.ops _ _ is.form))
    (settled_fits h valid v.key.ops _ _ is.place)
