-- The creations of figures, one after the other, and what they keep.
use Rattle.std.proofs.Common.{◌≡◌, ℕ, suc, ◌+◌, ◌-◌, ◌≤◌, ◌<◌, Bool, true, false, ◌&&◌, List, []}
use Rattle.std.proofs.Common.{◌∷◌, ◌++◌, map, length, take, drop, get_or, refl, sym, ap, subst, ◌∙◌}
use Rattle.std.proofs.Common.{inl, inr, arith}
use Rattle.std.specs.Prelude.{All, IsTrue, Option, None, Some, Ok, Err, nat_le, if◌then◌else◌}
use Rattle.std.specs.List.{list_all}
use Rattle.std.proofs.lemmas.Bool.{cases_Bool, and_from, le-leb}
use Rattle.std.proofs.lemmas.List.{map-append, take_more, take_all, length-map, length-take-le}
use Rattle.std.proofs.lemmas.List.Elements.{All-nil, All-head, All-tail, All-cons, All-weaker}
use Rattle.std.proofs.lemmas.List.Elements.{All-push}
use Rattle.std.proofs.Math.Seq.{split_at}
use Rattle.gf_shape.specs.declared.outline.Outline.{Outline}
use Rattle.gf_shape.specs.declared.outline.Outline.TheVariants.{Chain, Disc, Oval}
use Rattle.gf_plane.specs.declared.point.Point.{Point}
use Rattle.gf_plane.specs.Moving.{minus}
use Rattle.gf_shape.specs.ShapeLaws.{IsLawful}
use Rattle.gf_ops.specs.declared.change.Change.{Change}
use Rattle.gf_ops.specs.Limits.{is_change, is_colour, is_form, is_near, is_polygon, is_size}
use Rattle.gf_figures.specs.declared.figure.Figure.{Figure}
use Rattle.gf_figures.specs.Colours.{Table}
use Rattle.gf_figures.specs.DrawingColour.{figure_colour}
use Rattle.gf_figures.specs.DrawingState.{DrawingState, IsLawfulDrawing}
use Rattle.gf_objects.specs.declared.figure_fault.FigureFault.{FigureFault}
use Rattle.gf_objects.specs.declared.figure_fault.FigureFault.TheVariants as fault
use Rattle.gf_objects.specs.StartFaults.{figure_fault, form_fault}
use Rattle.gf_import.specs.CreationFaults.{IsFirstFault, made, or_fault}
use Rattle.gf_objects.specs.StartFaults.{points_fault, unless}
use Rattle.gf_objects.specs.Boxes.{is_box}
use Rattle.gf_objects.specs.Objects.{form_of, place_of, seen_from}
use Rattle.gf_objects.specs.Places.{polygon_place}
use Rattle.gf_import.specs.Importing.{creation_of, creations_of}
use Rattle.gf_import.specs.Imported.{IsImportable}

-- the figure f is a lawful outline of a colour of bytes, and what it becomes breaks no limit
pub record IsSound (table : Table) (f : Figure Outline) : Type 0 where
  pub lawful : IsLawful f.shape
  pub colour : IsTrue (is_colour (figure_colour table f))
  pub fits : figure_fault table f ≡ None

-- the changes are the creations of the first i figures, which are sound
pub record AreCreated (table : Table) (fs : List (Figure Outline)) (i : ℕ) (changes : List Change) :
    Type 0 where
  pub created : changes ≡ map (creation_of table) (take i fs)
  pub sound : All (IsSound table) (take i fs)

ok_told : (r : Option FigureFault) (c d : Change) → or_fault r c ≡ Ok d → (r ≡ None) × (d ≡ c)
ok_told None c d e = (refl, (cc))
ok_told (Some f) c d e = absurd cc

err_told : (r : Option FigureFault) (c : Change) (f : FigureFault) → or_fault r c ≡ Err f → r
    ≡ Some f
err_told None c f e = absurd cc
err_told (Some g) c f e = cc

module _ (table : Table) (fs : List (Figure Outline)) where
  pub created_more : (old new : List Change) (c : Change) (i : ℕ) (d : Figure Outline)
      → i < length fs → AreCreated table fs i old → IsLawful (get_or fs i d).shape
      → IsTrue (is_colour (figure_colour table (get_or fs i d)))
      → made table (get_or fs i d) ≡ Ok c → new ≡ old ++ c ∷ [] → AreCreated table fs (i + 1) new
  created_more old new c i d l k lawful colour e pushed =
      let f = get_or fs i d in
      let told = ok_told (figure_fault table f) (creation_of table f) c e in
      let more = take_more fs i d l in
      record {
        created = pushed ∙ (rw (k.created, told.1)
            (sym (ap (map (creation_of table)) more ∙ map-append (creation_of table) (take i fs)
            (f ∷ []))));
        sound = rw more (All-push (IsSound table) (take i fs) f k.sound
            (record { lawful = lawful; colour = colour; fits = told.0 }));
      }

  pub created_to : (changes : List Change) (i : ℕ) → AreCreated table fs i changes → i ≤ length fs
      → length changes ≡ i
  created_to changes i k l = ap length k.created
      ∙ (length-map (take i fs) (creation_of table) ∙ length-take-le i fs l)

unless_none : (b : Bool) (f : FigureFault) → unless b f ≡ None → b ≡ true
unless_none true f e = refl
unless_none false f e = absurd cc

polygon_fits : (ps : List Point) → 3 ≤ length ps → points_fault ps ≡ None → is_polygon ps ≡ true
polygon_fits ps least e = elim (cases_Bool (nat_le (length ps) 64)) [
  | inl t ↦
      let near : list_all is_near ps ≡ true = let x : unless (list_all is_near ps) fault.Point
      ≡ None = rw t at e in unless_none (list_all is_near ps) fault.Point x in
      and_from _ _ (and_from _ _ (le-leb 3 (length ps) least) t) near
  | inr f ↦ let x : Some fault.Points ≡ None = rw f at e in absurd cc
]

seen_length : (o : Point) (ps : List Point) → length (seen_from o ps) ≡ length ps - 1
seen_length o ps = length-map (take (length ps - 1) ps) (λ p. minus p o)
    ∙ length-take-le (length ps - 1) ps (omega arith)

form_fits : (o : Outline) → IsLawful o → form_fault (form_of o) ≡ None → is_form (form_of o) ≡ true
form_fits (Disc disc) lawful e = unless_none (is_size disc.radius) fault.Size e
form_fits (Oval oval) lawful e = unless_none (is_size oval.rx && is_size oval.ry) fault.Size e
form_fits (Chain ring) lawful e = elim (cases_Bool (is_box ring)) [
  | inl t ↦ rw t (unless_none _ fault.Size (rw t at e))
  | inr f ↦
      let o = polygon_place ring.points in
      let n = seen_length o ring.points in
      let least = lawful.least in
      rw f (polygon_fits (seen_from o ring.points) (omega arith) (rw f at e))
]

near_told : (b : Bool) (r : Option FigureFault) → (if b then r else Some fault.Place) ≡ None
    → (b ≡ true) × (r ≡ None)
near_told true r e = (refl, e)
near_told false r e = absurd cc

sound_fits : (table : Table) (f : Figure Outline) → IsSound table f
    → IsTrue (is_change (creation_of table f))
sound_fits table f k =
    let told = near_told (is_near (place_of f.shape)) (form_fault (form_of f.shape)) k.fits in
    and_from _ _ (and_from _ _ (and_from _ _ (form_fits f.shape k.lawful told.1) told.0)
    (le-leb (999 - f.depth) 9999 (omega arith))) k.colour

all_fit : (table : Table) (fs : List (Figure Outline)) → All (IsSound table) fs
    → All (λ c. IsTrue (is_change c)) (map (creation_of table) fs)
all_fit table [] k = All-nil (λ c. IsTrue (is_change c))
all_fit table (f ∷ fs) k = All-cons (λ c. IsTrue (is_change c)) (creation_of table f)
    (map (creation_of table) fs) (sound_fits table f (All-head (IsSound table) f fs k))
    (all_fit table fs (All-tail (IsSound table) f fs k))

module _ (d : DrawingState Outline) where
  pub all_created : (changes : List Change) (i : ℕ) → AreCreated d.table d.figures i changes
      → length d.figures ≤ i → changes ≡ creations_of d
  all_created changes i k l = k.created ∙ ap (map (creation_of d.table)) (take_all i d.figures l)

  pub importable : (changes : List Change) (i : ℕ) → AreCreated d.table d.figures i changes
      → length d.figures ≤ i → IsLawfulDrawing d → length d.figures ≤ 10000 → IsImportable d
  importable changes i k l lawful few =
      let sound : All (IsSound d.table) d.figures = subst (All (IsSound d.table))
      (take_all i d.figures l) k.sound in
      record {
        drawing = lawful;
        outlines = All-weaker (IsSound d.table) (λ (f : Figure Outline). IsLawful f.shape)
            (λ f s. s.lawful) d.figures sound;
        in_range = all_fit d.table d.figures sound;
        few = few;
      }

  pub first_fault : (changes : List Change) (i : ℕ) (g : Figure Outline) (f : FigureFault)
      → AreCreated d.table d.figures i changes → i < length d.figures
      → made d.table (get_or d.figures i g) ≡ Err f
      → IsFirstFault d (length d.table + length changes + 1) f
  first_fault changes i g f k l e =
      let n : length changes ≡ length (take i d.figures) = created_to d.table d.figures changes i k
      (omega arith) ∙ sym (length-take-le i d.figures (omega arith)) in
      record {
        before = take i d.figures;
        figure = get_or d.figures i g;
        after = drop (suc i) d.figures;
        whole = split_at d.figures i g l;
        sound = All-weaker (IsSound d.table) (λ (h : Figure Outline). figure_fault d.table h ≡ None)
            (λ h s. s.fits) (take i d.figures) k.sound;
        broken = err_told (figure_fault d.table (get_or d.figures i g))
            (creation_of d.table (get_or d.figures i g)) f e;
        number = ap (λ m. length d.table + m + 1) n;
      }
