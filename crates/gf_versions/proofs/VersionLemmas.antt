-- A group of operations that is a version has settled values, and only one version of a valid
-- history has that group.
use Rattle.std.proofs.Common.{◌≡◌, ℕ, List, [], ◌∷◌, refl, subst, sym, ap, inl, inr}
use Rattle.std.specs.Prelude.{◌↔◌, Bool, Contains, Some}
use Rattle.gf_plane.specs.declared.point.Point.{Point}
use Rattle.gf_plane.specs.declared.colour.Rgb.{Rgb}
use Rattle.gf_ops.specs.declared.op.Op.{Op}
use Rattle.gf_ops.specs.declared.op.OpId.{OpId}
use Rattle.gf_ops.specs.declared.op.ObjectId.{ObjectId}
use Rattle.gf_ops.specs.declared.change.Attr.{Attr}
use Rattle.gf_ops.specs.declared.change.Attr.TheVariants as attr
use Rattle.gf_ops.specs.declared.change.Change.{Change}
use Rattle.gf_ops.specs.declared.change.Change.TheVariants.{Create, Set}
use Rattle.gf_ops.specs.declared.change.Form.{Form}
use Rattle.gf_ops.specs.declared.change.Form.TheVariants as form
use Rattle.gf_ops.specs.declared.change.Value.{Value}
use Rattle.gf_ops.specs.declared.change.Value.TheVariants.{Place, Points, Size, Colour, Layer}
use Rattle.gf_ops.specs.declared.change.Value.TheVariants.{Shown}
use Rattle.gf_ops.specs.Attribute.{Kind, Box, Circle, Ellipse, Polygon, change_value}
use Rattle.gf_ops.specs.Attribute.{form_attribute, form_value, kind_of, value_as}
use Rattle.gf_ops.specs.SettledValue.{IsSettled}
use Rattle.gf_ops.specs.ValidHistory.{IsValid}
use Rattle.gf_ops.specs.Version.{IsVersion}
use Rattle.gf_ops.specs.HasOperation.{IsOfKind}
use Rattle.gf_base.proofs.ListLemmas.{Contains-cons_cases, Contains-cons_head, Contains-cons_tail}
use Rattle.gf_base.proofs.ListLemmas.{Contains-map_from, not_Contains-nil}
use Rattle.gf_groups.specs.declared.group.Group.{Group}
use Rattle.gf_groups.specs.Versions.{IsVersionGroup}
use Rattle.gf_base.proofs.FilterLemmas.{Contains-filter}
use Rattle.gf_groups.proofs.VersionListLemmas.{all_listed}
use Rattle.gf_versions.specs.declared.key.Version.{Version}
use Rattle.gf_versions.specs.ListedVersions.{AreSettled, shown_of}
use Rattle.gf_versions.specs.Ranking.{group_of}
use Rattle.gf_versions.specs.Settling.{IsFormOf, HasAttribute}
use Rattle.gf_versions.specs.VersionOf.{IsVersionOf}
use Rattle.gf_versions.specs.Visible.{IsVisible}
use Rattle.gf_versions.proofs.MakerLemmas.{has_attribute, member_object, one_kind, round_size}
use Rattle.gf_versions.proofs.MakerLemmas.{version_kind}
use Rattle.gf_versions.proofs.SettlingLemmas.{settled_once, settles}

-- ---- what is given to an attribute is a value of it

place_given : (c : Change) (v : Value) → change_value c attr.Place ≡ Some v
    → (p : Point) × (v ≡ Place p)
place_given (Create s) v e = (s.place, (cc))
place_given (Set o (Place p) aim) v e = (p, (cc))
place_given (Set o w aim) v e = absurd cc

colour_given : (c : Change) (v : Value) → change_value c attr.Colour ≡ Some v
    → (d : Rgb) × (v ≡ Colour d)
colour_given (Create s) v e = (s.colour, (cc))
colour_given (Set o (Colour d) aim) v e = (d, (cc))
colour_given (Set o w aim) v e = absurd cc

layer_given : (c : Change) (v : Value) → change_value c attr.Layer ≡ Some v
    → (n : ℕ) × (v ≡ Layer n)
layer_given (Create s) v e = (s.layer, (cc))
layer_given (Set o (Layer n) aim) v e = (n, (cc))
layer_given (Set o w aim) v e = absurd cc

shown_given : (c : Change) (v : Value) → change_value c attr.Shown ≡ Some v
    → (b : Bool) × (v ≡ Shown b)
shown_given (Create s) v e = (s.shown, (cc))
shown_given (Set o (Shown b) aim) v e = (b, (cc))
shown_given (Set o w aim) v e = absurd cc

form_size : (f : Form) (v : Value) → value_as (form_value f) attr.Size ≡ Some v
    → (m : ℕ) × (n : ℕ) × (v ≡ Size m n)
form_size (form.Rect width height) v e = (width, height, (cc))
form_size (form.Circle radius) v e = (radius, radius, (cc))
form_size (form.Ellipse rx ry) v e = (rx, ry, (cc))
form_size (form.Polygon ps) v e = absurd cc

size_given : (c : Change) (v : Value) → change_value c attr.Size ≡ Some v
    → (m : ℕ) × (n : ℕ) × (v ≡ Size m n)
size_given (Create s) v e = form_size s.form v e
size_given (Set o (Size m n) aim) v e = (m, n, (cc))
size_given (Set o w aim) v e = absurd cc

form_points : (f : Form) (v : Value) → value_as (form_value f) attr.Points ≡ Some v
    → (ps : List Point) × (v ≡ Points ps)
form_points (form.Polygon ps) v e = (ps, (cc))
form_points f v e = absurd cc

points_given : (c : Change) (v : Value) → change_value c attr.Points ≡ Some v
    → (ps : List Point) × (v ≡ Points ps)
points_given (Create s) v e = form_points s.form v e
points_given (Set o (Points ps) aim) v e = (ps, (cc))
points_given (Set o w aim) v e = absurd cc

module _ (h : List Op) (valid : IsValid h) (g : Group) (version : IsVersionGroup h g) where
  -- the settled size of a circle is its radius twice
  pub round_settled : (m n : ℕ) → IsOfKind h g.object Circle
      → IsSettled h g.ops attr.Size (Size m n) → m ≡ n
  round_settled m n kind s = round_size h valid g.object s.setter m n kind s.member.contained
      (member_object h valid g.object g.ops version s.setter s.member) s.gives

  some_settled : (t : Attr) → HasAttribute h g.object t → (v : Value) × IsSettled h g.ops t v
  some_settled t i = settles h valid g.object g.ops version t i

  some_form : (k : Kind) → IsOfKind h g.object k → (f : Form) × IsFormOf h g f
  some_form Box x =
      let s = some_settled attr.Size (has_attribute h valid g.object Box attr.Size x refl) in
      let size = size_given s.1.setter.change s.0 s.1.gives in (
        form.Rect size.0 size.1,
        record { kind = x; settled = subst (IsSettled h g.ops attr.Size) size.2 s.1 },
      )
  some_form Circle x =
      let s = some_settled attr.Size (has_attribute h valid g.object Circle attr.Size x refl) in
      let size = size_given s.1.setter.change s.0 s.1.gives in
      let settled = subst (IsSettled h g.ops attr.Size) size.2 s.1 in
      let round = round_settled size.0 size.1 x settled in (
        form.Circle size.0,
        record {
          kind = x;
          settled = subst (λ n. IsSettled h g.ops attr.Size (Size size.0 n)) (sym round) settled;
        },
      )
  some_form Ellipse x =
      let s = some_settled attr.Size (has_attribute h valid g.object Ellipse attr.Size x refl) in
      let size = size_given s.1.setter.change s.0 s.1.gives in (
        form.Ellipse size.0 size.1,
        record { kind = x; settled = subst (IsSettled h g.ops attr.Size) size.2 s.1 },
      )
  some_form Polygon x =
      let s = some_settled attr.Points (has_attribute h valid g.object Polygon attr.Points x refl)
      in
      let points = points_given s.1.setter.change s.0 s.1.gives in (
        form.Polygon points.0,
        record { kind = x; settled = subst (IsSettled h g.ops attr.Points) points.1 s.1 },
      )

  pub some_version : (v : Version) × IsVersionOf h v × (group_of v ≡ g)
  some_version =
      let kind = version_kind h valid g.object g.ops version in
      let shape = some_form kind.0 kind.1 in
      let place = some_settled attr.Place (λ k x. refl) in
      let colour = some_settled attr.Colour (λ k x. refl) in
      let layer = some_settled attr.Layer (λ k x. refl) in
      let shown = some_settled attr.Shown (λ k x. refl) in
      let p = place_given place.1.setter.change place.0 place.1.gives in
      let c = colour_given colour.1.setter.change colour.0 colour.1.gives in
      let n = layer_given layer.1.setter.change layer.0 layer.1.gives in
      let b = shown_given shown.1.setter.change shown.0 shown.1.gives in (
        record {
          key = record { layer = n.0; object = g.object; ops = g.ops };
          form = shape.0;
          place = p.0;
          colour = c.0;
          shown = b.0;
        },
        record {
          version = version;
          kind = shape.1.kind;
          form = shape.1.settled;
          place = subst (IsSettled h g.ops attr.Place) p.1 place.1;
          colour = subst (IsSettled h g.ops attr.Colour) c.1 colour.1;
          layer = subst (IsSettled h g.ops attr.Layer) n.1 layer.1;
          shown = subst (IsSettled h g.ops attr.Shown) b.1 shown.1;
        },
        refl,
      )

-- ---- one version of a group

module _ (h : List Op) (valid : IsValid h) where
  same_form : (o : ObjectId) (g : List OpId) → IsVersion h o g → (e f : Form)
      → kind_of e ≡ kind_of f → IsSettled h g (form_attribute e) (form_value e)
      → IsSettled h g (form_attribute f) (form_value f) → e ≡ f
  same_form o g version (form.Rect w k) (form.Rect x l) kind s r = let e = settled_once h valid o g
      version attr.Size (Size w k) (Size x l) s r in cc
  same_form o g version (form.Circle q) (form.Circle p) kind s r = let e = settled_once h valid o g
      version attr.Size (Size q q) (Size p p) s r in cc
  same_form o g version (form.Ellipse w k) (form.Ellipse x l) kind s r = let e = settled_once h
      valid o g version attr.Size (Size w k) (Size x l) s r in cc
  same_form o g version (form.Polygon ps) (form.Polygon qs) kind s r = let e = settled_once h valid
      o g version attr.Points (Points ps) (Points qs) s r in cc
  same_form o g version e f kind s r = absurd cc

  -- two versions of one group are one
  pub one_of_group : (v w : Version) → IsVersionOf h v → IsVersionOf h w
      → v.key.object ≡ w.key.object → v.key.ops ≡ w.key.ops → v ≡ w
  one_of_group v w x y object ops =
      let o = v.key.object in
      let g = v.key.ops in
      let kind = one_kind h valid o (kind_of v.form) (kind_of w.form) x.kind
      (subst (λ p. IsOfKind h p (kind_of w.form)) (sym object) y.kind) in
      let forms = same_form o g x.version v.form w.form kind x.form
      (other (form_attribute w.form) (form_value w.form) y.form) in
      let place : v.place ≡ w.place = let e = settled_once h valid o g x.version attr.Place
      (Place v.place) (Place w.place) x.place (other attr.Place (Place w.place) y.place) in cc in
      let colour : v.colour ≡ w.colour = let e = settled_once h valid o g x.version attr.Colour
      (Colour v.colour) (Colour w.colour) x.colour (other attr.Colour (Colour w.colour) y.colour) in
      cc in
      let layer : v.key.layer ≡ w.key.layer = let e = settled_once h valid o g x.version attr.Layer
      (Layer v.key.layer) (Layer w.key.layer) x.layer
      (other attr.Layer (Layer w.key.layer) y.layer) in cc in
      let shown : v.shown ≡ w.shown = let e = settled_once h valid o g x.version attr.Shown
      (Shown v.shown) (Shown w.shown) x.shown (other attr.Shown (Shown w.shown) y.shown) in cc in
      λ n. record {
        key = record { layer = layer n; object = object n; ops = ops n };
        form = forms n;
        place = place n;
        colour = colour n;
        shown = shown n;
      }
    where
      other : (t : Attr) (u : Value) → IsSettled h w.key.ops t u → IsSettled h v.key.ops t u
      other t u s = subst (λ ids. IsSettled h ids t u) (sym ops) s

  -- ---- the versions of all groups

  -- groups that are versions have a list of versions
  pub all_settled : (groups : List Group) → ((g : Group) → Contains groups g → IsVersionGroup h g)
      → (vs : List Version) × AreSettled h groups vs
  all_settled [] each = (
    [],
    record { grouped = refl; versions = λ v c. absurd (not_Contains-nil v c) },
  )
  all_settled (g ∷ groups) each =
      let first = some_version h valid g (each g (Contains-cons_head g groups)) in
      let rest = all_settled groups (λ k c. each k (Contains-cons_tail g groups k c)) in (
        first.0 ∷ rest.0,
        record {
          grouped = λ n. first.2 n ∷ rest.1.grouped n;
          versions = λ v c. elim (Contains-cons_cases first.0 rest.0 v c) [
            | inl e ↦ subst (IsVersionOf h) (sym e) first.1
            | inr d ↦ rest.1.versions v d
          ];
        },
      )

  -- which are all versions of h, if the groups are
  pub settled_exactly : (groups : List Group) (vs : List Version)
      → ((g : Group) → Contains groups g ↔ IsVersionGroup h g) → AreSettled h groups vs
      → (v : Version) → Contains vs v ↔ IsVersionOf h v
  settled_exactly groups vs exactly settled v = (
    settled.versions v,
    λ is.
        let known = subst (λ ks. Contains ks (group_of v)) (sym settled.grouped)
        ((exactly (group_of v)).1 is.version) in
        let from = Contains-map_from group_of vs (group_of v) known in
        let one = one_of_group v from.0 is (settled.versions from.0 from.1)
        (ap (λ (g : Group). g.object) from.2) (ap (λ (g : Group). g.ops) from.2) in
        subst (Contains vs) (sym one) from.1,
  )

  -- a history has a list of its versions
  pub versions_listed : (vs : List Version) × ((v : Version) → Contains vs v ↔ IsVersionOf h v)
  versions_listed =
      let all = all_listed h in
      let list = all_settled all.0 (λ g c. (all.1 g).0 c) in
      (list.0, settled_exactly all.0 list.0 all.1 list.1)

  -- whose visible versions are those that are shown
  pub visible_exactly : (vs : List Version) → ((v : Version) → Contains vs v ↔ IsVersionOf h v)
      → (v : Version) → IsVisible h v ↔ Contains (shown_of vs) v
  visible_exactly vs exactly v =
      let kept = Contains-filter (λ (w : Version). w.shown) vs v in (
        λ seen. kept.1 ((exactly v).1 seen.version, seen.shown),
        λ c. let parts = kept.0 c in record { version = (exactly v).0 parts.0; shown = parts.1 },
      )
