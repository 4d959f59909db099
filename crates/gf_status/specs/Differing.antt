-- Which attributes of an object differ among its visible versions (this project's choice).
use Rattle.std.specs.Prelude.{◌≡◌, ◌≢◌, ◌↔◌, List, [], ◌∷◌, ◌++◌}
use Rattle.std.specs.Prelude.{Option, Some, Contains, IsSome}
use Rattle.std.specs.List.Sorted.{IsStrictlySortedBy}
use Rattle.gf_ops.specs.declared.op.Op.{Op}
use Rattle.gf_ops.specs.declared.op.OpId.{OpId}
use Rattle.gf_ops.specs.declared.op.ObjectId.{ObjectId}
use Rattle.gf_ops.specs.declared.change.Attr.{Attr}
use Rattle.gf_ops.specs.declared.change.Attr.TheVariants.{Place, Points, Size, Colour, Layer, Shown}
use Rattle.gf_ops.specs.declared.change.Value.{Value}
use Rattle.gf_ops.specs.declared.change.Value.TheVariants as value
use Rattle.gf_ops.specs.Attribute.{form_value, value_as, value_given}
use Rattle.gf_ops.specs.OperationOrder.{Precedes, id_cmp}
use Rattle.gf_ops.specs.Version.{IsMember}
use Rattle.gf_groups.specs.declared.group.Group.{Group}
use Rattle.gf_versions.specs.declared.key.Version.{Version}
use Rattle.gf_versions.specs.Visible.{IsVisible}
use Rattle.gf_visible.specs.ShownVersions.{IsVisibleGroup}
use Rattle.gf_status.specs.declared.differing.Difference.{Difference}

-- the value of the attribute t in the version v, if its kind has t
abbrev pub version_value : Version → Attr → Option Value
version_value v Place = Some (value.Place v.place)
version_value v Points = value_as (form_value v.form) Points
version_value v Size = value_as (form_value v.form) Size
version_value v Colour = Some (value.Colour v.colour)
version_value v Layer = Some (value.Layer v.key.layer)
version_value v Shown = Some (value.Shown v.shown)

-- v is a visible version of the object o
pub record IsVisibleOn (h : List Op) (o : ObjectId) (v : Version) : Type 0 where
  pub visible : IsVisible h v
  pub object : v.key.object ≡ o

-- two visible versions of the object o have different values of the attribute t
pub record Differs (h : List Op) (o : ObjectId) (t : Attr) : Type 0 where
  pub first : Version
  pub second : Version
  pub one : IsVisibleOn h o first
  pub other : IsVisibleOn h o second
  pub apart : version_value first t ≢ version_value second t

-- a gives the attribute t its value in a visible version of the object o. There a sets t, and no
-- other setter of t comes after a
pub record Gives (h : List Op) (o : ObjectId) (t : Attr) (a : Op) : Type 0 where
  pub group : Group
  pub object : group.object ≡ o
  pub visible : IsVisibleGroup h group
  pub member : IsMember h group.ops a
  pub sets : IsSome (value_given a t)
  pub last : (b : Op) → IsMember h group.ops b → IsSome (value_given b t) → ¬ (Precedes a b)

-- the operation under the id i gives the attribute t its value in a visible version of the object o
pub record GivesUnder (h : List Op) (o : ObjectId) (t : Attr) (i : OpId) : Type 0 where
  pub op : Op
  pub id : op.id ≡ i
  pub gives : Gives h o t op

-- the ids of all operations that give the attribute t a value in a visible version of o, rising
pub record AreGivers (h : List Op) (o : ObjectId) (t : Attr) (ids : List OpId) : Type 0 where
  pub exactly : (i : OpId) → Contains ids i ↔ GivesUnder h o t i
  pub rising : IsStrictlySortedBy id_cmp ids

-- the attributes that a status compares
abbrev pub attributes : List Attr
attributes = Place ∷ Points ∷ Size ∷ Colour ∷ Layer ∷ []

-- of these attributes, the ones that differ among the visible versions of o, in their order
pub data AreDifferences (h : List Op) (o : ObjectId)
    : List Attr → List Difference → Type 0 where
  none : AreDifferences h o [] []
  differs : {ts : List Attr} {ds : List Difference} (d : Difference) → AreDifferences h o ts ds
      → Differs h o d.attribute → AreGivers h o d.attribute d.givers
      → AreDifferences h o (ts ++ d.attribute ∷ []) (ds ++ d ∷ [])
  agrees : {ts : List Attr} {ds : List Difference} (t : Attr) → AreDifferences h o ts ds
      → ¬ (Differs h o t) → AreDifferences h o (ts ++ t ∷ []) ds
