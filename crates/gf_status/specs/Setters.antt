-- What operations set, and which of them come last. No public clause cites this module.
use Rattle.std.specs.Prelude.{◌≡◌, ◌↔◌, ◌⊎◌, Bool, true, false, not, ◌&&◌, List, [], ◌∷◌}
use Rattle.std.specs.Prelude.{Option, Some, None, Contains, IsSome, is_some}
use Rattle.std.specs.BTreeSet.{BTreeSet, contains}
use Rattle.std.specs.List.{list_any}
use Rattle.gf_ops.specs.declared.op.Op.{Op}
use Rattle.gf_ops.specs.declared.op.OpId.{OpId}
use Rattle.gf_ops.specs.declared.op.ObjectId.{ObjectId}
use Rattle.gf_ops.specs.declared.change.Attr.{Attr}
use Rattle.gf_ops.specs.declared.change.Attr.TheVariants as attr
use Rattle.gf_ops.specs.declared.change.Change.{Change}
use Rattle.gf_ops.specs.declared.change.Change.TheVariants.{Create, Set}
use Rattle.gf_ops.specs.declared.change.Value.{Value}
use Rattle.gf_ops.specs.declared.change.Value.TheVariants as value
use Rattle.gf_ops.specs.Attribute.{value_given}
use Rattle.gf_ops.specs.ConflictTests.{value_eq}
use Rattle.gf_ops.specs.OperationOrder.{IsConcurrent, Precedes, id_cmp}
use Rattle.gf_ops.specs.Version.{IsMember}
use Rattle.gf_groups.specs.declared.group.Group.{Group}
use Rattle.gf_versions.specs.declared.key.Version.{Version}
use Rattle.gf_status.specs.Differing.{version_value}
use Rattle.gf_status.specs.Hidings.{ShowsOrHides}
use Rattle.gf_status.specs.UnseenChanges.{HidesBeside}

-- all of ops are operations of h
abbrev pub AreOf : List Op → List Op → Type 0
AreOf h ops = (a : Op) → Contains ops a → Contains h a

-- found are those of ops of which P holds
abbrev pub AreThose : (Op → Type 0) → List Op → List Op → Type 0
AreThose P ops found = (a : Op) → Contains found a ↔ (Contains ops a × P a)

-- the operation a sets the attribute t
abbrev pub sets : Attr → Op → Bool
sets t a = is_some (value_given a t)

-- the value hides
abbrev pub hides_by : Value → Bool
hides_by (value.Shown b) = not b
hides_by (value.Place p) = false
hides_by (value.Points ps) = false
hides_by (value.Size w h) = false
hides_by (value.Colour c) = false
hides_by (value.Layer n) = false

-- the change hides its object
abbrev pub hides : Change → Bool
hides (Create start) = not start.shown
hides (Set o v aim) = hides_by v

-- ls are of ops, and each comes before none of ops. Each other one of ops comes before one of ls
pub record AreLastOf (ops ls : List Op) : Type 0 where
  pub within : (a : Op) → Contains ls a → Contains ops a
  pub last : (a b : Op) → Contains ls a → Contains ops b → ¬ (Precedes a b)
  pub others : (a : Op) → Contains ops a
      → Contains ls a ⊎ ((b : Op) × Contains ls b × Precedes a b)

-- ops are the operations of h that show or hide the object o
abbrev pub AreSettersOn : List Op → ObjectId → List Op → Type 0
AreSettersOn h o ops = (a : Op) → Contains ops a ↔ ShowsOrHides h o a

-- a neither shows nor hides, and its id is none of these
abbrev pub is_left_out : BTreeSet OpId → Op → Bool
is_left_out seen a = not (sets attr.Shown a) && not (contains id_cmp seen a.id)

-- a is left out, and unordered with a last hiding of the object o beside a
pub record IsUnknowing (h : List Op) (o : ObjectId) (seen : BTreeSet OpId) (a : Op) : Type 0 where
  pub left_out : is_left_out seen a ≡ true
  pub hiding : Op
  pub beside : HidesBeside h o a hiding
  pub concurrent : IsConcurrent a hiding

-- a is under one of the ids and sets t, and no setter of t under one of the ids comes after a
pub record IsLastIn (h : List Op) (t : Attr) (ids : List OpId) (a : Op) : Type 0 where
  pub member : IsMember h ids a
  pub sets : IsSome (value_given a t)
  pub last : (b : Op) → IsMember h ids b → IsSome (value_given b t) → ¬ (Precedes a b)

-- a is a last setter of t in one of the groups
pub record IsLastInOne (h : List Op) (t : Attr) (groups : List Group) (a : Op) : Type 0 where
  pub group : Group
  pub listed : Contains groups group
  pub last : IsLastIn h t group.ops a

-- the elements of the second list, where the first one has none
abbrev pub where_none : {X Y : Type 0} → List X → List Y → List Y
where_none [] ys = ys
where_none (x ∷ xs) ys = []

-- two values, or none, are not the same
abbrev pub are_others : Option Value → Option Value → Bool
are_others None None = false
are_others None (Some w) = true
are_others (Some v) None = true
are_others (Some v) (Some w) = not (value_eq v w)

-- one of the versions has another value of the attribute t than the first
abbrev pub some_differ : Attr → List Version → Bool
some_differ t [] = false
some_differ t (v ∷ vs) = list_any (λ w. are_others (version_value v t) (version_value w t)) vs
