-- The visible versions of objects, as they are kept (this project's choice).
use Rattle.std.specs.Prelude.{◌≡◌, ◌↔◌, List, AllPairs, Contains, Option, IfSome}
use Rattle.std.specs.BTreeMap.{is_at}
use Rattle.std.specs.Map.{lookup}
use Rattle.gf_shape.specs.declared.any_shape.AnyShape.{AnyShape}
use Rattle.gf_ops.specs.declared.op.Op.{Op}
use Rattle.gf_ops.specs.declared.op.ObjectId.{ObjectId}
use Rattle.gf_table.specs.Positions.{object_cmp}
use Rattle.gf_versions.specs.declared.placed.Placed.{Placed}
use Rattle.gf_versions.specs.Above.{IsAbove}
use Rattle.gf_versions.specs.Ranking.{IsPlaced}

-- the items are the visible versions of h on the object o at their places, each above those after
-- it
pub record ArePlacedOn (h : List Op) (o : ObjectId) (items : List (Placed AnyShape)) : Type 0 where
  pub exactly : (i : Placed AnyShape) → ((i.key.object ≡ o) × IsPlaced h i) ↔ Contains items i
  pub falling : AllPairs (λ i j. IsAbove i.key j.key) items

-- the items that are kept of the object o, if any are kept
abbrev pub kept_of : List (ObjectId × List (Placed AnyShape)) → ObjectId
    → Option (List (Placed AnyShape))
kept_of kept o = lookup (is_at (object_cmp o)) kept

-- what is kept of an object are its visible versions in h
abbrev pub Keeps : List Op → List (ObjectId × List (Placed AnyShape)) → Type 0
Keeps h kept = (o : ObjectId) → IfSome (kept_of kept o) (ArePlacedOn h o)
