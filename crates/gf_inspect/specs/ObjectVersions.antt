-- The versions of one object, hidden ones too, in their order (this project's choice).
use Rattle.std.specs.Prelude.{◌≡◌, ◌↔◌, List, AllPairs, Contains}
use Rattle.gf_ops.specs.declared.op.Op.{Op}
use Rattle.gf_ops.specs.declared.op.ObjectId.{ObjectId}
use Rattle.gf_versions.specs.declared.key.Version.{Version}
use Rattle.gf_versions.specs.Above.{IsAbove}
use Rattle.gf_versions.specs.VersionOf.{IsVersionOf}

-- the versions vs are those of the object o of h with their settled values, each above those after
-- it
pub record AreVersionsOf (h : List Op) (o : ObjectId) (vs : List Version) : Type 0 where
  pub exactly : (v : Version) → Contains vs v ↔ ((v.key.object ≡ o) × IsVersionOf h v)
  pub falling : AllPairs (λ v w. IsAbove v.key w.key) vs
