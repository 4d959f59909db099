-- Which version is above another (this project's choice).
use Rattle.std.specs.Prelude.{◌≡◌}
use Rattle.std.specs.declared.cmp.Ordering.{Ordering}
use Rattle.std.specs.declared.cmp.Ordering.TheVariants.{Greater}
use Rattle.std.specs.Ordering.{ordering_then, nat_cmp}
use Rattle.std.specs.Cmp.Lexicographic.{slice_cmp}
use Rattle.gf_ops.specs.OperationOrder.{id_cmp}
use Rattle.gf_versions.specs.declared.key.Version.{Version}
use Rattle.gf_versions.specs.declared.key.VersionKey.{VersionKey}

-- by layer, then by the object's id, then by the ids of the operations as a dictionary orders them
abbrev pub key_cmp : VersionKey → VersionKey → Ordering
key_cmp k l =
    ordering_then (nat_cmp k.layer l.layer)
    (ordering_then (id_cmp k.object.0 l.object.0) (slice_cmp id_cmp k.ops l.ops))

-- the version with key k is above that with key l
abbrev pub IsAbove : VersionKey → VersionKey → Type 0
IsAbove k l = key_cmp k l ≡ Greater

-- v and w are one, or exactly one of them is above the other
pub data AreOrdered (v w : Version) : Type 0 where
  same : v ≡ w → AreOrdered v w
  first_above : IsAbove v.key w.key → ¬ (IsAbove w.key v.key) → AreOrdered v w
  second_above : IsAbove w.key v.key → ¬ (IsAbove v.key w.key) → AreOrdered v w
