-- The operations of a placed version are a group of its object.
use Rattle.std.specs.Prelude.{length, slice_index_or}
use Rattle.std.proofs.Common.{◌≡◌, ℕ, ◌<◌, List, subst, sym}
use Rattle.std.specs.Prelude.{Contains}
use Rattle.std.proofs.lemmas.List.Elements.{Contains-get_or}
use Rattle.gf_shape.specs.declared.any_shape.AnyShape.{AnyShape}
use Rattle.gf_ops.specs.declared.op.Op.{Op}
use Rattle.gf_ops.specs.declared.op.OpId.{OpId}
use Rattle.gf_ops.specs.Version.{IsVersion}
use Rattle.gf_versions.specs.declared.placed.Placed.{Placed}
use Rattle.gf_versions.specs.Ranking.{AreRanked, IsPlaced}

placed_group : (h : List Op) (i : Placed AnyShape) → IsPlaced h i
    → IsVersion h i.key.object i.key.ops
placed_group h i p =
    subst (λ (j : Placed AnyShape). IsVersion h j.key.object j.key.ops) (sym p.placed)
    p.visible.version.version

-- the ids of the version at an index of the ranked list, under another name
pub ranked_group : (h : List Op) (items : List (Placed AnyShape)) → AreRanked h items
    → (index : ℕ) (item : Placed AnyShape) → index < length items
    → item ≡ slice_index_or items index item → (ops : List OpId) → ops ≡ item.key.ops
    → IsVersion h item.key.object ops
ranked_group h items ranked index item within is ops same =
    let there : Contains items item = subst (Contains items) (sym is)
    (Contains-get_or items index item within) in
    subst (IsVersion h item.key.object) (sym same)
    (placed_group h item ((ranked.exactly item).1 there))
