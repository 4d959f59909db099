-- The first of a ranking that holds a point names the version on top there.
use Rattle.std.proofs.Common.{◌≡◌, List, refl, sym, subst}
use Rattle.std.specs.Prelude.{find, option_map, Option, Some, None}
use Rattle.gf_shape.specs.declared.any_shape.AnyShape.{AnyShape}
use Rattle.gf_plane.specs.declared.point.Point.{Point}
use Rattle.gf_shape.specs.ShapeMeaning.{any_holds}
use Rattle.gf_ops.specs.declared.op.Op.{Op}
use Rattle.gf_versions.specs.declared.placed.Placed.{Placed}
use Rattle.gf_versions.specs.Ranking.{AreRanked}
use Rattle.gf_versions.proofs.TopLemmas.{top_found, none_found}
use Rattle.gf_inspect.specs.TopVersion.{NamesTop, top, blank, name_of}

pub first_names : (h : List Op) (p : Point) (items : List (Placed AnyShape)) → AreRanked h items
    → NamesTop h p (option_map name_of (find (λ (i : Placed AnyShape). any_holds i.shape p) items))
first_names h p items ranked = by_answer (find (λ (i : Placed AnyShape). any_holds i.shape p) items)
    refl
  where
    by_answer : (r : Option (Placed AnyShape)) → find (λ (i : Placed AnyShape). any_holds i.shape p)
        items ≡ r → NamesTop h p (option_map name_of r)
    by_answer (Some i) e =
        let found = top_found h p items ranked i e in
        subst (λ (j : Placed AnyShape). NamesTop h p (Some (name_of j))) (sym found.2)
        (top found.0 found.1)
    by_answer None e = blank (none_found h p items ranked e)
