use Rattle.std.proofs.Common.{List, ap, ◌∙◌}
use Rattle.std.specs.BTreeMap.{insert_entry}
use Rattle.std.specs.List.Sorted.{IsStrictlySortedBy}
use Rattle.std.specs.Map.{keys_of}
use Rattle.gf_shape.specs.declared.any_shape.AnyShape.{AnyShape}
use Rattle.gf_ops.proofs.EntryLemmas.{copied_more}
use Rattle.gf_table.specs.Positions.{object_cmp}
use Rattle.gf_table.proofs.StandsLemmas.{object_cmp_total}
use Rattle.gf_versions.specs.declared.placed.Placed.{Placed}
use Rattle.gf_kept.proofs.kept.KeptVersions.copy.Goals as goal

pub loop-object-preserved : goal.loop-object-preserved
loop-object-preserved c =
    let gives = c.into_iter-object-iterator.ensures.into_iter_gives in
    let sorted : IsStrictlySortedBy object_cmp (keys_of c.into_iter-object-iterator.result) =
    rw gives.0 gives.5 in
    let made = c.in_ok-put.ensures.ok
    ∙ ap (λ (s : List (Placed AnyShape)). insert_entry object_cmp c.loop-object.objects.entries
    c.in-Some.object.now s) c.in_ok-found.ensures in
    copied_more object_cmp object_cmp_total c.loop-object.objects.entries c.put.new.objects.entries
    c.into_iter-object-iterator.result c.in-Some.object.now c.in-Some.found.now c.next.new.self
    c.loop-object.object-iterator
    sorted made c.in-Some.ensures.steps c.loop-object.invariant
