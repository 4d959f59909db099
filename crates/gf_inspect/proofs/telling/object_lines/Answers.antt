use Rattle.std.proofs.Common.{◌<◌, ◌≤◌, get_or, length, subst, take}
use Rattle.std.proofs.lemmas.List.{take_all, take_more}
use Rattle.gf_names.proofs.ObjectLemmas.{made_at}
use Rattle.gf_ops.specs.declared.op.OpId.{OpId}
use Rattle.gf_inspect.specs.Told.{TellsEach, next, none}
use Rattle.gf_inspect.proofs.telling.object_lines.Goals as goal

abbrev no_id : OpId
no_id = record { site = 0; seq = 0 }

pub lines_of-requires : goal.lines_of-requires
lines_of-requires c =
    let objects = rw c.history.ensures.ops at c.in_ok-ids.ensures in
    let same = c.as_slice-id-items.ensures in
    let within : c.loop-id.id-index < length c.in_ok-ids.ids = rw same at c.loop-id-test.true in
    rw same (made_at c.args.versions.now c.in_ok-ids.ids c.loop-id.id-index no_id objects within)

pub loop-id-init : goal.loop-id-init
loop-id-init c = rw c.new-out.ensures.items none

pub loop-id-preserved : goal.loop-id-preserved
loop-id-preserved c =
    let ids = c.as_slice-id-items.result.now in
    let n = c.loop-id.id-index in
    let told = c.in_ok-more.ensures in
    rw (take_more ids n no_id c.loop-id-test.true, c.in_ok-extend_from_slice.ensures.items, c.deref.ensures.value)
    (next (take n ids) (record { 0 = get_or ids n no_id }) c.loop-id.out.items c.in_ok-more.more.items
    c.loop-id.invariant told)

pub returns : goal.returns
returns c =
    let h = c.args.versions.now in
    let ids = c.in_ok-ids.ids in
    let same = c.as_slice-id-items.ensures in
    let past : length ids ≤ c.loop-id.id-index = rw same at c.loop-id-test.false in
    let so_far = rw same at c.loop-id.invariant in
    record {
      ids = ids;
      objects = rw c.history.ensures.ops at c.in_ok-ids.ensures;
      each = subst (λ is. TellsEach c.args.notation h c.args.several is c.loop-id.out.items)
          (take_all c.loop-id.id-index ids past) so_far;
    }
