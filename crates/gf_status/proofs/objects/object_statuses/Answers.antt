use Rattle.std.proofs.Common.{◌≡◌, ◌<◌, ◌≤◌, ap, get_or, length, subst, take}
use Rattle.std.proofs.lemmas.List.{take_all, take_more}
use Rattle.gf_ops.specs.declared.op.OpId.{OpId}
use Rattle.gf_ops.specs.declared.op.ObjectId.{ObjectId}
use Rattle.gf_names.proofs.ObjectLemmas.{made_at}
use Rattle.gf_status.proofs.StatusLemmas.{AreStatusesOf, all_of, of_more}
use Rattle.gf_status.proofs.objects.object_statuses.Goals as goal

abbrev no_id : OpId
no_id = record { site = 0; seq = 0 }

pub object_status-requires : goal.object_status-requires
object_status-requires c =
    let objects = rw c.history-history.ensures.ops at c.in_ok-ids.ensures in
    let same = c.as_slice-id-items.ensures in
    let within : c.loop-id.id-index < length c.in_ok-ids.ids = rw same at c.loop-id-test.true in
    rw same (made_at c.args.versions.now c.in_ok-ids.ids c.loop-id.id-index no_id objects within)

pub loop-id-preserved : goal.loop-id-preserved
loop-id-preserved c =
    let h = c.args.versions.now in
    let ids = c.as_slice-id-items.result.now in
    let n = c.loop-id.id-index in
    let s = c.in_ok-object_status.field-0 in
    let is = c.in_ok-object_status.ensures in
    let named : s.object.0 ≡ get_or ids n no_id = ap (λ (o : ObjectId). o.0) is.object in
    rw (take_more ids n no_id c.loop-id-test.true, c.in_ok-push.ensures.items)
    (of_more h (take n ids) c.loop-id.found.items c.loop-id.invariant s (get_or ids n no_id) named
    is.status)

pub returns : goal.returns
returns c =
    let h = c.args.versions.now in
    let ids = c.in_ok-ids.ids in
    let objects = rw c.history-history.ensures.ops at c.in_ok-ids.ensures in
    let same = c.as_slice-id-items.ensures in
    let past : length ids ≤ c.loop-id.id-index = rw same at c.loop-id-test.false in
    let so_far = rw same at c.loop-id.invariant in
    all_of h ids c.loop-id.found.items objects
    (subst (λ is. AreStatusesOf h is c.loop-id.found.items) (take_all c.loop-id.id-index ids past)
    so_far)
