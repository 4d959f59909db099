use Rattle.std.proofs.Common.{◌<◌, ◌≤◌, length, subst, sym, take}
use Rattle.std.proofs.lemmas.List.{take_all, take_more}
use Rattle.std.specs.Prelude.{Contains, List}
use Rattle.gf_base.proofs.ListLemmas.{not_Contains-nil}
use Rattle.gf_ops.specs.declared.op.OpId.{OpId}
use Rattle.gf_names.proofs.ObjectLemmas.{made_at}
use Rattle.gf_status.specs.ObjectStatuses.{told_ids}
use Rattle.gf_status.proofs.KeptLemmas.{all_there, told_more}
use Rattle.gf_status.proofs.kept.KeptStatuses.refresh.Goals as goal

abbrev no_id : OpId
no_id = record { site = 0; seq = 0 }

pub loop-id-init : goal.loop-id-init
loop-id-init c = record {
  keeps = c.requires;
  all = λ o there. absurd (not_Contains-nil o.0 there);
}

pub add-requires-clause-made : goal.add-requires-clause-made
add-requires-clause-made c =
    let objects = rw c.history.ensures.ops at c.in_ok-ids.ensures in
    let same = c.as_slice-id-items.ensures in
    let within : c.loop-id.id-index < length c.in_ok-ids.ids = rw same at c.loop-id-test.true in
    rw same (made_at c.args.versions.now c.in_ok-ids.ids c.loop-id.id-index no_id objects within)

pub loop-id-preserved : goal.loop-id-preserved
loop-id-preserved c =
    let ids = c.as_slice-id-items.result.now in
    let n = c.loop-id.id-index in
    let added = c.in_ok-add.ensures in
    rw (take_more ids n no_id c.loop-id-test.true) (record {
      keeps = added.keeps;
      all = told_more (take n ids) (told_ids c.loop-id.self) _ _ c.loop-id.invariant.all added.stays
          added.has;
    })

pub returns-clause-statuses : goal.returns-clause-statuses
returns-clause-statuses c =
    let h = c.args.versions.now in
    let ids = c.in_ok-ids.ids in
    let objects = rw c.history.ensures.ops at c.in_ok-ids.ensures in
    let same = c.as_slice-id-items.ensures in
    let past : length ids ≤ c.loop-id.id-index = rw same at c.loop-id-test.false in
    let all = rw same at c.loop-id.invariant.all in
    all_there h c.loop-id.self c.loop-id.invariant.keeps
    (λ o made. all o (subst (λ (is : List OpId). Contains is o.0) (sym (take_all c.loop-id.id-index
    ids past)) ((objects.exactly o).1 made)))
