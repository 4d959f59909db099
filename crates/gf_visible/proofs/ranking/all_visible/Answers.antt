use Rattle.std.proofs.Common.{◌≡◌, length, arith, rules}
use Rattle.std.specs.Prelude.{vec_len}
use Rattle.std.proofs.lemmas.List.{length-append}
use Rattle.gf_visible.specs.ShownVersions.{IsVisibleGroup}
use Rattle.gf_visible.proofs.RankingLemmas.{have_next, is_next, more_with_next}
use Rattle.gf_visible.proofs.VisibleLemmas.{have_none_yet}
use Rattle.gf_visible.proofs.ranking.all_visible.Goals as goal

pub loop-op-init : goal.loop-op-init
loop-op-init c = let h = c.args.versions.now in
    rw c.new-groups.ensures.items
    (record { visible = have_none_yet h (IsVisibleGroup h); few = omega arith })

pub returns-in-None : goal.returns-in-None
returns-in-None c =
    let h = c.args.versions.now in
    let n = c.loop-op.op-index in
    let a = c.op-item.result in
    let next = is_next h c.ops-op-items.result.now n a c.ops-op-items.ensures.ops
    c.loop-op-test.true c.op-item.is in
    let count : vec_len c.loop-op.groups ≡ length c.loop-op.groups.items = search rules in
    let more = rw (c.in-None.is, c.len.ensures, count) at c.in_ok-more.ensures in
    more_with_next h c.ops-op-items.ensures.valid n a next c.loop-op.groups.items c.args.most
    c.loop-op.invariant.visible c.loop-op.invariant.few more

pub loop-op-preserved : goal.loop-op-preserved
loop-op-preserved c =
    let h = c.args.versions.now in
    let n = c.loop-op.op-index in
    let a = c.op-item.result in
    let next = is_next h c.ops-op-items.result.now n a c.ops-op-items.ensures.ops
    c.loop-op-test.true c.op-item.is in
    let count : vec_len c.loop-op.groups ≡ length c.loop-op.groups.items = search rules in
    let more = rw (c.in-Some.is, c.len.ensures, count) at c.in_ok-more.ensures in
    let groups = c.loop-op.groups.items in
    let few = c.loop-op.invariant.few in
    let left = more.1 in
    let len = length-append groups c.in-Some.more.items in
    rw c.in_ok-append-in-Some.ensures.items (record {
      visible = have_next h c.ops-op-items.ensures.valid n a next (IsVisibleGroup h) groups
          c.in-Some.more.items c.loop-op.invariant.visible more.0;
      few = omega (arith, few, left, len);
    })
