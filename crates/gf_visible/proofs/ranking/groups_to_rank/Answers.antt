use Rattle.gf_groups.specs.Versions.{IsVersionGroup}
use Rattle.gf_visible.proofs.RankingLemmas.{have_next, is_next}
use Rattle.gf_visible.proofs.VisibleLemmas.{have_none_yet}
use Rattle.gf_visible.proofs.ranking.groups_to_rank.Goals as goal

pub loop-op-init : goal.loop-op-init
loop-op-init c = let h = c.args.versions.now in
    rw c.new-groups.ensures.items (have_none_yet h (IsVersionGroup h))

pub loop-op-preserved : goal.loop-op-preserved
loop-op-preserved c =
    let h = c.args.versions.now in
    let n = c.loop-op.op-index in
    let a = c.op-item.result in
    let next = is_next h c.ops-op-items.result.now n a c.ops-op-items.ensures.ops
    c.loop-op-test.true c.op-item.is in
    rw c.in_ok-append.ensures.items
    (have_next h c.ops-op-items.ensures.valid n a next (IsVersionGroup h) c.loop-op.groups.items
    c.in_ok-more.more.items c.loop-op.invariant c.in_ok-more.ensures)
