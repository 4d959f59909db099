use Rattle.std.proofs.Common.{rules, arith, ◌≡◌, ◌<◌, ◌≤◌, length, sym, ◌∙◌}
use Rattle.std.proofs.Common.{subst}
use Rattle.std.specs.Prelude.{max}
use Rattle.gf_ops.specs.OperationOrder.{entry}
use Rattle.gf_take.specs.Reaching.{AreReached, reach_at}
use Rattle.gf_take.proofs.ReachLemmas.{item_site, nothing_reached, one_of_two, reach_item_more}
use Rattle.gf_take.proofs.ReachLemmas.{reach_item_same}
use Rattle.gf_take.proofs.bases.reach.Goals.{else-is_own_or_counted, then-is_own_or_counted}
use Rattle.gf_take.proofs.bases.reach.Goals as goal

pub loop-op-init : goal.loop-op-init
loop-op-init c = nothing_reached c.args.site c.args.known.now

pub is_own_or_counted-requires : goal.is_own_or_counted-requires
is_own_or_counted-requires c =
    let within : c.loop-op.op-index < length c.args.ops.now = search (rules, arith) in
    item_site c.args.ops.now c.requires c.loop-op.op-index c.op-item.result within
    c.op-item.is

pub loop-op-preserved : goal.loop-op-preserved
loop-op-preserved c =
    let s = c.args.site in
    let known = c.args.known.now in
    let ops = c.args.ops.now in
    let i = c.loop-op.op-index in
    let a = c.op-item.result in
    let within : i < length ops = search (rules, arith) in
    elim c.if-is_own_or_counted.branch [
      | then-is_own_or_counted w ↦ subst (AreReached s known _) (sym w.reach-is) (λ t is.
          let n = entry c.loop-op.reach t in
          let m = entry w.raised-reach.result t in
          let greater : m ≡ max (reach_at t a) n = w.raised-reach.ensures t is in
          let most : n ≤ m = omega (arith, greater) in
          let least : reach_at t a ≤ m = omega (arith, greater) in
          reach_item_more s known t ops i a within c.op-item.is n m (c.loop-op.invariant t is)
          (sym c.is_own_or_counted.ensures ∙ w.if-is_own_or_counted.true) most least
          (one_of_two (reach_at t a) n m greater))
      | else-is_own_or_counted w ↦ subst (AreReached s known _) (sym w.reach-is) (λ t is.
          reach_item_same s known t ops i a within c.op-item.is (entry c.loop-op.reach t)
          (c.loop-op.invariant t is) (sym c.is_own_or_counted.ensures ∙ w.if-is_own_or_counted.false))
    ]
