use Rattle.std.proofs.Common.{◌≡◌, ◌+◌, ◌++◌, ◌∷◌, [], Global, Vec, sym, subst, take, ap, ◌∙◌, List}
use Rattle.std.specs.Prelude.{◌↔◌, Contains}
use Rattle.gf_ops.specs.declared.op.Op.{Op}
use Rattle.gf_ops.specs.declared.op.OpId.{OpId}
use Rattle.gf_ops.specs.Attribute.{object_of}
use Rattle.gf_ops.specs.HasOperation.{HasOn}
use Rattle.gf_keep.proofs.AimingLemmas.{on_more, on_same, on_all}
use Rattle.gf_keep.proofs.aiming.ids_on.Goals as goal
use Rattle.gf_keep.proofs.aiming.ids_on.Goals.{then-is_on+in_ok-push, else-is_on}

pub loop-op-preserved : goal.loop-op-preserved
loop-op-preserved c =
    let h = c.ops-op-items.result.now in
    let n = c.loop-op.op-index in
    let x = c.op-item.result in
    elim c.if-is_on.branch [
      | then-is_on+in_ok-push w ↦
          let on = subst (λ (y : Op). object_of y ≡ c.args.object) c.op-item.is
          (c.is_on.ensures.0 w.if-is_on.true) in
          let pushed = ap (λ (v : Vec OpId Global). v.items) w.ids-is
          ∙ (w.in_ok-push.ensures.items ∙ ap (λ (y : Op). c.loop-op.ids.items ++ y.id ∷ [])
          c.op-item.is) in
          on_more h c.args.object n x c.loop-op-test.true c.loop-op.ids.items c.if-is_on.ids.items
          on c.loop-op.invariant pushed
      | else-is_on w ↦
          let off : ¬ (object_of x ≡ c.args.object) = λ e. let t = c.is_on.ensures.1 e in
          let f = w.if-is_on.false in absurd cc in
          let off' = subst (λ (y : Op). ¬ (object_of y ≡ c.args.object)) c.op-item.is off in
          subst (λ (v : Vec OpId Global). (i : OpId) → Contains v.items i ↔ HasOn (take (n + 1) h)
          c.args.object i) (sym w.ids-is)
          (on_same h c.args.object n x c.loop-op-test.true c.loop-op.ids.items off'
          c.loop-op.invariant)
    ]

pub returns : goal.returns
returns c =
    subst (λ (h : List Op). (i : OpId) → Contains c.loop-op.ids.items i ↔ HasOn h c.args.object i)
    c.ops-op-items.ensures.ops
    (on_all c.ops-op-items.result.now c.args.object c.loop-op.op-index c.loop-op.ids.items
    c.loop-op-test.false c.loop-op.invariant)
