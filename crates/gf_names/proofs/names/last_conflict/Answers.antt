use Rattle.std.proofs.Common.{Option, ◌+◌, subst, sym, take}
use Rattle.gf_ops.specs.declared.op.OpId.{OpId}
use Rattle.gf_names.specs.LastConflict.{TellsLast}
use Rattle.gf_names.proofs.TellingLemmas.{last_more, last_same, last_all}
use Rattle.gf_names.proofs.names.last_conflict.Goals as goal
use Rattle.gf_names.proofs.names.last_conflict.Goals.{then-is_later, else-is_later}

pub loop-id-preserved : goal.loop-id-preserved
loop-id-preserved c =
    let h = c.args.history.now.ops in
    let n = c.loop-id.id-index in
    elim c.if-is_later.branch [
      | then-is_later w ↦
          let p = c.is_later.ensures.0 w.if-is_later.true in
          subst (λ (l : Option OpId). TellsLast h (take (n + 1) c.args.ids.now) c.args.other.now l)
          (sym w.last-is)
          (last_more h c.args.other.now c.args.ids.now n _ c.loop-id-test.true c.loop-id.last
          c.loop-id.invariant p.0 p.1)
      | else-is_later w ↦
          subst (λ (l : Option OpId). TellsLast h (take (n + 1) c.args.ids.now) c.args.other.now l)
          (sym w.last-is)
          (last_same h c.args.other.now c.args.ids.now n _ c.loop-id-test.true c.loop-id.last
          c.loop-id.invariant
          (λ p. let t = c.is_later.ensures.1 p in let f = w.if-is_later.false in absurd cc))
    ]

pub returns : goal.returns
returns c = last_all c.args.history.now.ops c.args.other.now c.args.ids.now c.loop-id.id-index
    c.loop-id.last c.loop-id-test.false c.loop-id.invariant
