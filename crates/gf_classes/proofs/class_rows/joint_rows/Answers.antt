use Rattle.std.proofs.Common.{ap, subst, sym, length, [], ◌+◌, ◌∙◌}
use Rattle.std.specs.Prelude.{slice_index_or}
use Rattle.std.proofs.lemmas.List.{get_or_default, length_push}
use Rattle.gf_classes.specs.ClassRows.{IsJointRow}
use Rattle.gf_classes.proofs.ClassRowLemmas.{pushed_each}
use Rattle.gf_classes.proofs.class_rows.joint_rows.Goals as goal

pub loop-own-preserved : goal.loop-own-preserved
loop-own-preserved c =
    let owns = c.args.owns.now in
    let old = c.loop-own.found.items in
    let made = c.in_ok-joint_row.field-0 in
    let item = c.own-item.is
    ∙ (get_or_default owns c.loop-own.own-index c.own-item.result [] c.loop-own-test.true
    ∙ ap (λ z. slice_index_or owns z []) (sym c.loop-own.invariant.count)) in
    record {
      count = ap length c.in_ok-push.ensures.items
          ∙ (length_push old made ∙ ap (λ z. z + 1) c.loop-own.invariant.count);
      each = pushed_each (λ j y. IsJointRow c.args.rows.now owns (slice_index_or owns j []) y) old
          c.push.new.self.items made c.in_ok-push.ensures.items c.loop-own.invariant.each
          (subst (λ z. IsJointRow c.args.rows.now owns z made) item c.in_ok-joint_row.ensures);
    }
