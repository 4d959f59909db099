use Rattle.std.proofs.Common.{BTreeMap, Bor, List, ℕ, ◌++◌, ◌∙◌, subst, sym}
use Rattle.std.specs.Prelude.{Contains}
use Rattle.gf_ops.specs.declared.op.ObjectId.{ObjectId}
use Rattle.gf_table.specs.declared.positions.Positions.{Positions}
use Rattle.gf_fig_tokens.specs.Layout.{lines}
use Rattle.gf_take_run.specs.ChangedObjects.{NamesObject}
use Rattle.gf_take_run.specs.ShownItems.{HasLinesOf, HasNamesOf}
use Rattle.gf_take_run.proofs.ShownLemmas.{named_more}
use Rattle.gf_take_run.proofs.showing.named_objects.Goals as goal
use Rattle.gf_take_run.proofs.showing.named_objects.Goals.{in-Some+in_ok-begins, in_default}
use Rattle.gf_take_run.proofs.showing.named_objects.Goals.{in-Some-behind_line+in_ok-push_position}
use Rattle.gf_take_run.proofs.showing.named_objects.Goals.{in_default-behind_line}

pub loop-index-preserved : goal.loop-index-preserved
loop-index-preserved c =
    let fig = c.args.fig.now in
    let before = c.loop-index.invariant in
    let Named : BTreeMap ObjectId Positions → Type 0 = λ t. HasNamesOf fig t.entries in
    let Rest : Bor (List ℕ) → Type 0 = λ r. HasLinesOf fig r.now in
    elim c.match-name.branch [
      | in-Some+in_ok-begins w ↦ elim w.match-behind_line.branch [
        | in-Some-behind_line+in_ok-push_position v ↦
            let first = v.in-Some-behind_line.ensures in
            let object = w.in-Some.name.name.object in
            let line = subst (λ (b : List ℕ). Contains (lines fig) (b ++ first.rest))
            (w.deref.ensures.value ∙ w.in_ok-begins.ensures)
            (before.rest (w.deref.result.now ++ first.rest) first.line) in
            let names : NamesObject fig object = record { rest = first.rest; line = line } in
            record {
              named = subst Named (sym (w.named-is ∙ v.named-is))
                  (named_more fig object c.loop-index.index c.loop-index.named.entries
                  v.push_position.new.objects.entries v.in_ok-push_position.ensures.ok before.named
                  names);
              rest = subst Rest (sym (w.rest-is ∙ v.rest-is))
                  (λ other i. before.rest other (first.part other i));
            }
        | in_default-behind_line v ↦ record {
          named = subst Named (sym (w.named-is ∙ v.named-is)) before.named;
          rest = subst Rest (sym (w.rest-is ∙ v.rest-is)) before.rest;
        }
      ]
      | in_default w ↦ record {
        named = subst Named (sym w.named-is) before.named;
        rest = subst Rest (sym w.rest-is) before.rest;
      }
    ]
