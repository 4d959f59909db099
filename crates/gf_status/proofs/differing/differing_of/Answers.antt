use Rattle.std.proofs.Common.{◌≡◌, true, false, get_or, ap, subst, sym, ◌∙◌}
use Rattle.std.proofs.lemmas.List.{take_all, take_more}
use Rattle.gf_ops.specs.declared.change.Attr.{Attr}
use Rattle.gf_ops.specs.declared.change.Attr.TheVariants.{Place}
use Rattle.gf_status.specs.Differing.{AreDifferences, agrees, differs, none}
use Rattle.gf_status.specs.Setters.{some_differ}
use Rattle.gf_status.proofs.DifferingLemmas.{agrees_told, differs_told}
use Rattle.gf_status.proofs.differing.differing_of.Goals as goal
use Rattle.gf_status.proofs.differing.differing_of.Goals.{then-some_differ+in_ok-givers+in_ok-push}
use Rattle.gf_status.proofs.differing.differing_of.Goals.{else-some_differ}

pub loop-attribute-init : goal.loop-attribute-init
loop-attribute-init c = λ o all. rw c.new-found.ensures.items none

pub loop-attribute-preserved : goal.loop-attribute-preserved
loop-attribute-preserved c = λ o all.
    let h = c.args.history.now.ops in
    let valid = c.recall_valid.ensures in
    let groups = c.args.groups.now in
    let ts = c.args.attributes.now in
    let n = c.loop-attribute.attribute-index in
    let t : Attr = get_or ts n Place in
    let vs = c.in_ok-versions.versions.items in
    let before = c.loop-attribute.invariant o all in
    rw (take_more ts n Place c.loop-attribute-test.true) (elim c.if-some_differ.branch [
      | then-some_differ+in_ok-givers+in_ok-push w ↦
          let yes : some_differ t vs ≡ true = ap (some_differ t) (sym c.deref.ensures.value)
          ∙ (sym c.some_differ.ensures ∙ w.if-some_differ.true) in
          rw (w.found-is, w.in_ok-push.ensures.items)
          (differs (record { attribute = t; givers = w.in_ok-givers.givers }) before
          (differs_told h valid o groups all vs c.in_ok-versions.ensures t yes)
          (w.in_ok-givers.ensures o all))
      | else-some_differ w ↦
          let no : some_differ t vs ≡ false = ap (some_differ t) (sym c.deref.ensures.value)
          ∙ (sym c.some_differ.ensures ∙ w.if-some_differ.false) in
          rw w.found-is (agrees t before
          (agrees_told h valid o groups all vs c.in_ok-versions.ensures t no))
    ])

pub returns : goal.returns
returns c = λ o all. subst (λ ts. AreDifferences c.args.history.now.ops o ts
    c.loop-attribute.found.items) (take_all c.loop-attribute.attribute-index c.args.attributes.now
    c.loop-attribute-test.false) (c.loop-attribute.invariant o all)
