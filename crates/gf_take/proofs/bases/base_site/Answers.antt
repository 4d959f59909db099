use Rattle.std.proofs.Common.{rules, arith, ◌≡◌, ◌<◌, ◌≤◌, ◌+◌, [], ◌∷◌, ◌++◌, length, filter}
use Rattle.std.proofs.Common.{take}
use Rattle.std.proofs.Common.{true, sym, ap, subst, ◌∙◌}
use Rattle.std.proofs.lemmas.List.{take_all}
use Rattle.gf_ops.specs.declared.op.Op.{Op}
use Rattle.gf_ops.specs.Accepted.{AreAccepted, IsAccepted}
use Rattle.gf_ops.specs.ValidHistory.{IsValid}
use Rattle.gf_site.specs.SiteState.{SiteState}
use Rattle.gf_take.specs.Bases.{IsBase}
use Rattle.gf_take.specs.Reaching.{is_counted}
use Rattle.gf_take.proofs.ReachLemmas.{counted_base, item_accepted, item_counted, item_left}
use Rattle.gf_take.proofs.ReachLemmas.{item_site}
use Rattle.gf_take.proofs.bases.base_site.Goals.{else-is_counted}
use Rattle.gf_take.proofs.bases.base_site.Goals.{then-is_counted+in_ok-copy+in_ok-add}
use Rattle.gf_take.proofs.bases.base_site.Goals as goal

pub is_counted-requires : goal.is_counted-requires
is_counted-requires c =
    let ops = c.ops-ops.result.now in
    let valid = subst IsValid (sym c.ops-ops.ensures.ops) c.ops-ops.ensures.valid in
    let within : c.loop-op.op-index < length ops = search (rules, arith) in
    item_site ops valid c.loop-op.op-index c.op-item.result within c.op-item.is

pub add-requires-clause-accepted : goal.add-requires-clause-accepted
add-requires-clause-accepted c =
    let ops = c.ops-ops.result.now in
    let i = c.loop-op.op-index in
    let a = c.op-item.result in
    let valid = subst IsValid (sym c.ops-ops.ensures.ops) c.ops-ops.ensures.valid in
    let run = subst AreAccepted (sym c.ops-ops.ensures.ops) c.ops-ops.ensures.accepted in
    let within : i < length ops = search (rules, arith) in
    let reach = c.reach-reach.result in
    let counted : is_counted reach a ≡ true = sym c.is_counted.ensures ∙ c.if-is_counted.true in
    subst (λ l. IsAccepted l c.in_ok-copy.field-0)
    (sym (ap (λ (x : SiteState). x.ops) c.loop-op.invariant))
    (subst (IsAccepted (filter (is_counted reach) (take i ops))) (sym c.in_ok-copy.ensures)
    (item_accepted c.args.site c.args.known.now ops valid reach c.reach-reach.ensures i a within
    c.op-item.is run counted))

pub loop-op-preserved : goal.loop-op-preserved
loop-op-preserved c =
    let ops = c.ops-ops.result.now in
    let i = c.loop-op.op-index in
    let a = c.op-item.result in
    let reach = c.reach-reach.result in
    let valid = subst IsValid (sym c.ops-ops.ensures.ops) c.ops-ops.ensures.valid in
    let within : i < length ops = search (rules, arith) in
    elim c.if-is_counted.branch [
      | then-is_counted+in_ok-copy+in_ok-add w ↦
          let more = item_counted c.args.site c.args.known.now ops valid reach c.reach-reach.ensures
          i
          a within c.op-item.is (sym c.is_counted.ensures ∙ w.if-is_counted.true) in
          let grown : filter (is_counted reach) (take i ops) ++ w.in_ok-copy.field-0 ∷ []
          ≡ filter (is_counted reach) (take (i + 1) ops) =
          ap (λ (x : Op). filter (is_counted reach) (take i ops) ++ x ∷ []) w.in_ok-copy.ensures
          ∙ sym more in
          w.base-is ∙ (w.in_ok-add.ensures.ok
          ∙ (ap (λ (x : SiteState). record x { ops = x.ops ++ w.in_ok-copy.field-0 ∷ [] })
          c.loop-op.invariant
          ∙ (λ k. record { number = c.args.site; ops = grown k; held = [] })))
      | else-is_counted w ↦
          let same = item_left c.args.site c.args.known.now ops valid reach c.reach-reach.ensures i a
          within c.op-item.is (sym c.is_counted.ensures ∙ w.if-is_counted.false) in
          w.base-is ∙ (c.loop-op.invariant
          ∙ (λ k. record { number = c.args.site; ops = sym same k; held = [] }))
    ]

pub returns-clause-base : goal.returns-clause-base
returns-clause-base c =
    let ops = c.ops-ops.result.now in
    let reach = c.reach-reach.result in
    let valid = subst IsValid (sym c.ops-ops.ensures.ops) c.ops-ops.ensures.valid in
    let run = subst AreAccepted (sym c.ops-ops.ensures.ops) c.ops-ops.ensures.accepted in
    let all : length ops ≤ c.loop-op.op-index = search (rules, arith) in
    let base : c.loop-op.base.ops ≡ filter (is_counted reach) ops =
    ap (λ (x : SiteState). x.ops) c.loop-op.invariant
    ∙ ap (filter (is_counted reach)) (take_all c.loop-op.op-index ops all) in
    subst (λ b. IsBase c.args.site c.args.known.now c.args.history.now.ops b) (sym base)
    (subst (λ h. IsBase c.args.site c.args.known.now h (filter (is_counted reach) ops))
    c.ops-ops.ensures.ops
    (counted_base c.args.site c.args.known.now ops valid reach c.reach-reach.ensures run))
