use Rattle.std.proofs.Common.{subst, sym}
use Rattle.std.proofs.lemmas.Result.{IfOk-weaker}
use Rattle.gf_groups.specs.Versions.{IsVersionGroup}
use Rattle.gf_visible.proofs.VisibleLemmas.{ranked_have}
use Rattle.gf_visible.proofs.ranking.ranked_all.Goals as goal

pub ranked_of-requires-clause-versions : goal.ranked_of-requires-clause-versions
ranked_of-requires-clause-versions c =
    let have = c.in_ok-groups.ensures in
    λ g i. subst (λ h. IsVersionGroup h g) (sym c.history-history.ensures.ops)
    (have.each g (rw c.deref.ensures.value at i)).0

pub ranked_of-requires-clause-once : goal.ranked_of-requires-clause-once
ranked_of-requires-clause-once c = rw c.deref.ensures.value c.in_ok-groups.ensures.once

pub returns : goal.returns
returns c =
    let h = c.args.versions.now in
    let of = rw c.history-history.ensures.ops at c.ranked_of.ensures.ranked in
    IfOk-weaker c.ranked_of.result _ _ (λ ranked r. ranked_have h c.history-history.ensures.valid
    c.in_ok-groups.groups.items c.in_ok-groups.ensures ranked.items.items
    (rw c.deref.ensures.value at r)) of
