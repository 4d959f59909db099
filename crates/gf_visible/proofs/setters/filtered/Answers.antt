use Rattle.std.proofs.Common.{◌∙◌, ◌+◌, ◌<◌, ℕ, All, sym, subst}
use Rattle.gf_maximal.specs.LargestSets.{IsRising}
use Rattle.gf_visible.proofs.ShowingLemmas.{picked_all, picked_rising}
use Rattle.gf_visible.proofs.setters.filtered.Goals as goal

pub set_of-requires-clause-rising : goal.set_of-requires-clause-rising
set_of-requires-clause-rising g c =
    let kept = c.retain.ensures.filtered in
    subst IsRising (sym (c.deref.ensures.value ∙ kept.4)) (picked_rising kept.0 _
    (subst IsRising (sym c.in_ok-found.ensures.items) c.requires.rising))

pub set_of-requires-clause-bounded : goal.set_of-requires-clause-bounded
set_of-requires-clause-bounded g c =
    let kept = c.retain.ensures.filtered in
    let P : ℕ → Type 0 = λ n. n + 1 < 18446744073709551616 in
    subst (All P) (sym (c.deref.ensures.value ∙ kept.4)) (picked_all P kept.0 _
    (subst (All P) (sym c.in_ok-found.ensures.items) c.requires.bounded))
