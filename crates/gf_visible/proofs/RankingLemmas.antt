-- The groups of the visible versions, with those of one operation more.
use Rattle.std.proofs.Common.{◌≡◌, ℕ, ◌+◌, ◌-◌, ◌<◌, ◌≤◌, List, [], ◌∷◌, ◌++◌, get_or, length, take}
use Rattle.std.proofs.Common.{ap, subst, sym, ◌∙◌}
use Rattle.std.proofs.lemmas.List.{take_more}
use Rattle.gf_ops.specs.declared.op.Op.{Op}
use Rattle.gf_ops.specs.ValidHistory.{IsValid}
use Rattle.gf_groups.specs.declared.group.Group.{Group}
use Rattle.gf_visible.specs.VisibleSoFar.{AreVisibleOf, HasMoreGroups, HaveVisible}
use Rattle.gf_visible.proofs.VisibleLemmas.{fresh_next, have_more, more_in_all, next_in}

-- a is the operation of h behind the first n
pub record IsNext (h : List Op) (n : ℕ) (a : Op) : Type 0 where
  within : n < length h
  is : a ≡ get_or h n a

pub is_next : (h ops : List Op) (n : ℕ) (a : Op) → ops ≡ h → n < length ops → a ≡ get_or ops n a
    → IsNext h n a
is_next h ops n a same within is = record {
  within = subst (λ (xs : List Op). n < length xs) same within;
  is = is ∙ ap (λ xs. get_or xs n a) same;
}

module _ (h : List Op) (valid : IsValid h) (n : ℕ) (a : Op) (next : IsNext h n a) where
  pub have_next : (P : Group → Type 0) (groups more : List Group)
      → HaveVisible P h (take n h) groups → HaveVisible P h (a ∷ []) more
      → HaveVisible P h (take (n + 1) h) (groups ++ more)
  have_next P groups more first second =
      let grown : take (n + 1) h ≡ take n h ++ a ∷ [] = take_more h n a next.within
      ∙ ap (λ (z : Op). take n h ++ z ∷ []) (sym next.is) in
      subst (λ (ops : List Op). HaveVisible P h ops (groups ++ more)) (sym grown)
      (have_more h P (take n h) (a ∷ []) groups more (fresh_next h valid n a next.within next.is)
      first second)

  pub more_with_next : (groups : List Group) (m : ℕ) → AreVisibleOf h (take n h) groups
      → length groups ≤ m → HasMoreGroups h (a ∷ []) (m - length groups) → HasMoreGroups h h m
  more_with_next groups m first few more =
      more_in_all h (take n h) (a ∷ []) h groups m (next_in h n a next.within next.is)
      (fresh_next h valid n a next.within next.is) first few more
