-- Conflicts of positions are a relation that has largest sets, and these rise.
use Rattle.std.proofs.Common.{◌≡◌, ℕ, Bool, List, refl, sym}
use Rattle.std.specs.Prelude.{All, Contains, Option, Some, None, slice_get, ◌==◌}
use Rattle.std.proofs.lemmas.Bool.Decides.{Decides-eqb, Decides-like, same_from_decides}
use Rattle.std.proofs.lemmas.List.Elements.{All-weaker, All-contains_itself}
use Rattle.gf_ops.specs.declared.op.Op.{Op}
use Rattle.gf_groups.specs.Growing.{both_conflict, conflict_at}
use Rattle.gf_maximal.specs.LargestSets.{IsRising, AreLargestSets}
use Rattle.gf_groups.proofs.ConflictTestLemmas.{in_conflict-sym}
use Rattle.gf_maximal.proofs.LargestLemmas.{IsConflict}

both_conflict-sym : (h : List Op) (r s : Option Op) → both_conflict h r s ≡ both_conflict h s r
both_conflict-sym h (Some a) (Some b) = in_conflict-sym h a b
both_conflict-sym h (Some a) None = refl
both_conflict-sym h None (Some b) = refl
both_conflict-sym h None None = refl

turned : (i j : ℕ) → (i == j) ≡ (j == i)
turned i j = same_from_decides (i == j) (j == i) (Decides-eqb i j)
    (Decides-like (j == i) (λ e. sym e) (λ e. sym e) (Decides-eqb j i))

pub conflict_at_test : (h : List Op) → IsConflict (conflict_at h)
conflict_at_test h = record {
  symmetric = λ i j. rw (turned i j, both_conflict-sym h (slice_get h i) (slice_get h j)) refl;
  alone = λ i. let e = (Decides-eqb i i).1 refl in rw e refl;
}

pub largest_rise : (c : ℕ → ℕ → Bool) (us : List ℕ) (gs : List (List ℕ)) → AreLargestSets c us gs
    → All IsRising gs
largest_rise c us gs table = All-weaker (Contains gs) IsRising (λ g i. ((table.each g).0 i).0) gs
    (All-contains_itself gs)
