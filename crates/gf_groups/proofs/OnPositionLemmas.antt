-- Operations at positions of a history: whether they are on an object, and whether they conflict.
use Rattle.std.proofs.Common.{◌≡◌, ◌≢◌, ℕ, true, List, length, refl, sym, ap, subst}
use Rattle.std.specs.Prelude.{◌↔◌, Contains, Option, Some, None, slice_get, not, ◌==◌}
use Rattle.std.proofs.lemmas.Bool.{and_parts, and_from}
use Rattle.std.proofs.lemmas.Bool.Decides.{Decides-eqb, Decides-not}
use Rattle.std.proofs.lemmas.Option.{slice_get_read, slice_get_within}
use Rattle.gf_base.proofs.PositionLemmas.{contained_at}
use Rattle.gf_ops.specs.declared.op.Op.{Op}
use Rattle.gf_ops.specs.declared.op.OpId.{OpId}
use Rattle.gf_ops.specs.declared.op.ObjectId.{ObjectId}
use Rattle.gf_ops.specs.declared.change.Change.{Change}
use Rattle.gf_ops.specs.declared.change.Change.TheVariants.{Create, Set}
use Rattle.gf_ops.specs.Attribute.{Kind, made_kind, object_of, changed_object}
use Rattle.gf_ops.specs.Conflict.{Conflict}
use Rattle.gf_ops.specs.ValidHistory.{IsValid}
use Rattle.gf_ops.proofs.ConflictLemmas.{conflict_irreflexive}
use Rattle.gf_table.specs.Positions.{is_on, positions_on}
use Rattle.gf_groups.specs.Growing.{both_conflict, conflict_at}
use Rattle.gf_table.proofs.StandsLemmas.{tied_is_one, tied_with_itself}
use Rattle.gf_groups.proofs.ConflictTestLemmas.{conflict_decided}
use Rattle.gf_groups.proofs.PositionLemmas.{Contains-positions_on}

-- an operation that makes an object is on it
pub made_object : (i : OpId) (c : Change) (k : Kind) → made_kind c ≡ Some k
    → (changed_object i c).0 ≡ i
made_object i (Create start) k e = refl
made_object i (Set o v aim) k e = absurd cc

module _ (o : ObjectId) where
  pub on_from : (a : Op) → is_on o (Some a) ≡ true → object_of a ≡ o
  on_from a t = tied_is_one (object_of a) o t

  pub on_to : (a : Op) → object_of a ≡ o → is_on o (Some a) ≡ true
  on_to a e = tied_with_itself (object_of a) o e

  -- what is on the object is an operation
  pub on_op : (r : Option Op) → is_on o r ≡ true → (a : Op) × (r ≡ Some a) × (object_of a ≡ o)
  on_op (Some a) t = (a, refl, on_from a t)
  on_op None t = absurd cc

both_from : (h : List Op) (r s : Option Op) (a b : Op) → r ≡ Some a → s ≡ Some b → Conflict h a b
    → both_conflict h r s ≡ true
both_from h r s a b e f k = rw (e, f) ((conflict_decided h a b).1 k)

both_with : (h : List Op) (r s : Option Op) (a : Op) → r ≡ Some a → both_conflict h r s ≡ true
    → (b : Op) × (s ≡ Some b) × Conflict h a b
both_with h (Some x) (Some b) a e t = (
  b,
  refl,
  let q : x ≡ a = cc in let k = (conflict_decided h x b).0 t in rw q at k,
)
both_with h (Some x) None a e t = absurd cc
both_with h None s a e t = absurd cc

module _ (h : List Op) where
  -- an operation of h has a position
  pub position_of_op : (a : Op) → Contains h a → (i : ℕ) × (slice_get h i ≡ Some a)
  position_of_op a (i, l, e) = (i, slice_get_read h (length h) i a refl l (sym e))

  -- two positions conflict where their operations do
  pub conflict_from : IsValid h → (i j : ℕ) (a b : Op) → slice_get h i ≡ Some a
      → slice_get h j ≡ Some b → Conflict h a b → conflict_at h i j ≡ true
  conflict_from valid i j a b e f k =
      let other : i ≢ j = λ q.
      let one : a ≡ b = let g : slice_get h j ≡ Some a = subst (λ n. slice_get h n ≡ Some a) q e in
      cc in
      conflict_irreflexive h valid a (contained_at h i a e) (subst (Conflict h a) (sym one) k) in
      and_from (not (i == j)) (both_conflict h (slice_get h i) (slice_get h j))
      ((Decides-not (i == j) (Decides-eqb i j)).1 other)
      (both_from h (slice_get h i) (slice_get h j) a b e f k)

  pub conflict_with : (i j : ℕ) (a : Op) → slice_get h i ≡ Some a → conflict_at h i j ≡ true
      → (b : Op) × (slice_get h j ≡ Some b) × Conflict h a b
  conflict_with i j a e t = both_with h (slice_get h i) (slice_get h j) a e
      (and_parts (not (i == j)) (both_conflict h (slice_get h i) (slice_get h j)) t).1

  -- the positions below the length are all positions of operations on the object
  pub all_positions : (o : ObjectId) (i : ℕ) → Contains (positions_on h o) i
      ↔ (is_on o (slice_get h i) ≡ true)
  all_positions o i = (
    λ c. ((Contains-positions_on h o i).0 c).1,
    λ t. let w = on_op o (slice_get h i) t in (Contains-positions_on h o i).1
        (slice_get_within h i w.0 w.1, t),
  )
