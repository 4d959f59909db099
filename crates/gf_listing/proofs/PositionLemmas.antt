-- The operations at the positions of an object are those on it.
use Rattle.std.proofs.Common.{◌≡◌, ℕ, List, [], ◌∷◌, ◌++◌, refl, sym, subst, inl, inr}
use Rattle.std.specs.Prelude.{true, Contains, Option, Some, None, filter_map, slice_get}
use Rattle.std.specs.List.{cons_option}
use Rattle.std.proofs.lemmas.List.{append-nil}
use Rattle.std.proofs.lemmas.List.Elements.{filter_map-append}
use Rattle.gf_base.proofs.ListLemmas.{Contains-cons_cases, Contains-cons_head, Contains-cons_tail}
use Rattle.gf_base.proofs.ListLemmas.{not_Contains-nil}
use Rattle.gf_ops.specs.declared.op.Op.{Op}
use Rattle.gf_ops.specs.declared.op.ObjectId.{ObjectId}
use Rattle.gf_base.proofs.PositionLemmas.{contained_at}
use Rattle.gf_table.specs.Positions.{is_on, positions_on}
use Rattle.gf_groups.proofs.OnPositionLemmas.{all_positions, on_from, on_to, position_of_op}
use Rattle.gf_listing.specs.Listed.{AreOn}

module _ (h : List Op) where
  -- the operations at the positions us
  abbrev at_all : List ℕ → List Op
  at_all us = filter_map (slice_get h) us

  -- a is the operation at one of the positions us
  abbrev IsAtOne : List ℕ → Op → Type 0
  IsAtOne us a = (k : ℕ) × Contains us k × (slice_get h k ≡ Some a)

  pub one_more : (us : List ℕ) (k : ℕ) (ops : List Op) (a : Op) → ops ≡ at_all us
      → slice_get h k ≡ Some a → ops ++ a ∷ [] ≡ at_all (us ++ k ∷ [])
  one_more us k ops a e at = rw (filter_map-append (slice_get h) us (k ∷ []), at, e) refl

  pub none_more : (us : List ℕ) (k : ℕ) → slice_get h k ≡ None
      → at_all us ≡ at_all (us ++ k ∷ [])
  none_more us k at = rw (filter_map-append (slice_get h) us (k ∷ []), at)
      (sym (append-nil (at_all us)))

  later : (k : ℕ) (us : List ℕ) (a : Op) → IsAtOne us a → IsAtOne (k ∷ us) a
  later k us a w = (w.0, Contains-cons_tail k us w.0 w.1, w.2)

  from_cons : (r : Option Op) (k : ℕ) (us : List ℕ) (a : Op) → slice_get h k ≡ r
      → (Contains (at_all us) a → IsAtOne us a)
      → Contains (cons_option r (at_all us)) a → IsAtOne (k ∷ us) a
  from_cons (Some b) k us a e f c = elim (Contains-cons_cases b (at_all us) a c) [
    | inl d ↦ (k, Contains-cons_head k us, subst (λ x. slice_get h k ≡ Some x) (sym d) e)
    | inr i ↦ later k us a (f i)
  ]
  from_cons None k us a e f c = later k us a (f c)

  from_all : (us : List ℕ) (a : Op) → Contains (at_all us) a → IsAtOne us a
  from_all [] a c = absurd (not_Contains-nil a c)
  from_all (k ∷ us) a c = from_cons (slice_get h k) k us a refl (from_all us a) c

  to_cons : (r : Option Op) (ops : List Op) (a : Op) → Contains ops a → Contains (cons_option r ops) a
  to_cons (Some b) ops a c = Contains-cons_tail b ops a c
  to_cons None ops a c = c

  to_all : (us : List ℕ) (k : ℕ) (a : Op) → Contains us k → slice_get h k ≡ Some a
      → Contains (at_all us) a
  to_all [] k a c e = absurd (not_Contains-nil k c)
  to_all (i ∷ us) k a c e = elim (Contains-cons_cases i us k c) [
    | inl d ↦
        let at : slice_get h i ≡ Some a = subst (λ n. slice_get h n ≡ Some a) d e in
        subst (λ (r : Option Op). Contains (cons_option r (at_all us)) a) (sym at)
        (Contains-cons_head a (at_all us))
    | inr m ↦ to_cons (slice_get h i) (at_all us) a (to_all us k a m e)
  ]

  -- the operations at the positions of an object are those on it
  pub operations_on : (o : ObjectId) → AreOn h o (filter_map (slice_get h) (positions_on h o))
  operations_on o a = (
    λ c.
        let w = from_all (positions_on h o) a c in
        let told : is_on o (slice_get h w.0) ≡ true = (all_positions h o w.0).0 w.1 in (
          contained_at h w.0 a w.2,
          on_from o a (subst (λ r. is_on o r ≡ true) w.2 told),
        ),
    λ w.
        let p = position_of_op h a w.0 in
        let told : is_on o (slice_get h p.0) ≡ true =
        subst (λ r. is_on o r ≡ true) (sym p.1) (on_to o a w.1) in
        to_all (positions_on h o) p.0 a ((all_positions h o p.0).1 told) p.1,
  )
