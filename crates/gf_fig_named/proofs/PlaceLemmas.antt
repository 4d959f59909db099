-- The places of items by their objects.
use Rattle.std.proofs.Common.{◌≡◌, true, false, ℕ, ◌+◌, ◌<◌, List, [], ◌∷◌, ◌++◌, get_or, length}
use Rattle.std.proofs.Common.{refl, sym, arith, subst, ◌∙◌, inl, inr}
use Rattle.std.specs.Prelude.{cond, Contains}
use Rattle.std.specs.BTreeMap.{is_at}
use Rattle.std.proofs.lemmas.Bool.{cases_Bool, cases_lt, cond-false, cond-true}
use Rattle.std.proofs.lemmas.List.Elements.{Contains-append_left, Contains-push}
use Rattle.std.proofs.lemmas.List.Elements.{Contains-push_cases}
use Rattle.gf_shape.specs.declared.any_shape.AnyShape.{AnyShape}
use Rattle.gf_ops.specs.declared.op.ObjectId.{ObjectId}
use Rattle.gf_table.specs.Positions.{object_cmp}
use Rattle.gf_table.specs.Standing.{positions_of}
use Rattle.gf_table.proofs.StandsLemmas.{tied_is_one, tied_with_itself}
use Rattle.gf_versions.specs.declared.placed.Placed.{Placed}
use Rattle.gf_fig_named.specs.Places.{ArePlaces}
use Rattle.gf_fig_named.proofs.LackedLemmas.{at_index}

-- the table after one more place is pushed
pub placed_more : (items : List (Placed AnyShape)) (n : ℕ) (x : Placed AnyShape)
    → n < length items → x ≡ get_or items n x → (t u : List (ObjectId × List ℕ))
    → ArePlaces items n t
    → ((o : ObjectId) → positions_of u o ≡ cond (is_at (object_cmp x.key.object) o)
    (positions_of t x.key.object ++ n ∷ []) (positions_of t o))
    → ArePlaces items (n + 1) u
placed_more items n x l is t u places puts = record {
  within = λ o k c. elim (cases_Bool (is_at (object_cmp x.key.object) o)) [
    | inl y ↦ elim (Contains-push_cases (positions_of t x.key.object) n k
        (subst (λ (ks : List ℕ). Contains ks k) (own o y) c)) [
          | inl before ↦ let less = places.within x.key.object k before in omega arith
          | inr e ↦ omega arith
        ]
    | inr f ↦ let less = places.within o k
        (subst (λ (ks : List ℕ). Contains ks k) (other o f) c) in omega arith
  ];
  each = λ k i less at. elim (cases_lt k n) [
    | inl before ↦ kept i.key.object k (places.each k i before at)
    | inr last ↦
        let e : n ≡ k = omega arith in
        let same = at_index items n k x i e l is at in
        subst (λ (m : ℕ). Contains (positions_of u i.key.object) m) e
        (subst (λ (y : Placed AnyShape). Contains (positions_of u y.key.object) n) same
        (subst (λ (ks : List ℕ). Contains ks n)
        (sym (own x.key.object (tied_with_itself x.key.object x.key.object refl)))
        (Contains-push (positions_of t x.key.object) n)))
  ];
}
  where
    own : (o : ObjectId) → is_at (object_cmp x.key.object) o ≡ true
        → positions_of u o ≡ positions_of t x.key.object ++ n ∷ []
    own o y = puts o ∙ cond-true (is_at (object_cmp x.key.object) o)
        (positions_of t x.key.object ++ n ∷ []) (positions_of t o) y

    other : (o : ObjectId) → is_at (object_cmp x.key.object) o ≡ false
        → positions_of u o ≡ positions_of t o
    other o f = puts o ∙ cond-false (is_at (object_cmp x.key.object) o)
        (positions_of t x.key.object ++ n ∷ []) (positions_of t o) f

    kept : (o : ObjectId) (k : ℕ) → Contains (positions_of t o) k → Contains (positions_of u o) k
    kept o k c = elim (cases_Bool (is_at (object_cmp x.key.object) o)) [
      | inl y ↦
          let one = tied_is_one x.key.object o y in
          subst (λ (ks : List ℕ). Contains ks k) (sym (own o y))
          (Contains-append_left (positions_of t x.key.object) (n ∷ []) k
          (subst (λ (p : ObjectId). Contains (positions_of t p) k) (sym one) c))
      | inr f ↦ subst (λ (ks : List ℕ). Contains ks k) (sym (other o f)) c
    ]
