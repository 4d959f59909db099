-- A table after one more operation stands for the longer history.
use Rattle.std.proofs.Common.{◌≡◌, ◌≢◌, ◌<◌, ℕ, true, false, Bool, List, [], ◌∷◌, ◌++◌, ◌+◌, length}
use Rattle.std.proofs.Common.{zero, suc, inl, inr, refl, subst, sym, ap, ◌∙◌, arith}
use Rattle.std.specs.Prelude.{cond, filter, slice_get}
use Rattle.std.specs.BTreeMap.{is_at}
use Rattle.std.specs.Cmp.{Equal-is, IsTotalOrder}
use Rattle.std.specs.List.{range_with_len}
use Rattle.std.specs.Ordering.{is_eq}
use Rattle.std.proofs.lemmas.Bool.{cases_Bool, cond-true, cond-false}
use Rattle.std.proofs.lemmas.Cmp.{on_total, tied_itself}
use Rattle.std.proofs.lemmas.List.{append-nil, length-append}
use Rattle.std.proofs.lemmas.List.Elements.{filter-append}
use Rattle.std.proofs.lemmas.Map.Lookups.{CmpEqualImpliesEq}
use Rattle.gf_base.proofs.PositionLemmas.{got_last}
use Rattle.gf_ops.specs.declared.op.Op.{Op}
use Rattle.gf_ops.specs.declared.op.ObjectId.{ObjectId}
use Rattle.gf_ops.specs.Attribute.{object_of}
use Rattle.gf_ops.proofs.IdLemmas.{id_cmp_total, id_cmp_exact}
use Rattle.gf_table.specs.Positions.{is_on, object_cmp, positions_on}
use Rattle.gf_table.specs.Standing.{StandsFor, positions_of}

pub object_cmp_total : IsTotalOrder object_cmp
object_cmp_total = on_total (λ (o : ObjectId). o.0) id_cmp_total

object_cmp_exact : CmpEqualImpliesEq object_cmp
object_cmp_exact o p e = let q = id_cmp_exact o.0 p.0 e in λ i. record { 0 = q i }

-- objects that tie are one
pub tied_is_one : (o p : ObjectId) → is_eq (object_cmp o p) ≡ true → o ≡ p
tied_is_one o p t = object_cmp_exact o p ((Equal-is (object_cmp o p)).0 t)

-- an object ties with itself
pub tied_with_itself : (o p : ObjectId) → o ≡ p → is_eq (object_cmp o p) ≡ true
tied_with_itself o p e =
    subst (λ z. is_eq (object_cmp o z) ≡ true) e (ap is_eq (tied_itself object_cmp_total o))

-- ---- positions in a longer history

range_more : (b n : ℕ) → range_with_len b (suc n) ≡ range_with_len b n ++ (b + n) ∷ []
range_more b zero = ap (λ k. k ∷ []) (omega arith)
range_more b (suc n) = ap (λ ks. b ∷ ks) (range_more (b + 1) n
    ∙ ap (λ k. range_with_len (b + 1) n ++ k ∷ []) (omega arith))

same_filtered : (f g : ℕ → Bool) (b n : ℕ) → ((i : ℕ) → i < b + n → f i ≡ g i)
    → filter f (range_with_len b n) ≡ filter g (range_with_len b n)
same_filtered f g b zero e = refl
same_filtered f g b (suc n) e =
    rw (e b (omega arith), same_filtered f g (b + 1) n (λ i l. e i (omega arith))) refl

got_within : {X : Type 0} (xs ys : List X) (i : ℕ) → i < length xs
    → slice_get (xs ++ ys) i ≡ slice_get xs i
got_within [] ys i l = absurd (omega arith)
got_within (x ∷ xs) ys zero l = refl
got_within (x ∷ xs) ys (suc i) l = got_within xs ys i (omega arith)

length_more : {X : Type 0} (xs : List X) (x : X) → length (xs ++ x ∷ []) ≡ suc (length xs)
length_more xs x = let e = length-append xs (x ∷ []) in omega arith

filter_one : (f : ℕ → Bool) (n : ℕ) → f n ≡ true → filter f (n ∷ []) ≡ n ∷ []
filter_one f n t = rw t refl

filter_none : (f : ℕ → Bool) (n : ℕ) → f n ≡ false → filter f (n ∷ []) ≡ []
filter_none f n t = rw t refl

module _ (h : List Op) (a : Op) (o : ObjectId) where
  abbrev longer : List Op
  longer = h ++ a ∷ []

  abbrev is_here : ℕ → Bool
  is_here i = is_on o (slice_get longer i)

  positions_more : positions_on longer o ≡ positions_on h o ++ filter is_here (length h ∷ [])
  positions_more =
      ap (λ n. filter is_here (range_with_len 0 n)) (length_more h a)
      ∙ (ap (filter is_here) (range_more 0 (length h)
      ∙ ap (λ k. range_with_len 0 (length h) ++ k ∷ []) (omega arith))
      ∙ (filter-append is_here (range_with_len 0 (length h)) (length h ∷ [])
      ∙ ap (λ us. us ++ filter is_here (length h ∷ []))
      (same_filtered is_here (λ i. is_on o (slice_get h i)) 0 (length h)
      (λ i l. ap (is_on o) (got_within h (a ∷ []) i (omega arith))))))

  last_here : is_here (length h) ≡ is_eq (object_cmp (object_of a) o)
  last_here = ap (is_on o) (got_last h a)

  positions_with : object_of a ≡ o → positions_on h o ++ length h ∷ [] ≡ positions_on longer o
  positions_with on = sym (positions_more ∙ ap (λ us. positions_on h o ++ us)
      (filter_one is_here (length h) (last_here ∙ tied_with_itself (object_of a) o on)))

  positions_without : object_of a ≢ o → positions_on h o ≡ positions_on longer o
  positions_without off = elim (cases_Bool (is_eq (object_cmp (object_of a) o))) [
    | inl t ↦ absurd (off (tied_is_one (object_of a) o t))
    | inr f ↦ sym (positions_more ∙ (ap (λ us. positions_on h o ++ us)
        (filter_none is_here (length h) (last_here ∙ f)) ∙ append-nil (positions_on h o)))
  ]

-- the object of the operation has one more position, and the others have those that they had
pub stands_after : (h : List Op) (a : Op) (n : ℕ) → n ≡ length h → (o : ObjectId)
    → o ≡ object_of a → (t u : List (ObjectId × List ℕ)) → StandsFor h t
    → ((q : ObjectId) → positions_of u q ≡ cond (is_at (object_cmp o) q)
    (positions_of t o ++ n ∷ []) (positions_of t q))
    → StandsFor (h ++ a ∷ []) u
stands_after h a n len o on t u stands puts q = elim (cases_Bool (is_at (object_cmp o) q)) [
  | inl y ↦
      puts q ∙ (cond-true (is_at (object_cmp o) q) (positions_of t o ++ n ∷ [])
      (positions_of t q) y ∙ (ap (λ us. us ++ n ∷ []) (stands o)
      ∙ (ap (λ k. positions_on h o ++ k ∷ []) len
      ∙ (positions_with h a o (sym on) ∙ ap (positions_on (h ++ a ∷ [])) (tied_is_one o q y)))))
  | inr f ↦
      let off : object_of a ≢ q = λ e.
      let t : is_at (object_cmp o) q ≡ true = tied_with_itself o q (on ∙ e) in absurd cc in
      puts q ∙ (cond-false (is_at (object_cmp o) q) (positions_of t o ++ n ∷ [])
      (positions_of t q) f ∙ (stands q ∙ positions_without h a q off))
]
