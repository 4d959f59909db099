-- The walk over two lists of rising ids finds those that the second one lacks.
use Rattle.std.proofs.Common.{◌≡◌, ℕ, ◌≤◌, true, List, [], ◌∷◌, ◌++◌}
use Rattle.std.proofs.Common.{length, drop, refl, sym, subst, ap, ◌∙◌, inl, inr}
use Rattle.std.proofs.Common.{append-nil}
use Rattle.std.specs.Prelude.{◌↔◌, ◌⊎◌, Contains}
use Rattle.std.specs.List.Sorted.{IsStrictlySortedBy}
use Rattle.std.specs.Ordering.{is_lt}
use Rattle.std.specs.declared.cmp.Ordering.{Ordering}
use Rattle.std.specs.declared.cmp.Ordering.TheVariants.{Less, Equal, Greater}
use Rattle.std.proofs.lemmas.Bool.{cases_Bool}
use Rattle.std.proofs.lemmas.List.{drop_all}
use Rattle.std.proofs.lemmas.List.Elements.{Contains-append_cases, Contains-append_left}
use Rattle.std.proofs.lemmas.List.Elements.{Contains-append_right}
use Rattle.std.proofs.lemmas.Map.Keys.{sorted_tail}
use Rattle.gf_base.proofs.ListLemmas.{Contains-cons_cases, Contains-cons_head, Contains-cons_tail}
use Rattle.gf_base.proofs.ListLemmas.{not_Contains-nil}
use Rattle.gf_base.proofs.RisingLemmas.{below_tail, never_both}
use Rattle.gf_groups.proofs.ConflictTestLemmas.{id_decided}
use Rattle.gf_ops.proofs.IdLemmas.{id_cmp_total}
use Rattle.gf_ops.specs.declared.op.OpId.{OpId}
use Rattle.gf_ops.specs.OperationOrder.{id_cmp}
use Rattle.gf_names.specs.Lacking.{begins_with, from_id, lacking}

abbrev Rise : List OpId → Type 0
Rise ids = IsStrictlySortedBy id_cmp ids

less_from : (o : Ordering) → is_lt o ≡ true → o ≡ Less
less_from Less e = refl
less_from Equal e = absurd cc
less_from Greater e = absurd cc

-- ---- what is left of a list

module _ (i : OpId) where
  from_rises : (ids : List OpId) → Rise ids → Rise (from_id i ids)
  from_rises [] s = s
  from_rises (j ∷ ids) s = elim (cases_Bool (is_lt (id_cmp j i))) [
    | inl t ↦ rw t (from_rises ids (sorted_tail id_cmp j ids s))
    | inr t ↦ rw t s
  ]

  from_within : (ids : List OpId) (k : OpId) → Contains (from_id i ids) k → Contains ids k
  from_within [] k c = c
  from_within (j ∷ ids) k c = elim (cases_Bool (is_lt (id_cmp j i))) [
    | inl t ↦ Contains-cons_tail j ids k (from_within ids k (rw t at c))
    | inr t ↦ rw t at c
  ]

  -- what does not come before i is still there
  from_keeps : (ids : List OpId) (k : OpId) → ¬ (id_cmp k i ≡ Less) → Contains ids k
      → Contains (from_id i ids) k
  from_keeps [] k n c = c
  from_keeps (j ∷ ids) k n c = elim (cases_Bool (is_lt (id_cmp j i))) [
    | inl t ↦ rw t (elim (Contains-cons_cases j ids k c) [
      | inl e ↦ absurd (n (subst (λ (z : OpId). id_cmp z i ≡ Less) (sym e)
          (less_from (id_cmp j i) t)))
      | inr r ↦ from_keeps ids k n r
    ])
    | inr t ↦ rw t c
  ]

  begins_there : (ids : List OpId) → begins_with i ids ≡ true → Contains ids i
  begins_there [] t = absurd cc
  begins_there (j ∷ ids) t =
      subst (Contains (j ∷ ids)) ((id_decided j i).0 t) (Contains-cons_head j ids)

  -- where i is left, it comes first
  from_first : (ids : List OpId) → Rise ids → Contains (from_id i ids) i
      → begins_with i (from_id i ids) ≡ true
  from_first [] s c = absurd (not_Contains-nil i c)
  from_first (j ∷ ids) s c = elim (cases_Bool (is_lt (id_cmp j i))) [
    | inl t ↦ rw t (from_first ids (sorted_tail id_cmp j ids s) (rw t at c))
    | inr t ↦
        let there : Contains (j ∷ ids) i = rw t at c in
        rw t (elim (Contains-cons_cases j ids i there) [
          | inl e ↦ (id_decided j i).1 (sym e)
          | inr r ↦
              let l = below_tail id_cmp id_cmp_total j ids s i r in
              let b : is_lt (id_cmp j i) ≡ true = ap is_lt l in
              absurd cc
        ])
  ]

never_itself : (i : OpId) → ¬ (id_cmp i i ≡ Less)
never_itself i l = never_both id_cmp id_cmp_total i i l l

-- ---- the ids that others lack

module _ (i : OpId) (ids others : List OpId) (s : Rise (i ∷ ids)) where
  -- of the further ids, others and what is left of them have the same
  still : (k : OpId) → Contains ids k → Contains others k → Contains (from_id i others) k
  still k c o = from_keeps i others k (λ l. never_both id_cmp id_cmp_total i k
      (below_tail id_cmp id_cmp_total i ids s k c) l) o

pub lacks : (ids others : List OpId) → Rise ids → Rise others → (k : OpId)
    → Contains (lacking ids others) k ↔ (Contains ids k × ¬ (Contains others k))
lacks [] others s r k =
    ((λ c. absurd (not_Contains-nil k c)), λ p. absurd (not_Contains-nil k p.0))
lacks (i ∷ ids) others s r k =
    let rest = from_id i others in
    let f = lacks ids rest (sorted_tail id_cmp i ids s) (from_rises i others r) k in
    let into : Contains (lacking ids rest) k → Contains (i ∷ ids) k × ¬ (Contains others k) =
    λ c. let p = f.0 c in (
      Contains-cons_tail i ids k p.0,
      λ o. p.1 (still i ids others s k p.0 o),
    ) in
    let back : Contains ids k → ¬ (Contains others k) → Contains (lacking ids rest) k =
    λ c n. f.1 (c, λ o. n (from_within i others k o)) in
    elim (cases_Bool (begins_with i rest)) [
      | inl t ↦ rw t (
        into,
        λ p. elim (Contains-cons_cases i ids k p.0) [
          | inl e ↦ absurd (p.1 (subst (Contains others) (sym e)
              (from_within i others i (begins_there i rest t))))
          | inr c ↦ back c p.1
        ],
      )
      | inr t ↦ rw t (
        (λ c. elim (Contains-cons_cases i (lacking ids rest) k c) [
          | inl e ↦ (
            subst (Contains (i ∷ ids)) (sym e) (Contains-cons_head i ids),
            λ o.
                let there = from_keeps i others i (never_itself i) (subst (Contains others) e o) in
                let first = from_first i others r there in
                absurd cc,
          )
          | inr d ↦ into d
        ]),
        λ p. elim (Contains-cons_cases i ids k p.0) [
          | inl e ↦ subst (Contains (i ∷ lacking ids rest)) (sym e)
              (Contains-cons_head i (lacking ids rest))
          | inr c ↦ Contains-cons_tail i (lacking ids rest) k (back c p.1)
        ],
      )
    ]

-- what is appended are the ids that others lack
appended : (ids others old new : List OpId) → Rise ids → Rise others
    → new ≡ old ++ lacking ids others → (k : OpId)
    → Contains new k ↔ (Contains old k ⊎ (Contains ids k × ¬ (Contains others k)))
appended ids others old new s r e k =
    let f = lacks ids others s r k in
    rw e (
      (λ c. elim (Contains-append_cases old (lacking ids others) k c) [
        | inl a ↦ inl a
        | inr b ↦ inr (f.0 b)
      ]),
      λ w. elim w [
        | inl a ↦ Contains-append_left old (lacking ids others) k a
        | inr b ↦ Contains-append_right old (lacking ids others) k (f.1 b)
      ],
    )

-- the same of a walk that has come to the end of the ids
pub all_walked : (ids others old new rest : List OpId) (n : ℕ) → Rise ids → Rise others
    → length ids ≤ n → new ++ lacking (drop n ids) rest ≡ old ++ lacking ids others → (k : OpId)
    → Contains new k ↔ (Contains old k ⊎ (Contains ids k × ¬ (Contains others k)))
all_walked ids others old new rest n s r l so =
    let none : drop n ids ≡ [] = drop_all n ids l in
    appended ids others old new s r
    (sym (append-nil new) ∙ (ap (λ t. new ++ lacking t rest) (sym none) ∙ so))
