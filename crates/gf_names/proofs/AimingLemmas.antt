-- What ids bring: they, with what their operations aim at.
use Rattle.std.proofs.Common.{◌≡◌, ℕ, ◌+◌, ◌≤◌, ◌<◌, List, [], ◌∷◌, ◌++◌, get_or, sym, subst}
use Rattle.std.proofs.Common.{◌∙◌, inl, inr}
use Rattle.std.specs.Prelude.{◌↔◌, ◌⊎◌, Contains, Ok, Err, Result, IfOk, length, take}
use Rattle.std.proofs.lemmas.List.{take_all, take_more}
use Rattle.std.proofs.lemmas.List.Elements.{Contains-append_cases, Contains-append_left}
use Rattle.std.proofs.lemmas.List.Elements.{Contains-append_right, Contains-push}
use Rattle.std.proofs.lemmas.List.Elements.{Contains-push_cases}
use Rattle.gf_base.proofs.ListLemmas.{not_Contains-nil}
use Rattle.gf_ops.specs.declared.op.Op.{Op}
use Rattle.gf_ops.specs.declared.op.OpId.{OpId}
use Rattle.gf_ops.specs.Attribute.{aim_of}
use Rattle.gf_ops.specs.ValidHistory.{IsValid}
use Rattle.gf_ops.proofs.ValidityLemmas.{same_op}
use Rattle.gf_names.specs.Aiming.{AreBroughtFrom, IsBrought, IsBroughtFrom}
use Rattle.gf_names.specs.RisingIds.{IsRisingOf}
use Rattle.gf_names.proofs.AddingLemmas.{added_more}

-- ---- one id

module _ (h : List Op) (j : OpId) where
  pub brought_none : (old new : List OpId) → ((op : Op) → Contains h op → ¬ (op.id ≡ j))
      → new ≡ old ++ j ∷ [] → (i : OpId) → Contains new i ↔ (Contains old i ⊎ IsBrought h j i)
  brought_none old new none e i = (
    λ c. elim (Contains-push_cases old j i (subst (λ (s : List OpId). Contains s i) e c))
        [ inl k ↦ inl k | inr f ↦ inr (inl (sym f)) ],
    λ w. subst (λ (s : List OpId). Contains s i) (sym e) (elim w [
      | inl k ↦ Contains-append_left old (j ∷ []) i k
      | inr b ↦ elim b [
        | inl f ↦ subst (Contains (old ++ j ∷ [])) (sym f) (Contains-push old j)
        | inr t ↦ absurd (none t.op t.contained t.id)
      ]
    ]),
  )

  pub brought_some : IsValid h → (x : Op) → Contains h x → x.id ≡ j → (old mid new aim : List OpId)
      → mid ≡ old ++ j ∷ [] → aim ≡ aim_of x → new ≡ mid ++ aim → (i : OpId)
      → Contains new i ↔ (Contains old i ⊎ IsBrought h j i)
  brought_some valid x there id old mid new aim e a f i = (
    λ c. elim (Contains-append_cases mid aim i (subst (λ (s : List OpId). Contains s i) f c)) [
      | inl k ↦ elim (Contains-push_cases old j i (subst (λ (s : List OpId). Contains s i) e k))
          [ inl l ↦ inl l | inr g ↦ inr (inl (sym g)) ]
      | inr k ↦
          inr
          (inr (record {
            op = x;
            contained = there;
            id = id;
            aimed = subst (λ (s : List OpId). Contains s i) a k;
          }))
    ],
    λ w. subst (λ (s : List OpId). Contains s i) (sym f) (elim w [
      | inl k ↦ Contains-append_left mid aim i (subst (λ (s : List OpId). Contains s i) (sym e)
          (Contains-append_left old (j ∷ []) i k))
      | inr b ↦ elim b [
        | inl g ↦ Contains-append_left mid aim i (subst (λ (s : List OpId). Contains s i) (sym e)
            (subst (Contains (old ++ j ∷ [])) (sym g) (Contains-push old j)))
        | inr t ↦
            let same = same_op h valid t.op x t.contained there (t.id ∙ sym id) in
            Contains-append_right mid aim i (subst (λ (s : List OpId). Contains s i) (sym a)
            (subst (λ (y : Op). Contains (aim_of y) i) same t.aimed))
      ]
    ]),
  )

-- ---- each of the ids

module _ (h : List Op) (ids : List OpId) (n : ℕ) where
  from_more : (d : OpId) → n < length ids → (i : OpId) → IsBroughtFrom h (take (n + 1) ids) i
      ↔ (IsBroughtFrom h (take n ids) i ⊎ IsBrought h (get_or ids n d) i)
  from_more d within i =
      let all = take_more ids n d within in
      let at = get_or ids n d in (
        λ t. elim (Contains-push_cases (take n ids) at t.from
            (subst (λ (s : List OpId). Contains s t.from) all t.listed)) [
              | inl k ↦ inl (record { from = t.from; listed = k; brought = t.brought })
              | inr e ↦ inr (subst (λ (k : OpId). IsBrought h k i) (sym e) t.brought)
            ],
        λ w. elim w [
          | inl t ↦ record {
            from = t.from;
            listed = subst (λ (s : List OpId). Contains s t.from) (sym all)
                (Contains-append_left (take n ids) (at ∷ []) t.from t.listed);
            brought = t.brought;
          }
          | inr b ↦ record {
            from = at;
            listed = subst (λ (s : List OpId). Contains s at) (sym all)
                (Contains-push (take n ids) at);
            brought = b;
          }
        ],
      )

  pub brought_more : (first old new : List OpId) (d : OpId) → n < length ids
      → ((i : OpId) → Contains old i ↔ (Contains first i ⊎ IsBroughtFrom h (take n ids) i))
      → ((i : OpId) → Contains new i ↔ (Contains old i ⊎ IsBrought h (get_or ids n d) i))
      → (i : OpId) → Contains new i ↔ (Contains first i ⊎ IsBroughtFrom h (take (n + 1) ids) i)
  brought_more first old new d within was adds i = added_more (from_more d within i) (was i) (adds i)

  pub brought_all : (first new : List OpId) → length ids ≤ n
      → ((i : OpId) → Contains new i ↔ (Contains first i ⊎ IsBroughtFrom h (take n ids) i))
      → (i : OpId) → Contains new i ↔ (Contains first i ⊎ IsBroughtFrom h ids i)
  brought_all first new l f = subst (λ (s : List OpId). (i : OpId)
      → Contains new i ↔ (Contains first i ⊎ IsBroughtFrom h s i)) (take_all n ids l) f

-- ---- rising

pub brought_rising : (h : List Op) (ids first found given : List OpId) → first ≡ []
    → given ≡ found → {E : Type 0} (r : Result (List OpId) E)
    → ((i : OpId) → Contains found i ↔ (Contains first i ⊎ IsBroughtFrom h ids i))
    → IfOk r (λ aim. IsRisingOf given aim) → IfOk r (λ aim. AreBroughtFrom h ids aim)
brought_rising h ids first found given none same (Err x) all rises = tt
brought_rising h ids first found given none same (Ok aim) all rises =
    let r = subst (λ (s : List OpId). IsRisingOf s aim) same rises in
    record {
      exactly = λ i. (
        λ c. elim ((all i).0 ((r.exactly i).0 c)) [
          | inl k ↦ absurd (not_Contains-nil i (subst (λ (s : List OpId). Contains s i) none k))
          | inr t ↦ t
        ],
        λ t. (r.exactly i).1 ((all i).1 (inr t)),
      );
      rising = r.rising;
    }
