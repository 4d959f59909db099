-- What a change aims at: the marks of a group, with what they aim at.
use Rattle.std.proofs.Common.{◌≡◌, ℕ, ◌+◌, ◌≤◌, ◌<◌, List, [], ◌∷◌, ◌++◌, get_or, refl, sym, subst}
use Rattle.std.proofs.Common.{ap, ◌∙◌, inl, inr}
use Rattle.std.specs.Prelude.{◌↔◌, ◌⊎◌, Contains, Ok, Err, Result, IfOk, length, take}
use Rattle.std.proofs.lemmas.List.{take_all, take_more}
use Rattle.std.proofs.lemmas.List.Elements.{Contains-append_left}
use Rattle.std.proofs.lemmas.List.Elements.{Contains-push}
use Rattle.std.proofs.lemmas.List.Elements.{Contains-push_cases}
use Rattle.gf_ops.specs.declared.op.Op.{Op}
use Rattle.gf_ops.specs.declared.op.OpId.{OpId}
use Rattle.gf_ops.specs.declared.op.ObjectId.{ObjectId}
use Rattle.gf_ops.specs.Attribute.{object_of}
use Rattle.gf_ops.specs.ValidHistory.{IsValid}
use Rattle.gf_ops.specs.Version.{IsMember}
use Rattle.gf_ops.specs.HasOperation.{HasOn}
use Rattle.gf_ops.proofs.ValidityLemmas.{same_op}
use Rattle.gf_groups.specs.declared.group.Group.{Group}
use Rattle.gf_names.specs.Aiming.{AreBroughtFrom}
use Rattle.gf_names.specs.Telling.{AreTelling, IsTelling}
use Rattle.gf_keep.specs.Keeping.{AreAimedAt, IsMark, IsOn}
use Rattle.gf_keep.specs.KeepSteps.{AreIdsOn}

-- ---- the ids of the operations on an object

module _ (h : List Op) (o : ObjectId) (n : ℕ) (d : Op) (within : n < length h) where
  abbrev here : Op
  here = get_or h n d

  more : take (n + 1) h ≡ take n h ++ here ∷ []
  more = take_more h n d within

  earlier : (i : OpId) → HasOn (take n h) o i → HasOn (take (n + 1) h) o i
  earlier i t = record {
    op = t.op;
    contained = subst (λ (s : List Op). Contains s t.op) (sym more)
        (Contains-append_left (take n h) (here ∷ []) t.op t.contained);
    id = t.id;
    such = t.such;
  }

  cases : (i : OpId) → HasOn (take (n + 1) h) o i
      → HasOn (take n h) o i ⊎ ((here.id ≡ i) × (object_of here ≡ o))
  cases i t = elim (Contains-push_cases (take n h) here t.op
      (subst (λ (s : List Op). Contains s t.op) more t.contained)) [
        | inl c ↦ inl (record { op = t.op; contained = c; id = t.id; such = t.such })
        | inr e ↦ inr (ap (λ (x : Op). x.id) e ∙ t.id, ap object_of e ∙ t.such)
      ]

  pub on_more : (old new : List OpId) → object_of here ≡ o
      → ((i : OpId) → Contains old i ↔ HasOn (take n h) o i) → new ≡ old ++ here.id ∷ []
      → (i : OpId) → Contains new i ↔ HasOn (take (n + 1) h) o i
  on_more old new on was e i = (
    λ c. elim (Contains-push_cases old here.id i (subst (λ (s : List OpId). Contains s i) e c)) [
      | inl k ↦ earlier i ((was i).0 k)
      | inr f ↦ record {
        op = here;
        contained = subst (λ (s : List Op). Contains s here) (sym more)
            (Contains-push (take n h) here);
        id = f;
        such = on;
      }
    ],
    λ t. subst (λ (s : List OpId). Contains s i) (sym e) (elim (cases i t) [
      | inl u ↦ Contains-append_left old (here.id ∷ []) i ((was i).1 u)
      | inr p ↦ subst (Contains (old ++ here.id ∷ [])) p.0 (Contains-push old here.id)
    ]),
  )

  pub on_same : (old : List OpId) → ¬ (object_of here ≡ o)
      → ((i : OpId) → Contains old i ↔ HasOn (take n h) o i) → (i : OpId)
      → Contains old i ↔ HasOn (take (n + 1) h) o i
  on_same old off was i = (
    λ c. earlier i ((was i).0 c),
    λ t. elim (cases i t) [ inl u ↦ (was i).1 u | inr p ↦ absurd (off p.1) ],
  )

pub on_all : (h : List Op) (o : ObjectId) (n : ℕ) (ids : List OpId) → length h ≤ n
    → ((i : OpId) → Contains ids i ↔ HasOn (take n h) o i) → (i : OpId)
    → Contains ids i ↔ HasOn h o i
on_all h o n ids l was = subst (λ (s : List Op). (i : OpId) → Contains ids i ↔ HasOn s o i)
    (take_all n h l) was

-- ---- the whole aim

module _ (h : List Op) (valid : IsValid h) (g : Group) (others : List OpId)
    (on : AreIdsOn h g.object others) where
  member_on : (x : Op) → IsMember h others x → IsOn h g.object x
  member_on x m = let t = (on x.id).0 m.grouped in record {
    contained = m.contained;
    object = ap object_of (same_op h valid x t.op m.contained t.contained (sym t.id)) ∙ t.such;
  }

  on_member : (x : Op) → IsOn h g.object x → IsMember h others x
  on_member x t = record {
    contained = t.contained;
    grouped = (on x.id).1 (record {
      op = x;
      contained = t.contained;
      id = refl;
      such = t.object;
    });
  }

  mark_told : (i : OpId) → IsTelling h g.ops (IsMember h others) i ↔ IsMark h g i
  mark_told i = (
    λ t. record {
      op = t.op;
      id = t.id;
      against = t.against;
      other = member_on t.against t.other;
      last = t.last;
    },
    λ t. record {
      op = t.op;
      id = t.id;
      against = t.against;
      other = on_member t.against t.other;
      last = t.last;
    },
  )

  aims_told : (marks aim : List OpId) → AreTelling h g.ops (IsMember h others) marks
      → AreBroughtFrom h marks aim → AreAimedAt h g aim
  aims_told marks aim tells brought = record {
    exactly = λ i. (
      λ c.
          let t = (brought.exactly i).0 c in
          let m = (mark_told t.from).0 ((tells.exactly t.from).0 t.listed) in
          elim t.brought [
            | inl e ↦ inl (subst (IsMark h g) (sym e) m)
            | inr a ↦ inr (record {
              op = a.op;
              contained = a.contained;
              mark = subst (IsMark h g) (sym a.id) m;
              aimed = a.aimed;
            })
          ],
      λ w. (brought.exactly i).1 (elim w [
        | inl m ↦ record {
          from = i;
          listed = (tells.exactly i).1 ((mark_told i).1 m);
          brought = inl refl;
        }
        | inr a ↦ record {
          from = a.op.id;
          listed = (tells.exactly a.op.id).1 ((mark_told a.op.id).1 a.mark);
          brought = inr (record { op = a.op; contained = a.contained; id = refl; aimed = a.aimed });
        }
      ]),
    );
    rising = brought.rising;
  }

  pub aim_told : (ops : List OpId) → ops ≡ g.ops → (marks seen : List OpId) → seen ≡ marks
      → {E : Type 0} (r : Result (List OpId) E) → AreTelling h ops (IsMember h others) marks
      → IfOk r (λ aim. AreBroughtFrom h seen aim) → IfOk r (λ aim. AreAimedAt h g aim)
  aim_told ops same marks seen e (Err x) tells brought = tt
  aim_told ops same marks seen e (Ok aim) tells brought =
      aims_told marks aim
      (subst (λ (s : List OpId). AreTelling h s (IsMember h others) marks) same tells)
      (subst (λ (s : List OpId). AreBroughtFrom h s aim) e brought)
