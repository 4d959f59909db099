-- What stands under the id of an operation.
use Rattle.std.proofs.Common.{Bor, ◌≡◌, ◌≢◌, List, inl, inr, refl, ap, subst, sym, ◌∙◌, get_or}
use Rattle.std.specs.Prelude.{Contains, AllPairs, Option, Some, None, IfSome, IfNone, option_copied}
use Rattle.std.proofs.lemmas.Bool.{cases_order}
use Rattle.std.proofs.lemmas.List.{get_or_default}
use Rattle.gf_ops.specs.declared.op.Op.{Op}
use Rattle.gf_causal.specs.declared.standing.Standing.{Standing}
use Rattle.gf_causal.specs.declared.standing.Standing.TheVariants.{Free, Same, Other}
use Rattle.gf_causal.specs.HeldOperations.{IsFree, IsClash, IsKnown, IsNew}
use Rattle.gf_causal.specs.DeliveredPart.{AreOneById}
use Rattle.gf_causal.specs.Keeping.{Compares, Among, IsStanding, joined}

-- operations whose ids differ pairwise are one by id
pub one_of_pairs : (h : List Op) → AllPairs (λ a b. a.id ≢ b.id) h → AreOneById h
one_of_pairs h d a b (i, l, e) (j, m, f) q =
    let g : get_or h j a ≡ b = get_or_default h j a b m ∙ f in
    elim (cases_order i j) [
      | inl p ↦ sym e ∙ ap (λ k. get_or h k a) p ∙ g
      | inr (inl p) ↦ absurd (d i j a p m (ap (λ (x : Op). x.id) e ∙ q
          ∙ sym (ap (λ (x : Op). x.id) g)))
      | inr (inr p) ↦ absurd (d j i a p l (ap (λ (x : Op). x.id) g ∙ sym q
          ∙ sym (ap (λ (x : Op). x.id) e)))
    ]

-- what a look-up under the id of a tells of the list
pub Among-from_Compares : (ops : List Op) (a : Op) (r : Option (Bor Op)) (s : Standing)
    → AreOneById ops →
    IfSome r (λ op. Contains ops op.now × (op.now.id ≡ a.id)) → IfNone r (IsFree ops a.id)
    → Compares (option_copied r) a s → Among ops a s
Among-from_Compares ops a None Free u f n e = n
Among-from_Compares ops a None Same u f n e = absurd cc
Among-from_Compares ops a None Other u f n e = let q = e.1 in absurd cc
Among-from_Compares ops a (Some b) Free u f n e = absurd cc
Among-from_Compares ops a (Some b) Same u f n e =
    let q : b.now ≡ a = cc in
    let h = subst (Contains ops) q f.0 in
    (h, λ o. o.differs (u o.other a o.contained h o.id))
Among-from_Compares ops a (Some b) Other u f n e =
    let q : b.now ≡ e.0 = let p = e.1 in cc in
    record { other = b.now; contained = f.0; id = f.1; differs = λ p. e.2 (sym q ∙ p) }

-- both lists together
pub Stands-joined : (held h : List Op) (a : Op) (s t : Standing) → Among held a s → Among h a t
    → IsStanding held h a (joined s t)
Stands-joined held h a Other t p q = inl p
Stands-joined held h a Free Free p q = record { not_held = p; not_added = q }
Stands-joined held h a Free Same p q = record {
  known = inr q.0;
  alone = λ w. elim w [ inl o ↦ p o.other o.contained o.id | inr o ↦ q.1 o ];
}
Stands-joined held h a Free Other p q = inr q
Stands-joined held h a Same Free p q = record {
  known = inl p.0;
  alone = λ w. elim w [ inl o ↦ p.1 o | inr o ↦ q o.other o.contained o.id ];
}
Stands-joined held h a Same Same p q = record {
  known = inl p.0;
  alone = λ w. elim w [ inl o ↦ p.1 o | inr o ↦ q.1 o ];
}
Stands-joined held h a Same Other p q = inr q

-- a new operation is no other one, and not known
pub not_clash : (held h : List Op) (a : Op) → IsNew held h a → ¬ (IsClash held h a)
not_clash held h a n w = elim w [
  | inl o ↦ n.not_held o.other o.contained o.id
  | inr o ↦ n.not_added o.other o.contained o.id
]

pub not_known : (held h : List Op) (a : Op) → IsNew held h a → ¬ (IsKnown held h a)
not_known held h a n k = elim k.known [ inl c ↦ n.not_held a c refl | inr c ↦ n.not_added a c refl ]
