-- The objects on which a history and its base differ.
use Rattle.std.proofs.Common.{◌≡◌, ℕ, ◌+◌, ◌<◌, List, [], ◌∷◌, ◌++◌, get_or, length, sym, ◌∙◌}
use Rattle.std.proofs.Common.{ap, inl, inr, subst, take}
use Rattle.std.specs.Prelude.{◌⊎◌, Contains}
use Rattle.std.proofs.lemmas.List.{take_more}
use Rattle.std.proofs.lemmas.List.Elements.{Contains-append_cases, Contains-append_left}
use Rattle.std.proofs.lemmas.List.Elements.{Contains-append_right, Contains-push_cases}
use Rattle.gf_ops.specs.declared.op.Op.{Op}
use Rattle.gf_ops.specs.declared.op.ObjectId.{ObjectId}
use Rattle.gf_ops.specs.Attribute.{object_of}
use Rattle.gf_ops.specs.ValidHistory.{IsValid}
use Rattle.gf_ops.proofs.ValidityLemmas.{same_op}
use Rattle.gf_kept.specs.SameOn.{HaveSameBut}

-- each of these operations is in the base, or its object is told
abbrev pub AreToldApart : List Op → List ObjectId → List Op → Type 0
AreToldApart base objects ops = (a : Op) → Contains ops a
    → Contains base a ⊎ Contains objects (object_of a)

pub told_apart : (base : List Op) (old new : List ObjectId) (ops : List Op) (k : ℕ) (a : Op)
    → k < length ops → a ≡ get_or ops k a → AreToldApart base old (take k ops)
    → ((o : ObjectId) → Contains old o → Contains new o)
    → Contains base a ⊎ Contains new (object_of a) → AreToldApart base new (take (k + 1) ops)
told_apart base old new ops k a l is before stays now x there =
    elim (Contains-push_cases (take k ops) a x (subst (λ (os : List Op). Contains os x) more there)) [
      | inl c ↦ elim (before x c) [ inl b ↦ inl b | inr o ↦ inr (stays (object_of x) o) ]
      | inr e ↦ subst (λ y. Contains base y ⊎ Contains new (object_of y)) e now
    ]
  where
    more : take (k + 1) ops ≡ take k ops ++ a ∷ []
    more = take_more ops k a l ∙ ap (λ (b : Op). take k ops ++ b ∷ []) (sym is)

-- an operation of the history whose id the base has is in the base
pub in_base : (h base : List Op) → IsValid h → ((a : Op) → Contains base a → Contains h a)
    → (a b : Op) → Contains h a → Contains base b → b.id ≡ a.id → Contains base a
in_base h base valid within a b there inside e =
    subst (Contains base) (same_op h valid b a (within b inside) there e) inside

pub same_but : (h base : List Op) (objects : List ObjectId)
    → ((a : Op) → Contains base a → Contains h a) → AreToldApart base objects h
    → HaveSameBut objects h base
same_but h base objects within all o other a on = (
  λ there. elim (all a there) [
    | inl b ↦ b
    | inr c ↦ absurd (other (subst (Contains objects) on c))
  ],
  within a,
)

-- with the same operations behind both they differ on the same objects
pub same_behind : (objects : List ObjectId) (h base new : List Op) → HaveSameBut objects h base
    → HaveSameBut objects (base ++ new) (h ++ new)
same_behind objects h base new same o other a on = (
  λ there. elim (Contains-append_cases base new a there) [
    | inl c ↦ Contains-append_left h new a ((same o other a on).1 c)
    | inr c ↦ Contains-append_right h new a c
  ],
  λ there. elim (Contains-append_cases h new a there) [
    | inl c ↦ Contains-append_left base new a ((same o other a on).0 c)
    | inr c ↦ Contains-append_right base new a c
  ],
)
