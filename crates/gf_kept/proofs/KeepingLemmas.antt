-- What is kept of objects, once one is forgotten or one more is put.
use Rattle.std.proofs.Common.{◌≡◌, ◌≢◌, true, List, [], ◌∷◌, ◌++◌, refl, sym, subst, ◌∙◌, inl, inr}
use Rattle.std.specs.Prelude.{◌⊎◌, cond, Contains, IfSome, Some, None}
use Rattle.std.specs.BTreeMap.{is_at}
use Rattle.std.proofs.lemmas.Bool.{cases_Bool, cond-true, cond-false}
use Rattle.std.proofs.lemmas.List.Elements.{Contains-push_cases}
use Rattle.std.proofs.lemmas.Option.{IfSome_then}
use Rattle.gf_base.proofs.ListLemmas.{not_Contains-nil}
use Rattle.gf_shape.specs.declared.any_shape.AnyShape.{AnyShape}
use Rattle.gf_ops.specs.declared.op.Op.{Op}
use Rattle.gf_ops.specs.declared.op.ObjectId.{ObjectId}
use Rattle.gf_ops.specs.Attribute.{object_of}
use Rattle.gf_ops.specs.ValidHistory.{IsValid}
use Rattle.gf_table.specs.Positions.{object_cmp}
use Rattle.gf_table.proofs.StandsLemmas.{tied_with_itself}
use Rattle.gf_versions.specs.declared.placed.Placed.{Placed}
use Rattle.gf_kept.specs.Keeping.{ArePlacedOn, Keeps, kept_of}
use Rattle.gf_kept.specs.SameOn.{HaveSameBut}
use Rattle.gf_kept.proofs.PlacedLemmas.{placed_too}
use Rattle.gf_kept.proofs.SameOnLemmas.{same_beside}

abbrev Kept : Type 0
Kept = List (ObjectId × List (Placed AnyShape))

-- behind an operation on the object that is forgotten, the others have what they had
pub forgotten : (h : List Op) (a : Op) → IsValid h → IsValid (h ++ a ∷ []) → (o : ObjectId)
    → object_of a ≡ o → (old new : Kept) → Keeps h old
    → ((q : ObjectId) → kept_of new q ≡ cond (is_at (object_cmp o) q) None (kept_of old q))
    → Keeps (h ++ a ∷ []) new
forgotten h a valid too o on old new keeps left q = elim (cases_Bool (is_at (object_cmp o) q)) [
  | inl t ↦ subst (λ r. IfSome r (ArePlacedOn (h ++ a ∷ []) q)) (sym (left q
      ∙ cond-true (is_at (object_cmp o) q) None (kept_of old q) t)) tt
  | inr f ↦
      let off : object_of a ≢ q = λ e.
      let t : is_at (object_cmp o) q ≡ true = tied_with_itself o q (sym on ∙ e) in absurd cc in
      subst (λ r. IfSome r (ArePlacedOn (h ++ a ∷ []) q)) (sym (left q
      ∙ cond-false (is_at (object_cmp o) q) None (kept_of old q) f))
      (IfSome_then (kept_of old q) (keeps q)
      (placed_too h (h ++ a ∷ []) valid too q (same_beside h a q off)))
]

-- ---- some objects are forgotten

-- of each object nothing is kept, or what was kept, and then it is none of these
abbrev pub AreForgotten : List ObjectId → Kept → Kept → Type 0
AreForgotten objects old new = (o : ObjectId)
    → (kept_of new o ≡ None) ⊎ ((kept_of new o ≡ kept_of old o) × (¬ (Contains objects o)))

pub none_forgotten : (kept : Kept) → AreForgotten [] kept kept
none_forgotten kept o = inr (refl, λ there. not_Contains-nil o there)

pub forgotten_too : (objects : List ObjectId) (p : ObjectId) (old mid new : Kept)
    → AreForgotten objects old mid
    → ((q : ObjectId) → kept_of new q ≡ cond (is_at (object_cmp p) q) None (kept_of mid q))
    → AreForgotten (objects ++ p ∷ []) old new
forgotten_too objects p old mid new before left o = elim (cases_Bool (is_at (object_cmp p) o)) [
  | inl t ↦ inl (left o ∙ cond-true (is_at (object_cmp p) o) None (kept_of mid o) t)
  | inr f ↦
      let same = left o ∙ cond-false (is_at (object_cmp p) o) None (kept_of mid o) f in
      elim (before o) [
        | inl none ↦ inl (same ∙ none)
        | inr stays ↦ inr (
          same ∙ stays.0,
          λ there. elim (Contains-push_cases objects p o there) [
            | inl c ↦ stays.1 c
            | inr e ↦ let t : is_at (object_cmp p) o ≡ true = tied_with_itself p o e in absurd cc
          ],
        )
      ]
]

pub kept_elsewhere : (h k : List Op) → IsValid h → IsValid k → (objects : List ObjectId)
    → HaveSameBut objects h k → (old new : Kept) → AreForgotten objects old new → Keeps h old
    → Keeps k new
kept_elsewhere h k valid too objects same old new left keeps o = elim (left o) [
  | inl none ↦ subst (λ r. IfSome r (ArePlacedOn k o)) (sym none) tt
  | inr stays ↦ subst (λ r. IfSome r (ArePlacedOn k o)) (sym stays.0)
      (IfSome_then (kept_of old o) (keeps o) (placed_too h k valid too o (same o stays.1)))
]

-- what is kept of an object
pub kept_items : (h : List Op) (kept : Kept) → Keeps h kept → (o : ObjectId)
    (items : List (Placed AnyShape)) → Some items ≡ kept_of kept o → ArePlacedOn h o items
kept_items h kept keeps o items e = subst (λ r. IfSome r (ArePlacedOn h o)) (sym e) (keeps o)
