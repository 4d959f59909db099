-- The objects of some operations, counted one operation after the other.
use Rattle.std.proofs.Common.{◌≡◌, ◌≢◌, ℕ, ◌+◌, ◌<◌, Bool, true, List, [], ◌∷◌, ◌++◌, length, take}
use Rattle.std.proofs.Common.{get_or, sym, subst, ap, ◌∙◌, inl, inr, arith}
use Rattle.std.specs.Prelude.{Contains}
use Rattle.std.proofs.lemmas.List.{take_more}
use Rattle.std.proofs.lemmas.List.Elements.{Contains-append_left, Contains-push, Contains-push_cases}
use Rattle.gf_base.proofs.ListLemmas.{Contains-cons_cases, not_Contains-nil}
use Rattle.gf_base.proofs.PairLemmas.{AllPairs-append}
use Rattle.gf_ops.specs.declared.op.Op.{Op}
use Rattle.gf_ops.specs.declared.op.ObjectId.{ObjectId}
use Rattle.gf_ops.specs.declared.change.Change.{Change}
use Rattle.gf_ops.specs.Attribute.{object_of}
use Rattle.gf_take_run.specs.ToldNumbers.{AreObjects}

module _ (such : Change → Bool) where
  pub objects_none : (objects : List ObjectId) → objects ≡ [] → AreObjects such [] objects
  objects_none objects e = subst (AreObjects such []) (sym e) (record {
    each = λ o. (
      λ i. absurd (not_Contains-nil o i),
      λ h. absurd (not_Contains-nil h.op h.contained),
    );
    once = λ i j d h k. absurd (omega arith);
  })

  -- an operation that has the change of one of them, or has not, is among those that were counted
  pub more_same : (ops : List Op) (a : Op) (objects : List ObjectId) → AreObjects such ops objects
      → (such a.change ≡ true → Contains objects (object_of a))
      → AreObjects such (ops ++ a ∷ []) objects
  more_same ops a objects are old = record {
    each = λ o. (
      λ i. let h = (are.each o).0 i in record {
        op = h.op;
        contained = Contains-append_left ops (a ∷ []) h.op h.contained;
        change = h.change;
        object = h.object;
      },
      λ h. elim (Contains-push_cases ops a h.op h.contained) [
        | inl i ↦ (are.each o).1 (record {
          op = h.op;
          contained = i;
          change = h.change;
          object = h.object;
        })
        | inr e ↦ subst (Contains objects) (ap object_of e ∙ h.object)
            (old (subst (λ (b : Op). such b.change ≡ true) (sym e) h.change))
      ],
    );
    once = are.once;
  }

  -- one with such a change of another object is counted
  pub more_new : (ops : List Op) (a : Op) (objects : List ObjectId) → AreObjects such ops objects
      → such a.change ≡ true → ¬ (Contains objects (object_of a))
      → AreObjects such (ops ++ a ∷ []) (objects ++ object_of a ∷ [])
  more_new ops a objects are is new = record {
    each = λ o. (
      λ i. elim (Contains-push_cases objects (object_of a) o i) [
        | inl j ↦ let h = (are.each o).0 j in record {
          op = h.op;
          contained = Contains-append_left ops (a ∷ []) h.op h.contained;
          change = h.change;
          object = h.object;
        }
        | inr e ↦ record {
          op = a;
          contained = Contains-push ops a;
          change = is;
          object = e;
        }
      ],
      λ h. elim (Contains-push_cases ops a h.op h.contained) [
        | inl i ↦ Contains-append_left objects (object_of a ∷ []) o ((are.each o).1 (record {
          op = h.op;
          contained = i;
          change = h.change;
          object = h.object;
        }))
        | inr e ↦ subst (Contains (objects ++ object_of a ∷ [])) (ap object_of e ∙ h.object)
            (Contains-push objects (object_of a))
      ],
    );
    once = AllPairs-append (λ o p. o ≢ p) objects (object_of a ∷ []) are.once
        (λ i j d h k. absurd (omega arith))
        (λ o p i j e. elim (Contains-cons_cases (object_of a) [] p j) [
          | inl q ↦ new (subst (Contains objects) (e ∙ q) i)
          | inr n ↦ absurd (not_Contains-nil p n)
        ]);
  }

  -- one more operation of a list
  pub next : (ops : List Op) (k : ℕ) (a : Op) (objects : List ObjectId) → k < length ops
      → a ≡ get_or ops k a → AreObjects such (take k ops ++ a ∷ []) objects
      → AreObjects such (take (k + 1) ops) objects
  next ops k a objects l is are =
      subst (λ (os : List Op). AreObjects such os objects)
      (sym (take_more ops k a l ∙ ap (λ (b : Op). take k ops ++ b ∷ []) (sym is))) are
