-- The figure in front at a point is the one whose creation no creation that holds the point is
-- above.
use Rattle.std.proofs.Common.{◌≡◌, ℕ, ◌+◌, ◌-◌, ◌≤◌, ◌<◌, Bool, true, false, List, [], ◌∷◌, ◌++◌}
use Rattle.std.proofs.Common.{sym, ap, subst, ◌∙◌, inl, inr, arith}
use Rattle.std.specs.Prelude.{Contains, Option, Some, None, IsTrue, nat_le}
use Rattle.std.proofs.lemmas.Bool.{cases_Bool}
use Rattle.std.proofs.lemmas.Bool.Decides.{nat_tests}
use Rattle.std.proofs.lemmas.List.Elements.{Contains-push_cases, Contains-append_left}
use Rattle.std.proofs.lemmas.List.Elements.{Contains-append_right}
use Rattle.gf_shape.specs.declared.outline.Outline.{Outline}
use Rattle.gf_plane.specs.declared.point.Point.{Point}
use Rattle.gf_shape.specs.FigureMeaning.{outline_holds}
use Rattle.gf_plane.specs.Moving.{minus}
use Rattle.gf_ops.specs.declared.op.Op.{Op}
use Rattle.gf_ops.specs.declared.change.Change.TheVariants.{Create}
use Rattle.gf_ops.specs.declared.change.Start.{Start}
use Rattle.gf_base.proofs.ListLemmas.{Contains-cons_head}
use Rattle.gf_versions.specs.Visible.{form_holds}
use Rattle.gf_figures.specs.declared.figure.Figure.{Figure}
use Rattle.gf_figures.specs.Colours.{Table}
use Rattle.gf_figures.specs.FrontMost.{nearer_at}
use Rattle.gf_objects.specs.Objects.{start_of}
use Rattle.gf_import.specs.Importing.{creation_of}
use Rattle.gf_import.proofs.OrderLemmas.{IsNoHigher}

-- an object that begins with s holds p
abbrev pub start_holds : Start → Point → Bool
start_holds s p = form_holds s.form (minus p s.place)

module _ (table : Table) (p : Point) where
  -- of the operations seen so far the one of f holds p, and none that holds p is above it
  pub record IsFront (seen : List Op) (f : Figure Outline) : Type 0 where
    pub op : Op
    pub contained : Contains seen op
    pub made : op.change ≡ creation_of table f
    pub holds : IsTrue (start_holds (start_of table f) p)
    pub lowest : (b : Op) (t : Start) → Contains seen b → b.change ≡ Create t
        → IsTrue (start_holds t p) → IsNoHigher t.layer b.id.seq (999 - f.depth) op.id.seq

  -- the front is that of the operations seen so far
  abbrev pub FrontOf : List Op → Option (Figure Outline) → Type 0
  FrontOf seen (Some f) = IsFront seen f
  FrontOf seen None = (b : Op) (t : Start) → Contains seen b → b.change ≡ Create t
      → IsTrue (start_holds t p) → ⊥

  module _ (seen : List Op) (a : Op) (f : Figure Outline) (n : ℕ)
      (made : a.change ≡ creation_of table f) (next : a.id.seq ≡ n + 1)
      (below : (b : Op) → Contains seen b → b.id.seq ≤ n) (shallow : f.depth < 1000) where
    same_start : (b : Op) (t : Start) → a ≡ b → b.change ≡ Create t → start_of table f ≡ t
    same_start b t e c =
        let k : Create (start_of table f) ≡ Create t =
        sym made ∙ (ap (λ (o : Op). o.change) e ∙ c) in cc

    there : Contains (seen ++ a ∷ []) a
    there = Contains-append_right seen (a ∷ []) a (Contains-cons_head a [])

    -- a takes the place of what is in front
    taken : IsTrue (start_holds (start_of table f) p)
        → ((b : Op) (t : Start) → Contains seen b → b.change ≡ Create t → IsTrue (start_holds t p)
        → t.layer ≤ 999 - f.depth) → IsFront (seen ++ a ∷ []) f
    taken holds lower = record {
      op = a;
      contained = there;
      made = made;
      holds = holds;
      lowest = λ b t c d h. elim (Contains-push_cases seen a b c) [
        | inl k ↦ let l = below b k in record { layer = lower b t k d h; number = λ e. omega arith }
        | inr e ↦
            let s = same_start b t e d in
            let m : 999 - f.depth ≡ t.layer = ap (λ (x : Start). x.layer) s in
            let q : a.id.seq ≡ b.id.seq = ap (λ (o : Op). o.id.seq) e in
            record { layer = omega arith; number = λ r. omega arith }
      ];
    }

    -- g stays in front
    stays : (g : Figure Outline) → IsFront seen g
        → (IsTrue (start_holds (start_of table f) p) → g.depth < f.depth)
        → IsFront (seen ++ a ∷ []) g
    stays g front deeper = record {
      op = front.op;
      contained = Contains-append_left seen (a ∷ []) front.op front.contained;
      made = front.made;
      holds = front.holds;
      lowest = λ b t c d h. elim (Contains-push_cases seen a b c) [
        | inl k ↦ front.lowest b t k d h
        | inr e ↦
            let s = same_start b t e d in
            let m : 999 - f.depth ≡ t.layer = ap (λ (x : Start). x.layer) s in
            let l = deeper (subst (λ (x : Start). IsTrue (start_holds x p)) (sym s) h) in
            record { layer = omega arith; number = λ r. absurd (omega arith) }
      ];
    }

    -- still nothing holds p
    blank : FrontOf seen None → (IsTrue (start_holds (start_of table f) p) → ⊥)
        → FrontOf (seen ++ a ∷ []) None
    blank none off = λ b t c d h. elim (Contains-push_cases seen a b c) [
      | inl k ↦ none b t k d h
      | inr e ↦ off (subst (λ (x : Start). IsTrue (start_holds x p)) (sym (same_start b t e d)) h)
    ]

    module _ (same : start_holds (start_of table f) p ≡ outline_holds f.shape p) where
      held : outline_holds f.shape p ≡ true → IsTrue (start_holds (start_of table f) p)
      held h = same ∙ h

      off : outline_holds f.shape p ≡ false → IsTrue (start_holds (start_of table f) p) → ⊥
      off h t = let x : outline_holds f.shape p ≡ true = sym same ∙ t in absurd cc

      pub one_more : (front : Option (Figure Outline)) → FrontOf seen front
          → FrontOf (seen ++ a ∷ []) (nearer_at outline_holds p front f)
      one_more None none = elim (cases_Bool (outline_holds f.shape p)) [
        | inl h ↦ rw h (taken (held h) (λ b t c d k. absurd (none b t c d k)))
        | inr h ↦ rw h (blank none (off h))
      ]
      one_more (Some g) front = elim (cases_Bool (outline_holds f.shape p)) [
        | inl h ↦ elim (cases_Bool (nat_le f.depth g.depth)) [
          | inl l ↦ rw (h, l) (taken (held h) (λ b t c d k. let low = (front.lowest b t c d k).layer
              in grind (arith, nat_tests)))
          | inr l ↦ rw (h, l) (stays g front (λ k. grind (arith, nat_tests)))
        ]
        | inr h ↦ rw h (stays g front (λ k. absurd (off h k)))
      ]
