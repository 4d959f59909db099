-- Painting from the back leaves the colour of the one in front: of the least depth, and of its
-- depth the last.
--
-- The claim goes down the file with the one in front so far, as if it stood before the rest:
-- painting it, the next one and
-- the rest gives what painting the nearer of the two and the rest gives. That is seen depth by
-- depth: the nearer one hides
-- what lies below it, and at the smaller depths the other one leaves nothing.
use Rattle.std.proofs.Common.{◌≡◌, ℕ, zero, suc, ◌+◌, ◌≤◌, ◌<◌, Bool, true, false, cond, ◌&&◌, List}
use Rattle.std.proofs.Common.{[], ◌∷◌, ◌++◌, reverse, eqb, refl, sym, ap, subst, ◌∙◌, inl, inr}
use Rattle.std.proofs.Common.{arith}
use Rattle.std.specs.Prelude.{All, fold, filter, flat_map, None, Some, Option, option_map}
use Rattle.std.specs.Prelude.{unwrap_or, nat_le}
use Rattle.std.specs.List.{range_with_len}
use Rattle.std.proofs.lemmas.Bool.{cases_Bool, eq-eqb, eqb-true, eqb-false, and_parts}
use Rattle.std.proofs.lemmas.Bool.Decides.{nat_tests}
use Rattle.std.proofs.lemmas.List.{reverse-append, append-nil}
use Rattle.std.proofs.lemmas.List.Elements.{All-head, All-tail}
use Rattle.std.proofs.lemmas.List.Sums.{fold-append}
use Rattle.std.proofs.lemmas.Grind.{flat_map-append}
use Rattle.gf_figures.specs.FrontMost.{nearer}

module _ {F : Type 0} (depth : F → ℕ) where
  -- the figures of fs at depth d
  abbrev pub at : List F → ℕ → List F
  at fs d = filter (λ f. eqb (depth f) d) fs

  -- the figures at k depths from m on, the deepest first
  abbrev pub back : List F → ℕ → ℕ → List F
  back fs m k = flat_map (at fs) (reverse (range_with_len m k))

  back_step : (fs : List F) (m k : ℕ) → back fs m (suc k) ≡ back fs (m + 1) k ++ at fs m
  back_step fs m k =
      ap (flat_map (at fs)) (reverse-append (m ∷ []) (range_with_len (m + 1) k))
      ∙ (flat_map-append (at fs) (reverse (range_with_len (m + 1) k)) (m ∷ [])
      ∙ ap (λ (r : List F). back fs (m + 1) k ++ r) (append-nil (at fs m)))

  module _ {C : Type 0} (holds : F → Bool) (colour : F → C) where
    -- f is painted over c, if it holds
    abbrev pub over : C → F → C
    over c f = cond (holds f) (colour f) c

    -- the figures at k depths from m on are painted over c
    abbrev pub paint : List F → ℕ → ℕ → C → C
    paint fs m k c = fold over c (back fs m k)

    paint_step : (fs : List F) (m k : ℕ) (c : C)
        → paint fs m (suc k) c ≡ fold over (paint fs (m + 1) k c) (at fs m)
    paint_step fs m k c = ap (fold over c) (back_step fs m k)
        ∙ fold-append over c (back fs (m + 1) k) (at fs m)

    -- f is painted over c, if it holds and is at depth d
    abbrev top : ℕ → F → C → C
    top d f c = cond (eqb (depth f) d) (over c f) c

    fold-at : (f : F) (fs : List F) (d : ℕ) (c : C)
        → fold over c (at (f ∷ fs) d) ≡ fold over (top d f c) (at fs d)
    fold-at f fs d c = elim (cases_Bool (eqb (depth f) d)) [
      | inl e ↦ rw e
      | inr e ↦ rw e
    ]

    top_same : (d : ℕ) (f : F) (c : C) → holds f ≡ true → depth f ≡ d → top d f c ≡ colour f
    top_same d f c h e = rw (eq-eqb (depth f) d e, h)

    top_other : (d : ℕ) (f : F) (c : C) → (depth f ≡ d → holds f ≡ false) → top d f c ≡ c
    top_other d f c h = elim (cases_Bool (eqb (depth f) d)) [
      | inl e ↦ rw (e, h (eqb-true (depth f) d e))
      | inr e ↦ rw e
    ]

    -- two lists look the same if they do at each depth
    pub paint_same : (us vs : List F) (m k : ℕ) (c : C)
        → ((d : ℕ) (x : C) → fold over x (at us d) ≡ fold over x (at vs d))
        → paint us m k c ≡ paint vs m k c
    paint_same us vs m zero c same = refl
    paint_same us vs m (suc k) c same =
        paint_step us m k c
        ∙ (ap (λ (x : C). fold over x (at us m)) (paint_same us vs (m + 1) k c same)
        ∙ (same m (paint vs (m + 1) k c) ∙ sym (paint_step vs m k c)))

    -- two lists look the same if they do at the depths before n, and at n whatever lies below
    paint_hidden : (us vs : List F) (n m k : ℕ) (c : C) → m ≤ n → n < m + k →
        ((d : ℕ) (x : C) → d < n → fold over x (at us d) ≡ fold over x (at vs d)) →
        ((x y : C) → fold over x (at us n) ≡ fold over y (at vs n))
        → paint us m k c ≡ paint vs m k c
    paint_hidden us vs n m zero c l u before here = absurd (omega arith)
    paint_hidden us vs n m (suc k) c l u before here =
        let x = paint us (m + 1) k c in
        let y = paint vs (m + 1) k c in
        let step : fold over x (at us m) ≡ fold over y (at vs m) = elim (cases_Bool (eqb n m)) [
          | inl e ↦ subst (λ (d : ℕ). fold over x (at us d) ≡ fold over y (at vs d))
              (eqb-true n m e) (here x y)
          | inr e ↦ let e' = eqb-false n m e in
              let r = paint_hidden us vs n (m + 1) k c (omega arith) (omega arith) before here in
              ap (λ (z : C). fold over z (at us m)) r ∙ before m y (omega arith)
        ] in
        paint_step us m k c ∙ (step ∙ sym (paint_step vs m k c))

    paint_none : (m k : ℕ) (c : C) → paint [] m k c ≡ c
    paint_none m zero c = refl
    paint_none m (suc k) c = paint_step [] m k c ∙ paint_none (m + 1) k c

    -- one alone gives its colour
    paint_one : (f : F) (m k : ℕ) (c : C) → holds f ≡ true → m ≤ depth f → depth f < m + k
        → paint (f ∷ []) m k c ≡ colour f
    paint_one f m zero c h l u = absurd (omega arith)
    paint_one f m (suc k) c h l u =
        paint_step (f ∷ []) m k c
        ∙ (fold-at f [] m (paint (f ∷ []) (m + 1) k c)
        ∙ elim (cases_Bool (eqb (depth f) m)) [
          | inl e ↦ top_same m f (paint (f ∷ []) (m + 1) k c) h (eqb-true (depth f) m e)
          | inr e ↦ let e' = eqb-false (depth f) m e in
              top_other m f (paint (f ∷ []) (m + 1) k c) (λ q. absurd (e' q))
              ∙ paint_one f (m + 1) k c h (omega arith) (omega arith)
        ])

    -- one that does not hold may be left out
    paint_out : (f : F) (fs : List F) (m k : ℕ) (c : C) → holds f ≡ false
        → paint (f ∷ fs) m k c ≡ paint fs m k c
    paint_out f fs m k c h = paint_same (f ∷ fs) fs m k c (λ d x. fold-at f fs d x
        ∙ ap (λ (y : C). fold over y (at fs d)) (top_other d f x (λ _. h)))

    -- a figure may be left out before another that holds and is no deeper
    paint_behind : (g f : F) (fs : List F) (k : ℕ) (c : C) → holds f ≡ true → depth f ≤ depth g
        → depth f < k → paint (g ∷ f ∷ fs) 0 k c ≡ paint (f ∷ fs) 0 k c
    paint_behind g f fs k c h l u = paint_hidden (g ∷ f ∷ fs) (f ∷ fs) (depth f) 0 k c (omega arith)
        (omega arith)
        (λ d x b. fold-at g (f ∷ fs) d x ∙ ap (λ (y : C). fold over y (at (f ∷ fs) d))
        (top_other d g x (λ q. absurd (omega arith))))
        (λ x y. fold-at g (f ∷ fs) (depth f) x
        ∙ (fold-at f fs (depth f) (top (depth f) g x)
        ∙ (ap (λ (z : C). fold over z (at fs (depth f)))
        (top_same (depth f) f (top (depth f) g x) h refl ∙ sym (top_same (depth f) f y h refl))
        ∙ sym (fold-at f fs (depth f) y))))

    -- a figure may be left out after another that holds, unless it holds too and is no deeper
    paint_after : (g f : F) (fs : List F) (k : ℕ) (c : C) → holds g ≡ true → depth g < k
        → (depth f ≤ depth g → holds f ≡ false) →
        paint (g ∷ f ∷ fs) 0 k c ≡ paint (g ∷ fs) 0 k c
    paint_after g f fs k c h u o = paint_hidden (g ∷ f ∷ fs) (g ∷ fs) (depth g) 0 k c (omega arith)
        (omega arith)
        (λ d x b. leaves d x (omega arith))
        (λ x y. fold-at g (f ∷ fs) (depth g) x
        ∙ (fold-at f fs (depth g) (top (depth g) g x)
        ∙ (ap (λ (z : C). fold over z (at fs (depth g)))
        (top_other (depth g) f (top (depth g) g x) (λ q. o (omega arith))
        ∙ (top_same (depth g) g x h refl ∙ sym (top_same (depth g) g y h refl)))
        ∙ sym (fold-at g fs (depth g) y))))
      where
        leaves : (d : ℕ) (x : C) → d ≤ depth g → fold over x (at (g ∷ f ∷ fs) d) ≡ fold over x
            (at (g ∷ fs) d)
        leaves d x b = fold-at g (f ∷ fs) d x
            ∙ (fold-at f fs d (top d g x)
            ∙ (ap (λ (z : C). fold over z (at fs d))
            (top_other d f (top d g x) (λ q. o (omega arith)))
            ∙ sym (fold-at g fs d x)))

    -- the colour of the one in front, or c
    abbrev pub shown : C → Option F → C
    shown c front = unwrap_or (option_map colour front) c

    front_of_some : (g : F) (fs : List F) (k : ℕ) (c : C) → holds g ≡ true → depth g < k
        → All (λ f. depth f < k) fs →
        paint (g ∷ fs) 0 k c ≡ shown c (fold (nearer depth holds) (Some g) fs)
    front_of_some g [] k c h u w = paint_one g 0 k c h (omega arith) (omega arith)
    front_of_some g (f ∷ fs) k c h u w =
        let v = All-head (λ f. depth f < k) f fs w in
        let ws = All-tail (λ f. depth f < k) f fs w in
        elim (cases_Bool (holds f && nat_le (depth f) (depth g))) [
          | inl e ↦ let p = and_parts _ _ e in
              rw e (paint_behind g f fs k c p.0 (grind (arith, nat_tests)) v
              ∙ front_of_some f fs k c p.0 v ws)
          | inr e ↦ rw e (paint_after g f fs k c h u (λ l. grind (arith, nat_tests))
              ∙ front_of_some g fs k c h u ws)
        ]

    -- painting k depths from the back leaves the colour of the one in front
    pub front_shows : (fs : List F) (k : ℕ) (c : C) → All (λ f. depth f < k) fs
        → fold over c (back fs 0 k) ≡ shown c (fold (nearer depth holds) None fs)
    front_shows [] k c w = paint_none 0 k c
    front_shows (f ∷ fs) k c w =
        let v = All-head (λ f. depth f < k) f fs w in
        let ws = All-tail (λ f. depth f < k) f fs w in
        elim (cases_Bool (holds f)) [
          | inl h ↦ rw h (front_of_some f fs k c h v ws)
          | inr h ↦ rw h (paint_out f fs 0 k c h ∙ front_shows fs k c ws)
        ]
