-- Strips, painted segment by segment.
use Rattle.std.specs.Prelude.{ℕ, zero, suc, ◌≡◌, ◌⊎◌, ◌<◌, ◌≤◌, Bool, true, false, ◌&&◌, ◌||◌, not}
use Rattle.std.specs.Prelude.{if◌then◌else◌, List, [], ◌∷◌, ◌++◌, Contains, refl}
use Rattle.std.specs.List.Sorted.{IsPermutation}
use Rattle.std.proofs.Common.{arith, ap, sym, subst, inl, inr, ◌∙◌}
use Rattle.std.proofs.lemmas.Bool.{cases_lt}
use Rattle.std.proofs.lemmas.Bool.Decides.{nat_tests}
use Rattle.std.proofs.lemmas.List.Elements.{Contains-append_cases}
use Rattle.std.proofs.lemmas.List.Folds.{list_any-append}
use Rattle.std.proofs.lemmas.List.Sorted.{Contains-permutation, IsPermutation-sym}
use Rattle.std.proofs.lemmas.List.Sorted.{list_any-IsPermutation}
use Rattle.gf_plane.specs.declared.colour.Rgb.{Rgb}
use Rattle.gf_scanline.specs.declared.columns.Columns.{Columns}
use Rattle.gf_scanline.specs.Columns.{is_among, is_from}
use Rattle.gf_scanline.specs.Free.{IsTaken, is_free}
use Rattle.gf_scanline.specs.Segments.{AreSegmentsOf}
use Rattle.gf_scanline.specs.Strips.{IsPainted, SegmentView, Shown, is_painted, over}
use Rattle.gf_scanline.proofs.FreeLemmas.{among_is}
use Rattle.gf_scanline.proofs.WordLemmas.{and_false, and_true}

and_left : (x y : Bool) → (x && y) ≡ true → x ≡ true
and_left true y e = refl
and_left false y e = e

and_right : (x y : Bool) → (x && y) ≡ true → y ≡ true
and_right true y e = e
and_right false y e = absurd cc

not_false : (x : Bool) → not x ≡ true → x ≡ false
not_false true e = sym e
not_false false e = refl

-- ---- what segments paint

pub painted_both : (ss ts : List SegmentView) (k : ℕ)
    → is_painted (ss ++ ts) k ≡ (is_painted ss k || is_painted ts k)
painted_both ss ts k = list_any-append (λ (s : SegmentView). is_among s.columns k) ss ts

none_in : (s : SegmentView) → ¬ (Contains [] s)
none_in s (k, h, e) = absurd (omega arith)

one_in : (t s : SegmentView) → Contains (t ∷ []) s → s ≡ t
one_in t s (zero, h, e) = sym e
one_in t s (suc k, h, e) = absurd (omega arith)

-- ---- what a strip will show

-- a run of the columns that are still to be painted
module _ (target behind : ℕ → Rgb) (n : ℕ) (old new : Shown) (c run : Columns) (colour : Rgb)
    (taken : IsTaken c old.free new.free run)
    (pushed : new.segments ≡ old.segments ++ record { columns = run; colour = colour } ∷ []) where
  -- of the columns behind the run those that were free are free still
  still_behind : (k : ℕ) → is_free old.free k ≡ true → is_among run k ≡ false
      → is_among (record { from = run.to; to = c.to }) k ≡ is_among c k
  still_behind k was out = elim (cases_lt k run.from) [
    | inl l ↦ elim (cases_lt k c.from) [
      | inl m ↦
          let some = taken.some in
          let x : is_from run.to c.to k ≡ false = grind (arith, nat_tests) in
          let y : is_from c.from c.to k ≡ false = grind (arith, nat_tests) in x ∙ sym y
      | inr m ↦ absurd (let e : true ≡ false = sym was ∙ taken.passed k m l in absurd cc)
    ]
    | inr l ↦
        let past : run.to ≤ k = elim (cases_lt k run.to) [
          | inl m ↦ absurd (let e : is_from run.from run.to k ≡ true = grind (arith, nat_tests) in
              let f : true ≡ false = sym e ∙ out in absurd cc)
          | inr m ↦ m
        ] in
        let from = taken.from in
        elim (cases_lt k c.to) [
          | inl m ↦
              let x : is_from run.to c.to k ≡ true = grind (arith, nat_tests) in
              let y : is_from c.from c.to k ≡ true = grind (arith, nat_tests) in x ∙ sym y
          | inr m ↦
              let x : is_from run.to c.to k ≡ false = grind (arith, nat_tests) in
              let y : is_from c.from c.to k ≡ false = grind (arith, nat_tests) in x ∙ sym y
        ]
  ]

  run_within : (k : ℕ) → is_among run k ≡ true → is_among c k ≡ true
  run_within k a = let w = among_is run k a in let from = taken.from in let to = taken.to in
      let l = w.0 in let m = w.1 in grind (arith, nat_tests)

  pub painted_run : IsPainted target (over (is_among c) colour behind) n old
      → IsPainted target (over (is_among (record { from = run.to; to = c.to })) colour behind) n new
  painted_run h = record {
    free = λ k l e.
        let both = sym (taken.left k) ∙ e in
        let was = and_left (is_free old.free k) (not (is_among run k)) both in
        let out = not_false (is_among run k) (and_right (is_free old.free k) (not (is_among run k))
        both) in
        ap (λ t. if t then colour else behind k) (still_behind k was out) ∙ h.free k l was;
    whole = λ k l. rw (
      taken.left k,
      pushed,
      painted_both old.segments (record { columns = run; colour = colour } ∷ []) k,
    ) (cases (is_free old.free k) (is_among run k) (is_painted old.segments k) (h.whole k l));
    colours = λ s k i l a. pick s k l a
        (Contains-append_cases old.segments (record { columns = run; colour = colour } ∷ []) s
        (subst (λ z. Contains z s) pushed i));
  }
    where
      cases : (x y z : Bool) → (x || z) ≡ true → ((x && not y) || (z || (y || false))) ≡ true
      cases true true true e = refl
      cases true true false e = refl
      cases true false z e = refl
      cases false y true e = refl
      cases false y false e = absurd cc

      pick : (s : SegmentView) (k : ℕ) → k < n → is_among s.columns k ≡ true
          → Contains old.segments s ⊎ Contains (record { columns = run; colour = colour } ∷ []) s
          → s.colour ≡ target k
      pick s k l a (inl i) = h.colours s k i l a
      pick s k l a (inr i) =
          let one = one_in (record { columns = run; colour = colour }) s i in
          let among : is_among run k ≡ true = subst
          (λ (z : SegmentView). is_among z.columns k ≡ true) one a in
          let there = h.free k l (taken.free k among) in
          ap (λ (z : SegmentView). z.colour) one ∙ (rw (run_within k among) at there)

-- what is free behind the columns that were painted
module _ (old mid : List ℕ) (c rest : Columns) (from : c.from ≤ rest.from) (left : (k : ℕ)
    → is_free mid k ≡ (is_free old k && not (is_from c.from rest.from k))) where
  painted_out : (k : ℕ) → is_from c.from rest.from k ≡ true → is_free mid k ≡ false
  painted_out k e = left k ∙ (rw e (and_false (is_free old k)))

  kept_out : (k : ℕ) → is_from c.from rest.from k ≡ false → is_free mid k ≡ is_free old k
  kept_out k e = left k ∙ (rw e (and_true (is_free old k)))

  pub free_behind : (new : List ℕ) (run : Columns) → IsTaken rest mid new run → (k : ℕ)
      → is_free new k ≡ (is_free old k && not (is_from c.from run.to k))
  free_behind new run t k = elim (cases_lt k run.from) [
    | inl l ↦ elim (cases_lt k rest.from) [
      | inl m ↦ elim (cases_lt k c.from) [
        | inl o ↦
            let x : is_from c.from rest.from k ≡ false = grind (arith, nat_tests) in
            let y : is_among run k ≡ false = grind (arith, nat_tests) in
            let z : is_from c.from run.to k ≡ false = grind (arith, nat_tests) in
            t.left k ∙ (rw (y, z) (ap (λ p. p && true) (kept_out k x)))
        | inr o ↦
            let x : is_from c.from rest.from k ≡ true = grind (arith, nat_tests) in
            let z : is_from c.from run.to k ≡ true = let s = t.some in grind (arith, nat_tests) in
            t.left k ∙ (rw (painted_out k x, z) (sym (and_false (is_free old k))))
      ]
      | inr m ↦
          let x : is_from c.from rest.from k ≡ false = grind (arith, nat_tests) in
          let z : is_from c.from run.to k ≡ true = let s = t.some in grind (arith, nat_tests) in
          t.left k ∙ (rw (t.passed k m l, z) (sym (and_false (is_free old k))))
    ]
    | inr l ↦
        let start = t.from in
        let x : is_from c.from rest.from k ≡ false = grind (arith, nat_tests) in
        let same : is_from c.from run.to k ≡ is_among run k = elim (cases_lt k run.to) [
          | inl m ↦ let y : is_among run k ≡ true = grind (arith, nat_tests) in
              let z : is_from c.from run.to k ≡ true = grind (arith, nat_tests) in z ∙ sym y
          | inr m ↦ let y : is_among run k ≡ false = grind (arith, nat_tests) in
              let z : is_from c.from run.to k ≡ false = grind (arith, nat_tests) in z ∙ sym y
        ] in
        t.left k ∙ (rw (kept_out k x, same) refl)
  ]

-- the ground over the ground
pub ground_over : (target : ℕ → Rgb) (test : ℕ → Bool) (ground : Rgb) (n : ℕ) (strip : Shown)
    → IsPainted target (λ _. ground) n strip → IsPainted target (over test ground (λ _. ground)) n
    strip
ground_over target test ground n strip h = record {
  free = λ k l e. same (test k) ∙ h.free k l e;
  whole = h.whole;
  colours = h.colours;
}
  where
    same : (x : Bool) → (if x then ground else ground) ≡ ground
    same true = refl
    same false = refl

-- all that was free has the colour of the ground
pub finished : (target : ℕ → Rgb) (ground : Rgb) (n : ℕ) (old new : Shown)
    → IsPainted target (λ _. ground) n new
    → ((k : ℕ) → is_free new.free
    k ≡ (is_free old.free k && not (is_among (record { from = 0; to = n }) k)))
    → AreSegmentsOf target n new.segments
finished target ground n old new h free = record {
  whole = λ k l.
      let e : is_among (record { from = 0; to = n }) k ≡ true = grind (arith, nat_tests) in
      let none : is_free new.free k ≡ false = free k ∙ (rw e (and_false (is_free old.free k))) in
      rw none at (h.whole k l);
  colours = h.colours;
}

-- segments in another order
pub moved : (target : ℕ → Rgb) (n : ℕ) (xs ys : List SegmentView) → IsPermutation xs ys
    → AreSegmentsOf target n xs → AreSegmentsOf target n ys
moved target n xs ys p h = record {
  whole = λ k l. sym (list_any-IsPermutation (λ (s : SegmentView). is_among s.columns k) xs ys p)
      ∙ h.whole k l;
  colours = λ s k i l a. h.colours s k (Contains-permutation ys xs s (IsPermutation-sym xs ys p) i)
      l a;
}
