-- Strokes from segments, and bytes from strokes.
use Rattle.std.specs.Prelude.{ℕ, zero, suc, ◌≡◌, ◌≤◌, ◌<◌, ◌+◌, ◌-◌, true, ◌||◌, nat_le, false}
use Rattle.std.specs.Prelude.{Contains, List, [], ◌∷◌, ◌++◌, length, drop, max, min, refl}
use Rattle.std.specs.List.{list_any}
use Rattle.std.specs.List.Sorted.{IsNonDecreasingBy}
use Rattle.std.proofs.Common.{append_assoc, arith, ap, sym, subst, inl, inr, get_or, ◌∙◌}
use Rattle.std.proofs.lemmas.Bool.{cases_lt}
use Rattle.std.proofs.lemmas.Bool.Decides.{nat_tests}
use Rattle.std.proofs.lemmas.List.{append-nil, get_or_default}
use Rattle.std.proofs.lemmas.List.Elements.{Contains-append_right}
use Rattle.std.proofs.lemmas.List.Folds.{Any-from_list_any}
use Rattle.std.proofs.Math.ListN.{drop_of_length-le}
use Rattle.gf_plane.specs.declared.colour.Rgb.{Rgb}
use Rattle.gf_scanline.specs.declared.segment.Segment.{Segment}
use Rattle.gf_scanline.specs.declared.stroke.Stroke.{Stroke}
use Rattle.gf_scanline.specs.Pixels.{pixels}
use Rattle.gf_scanline.specs.Segments.{AreSegmentsOf, views}
use Rattle.gf_scanline.specs.Columns.{is_among}
use Rattle.gf_scanline.specs.Strips.{is_painted}
use Rattle.gf_scanline.specs.Strokes.{AreStrokesFrom, AreStrokesOf}
use Rattle.gf_scanline.proofs.PixelLemmas.{pixels_more, pixels_one, pixels_same}

-- ---- strokes from segments

painted_views : (ss : List Segment) (k : ℕ)
    → is_painted (views ss) k ≡ list_any (λ (s : Segment). is_among s.columns k) ss
painted_views [] k = refl
painted_views (s ∷ ss) k = ap (λ z. is_among s.columns k || z) (painted_views ss k)

view_in : (ss : List Segment) (s : Segment) → Contains ss s
    → Contains (views ss) (record { columns = s.columns; colour = s.brush.now })
view_in [] s (i, h, e) = absurd (omega arith)
view_in (t ∷ ss) s (zero, h, e) = (
  0,
  omega arith,
  ap (λ (z : Segment). record { columns = z.columns; colour = z.brush.now }) e,
)
view_in (t ∷ ss) s (suc i, h, e) = Contains-append_right
    (record { columns = t.columns; colour = t.brush.now } ∷ []) (views ss)
    (record { columns = s.columns; colour = s.brush.now }) (view_in ss s (i, omega arith, e))

-- a column that is not among the first i segments
module _ (target : ℕ → Rgb) (n : ℕ) (ss : List Segment) (i at : ℕ)
    (all : AreSegmentsOf target n (views ss)) (seen : (k : ℕ) (d : Segment) → k < i
    → (get_or ss k d).columns.to ≤ at) where
  -- one of the later ones has it
  pub later_one : at < n → (j : ℕ) × (s : Segment) × (i ≤ j) × (j < length ss) × (get_or ss j s ≡ s)
      × (s.columns.from ≤ at)
  later_one l =
      let (j, s, h, e, a) = Any-from_list_any (λ (s : Segment). is_among s.columns at) ss
      (sym (painted_views ss at) ∙ all.whole at l) in
      let low : s.columns.from ≤ at = grind (arith, nat_tests) in
      let high : at < s.columns.to = grind (arith, nat_tests) in
      elim (cases_lt j i) [
        | inl m ↦ let b = subst (λ (z : Segment). z.columns.to ≤ at) e (seen j s m) in
            absurd (omega (arith, b, high))
        | inr m ↦ (j, s, omega (arith, m), h, e, low)
      ]

  -- the next one begins there or before
  pub begun : IsNonDecreasingBy (λ (s : Segment). s.columns.from) ss → (s : Segment)
      → get_or ss i s ≡ s → at < n → s.columns.from ≤ at
  begun sorted s e l =
      let (j, t, m, h, f, low) = later_one l in
      let r = sorted i j s m h in
      let first : s.columns.from ≤ (get_or ss j s).columns.from = subst
      (λ (z : Segment). z.columns.from ≤ (get_or ss j s).columns.from) e r in
      let there : get_or ss j s ≡ t = get_or_default ss j s t h ∙ f in
      let second : s.columns.from ≤ t.columns.from = subst
      (λ (z : Segment). s.columns.from ≤ z.columns.from) there first in
      omega (arith, second, low)

  -- no segment is left
  pub no_later : length ss ≤ i → n ≤ at
  no_later r = elim (cases_lt at n) [
    | inl l ↦ let (j, s, m, h, e, low) = later_one l in absurd (omega (arith, r, m, h))
    | inr l ↦ omega (arith, l)
  ]

-- the next segment is a stroke
pub stroke_more : (target : ℕ → Rgb) (n : ℕ) (ss : List Segment) (i at : ℕ) (s : Segment)
    (d : Stroke) (rest : List Stroke) → IsNonDecreasingBy (λ (s : Segment). s.columns.from) ss
    → AreSegmentsOf target n (views ss) →
    ((k : ℕ) (d : Segment) → k < i → (get_or ss k d).columns.to ≤ at) → i < length ss
    → get_or ss i s ≡ s → d.to ≡ s.columns.to → d.brush ≡ s.brush → at < s.columns.to →
    AreStrokesFrom s.columns.to target n rest → AreStrokesFrom at target n (d ∷ rest)
stroke_more target n ss i at s d rest sorted all seen l e to brush past r = (
  rw to (omega (arith, past)),
  λ k low high m.
      let first : at < n = omega (arith, low, m) in
      let from = begun target n ss i at all seen sorted s e first in
      let high : k < s.columns.to = rw to at high in
      let among : is_among s.columns k ≡ true = grind (arith, nat_tests) in
      ap (λ b. b.now) brush ∙ all.colours (record { columns = s.columns; colour = s.brush.now }) k
      (view_in ss s (i, l, e)) m among,
  rw to r,
)

-- the segments that were looked at end there or before
pub seen_more : (ss : List Segment) (i at new : ℕ) (s : Segment)
    → ((k : ℕ) (d : Segment) → k < i → (get_or ss k d).columns.to ≤ at) → i < length ss
    → get_or ss i s ≡ s → at ≤ new → s.columns.to ≤ new →
    (k : ℕ) (d : Segment) → k < i + 1 → (get_or ss k d).columns.to ≤ new
seen_more ss i at new s seen l e up one k d m = elim (cases_lt k i) [
  | inl h ↦ let b = seen k d h in omega (arith, b, up)
  | inr h ↦
      let same : k ≡ i = omega (arith, h, m) in
      rw same (subst (λ (z : Segment). z.columns.to ≤ new) (sym (get_or_default ss i d s l ∙ e))
      one)
]

-- ---- bytes from strokes

above_start : (a : ℕ) (target : ℕ → Rgb) (n : ℕ) (ss : List Stroke) → AreStrokesFrom a target n ss
    → (j : ℕ) (d : Stroke) → j < length ss → a ≤ (get_or ss j d).to
above_start a target n [] h j d m = absurd (omega arith)
above_start a target n (s ∷ ss) h zero d m = h.0
above_start a target n (s ∷ ss) h (suc j) d m = let u = h.0 in
    let v = above_start s.to target n ss h.2 j d (omega arith) in omega (arith, u, v)

-- strokes rise
pub strokes_rise : (a : ℕ) (target : ℕ → Rgb) (n : ℕ) (ss : List Stroke)
    → AreStrokesFrom a target n ss → (i j : ℕ) (d : Stroke) → i ≤ j → j < length ss
    → (get_or ss i d).to ≤ (get_or ss j d).to
strokes_rise a target n [] h i j d l m = absurd (omega arith)
strokes_rise a target n (s ∷ ss) h zero zero d l m = omega arith
strokes_rise a target n (s ∷ ss) h zero (suc j) d l m = above_start s.to target n ss h.2 j d
    (omega arith)
strokes_rise a target n (s ∷ ss) h (suc i) zero d l m = absurd (omega arith)
strokes_rise a target n (s ∷ ss) h (suc i) (suc j) d l m = strokes_rise s.to target n ss h.2 i j d
    (omega arith) (omega arith)

pub strokes_parted : (target : ℕ → Rgb) (n : ℕ) (ss : List Stroke) → AreStrokesOf target n ss
    → (m i j : ℕ) (d : Stroke) → i ≤ j → j < length ss → nat_le (get_or ss j d).to m ≡ true
    → nat_le (get_or ss i d).to m ≡ true
strokes_parted target n ss h m i j d l k up = let w = strokes_rise 0 target n ss h i j d l k in
    grind (arith, nat_tests)

-- the strokes from a later column on
pub strokes_later : (a m : ℕ) (target : ℕ → Rgb) (n : ℕ) (ss : List Stroke) (i : ℕ) → a ≤ m
    → i ≤ length ss → ((k : ℕ) (d : Stroke) → k < i → (get_or ss k d).to ≤ m)
    → ((k : ℕ) (d : Stroke) → i ≤ k → k < length ss → m < (get_or ss k d).to) →
    AreStrokesFrom a target n ss → AreStrokesFrom m target n (drop i ss)
strokes_later a m target n [] zero l b below above h = omega (arith, l, h)
strokes_later a m target n [] (suc i) l b below above h = absurd (omega arith)
strokes_later a m target n (s ∷ ss) zero l b below above h =
    let past : m < s.to = above 0 s (omega arith) (omega arith) in
    (omega (arith, past), λ k low high in_it. h.1 k (omega (arith, l, low)) high in_it, h.2)
strokes_later a m target n (s ∷ ss) (suc i) l b below above h =
    strokes_later s.to m target n ss i (below 0 s (omega arith)) (omega arith)
    (λ k d l. below (suc k) d (omega arith))
    (λ k d l m. above (suc k) d (omega arith) (omega arith)) h.2

-- ---- one stroke after another

-- the bytes so far and those that are to come are all; from column `at` on the strokes are to come
pub record IsFilling (target : ℕ → Rgb) (n to at : ℕ) (rest : List Stroke)
    (bytes all : List ℕ) : Type 0 where
  pub bytes_are : bytes ++ pixels target at (to - at) ≡ all
  pub rest_are : at < to → AreStrokesFrom at target n rest

pub filling_more : (target : ℕ → Rgb) (n to at end : ℕ) (s : Stroke) (rest : List Stroke)
    (old new all : List ℕ) → to ≤ n → at < to → end ≡ max (min s.to to) at → new ≡ old ++ pixels
    (λ _. s.brush.now) 0 (end - at) →
    IsFilling target n to at (s ∷ rest) old all → IsFilling target n to end rest new all
filling_more target n to at end s rest old new all l m e b h =
    let (up, colours, later) = h.rest_are m in
    let ends : end ≡ min s.to to = omega (arith, e, up, m) in
    let one : pixels (λ _. s.brush.now) 0 (end - at) ≡ pixels target at (end - at) = pixels_one
    s.brush.now 0 at (end - at) ∙ pixels_same (λ _. s.brush.now) target at (end - at)
    (λ k p q. colours k p (omega (arith, q, ends, up, m)) (omega (arith, q, ends, up, m, l))) in
    let start : at + (end - at) ≡ end = omega (arith, e) in
    let sum : to - at ≡ (end - at) + (to - end) = omega (arith, ends, up, m) in
    let whole : pixels target at (to - at) ≡ pixels target at (end - at) ++ pixels target end
    (to - end) =
    ap (pixels target at) sum ∙ (pixels_more target at (end - at) (to - end)
    ∙ ap (λ j. pixels target at (end - at) ++ pixels target j (to - end)) start) in
    record {
      bytes_are = rw (
        b,
        one,
        append_assoc old (pixels target at (end - at)) (pixels target end (to - end)),
      ) (ap (λ xs. old ++ xs) (sym whole) ∙ h.bytes_are);
      rest_are = λ p. subst (λ j. AreStrokesFrom j target n rest) (omega (arith, ends, p)) later;
    }

pub filling_done : (target : ℕ → Rgb) (n to at : ℕ) (rest : List Stroke) (bytes all : List ℕ)
    → to ≤ at → IsFilling target n to at rest bytes all → bytes ≡ all
filling_done target n to at rest bytes all l h =
    let none : to - at ≡ 0 = omega (arith, l) in
    sym (append-nil bytes) ∙ (rw none at h.bytes_are)

pub filling_ends : (target : ℕ → Rgb) (n to at : ℕ) (ss : List Stroke) (i : ℕ) (bytes all : List ℕ)
    → to ≤ n → length ss ≤ i → IsFilling target n to at (drop i ss) bytes all → bytes ≡ all
filling_ends target n to at ss i bytes all m l h = elim (cases_lt at to) [
  | inl p ↦ let none : n ≤ at = rw (drop_of_length-le ss l) at (h.rest_are p) in
      absurd (omega (arith, m, none, p))
  | inr p ↦ filling_done target n to at (drop i ss) bytes all (omega (arith, p)) h
]

-- ---- tests that decide

pub le_true : (a b : ℕ) → nat_le a b ≡ true → a ≤ b
le_true a b h = grind (arith, nat_tests)

pub le_false : (a b : ℕ) → nat_le a b ≡ false → b < a
le_false a b h = grind (arith, nat_tests)
