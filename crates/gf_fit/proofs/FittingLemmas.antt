-- The fitted step, and what a fitted window shows.
use Rattle.std.specs.Prelude.{None, Option, Some, ◌≤ℤ◌, ◌+ℤ◌, ◌-ℤ◌, negsuc, nat_le, nat_lt, pos}
use Rattle.std.specs.Int.{int_div_euclid}
use Rattle.std.proofs.Common.{◌≡◌, ◌<◌, ◌≤◌, ◌+◌, ◌-◌, ◌*◌, ◌∙◌, ◌&&◌, IsTrue, ap, arith, false}
use Rattle.std.proofs.Common.{Bool, inl, inr, max, refl, subst, sym, true, ℕ, ℤ}
use Rattle.std.proofs.lemmas.Bool.{and_from, and_parts, cases_Bool}
use Rattle.std.proofs.Math.Nat.{mul-le-mul_right}
use Rattle.std.proofs.lemmas.Int.{clamps, ints}
use Rattle.gf_shape.specs.declared.bounds.Bounds.{Bounds}
use Rattle.gf_plane.specs.declared.point.Point.{Point}
use Rattle.gf_shape.specs.ShapeLaws.{IsBounds}
use Rattle.gf_scanline.specs.Frames.{Sides}
use Rattle.gf_scanline.specs.Windows.{View, is_corner, is_step}
use Rattle.gf_fit.specs.FittedWindow.{AreBounds, Covers, IsCentral, IsFitted, IsFittedStep}
use Rattle.gf_fit.specs.FittedWindow.{IsNear, IsOver, IsWide, IsWindowOver, ShowsAll, clamped}
use Rattle.gf_fit.specs.FittedWindow.{first, is_wide_enough, reaches}
use Rattle.gf_fit.specs.Margins.{inner, margin}
use Rattle.gf_fit.proofs.BoundsLemmas.{in_order, one_bounds}

-- from 1 to 9,999, the steps from s on are those that the test takes
abbrev LeastStep : ℕ → (ℕ → Bool) → Type 0
LeastStep s test = (n : ℕ) → 1 ≤ n → n < 10000 → nat_le s n ≡ test n

-- the greater of the steps for the columns and for the rows is the fitted one
module _ (frame : Sides) (b : Bounds) (s t : ℕ)
    (s_lawful : IsTrue (is_step s)) (t_lawful : IsTrue (is_step t))
    (columns : LeastStep s (λ n. reaches (inner frame.width) n b.low.x b.high.x))
    (rows : LeastStep t (λ n. reaches (inner frame.height) n b.low.y b.high.y)) where
  agreed : LeastStep (max s t) (is_wide_enough frame b)
  agreed n p l =
      let both : nat_le (max s t) n ≡ (nat_le s n && nat_le t n) = grind arith in
      both ∙ rw (columns n p l, rows n p l) refl

  lawful : IsTrue (is_step (max s t))
  lawful = grind arith

  enough : max s t < 10000 → IsTrue (is_wide_enough frame b (max s t))
  enough l =
      let some : 1 ≤ max s t = grind arith in
      let itself : nat_le (max s t) (max s t) ≡ true = grind arith in
      sym (agreed (max s t) some l) ∙ itself

  least : (n : ℕ) → 1 ≤ n → n < max s t → is_wide_enough frame b n ≡ false
  least n p l =
      let most : n < 10000 = grind arith in
      let below : nat_le (max s t) n ≡ false = grind arith in
      sym (agreed n p most) ∙ below

  pub fitted_step : IsFittedStep frame b (max s t)
  fitted_step = record { lawful = lawful; enough = enough; least = least }

pub over_bounds : (frame : Sides) (b : Bounds) (w : View) (step : ℕ) (x y : ℤ)
    → w ≡ record { x = x; y = y; step = step; width = frame.width; height = frame.height }
    → IsFittedStep frame b step → x ≡ clamped (first frame.width step b.low.x b.high.x)
    → y ≡ clamped (first frame.height step b.low.y b.high.y) → IsOver frame b w
over_bounds frame b w step x y is fitted left top =
    subst (IsOver frame b) (sym is)
    (record { width = refl; height = refl; step = fitted; x = left; y = top })

-- twice a half lies at the number, or one below it
abbrev half : ℤ → ℤ
half n = int_div_euclid n (pos 2)

halves : (n : ℤ) → ((half n +ℤ half n) ≤ℤ n) × (n ≤ℤ (half n +ℤ half n +ℤ pos 1))
halves (pos a) = (omega (arith, ints), omega (arith, ints))
halves (negsuc a) = (omega (arith, ints), omega (arith, ints))

unclamped : (n : ℤ) → IsTrue (is_corner n) → clamped n ≡ n
unfolding is_corner
unclamped n h = grind (arith, ints, clamps)

corner_bounds : (n : ℤ) → IsTrue (is_corner n) → (negsuc 1999999 ≤ℤ n) × (n ≤ℤ pos 2000000)
unfolding is_corner
corner_bounds n h = (grind (arith, ints), grind (arith, ints))

times : (m k s : ℕ) → (m + m + k) * s ≡ m * s + m * s + k * s
times m k s = grind arith

times_one : (m k s : ℕ) → (m + k) * s ≡ m * s + k * s
times_one m k s = grind arith

-- the gaps between n samples are those of both margins, and those within
all_gaps : (n s : ℕ) → (n - 1) * s ≡ margin n * s + margin n * s + (inner n - 1) * s
all_gaps n s =
    let gaps : n - 1 ≡ margin n + margin n + (inner n - 1) = omega arith in
    ap (λ k. k * s) gaps ∙ times (margin n) (inner n - 1) s

last_gaps : (n s : ℕ) → (n - 1 - margin n) * s ≡ margin n * s + (inner n - 1) * s
last_gaps n s =
    let gaps : n - 1 - margin n ≡ margin n + (inner n - 1) = omega arith in
    ap (λ k. k * s) gaps ∙ times_one (margin n) (inner n - 1) s

-- n samples from x on, a step s apart, reach from low to high, m samples from their ends or more
abbrev Spans : ℕ → ℕ → ℕ → ℤ → ℤ → ℤ → Type 0
Spans m n s x low high =
    ((x +ℤ pos (m * s)) ≤ℤ low) × (high ≤ℤ (x +ℤ pos ((n - 1 - m) * s)))

module _ (n s : ℕ) (low high : ℤ) where
  reached : IsTrue (reaches n s low high) → high ≤ℤ (low +ℤ pos ((n - 1) * s))
  reached h = omega (arith, ints)

  reach : high ≤ℤ (low +ℤ pos ((n - 1) * s)) → IsTrue (reaches n s low high)
  reach h = grind (arith, ints)

  -- from the middle on, they do so within the margins
  middle : (m c a : ℕ) (h : ℤ) → a ≡ m + m + c → (h +ℤ h) ≤ℤ (low +ℤ high -ℤ pos a)
      → (low +ℤ high -ℤ pos a) ≤ℤ (h +ℤ h +ℤ pos 1) → high ≤ℤ (low +ℤ pos c)
      → ((h +ℤ pos m) ≤ℤ low) × (high ≤ℤ (h +ℤ pos (m + c)))
  middle m c a h e p q r = (omega (arith, ints), omega (arith, ints))

  -- clamped, they do so from end to end
  clamp : (f : ℤ) (m r a z : ℕ) → z ≡ 0 → (f +ℤ pos m) ≤ℤ low → high ≤ℤ (f +ℤ pos r) → r ≤ a
      → negsuc 1999999 ≤ℤ low → high ≤ℤ pos 2000000 → low ≤ℤ high
      → ((clamped f +ℤ pos z) ≤ℤ low) × (high ≤ℤ (clamped f +ℤ pos a))
  clamp f m r a z none p q l near far order =
      (omega (arith, ints, clamps), omega (arith, ints, clamps))

module _ (n s : ℕ) (low high : ℤ) (wide : IsTrue (reaches (inner n) s low high)) where
  shown_along : Spans (margin n) n s (first n s low high) low high
  shown_along =
      let twice = halves (low +ℤ high -ℤ pos ((n - 1) * s)) in
      let far = reached (inner n) s low high wide in
      let m = margin n * s in
      let c = (inner n - 1) * s in
      rw (last_gaps n s) (middle n s low high m c ((n - 1) * s) (first n s low high)
      (all_gaps n s) twice.0 twice.1 far)

  covered_along : low ≤ℤ high → IsTrue (is_corner low) → IsTrue (is_corner high)
      → Spans 0 n s (clamped (first n s low high)) low high
  covered_along order near far =
      let along = shown_along in
      let fewer : (n - 1 - margin n) * s ≤ (n - 1 - 0) * s = mul-le-mul_right s (omega arith) in
      let none : 0 * s ≡ 0 = grind arith in
      let above = (corner_bounds low near).0 in
      let below = (corner_bounds high far).1 in
      clamp n s low high (first n s low high) (margin n * s) ((n - 1 - margin n) * s)
      ((n - 1 - 0) * s) (0 * s) none along.0 along.1 fewer above below order

reaches_along : (n s : ℕ) (x low high : ℤ) → Spans (margin n) n s x low high
    → IsTrue (reaches (inner n) s low high)
reaches_along n s x low high (p, q) =
    let last = last_gaps n s in
    reach (inner n) s low high (omega (arith, ints))

at_least_one : (s : ℕ) → IsTrue (is_step s) → 1 ≤ s
at_least_one s h = grind arith

at_most : (s t : ℕ) → s < t → IsTrue (is_step t) → s < 10000
at_most s t l h = grind arith

module _ (frame : Sides) (b : Bounds) where
  -- where a step of 10,000 is wide enough, the fitted one is
  wide_enough : (s : ℕ) → IsFittedStep frame b s → IsWide frame b
      → IsTrue (is_wide_enough frame b s)
  wide_enough s f wide = elim (cases_Bool (nat_le 10000 s)) [
    | inl e ↦ let most = f.lawful in let is : s ≡ 10000 = grind arith in rw is wide
    | inr e ↦ f.enough (grind arith)
  ]

  not_below : (s t : ℕ) → IsFittedStep frame b s → IsFittedStep frame b t → s < t → ⊥
  not_below s t f g l =
      let most = at_most s t l g.lawful in
      let no = g.least s (at_least_one s f.lawful) l in
      let e = sym no ∙ f.enough most in
      cc

  -- there is one fitted step
  one_step : (s t : ℕ) → IsFittedStep frame b s → IsFittedStep frame b t → s ≡ t
  one_step s t f g = elim (cases_Bool (nat_lt s t)) [
    | inl e ↦ absurd (not_below s t f g (grind arith))
    | inr e ↦ elim (cases_Bool (nat_lt t s)) [
      | inl k ↦ absurd (not_below t s g f (grind arith))
      | inr k ↦ grind arith
    ]
  ]

module _ (holds : Point → Bool) (frame : Sides) where
  -- no point is held, and these are bounds of the points that are held
  no_bounds : (b : Bounds) → ((p : Point) → holds p ≡ false) → IsBounds holds b → ⊥
  no_bounds b none is = let e = sym (none is.left.0) ∙ is.left.1 in cc

  -- a window that fits lies over all least bounds
  fitted_over : (w : View) → IsFitted holds frame w → (b : Bounds) → IsBounds holds b
      → IsOver frame b w
  fitted_over w f b is = over f.bounds f.least f.window
    where
      over : (bounds : Option Bounds) → AreBounds holds bounds → IsWindowOver frame bounds w
          → IsOver frame b w
      over None none window = absurd (no_bounds b none is)
      over (Some a) least window =
          subst (λ c. IsOver frame c w) (one_bounds holds a b least is) window

  pub fitted_shows : (w : View) → IsFitted holds frame w → (b : Bounds) → IsBounds holds b
      → IsWide frame b → IsCentral frame b w → ShowsAll holds w
  fitted_shows w f b is enough central p h =
      let over = fitted_over w f b is in
      let corners = and_parts _ _ central in
      let wide = and_parts _ _ (wide_enough frame b w.step over.step enough) in
      let within = is.within p h in
      let left = over.x ∙ unclamped _ corners.0 in
      let top = over.y ∙ unclamped _ corners.1 in
      let x = shown_along frame.width w.step b.low.x b.high.x wide.0 in
      let y = shown_along frame.height w.step b.low.y b.high.y wide.1 in
      rw (over.width, over.height, left, top) (record {
        left = omega (arith, ints);
        right = omega (arith, ints);
        top = omega (arith, ints);
        bottom = omega (arith, ints);
      })

  pub fitted_covers : (w : View) → IsFitted holds frame w → (b : Bounds) → IsBounds holds b
      → IsWide frame b → IsNear b → Covers holds w
  fitted_covers w f b is enough near p h =
      let over = fitted_over w f b is in
      let last = and_parts _ _ near in
      let third = and_parts _ _ last.0 in
      let second = and_parts _ _ third.0 in
      let wide = and_parts _ _ (wide_enough frame b w.step over.step enough) in
      let within = is.within p h in
      let order = in_order holds b b is is in
      let step = w.step in
      let x = covered_along frame.width step b.low.x b.high.x wide.0 order.0 second.0 third.1 in
      let y = covered_along frame.height step b.low.y b.high.y wide.1 order.1 second.1 last.1 in
      rw (over.width, over.height, over.x, over.y) (record {
        left = omega (arith, ints);
        right = omega (arith, ints);
        top = omega (arith, ints);
        bottom = omega (arith, ints);
      })

  -- the step of a window that shows all is wide enough
  shows_wide : (v : View) → v.width ≡ frame.width → v.height ≡ frame.height → ShowsAll holds v
      → (b : Bounds) → IsBounds holds b → IsTrue (is_wide_enough frame b v.step)
  shows_wide v wide high shows b is =
      let left = (shows is.left.0 is.left.1).left in
      let right = (shows is.right.0 is.right.1).right in
      let top = (shows is.top.0 is.top.1).top in
      let bottom = (shows is.bottom.0 is.bottom.1).bottom in
      rw (← wide, ← high) (and_from _ _
      (reaches_along v.width v.step v.x b.low.x b.high.x
      (rw is.left.2 at left, rw is.right.2 at right))
      (reaches_along v.height v.step v.y b.low.y b.high.y
      (rw is.top.2 at top, rw is.bottom.2 at bottom)))

  pub fitted_least : (w : View) → IsFitted holds frame w → (v : View) → v.width ≡ frame.width
      → v.height ≡ frame.height → IsTrue (is_step v.step) → v.step < w.step → ¬ (ShowsAll holds v)
  fitted_least w f v wide high step less shows = smaller f.bounds f.least f.window
    where
      smaller : (bounds : Option Bounds) → AreBounds holds bounds → IsWindowOver frame bounds w → ⊥
      smaller None none window =
          let one = ap (λ (u : View). u.step) window in
          let some = at_least_one v.step step in
          absurd (omega (arith, one, some))
      smaller (Some b) is window =
          let no = window.step.least v.step (at_least_one v.step step) less in
          let e = sym no ∙ shows_wide v wide high shows b is in
          cc

  -- over the same least bounds there is one window
  one_over : (v w : View) (b : Bounds) → IsOver frame b v → IsOver frame b w → v ≡ w
  one_over v w b x y =
      let step = one_step frame b v.step w.step x.step y.step in
      let left = ap (λ s. clamped (first frame.width s b.low.x b.high.x)) step in
      let top = ap (λ s. clamped (first frame.height s b.low.y b.high.y)) step in
      λ k. record {
        x = (x.x ∙ (left ∙ sym y.x)) k;
        y = (x.y ∙ (top ∙ sym y.y)) k;
        step = step k;
        width = (x.width ∙ sym y.width) k;
        height = (x.height ∙ sym y.height) k;
      }

  pub one_window : (v w : View) → IsFitted holds frame v → IsFitted holds frame w → v ≡ w
  one_window v w f g = one f.bounds f.least f.window g.bounds g.least g.window
    where
      one : (a : Option Bounds) → AreBounds holds a → IsWindowOver frame a v
          → (b : Option Bounds) → AreBounds holds b → IsWindowOver frame b w → v ≡ w
      one None none x None empty y = x ∙ sym y
      one None none x (Some b) is y = absurd (no_bounds b none is)
      one (Some a) is x b least y = one_over v w a x (fitted_over w g a is)
