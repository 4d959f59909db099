-- The fields of a style and of an outline lead a reading over as many tokens as it waits for.
use Rattle.std.proofs.Common.{◌≡◌, ◌≤◌, ℕ, ◌+◌, ◌*◌, Bool, true, false, refl, subst, arith}
use Rattle.std.specs.Prelude.{⊤, Some, nat_abs, ℤ, ◌||◌, if◌then◌else◌}
use Rattle.std.proofs.lemmas.Bool.{le-leb}
use Rattle.gf_shape.specs.declared.outline.Outline.{Outline}
use Rattle.gf_shape.specs.declared.outline.Outline.TheVariants.{Chain}
use Rattle.gf_figures.specs.Colours.{Table}
use Rattle.gf_fig_tokens.specs.Fields.{Reader, ◌>>=◌, any, check, give, natural, points}
use Rattle.gf_fig_tokens.specs.Forms.{whole}
use Rattle.gf_fig_tokens.specs.declared.faults.FigFault.{FigFault}
use Rattle.gf_fig_tokens.specs.declared.faults.FigFault.TheVariants as fault
use Rattle.gf_fig_read.specs.Outlines.{chain, count, ellipse, is_closed}
use Rattle.gf_fig_read.specs.Styles.{filling, is_known, known_colour, style}
use Rattle.gf_fig_named.specs.declared.figures.Place.{Place}
use Rattle.gf_fig_named.specs.FigureNames.{place_at}
use Rattle.gf_fig_named.specs.Spelling.{spelt_number}
use Rattle.gf_fig_named.proofs.StepLemmas.{start, Steps, Goes, Step, one_passes, steps_field}
use Rattle.gf_fig_named.proofs.StepLemmas.{steps_check, steps_give, steps_bind, over, natural_is}
use Rattle.gf_fig_named.proofs.StepLemmas.{steps_natural, steps_whole, steps_decimal}
use Rattle.gf_fig_named.proofs.StepLemmas.{steps_point, fewer, before_count}
use Rattle.gf_fig_named.proofs.StepLemmas.{steps_points}

-- ---- styles

-- places, each of which a token leads to the one before
abbrev pub CountsDown : (ℕ → Place) → Type 0
CountsDown f = (n : ℕ) → Step (f (n + 1)) (f n)

module _ (f : ℕ → Place) (down : CountsDown f) (table : Table) where
  steps_known : Goes (f 5) (f 4) (known_colour table)
  unfolding known_colour
  steps_known = over (λ (m : ℕ). ⊤) (f 5) (f 4) (f 4) _ _
      (steps_field whole (is_known table) fault.NoColour (f 5) (f 4) (down 4))
      (λ n. steps_give (λ (m : ℕ). ⊤) (f 4) (nat_abs n) tt)

  steps_filling : Goes (f 8) (f 4) (filling table)
  unfolding filling
  steps_filling =
      over (λ (m : ℕ). ⊤) (f 8) (f 7) (f 4) _ _ (steps_whole (f 8) (f 7) (down 7))
      (λ a. over (λ (m : ℕ). ⊤) (f 7) (f 6) (f 4) _ _
      (steps_natural 0 0 fault.Outline (f 7) (f 6) (down 6))
      (λ b. over (λ (m : ℕ). ⊤) (f 6) (f 5) (f 4) _ _ (steps_whole (f 6) (f 5) (down 5))
      (λ c. steps_known)))

  pub steps_style : (least most : ℕ) → Goes (f 9) (f 0) (style least most table)
  unfolding style
  steps_style least most =
      over (λ s. ⊤) (f 9) (f 8) (f 0) _ _
      (steps_natural least most fault.SubType (f 9) (f 8) (down 8))
      (λ a. over (λ s. ⊤) (f 8) (f 4) (f 0) _ _ steps_filling
      (λ b. over (λ s. ⊤) (f 4) (f 3) (f 0) _ _ (steps_natural 0 999 fault.Depth (f 4) (f 3) (down 3))
      (λ c. over (λ s. ⊤) (f 3) (f 2) (f 0) _ _ (steps_whole (f 3) (f 2) (down 2))
      (λ d. over (λ s. ⊤) (f 2) (f 1) (f 0) _ _ (steps_natural 20 20 fault.Fill (f 2) (f 1) (down 1))
      (λ e. over (λ s. ⊤) (f 1) (f 0) (f 0) _ _ (steps_decimal (f 1) (f 0) (down 0))
      (λ g. steps_give (λ s. ⊤) (f 0) _ tt))))))

-- ---- outlines

steps_count_in : (low high : ℕ) → 1 ≤ low → high ≤ 65536
    → Steps (λ (n : ℕ). ⊤) (place_at 1 true) (λ n. place_at (2 * n) false)
    (natural low high fault.Count)
steps_count_in low high l h = record {
  of = λ ts left n e.
      let i = natural_is low high fault.Count ts left n e in
      let w = i.is in
      let least = i.least in
      let most = i.most in
      let spelt : spelt_number 65536 i.token ≡ Some n = rw (
        w,
        le-leb 1 n (omega (arith, l, least)),
        le-leb n 65536 (omega (arith, h, most)),
      ) refl in (
        tt,
        one_passes (place_at 1 true) (place_at (2 * n) false) i.token ts left i.cut
            (rw spelt refl) refl,
      );
}

steps_count_of : (boxed : Bool) → Steps (λ (n : ℕ). ⊤) (place_at 1 true) (λ n. place_at (2 * n) false)
    (natural (if boxed then 5 else 4) (if boxed then 5 else 65536) fault.Count)
steps_count_of true = steps_count_in 5 5 (omega arith) (omega arith)
steps_count_of false = steps_count_in 4 65536 (omega arith) (omega arith)

-- one token before a count of points, and what follows it
abbrev pub before : ℕ → Place
before n = place_at (n + 1) true

before_down : CountsDown before
before_down n = subst (λ m. Step (place_at m true) (before n)) (omega arith) (before_count n)

steps_count : (boxed : Bool)
    → Steps (λ (n : ℕ). ⊤) (before 5) (λ n. place_at (2 * n) false) (count boxed)
unfolding count
steps_count boxed =
    on (before 5) (before 4) _ _ (steps_whole (before 5) (before 4) (before_down 4))
    (λ a. on (before 4) (before 3) _ _ (steps_whole (before 4) (before 3) (before_down 3))
    (λ b. on (before 3) (before 2) _ _ (steps_whole (before 3) (before 2) (before_down 2))
    (λ c. on (before 2) (before 1) _ _
    (steps_natural 0 0 fault.Arrow (before 2) (before 1) (before_down 1))
    (λ d. on (before 1) (before 0) _ _
    (steps_natural 0 0 fault.Arrow (before 1) (before 0) (before_down 0))
    (λ e. steps_count_of boxed)))))
  where
    on : {A : Type 0} (p q : Place) (first : Reader A) (behind : A → Reader ℕ) → Goes p q first
        → ((a : A) → Steps (λ (n : ℕ). ⊤) q (λ n. place_at (2 * n) false) (behind a))
        → Steps (λ (n : ℕ). ⊤) p (λ n. place_at (2 * n) false) (first >>= behind)
    on {A} p q first behind h k = steps_bind (λ (a : A). ⊤) (λ (n : ℕ). ⊤) p (λ (a : A). q)
        (λ n. place_at (2 * n) false) first behind h (λ a t. k a)

pub steps_chain : (boxed : Bool) → Goes (before 5) start (chain boxed)
unfolding chain
steps_chain boxed =
    steps_bind (λ (n : ℕ). ⊤) (λ (o : Outline). ⊤) (before 5) (λ n. place_at (2 * n) false)
    (λ (o : Outline). start) (count boxed) _ (steps_count boxed)
    (λ n t. over (λ (o : Outline). ⊤) (place_at (2 * n) false) start start (points n) _
    (steps_points n)
    (λ ps. steps_bind (λ (u : ⊤). is_closed ps ≡ true) (λ (o : Outline). ⊤) start (λ (u : ⊤). start)
    (λ (o : Outline). start) (check (is_closed ps) fault.Open)
    (λ u. give (Chain (record { boxed = boxed; points = ps })))
    (steps_check (is_closed ps) fault.Open start)
    (λ u c. steps_give (λ (o : Outline). ⊤) start (Chain (record { boxed = boxed; points = ps }))
    tt)))

-- the last tokens of an object
abbrev pub last : ℕ → Place
last n = place_at n false

pub ends_down : CountsDown last
ends_down n = fewer (n + 1) n refl

-- the last fields of a circle and an ellipse
steps_end : {A : Type 0} (behind : ℤ → ℤ → ℤ → ℤ → A) → Goes (last 4) start (do
  start_x ← any whole
  start_y ← any whole
  end_x ← any whole
  end_y ← any whole
  give (behind start_x start_y end_x end_y))
steps_end {A} behind =
    over (λ (a : A). ⊤) (last 4) (last 3) start _ _ (steps_whole (last 4) (last 3) (ends_down 3))
    (λ a. over (λ (a : A). ⊤) (last 3) (last 2) start _ _ (steps_whole (last 3) (last 2) (ends_down 2))
    (λ b. over (λ (a : A). ⊤) (last 2) (last 1) start _ _ (steps_whole (last 2) (last 1) (ends_down 1))
    (λ c. over (λ (a : A). ⊤) (last 1) start start _ _ (steps_whole (last 1) start (ends_down 0))
    (λ d. steps_give (λ (a : A). ⊤) start _ tt))))

-- a check takes no token
steps_past : (p : Place) (passes : Bool) (wrong : FigFault) → Goes p p (check passes wrong)
steps_past p passes wrong = record {
  of = λ ts left u e. (tt, ((steps_check passes wrong p).of ts left u e).1);
}

pub steps_ellipse : (round : Bool) → Goes (last 10) start (ellipse round)
unfolding ellipse
steps_ellipse round =
    over (λ (o : Outline). ⊤) (last 10) (last 9) start _ _
    (steps_whole (last 10) (last 9) (ends_down 9))
    (λ a. over (λ (o : Outline). ⊤) (last 9) (last 8) start _ _
    (steps_decimal (last 9) (last 8) (ends_down 8))
    (λ b. over (λ (o : Outline). ⊤) (last 8) (last 8) start _ _
    (steps_past (last 8) (round || b) fault.Angle)
    (λ u. over (λ (o : Outline). ⊤) (last 8) (last 6) start _ _
    (steps_point (last 8) (last 7) (last 6) (ends_down 7) (ends_down 6))
    (λ c. over (λ (o : Outline). ⊤) (last 6) (last 5) start _ _
    (steps_natural 1 10000000 fault.Radius (last 6) (last 5) (ends_down 5))
    (λ r. over (λ (o : Outline). ⊤) (last 5) (last 4) start _ _
    (steps_natural _ _ fault.Radius (last 5) (last 4) (ends_down 4))
    (λ s. steps_end (λ v w x y. _)))))))
