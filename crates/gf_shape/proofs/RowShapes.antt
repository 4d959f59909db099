-- The rows of boxes and discs.
use Rattle.std.specs.Prelude.{◌≡◌, ℕ, ◌+◌, ◌-◌, ◌*◌, length, take, drop, slice_get, Some, unwrap_or}
use Rattle.std.specs.Prelude.{◌<◌, ◌≤◌, Bool, true, false, ◌&&◌, ◌||◌, List, [], ◌∷◌, ℤ, pos}
use Rattle.std.specs.Prelude.{negsuc, ◌+ℤ◌, ◌-ℤ◌, ◌*ℤ◌, int_le, nat_le, refl, unsigned_abs}
use Rattle.std.proofs.Common.{arith, ap, sym, subst, get_or, ◌∙◌}
use Rattle.std.proofs.lemmas.List.{take_all}
use Rattle.std.proofs.Math.Nat.{mul-le-mul}
use Rattle.std.proofs.lemmas.Bool.Decides.{nat_tests}
use Rattle.std.proofs.lemmas.Int.{ints, by_lt_z}
use Rattle.gf_spans.specs.declared.span.Span.{Span}
use Rattle.gf_plane.specs.declared.point.Point.{Point}
use Rattle.gf_shape.specs.Area.{Area}
use Rattle.gf_shape.specs.FigureMeaning.{chain_holds}
use Rattle.gf_shape.specs.Opened.{IsClosed, opened}
use Rattle.gf_shape.specs.Ring.{IsRing, Ring}
use Rattle.gf_shape.specs.Round.{Round}
use Rattle.gf_shape.specs.RowParts.{end_of}
use Rattle.gf_shape.specs.Rows.{IsRow}
use Rattle.gf_shape.specs.ShapeMeaning.{polygon_holds, rect_holds, round_holds}
use Rattle.gf_shape.proofs.RingLemmas.{chain_holds-closed}
use Rattle.gf_shape.proofs.RowEdges.{le_no}

and_true : (b : Bool) → ((b && true) && true) ≡ b
and_true true = refl
and_true false = refl

or_false : (b : Bool) → (b || false) ≡ b
or_false true = refl
or_false false = refl

low_moved : (x a : ℤ) → int_le a x ≡ int_le (pos 0) (x -ℤ a)
low_moved x a = grind (arith, ints)

high_moved : (x a w : ℤ) → int_le x (a +ℤ w) ≡ int_le (x -ℤ a) w
high_moved x a w = grind (arith, ints)

pub nat_le_no : (m n : ℕ) → n < m → nat_le m n ≡ false
nat_le_no m n h = grind (arith, nat_tests)

pub nat_le_yes : (m n : ℕ) → m ≤ n → nat_le m n ≡ true
nat_le_yes m n h = grind (arith, nat_tests)

module _ (a : Area) (y : ℤ) where
  pub rect_row : int_le (pos 0) (y -ℤ a.low.y) ≡ true → int_le (y -ℤ a.low.y) (pos a.height) ≡ true
      → IsRow (rect_holds a) y (record { first = a.low.x; last = a.low.x +ℤ pos a.width } ∷ [])
  rect_row h k = record {
    exact = λ x. or_false _ ∙ rw (h, k, low_moved x a.low.x, high_moved x a.low.x (pos a.width))
        (sym (and_true _));
    apart = omega (arith, ints);
  }

  pub rect_no_row : (int_le (pos 0) (y -ℤ a.low.y) && int_le (y -ℤ a.low.y) (pos a.height)) ≡ false
      → IsRow (rect_holds a) y []
  rect_no_row h = record {
    exact = λ x. none (int_le (pos 0) (x -ℤ a.low.x) && int_le (x -ℤ a.low.x) (pos a.width)) _ _ h;
    apart = tt;
  }
    where
      none : (b c d : Bool) → (c && d) ≡ false → false ≡ ((b && c) && d)
      none true c d e = sym e
      none false c d e = refl

pub square_abs : (u : ℤ) → u *ℤ u ≡ pos (unsigned_abs u * unsigned_abs u)
square_abs (pos n) = refl
square_abs (negsuc n) = refl

-- what lies up to h on both sides of a centre
abs_test : (u : ℤ) (h : ℕ)
    → nat_le (unsigned_abs u) h ≡ (int_le (pos 0 -ℤ pos h) u && int_le u (pos h))
abs_test (pos n) h = grind (arith, ints, nat_tests)
abs_test (negsuc n) h = grind (arith, ints, nat_tests)

low_at : (x a : ℤ) (h : ℕ) → int_le (a -ℤ pos h) x ≡ int_le (pos 0 -ℤ pos h) (x -ℤ a)
low_at x a h = grind (arith, ints)

pub centred_row : (holds : Point → Bool) (y a : ℤ) (h : ℕ)
    → ((x : ℤ) → holds (record { x = x; y = y }) ≡ nat_le (unsigned_abs (x -ℤ a)) h)
    → IsRow holds y (record { first = a -ℤ pos h; last = a +ℤ pos h } ∷ [])
centred_row holds y a h is = record {
  exact = λ x. or_false _ ∙ rw (low_at x a h, high_moved x a (pos h))
      (sym (is x ∙ abs_test (x -ℤ a) h));
  apart = omega (arith, ints);
}

module _ (r : Round) (y : ℤ) where
  abbrev pub height_of : ℕ
  height_of = unsigned_abs (y -ℤ r.centre.y)

  within : (x h : ℕ) → h * h + height_of * height_of ≤ r.radius * r.radius
      → r.radius * r.radius < (h + 1) * (h + 1) + height_of * height_of
      → nat_le (x * x + height_of * height_of) (r.radius * r.radius) ≡ nat_le x h
  within x h low high =
      by_lt_z (pos h) (pos x)
      (λ past. let m : (h + 1) * (h + 1) ≤ x * x = mul-le-mul (omega (arith, ints))
      (omega (arith, ints)) in nat_le_no (x * x + height_of * height_of) (r.radius * r.radius)
      (omega arith) ∙ sym (nat_le_no x h (omega (arith, ints))))
      (λ upto. let m : x * x ≤ h * h = mul-le-mul (omega (arith, ints)) (omega (arith, ints)) in
      nat_le_yes (x * x + height_of * height_of) (r.radius * r.radius) (omega arith)
      ∙ sym (nat_le_yes x h (omega (arith, ints))))

  pub round_row : (h : ℕ) → h * h + height_of * height_of ≤ r.radius * r.radius
      → r.radius * r.radius < (h + 1) * (h + 1) + height_of * height_of
      → IsRow (round_holds r) y
      (record { first = r.centre.x -ℤ pos h; last = r.centre.x +ℤ pos h } ∷ [])
  round_row h low high = centred_row (round_holds r) y r.centre.x h
      (λ x. rw (square_abs (x -ℤ r.centre.x), square_abs (y -ℤ r.centre.y))
      (within (unsigned_abs (x -ℤ r.centre.x)) h low high))

  pub round_no_row : r.radius < height_of → IsRow (round_holds r) y []
  round_no_row l = record {
    exact = λ x. rw (square_abs (x -ℤ r.centre.x), square_abs (y -ℤ r.centre.y))
        (let m : (r.radius + 1) * (r.radius + 1) ≤ height_of * height_of = mul-le-mul (omega arith)
        (omega arith) in
        let e : (r.radius + 1) * (r.radius + 1) ≡ r.radius * r.radius + (2 * r.radius + 1) = grind
        arith in
        sym (le_no (pos (unsigned_abs (x -ℤ r.centre.x) * unsigned_abs (x -ℤ r.centre.x)) +ℤ pos
        (height_of * height_of)) (pos (r.radius * r.radius)) (omega (arith, ints))));
    apart = tt;
  }

-- the same points have the same row
pub IsRow-same : (f g : Point → Bool) (y : ℤ) (ss : List Span) → ((p : Point) → f p ≡ g p)
    → IsRow f y ss → IsRow g y ss
IsRow-same f g y ss same h = record {
  exact = λ x. h.exact x ∙ same (record { x = x; y = y });
  apart = h.apart;
}

pub IsRow-closed : (r : Ring) (y : ℤ) (ss : List Span) → IsClosed r
    → IsRow (chain_holds r.points) y ss → IsRow (polygon_holds (opened r.points)) y ss
IsRow-closed r y ss h k = IsRow-same (chain_holds r.points) (polygon_holds (opened r.points)) y ss
    (chain_holds-closed r h) k

last_get : (a : Point) (ps : List Point) → slice_get (a ∷ ps) (length ps) ≡ Some (end_of a ps)
last_get a [] = refl
last_get a (b ∷ ps) = last_get b ps

same_some : (a b : Point) → Some a ≡ Some b → a ≡ b
same_some a b e = ap (λ o. unwrap_or o a) e

end_of-closed : (ps : List Point) (x : Point) → 4 ≤ length ps
    → slice_get ps (length ps - 1) ≡ slice_get ps 0
    → end_of (get_or ps 0 x) (take (length ps - 1) (drop 1 ps)) ≡ get_or ps 0 x
end_of-closed [] x n e = absurd (omega arith)
end_of-closed (a ∷ ps) x n e =
    let back : length (a ∷ ps) - 1 ≡ length ps = omega arith in
    let whole : take (length (a ∷ ps) - 1) ps ≡ ps = take_all (length (a ∷ ps) - 1) ps (omega arith)
    in
    rw whole (same_some (end_of a ps) a (sym (last_get a ps) ∙ (rw back at e)))

pub end_of-ring : (r : Ring) (a : Point) (ps : List Point) → IsRing r → a ≡ get_or r.points 0 a
    → ps ≡ r.points → end_of a (take (length ps - 1) (drop 1 ps)) ≡ a
end_of-ring r a ps h first whole =
    rw whole (subst (λ q. end_of q (take (length r.points - 1) (drop 1 r.points)) ≡ q) (sym first)
    (end_of-closed r.points a h.least h.closed))
