-- What an oval holds: its bounds, and how far it reaches at a height.
use Rattle.std.specs.Prelude.{◌≡◌, ℕ, ◌+◌, ◌-◌, ◌*◌, ◌/◌, ◌≤◌, ◌<◌, Bool, true, false, ℤ, pos}
use Rattle.std.specs.Prelude.{negsuc, ◌+ℤ◌, ◌-ℤ◌, ◌≤ℤ◌, IsTrue, nat_le, refl, unsigned_abs, [], ◌∷◌}
use Rattle.std.proofs.Common.{arith, ap, sym, ◌∙◌}
use Rattle.std.proofs.Math.Nat.{div-mul-le_self, lt-div-mul-add, mul-le-mul, mul-le-mul_right}
use Rattle.std.proofs.Math.Nat.{mul_comm}
use Rattle.std.proofs.lemmas.Bool.Decides.{nat_tests}
use Rattle.std.proofs.lemmas.Int.{ints, by_lt_z}
use Rattle.gf_shape.specs.declared.bounds.Bounds.{Bounds}
use Rattle.gf_plane.specs.declared.point.Point.{Point}
use Rattle.gf_shape.specs.Oblong.{Oblong}
use Rattle.gf_shape.specs.Rows.{IsRow}
use Rattle.gf_shape.specs.ShapeLaws.{IsBounds, IsInBounds}
use Rattle.gf_shape.specs.ShapeMeaning.{ellipse_holds, oval_holds}
use Rattle.gf_shape.specs.Laws.Moved.{gap_past, gap_same}
use Rattle.gf_shape.specs.Laws.Sides.{lt_products, one_le_product}
use Rattle.gf_shape.proofs.DiscLemmas.{gap_before}
use Rattle.gf_shape.proofs.RowShapes.{centred_row, nat_le_no, nat_le_yes, square_abs}

-- the number a, as many times as p leaves of b
split : (a r p : ℕ) → a * (r + p) ≡ a * r + p * a
split a r p = grind arith

rest_split : (a b p : ℕ) → p ≤ b → a * b ≡ a * (b - p) + p * a
rest_split a b p h = let e : b ≡ (b - p) + p = omega arith in ap (λ n. a * n) e ∙ split a (b - p) p

pub part_low : (a b p w : ℕ) → p ≤ b → w ≡ a * (b - p) / b → w * b + p * a ≤ a * b
part_low a b p w h e =
    let m : w * b ≤ a * (b - p) = rw e (div-mul-le_self (a * (b - p)) b) in
    let s = rest_split a b p h in
    omega arith

pub part_high : (a b p w : ℕ) → 0 < b → p ≤ b → w ≡ a * (b - p) / b → a * b < (w + 1) * b + p * a
part_high a b p w some h e =
    let m : a * (b - p) < w * b + b = rw e (lt-div-mul-add some) in
    let s = rest_split a b p h in
    let t : (w + 1) * b ≡ w * b + b = grind arith in
    omega arith

-- a root of it, rounded down
pub half_low : (h w b p c : ℕ) → h * h ≤ w → w * b + p ≤ c → h * h * b + p ≤ c
half_low h w b p c k l = let m : h * h * b ≤ w * b = mul-le-mul_right b k in omega arith

pub half_high : (h w b p c : ℕ) → w < (h + 1) * (h + 1) → c < (w + 1) * b + p
    → c < (h + 1) * (h + 1) * b + p
half_high h w b p c k l = let m : (w + 1) * b ≤ (h + 1) * (h + 1) * b = mul-le-mul_right b
    (omega arith) in omega arith

-- whether an oval of the radii rx and ry holds what is x beside its centre and y above or below it
abbrev pub beside_holds : ℕ → ℕ → ℕ → ℕ → Bool
beside_holds rx ry x y = nat_le (x * x * (ry * ry) + y * y * (rx * rx)) (rx * rx * (ry * ry))

pub ellipse_beside : (rx ry : ℕ) (d : Point)
    → ellipse_holds rx ry d ≡ beside_holds rx ry (unsigned_abs d.x) (unsigned_abs d.y)
ellipse_beside rx ry d = rw (square_abs d.x, square_abs d.y) refl

-- what is held lies within both radii
across_within : (rx ry x y : ℕ) → 0 < ry
    → x * x * (ry * ry) + y * y * (rx * rx) ≤ rx * rx * (ry * ry) → x ≤ rx
across_within rx ry x y some h =
    by_lt_z (pos rx) (pos x)
    (λ past.
    let more = lt_products rx rx x x (omega (arith, ints)) (omega (arith, ints))
    (omega (arith, ints)) in
    let yet = lt_products (rx * rx) (ry * ry) (ry * ry) (x * x) more (omega arith)
    (one_le_product ry ry some some) in
    let turned = mul_comm (ry * ry) (x * x) in
    absurd (omega arith))
    (λ upto. omega (arith, ints))

along_within : (rx ry x y : ℕ) → 0 < rx
    → x * x * (ry * ry) + y * y * (rx * rx) ≤ rx * rx * (ry * ry) → y ≤ ry
along_within rx ry x y some h =
    let turned = mul_comm (rx * rx) (ry * ry) in
    across_within ry rx y x some (omega arith)

le_from_test : (m n : ℕ) → IsTrue (nat_le m n) → m ≤ n
le_from_test m n h = grind (arith, nat_tests)

abs_within : (u : ℤ) (n : ℕ) → unsigned_abs u ≤ n → ((pos 0 -ℤ pos n) ≤ℤ u) × (u ≤ℤ pos n)
abs_within (pos k) n h = (omega (arith, ints), omega (arith, ints))
abs_within (negsuc k) n h = (omega (arith, ints), omega (arith, ints))

-- the least bounds of the oval o
abbrev pub oval_bounds : Oblong → Bounds
oval_bounds o = record {
  low = record { x = o.centre.x -ℤ pos o.rx; y = o.centre.y -ℤ pos o.ry };
  high = record { x = o.centre.x +ℤ pos o.rx; y = o.centre.y +ℤ pos o.ry };
}

oval_holds-within : (o : Oblong) → 0 < o.rx → 0 < o.ry → (p : Point) → IsTrue (oval_holds o p)
    → IsInBounds (oval_bounds o) p
oval_holds-within o across along p h =
    let u = p.x -ℤ o.centre.x in
    let v = p.y -ℤ o.centre.y in
    let test : IsTrue (beside_holds o.rx o.ry (unsigned_abs u) (unsigned_abs v)) =
    rw (ellipse_beside o.rx o.ry (record { x = u; y = v })) at h in
    let k = le_from_test _ _ test in
    let x = abs_within u o.rx (across_within o.rx o.ry (unsigned_abs u) (unsigned_abs v) along k) in
    let y = abs_within v o.ry (along_within o.rx o.ry (unsigned_abs u) (unsigned_abs v) across k) in
    record {
      left = omega (arith, ints);
      right = omega (arith, ints);
      top = omega (arith, ints);
      bottom = omega (arith, ints);
    }

-- an ellipse holds the four points on its axes
abs_back : (n : ℕ) → unsigned_abs (pos 0 -ℤ pos n) ≡ n
abs_back n = omega (arith, ints)

side_held : (rx ry : ℕ) → IsTrue (beside_holds rx ry rx 0)
side_held rx ry = grind (arith, nat_tests)

end_held : (rx ry : ℕ) → IsTrue (beside_holds rx ry 0 ry)
end_held rx ry = let turned = mul_comm (rx * rx) (ry * ry) in grind (arith, nat_tests)

left_held : (rx ry : ℕ) → IsTrue (ellipse_holds rx ry (record { x = pos 0 -ℤ pos rx; y = pos 0 }))
left_held rx ry = rw (ellipse_beside rx ry (record { x = pos 0 -ℤ pos rx; y = pos 0 }), abs_back rx)
    (side_held rx ry)

right_held : (rx ry : ℕ) → IsTrue (ellipse_holds rx ry (record { x = pos rx; y = pos 0 }))
right_held rx ry = side_held rx ry

top_held : (rx ry : ℕ) → IsTrue (ellipse_holds rx ry (record { x = pos 0; y = pos 0 -ℤ pos ry }))
top_held rx ry = rw (ellipse_beside rx ry (record { x = pos 0; y = pos 0 -ℤ pos ry }), abs_back ry)
    (end_held rx ry)

bottom_held : (rx ry : ℕ) → IsTrue (ellipse_holds rx ry (record { x = pos 0; y = pos ry }))
bottom_held rx ry = end_held rx ry

-- the bounds law
pub IsBounds-oval : (o : Oblong) → 0 < o.rx → 0 < o.ry → IsBounds (oval_holds o) (oval_bounds o)
IsBounds-oval o across along = record {
  within = oval_holds-within o across along;
  left = (
    record { x = o.centre.x -ℤ pos o.rx; y = o.centre.y },
    rw (gap_before o.centre.x (pos o.rx), gap_same o.centre.y) (left_held o.rx o.ry),
    refl,
  );
  right = (
    record { x = o.centre.x +ℤ pos o.rx; y = o.centre.y },
    rw (gap_past o.centre.x (pos o.rx), gap_same o.centre.y) (right_held o.rx o.ry),
    refl,
  );
  top = (
    record { x = o.centre.x; y = o.centre.y -ℤ pos o.ry },
    rw (gap_same o.centre.x, gap_before o.centre.y (pos o.ry)) (top_held o.rx o.ry),
    refl,
  );
  bottom = (
    record { x = o.centre.x; y = o.centre.y +ℤ pos o.ry },
    rw (gap_same o.centre.x, gap_past o.centre.y (pos o.ry)) (bottom_held o.rx o.ry),
    refl,
  );
}

-- at one height what is held is what lies within a root
root_test : (x h b p c : ℕ) → h * h * b + p ≤ c → c < (h + 1) * (h + 1) * b + p
    → nat_le (x * x * b + p) c ≡ nat_le x h
root_test x h b p c low high =
    by_lt_z (pos h) (pos x)
    (λ past.
    let k : (h + 1) * (h + 1) ≤ x * x = mul-le-mul (omega (arith, ints)) (omega (arith, ints)) in
    let m : (h + 1) * (h + 1) * b ≤ x * x * b = mul-le-mul_right b k in
    nat_le_no (x * x * b + p) c (omega arith) ∙ sym (nat_le_no x h (omega (arith, ints))))
    (λ upto.
    let k : x * x ≤ h * h = mul-le-mul (omega (arith, ints)) (omega (arith, ints)) in
    let m : x * x * b ≤ h * h * b = mul-le-mul_right b k in
    nat_le_yes (x * x * b + p) c (omega arith) ∙ sym (nat_le_yes x h (omega (arith, ints))))

module _ (o : Oblong) (y : ℤ) where
  abbrev pub height_of : ℕ
  height_of = unsigned_abs (y -ℤ o.centre.y)

  pub oval_row : (h : ℕ) → h * h * (o.ry * o.ry) + height_of * height_of * (o.rx * o.rx) ≤ o.rx
      * o.rx * (o.ry * o.ry) → o.rx * o.rx * (o.ry * o.ry) < (h + 1) * (h + 1) * (o.ry * o.ry)
      + height_of * height_of * (o.rx * o.rx)
      → IsRow (oval_holds o) y
      (record { first = o.centre.x -ℤ pos h; last = o.centre.x +ℤ pos h } ∷ [])
  oval_row h low high = centred_row (oval_holds o) y o.centre.x h
      (λ x. ellipse_beside o.rx o.ry (record { x = x -ℤ o.centre.x; y = y -ℤ o.centre.y })
      ∙ root_test (unsigned_abs (x -ℤ o.centre.x)) h (o.ry * o.ry)
      (height_of * height_of * (o.rx * o.rx)) (o.rx * o.rx * (o.ry * o.ry)) low high)

  pub oval_no_row : 0 < o.rx → o.ry < height_of → IsRow (oval_holds o) y []
  oval_no_row some l = record {
    exact = λ x. none (oval_holds o (record { x = x; y = y })) (λ h.
        let test : IsTrue (beside_holds o.rx o.ry (unsigned_abs (x -ℤ o.centre.x)) height_of) =
        rw (ellipse_beside o.rx o.ry (record { x = x -ℤ o.centre.x; y = y -ℤ o.centre.y })) at h in
        let m = along_within o.rx o.ry (unsigned_abs (x -ℤ o.centre.x)) height_of some
        (le_from_test _ _ test) in
        omega arith);
    apart = tt;
  }
    where
      none : (b : Bool) → (IsTrue b → ⊥) → false ≡ b
      none true f = absurd (f refl)
      none false f = refl
