-- When the bounds of two outlines have no common point.
use Rattle.std.proofs.Common.{◌≡◌, Bool, true, false, inl, inr, arith}
use Rattle.std.specs.Prelude.{ℤ, ◌≤ℤ◌, int_lt}
use Rattle.std.specs.Int.{int_max}
use Rattle.std.proofs.lemmas.Bool.{cases_Bool, or_cases, or_parts}
use Rattle.std.proofs.lemmas.Int.{ints}
use Rattle.gf_shape.specs.declared.bounds.Bounds.{Bounds}
use Rattle.gf_shape.specs.declared.outline.Outline.{Outline}
use Rattle.gf_plane.specs.declared.point.Point.{Point}
use Rattle.gf_shape.specs.FigureMeaning.{outline_holds}
use Rattle.gf_shape.specs.ShapeLaws.{IsBounds, IsInBounds}
use Rattle.gf_take.specs.Matching.{are_apart, lie_beside}
use Rattle.gf_take.specs.ShownDrawing.{AreApart}

-- spans that lie beside each other have no common number
beside_none : (low high other_low other_high n : ℤ)
    → lie_beside low high other_low other_high ≡ true → low ≤ℤ n → n ≤ℤ high → other_low ≤ℤ n
    → n ≤ℤ other_high → ⊥
unfolding lie_beside
beside_none low high other_low other_high n t l h k m =
    elim (or_cases (int_lt high other_low) (int_lt other_high low) t) [
      | inl e ↦ grind (arith, ints)
      | inr e ↦ grind (arith, ints)
    ]

-- bounds of which one lies beside the other have no common point
beside_empty : (a b : Bounds) → are_apart a b ≡ true → (p : Point) → IsInBounds a p
    → ¬ (IsInBounds b p)
beside_empty a b t p i j =
    elim (or_cases (lie_beside a.low.x a.high.x b.low.x b.high.x)
    (lie_beside a.low.y a.high.y b.low.y b.high.y) t) [
      | inl e ↦ beside_none a.low.x a.high.x b.low.x b.high.x p.x e i.left i.right j.left j.right
      | inr e ↦ beside_none a.low.y a.high.y b.low.y b.high.y p.y e i.top i.bottom j.top j.bottom
    ]

-- low and high
record IsWide (b : Bounds) : Type 0 where
  wide : b.low.x ≤ℤ b.high.x
  high : b.low.y ≤ℤ b.high.y

bounds_wide : (holds : Point → Bool) (b : Bounds) → IsBounds holds b → IsWide b
bounds_wide holds b s =
    let l = s.left in
    let t = s.top in
    let lr = (s.within l.0 l.1).right in
    let tb = (s.within t.0 t.1).bottom in
    let le = l.2 in
    let te = t.2 in
    record { wide = grind (arith, ints); high = grind (arith, ints) }

-- n is in both spans
record IsInBoth (low high other_low other_high n : ℤ) : Type 0 where
  above : low ≤ℤ n
  below : n ≤ℤ high
  other_above : other_low ≤ℤ n
  other_below : n ≤ℤ other_high

-- spans that do not lie beside each other have a common number
meet_at : (low high other_low other_high : ℤ) → low ≤ℤ high → other_low ≤ℤ other_high
    → lie_beside low high other_low other_high ≡ false
    → IsInBoth low high other_low other_high (int_max low other_low)
unfolding lie_beside
meet_at low high other_low other_high l m f =
    let parts = or_parts (int_lt high other_low) (int_lt other_high low) f in
    let e = parts.0 in
    let g = parts.1 in
    record {
      above = grind (arith, ints);
      below = grind (arith, ints);
      other_above = grind (arith, ints);
      other_below = grind (arith, ints);
    }

-- bounds of which none lies beside the other have a common point
meet : (a b : Bounds) → IsWide a → IsWide b → are_apart a b ≡ false
    → (p : Point) × IsInBounds a p × IsInBounds b p
meet a b u v f =
    let parts = or_parts (lie_beside a.low.x a.high.x b.low.x b.high.x)
    (lie_beside a.low.y a.high.y b.low.y b.high.y) f in
    let x = meet_at a.low.x a.high.x b.low.x b.high.x u.wide v.wide parts.0 in
    let y = meet_at a.low.y a.high.y b.low.y b.high.y u.high v.high parts.1 in (
      record { x = int_max a.low.x b.low.x; y = int_max a.low.y b.low.y },
      record { left = x.above; right = x.below; top = y.above; bottom = y.below },
      record {
        left = x.other_above;
        right = x.other_below;
        top = y.other_above;
        bottom = y.other_below;
      },
    )

-- all least bounds of one set hold the same points
within_other : (holds : Point → Bool) (a b : Bounds) → IsBounds holds a → IsBounds holds b
    → (p : Point) → IsInBounds a p → IsInBounds b p
within_other holds a b s t p i =
    let l = s.left in
    let r = s.right in
    let u = s.top in
    let d = s.bottom in
    let le = l.2 in
    let re = r.2 in
    let ue = u.2 in
    let de = d.2 in
    let lm = (t.within l.0 l.1).left in
    let rm = (t.within r.0 r.1).right in
    let um = (t.within u.0 u.1).top in
    let dm = (t.within d.0 d.1).bottom in
    let il = i.left in
    let ir = i.right in
    let it = i.top in
    let ib = i.bottom in
    record {
      left = grind (arith, ints);
      right = grind (arith, ints);
      top = grind (arith, ints);
      bottom = grind (arith, ints);
    }

-- outlines lie apart exactly where the test of their bounds says so
pub apart_tested : (o other : Outline) (a b : Bounds) → IsBounds (outline_holds o) a
    → IsBounds (outline_holds other) b → are_apart a b ≡ true → AreApart o other
apart_tested o other a b s t e = record {
  bounds = a;
  others = b;
  is_bounds = s;
  is_others = t;
  apart = beside_empty a b e;
}

pub tested_apart : (o other : Outline) (a b : Bounds) → IsBounds (outline_holds o) a
    → IsBounds (outline_holds other) b → AreApart o other → are_apart a b ≡ true
tested_apart o other a b s t w = elim (cases_Bool (are_apart a b)) [
  | inl e ↦ e
  | inr f ↦
      let m = meet a b (bounds_wide (outline_holds o) a s) (bounds_wide (outline_holds other) b t) f
      in
      absurd (w.apart m.0 (within_other (outline_holds o) a w.bounds s w.is_bounds m.0 m.1)
      (within_other (outline_holds other) b w.others t w.is_others m.0 m.2))
]
