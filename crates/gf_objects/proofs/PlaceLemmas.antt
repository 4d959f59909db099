-- A polygon whose points are near, seen from a near place, is within its limits where it gets its
-- place from its chain.
use Rattle.std.specs.Prelude.{◌≡◌, ℤ, pos, negsuc, ◌+ℤ◌, ◌-ℤ◌, ◌≤ℤ◌, All, IsTrue, List, []}
use Rattle.std.specs.Prelude.{◌∷◌, ◌++◌, ◌≤◌, fold, length, map, refl, take}
use Rattle.std.specs.List.{list_all}
use Rattle.std.specs.Int.Signed.{le_z_yes}
use Rattle.std.proofs.Common.{arith}
use Rattle.std.proofs.lemmas.Bool.{and_from, and_parts}
use Rattle.std.proofs.lemmas.Int.{ints}
use Rattle.std.proofs.lemmas.List.Elements.{All-append, All-cons, All-head, All-map, All-nil}
use Rattle.std.proofs.lemmas.List.Elements.{All-tail, All-take}
use Rattle.gf_plane.specs.declared.point.Point.{Point}
use Rattle.gf_plane.specs.Moving.{minus, plus}
use Rattle.gf_plane.specs.Reach.{is_reached}
use Rattle.gf_shape.specs.ShapeMoves.{points_moved}
use Rattle.gf_ops.specs.Limits.{is_near}
use Rattle.gf_objects.specs.Boxes.{greatest_corner, least_corner, point_at}
use Rattle.gf_objects.specs.Places.{drawn, greatest_of, least_of, place_along, polygon_place}

-- ---- the least and the greatest coordinates

-- a corner of two points, along one coordinate of them, and an order in which it is beneath both
-- and above all that is beneath both
module _ (corner : Point → Point → Point) (along : Point → ℤ) (Within : ℤ → ℤ → Type 0)
    (same : (n : ℤ) → Within n n)
    (through : (a b c : ℤ) → Within a b → Within b c → Within a c)
    (first : (a b : Point) → Within (along (corner a b)) (along a))
    (other : (a b : Point) → Within (along (corner a b)) (along b))
    (both : (n : ℤ) (a b : Point) → Within n (along a) → Within n (along b)
    → Within n (along (corner a b))) where
  -- the corner of all is beneath the one that it begins with
  corner_begins : (a : Point) (ps : List Point) → Within (along (fold corner a ps)) (along a)
  corner_begins a [] = same (along a)
  corner_begins a (p ∷ ps) = through (along (fold corner (corner a p) ps)) (along (corner a p))
      (along a) (corner_begins (corner a p) ps) (first a p)

  -- the corner of all is beneath each
  pub corner_within : (a : Point) (ps : List Point)
      → All (λ p. Within (along (fold corner a ps)) (along p)) ps
  corner_within a [] = All-nil (λ p. Within (along a) (along p))
  corner_within a (p ∷ ps) =
      let all = fold corner (corner a p) ps in
      All-cons (λ q. Within (along all) (along q)) p ps
      (through (along all) (along (corner a p)) (along p) (corner_begins (corner a p) ps) (other a p))
      (corner_within (corner a p) ps)

  -- what is beneath each is beneath the corner of all
  pub corner_bounds : (n : ℤ) (a : Point) (ps : List Point) → Within n (along a)
      → All (λ p. Within n (along p)) ps → Within n (along (fold corner a ps))
  corner_bounds n a [] begins each = begins
  corner_bounds n a (p ∷ ps) begins each =
      corner_bounds n (corner a p) ps
      (both n a p begins (All-head (λ q. Within n (along q)) p ps each))
      (All-tail (λ q. Within n (along q)) p ps each)

-- ---- the place

-- n is a coordinate of a near point
abbrev pub IsNearAlong : ℤ → Type 0
IsNearAlong n = (negsuc 999999 ≤ℤ n) × (n ≤ℤ pos 1000000)

-- a number that was drawn lies between the ends, where they are in order
drawn_ends : (low high n : ℤ) → low ≤ℤ high → (low ≤ℤ drawn low high n) × (drawn low high n ≤ℤ high)
drawn_ends low high n ends = (grind (arith, ints), grind (arith, ints))

-- and between two numbers between which it was, where each end is on their side
pub drawn_between : (low high n a b : ℤ) → a ≤ℤ n → n ≤ℤ b → a ≤ℤ high → low ≤ℤ b
    → (a ≤ℤ drawn low high n) × (drawn low high n ≤ℤ b)
drawn_between low high n a b under over left right = (grind (arith, ints), grind (arith, ints))

low_end : (q n : ℤ) → negsuc 999999 ≤ℤ q → (q -ℤ pos 1000000) ≤ℤ n
    → negsuc 999999 ≤ℤ (n +ℤ pos 1000000)
low_end q n near low = omega (arith, ints, near, low)

high_end : (q n : ℤ) → q ≤ℤ pos 1000000 → n ≤ℤ (q +ℤ pos 1000000)
    → (n -ℤ pos 1000000) ≤ℤ pos 1000000
high_end q n near high = omega (arith, ints, near, high)

ends_in_order : (q least greatest : ℤ) → (q -ℤ pos 1000000) ≤ℤ least
    → greatest ≤ℤ (q +ℤ pos 1000000) → (greatest -ℤ pos 1000000) ≤ℤ (least +ℤ pos 1000000)
ends_in_order q least greatest low high = omega (arith, ints, low, high)

-- coordinates within 1,000,000 of q, which is near, lead to a near place
pub place_is_near : (q n least greatest : ℤ) → IsNearAlong q → (q -ℤ pos 1000000) ≤ℤ least
    → greatest ≤ℤ (q +ℤ pos 1000000) → IsNearAlong (place_along n least greatest)
place_is_near q n least greatest near low high =
    let inner = drawn_ends (negsuc 999999) (pos 1000000) n (le_z_yes tt) in
    drawn_between (greatest -ℤ pos 1000000) (least +ℤ pos 1000000)
    (drawn (negsuc 999999) (pos 1000000) n) (negsuc 999999) (pos 1000000) inner.0 inner.1
    (low_end q least near.0 low) (high_end q greatest near.1 high)

seen_low : (least place c : ℤ) → place ≤ℤ (least +ℤ pos 1000000) → least ≤ℤ c
    → negsuc 999999 ≤ℤ (c -ℤ place)
seen_low least place c p l = omega (arith, ints, p, l)

seen_high : (greatest place c : ℤ) → (greatest -ℤ pos 1000000) ≤ℤ place → c ≤ℤ greatest
    → (c -ℤ place) ≤ℤ pos 1000000
seen_high greatest place c p g = omega (arith, ints, p, g)

-- each of them is near, seen from there
pub seen_is_near : (q n least greatest c : ℤ) → IsNearAlong q → (q -ℤ pos 1000000) ≤ℤ least
    → greatest ≤ℤ (q +ℤ pos 1000000) → least ≤ℤ c → c ≤ℤ greatest
    → IsNearAlong (c -ℤ place_along n least greatest)
seen_is_near q n least greatest c near low high above beneath =
    let place = place_along n least greatest in
    let ends = drawn_ends (greatest -ℤ pos 1000000) (least +ℤ pos 1000000)
    (drawn (negsuc 999999) (pos 1000000) n) (ends_in_order q least greatest low high) in
    (seen_low least place c ends.1 above, seen_high greatest place c ends.0 beneath)

-- a point is near where both coordinates are
pub near_point : (p : Point) → IsNearAlong p.x → IsNearAlong p.y → IsTrue (is_near p)
unfolding is_near
near_point p x y = grind (arith, ints)

pub point_near : (p : Point) → IsTrue (is_near p) → IsNearAlong p.x × IsNearAlong p.y
unfolding is_near
point_near p near = grind (arith, ints)

-- ---- one coordinate of all points

-- along gives a coordinate of a point
record IsAlong (along : Point → ℤ) : Type 0 where
  pub sum : (p d : Point) → along (plus p d) ≡ along p +ℤ along d
  pub near : (p : Point) → IsTrue (is_near p) → IsNearAlong (along p)
  pub least_first : (a b : Point) → along (least_corner a b) ≤ℤ along a
  pub least_other : (a b : Point) → along (least_corner a b) ≤ℤ along b
  pub least_both : (n : ℤ) (a b : Point) → n ≤ℤ along a → n ≤ℤ along b
      → n ≤ℤ along (least_corner a b)
  pub greatest_first : (a b : Point) → along a ≤ℤ along (greatest_corner a b)
  pub greatest_other : (a b : Point) → along b ≤ℤ along (greatest_corner a b)
  pub greatest_both : (n : ℤ) (a b : Point) → along a ≤ℤ n → along b ≤ℤ n
      → along (greatest_corner a b) ≤ℤ n

-- points lie about q along a coordinate, and each between the least and the greatest one
record LiesAbout (along : Point → ℤ) (q : ℤ) (ps : List Point) : Type 0 where
  pub low : (q -ℤ pos 1000000) ≤ℤ along (least_of ps)
  pub high : along (greatest_of ps) ≤ℤ (q +ℤ pos 1000000)
  pub above : All (λ p. along (least_of ps) ≤ℤ along p) ps
  pub beneath : All (λ p. along p ≤ℤ along (greatest_of ps)) ps

same_z : (n : ℤ) → n ≤ℤ n
same_z n = omega (arith, ints)

through_z : (a b c : ℤ) → a ≤ℤ b → b ≤ℤ c → a ≤ℤ c
through_z a b c x y = omega (arith, ints)

back_z : (a b c : ℤ) → b ≤ℤ a → c ≤ℤ b → c ≤ℤ a
back_z a b c x y = omega (arith, ints)

low_sum : (s n d : ℤ) → s ≡ n +ℤ d → IsNearAlong n → (d -ℤ pos 1000000) ≤ℤ s
low_sum s n d e near = omega (arith, ints, e, near.0)

high_sum : (s n d : ℤ) → s ≡ n +ℤ d → IsNearAlong n → s ≤ℤ (d +ℤ pos 1000000)
high_sum s n d e near = omega (arith, ints, e, near.1)

module _ (along : Point → ℤ) (is : IsAlong along) (d : Point) where
  -- the moved points lie about the place to which they are moved
  all_low : (ps : List Point) → IsTrue (list_all is_near ps)
      → All (λ p. (along d -ℤ pos 1000000) ≤ℤ along p) (points_moved ps d)
  all_low [] near = All-nil (λ p. (along d -ℤ pos 1000000) ≤ℤ along p)
  all_low (p ∷ ps) near =
      let parts = and_parts (is_near p) (list_all is_near ps) near in
      All-cons (λ q. (along d -ℤ pos 1000000) ≤ℤ along q) (plus p d) (points_moved ps d)
      (low_sum (along (plus p d)) (along p) (along d) (is.sum p d) (is.near p parts.0))
      (all_low ps parts.1)

  all_high : (ps : List Point) → IsTrue (list_all is_near ps)
      → All (λ p. along p ≤ℤ (along d +ℤ pos 1000000)) (points_moved ps d)
  all_high [] near = All-nil (λ p. along p ≤ℤ (along d +ℤ pos 1000000))
  all_high (p ∷ ps) near =
      let parts = and_parts (is_near p) (list_all is_near ps) near in
      All-cons (λ q. along q ≤ℤ (along d +ℤ pos 1000000)) (plus p d) (points_moved ps d)
      (high_sum (along (plus p d)) (along p) (along d) (is.sum p d) (is.near p parts.0))
      (all_high ps parts.1)

  lies_about : (p : Point) (ps : List Point) → IsTrue (list_all is_near (p ∷ ps))
      → LiesAbout along (along d) (points_moved (p ∷ ps) d ++ take 1 (points_moved (p ∷ ps) d))
  lies_about p ps near =
      let qs = points_moved (p ∷ ps) d in
      let ring = qs ++ take 1 qs in
      let low = all_low (p ∷ ps) near in
      let high = all_high (p ∷ ps) near in
      let Low : Point → Type 0 = λ q. (along d -ℤ pos 1000000) ≤ℤ along q in
      let High : Point → Type 0 = λ q. along q ≤ℤ (along d +ℤ pos 1000000) in
      record {
        low = corner_bounds least_corner along (λ m n. m ≤ℤ n) same_z through_z is.least_first
            is.least_other is.least_both (along d -ℤ pos 1000000) (plus p d) ring
            (All-head Low (plus p d) (points_moved ps d) low)
            (All-append Low qs (take 1 qs) low (All-take Low 1 qs low));
        high = corner_bounds greatest_corner along (λ m n. n ≤ℤ m) same_z back_z
            is.greatest_first is.greatest_other is.greatest_both (along d +ℤ pos 1000000)
            (plus p d) ring (All-head High (plus p d) (points_moved ps d) high)
            (All-append High qs (take 1 qs) high (All-take High 1 qs high));
        above = corner_within least_corner along (λ m n. m ≤ℤ n) same_z through_z is.least_first
            is.least_other is.least_both (plus p d) ring;
        beneath = corner_within greatest_corner along (λ m n. n ≤ℤ m) same_z back_z
            is.greatest_first is.greatest_other is.greatest_both (plus p d) ring;
      }

-- ---- both coordinates

along_x : IsAlong (λ p. p.x)
along_x = record {
  sum = λ p d. refl;
  near = λ p near. (point_near p near).0;
  least_first = λ a b. grind (arith, ints);
  least_other = λ a b. grind (arith, ints);
  least_both = λ n a b l k. grind (arith, ints);
  greatest_first = λ a b. grind (arith, ints);
  greatest_other = λ a b. grind (arith, ints);
  greatest_both = λ n a b l k. grind (arith, ints);
}

along_y : IsAlong (λ p. p.y)
along_y = record {
  sum = λ p d. refl;
  near = λ p near. (point_near p near).1;
  least_first = λ a b. grind (arith, ints);
  least_other = λ a b. grind (arith, ints);
  least_both = λ n a b l k. grind (arith, ints);
  greatest_first = λ a b. grind (arith, ints);
  greatest_other = λ a b. grind (arith, ints);
  greatest_both = λ n a b l k. grind (arith, ints);
}

module _ (d : Point) (near_d : IsTrue (is_near d)) (ring : List Point)
    (x : LiesAbout (λ p. p.x) d.x ring) (y : LiesAbout (λ p. p.y) d.y ring) where
  abbrev place : Point
  place = polygon_place ring

  near_place : IsTrue (is_near place)
  near_place =
      let at = point_near d near_d in
      near_point place
      (place_is_near d.x (point_at ring 0).x (least_of ring).x (greatest_of ring).x at.0 x.low x.high)
      (place_is_near d.y (point_at ring 0).y (least_of ring).y (greatest_of ring).y at.1 y.low y.high)

  near_seen : (ps : List Point) → All (λ p. (least_of ring).x ≤ℤ p.x) ps
      → All (λ p. p.x ≤ℤ (greatest_of ring).x) ps → All (λ p. (least_of ring).y ≤ℤ p.y) ps
      → All (λ p. p.y ≤ℤ (greatest_of ring).y) ps
      → IsTrue (list_all is_near (map (λ p. minus p place) ps))
  near_seen [] left right top bottom = refl
  near_seen (p ∷ ps) left right top bottom =
      let at = point_near d near_d in
      let Left : Point → Type 0 = λ p. (least_of ring).x ≤ℤ p.x in
      let Right : Point → Type 0 = λ p. p.x ≤ℤ (greatest_of ring).x in
      let Top : Point → Type 0 = λ p. (least_of ring).y ≤ℤ p.y in
      let Bottom : Point → Type 0 = λ p. p.y ≤ℤ (greatest_of ring).y in
      and_from (is_near (minus p place)) (list_all is_near (map (λ q. minus q place) ps))
      (near_point (minus p place)
      (seen_is_near d.x (point_at ring 0).x (least_of ring).x (greatest_of ring).x p.x at.0 x.low
      x.high (All-head Left p ps left) (All-head Right p ps right))
      (seen_is_near d.y (point_at ring 0).y (least_of ring).y (greatest_of ring).y p.y at.1 y.low
      y.high (All-head Top p ps top) (All-head Bottom p ps bottom)))
      (near_seen ps (All-tail Left p ps left) (All-tail Right p ps right)
      (All-tail Top p ps top) (All-tail Bottom p ps bottom))

-- the place of the chain round moved points is near, and so is each of its points seen from there
pub moved_near : (ps : List Point) (d : Point) → 1 ≤ length ps → IsTrue (list_all is_near ps)
    → IsTrue (is_near d)
    → IsTrue (is_near (polygon_place (points_moved ps d ++ take 1 (points_moved ps d))))
    × IsTrue (list_all is_near (map
    (λ p. minus p (polygon_place (points_moved ps d ++ take 1 (points_moved ps d))))
    (points_moved ps d ++ take 1 (points_moved ps d))))
moved_near [] d some near near_d = absurd (omega (arith, some))
moved_near (p ∷ ps) d some near near_d =
    let qs = points_moved (p ∷ ps) d in
    let ring = qs ++ take 1 qs in
    let x = lies_about (λ p. p.x) along_x d p ps near in
    let y = lies_about (λ p. p.y) along_y d p ps near in (
      near_place d near_d ring x y,
      near_seen d near_d ring x y ring x.above x.beneath y.above y.beneath,
    )

far_low : (n : ℤ) → negsuc 999999 ≤ℤ n → negsuc 8999999 ≤ℤ n
far_low n l = omega (arith, ints, l)

far_high : (n : ℤ) → n ≤ℤ pos 1000000 → n ≤ℤ pos 9000000
far_high n l = omega (arith, ints, l)

reached_ends : (least greatest : ℤ) → IsTrue (is_reached least) → IsTrue (is_reached greatest)
    → (negsuc 8999999 ≤ℤ (least +ℤ pos 1000000)) × ((greatest -ℤ pos 1000000) ≤ℤ pos 9000000)
unfolding is_reached
reached_ends least greatest low high = (grind (arith, ints), grind (arith, ints))

far_reached : (n : ℤ) → negsuc 8999999 ≤ℤ n → n ≤ℤ pos 9000000 → IsTrue (is_reached n)
unfolding is_reached
far_reached n low high = grind (arith, ints)

-- a place between coordinates within reach is within reach
pub reached_place : (n least greatest : ℤ) → IsTrue (is_reached least)
    → IsTrue (is_reached greatest) → IsTrue (is_reached (place_along n least greatest))
reached_place n least greatest low high =
    let inner = drawn_ends (negsuc 999999) (pos 1000000) n (le_z_yes tt) in
    let ends = reached_ends least greatest low high in
    let whole = drawn_between (greatest -ℤ pos 1000000) (least +ℤ pos 1000000)
    (drawn (negsuc 999999) (pos 1000000) n) (negsuc 8999999) (pos 9000000)
    (far_low (drawn (negsuc 999999) (pos 1000000) n) inner.0)
    (far_high (drawn (negsuc 999999) (pos 1000000) n) inner.1) ends.0 ends.1 in
    far_reached (place_along n least greatest) whole.0 whole.1
