-- The fields of objects that are printed are read back.
use Rattle.std.proofs.Common.{◌≡◌, ◌≤◌, ◌<◌, ℕ, suc, ◌+◌, ◌-◌, Bool, true, false, List, [], ◌∷◌}
use Rattle.std.proofs.Common.{◌++◌, length, get_or, Some, Ok, refl, arith, append_assoc, cond, ltb}
use Rattle.std.specs.Prelude.{◌&&◌, nat_le, IsTrue, is_some, is_none, codes, flat_map, slice_get, ℤ}
use Rattle.std.specs.Prelude.{pos, negsuc, int_le, ◌+ℤ◌}
use Rattle.std.specs.Fmt.{decimal, signed_decimal}
use Rattle.std.specs.Ordering.{int_eq}
use Rattle.std.specs.Int.Signed.{mag}
use Rattle.std.proofs.lemmas.Bool.{and_parts, and_from, le-leb, leb-true}
use Rattle.std.proofs.lemmas.Bool.Decides.{Decides-int_eq}
use Rattle.gf_plane.specs.declared.point.Point.{Point}
use Rattle.gf_plane.specs.declared.colour.Rgb.{Rgb}
use Rattle.gf_shape.specs.declared.outline.Outline.TheVariants.{Chain, Disc, Oval}
use Rattle.gf_plane.specs.Reach.{is_reached, is_within_reach}
use Rattle.gf_shape.specs.Ring.{Ring, IsRing}
use Rattle.gf_shape.specs.Round.{Round, is_round}
use Rattle.gf_shape.specs.Oblong.{Oblong, is_oblong, is_radius}
use Rattle.gf_plane.specs.ColourBytes.{HasBytes}
use Rattle.gf_figures.specs.Colours.{Table, colour_in, rgb_of}
use Rattle.gf_figures.specs.DrawingState.{IsFreeNumber, is_table_number}
use Rattle.gf_fig_tokens.specs.declared.faults.FigFault.{FigFault}
use Rattle.gf_fig_tokens.specs.declared.faults.FigFault.TheVariants as fault
use Rattle.gf_fig_tokens.specs.Layout.{Token}
use Rattle.gf_fig_tokens.specs.Forms.{whole, decimal as decimal_form}
use Rattle.gf_fig_tokens.specs.Fields.{is_in, natural, point, points}
use Rattle.gf_fig_read.specs.Styles.{known_colour, filling, style}
use Rattle.gf_fig_read.specs.Outlines.{same_point, is_closed, count, chain, ellipse}
use Rattle.gf_fig_read.specs.Objects.{Drawn, colour_object, object}
use Rattle.gf_fig_write.proofs.PrintedNumbers.{whole_decimal, whole_signed, rgb_word, rgb_read}

-- ---- words that are the same in each text

zero_read : whole (codes "0") ≡ Some (pos 0)
unfolding whole
zero_read = refl

pub one_read : whole (codes "1") ≡ Some (pos 1)
unfolding whole
one_read = refl

pub two_read : whole (codes "2") ≡ Some (pos 2)
unfolding whole
two_read = refl

pub three_read : whole (codes "3") ≡ Some (pos 3)
unfolding whole
three_read = refl

minus_one_read : whole (codes "-1") ≡ Some (negsuc 0)
unfolding whole
minus_one_read = refl

twenty_read : whole (codes "20") ≡ Some (pos 20)
unfolding whole
twenty_read = refl

three_places_read : decimal_form (codes "0.000") ≡ Some true
unfolding decimal_form
three_places_read = refl

four_places_read : decimal_form (codes "0.0000") ≡ Some true
unfolding decimal_form
four_places_read = refl

-- ---- limits

natural_in : (low high n : ℕ) → low ≤ n → n ≤ high → is_in (pos low) (pos high) (pos n) ≡ true
natural_in low high n l h = and_from (nat_le low n) (nat_le n high) (le-leb low n l)
    (le-leb n high h)

pub natural_read : (low high n : ℕ) (wrong : FigFault) (t : Token) (rest : List Token)
    → whole t ≡ Some (pos n) → low ≤ n → n ≤ high → natural low high wrong (t ∷ rest) ≡ Ok (n, rest)
unfolding natural
natural_read low high n wrong t rest is l h = rw (is, natural_in low high n l h) refl

pub reached_small : (z : ℤ) → is_reached z ≡ true → mag z ≤ 10000000
unfolding is_reached
reached_small (pos n) h = leb-true n 10000000
    (and_parts (int_le (negsuc 9999999) (pos n)) (int_le (pos n) (pos 10000000)) h).1
reached_small (negsuc n) h = let m = leb-true n 9999999
    (and_parts (int_le (negsuc 9999999) (negsuc n)) (int_le (negsuc n) (pos 10000000)) h).0 in
    omega (arith, m)

coordinate_whole : (z : ℤ) → is_reached z ≡ true → whole (signed_decimal z) ≡ Some z
coordinate_whole z h = let m = reached_small z h in whole_signed z (omega (arith, m))

-- ---- points

abbrev pub point_words : Point → List Token
point_words p = signed_decimal p.x ∷ signed_decimal p.y ∷ []

point_read : (p : Point) (rest : List Token) → IsTrue (is_within_reach p)
    → point (signed_decimal p.x ∷ signed_decimal p.y ∷ rest) ≡ Ok (p, rest)
unfolding point
point_read p rest h = let r = and_parts (is_reached p.x) (is_reached p.y) h in
    rw (coordinate_whole p.x r.0, r.0, coordinate_whole p.y r.1, r.1) refl

points_read : (ps : List Point) (rest : List Token)
    → ((k : ℕ) (d : Point) → k < length ps → IsTrue (is_within_reach (get_or ps k d)))
    → points (length ps) (flat_map point_words ps ++ rest) ≡ Ok (ps, rest)
unfolding points
points_read [] rest h = refl
points_read (p ∷ ps) rest h = rw (
  point_read p (flat_map point_words ps ++ rest) (h 0 p (omega arith)),
  points_read ps rest (λ k d l. h (suc k) d (omega arith)),
) refl

-- ---- colours

abbrev pub colour_words : ℕ × Rgb → List Token
colour_words e = codes "0" ∷ decimal e.0 ∷ rgb_word e.1 ∷ []

colour_object_read : (d : Drawn) (e : ℕ × Rgb) (rest : List Token) → length d.figures ≡ 0
    → IsFreeNumber d.table e.0 → HasBytes e.1
    → colour_object d (decimal e.0 ∷ rgb_word e.1 ∷ rest) ≡ Ok
    (record d { table = d.table ++ e ∷ [] }, rest)
unfolding colour_object
colour_object_read d e rest none free bytes =
    let f = and_parts (is_table_number e.0) (is_none (colour_in d.table e.0)) free in
    let n = and_parts (nat_le 32 e.0) (nat_le e.0 543) f.0 in
    let most = leb-true e.0 543 n.1 in
    rw (
      none,
      natural_read 32 543 e.0 fault.Range (decimal e.0) (rgb_word e.1 ∷ rest)
          (whole_decimal e.0 (omega (arith, most))) (leb-true 32 e.0 n.0) most,
      f.1,
      rgb_read e.1 bytes,
    ) refl

pub colour_read : (d : Drawn) (e : ℕ × Rgb) (rest : List Token) → length d.figures ≡ 0
    → IsFreeNumber d.table e.0 → HasBytes e.1
    → object d (colour_words e ++ rest) ≡ Ok (record d { table = d.table ++ e ∷ [] }, rest)
unfolding object
colour_read d e rest none free bytes = rw (natural_read 0 2 0 fault.Object (codes "0")
    (decimal e.0 ∷ rgb_word e.1 ∷ rest) zero_read (omega arith) (omega arith))
    (colour_object_read d e rest none free bytes)

-- ---- what figures begin with

abbrev pub style_words : ℕ → ℕ → List Token
style_words c d = codes "0" ∷ codes "0" ∷ decimal c ∷ decimal c ∷ decimal d ∷ codes "-1" ∷ codes
    "20" ∷ codes "0.000" ∷ []

known_read : (table : Table) (c : ℕ) (rest : List Token) → c ≤ 543
    → IsTrue (is_some (rgb_of table c)) → known_colour table (decimal c ∷ rest) ≡ Ok (c, rest)
unfolding known_colour
known_read table c rest small known = rw (
  whole_decimal c (omega (arith, small)),
  natural_in 0 543 c (omega arith) small,
  known,
) refl

filling_read : (table : Table) (c : ℕ) (rest : List Token) → c ≤ 543
    → IsTrue (is_some (rgb_of table c))
    → filling table (codes "0" ∷ codes "0" ∷ decimal c ∷ decimal c ∷ rest) ≡ Ok (c, rest)
unfolding filling
filling_read table c rest small known =
    rw (
      zero_read,
      natural_read 0 0 0 fault.Outline (codes "0") (decimal c ∷ decimal c ∷ rest) zero_read
          (omega arith) (omega arith),
      whole_decimal c (omega (arith, small)),
    ) (known_read table c rest small known)

pub style_read : (table : Table) (least most sub : ℕ) (t : Token) (c d : ℕ) (rest : List Token)
    → whole t ≡ Some (pos sub) → least ≤ sub → sub ≤ most → c ≤ 543
    → IsTrue (is_some (rgb_of table c)) → d ≤ 999
    → style least most table (t ∷ style_words c d ++ rest) ≡ Ok (
      record { sub_type = sub; colour = c; depth = d },
      rest,
    )
unfolding style
style_read table least most sub t c d rest is l h small known deep =
    rw (
      natural_read least most sub fault.SubType t (style_words c d ++ rest) is l h,
      filling_read table c (decimal d ∷ codes "-1" ∷ codes "20" ∷ codes "0.000" ∷ rest) small known,
      natural_read 0 999 d fault.Depth (decimal d) (codes "-1" ∷ codes "20" ∷ codes "0.000" ∷ rest)
          (whole_decimal d (omega (arith, deep))) (omega arith) deep,
      minus_one_read,
      natural_read 20 20 20 fault.Fill (codes "20") (codes "0.000" ∷ rest) twenty_read (omega arith)
          (omega arith),
      three_places_read,
    ) refl

-- ---- chains

abbrev pub count_words : ℕ → List Token
count_words n = codes "0" ∷ codes "0" ∷ codes "-1" ∷ codes "0" ∷ codes "0" ∷ decimal n ∷ []

count_read : (boxed : Bool) (n : ℕ) (rest : List Token) → 4 ≤ n → n ≤ 65536 → (boxed ≡ true → n ≡ 5)
    → count boxed (count_words n ++ rest) ≡ Ok (n, rest)
unfolding count
count_read true n rest l h five = let e : n ≡ 5 = five refl in
    rw (
      zero_read,
      zero_read,
      minus_one_read,
      natural_read 0 0 0 fault.Arrow (codes "0") (codes "0" ∷ decimal n ∷ rest) zero_read
          (omega arith) (omega arith),
      natural_read 0 0 0 fault.Arrow (codes "0") (decimal n ∷ rest) zero_read (omega arith)
          (omega arith),
    )
    (natural_read 5 5 n fault.Count (decimal n) rest (whole_decimal n (omega (arith, h)))
    (omega (arith, e)) (omega (arith, e)))
count_read false n rest l h five =
    rw (
      zero_read,
      zero_read,
      minus_one_read,
      natural_read 0 0 0 fault.Arrow (codes "0") (codes "0" ∷ decimal n ∷ rest) zero_read
          (omega arith) (omega arith),
      natural_read 0 0 0 fault.Arrow (codes "0") (decimal n ∷ rest) zero_read (omega arith)
          (omega arith),
    )
    (natural_read 4 65536 n fault.Count (decimal n) rest (whole_decimal n (omega (arith, h))) l h)

same_some : (p : Point) → same_point (Some p) (Some p) ≡ true
same_some p = and_from (int_eq p.x p.x) (int_eq p.y p.y) ((Decides-int_eq p.x p.x).1 refl)
    ((Decides-int_eq p.y p.y).1 refl)

closed_read : (ps : List Point) → 4 ≤ length ps → slice_get ps (length ps - 1) ≡ slice_get ps 0
    → is_closed ps ≡ true
closed_read [] l e = absurd (omega (arith, l))
closed_read (p ∷ ps) l e = rw e (same_some p)

pub chain_read : (r : Ring) (rest : List Token) → IsRing r
    → chain r.boxed (count_words (length r.points) ++ flat_map point_words r.points ++ rest) ≡ Ok
    (Chain r, rest)
unfolding chain
chain_read r rest h =
    rw (
      append_assoc (count_words (length r.points)) (flat_map point_words r.points) rest,
      count_read r.boxed (length r.points) (flat_map point_words r.points ++ rest) h.least h.most
          h.box,
      points_read r.points rest h.reach,
      closed_read r.points h.least h.closed,
    ) refl

-- ---- discs

mag_choice : (b : Bool) (m k : ℕ) → mag (cond b (negsuc m) (pos k)) ≤ m + k + 1
mag_choice true m k = omega arith
mag_choice false m k = omega arith

pub sum_small : (z : ℤ) (r : ℕ) → mag z ≤ 10000000 → r ≤ 10000000 → mag (z +ℤ pos r) ≤ 20000001
sum_small (pos n) r h l = omega (arith, h, l)
sum_small (negsuc n) r h l = let e : mag (negsuc n +ℤ pos r) ≤ (suc n - suc r) + (r - suc n) + 1 =
    mag_choice (ltb r (suc n)) (suc n - suc r) (r - suc n) in omega (arith, e, h, l)

abbrev pub disc_words : Round → List Token
disc_words r =
    codes "1" ∷ codes "0.0000" ∷ signed_decimal r.centre.x ∷ signed_decimal r.centre.y ∷ decimal
    r.radius ∷ decimal r.radius
    ∷ signed_decimal r.centre.x ∷ signed_decimal r.centre.y ∷ signed_decimal
    (r.centre.x +ℤ pos r.radius) ∷ signed_decimal r.centre.y ∷ []

pub disc_read : (r : Round) (rest : List Token) → IsTrue (is_round r)
    → ellipse true (disc_words r ++ rest) ≡ Ok (Disc r, rest)
unfolding ellipse
disc_read r rest h =
    let p = and_parts (is_within_reach r.centre && nat_le 1 r.radius) (nat_le r.radius 10000000) h
    in
    let q = and_parts (is_within_reach r.centre) (nat_le 1 r.radius) p.0 in
    let c = and_parts (is_reached r.centre.x) (is_reached r.centre.y) q.0 in
    let least = leb-true 1 r.radius q.1 in
    let most = leb-true r.radius 10000000 p.1 in
    let radius : whole (decimal r.radius) ≡ Some (pos r.radius) = whole_decimal r.radius
    (omega (arith, most)) in
    let end = sum_small r.centre.x r.radius (reached_small r.centre.x c.0) most in
    let x = r.centre.x in
    let y = r.centre.y in
    let behind : List Token = signed_decimal x ∷ signed_decimal y ∷ signed_decimal
    (x +ℤ pos r.radius) ∷ signed_decimal y ∷ rest in
    rw (
      one_read,
      four_places_read,
      point_read r.centre (decimal r.radius ∷ decimal r.radius ∷ behind) q.0,
      natural_read 1 10000000 r.radius fault.Radius (decimal r.radius) (decimal r.radius ∷ behind)
          radius least most,
      natural_read r.radius r.radius r.radius fault.Radius (decimal r.radius) behind radius
          (omega arith) (omega arith),
      coordinate_whole x c.0,
      coordinate_whole y c.1,
      whole_signed (x +ℤ pos r.radius) (omega (arith, end)),
      coordinate_whole y c.1,
    ) refl

-- ---- ovals

abbrev pub oval_words : Oblong → List Token
oval_words o =
    codes "1" ∷ codes "0.0000" ∷ signed_decimal o.centre.x ∷ signed_decimal o.centre.y ∷ decimal
    o.rx ∷ decimal o.ry
    ∷ signed_decimal o.centre.x ∷ signed_decimal o.centre.y ∷ signed_decimal
    (o.centre.x +ℤ pos o.rx) ∷ signed_decimal (o.centre.y +ℤ pos o.ry) ∷ []

-- the limits of an oval one by one
pub record Limits (o : Oblong) : Type 0 where
  pub near : IsTrue (is_within_reach o.centre)
  pub x : IsTrue (is_reached o.centre.x)
  pub y : IsTrue (is_reached o.centre.y)
  pub least_rx : 1 ≤ o.rx
  pub most_rx : o.rx ≤ 10000000
  pub least_ry : 1 ≤ o.ry
  pub most_ry : o.ry ≤ 10000000

pub limits : (o : Oblong) → IsTrue (is_oblong o) → Limits o
limits o h =
    let p = and_parts (is_within_reach o.centre && is_radius o.rx) (is_radius o.ry) h in
    let q = and_parts (is_within_reach o.centre) (is_radius o.rx) p.0 in
    let c = and_parts (is_reached o.centre.x) (is_reached o.centre.y) q.0 in
    let m = and_parts (nat_le 1 o.rx) (nat_le o.rx 10000000) q.1 in
    let n = and_parts (nat_le 1 o.ry) (nat_le o.ry 10000000) p.1 in
    record {
      near = q.0;
      x = c.0;
      y = c.1;
      least_rx = leb-true 1 o.rx m.0;
      most_rx = leb-true o.rx 10000000 m.1;
      least_ry = leb-true 1 o.ry n.0;
      most_ry = leb-true o.ry 10000000 n.1;
    }

radius_read : (n : ℕ) (rest : List Token) → 1 ≤ n → n ≤ 10000000
    → natural 1 10000000 fault.Radius (decimal n ∷ rest) ≡ Ok (n, rest)
radius_read n rest least most = natural_read 1 10000000 n fault.Radius (decimal n) rest
    (whole_decimal n (omega (arith, most))) least most

pub oval_read : (o : Oblong) (rest : List Token) → IsTrue (is_oblong o)
    → ellipse false (oval_words o ++ rest) ≡ Ok (Oval o, rest)
unfolding ellipse
oval_read o rest h =
    let l = limits o h in
    let x = o.centre.x in
    let y = o.centre.y in
    let end_x = sum_small x o.rx (reached_small x l.x) l.most_rx in
    let end_y = sum_small y o.ry (reached_small y l.y) l.most_ry in
    let behind : List Token = signed_decimal x ∷ signed_decimal y ∷ signed_decimal
    (x +ℤ pos o.rx) ∷ signed_decimal (y +ℤ pos o.ry) ∷ rest in
    rw (
      one_read,
      four_places_read,
      point_read o.centre (decimal o.rx ∷ decimal o.ry ∷ behind) l.near,
      radius_read o.rx (decimal o.ry ∷ behind) l.least_rx l.most_rx,
      radius_read o.ry behind l.least_ry l.most_ry,
      coordinate_whole x l.x,
      coordinate_whole y l.y,
      whole_signed (x +ℤ pos o.rx) (omega (arith, end_x)),
      whole_signed (y +ℤ pos o.ry) (omega (arith, end_y)),
    ) refl
