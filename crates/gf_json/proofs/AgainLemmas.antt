-- What is written for a value has its form, and is that value.
use Rattle.std.proofs.Common.{◌≡◌, ℕ, ◌≤◌, ◌<◌, ◌^◌, ℤ, pos, negsuc, List, [], ◌∷◌, length, map}
use Rattle.std.proofs.Common.{refl, arith, Bool, true, ◌&&◌, nat_le, int_eq, int_le, ap, sym, ◌∙◌}
use Rattle.std.specs.Prelude.{Option, Some}
use Rattle.std.specs.List.{list_all}
use Rattle.std.proofs.lemmas.Bool.{and_parts}
use Rattle.gf_plane.specs.declared.point.Point.{Point}
use Rattle.gf_plane.specs.declared.colour.Rgb.{Rgb}
use Rattle.gf_ops.proofs.ColourLemmas.{bytes_within}
use Rattle.gf_plane.proofs.HexLemmas.{rgb_of_hex-hex_rgb}
use Rattle.gf_ops.specs.declared.op.OpId.{OpId}
use Rattle.gf_ops.specs.declared.op.Clock.{Clock}
use Rattle.gf_plane.specs.PointCounts.{is_polygon_count}
use Rattle.gf_ops.specs.Limits.{is_aim, is_id, is_clock, is_near, is_size, is_polygon, is_layer}
use Rattle.gf_ops.specs.Limits.{is_colour, is_site}
use Rattle.gf_ops.specs.OperationOrder.{id_cmp, rises}
use Rattle.serde_json.specs.Data.{Data}
use Rattle.serde_json.specs.View.{items_of}
use Rattle.gf_json.specs.LineForms.{all, clock, each, elements, hex_colour, id_of, ids, name}
use Rattle.gf_json.specs.LineForms.{natural, pair, pair_cmp, point, radius, whole}
use Rattle.gf_json.specs.WrittenValues.{natural_data, integer_data, name_data, ids_data, clock_data}
use Rattle.gf_json.specs.WrittenValues.{point_data, points_data, size_data, colour_data}
use Rattle.gf_json.proofs.IdLemmas.{rises-id_of}

-- ---- numbers

whole_again : (n : ℕ) → nat_le n 1000000 ≡ true → whole (natural_data n) ≡ Some (pos n)
whole_again n h =
    let small : n ≤ 1000000 = grind (arith, h) in
    let fits : n < 2 ^ 63 = omega (arith, small) in
    grind (arith, fits)

-- a number within limits
natural_again : (n : ℕ) → nat_le n 1000000 ≡ true → natural (natural_data n) ≡ Some n
natural_again n h = rw (whole_again n h) refl

coordinate_again : (z : ℤ) → (int_le (negsuc 999999) z && int_le z (pos 1000000)) ≡ true
    → whole (integer_data z) ≡ Some z
coordinate_again (pos n) h = whole_again n h
coordinate_again (negsuc n) h = refl

pub level_again : (n : ℕ) → is_layer n ≡ true → natural (natural_data n) ≡ Some n
level_again n h = natural_again n (grind (arith, h))

-- ---- names, sizes and points

-- a site
pub site_again : (n : ℕ) → is_site n ≡ true → natural (natural_data n) ≡ Some n
site_again n h = natural_again n (grind (arith, h))

-- the two numbers of an id
abbrev numbers_of : OpId → ℤ × ℤ
numbers_of i = (pos i.site, pos i.seq)

numbers_again : (i : OpId) → is_id i ≡ true → pair whole (name_data i) ≡ Some (numbers_of i)
numbers_again i h =
    let site : nat_le i.site 1000000 ≡ true = grind (arith, h) in
    let seq : nat_le i.seq 1000000 ≡ true = grind (arith, h) in
    rw (whole_again i.site site, whole_again i.seq seq) refl

-- a name
pub name_again : (i : OpId) → is_id i ≡ true → name (name_data i) ≡ Some i
name_again i h = rw (numbers_again i h) refl

-- a width and a height
pub size_again : (width height : ℕ) → (is_size width && is_size height) ≡ true
    → pair natural (size_data width height) ≡ Some (width, height)
size_again width height h =
    let w : nat_le width 1000000 ≡ true = grind (arith, h) in
    let v : nat_le height 1000000 ≡ true = grind (arith, h) in
    rw (whole_again width w, whole_again height v) refl

same_number : (n : ℕ) → int_eq (pos n) (pos n) ≡ true
same_number n = grind arith

-- a radius
pub radius_again : (n : ℕ) → is_size n ≡ true → radius (size_data n n) ≡ Some n
radius_again n h = rw (whole_again n (and_parts (nat_le 1 n) (nat_le n 1000000) h).1, same_number n)
    refl

near_x : (p : Point) → is_near p ≡ true
    → (int_le (negsuc 999999) p.x && int_le p.x (pos 1000000)) ≡ true
unfolding is_near
near_x p h = grind (arith, h)

near_y : (p : Point) → is_near p ≡ true
    → (int_le (negsuc 999999) p.y && int_le p.y (pos 1000000)) ≡ true
unfolding is_near
near_y p h = grind (arith, h)

-- a point
pub point_again : (p : Point) → is_near p ≡ true → point (point_data p) ≡ Some p
point_again p h = rw (coordinate_again p.x (near_x p h), coordinate_again p.y (near_y p h)) refl

-- ---- lists

elements-items_of : (ds : List Data) → elements (items_of ds) ≡ ds
elements-items_of [] = refl
elements-items_of (d ∷ ds) = ap (λ (es : List Data). d ∷ es) (elements-items_of ds)

each_again : {A B : Type 0} (form : Data → Option B) (f : A → Data) (g : A → B) (p : A → Bool)
    → ((a : A) → p a ≡ true → form (f a) ≡ Some (g a)) → (xs : List A) → list_all p xs ≡ true
    → each form (map f xs) ≡ Some (map g xs)
each_again form f g p t [] h = refl
each_again form f g p t (x ∷ xs) h =
    let parts = and_parts (p x) (list_all p xs) h in
    rw (t x parts.0, each_again form f g p t xs parts.1) refl

map-same : {A : Type 0} (xs : List A) → map (λ x. x) xs ≡ xs
map-same [] = refl
map-same {A = A} (x ∷ xs) = ap (λ (ys : List A). x ∷ ys) (map-same xs)

entry_again : (n : ℕ) → nat_le n 10000 ≡ true → natural (natural_data n) ≡ Some n
entry_again n h = natural_again n (grind (arith, h))

-- a clock of eight entries
pub clock_again : (c : Clock) → length c.0 ≡ 8 → is_clock c ≡ true → clock (clock_data c) ≡ Some c
clock_again c e h =
    rw (
      elements-items_of (map natural_data c.0),
      each_again natural natural_data (λ n. n) (λ n. nat_le n 10000) entry_again c.0 h,
      map-same c.0,
      e,
    ) refl

-- the points of a polygon
pub points_again : (ps : List Point) → is_polygon ps ≡ true
    → all point (points_data ps) ≡ Some ps
points_again ps h =
    let near = (and_parts (is_polygon_count (length ps)) (list_all is_near ps) h).1 in
    rw (
      elements-items_of (map point_data ps),
      each_again point point_data (λ p. p) is_near point_again ps near,
      map-same ps,
    ) refl

ids_of_numbers : (is : List OpId) → map id_of (map numbers_of is) ≡ is
ids_of_numbers [] = refl
ids_of_numbers (i ∷ is) = ap (λ (js : List OpId). i ∷ js) (ids_of_numbers is)

-- the ids of an aim
pub ids_again : (is : List OpId) → is_aim is ≡ true → ids (ids_data is) ≡ Some is
ids_again is h =
    let first = and_parts (nat_le (length is) 1000 && list_all is_id is) (rises id_cmp is) h in
    let named = (and_parts (nat_le (length is) 1000) (list_all is_id is) first.0).1 in
    let again = ids_of_numbers is in
    let rise : rises pair_cmp (map numbers_of is) ≡ true =
    sym (rises-id_of (map numbers_of is) (rw again named)) ∙ rw again first.1 in
    rw (
      elements-items_of (map name_data is),
      each_again (pair whole) name_data numbers_of is_id numbers_again is named,
      rise,
      again,
    ) refl

-- ---- colours

pub colour_again : (c : Rgb) → is_colour c ≡ true → hex_colour (colour_data c) ≡ Some c
colour_again c h = rw (rgb_of_hex-hex_rgb c (bytes_within c h)) refl
