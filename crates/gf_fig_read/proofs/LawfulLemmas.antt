-- What a text reads as has outlines within their limits.
use Rattle.std.proofs.Common.{◌≡◌, ◌≤◌, ℕ, zero, suc, Bool, true, false, List, [], ◌∷◌, length}
use Rattle.std.proofs.Common.{Ok, Err, refl, ap, subst, cond, arith}
use Rattle.std.specs.Prelude.{⊤, ℤ, pos, negsuc, nat_abs, nat_eq, nat_le, int_le, is_none, IsTrue}
use Rattle.std.specs.Prelude.{All, ◌==◌, ◌&&◌, ◌||◌}
use Rattle.std.proofs.lemmas.Bool.{and_parts, and_from, le-leb, leb-true}
use Rattle.std.proofs.lemmas.List.Elements.{All-nil, All-cons, All-append}
use Rattle.gf_plane.specs.declared.point.Point.{Point}
use Rattle.gf_plane.specs.Reach.{is_reached, is_within_reach}
use Rattle.gf_shape.specs.declared.outline.Outline.{Outline}
use Rattle.gf_shape.specs.declared.outline.Outline.TheVariants.{Disc, Oval}
use Rattle.gf_shape.specs.Oblong.{is_radius}
use Rattle.gf_shape.specs.ShapeLaws.{IsLawful}
use Rattle.gf_fig_tokens.specs.declared.faults.FigFault.{FigFault}
use Rattle.gf_fig_tokens.specs.declared.faults.FigFault.TheVariants as fault
use Rattle.gf_fig_tokens.specs.Layout.{Token}
use Rattle.gf_figures.specs.Colours.{colour_in}
use Rattle.gf_fig_tokens.specs.Forms.{whole, decimal, colour}
use Rattle.gf_fig_tokens.specs.Fields.{Read, Reader, ◌>>=◌, field, any, check, give, is_in, natural}
use Rattle.gf_fig_tokens.specs.Fields.{coordinate, point, points}
use Rattle.gf_fig_read.specs.declared.styles.Style.{Style}
use Rattle.gf_fig_read.specs.Styles.{style}
use Rattle.gf_fig_read.specs.Outlines.{count, chain, ellipse, is_closed}
use Rattle.gf_fig_read.specs.Objects.{Drawn, colour_object, figure_object, object}
use Rattle.gf_fig_read.specs.Stepping.{with_figure}
use Rattle.gf_fig_read.specs.FigGrammar.{Leads, none, more, nothing, Reads}
use Rattle.gf_fig_read.proofs.ObjectLemmas.{bind_ok, field_takes}
use Rattle.gf_fig_read.proofs.RingLemmas.{ring_from}

-- whatever r gives has P
record Yields {A : Type 0} (P : A → Type 0) (r : Reader A) : Type 0 where
  pub of : (ts left : List Token) (a : A) → r ts ≡ Ok (a, left) → P a

then : {A B : Type 0} (Q : A → Type 0) (P : B → Type 0) (first : Reader A) (next : A → Reader B)
    → Yields Q first → ((a : A) → Q a → Yields P (next a)) → Yields P (first >>= next)
then Q P first next h k = record {
  of = λ ts left b e.
      let p = bind_ok first next ts b left e in
      (k p.value (h.of ts p.between p.value p.firstly)).of p.between left b p.then;
}

-- past a field of which nothing is asked
past : {A B : Type 0} (P : B → Type 0) (first : Reader A) (next : A → Reader B)
    → ((a : A) → Yields P (next a)) → Yields P (first >>= next)
past P first next k = record {
  of = λ ts left b e.
      let p = bind_ok first next ts b left e in (k p.value).of p.between left b p.then;
}

abbrev value : {A : Type 0} → A → Read A → A
value a (Ok x) = x.0
value a (Err f) = a

gives : {A : Type 0} (P : A → Type 0) (a : A) → P a → Yields P (give a)
gives P a h = record { of = λ ts left b e. subst P (ap (value a) e) h }

passed : (p : Bool) (wrong : FigFault) (ts left : List Token) (a : ⊤)
    → check p wrong ts ≡ Ok (a, left) → p ≡ true
passed true wrong ts left a e = refl
passed false wrong ts left a e = absurd cc

passes : (p : Bool) (wrong : FigFault) → Yields (λ (t : ⊤). p ≡ true) (check p wrong)
passes p wrong = record { of = λ ts left a e. passed p wrong ts left a e }

-- ---- numbers and points

abbrev IsBetween : ℕ → ℕ → ℕ → Type 0
IsBetween low high n = (low ≤ n) × (n ≤ high)

within : (low high : ℕ) (n : ℤ) → is_in (pos low) (pos high) n ≡ true → IsBetween low high (nat_abs n)
within low high (pos n) t =
    let p = and_parts (int_le (pos low) (pos n)) (int_le (pos n) (pos high)) t in
    (leb-true low n p.0, leb-true n high p.1)
within low high (negsuc n) t = absurd cc

between : (low high : ℕ) (wrong : FigFault) → Yields (IsBetween low high) (natural low high wrong)
unfolding natural
between low high wrong = then (λ n. is_in (pos low) (pos high) n ≡ true) (IsBetween low high)
    (field whole (is_in (pos low) (pos high)) wrong) (λ n. give (nat_abs n))
    (record { of = λ ts left n e. (field_takes whole (is_in (pos low) (pos high)) wrong ts left n e).3 })
    (λ n t. gives (IsBetween low high) (nat_abs n) (within low high n t))

reached : Yields (λ n. is_reached n ≡ true) coordinate
reached = record { of = λ ts left n e. (field_takes whole is_reached fault.Range ts left n e).3 }

abbrev IsNear : Point → Type 0
IsNear p = IsTrue (is_within_reach p)

near : Yields IsNear point
unfolding point
near = then (λ n. is_reached n ≡ true) IsNear coordinate _ reached
    (λ x h. then (λ n. is_reached n ≡ true) IsNear coordinate _ reached
    (λ y k. gives IsNear (record { x = x; y = y }) (and_from (is_reached x) (is_reached y) h k)))

-- so many points, all within reach
abbrev AreNear : ℕ → List Point → Type 0
AreNear n ps = (length ps ≡ n) × All IsNear ps

all_near : (n : ℕ) → Yields (AreNear n) (points n)
unfolding points
all_near zero = gives (AreNear zero) [] (refl, All-nil IsNear)
all_near (suc n) = then IsNear (AreNear (suc n)) point _ near
    (λ p h. then (AreNear n) (AreNear (suc n)) (points n) _ (all_near n)
    (λ ps k. gives (AreNear (suc n)) (p ∷ ps) (ap suc k.0, All-cons IsNear p ps h k.1)))

-- ---- outlines

-- how many points a polyline has
abbrev IsCount : Bool → ℕ → Type 0
IsCount boxed n = (4 ≤ n) × (n ≤ 65536) × (boxed ≡ true → n ≡ 5)

counted : (boxed : Bool) (n : ℕ)
    → IsBetween (cond boxed 5 4) (cond boxed 5 65536) n → IsCount boxed n
counted true n h = let l = h.0 in let m = h.1 in (omega (arith, l), omega (arith, m), λ e. omega (arith, l, m))
counted false n h = (h.0, h.1, λ e. absurd cc)

how_many : (boxed : Bool) → Yields (IsCount boxed) (count boxed)
unfolding count
how_many boxed =
    past _ (any whole) _ (λ _. past _ (any whole) _ (λ _. past _ (any whole) _ (λ _.
    past _ (natural 0 0 fault.Arrow) _ (λ _. past _ (natural 0 0 fault.Arrow) _ (λ _.
    record { of = λ ts left n e. counted boxed n ((between _ _ fault.Count).of ts left n e) })))))

lawful_chain : (boxed : Bool) → Yields IsLawful (chain boxed)
unfolding chain
lawful_chain boxed = then (IsCount boxed) IsLawful (count boxed) _ (how_many boxed)
    (λ n c. then (AreNear n) IsLawful (points n) _ (all_near n)
    (λ ps near. then (λ (t : ⊤). is_closed ps ≡ true) IsLawful (check (is_closed ps) fault.Open) _
    (passes (is_closed ps) fault.Open)
    (λ t closed. gives IsLawful _ (ring_from boxed ps n near.0 c.0 c.1 c.2 closed near.1))))

radius_from : (n : ℕ) → IsBetween 1 10000000 n → is_radius n ≡ true
radius_from n h = and_from (nat_le 1 n) (nat_le n 10000000) (le-leb 1 n h.0) (le-leb n 10000000 h.1)

lawful_either : (round : Bool) (c : Point) (r s : ℕ) → IsNear c → IsBetween 1 10000000 r
    → IsBetween (cond round r 1) (cond round r 10000000) s
    → IsLawful (cond round (Disc (record { centre = c; radius = r }))
    (Oval (record { centre = c; rx = r; ry = s })))
lawful_either true c r s h k l =
    and_from (is_within_reach c && nat_le 1 r) (nat_le r 10000000)
    (and_from (is_within_reach c) (nat_le 1 r) h (le-leb 1 r k.0)) (le-leb r 10000000 k.1)
lawful_either false c r s h k l =
    and_from (is_within_reach c && is_radius r) (is_radius s)
    (and_from (is_within_reach c) (is_radius r) h (radius_from r k)) (radius_from s l)

lawful_ellipse : (round : Bool) → Yields IsLawful (ellipse round)
unfolding ellipse
lawful_ellipse round =
    past _ (any whole) _ (λ _. past _ (any decimal) _ (λ zero.
    past _ (check (round || zero) fault.Angle) _ (λ _. then IsNear IsLawful point _ near (λ c h.
    then (IsBetween 1 10000000) IsLawful (natural 1 10000000 fault.Radius) _
    (between 1 10000000 fault.Radius) (λ r k.
    then (IsBetween (cond round r 1) (cond round r 10000000)) IsLawful
    (natural (cond round r 1) (cond round r 10000000) fault.Radius) _
    (between (cond round r 1) (cond round r 10000000) fault.Radius) (λ s l.
    past _ (any whole) _ (λ _. past _ (any whole) _ (λ _. past _ (any whole) _ (λ _.
    past _ (any whole) _ (λ _. gives IsLawful _ (lawful_either round c r s h k l)))))))))))

-- ---- objects

-- the figures of a drawing have outlines within their limits
abbrev AreLawful : Drawn → Type 0
AreLawful d = All (λ f. IsLawful f.shape) d.figures

with_one : (d : Drawn) (s : Style) (o : Outline) → AreLawful d → IsLawful o
    → AreLawful (with_figure d s o)
with_one d s o all h =
    All-append (λ f. IsLawful f.shape) d.figures _ all
    (All-cons (λ f. IsLawful f.shape) _ [] h (All-nil (λ f. IsLawful f.shape)))

lawful_colour : (d : Drawn) → AreLawful d → Yields AreLawful (colour_object d)
unfolding colour_object
lawful_colour d all =
    past _ (check (nat_eq (length d.figures) 0) fault.LateColour) _ (λ _.
    past _ (natural 32 543 fault.Range) _ (λ n.
    past _ (check (is_none (colour_in d.table n)) fault.ColourTwice) _ (λ _.
    past _ (any colour) _ (λ _. gives AreLawful _ all))))

lawful_figure : (least most : ℕ) (outline : ℕ → Reader Outline)
    → ((n : ℕ) → Yields IsLawful (outline n)) → (d : Drawn) → AreLawful d
    → Yields AreLawful (figure_object least most outline d)
unfolding figure_object
lawful_figure least most outline lawful d all = past _ (style least most d.table) _
    (λ s. then IsLawful AreLawful (outline s.sub_type) _ (lawful s.sub_type)
    (λ o h. gives AreLawful _ (with_one d s o all h)))

lawful_by_code : (d : Drawn) → AreLawful d → (zero_is one_is : Bool)
    → Yields AreLawful (cond zero_is (colour_object d)
    (cond one_is (figure_object 1 4 (λ t. ellipse (nat_le 3 t)) d)
    (figure_object 2 3 (λ t. chain (t == 2)) d)))
lawful_by_code d all true one_is = lawful_colour d all
lawful_by_code d all false true = lawful_figure 1 4 _ (λ n. lawful_ellipse (nat_le 3 n)) d all
lawful_by_code d all false false = lawful_figure 2 3 _ (λ n. lawful_chain (n == 2)) d all

lawful_object : (d : Drawn) → AreLawful d → Yields AreLawful (object d)
unfolding object
lawful_object d all = past _ (natural 0 2 fault.Object) _ (λ code. lawful_by_code d all (code == 0) (code == 1))

led : (d e : Drawn) (ts left : List Token) → Leads d ts e left → AreLawful d → AreLawful e
led d e ts left (none c us) all = all
led d e ts left (more c m k us middle end one others) all =
    led m k middle end others ((lawful_object c all).of us middle m one)

pub lawful_read : (text : List ℕ) (d : Drawn) → Reads text d → All (λ f. IsLawful f.shape) d.figures
lawful_read text d reads = led nothing d reads.all [] reads.objects (All-nil (λ f. IsLawful f.shape))
