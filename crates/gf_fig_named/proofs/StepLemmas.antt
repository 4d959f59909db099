-- Fields lead a reading from one place to another.
--
-- Each field takes one token, of those that are still to come. The count of points says how many
-- come behind it.
use Rattle.std.proofs.Common.{◌≡◌, ◌≤◌, ℕ, zero, suc, ◌+◌, ◌*◌, ◌-◌, Bool, true, false, List, []}
use Rattle.std.proofs.Common.{◌∷◌, ◌++◌, refl, sym, ap, subst, ◌∙◌, arith, append_assoc, inl, inr}
use Rattle.std.proofs.Common.{Ok}
use Rattle.std.specs.Prelude.{⊤, Option, Some, pos, negsuc, nat_abs, int_le, ℤ, ◌==◌, if◌then◌else◌}
use Rattle.std.specs.List.{fold}
use Rattle.std.proofs.lemmas.Bool.{and_parts, cases_Bool, leb-true, ne_eqb}
use Rattle.std.proofs.lemmas.List.Sums.{fold-append}
use Rattle.gf_plane.specs.Reach.{is_reached}
use Rattle.gf_plane.specs.declared.point.Point.{Point}
use Rattle.gf_fig_tokens.specs.Fields.{Read, Reader, ◌>>=◌, any, check, coordinate, field, give}
use Rattle.gf_fig_tokens.specs.Fields.{is_in, natural, point, points}
use Rattle.gf_fig_tokens.specs.Forms.{decimal, whole}
use Rattle.gf_fig_tokens.specs.Layout.{Token}
use Rattle.gf_fig_tokens.specs.declared.faults.FigFault.{FigFault}
use Rattle.gf_fig_tokens.specs.declared.faults.FigFault.TheVariants as fault
use Rattle.gf_fig_read.proofs.ObjectLemmas.{bind_ok, field_takes}
use Rattle.gf_fig_named.specs.declared.figures.Place.{Place}
use Rattle.gf_fig_named.specs.FigureNames.{begins, next, place_at}

-- where objects begin
abbrev pub start : Place
start = place_at 0 false

-- how many figures tokens begin
abbrev pub begun_in : Place → List Token → ℕ
begun_in p [] = 0
begun_in p (t ∷ ts) = (if begins p t then 1 else 0) + begun_in (next p t) ts

pub begun-append : (p : Place) (ts us : List Token)
    → begun_in p (ts ++ us) ≡ begun_in p ts + begun_in (fold next p ts) us
begun-append p [] us = omega arith
begun-append p (t ∷ ts) us =
    let e = begun-append (next p t) ts us in
    let n : ℕ = if begins p t then 1 else 0 in
    omega (arith, e)

-- the tokens ts lead from one place to another, where others are left, and begin n figures
pub record Passes (p : Place) (ts : List Token) (q : Place) (left : List Token)
    (n : ℕ) : Type 0 where
  pub taken : List Token
  pub cut : ts ≡ taken ++ left
  pub place : fold next p taken ≡ q
  pub figures : begun_in p taken ≡ n

pub stays : (p : Place) (ts : List Token) → Passes p ts p ts 0
stays p ts = record { taken = []; cut = refl; place = refl; figures = refl }

pub passes_then : (p q r : Place) (ts us vs : List Token) (m n : ℕ) → Passes p ts q us m
    → Passes q us r vs n → Passes p ts r vs (m + n)
passes_then p q r ts us vs m n a b =
    let x = a.figures in
    let y = b.figures in
    let there = ap (λ s. begun_in s b.taken) a.place in
    let both = begun-append p a.taken b.taken in
    record {
      taken = a.taken ++ b.taken;
      cut = a.cut ∙ (ap (λ l. a.taken ++ l) b.cut ∙ sym (append_assoc a.taken b.taken vs));
      place = fold-append next p a.taken b.taken
          ∙ (ap (λ s. fold next s b.taken) a.place ∙ b.place);
      figures = omega (arith, x, y, there, both);
    }

-- ---- readers

-- whatever r gives has P, and its tokens lead from p to a place that it tells, and begin no figure
pub record Steps {A : Type 0} (P : A → Type 0) (p : Place) (q : A → Place) (r : Reader A) : Type 0 where
  pub of : (ts left : List Token) (a : A) → r ts ≡ Ok (a, left) → P a × Passes p ts (q a) left 0

abbrev pub Goes : {A : Type 0} → Place → Place → Reader A → Type 0
Goes {A} p q r = Steps (λ (a : A). ⊤) p (λ (a : A). q) r

-- each token leads from p to q, and begins no figure
abbrev pub Step : Place → Place → Type 0
Step p q = (t : Token) → (next p t ≡ q) × (begins p t ≡ false)

abbrev value : {A : Type 0} → A → Read A → A
value a (Ok x) = x.0
value a r = a

abbrev rest : {A : Type 0} → List Token → Read A → List Token
rest ts (Ok x) = x.1
rest ts r = ts

pub one_passes : (p q : Place) (t : Token) (ts us : List Token) → ts ≡ t ∷ us → next p t ≡ q
    → begins p t ≡ false → Passes p ts q us 0
one_passes p q t ts us cut leads none = record {
  taken = t ∷ [];
  cut = cut;
  place = leads;
  figures = rw none refl;
}

pub steps_field : {A : Type 0} (form : Token → Option A) (passes : A → Bool) (wrong : FigFault)
    (p q : Place) → Step p q → Goes p q (field form passes wrong)
steps_field form passes wrong p q h = record {
  of = λ ts left a e.
      let f = field_takes form passes wrong ts left a e in
      (tt, one_passes p q f.0 ts left f.1 (h f.0).0 (h f.0).1);
}

checked_same : (b : Bool) (wrong : FigFault) (ts left : List Token) (u : ⊤)
    → check b wrong ts ≡ Ok (u, left) → (b ≡ true) × (ts ≡ left)
checked_same true wrong ts left u e = (refl, ap (rest ts) e)
checked_same false wrong ts left u e = absurd cc

pub steps_check : (b : Bool) (wrong : FigFault) (p : Place)
    → Steps (λ (u : ⊤). b ≡ true) p (λ (u : ⊤). p) (check b wrong)
steps_check b wrong p = record {
  of = λ ts left u e.
      let c = checked_same b wrong ts left u e in
      (c.0, subst (λ us. Passes p ts p us 0) c.1 (stays p ts));
}

pub steps_give : {A : Type 0} (P : A → Type 0) (p : Place) (a : A) → P a
    → Steps P p (λ (b : A). p) (give a)
steps_give {A} P p a h = record {
  of = λ ts left b e. (
    subst P (ap (value a) e) h,
    subst (λ us. Passes p ts p us 0) (ap (λ (r : Read A). rest ts r) e) (stays p ts),
  );
}

pub steps_bind : {A B : Type 0} (Q : A → Type 0) (P : B → Type 0) (p : Place) (q : A → Place)
    (r : B → Place) (first : Reader A) (behind : A → Reader B) → Steps Q p q first
    → ((a : A) → Q a → Steps P (q a) r (behind a)) → Steps P p r (first >>= behind)
steps_bind Q P p q r first behind h k = record {
  of = λ ts left b e.
      let f = bind_ok first behind ts b left e in
      let x = h.of ts f.between f.value f.firstly in
      let y = (k f.value x.0).of f.between left b f.then in
      (y.0, passes_then p (q f.value) (r b) ts f.between left 0 0 x.1 y.1);
}

-- one after another, from p over q to r
pub over : {A B : Type 0} (P : B → Type 0) (p q r : Place) (first : Reader A) (behind : A → Reader B)
    → Goes p q first → ((a : A) → Steps P q (λ b. r) (behind a))
    → Steps P p (λ b. r) (first >>= behind)
over {A} {B} P p q r first behind h k =
    steps_bind (λ (a : A). ⊤) P p (λ (a : A). q) (λ (b : B). r) first behind h (λ a t. k a)

-- ---- fields

-- a number from low to high
pub record IsNumber (low high : ℕ) (ts left : List Token) (n : ℕ) : Type 0 where
  pub token : Token
  pub cut : ts ≡ token ∷ left
  pub is : whole token ≡ Some (pos n)
  pub least : low ≤ n
  pub most : n ≤ high

number_in : (low high : ℕ) (z : ℤ) (t : Token) (ts left : List Token) → ts ≡ t ∷ left
    → whole t ≡ Some z → is_in (pos low) (pos high) z ≡ true
    → IsNumber low high ts left (nat_abs z)
number_in low high (pos n) t ts left cut is within =
    let p = and_parts (int_le (pos low) (pos n)) (int_le (pos n) (pos high)) within in
    record {
      token = t;
      cut = cut;
      is = is;
      least = leb-true low n p.0;
      most = leb-true n high p.1;
    }
number_in low high (negsuc n) t ts left cut is within = absurd cc

pub natural_is : (low high : ℕ) (wrong : FigFault) (ts left : List Token) (n : ℕ)
    → natural low high wrong ts ≡ Ok (n, left) → IsNumber low high ts left n
unfolding natural
natural_is low high wrong ts left n e =
    let p = bind_ok (field whole (is_in (pos low) (pos high)) wrong) (λ z. give (nat_abs z)) ts n
    left e in
    let f = field_takes whole (is_in (pos low) (pos high)) wrong ts p.between p.value p.firstly in
    subst (λ m. IsNumber low high ts left m) (ap (value 0) p.then)
    (subst (λ us. IsNumber low high ts us (nat_abs p.value))
    (ap (λ (r : Read ℕ). rest ts r) p.then)
    (number_in low high p.value f.0 ts p.between f.1 f.2 f.3))

pub steps_natural : (low high : ℕ) (wrong : FigFault) (p q : Place) → Step p q
    → Goes p q (natural low high wrong)
steps_natural low high wrong p q h = record {
  of = λ ts left n e.
      let i = natural_is low high wrong ts left n e in
      (tt, one_passes p q i.token ts left i.cut (h i.token).0 (h i.token).1);
}

pub steps_whole : (p q : Place) → Step p q → Goes p q (any whole)
steps_whole = steps_field whole (λ n. true) fault.Token

pub steps_decimal : (p q : Place) → Step p q → Goes p q (any decimal)
steps_decimal = steps_field decimal (λ n. true) fault.Token

pub steps_point : (p q r : Place) → Step p q → Step q r → Goes p r point
unfolding point
steps_point p q r h k =
    over (λ (a : Point). ⊤) p q r coordinate _ (steps_field whole is_reached fault.Range p q h)
    (λ x. over (λ (a : Point). ⊤) q r r coordinate _
    (steps_field whole is_reached fault.Range q r k)
    (λ y. steps_give (λ (a : Point). ⊤) r (record { x = x; y = y }) tt))

-- ---- tokens still to come

next_left : (n : ℕ) (t : Token) → 1 ≤ n → next (place_at n false) t ≡ place_at (n - 1) false
next_left n t l = rw (ne_eqb n 0 (omega (arith, l))) (elim (cases_Bool (n == 1)) [
  | inl e ↦ rw e refl
  | inr e ↦ rw e refl
])

-- one token of several that have no count among them
pub fewer : (m n : ℕ) → m ≡ n + 1 → Step (place_at m false) (place_at n false)
fewer m n e t =
    let back : m - 1 ≡ n = omega (arith, e) in
    (next_left m t (omega (arith, e)) ∙ ap (λ k. place_at k false) back, none)
  where
    none : begins (place_at m false) t ≡ false
    none = rw (ne_eqb m 0 (omega (arith, e))) refl

-- one token before a count of points
pub before_count : (n : ℕ) → Step (place_at (n + 2) true) (place_at (n + 1) true)
before_count n t =
    let back : n + 2 - 1 ≡ n + 1 = omega arith in
    (leads ∙ ap (λ k. place_at k true) back, none)
  where
    leads : next (place_at (n + 2) true) t ≡ place_at (n + 2 - 1) true
    leads = rw (ne_eqb (n + 2) 0 (omega arith), ne_eqb (n + 2) 1 (omega arith)) refl

    none : begins (place_at (n + 2) true) t ≡ false
    none = rw (ne_eqb (n + 2) 0 (omega arith)) refl

pub steps_points : (n : ℕ) → Goes (place_at (2 * n) false) start (points n)
unfolding points
steps_points zero = steps_give (λ (ps : List Point). ⊤) start [] tt
steps_points (suc n) =
    let m = 2 * n in
    over (λ (ps : List Point). ⊤) (place_at (2 * suc n) false) (place_at m false) start point _
    (steps_point (place_at (2 * suc n) false) (place_at (m + 1) false) (place_at m false)
    (fewer (2 * suc n) (m + 1) (omega arith)) (fewer (m + 1) m refl))
    (λ p. over (λ (ps : List Point). ⊤) (place_at m false) start start (points n) _
    (steps_points n) (λ ps. steps_give (λ (qs : List Point). ⊤) start (p ∷ ps) tt))
