-- A whole object leads a reading from where objects begin to where the next one begins, and begins
-- a figure if it is one.
use Rattle.std.proofs.Common.{◌≡◌, ◌≢◌, ◌≤◌, ℕ, ◌+◌, Bool, true, false, List, [], ◌∷◌, ◌++◌, length}
use Rattle.std.proofs.Common.{length-append, cond, refl, ap, subst, ◌∙◌, arith, inl, inr, ◌⊎◌, Ok}
use Rattle.std.specs.Prelude.{⊤, Some, pos, nat_eq, nat_le, ◌==◌, is_none}
use Rattle.std.proofs.lemmas.Bool.{eqb-true}
use Rattle.std.proofs.lemmas.Bool.Decides.{Decides-eqb}
use Rattle.gf_figures.specs.Colours.{colour_in}
use Rattle.gf_fig_tokens.specs.Fields.{natural}
use Rattle.gf_fig_tokens.specs.Forms.{colour, whole}
use Rattle.gf_fig_tokens.specs.Layout.{Token}
use Rattle.gf_fig_tokens.specs.declared.faults.FigFault.TheVariants as fault
use Rattle.gf_fig_read.specs.Objects.{Drawn, colour_object, figure_object, object}
use Rattle.gf_fig_read.specs.Stepping.{with_figure}
use Rattle.gf_fig_read.specs.Outlines.{chain, ellipse}
use Rattle.gf_fig_read.proofs.ObjectLemmas.{bind_ok}
use Rattle.gf_fig_named.specs.declared.figures.Place.{Place}
use Rattle.gf_fig_named.specs.FigureNames.{begins, next, place_at}
use Rattle.gf_fig_named.proofs.StepLemmas.{start, Passes, passes_then, Steps, Step, one_passes}
use Rattle.gf_fig_named.proofs.StepLemmas.{steps_field, steps_check, steps_give, steps_bind, over}
use Rattle.gf_fig_named.proofs.StepLemmas.{natural_is, steps_natural, fewer, before_count}
use Rattle.gf_fig_named.proofs.OutlineLemmas.{CountsDown, before, ends_down, last, steps_chain}
use Rattle.gf_fig_named.proofs.OutlineLemmas.{steps_ellipse, steps_style}

-- a colour more, before the first figure
pub record AddsColour (d m : Drawn) (ts left : List Token) : Type 0 where
  pub none : length d.figures ≡ 0
  pub still : length m.figures ≡ 0
  pub table : length m.table ≡ length d.table + 1
  pub passes : Passes start ts start left 0

-- a figure more, which the first token begins
pub record AddsFigure (d m : Drawn) (ts left : List Token) : Type 0 where
  pub token : Token
  pub others : List Token
  pub cut : ts ≡ token ∷ others
  pub begins : begins start token ≡ true
  pub table : length m.table ≡ length d.table
  pub figures : length m.figures ≡ length d.figures + 1
  pub passes : Passes start ts start left 1

abbrev IsFirst : Drawn → Drawn → Type 0
IsFirst d m = (length d.figures ≡ 0) × (length m.figures ≡ 0)
    × (length m.table ≡ length d.table + 1)

steps_colour : (d : Drawn) → Steps (IsFirst d) (last 2) (λ m. start) (colour_object d)
unfolding colour_object
steps_colour d =
    steps_bind (λ (u : ⊤). nat_eq (length d.figures) 0 ≡ true) (IsFirst d) (last 2)
    (λ (u : ⊤). last 2) (λ m. start) _ _
    (steps_check (nat_eq (length d.figures) 0) fault.LateColour (last 2))
    (λ u none. over (IsFirst d) (last 2) (last 1) start _ _
    (steps_natural 32 543 fault.Range (last 2) (last 1) (ends_down 1))
    (λ n. steps_bind (λ (u : ⊤). is_none (colour_in d.table n) ≡ true) (IsFirst d) (last 1)
    (λ (u : ⊤). last 1) (λ m. start) _ _
    (steps_check (is_none (colour_in d.table n)) fault.ColourTwice (last 1))
    (λ v new. over (IsFirst d) (last 1) start start _ _
    (steps_field colour (λ c. true) fault.Token (last 1) start (ends_down 0))
    (λ c. steps_give (IsFirst d) start (record d { table = d.table ++ (n, c) ∷ [] })
    (let z = eqb-true (length d.figures) 0 none in
    let l = length-append d.table ((n, c) ∷ []) in
    (z, z, omega (arith, l)))))))

abbrev IsNext : Drawn → Drawn → Type 0
IsNext d m = (length m.table ≡ length d.table) × (length m.figures ≡ length d.figures + 1)

one_more : {X : Type 0} (xs : List X) (x : X) → length (xs ++ x ∷ []) ≡ length xs + 1
one_more xs x = let l = length-append xs (x ∷ []) in omega (arith, l)

-- places before the style of an ellipse and of a polyline are counted to the fields behind it
abbrev ellipse_place : ℕ → Place
ellipse_place n = place_at (n + 10) false

ellipse_down : CountsDown ellipse_place
ellipse_down n = fewer (n + 1 + 10) (n + 10) (omega arith)

abbrev polyline_place : ℕ → Place
polyline_place n = place_at (n + 6) true

polyline_down : CountsDown polyline_place
polyline_down n = subst (λ m. Step (place_at m true) (polyline_place n)) (omega arith)
    (subst (λ m. Step (place_at (n + 5 + 2) true) (place_at m true)) (omega arith)
    (before_count (n + 5)))

steps_ellipse_object : (d : Drawn) → Steps (IsNext d) (last 19) (λ m. start)
    (figure_object 1 4 (λ t. ellipse (nat_le 3 t)) d)
unfolding figure_object
steps_ellipse_object d =
    over (IsNext d) (last 19) (last 10) start _ _
    (steps_style ellipse_place ellipse_down d.table 1 4)
    (λ s. over (IsNext d) (last 10) start start _ _ (steps_ellipse (nat_le 3 s.sub_type))
    (λ o. steps_give (IsNext d) start (with_figure d s o)
    (refl, one_more d.figures (record { shape = o; colour = s.colour; depth = s.depth }))))

steps_polyline_object : (d : Drawn)
    → Steps (IsNext d) (place_at 15 true) (λ m. start) (figure_object 2 3 (λ t. chain (t == 2)) d)
unfolding figure_object
steps_polyline_object d =
    over (IsNext d) (place_at 15 true) (before 5) start _ _
    (steps_style polyline_place polyline_down d.table 2 3)
    (λ s. over (IsNext d) (before 5) start start _ _ (steps_chain (s.sub_type == 2))
    (λ o. steps_give (IsNext d) start (with_figure d s o)
    (refl, one_more d.figures (record { shape = o; colour = s.colour; depth = s.depth }))))

abbrev Adds : Drawn → Drawn → List Token → List Token → Type 0
Adds d m ts left = AddsColour d m ts left ⊎ AddsFigure d m ts left

module _ (d m : Drawn) (t : Token) (ts us left : List Token) (cut : ts ≡ t ∷ us) where
  adds_colour : whole t ≡ Some (pos 0) → colour_object d us ≡ Ok (m, left) → Adds d m ts left
  adds_colour w read =
      let x = (steps_colour d).of us left m read in
      inl (record {
        none = x.0.0;
        still = x.0.1;
        table = x.0.2;
        passes = passes_then start (last 2) start ts us left 0 0
            (one_passes start (last 2) t ts us cut (rw w refl) (rw w refl)) x.1;
      })

  adds_figure : (p : Place) → next start t ≡ p → begins start t ≡ true
      → IsNext d m × Passes p us start left 0 → Adds d m ts left
  adds_figure p leads first x = inr (record {
    token = t;
    others = us;
    cut = cut;
    begins = first;
    table = x.0.0;
    figures = x.0.1;
    passes = passes_then start p start ts us left 1 0
        (record { taken = t ∷ []; cut = cut; place = leads; figures = rw first refl }) x.1;
  })

  adds_of : (n : ℕ) → whole t ≡ Some (pos n) → n ≤ 2 → (is_zero is_one : Bool) → (n == 0) ≡ is_zero
      → (n == 1) ≡ is_one → cond is_zero (colour_object d)
      (cond is_one (figure_object 1 4 (λ u. ellipse (nat_le 3 u)) d)
      (figure_object 2 3 (λ u. chain (u == 2)) d)) us ≡ Ok (m, left) → Adds d m ts left
  adds_of n w most true is_one p q read =
      let code : n ≡ 0 = eqb-true n 0 p in
      adds_colour (w ∙ ap (λ k. Some (pos k)) code) read
  adds_of n w most false true p q read =
      let code : n ≡ 1 = eqb-true n 1 q in
      let is : whole t ≡ Some (pos 1) = w ∙ ap (λ k. Some (pos k)) code in
      adds_figure (last 19) (rw is refl) (rw is refl)
      ((steps_ellipse_object d).of us left m read)
  adds_of n w most false false p q read =
      let x = not_equal n 0 p in
      let y = not_equal n 1 q in
      let code : n ≡ 2 = omega (arith, most, x, y) in
      let is : whole t ≡ Some (pos 2) = w ∙ ap (λ k. Some (pos k)) code in
      adds_figure (place_at 15 true) (rw is refl) (rw is refl)
      ((steps_polyline_object d).of us left m read)
    where
      not_equal : (a b : ℕ) → (a == b) ≡ false → a ≢ b
      not_equal a b e same = let f = (Decides-eqb a b).1 same in absurd cc

-- a whole object is a colour or a figure
pub object_adds : (d m : Drawn) (ts left : List Token) → object d ts ≡ Ok (m, left)
    → AddsColour d m ts left ⊎ AddsFigure d m ts left
unfolding object
object_adds d m ts left read =
    let p = bind_ok (natural 0 2 fault.Object) _ ts m left read in
    let i = natural_is 0 2 fault.Object ts p.between p.value p.firstly in
    adds_of d m i.token ts p.between left i.cut p.value i.is i.most (p.value == 0) (p.value == 1)
    refl refl p.then
