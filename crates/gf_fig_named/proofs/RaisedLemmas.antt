-- A drawing keeps its colours where its depths are raised in their order.
use Rattle.std.proofs.Common.{◌≡◌, ℕ, ◌≤◌, ◌<◌, Bool, true, false, cond, ◌&&◌, List, [], ◌∷◌}
use Rattle.std.proofs.Common.{map, refl, sym, ap, ◌∙◌, inl, inr, arith}
use Rattle.std.specs.Prelude.{All, fold, Option, Some, None, option_map, unwrap_or, nat_le}
use Rattle.std.proofs.lemmas.Bool.{cases_Bool, cases_lt, cases_eq, leb-true}
use Rattle.std.proofs.lemmas.Bool.Decides.{nat_tests}
use Rattle.gf_plane.specs.declared.point.Point.{Point}
use Rattle.gf_plane.specs.White.{white}
use Rattle.gf_figures.specs.declared.figure.Figure.{Figure}
use Rattle.gf_figures.specs.Colours.{Table}
use Rattle.gf_figures.specs.DrawingColour.{drawing_colour, figure_colour}
use Rattle.gf_figures.specs.DrawingState.{DrawingState, IsLawfulFigure}
use Rattle.gf_figures.specs.FrontMost.{front_at, is_no_deeper, nearer_at}
use Rattle.gf_figures.proofs.DrawingLaw.{front_figure_colours}
use Rattle.gf_fig_named.specs.Raised.{figure_raised, named_depth, drawing_raised}

-- g keeps the order of numbers
abbrev pub IsRising : (ℕ → ℕ) → Type 0
IsRising g = (m n : ℕ) → m < n → g m < g n

module _ (g : ℕ → ℕ) (rising : IsRising g) where
  no_less : (m n : ℕ) → m ≤ n → g m ≤ g n
  no_less m n l = elim (cases_eq m n) [
    | inl e ↦ rw e (omega arith)
    | inr d ↦ let k = rising m n (omega arith) in omega arith
  ]

  le_kept : (m n : ℕ) → nat_le (g m) (g n) ≡ nat_le m n
  le_kept m n = elim (cases_lt n m) [
    | inl l ↦
        let k = rising n m l in
        let x : nat_le (g m) (g n) ≡ false = grind (arith, nat_tests) in
        let y : nat_le m n ≡ false = grind (arith, nat_tests) in x ∙ sym y
    | inr l ↦
        let k = no_less m n l in
        let x : nat_le (g m) (g n) ≡ true = grind (arith, nat_tests) in
        let y : nat_le m n ≡ true = grind (arith, nat_tests) in x ∙ sym y
  ]

  module _ {S : Type 0} (holds : S → Point → Bool) (p : Point) where
    chosen : (b : Bool) (f : Figure S) (front : Option (Figure S))
        → cond b (Some (figure_raised g f)) (option_map (figure_raised g) front)
        ≡ option_map (figure_raised g) (cond b (Some f) front)
    chosen true f front = refl
    chosen false f front = refl

    no_deeper_kept : (f : Figure S) (front : Option (Figure S))
        → is_no_deeper (λ (k : Figure S). k.depth) (g f.depth) (option_map (figure_raised g) front)
        ≡ is_no_deeper (λ (k : Figure S). k.depth) f.depth front
    no_deeper_kept f None = refl
    no_deeper_kept f (Some k) = le_kept f.depth k.depth

    nearer_kept : (front : Option (Figure S)) (f : Figure S)
        → nearer_at holds p (option_map (figure_raised g) front) (figure_raised g f)
        ≡ option_map (figure_raised g) (nearer_at holds p front f)
    nearer_kept front f =
        ap (λ b. cond (holds f.shape p && b) (Some (figure_raised g f))
        (option_map (figure_raised g) front)) (no_deeper_kept f front)
        ∙ chosen (holds f.shape p && is_no_deeper (λ (k : Figure S). k.depth) f.depth front) f front

    front_kept : (front : Option (Figure S)) (fs : List (Figure S))
        → fold (nearer_at holds p) (option_map (figure_raised g) front) (map (figure_raised g) fs)
        ≡ option_map (figure_raised g) (fold (nearer_at holds p) front fs)
    front_kept front [] = refl
    front_kept front (f ∷ fs) =
        ap (λ o. fold (nearer_at holds p) o (map (figure_raised g) fs)) (nearer_kept front f)
        ∙ front_kept (nearer_at holds p front f) fs

    colour_kept : (table : Table) (front : Option (Figure S))
        → unwrap_or (option_map (figure_colour table) (option_map (figure_raised g) front)) white
        ≡ unwrap_or (option_map (figure_colour table) front) white
    colour_kept table None = refl
    colour_kept table (Some f) = refl

    -- the colours are those before the depths were raised
    pub raised_colours : (d : DrawingState S) → All (IsLawfulFigure d.table) d.figures
        → All (IsLawfulFigure d.table) (drawing_raised g d).figures
        → drawing_colour holds d.table (drawing_raised g d).figures p
        ≡ drawing_colour holds d.table d.figures p
    raised_colours d lawful deep =
        front_figure_colours holds d.table (drawing_raised g d).figures p deep
        ∙ (ap (λ o. unwrap_or (option_map (figure_colour d.table) o) white)
        (front_kept None d.figures)
        ∙ (colour_kept d.table (front_at holds p d.figures)
        ∙ sym (front_figure_colours holds d.table d.figures p lawful)))

-- the depths of a named text rise
pub named_rises : (count : ℕ) → IsRising (named_depth count)
named_rises count m n l = elim (cases_Bool (nat_le count 94)) [
  | inl e ↦ rw e (omega arith)
  | inr e ↦ elim (cases_Bool (nat_le count 940)) [
    | inl k ↦ rw (e, k) (omega arith)
    | inr k ↦ rw (e, k) l
  ]
]

-- the depths of a named text keep the limit
pub named_fits : (count n : ℕ) → count ≤ 1000 → n < count → named_depth count n ≤ 999
named_fits count n most l = elim (cases_Bool (nat_le count 94)) [
  | inl e ↦ let few = leb-true count 94 e in rw e (omega (arith, few, l))
  | inr e ↦ elim (cases_Bool (nat_le count 940)) [
    | inl k ↦ let few = leb-true count 940 k in rw (e, k) (omega (arith, few, l))
    | inr k ↦ rw (e, k) (omega (arith, most, l))
  ]
]
