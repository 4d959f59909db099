-- What a band shows of layers.
use Rattle.std.specs.Prelude.{ℕ, ◌≡◌, ◌≤◌, ◌<◌, ◌+◌, ◌*◌, ◌-◌, Bool, true, false, IfSome, Option}
use Rattle.std.specs.Prelude.{None, Some, ◌≤ℤ◌, List, [], ◌∷◌, ◌++◌, if◌then◌else◌, ℤ, refl}
use Rattle.std.proofs.Common.{arith, ap, sym, inl, inr, ◌∙◌}
use Rattle.std.proofs.lemmas.Bool.{cases_Bool}
use Rattle.std.proofs.lemmas.Bool.Decides.{nat_tests}
use Rattle.std.proofs.lemmas.Int.{ints}
use Rattle.std.proofs.Math.Nat.{mul-le-mul}
use Rattle.gf_spans.specs.declared.span.Span.{Span}
use Rattle.gf_spans.specs.Spans.{is_in_span}
use Rattle.gf_shape.specs.declared.bounds.Bounds.{Bounds}
use Rattle.gf_plane.specs.declared.colour.Rgb.{Rgb}
use Rattle.gf_plane.specs.declared.point.Point.{Point}
use Rattle.gf_shape.specs.ShapeLaws.{IsBounds}
use Rattle.gf_scanline.specs.declared.columns.Columns.{Columns}
use Rattle.gf_scanline.specs.Bands.{BandView}
use Rattle.gf_scanline.specs.Columns.{is_among}
use Rattle.gf_scanline.specs.Strips.{AreSameOutside}
use Rattle.gf_scanline.specs.Windows.{View, column, line, sample}
use Rattle.gf_scanline.specs.declared.edge.Edge.{Edge}
use Rattle.gf_scanline.specs.Telling.{TellsRow}
use Rattle.gf_scanline.specs.declared.layer.Layer.{Layer}
use Rattle.gf_scanline.specs.declared.piece.Piece.{Piece}
use Rattle.gf_scanline.specs.Layers.{layer_over, layered, row_colours}
use Rattle.gf_scanline.specs.Pieces.{AreSeen, IsPiece, IsUnseen, layers_of, reaches}

true_not_false : true ≡ false → ⊥
true_not_false e = grind arith

-- a number from the left of bounds to their right
in_bounds : (x : ℤ) (b : Bounds) → b.low.x ≤ℤ x → x ≤ℤ b.high.x
    → is_in_span x (record { first = b.low.x; last = b.high.x }) ≡ true
in_bounds x b l r = grind (arith, ints)

-- later rows lie further down
pub line_later : (w : View) (i j : ℕ) → i ≤ j → line w i ≤ℤ line w j
line_later w i j l = let m : i * w.step ≤ j * w.step = mul-le-mul l (omega arith) in
    omega (arith, ints)

-- the same row from another set of the same points
pub tells_same : (f g : Point → Bool) (y : ℤ) (es : List Edge) → ((p : Point) → f p ≡ g p)
    → TellsRow f y es → TellsRow g y es
tells_same f g y es same h = record {
  even = h.even;
  exact = λ x. h.exact x ∙ same (record { x = x; y = y });
}

pub no_some : {X : Type 0} (o : Option X) → ((x : X) → o ≡ Some x → ⊥) → o ≡ None
no_some None h = refl
no_some (Some x) h = absurd (h x refl)

-- edges that tell the rows between two heights tell one of these
pub tell_row : (f : Point → Bool) (found : Option (List Edge)) (low high y : ℤ) → low ≤ℤ y
    → y ≤ℤ high → IfSome found (λ es. (y : ℤ) → low ≤ℤ y → y ≤ℤ high → TellsRow f y es)
    → IfSome found (λ es. TellsRow f y es)
tell_row f None low high y a b h = h
tell_row f (Some es) low high y a b h = h y a b

-- beside the columns of a span that has all that is held in a row nothing is held there
pub beside_columns : (f : Point → Bool) (w : View) (j : ℕ) (s : Span) (c : Columns)
    → ((x : ℤ) → f (record { x = x; y = line w j }) ≡ true → is_in_span x s ≡ true)
    → ((k : ℕ) → k < w.width → is_among c k ≡ is_in_span (column w k) s) → (k : ℕ) → k < w.width
    → is_among c k ≡ false → f (sample w k j) ≡ false
beside_columns f w j s c reach covers k l out = elim (cases_Bool (f (sample w k j))) [
  | inl t ↦ absurd (true_not_false (sym (covers k l ∙ reach (column w k) t) ∙ out))
  | inr t ↦ t
]

module _ {S : Type 0} (holds : S → Point → Bool) where
  -- a layer that reaches no row of the band
  pub unseen_beside : (band : BandView) (l : Layer S) (b : Bounds) → IsBounds (holds l.shape.now) b
      → reaches (line band.window band.top) (line band.window (band.top + band.count - 1)) b ≡ false
      → IsUnseen holds band l
  unseen_beside band l b bounds out = λ j k row in_it.
      let w = band.window in
      let last = band.top + band.count - 1 in
      elim (cases_Bool (holds l.shape.now (sample w k j))) [
        | inl t ↦
            let it = bounds.within (sample w k j) t in
            let above = line_later w band.top j row.0 in
            let below = line_later w j last (omega (arith, row.1)) in
            let up : b.low.y ≤ℤ line w j = it.top in
            let down : line w j ≤ℤ b.high.y = it.bottom in
            absurd (true_not_false (sym (meet b (line w band.top) (line w j) (line w last) above
            below up down) ∙ out))
        | inr t ↦ t
      ]
    where
      meet : (b : Bounds) (low y high : ℤ) → low ≤ℤ y → y ≤ℤ high → b.low.y ≤ℤ y → y ≤ℤ b.high.y
          → reaches low high b ≡ true
      meet b low y high f g h i = grind (arith, ints)

  -- a layer whose bounds cover no column
  pub unseen_narrow : (band : BandView) (l : Layer S) (b : Bounds) (c : Columns)
      → IsBounds (holds l.shape.now) b
      → ((k : ℕ) → k < band.window.width → is_among c k ≡ is_in_span (column band.window k)
      (record { first = b.low.x; last = b.high.x })) → c.to ≤ c.from → IsUnseen holds band l
  unseen_narrow band l b c bounds covers none = λ j k row in_it.
      let w = band.window in
      elim (cases_Bool (holds l.shape.now (sample w k j))) [
        | inl t ↦
            let it = bounds.within (sample w k j) t in
            let left : b.low.x ≤ℤ column w k = it.left in
            let right : column w k ≤ℤ b.high.x = it.right in
            let e : is_in_span (column w k) (record { first = b.low.x; last = b.high.x }) ≡ true =
            in_bounds (column w k) b left right in
            absurd (true_not_false (sym (covers k in_it ∙ e) ∙ empty c k none))
        | inr t ↦ t
      ]
    where
      empty : (c : Columns) (k : ℕ) → c.to ≤ c.from → is_among c k ≡ false
      empty c k l = grind (arith, nat_tests)

  -- a piece changes its columns alone
  pub piece_columns : (w : View) (j : ℕ) (p : Piece S) (behind : ℕ → Rgb) → IsPiece holds w j p
      → AreSameOutside p.columns w.width (layer_over holds w j behind p.layer.now) behind
  piece_columns w j p behind h = λ k l out. rw (h.columns k l out) refl

  -- a layer that does not hold a point changes no colour there
  unseen_at : (xs rest : List (Layer S)) (l : Layer S) (p : Point) → holds l.shape.now p ≡ false
      → layered holds (xs ++ rest) p ≡ layered holds (xs ++ l ∷ rest) p
  unseen_at [] rest l p e = rw e refl
  unseen_at (x ∷ xs) rest l p e = ap (λ c. if holds x.shape.now p then x.brush else c)
      (unseen_at xs rest l p e)

  -- a layer that is not seen in the band may be left out
  pub seen_without : (band : BandView) (xs rest : List (Layer S)) (l : Layer S)
      → IsUnseen holds band l → AreSeen holds band (xs ++ l ∷ rest) (xs ++ rest)
  seen_without band xs rest l h = λ j k row in_it. unseen_at xs rest l (sample band.window k j)
      (h j k row in_it)

  -- a layer that is kept
  pub seen_with : (band : BandView) (ps : List (Piece S)) (p : Piece S) (rest : List (Layer S))
      (l : Layer S) → p.layer.now ≡ l → AreSeen holds band (layers_of ps ++ l ∷ rest)
      (layers_of (ps ++ p ∷ []) ++ rest)
  seen_with band ps p rest l e = λ j k row in_it.
      ap (λ (ls : List (Layer S)). row_colours holds ls band.window j k) (moved ps p rest l e)
    where
      moved : (ps : List (Piece S)) (p : Piece S) (rest : List (Layer S)) (l : Layer S)
          → p.layer.now ≡ l → layers_of (ps ++ p ∷ []) ++ rest ≡ layers_of ps ++ l ∷ rest
      moved [] p rest l e = ap (λ x. x ∷ rest) e
      moved (q ∷ ps) p rest l e = ap (λ xs. q.layer.now ∷ xs) (moved ps p rest l e)
