-- Rows painted span by span and piece by piece.
use Rattle.std.specs.Prelude.{ℕ, ◌≡◌, ◌≤◌, ◌<◌, ◌+◌, Bool, true, false, ◌&&◌, ◌||◌, int_le, ◌≤ℤ◌}
use Rattle.std.specs.Prelude.{List, drop, length, if◌then◌else◌, ℤ, refl}
use Rattle.std.specs.List.{list_any}
use Rattle.std.proofs.Common.{arith, sym, inl, inr, get_or, ◌∙◌}
use Rattle.std.proofs.lemmas.Bool.{cases_Bool}
use Rattle.std.proofs.lemmas.Int.{ints}
use Rattle.std.proofs.lemmas.List.{at_drop_more}
use Rattle.std.proofs.Math.ListN.{drop_of_length-le}
use Rattle.gf_spans.specs.declared.span.Span.{Span}
use Rattle.gf_spans.specs.Spans.{is_in_span}
use Rattle.gf_shape.specs.declared.bounds.Bounds.{Bounds}
use Rattle.gf_plane.specs.declared.colour.Rgb.{Rgb}
use Rattle.gf_plane.specs.declared.point.Point.{Point}
use Rattle.gf_shape.specs.Rows.{IsRow}
use Rattle.gf_shape.specs.ShapeLaws.{IsBounds}
use Rattle.gf_plane.specs.White.{white}
use Rattle.gf_scanline.specs.Strips.{Shown, over, IsPainted}
use Rattle.gf_scanline.specs.Windows.{View, column, line, sample}
use Rattle.gf_scanline.specs.declared.layer.Layer.{Layer}
use Rattle.gf_scanline.specs.declared.piece.Piece.{Piece}
use Rattle.gf_scanline.specs.Layers.{layer_over, layered, row_colours}
use Rattle.gf_scanline.specs.Pieces.{layers_of}

-- what lies behind may be said in other words
pub painted_same : (target behind other : ℕ → Rgb) (n : ℕ) (strip : Shown)
    → ((k : ℕ) → k < n → behind k ≡ other k) → IsPainted target behind n strip
    → IsPainted target other n strip
painted_same target behind other n strip e h = record {
  free = λ k l f. sym (e k l) ∙ h.free k l f;
  whole = h.whole;
  colours = h.colours;
}

-- one span of several
pub spans_painted : (target behind : ℕ → Rgb) (c : Rgb) (p q r : ℕ → Bool) (n : ℕ) (strip : Shown)
    → ((k : ℕ) → r k ≡ (p k || q k)) → IsPainted target (over r c behind) n strip
    → IsPainted target (over p c (over q c behind)) n strip
spans_painted target behind c p q r n strip e h = painted_same target (over r c behind)
    (over p c (over q c behind)) n strip (λ k l. rw (e k) (both (p k) (q k) (behind k))) h
  where
    both : (x y : Bool) (d : Rgb)
        → (if x || y then c else d) ≡ (if x then c else (if y then c else d))
    both true y d = refl
    both false y d = refl

pub any_drop : {X : Type 0} (p : X → Bool) (xs : List X) (i : ℕ) (d : X) → i < length xs
    → list_any p (drop i xs) ≡ (p (get_or xs i d) || list_any p (drop (i + 1) xs))
any_drop p xs i d l = at_drop_more (list_any p) xs i d l

-- no span is left
pub spans_done : (target behind : ℕ → Rgb) (c : Rgb) (place : ℕ → ℤ) (ss : List Span) (i n : ℕ)
    (strip : Shown) → length ss ≤ i
    → IsPainted target (over (λ k. list_any (is_in_span (place k)) (drop i ss)) c behind) n strip
    → IsPainted target behind n strip
spans_done target behind c place ss i n strip l h = painted_same target
    (over (λ k. list_any (is_in_span (place k)) (drop i ss)) c behind) behind n strip
    (λ k m. rw (drop_of_length-le ss l) refl) h

module _ {S : Type 0} (holds : S → Point → Bool) where
  -- a layer over the columns of its row
  pub layer_row : (w : View) (j : ℕ) (behind : ℕ → Rgb) (l : Layer S) (y : ℤ) (ss : List Span)
      → y ≡ line w j → IsRow (holds l.shape.now) y ss → (k : ℕ)
      → layer_over holds w j behind l k ≡ over (λ k. list_any (is_in_span (column w k)) ss) l.brush
      behind k
  layer_row w j behind l y ss e row k = let x = row.exact (column w k) in rw (x, e) refl

  -- a layer that does not reach the row
  pub layer_outside : (w : View) (j : ℕ) (behind : ℕ → Rgb) (l : Layer S) (y : ℤ) (b : Bounds)
      → y ≡ line w j → IsBounds (holds l.shape.now) b
      → (int_le b.low.y y && int_le y b.high.y) ≡ false → (k : ℕ)
      → layer_over holds w j behind l k ≡ behind k
  layer_outside w j behind l y b e bounds out k =
      elim (cases_Bool (holds l.shape.now (sample w k j))) [
        | inl t ↦
            let in_it = bounds.within (sample w k j) t in
            let top : b.low.y ≤ℤ y = rw e in_it.top in
            let bottom : y ≤ℤ b.high.y = rw e in_it.bottom in
            let all : (int_le b.low.y y && int_le y b.high.y) ≡ true = grind (arith, ints) in
            absurd (true_not_false (sym all ∙ out))
        | inr t ↦ rw t refl
      ]
    where
      true_not_false : true ≡ false → ⊥
      true_not_false e = grind arith

  -- the layer of piece i lies over the colours of the pieces behind it
  pub pieces_next : (w : View) (j : ℕ) (ps : List (Piece S)) (i : ℕ) (d : Piece S) (k : ℕ)
      → i < length ps → row_colours holds (layers_of (drop i ps)) w j k ≡ layer_over holds w j
      (row_colours holds (layers_of (drop (i + 1) ps)) w j) (get_or ps i d).layer.now k
  pieces_next w j ps i d k l = at_drop_more (λ (xs : List (Piece S)). layered holds (layers_of xs)
      (sample w k j)) ps i d l

  -- no piece is left
  pub pieces_done : (target : ℕ → Rgb) (w : View) (j : ℕ) (ps : List (Piece S)) (i n : ℕ)
      (strip : Shown) → length ps ≤ i
      → IsPainted target (row_colours holds (layers_of (drop i ps)) w j) n strip
      → IsPainted target (λ _. white) n strip
  pieces_done target w j ps i n strip l h = painted_same target
      (row_colours holds (layers_of (drop i ps)) w j) (λ _. white) n strip
      (λ k m. rw (drop_of_length-le ps l) refl) h
