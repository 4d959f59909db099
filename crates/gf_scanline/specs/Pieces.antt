-- What the rows of a band have of layers (this project's choice).
use Rattle.std.specs.Prelude.{◌≡◌, ℕ, ℤ, ◌<◌, ◌&&◌, Bool}
use Rattle.std.specs.Prelude.{false, int_le, List, map, IfSome}
use Rattle.gf_shape.specs.declared.bounds.Bounds.{Bounds}
use Rattle.gf_plane.specs.declared.point.Point.{Point}
use Rattle.gf_shape.specs.ShapeLaws.{IsBounds}
use Rattle.gf_scanline.specs.Bands.{BandView, HasRow}
use Rattle.gf_scanline.specs.Columns.{is_among}
use Rattle.gf_scanline.specs.Windows.{View, line, sample}
use Rattle.gf_scanline.specs.Telling.{TellsRow}
use Rattle.gf_scanline.specs.declared.layer.Layer.{Layer}
use Rattle.gf_scanline.specs.declared.piece.Piece.{Piece}
use Rattle.gf_scanline.specs.Layers.{row_colours}

-- bounds reach a height from low to high
abbrev pub reaches : ℤ → ℤ → Bounds → Bool
reaches low high b = int_le b.low.y high && int_le low b.high.y

-- the layers of pieces
abbrev pub layers_of : {S : Type 0} → List (Piece S) → List (Layer S)
layers_of ps = map (λ p. p.layer.now) ps

module _ {S : Type 0} (holds : S → Point → Bool) where
  -- the piece has its layer's bounds. Its columns have all that the layer holds in row j, and its
  -- edges determine that row
  pub record IsPiece (w : View) (j : ℕ) (p : Piece S) : Type 0 where
    pub bounds : IsBounds (holds p.layer.now.shape.now) p.bounds
    pub columns : (k : ℕ) → k < w.width → is_among p.columns k ≡ false
        → holds p.layer.now.shape.now (sample w k j) ≡ false
    pub edges : IfSome p.edges (λ es. TellsRow (holds p.layer.now.shape.now) (line w j) es)

  -- the layer holds no point of the band
  abbrev pub IsUnseen : BandView → Layer S → Type 0
  IsUnseen b l = (j k : ℕ) → HasRow b j → k < b.window.width
      → holds l.shape.now (sample b.window k j) ≡ false

  -- in the band, some layers have the colours of all
  abbrev pub AreSeen : BandView → List (Layer S) → List (Layer S) → Type 0
  AreSeen b all some = (j k : ℕ) → HasRow b j → k < b.window.width
      → row_colours holds some b.window j k ≡ row_colours holds all b.window j k
