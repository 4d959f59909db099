-- Bands, with the layers that they show (this project's choice).
use Rattle.std.specs.Prelude.{ℕ, Bool, List, All}
use Rattle.gf_plane.specs.declared.point.Point.{Point}
use Rattle.gf_scanline.specs.Bands.{BandView, HasRow}
use Rattle.gf_scanline.specs.declared.layer.Layer.{Layer}
use Rattle.gf_scanline.specs.declared.piece.Piece.{Piece}
use Rattle.gf_scanline.specs.Pieces.{AreSeen, IsPiece, layers_of}

-- a band, and the layers that are seen there
pub record PartView (S : Type 0) : Type 0 where
  pub layers : List (Layer S)
  pub band : BandView

module _ {S : Type 0} (holds : S → Point → Bool) where
  -- in the band the pieces have the colours of all layers, and each row of a piece can be found
  pub record IsPart (all : List (Layer S)) (b : BandView) (ps : List (Piece S)) : Type 0 where
    pub pieces : (j : ℕ) → HasRow b j → All (IsPiece holds b.window j) ps
    pub seen : AreSeen holds b all (layers_of ps)
