-- The pieces of rows that workers fill.
use Rattle.std.specs.Prelude.{ℕ, ◌≡◌, ◌≤◌, ◌+◌, ◌-◌, ◌*◌, min, List, ◌++◌, Vec, length}
use Rattle.std.specs.Prelude.{slice_index_or}
use Rattle.std.proofs.Common.{arith, ap, sym, Global, ◌∙◌}
use Rattle.gf_plane.specs.declared.colour.Rgb.{Rgb}
use Rattle.gf_plane.specs.declared.point.Point.{Point}
use Rattle.gf_scanline.specs.Pixels.{pixel}
use Rattle.gf_scanline.proofs.RangeLemmas.{ranged_more}
use Rattle.gf_scanline.specs.Windows.{View, sample}
use Rattle.gf_scanline.specs.Picture.{cells}
use Rattle.gf_raster.specs.Columns.{ArePieces, ArePiecesWith}

-- pieces with a tile more
pub pieces_more : (colour : Point → Rgb) (w : View) (top start len i : ℕ)
    (old new : List (Vec ℕ Global)) → 64 * i ≤ len → length new ≡ length old
    → ArePieces colour w top start (min (64 * i) len) old
    → ArePiecesWith colour w top (start + 64 * i) (min 64 (len - 64 * i)) old new
    → ArePieces colour w top start (min (64 * (i + 1)) len) new
pieces_more colour w top start len i old new l same was more = λ k d within.
    let done : min (64 * i) len ≡ 64 * i = omega arith in
    let sum : min (64 * (i + 1)) len ≡ 64 * i + min 64 (len - 64 * i) = omega arith in
    let before : (slice_index_or old k d).items ≡ cells colour w (top + k) start (64 * i) = rw done
    at (was k d (rw same at within)) in
    more k d within
    ∙ (ap (λ xs. xs ++ cells colour w (top + k) (start + 64 * i) (min 64 (len - 64 * i))) before
    ∙ rw sum (sym (ranged_more (λ j. pixel (colour (sample w j (top + k)))) start (64 * i)
    (min 64 (len - 64 * i)))))
