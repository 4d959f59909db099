-- What a row shows as strokes, from the left (this project's choice).
use Rattle.std.specs.Prelude.{ℕ, ◌≡◌, ◌≤◌, ◌<◌, List, [], ◌∷◌, length}
use Rattle.std.specs.Prelude.{slice_index_or}
use Rattle.gf_plane.specs.declared.colour.Rgb.{Rgb}
use Rattle.gf_scanline.specs.declared.stroke.Stroke.{Stroke}

-- the strokes from column a on have the colours of target, up to column n
abbrev pub AreStrokesFrom : ℕ → (ℕ → Rgb) → ℕ → List Stroke → Type 0
AreStrokesFrom a target n [] = n ≤ a
AreStrokesFrom a target n (s ∷ ss) = (a ≤ s.to)
    × ((k : ℕ) → a ≤ k → k < s.to → k < n → s.brush.now ≡ target k)
    × AreStrokesFrom s.to target n ss

-- the strokes have the colours of target, in n columns
abbrev pub AreStrokesOf : (ℕ → Rgb) → ℕ → List Stroke → Type 0
AreStrokesOf target n ss = AreStrokesFrom 0 target n ss

-- the first i of the strokes end up to the column m, and no other one does
pub record IsFirstEnding (m : ℕ) (ss : List Stroke) (i : ℕ) : Type 0 where
  pub below : (k : ℕ) (d : Stroke) → k < i → (slice_index_or ss k d).to ≤ m
  pub above : (k : ℕ) (d : Stroke) → i ≤ k → k < length ss → m < (slice_index_or ss k d).to
