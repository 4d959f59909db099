-- Layers over a white ground, the foremost first (this project's choice).
use Rattle.std.specs.Prelude.{◌≡◌, ℕ, Bool, All, List, [], ◌∷◌, Option, IfSome}
use Rattle.std.specs.Prelude.{if◌then◌else◌}
use Rattle.gf_plane.specs.declared.colour.Rgb.{Rgb}
use Rattle.gf_plane.specs.declared.point.Point.{Point}
use Rattle.gf_shape.specs.declared.outline.Outline.TheVariants.{Chain}
use Rattle.gf_shape.specs.Ring.{Ring}
use Rattle.gf_shape.specs.ShapeLaws.{IsBounds, IsOutlineOf}
use Rattle.gf_plane.specs.White.{white}
use Rattle.gf_scanline.specs.Windows.{View, sample}
use Rattle.gf_scanline.specs.declared.layer.Layer.{Layer}

-- the chain, where there is one, is an outline of what is held
abbrev pub IsChainOf : (Point → Bool) → Option Ring → Type 0
IsChainOf holds found = IfSome found (λ ring. IsOutlineOf holds (Chain ring))

module _ {S : Type 0} (holds : S → Point → Bool) where
  -- the bounds of a layer are its shape's, and its chain is an outline of its shape
  pub record IsLayer (l : Layer S) : Type 0 where
    pub bounds : IsBounds (holds l.shape.now) l.bounds
    pub chain : IsChainOf (holds l.shape.now) l.chain

  -- layers with their bounds and chains, over a white ground
  pub record AreLayers (ls : List (Layer S)) (ground : Rgb) : Type 0 where
    pub layers : All IsLayer ls
    pub ground_is : ground ≡ white

  -- the colour at p where the layer l is painted over what lies below
  abbrev pub painted : Point → Rgb → Layer S → Rgb
  painted p below l = if holds l.shape.now p then l.brush else below

  -- the colour at p: that of the foremost layer that holds p
  abbrev pub layered : List (Layer S) → Point → Rgb
  layered [] p = white
  layered (l ∷ ls) p = painted p (layered ls p) l

  -- the colours of row j
  abbrev pub row_colours : List (Layer S) → View → ℕ → ℕ → Rgb
  row_colours ls w j k = layered ls (sample w k j)

  -- the colours of row j where the layer l is painted over others
  abbrev pub layer_over : View → ℕ → (ℕ → Rgb) → Layer S → ℕ → Rgb
  layer_over w j behind l k = painted (sample w k j) (behind k) l
