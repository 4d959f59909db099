-- How words spell objects and points: two decimal numbers about a dot or a comma (this project's
-- choice).
use Rattle.std.specs.Prelude.{◌≡◌, ℕ, ℤ, ◌∷◌, ◌++◌, IsTrue}
use Rattle.std.specs.Str.Parse.{IsNumeral, digits_value, signed_digits_value}
use Rattle.clap.specs.Words.{Text, without_minus}
use Rattle.gf_plane.specs.declared.point.Point.{Point}
use Rattle.gf_ops.specs.declared.op.OpId.{OpId}
use Rattle.gf_ops.specs.Limits.{is_id}

-- the text is digits alone, and n is their number
pub record SpellsNatural (text : Text) (n : ℕ) : Type 0 where
  pub digits : IsNumeral 10 text
  pub value : digits_value 10 text ≡ n

-- the text is digits, perhaps behind a '-', and z is their number
pub record SpellsWhole (text : Text) (z : ℤ) : Type 0 where
  pub digits : IsNumeral 10 (without_minus text)
  pub value : signed_digits_value 10 text ≡ z

-- i is an id that may be given, of the numbers that these two texts spell
pub record AreOfId (site seq : Text) (i : OpId) : Type 0 where
  pub site_is : SpellsNatural site i.site
  pub seq_is : SpellsNatural seq i.seq
  pub within : IsTrue (is_id i)

-- p is the point of the numbers that these two texts spell
pub record AreOfPoint (x y : Text) (p : Point) : Type 0 where
  pub x_is : SpellsWhole x p.x
  pub y_is : SpellsWhole y p.y

-- the text is `SITE.SEQ`, and i is the id of these numbers
pub record SpellsId (text : Text) (i : OpId) : Type 0 where
  pub site : Text
  pub seq : Text
  pub joined : text ≡ site ++ 46 ∷ seq
  pub numbers : AreOfId site seq i

-- the text is `X,Y`, and p is the point of these numbers
pub record SpellsPoint (text : Text) (p : Point) : Type 0 where
  pub x : Text
  pub y : Text
  pub joined : text ≡ x ++ 44 ∷ y
  pub numbers : AreOfPoint x y p
