-- Changes of objects that a history shows, or that a drawing names (this project's choice).
use Rattle.std.specs.Prelude.{◌≡◌, ◌⊎◌, ℕ, List, ◌++◌, Contains, codes, ⊤}
use Rattle.gf_shape.specs.declared.any_shape.AnyShape.{AnyShape}
use Rattle.gf_ops.specs.declared.op.Op.{Op}
use Rattle.gf_ops.specs.declared.op.ObjectId.{ObjectId}
use Rattle.gf_ops.specs.declared.change.Change.{Change}
use Rattle.gf_ops.specs.declared.change.Change.TheVariants.{Create, Set}
use Rattle.gf_ops.specs.IdText.{id_text}
use Rattle.gf_versions.specs.declared.placed.Placed.{Placed}
use Rattle.gf_versions.specs.Ranking.{IsPlaced}
use Rattle.gf_fig_tokens.specs.Layout.{lines}

-- h has a visible version of the object o
pub record ShowsObject (h : List Op) (o : ObjectId) : Type 0 where
  pub item : Placed AnyShape
  pub placed : IsPlaced h item
  pub object : item.key.object ≡ o

-- how the line begins that names a figure of the object o
abbrev pub name_begins : ObjectId → List ℕ
name_begins o = codes "# figgroup " ++ id_text o.0 ++ codes " at "

-- a line of the text names the object o
pub record NamesObject (fig : List ℕ) (o : ObjectId) : Type 0 where
  pub rest : List ℕ
  pub line : Contains (lines fig) (name_begins o ++ rest)

-- the change creates an object, or is of one that h shows, or that the text names
abbrev pub MayChange : List Op → List ℕ → Change → Type 0
MayChange h fig (Create start) = ⊤
MayChange h fig (Set o v aim) = ShowsObject h o ⊎ NamesObject fig o
