-- Changes of objects that have a version in a list, or that a text names. No public clause cites
-- this module.
use Rattle.std.specs.Prelude.{◌≡◌, ◌≢◌, ◌⊎◌, ◌++◌, [], ℕ, List, Contains, ⊤}
use Rattle.gf_shape.specs.declared.any_shape.AnyShape.{AnyShape}
use Rattle.gf_ops.specs.declared.op.ObjectId.{ObjectId}
use Rattle.gf_ops.specs.declared.change.Change.{Change}
use Rattle.gf_ops.specs.declared.change.Change.TheVariants.{Create, Set}
use Rattle.gf_table.specs.Standing.{positions_of}
use Rattle.gf_versions.specs.declared.placed.Placed.{Placed}
use Rattle.gf_fig_tokens.specs.Layout.{lines}
use Rattle.gf_take_run.specs.ChangedObjects.{NamesObject}

-- one of the items is a version of the object o
pub record IsOnItem (items : List (Placed AnyShape)) (o : ObjectId) : Type 0 where
  pub item : Placed AnyShape
  pub listed : Contains items item
  pub object : item.key.object ≡ o

-- the change creates an object, or is of one that has a version among the items, or that the text
-- names
abbrev pub IsOnOne : List (Placed AnyShape) → List ℕ → Change → Type 0
IsOnOne items fig (Create start) = ⊤
IsOnOne items fig (Set o v aim) = IsOnItem items o ⊎ NamesObject fig o

-- each line of a part of the text is a line of the text
abbrev pub HasLinesOf : List ℕ → List ℕ → Type 0
HasLinesOf fig part = (line : List ℕ) → Contains (lines part) line → Contains (lines fig) line

-- a line of the text begins so, and what is behind it has lines of the text
pub record IsFirstLine (fig begins behind : List ℕ) : Type 0 where
  pub rest : List ℕ
  pub line : Contains (lines fig) (begins ++ rest)
  pub part : HasLinesOf fig behind

-- the text names each object for which the table has something
abbrev pub HasNamesOf : List ℕ → List (ObjectId × List ℕ) → Type 0
HasNamesOf fig table = (o : ObjectId) → positions_of table o ≢ [] → NamesObject fig o
