-- How many objects operations are about (this project's choice).
use Rattle.std.specs.Prelude.{◌≡◌, ◌≢◌, ◌↔◌, ℕ, Bool, true, false, not, List, AllPairs, Contains}
use Rattle.std.specs.Prelude.{length}
use Rattle.gf_ops.specs.declared.op.Op.{Op}
use Rattle.gf_ops.specs.declared.op.ObjectId.{ObjectId}
use Rattle.gf_ops.specs.declared.change.Change.{Change}
use Rattle.gf_ops.specs.declared.change.Change.TheVariants.{Create, Set}
use Rattle.gf_ops.specs.declared.change.Value.{Value}
use Rattle.gf_ops.specs.declared.change.Value.TheVariants.{Place, Points, Size, Colour, Layer}
use Rattle.gf_ops.specs.declared.change.Value.TheVariants.{Shown}
use Rattle.gf_ops.specs.Attribute.{object_of}

-- the change creates an object
abbrev pub creates : Change → Bool
creates (Create start) = true
creates (Set o v aim) = false

-- the value hides an object
abbrev pub is_hidden : Value → Bool
is_hidden (Shown shown) = not shown
is_hidden (Place p) = false
is_hidden (Points ps) = false
is_hidden (Size width height) = false
is_hidden (Colour c) = false
is_hidden (Layer n) = false

-- the value is one of how an object looks, or of its layer
abbrev pub is_look : Value → Bool
is_look (Shown shown) = false
is_look (Place p) = true
is_look (Points ps) = true
is_look (Size width height) = true
is_look (Colour c) = true
is_look (Layer n) = true

-- the change hides an object
abbrev pub hides : Change → Bool
hides (Create start) = false
hides (Set o v aim) = is_hidden v

-- the change gives an object another look or another layer
abbrev pub alters : Change → Bool
alters (Create start) = false
alters (Set o v aim) = is_look v

-- an operation of these on the object o has such a change
pub record HasChange (such : Change → Bool) (ops : List Op) (o : ObjectId) : Type 0 where
  pub op : Op
  pub contained : Contains ops op
  pub change : such op.change ≡ true
  pub object : object_of op ≡ o

-- the objects are those of which operations have such changes, each once
pub record AreObjects (such : Change → Bool) (ops : List Op) (objects : List ObjectId)
    : Type 0 where
  pub each : (o : ObjectId) → Contains objects o ↔ HasChange such ops o
  pub once : AllPairs (λ o p. o ≢ p) objects

-- n objects are those of which operations have such changes
pub record CountsObjects (such : Change → Bool) (ops : List Op) (n : ℕ) : Type 0 where
  pub objects : List ObjectId
  pub are : AreObjects such ops objects
  pub number : n ≡ length objects
