-- Histories with the same operations on an object (this project's choice).
use Rattle.std.specs.Prelude.{◌≡◌, ◌↔◌, List, Contains}
use Rattle.gf_ops.specs.declared.op.Op.{Op}
use Rattle.gf_ops.specs.declared.op.ObjectId.{ObjectId}
use Rattle.gf_ops.specs.Attribute.{object_of}

-- h and k have the same operations on the object o
abbrev pub HaveSameOn : ObjectId → List Op → List Op → Type 0
HaveSameOn o h k = (a : Op) → object_of a ≡ o → Contains h a ↔ Contains k a

-- h and k have the same operations on each object but these
abbrev pub HaveSameBut : List ObjectId → List Op → List Op → Type 0
HaveSameBut objects h k = (o : ObjectId) → ¬ (Contains objects o) → HaveSameOn o h k
