-- The operations on an object in classes of which all members conflict with the same operations
-- (this project's choice).
use Rattle.std.specs.Prelude.{◌≡◌, ℕ, List, Contains}
use Rattle.gf_ops.specs.declared.op.Op.{Op}
use Rattle.gf_groups.specs.Growing.{conflict_at}
use Rattle.gf_maximal.specs.Classes.{ClassesState, AreClasses, members_of}
use Rattle.gf_classes.specs.Hiding.{hiding_site_at}

-- s are the classes of the operations of h at the positions us. Those of a class hide their object
-- at one site, or none of them hides it
pub record AreClassesOf (h : List Op) (us : List ℕ) (s : ClassesState) : Type 0 where
  pub classes : AreClasses (conflict_at h) us s
  pub parted : (k a b : ℕ) → Contains (members_of s k) a → Contains (members_of s k) b
      → hiding_site_at h a ≡ hiding_site_at h b
