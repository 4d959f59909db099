-- What a step leaves.
use Rattle.std.proofs.Common.{◌≡◌, List}
use Rattle.std.specs.Prelude.{◌↔◌, Result, Err}
use Rattle.gf_ops.specs.declared.op.Op.{Op}
use Rattle.gf_ops.specs.declared.faults.OpFault.{OpFault}
use Rattle.gf_ops.specs.declared.faults.OpFault.TheVariants.{BadClock, NoObject, WrongKind, BadAim}
use Rattle.gf_ops.specs.declared.change.Change.{Change}
use Rattle.gf_ops.specs.declared.change.Change.TheVariants.{Create, Set}
use Rattle.gf_ops.specs.KnownObject.{IsFounded, IsSuited}
use Rattle.gf_ops.specs.Accepted.{IsAccepted, IsRefused}
use Rattle.gf_site.specs.SiteState.{SiteState, replica_of}

-- the fault that a check told
pub refused_by : {A : Type 0} (h : List Op) (a : Op) (r : Result A OpFault) (f : OpFault)
    → r ≡ Err f → (r ≡ Err BadClock ↔ IsRefused h a BadClock)
    → (r ≡ Err NoObject ↔ IsRefused h a NoObject) →
    (r ≡ Err WrongKind ↔ IsRefused h a WrongKind) → (r ≡ Err BadAim ↔ IsRefused h a BadAim)
    → IsRefused h a f
refused_by h a r BadClock e p q w x = p.0 e
refused_by h a r NoObject e p q w x = q.0 e
refused_by h a r WrongKind e p q w x = w.0 e
refused_by h a r BadAim e p q w x = x.0 e

-- an accepted change makes an object, or changes one that its operation knows
pub founded : (h : List Op) (a : Op) (c : Change) → IsSuited h a c → IsFounded h a c
founded h a (Create start) s = tt
founded h a (Set o v aim) s = record { kind = s.kind; known = s.known }

-- an accepted operation has no fault
pub not_refused : (h : List Op) (a : Op) (f : OpFault) → IsAccepted h a → ¬ (IsRefused h a f)
not_refused h a BadClock c r = r c.next
not_refused h a NoObject c r = r.1 (founded h a a.change c.suited)
not_refused h a WrongKind c r = r.2 c.suited
not_refused h a BadAim c r = r.2 c.aimed

-- ---- at a site

-- a site whose replica and number stay is the same
pub same_site : (x y : SiteState) → replica_of y ≡ replica_of x → y.number ≡ x.number → y ≡ x
same_site x y e n = λ i. record { number = n i; ops = (e i).ops; held = (e i).held }
