use Rattle.std.proofs.Common.{subst, sym}
use Rattle.gf_status.specs.KeptStatuses.{AreKept}
use Rattle.gf_status.proofs.KeptLemmas.{kept_beside, kept_without}
use Rattle.gf_status.proofs.kept.KeptStatuses.forget.Goals as goal

pub returns-in-Ok : goal.returns-in-Ok
returns-in-Ok c = λ h a valid too on kept.
    let ss = c.self.inside.statuses.items in
    let found = rw c.deref.ensures.value at c.in-Ok.ensures.found in
    rw c.remove.ensures.items
    (kept_without h a valid too c.args.object on ss
    (subst (AreKept h) (sym c.self.view_is) kept) c.in-Ok.place found)

pub returns-in_default : goal.returns-in_default
returns-in_default c = λ h a valid too on kept.
    let missing = rw (c.deref.ensures.value, c.self.view_is) at c.in_default.ensures.missing in
    kept_beside h a valid too c.args.object on c.args.self.now kept c.in_default.field-0
    (missing kept.rising)
