use Rattle.std.proofs.Common.{subst, sym}
use Rattle.std.specs.Prelude.{Contains}
use Rattle.gf_status.specs.KeptStatuses.{AreKept}
use Rattle.gf_status.specs.ObjectStatuses.{told_ids}
use Rattle.gf_status.proofs.KeptLemmas.{kept_with, told_found, told_put, told_stays}
use Rattle.gf_status.proofs.kept.KeptStatuses.add.Goals as goal

pub returns-in_ok-insert-clause-keeps : goal.returns-in_ok-insert-clause-keeps
returns-in_ok-insert-clause-keeps c =
    let h = c.args.versions.now in
    let ss = c.self.inside.statuses.items in
    let kept = subst (AreKept h) (sym c.self.view_is) c.requires.keeps in
    let missing = rw c.deref.ensures.value at c.in-Err.ensures.missing in
    let is = c.in_ok-status.ensures in
    rw c.in_ok-insert.ensures.items
    (kept_with h ss kept c.args.object c.in-Err.place (missing kept.rising) c.in_ok-status.status
    is.object is.status)

pub returns-in_ok-insert-clause-has : goal.returns-in_ok-insert-clause-has
returns-in_ok-insert-clause-has c =
    rw c.in_ok-insert.ensures.items
    (told_put c.self.inside.statuses.items c.in-Err.place c.in_ok-status.status c.args.object
    c.in_ok-status.ensures.object)

pub returns-in_ok-insert-clause-stays : goal.returns-in_ok-insert-clause-stays
returns-in_ok-insert-clause-stays c = λ o there.
    rw c.in_ok-insert.ensures.items
    (told_stays c.self.inside.statuses.items c.in-Err.place c.in_ok-status.status o.0
    (subst (λ ss. Contains (told_ids ss) o.0) (sym c.self.view_is) there))

pub returns-in_default-clause-has : goal.returns-in_default-clause-has
returns-in_default-clause-has c =
    told_found c.args.self.now c.args.object c.in_default.field-0
    (rw (c.deref.ensures.value, c.self.view_is) at c.in_default.ensures.found)
