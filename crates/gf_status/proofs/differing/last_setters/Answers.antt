use Rattle.std.proofs.Common.{ap, ◌∙◌}
use Rattle.std.specs.Prelude.{filter}
use Rattle.gf_status.specs.Setters.{sets}
use Rattle.gf_status.proofs.LastLemmas.{now}
use Rattle.gf_status.proofs.SetterLemmas.{found_of, last_in}
use Rattle.gf_status.proofs.differing.last_setters.Goals as goal

pub lasts-requires : goal.lasts-requires
lasts-requires c =
    let t = c.args.attribute in
    let under = rw c.as_slice.ensures at c.in_ok-members.ensures in
    let is = c.in_ok-found.ensures ∙ ap (filter (λ r. sets t (now r))) c.deref.ensures.value in
    rw c.deref-2.ensures.value (found_of now c.args.history.now.ops t c.args.group.now.ops
    c.in_ok-members.members.items c.in_ok-found.found.items under is)

pub returns : goal.returns
returns c =
    let t = c.args.attribute in
    let under = rw c.as_slice.ensures at c.in_ok-members.ensures in
    let is = c.in_ok-found.ensures ∙ ap (filter (λ r. sets t (now r))) c.deref.ensures.value in
    let last = rw c.deref-2.ensures.value at c.in_ok-last.ensures in
    last_in now c.args.history.now.ops t c.args.group.now.ops c.in_ok-members.members.items
    c.in_ok-found.found.items under is c.in_ok-last.last.items last
