use Rattle.std.proofs.Common.{ap, ◌∙◌}
use Rattle.std.specs.Prelude.{filter}
use Rattle.gf_status.specs.Setters.{hides}
use Rattle.gf_status.proofs.LastLemmas.{now}
use Rattle.gf_status.proofs.HiddenLemmas.{changes_told, hidings_told, hidings_where, setters_of}
use Rattle.gf_status.proofs.HiddenLemmas.{setters_on}
use Rattle.gf_status.proofs.hidden.hidden_of.Goals as goal

pub lasts-requires : goal.lasts-requires
lasts-requires c = rw c.deref.ensures.value (setters_of now c.args.history.now.ops c.args.object
    c.args.all.now c.in_ok-found.found.items c.requires.all c.in_ok-found.ensures)

pub unknowing-requires-clause-all : goal.unknowing-requires-clause-all
unknowing-requires-clause-all c = λ a i. ((c.requires.all a).0 i).0

pub unknowing-requires-clause-setters : goal.unknowing-requires-clause-setters
unknowing-requires-clause-setters c = rw c.deref-2.ensures.value
    (setters_of now c.args.history.now.ops c.args.object c.args.all.now c.in_ok-found.found.items
    c.requires.all c.in_ok-found.ensures)

pub unknowing-requires-clause-last : goal.unknowing-requires-clause-last
unknowing-requires-clause-last c =
    let last = rw c.deref.ensures.value at c.in_ok-last.ensures in
    rw (c.deref-2.ensures.value, c.deref-3.ensures.value) last

pub returns-clause-hidings : goal.returns-clause-hidings
returns-clause-hidings c =
    let h = c.args.history.now.ops in
    let last = rw c.deref.ensures.value at c.in_ok-last.ensures in
    let ids = rw c.deref-6.ensures.value at c.in_ok-hidings.ensures in
    rw c.where_none.ensures (hidings_where h c.args.object c.args.groups.now c.in_ok-hidings.hidings
    (hidings_told now h c.args.object c.args.all.now c.in_ok-found.found.items c.requires.all
    c.in_ok-found.ensures c.in_ok-last.last.items c.in_ok-hiding.hiding.items last
    (c.in_ok-hiding.ensures ∙ ap (filter (λ r. hides (now r).change)) c.deref-5.ensures.value)
    c.in_ok-hidings.hidings ids))

pub returns-clause-changed : goal.returns-clause-changed
returns-clause-changed c =
    let h = c.args.history.now.ops in
    let o = c.args.object in
    let all = c.args.all.now in
    let set = c.in_ok-found.found.items in
    let those = rw c.deref-2.ensures.value at c.in_ok-changed.ensures in
    let ids = rw c.deref-4.ensures.value at c.in_ok-changed-2.ensures in
    changes_told now h o all set c.requires.all c.in_ok-found.ensures c.args.groups.now
    c.requires.groups c.in_ok-seen.seen c.in_ok-seen.ensures c.in_ok-changed.changed.items
    (those o (setters_on now h o all set c.requires.all c.in_ok-found.ensures))
    c.in_ok-changed-2.changed ids
