use Rattle.std.proofs.Common.{subst, sym, ap, ◌∙◌, length, List}
use Rattle.std.specs.Prelude.{Contains}
use Rattle.gf_classes.specs.declared.setters.Setter.{Setter}
use Rattle.gf_classes.specs.declared.kinds.Kind.{Kind}
use Rattle.gf_classes.specs.Setters.{fingerprints}
use Rattle.gf_classes.specs.Kinds.{AreRising, AreRowsOf, ArePut}
use Rattle.gf_classes.proofs.DirectLemmas.{kinds_are, are_direct}
use Rattle.gf_classes.proofs.direct.direct_classes.Goals as goal

pub rows-requires : goal.rows-requires
rows-requires c =
    let h = c.args.history.now.ops in
    let us = c.args.positions.now in
    let o = c.args.object in
    let kinds = kinds_are h c.ops.result.now us o c.in_ok-setters.setters.items
    c.deref-3.result.now c.deref-2.result.now c.in_ok-found.found.kinds.items
    c.in_ok-found.found.classes.items c.in_ok-same.same c.ops.ensures.ops c.deref-3.ensures.value
    (c.deref-2.ensures.value ∙ (c.in_ok-fingerprints.ensures
    ∙ ap fingerprints c.deref.ensures.value)) c.in_ok-same.ensures
    (c.in_ok-setters.ensures o c.requires)
    c.ops.ensures.valid c.in_ok-found.ensures in
    subst AreRising (sym c.deref-4.ensures.value) kinds.rising

pub placed-requires-clause-within : goal.placed-requires-clause-within
placed-requires-clause-within c = λ e i. ((c.in_ok-setters.ensures c.args.object c.requires).each e
    (subst (λ z. Contains z e) c.deref-5.ensures.value i)).within

pub placed-requires-clause-count : goal.placed-requires-clause-count
placed-requires-clause-count c =
    let kinds = kinds_are c.args.history.now.ops c.ops.result.now c.args.positions.now
    c.args.object c.in_ok-setters.setters.items
    c.deref-3.result.now c.deref-2.result.now c.in_ok-found.found.kinds.items
    c.in_ok-found.found.classes.items c.in_ok-same.same c.ops.ensures.ops c.deref-3.ensures.value
    (c.deref-2.ensures.value ∙ (c.in_ok-fingerprints.ensures
    ∙ ap fingerprints c.deref.ensures.value)) c.in_ok-same.ensures
    (c.in_ok-setters.ensures c.args.object c.requires)
    c.ops.ensures.valid c.in_ok-found.ensures in
    ap length c.deref-6.ensures.value ∙ (kinds.count ∙ sym (ap length c.deref-5.ensures.value))

pub returns : goal.returns
returns c =
    let h = c.args.history.now.ops in
    let us = c.args.positions.now in
    let o = c.args.object in
    let ss = c.in_ok-setters.setters.items in
    let ks = c.in_ok-found.found.kinds.items in
    let cs = c.in_ok-found.found.classes.items in
    let setters = c.in_ok-setters.ensures o c.requires in
    let kinds = kinds_are h c.ops.result.now us o ss
    c.deref-3.result.now c.deref-2.result.now ks cs c.in_ok-same.same c.ops.ensures.ops
    c.deref-3.ensures.value (c.deref-2.ensures.value ∙ (c.in_ok-fingerprints.ensures
    ∙ ap fingerprints c.deref.ensures.value)) c.in_ok-same.ensures setters
    c.ops.ensures.valid c.in_ok-found.ensures in
    are_direct h c.ops.ensures.valid o us c.requires ss setters ks cs kinds
    c.in_ok-rows.rows.items (subst (λ (z : List Kind). AreRowsOf z (length z)
    c.in_ok-rows.rows.items) c.deref-4.ensures.value c.in_ok-rows.ensures)
    c.in_ok-classes.classes.items
    (subst (λ z. ArePut ss z (length ss) (length us) c.in_ok-classes.classes.items)
    c.deref-6.ensures.value
    (subst (λ (z : List Setter). ArePut z c.deref-6.result.now (length z) (length us)
    c.in_ok-classes.classes.items) c.deref-5.ensures.value c.in_ok-classes.ensures))
