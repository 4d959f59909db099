use Rattle.std.proofs.Common.{◌≡◌, ◌<◌, [], length, sym, subst, ◌∙◌, arith}
use Rattle.std.specs.Prelude.{slice_index_or}
use Rattle.std.proofs.lemmas.List.{get_or_default}
use Rattle.gf_classes.specs.ClassSlots.{AreMembers}
use Rattle.gf_classes.proofs.ClassSlotLemmas.{members_none, members_more}
use Rattle.gf_classes.proofs.classes.members_of.Goals as goal

pub loop-index-init : goal.loop-index-init
loop-index-init c =
    members_none c.args.positions.now c.args.slots.now c.args.count c.in_ok-members.members.items
    c.in_ok-members.ensures.count c.in_ok-members.ensures.empty

pub loop-index-preserved : goal.loop-index-preserved
loop-index-preserved c =
    let us = c.args.positions.now in
    let es = c.args.slots.now in
    let n = c.loop-index.index in
    let ms = c.loop-index.members.items in
    let old = c.index_mut.result.now in
    let t = c.loop-index-test.true in
    let same = c.requires.same in
    let here : n < length es = omega arith in
    let small = c.requires.slots n 0 here in
    let count = c.loop-index.invariant.count in
    let within : slice_index_or es n 0 < length ms = omega arith in
    members_more us es n c.args.count ms old c.join.new.self c.loop-index.invariant small
    (sym (c.index_mut.ensures.value ∙ get_or_default ms (slice_index_or es n 0) old [] within))
    c.in_ok-join.ensures.ok

pub returns : goal.returns
returns c =
    let t = c.loop-index-test.false in
    let e = c.loop-index.auto.index-end in
    let same : c.loop-index.index ≡ length c.args.positions.now = omega arith in
    subst (λ n. AreMembers c.args.positions.now c.args.slots.now n c.args.count
    c.loop-index.members.items) same c.loop-index.invariant
