use Rattle.std.proofs.Common.{◌≡◌, length, sym, subst, arith}
use Rattle.gf_classes.specs.ClassRows.{AreAllRows}
use Rattle.gf_classes.specs.ClassSlots.{AreMembers}
use Rattle.gf_classes.specs.ConflictClasses.{AreClassesOf}
use Rattle.gf_classes.proofs.ClassSlotLemmas.{slots_count}
use Rattle.gf_classes.proofs.ClassesLemmas.{classes_made, positions_small}
use Rattle.gf_classes.proofs.classes.classes_over.Goals as goal

pub members_of-requires-clause-positions : goal.members_of-requires-clause-positions
members_of-requires-clause-positions c =
    positions_small c.args.history.now.ops c.args.positions.now c.args.direct c.ops.result.now
    c.requires c.ops.ensures.ops c.ops.type_inv.0

pub members_of-requires-clause-slots : goal.members_of-requires-clause-slots
members_of-requires-clause-slots c =
    slots_count c.args.history.now.ops c.args.positions.now c.args.direct c.requires
    c.slots_of.new.joints c.in_ok-slots.slots.items c.deref.result.now c.into_rows.result.items
    c.owns.result.now c.in_ok-rows.rows.items c.len.result c.in_ok-slots.ensures
    c.deref.ensures.value c.into_rows.ensures c.owns.ensures.owns c.in_ok-rows.ensures
    (let e = c.len.ensures in let t = c.in_ok-rows.rows.ok in
    let q : c.len.result ≡ length c.in_ok-rows.rows.items = omega arith in q)

pub returns : goal.returns
returns c =
    subst (AreClassesOf c.args.history.now.ops c.args.positions.now) (sym c.new.ensures)
    (classes_made c.args.history.now.ops c.args.positions.now c.args.direct
    c.slots_of.new.joints c.in_ok-slots.slots.items c.in_ok-members.members.items
    c.in_ok-rows.rows.items c.ops.ensures.valid c.requires c.in_ok-slots.ensures
    (subst (λ z. AreAllRows z c.slots_of.new.joints.owns c.in_ok-rows.rows.items)
    c.into_rows.ensures
    (subst (λ z. AreAllRows c.into_rows.result.items z c.in_ok-rows.rows.items) c.owns.ensures.owns
    c.in_ok-rows.ensures))
    (subst (λ z. AreMembers c.args.positions.now c.in_ok-slots.slots.items
    (length c.args.positions.now) z c.in_ok-members.members.items)
    (let e = c.len.ensures in let t = c.in_ok-rows.rows.ok in
    let q : c.len.result ≡ length c.in_ok-rows.rows.items = omega arith in q)
    (subst (λ z. AreMembers c.args.positions.now z (length c.args.positions.now) c.len.result
    c.in_ok-members.members.items) c.deref.ensures.value c.in_ok-members.ensures)))
