use Rattle.std.proofs.Common.{◌<◌, ◌^◌, ℕ, length, sym, ap, subst, ◌∙◌, arith}
use Rattle.std.proofs.lemmas.Result.{IfOk-weaker, on_ok_weaker}
use Rattle.gf_ops.specs.Attribute.{aim_of}
use Rattle.gf_classes.specs.Own.{AreOwn}
use Rattle.gf_classes.specs.ClassSlots.{IsOwnSlot, IsSlot}
use Rattle.gf_classes.proofs.ClassSlotLemmas.{in_bounds, named_small, classes_small}
use Rattle.gf_classes.proofs.ClassSlotLemmas.{plain_slot, made_slot, made_calm, no_aim, op_there}
use Rattle.gf_classes.proofs.OwnLemmas.{given_rising}
use Rattle.gf_classes.proofs.classes.slot_of.Goals as goal

pub offset_bounds-ops-positions : goal.offset_bounds-ops-positions
offset_bounds-ops-positions c =
    let b = in_bounds c.args.history.now.ops c.args.positions.now c.args.direct.now
    c.requires.given c.args.index c.requires.index in
    let e = ap length c.ops.ensures.ops in
    let t = c.ops.type_inv in
    omega arith

pub bounds-ops-positions : goal.bounds-ops-positions
bounds-ops-positions c =
    let b = in_bounds c.args.history.now.ops c.args.positions.now c.args.direct.now
    c.requires.given c.args.index c.requires.index in
    let e = ap length c.ops.ensures.ops in
    omega arith

pub own_of-requires-clause-rising : goal.own_of-requires-clause-rising
own_of-requires-clause-rising c =
    given_rising c.args.history.now.ops c.args.positions.now c.args.direct.now c.requires.given

pub own_of-requires-clause-class : goal.own_of-requires-clause-class
own_of-requires-clause-class c =
    let e = ap length c.rows-first.ensures.rows in
    let b = c.rows-first.ensures.bound in
    let small : length c.args.direct.now.rows < 2 ^ 63 = omega arith in
    classes_small c.args.history.now.ops c.args.positions.now c.args.direct.now c.requires.given
    c.args.index c.class_at-class.result c.class_at-class.ensures small

pub own_of-requires-clause-bound : goal.own_of-requires-clause-bound
own_of-requires-clause-bound c = λ id k n.
    let e = ap length c.rows-first.ensures.rows in
    let b = c.rows-first.ensures.bound in
    let small : length c.args.direct.now.rows < 2 ^ 63 = omega arith in
    named_small c.args.history.now.ops c.args.positions.now c.args.direct.now c.requires.given
    id k small n

pub returns-in-Some-clause-slot : goal.returns-in-Some-clause-slot
returns-in-Some-clause-slot c =
    let at = op_there c.args.history.now.ops c.args.positions.now c.args.direct.now c.requires.given
    c.args.index c.ops.result.now c.index-ops-positions.result c.requires.index c.ops.ensures.ops
    c.index-ops-positions.is in
    plain_slot c.args.history.now.ops c.args.positions.now c.args.direct.now c.requires.given
    c.ops.ensures.valid c.args.index c.index-ops-positions.result c.requires.index at
    c.args.joints.now c.in-Some.class
    (no_aim (aim_of c.index-ops-positions.result) c.aim.result.now c.is_empty.result
    c.aim.ensures c.is_empty.ensures c.if-is_empty.true)
    (sym c.class_at-class.ensures ∙ c.in-Some.is)

pub returns-clause-slot : goal.returns-clause-slot
returns-clause-slot c =
    let h = c.args.history.now.ops in
    let us = c.args.positions.now in
    let s = c.args.direct.now in
    let a = c.index-ops-positions.result in
    let at = op_there h us s c.requires.given c.args.index c.ops.result.now a c.requires.index
    c.ops.ensures.ops c.index-ops-positions.is in
    IfOk-weaker c.own_slot.result
    (λ (e : ℕ). IsOwnSlot (length c.rows-first.result.now) c.class_at-class.result c.in_ok-own.own
    c.hiding_site.result c.own_slot.new.joints e)
    (λ (e : ℕ). IsSlot h us s c.own_slot.new.joints c.args.index e)
    (λ e t. made_slot h us s c.requires.given c.ops.ensures.valid c.args.index a c.requires.index at
    c.own_slot.new.joints c.class_at-class.result c.in_ok-own.own (length c.rows-first.result.now)
    c.hiding_site.result e c.class_at-class.ensures (ap length c.rows-first.ensures.rows)
    c.hiding_site.ensures
    (subst (λ z. AreOwn h us s c.class_at-class.result z c.in_ok-own.own) c.aim-2.ensures
    c.in_ok-own.ensures) t) c.own_slot.ensures.slot

pub returns-clause-calm : goal.returns-clause-calm
returns-clause-calm c =
    let h = c.args.history.now.ops in
    let us = c.args.positions.now in
    let s = c.args.direct.now in
    let a = c.index-ops-positions.result in
    let at = op_there h us s c.requires.given c.args.index c.ops.result.now a c.requires.index
    c.ops.ensures.ops c.index-ops-positions.is in
    let calm = made_calm h us s c.requires.given c.ops.ensures.valid c.args.index a c.requires.index
    at c.class_at-class.result c.in_ok-own.own c.class_at-class.ensures
    (subst (λ z. AreOwn h us s c.class_at-class.result z c.in_ok-own.own) c.aim-2.ensures
    c.in_ok-own.ensures) in
    on_ok_weaker c.own_slot.result (λ f old. f s.rows calm old) c.own_slot.ensures.calm
