use Rattle.std.proofs.Common.{ℕ, List, arith, get_or, subst, sym}
use Rattle.std.specs.Prelude.{◌↔◌, ◌⊎◌, Contains}
use Rattle.std.proofs.lemmas.List.{take_all}
use Rattle.std.proofs.lemmas.List.Elements.{Contains-get_or}
use Rattle.gf_ops.specs.declared.op.OpId.{OpId}
use Rattle.gf_shape.specs.declared.any_shape.AnyShape.{AnyShape}
use Rattle.gf_versions.specs.declared.placed.Placed.{Placed}
use Rattle.gf_fig_named.specs.Others.{AreLackedAmong, IsLackedOf}
use Rattle.gf_fig_named.proofs.LackedLemmas.{more_lacked}
use Rattle.gf_fig_named.proofs.naming.lacked_among.Goals as goal

pub offset_bounds-items-place : goal.offset_bounds-items-place
offset_bounds-items-place c =
    let k = c.loop-place.place-index in
    let there = Contains-get_or c.args.places.now k 0 c.loop-place-test.true in
    let within = c.requires.within (get_or c.args.places.now k 0) there in
    omega arith

pub bounds-items-place : goal.bounds-items-place
bounds-items-place c =
    let k = c.loop-place.place-index in
    c.requires.within (get_or c.args.places.now k 0)
    (Contains-get_or c.args.places.now k 0 c.loop-place-test.true)

pub push_lacked-requires-clause-other : goal.push_lacked-requires-clause-other
push_lacked-requires-clause-other c =
    let k = c.loop-place.place-index in
    let x = c.index-items-place.result in
    let p = get_or c.args.places.now k 0 in
    let within = c.requires.within p
    (Contains-get_or c.args.places.now k 0 c.loop-place-test.true) in
    c.requires.rising (get_or c.args.items.now p x) (Contains-get_or c.args.items.now p x within)

pub loop-place-preserved : goal.loop-place-preserved
loop-place-preserved c =
    let k = c.loop-place.place-index in
    let within = c.requires.within (get_or c.args.places.now k 0)
    (Contains-get_or c.args.places.now k 0 c.loop-place-test.true) in
    more_lacked c.args.items.now c.args.places.now c.args.key.now k c.index-items-place.result
    c.loop-place-test.true within c.index-items-place.is c.loop-place.ids.items
    c.loop-place.invariant c.push_lacked.new.out.items
    (subst (λ (x : Placed AnyShape). (i : OpId) → Contains c.push_lacked.new.out.items i
    ↔ (Contains c.loop-place.ids.items i ⊎ IsLackedOf c.args.key.now x.key i))
    (sym c.index-items-place.is) c.in_ok-push_lacked.ensures)

pub returns : goal.returns
returns c =
    subst (λ (ps : List ℕ). AreLackedAmong c.args.items.now ps c.args.key.now c.loop-place.ids.items)
    (take_all c.loop-place.place-index c.args.places.now (omega (arith, c.loop-place-test.false)))
    c.loop-place.invariant
