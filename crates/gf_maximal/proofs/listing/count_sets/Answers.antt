use Rattle.std.proofs.Common.{◌≡◌, ◌+◌, length, subst, ap, ◌∙◌, refl, arith, cond, nat_le}
use Rattle.std.proofs.lemmas.List.{take_all}
use Rattle.gf_maximal.specs.LargestSets.{AreLargestSets}
use Rattle.gf_maximal.specs.Rows.{conflict}
use Rattle.gf_maximal.proofs.ListingLemmas.{alike_long, grown_first, too_many}
use Rattle.gf_maximal.proofs.listing.count_sets.Goals as goal

pub loop-place-init : goal.loop-place-init
loop-place-init c = record {
  front = c.new-met.ensures;
  grown = grown_first c.args.rows.now c.new-met.result c.in_ok-sets.sets.items c.new-met.ensures
      c.in_ok-sets.ensures;
}

pub returns-then-most-len : goal.returns-then-most-len
returns-then-most-len c = λ gs t.
    let m = c.if-most-len.true in
    let n = c.len.ensures in
    too_many c.args.rows.now c.requires.known c.args.numbers.now c.requires.rising gs t
    c.loop-place.place c.args.most (c.args.most + 1) (omega arith)
    c.loop-place.sets.items
    (subst (λ z. AreLargestSets (conflict c.args.rows.now) z c.loop-place.sets.items)
    c.loop-place.invariant.front c.loop-place.invariant.grown.sets) (omega arith) refl

pub returns : goal.returns
returns c = λ gs t.
    let i = c.loop-place.place in
    let all = c.loop-place.invariant.front
    ∙ take_all i c.args.numbers.now (omega arith) in
    let e = alike_long (conflict c.args.rows.now) c.args.numbers.now c.loop-place.sets.items gs
    (subst (λ z. AreLargestSets (conflict c.args.rows.now) z c.loop-place.sets.items) all
    c.loop-place.invariant.grown.sets) t in
    let k : c.len-2.result ≡ length gs = omega arith in
    c.at_most.ensures
    ∙ ap (λ z. cond (nat_le z c.args.most) z (c.args.most + 1)) k
