use Rattle.std.proofs.Common.{◌≡◌, ◌+◌, ◌∷◌, [], ◌++◌, ◌<◌, length, take, get_or, ap, sym, ◌∙◌}
use Rattle.std.proofs.Common.{arith, rules}
use Rattle.std.specs.Prelude.{vec_len}
use Rattle.std.proofs.lemmas.List.{length-append, take_more}
use Rattle.gf_ops.specs.declared.op.Op.{Op}
use Rattle.gf_visible.proofs.VisibleLemmas.{fresh_next, next_in}
use Rattle.gf_kept.proofs.GatheredLemmas.{items_more, more_than, no_items_yet}
use Rattle.gf_kept.proofs.kept.KeptVersions.all.Goals as goal

pub loop-op-init : goal.loop-op-init
loop-op-init c = let h = c.args.versions.now in
    rw c.new-items.ensures.items
    (record { keeps = c.requires.keeps; items = no_items_yet h; few = omega arith })

pub returns-in-None-clause-listed : goal.returns-in-None-clause-listed
returns-in-None-clause-listed c =
    let h = c.args.versions.now in
    let i = c.loop-op.op-index in
    let a = c.op-item.result in
    let same = c.ops-op-items.ensures.ops in
    let within : i < length h = rw same at c.loop-op-test.true in
    let is : a ≡ get_or h i a = c.op-item.is ∙ ap (λ xs. get_or xs i a) same in
    let count : vec_len c.loop-op.items ≡ length c.loop-op.items.items = search rules in
    let more = rw (c.in-None.is, c.len.ensures, count) at c.in_ok-more.ensures.listed in
    more_than h (take i h) a (fresh_next h c.ops-op-items.ensures.valid i a within is)
    c.loop-op.items.items c.loop-op.invariant.items h c.args.most (next_in h i a within is)
    c.loop-op.invariant.few more

pub loop-op-preserved : goal.loop-op-preserved
loop-op-preserved c =
    let h = c.args.versions.now in
    let i = c.loop-op.op-index in
    let a = c.op-item.result in
    let same = c.ops-op-items.ensures.ops in
    let within : i < length h = rw same at c.loop-op-test.true in
    let is : a ≡ get_or h i a = c.op-item.is ∙ ap (λ xs. get_or xs i a) same in
    let grown : take (i + 1) h ≡ take i h ++ a ∷ [] = take_more h i a within
    ∙ ap (λ (z : Op). take i h ++ z ∷ []) (sym is) in
    let count : vec_len c.loop-op.items ≡ length c.loop-op.items.items = search rules in
    let more = rw (c.in-Some.is, c.len.ensures, count) at c.in_ok-more.ensures.listed in
    let items = c.loop-op.items.items in
    let few = c.loop-op.invariant.few in
    let left = more.1 in
    let len = length-append items c.in-Some.more.items in
    rw (c.in_ok-append-in-Some.ensures.items, grown) (record {
      keeps = c.in_ok-more.ensures.keeps;
      items = items_more h (take i h) a (fresh_next h c.ops-op-items.ensures.valid i a within is)
          items c.loop-op.invariant.items c.in-Some.more.items more.0;
      few = omega (arith, few, left, len);
    })
