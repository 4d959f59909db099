use Rattle.std.proofs.Common.{rules, arith, ◌≡◌, ◌<◌, length, false, true, get_or, sym, subst, ◌∙◌}
use Rattle.gf_take.specs.Matching.{AreTraced}
use Rattle.gf_take.proofs.TracedLemmas.{traced_at, traced_more}
use Rattle.gf_take.proofs.matching.look_alike.Goals as goal

pub returns-then-not-branch : goal.returns-then-not-branch
returns-then-not-branch c =
    let table = c.args.drawing.now.table in
    let items = c.args.items.now in
    let figures = c.in_ok-figures.figures.items in
    let k = c.loop-position.position in
    let within : k < length items = search (rules, arith) in
    let inside : k < length figures = search (rules, arith) in
    let is : c.index.result.now ≡ get_or figures k c.index.result.now = search rules in
    let other : c.in_ok-is_like.field-0 ≡ false = search rules in (
      λ t. absurd cc,
      λ t.
          let same = subst (AreTraced table items) (sym c.in_ok-figures.ensures.order) t in
          let like = traced_at table (λ f. f.now) items figures k c.index-items-position.result
          c.index.result.now
          within inside c.index-items-position.is is same in
          let none : false ≡ true = sym other ∙ c.in_ok-is_like.ensures.1 like in absurd cc,
    )

pub loop-position-preserved : goal.loop-position-preserved
loop-position-preserved c =
    let table = c.args.drawing.now.table in
    let items = c.args.items.now in
    let figures = c.in_ok-figures.figures.items in
    let k = c.loop-position.position in
    let within : k < length items = search (rules, arith) in
    let inside : k < length figures = search (rules, arith) in
    let is : c.index.result.now ≡ get_or figures k c.index.result.now = search rules in
    let like : c.in_ok-is_like.field-0 ≡ true = search rules in
    traced_more table (λ f. f.now) items figures k c.index-items-position.result c.index.result.now
    within
    inside c.index-items-position.is is c.loop-position.invariant (c.in_ok-is_like.ensures.0 like)
