use Rattle.std.proofs.Common.{rules, arith, ◌≡◌, ◌<◌, ◌≤◌, length, false, true, sym, ◌∙◌}
use Rattle.gf_take.specs.ShownDrawing.{CanSwap}
use Rattle.gf_take.proofs.MatchLemmas.{seen_all, seen_more, seen_not}
use Rattle.gf_take.proofs.swapping.can_pass.Goals as goal

pub returns-then-not-can_swap : goal.returns-then-not-can_swap
returns-then-not-can_swap c =
    let within : c.loop-other.other-index < length c.args.others.now = search (rules, arith) in
    let other : c.can_swap.result ≡ false = search rules in (
      λ t. absurd cc,
      λ all. absurd (seen_not (λ f. f.now) (CanSwap c.args.drawing.now.table c.args.figure.now)
          c.args.others.now c.loop-other.other-index c.other-item.result within c.other-item.is
          (λ can. let none : false ≡ true = sym other ∙ c.can_swap.ensures.1 can in absurd cc) all),
    )

pub loop-other-preserved : goal.loop-other-preserved
loop-other-preserved c =
    let within : c.loop-other.other-index < length c.args.others.now = search (rules, arith) in
    let swaps : c.can_swap.result ≡ true = search rules in
    seen_more (λ f. f.now) (CanSwap c.args.drawing.now.table c.args.figure.now) c.args.others.now
    c.loop-other.other-index c.other-item.result within c.other-item.is c.loop-other.invariant
    (c.can_swap.ensures.0 swaps)

pub returns : goal.returns
returns c =
    let all : length c.args.others.now ≤ c.loop-other.other-index = search (rules, arith) in (
      λ t. seen_all (λ f. f.now) (CanSwap c.args.drawing.now.table c.args.figure.now)
          c.args.others.now c.loop-other.other-index all c.loop-other.invariant,
      λ w. search rules,
    )
