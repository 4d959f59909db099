use Rattle.std.proofs.Common.{◌+◌, ◌++◌, length, sym, ap, ◌∙◌, arith, drop}
use Rattle.gf_visible.specs.Choices.{all_hold, answers}
use Rattle.gf_visible.specs.PendingChoices.{ChoiceState, all_answers}
use Rattle.gf_visible.proofs.SearchLemmas.{none_more, turn_both, turn_none, turn_out, weight_halves}
use Rattle.gf_visible.proofs.SearchLemmas.{weight_some}
use Rattle.gf_visible.proofs.searching.follow.Goals as goal

pub returns-then-not-all_hold-clause-leads : goal.returns-then-not-all_hold-clause-leads
returns-then-not-all_hold-clause-leads c =
    let all = c.args.steps.now in
    none_more all c.args.found.now.items (all_answers all c.args.left.now.items)
    (drop c.args.next.at all) c.args.next.possible
    (c.if-not-all_hold.ensures ∙ ap (λ (o : ChoiceState). all_hold all o.possible) c.next.view_is)

pub loop-index-preserved-then-not-is_among : goal.loop-index-preserved-then-not-is_among
loop-index-preserved-then-not-is_among c =
    let all = c.args.steps.now in
    let i = c.loop-index.index in
    let loop = c.loop-index.invariant in
    let goal = answers all (drop c.args.next.at all) c.args.next.possible ++ all_answers all
    c.args.left.now.items in
    record {
      leads = turn_out all i c.index-steps-index.result c.loop-index.possible c.loop-index-test.true
          c.index-steps-index.is goal (all_answers all c.loop-index.left.items)
          (sym c.if-not-is_among.ensures) loop.leads;
      holds = loop.holds;
      lighter =
          let halves = weight_halves (length all) i c.loop-index-test.true in
          let sum = loop.lighter in
          omega (arith, halves, sum);
    }

pub returns-then-not-all_hold-2-clause-leads : goal.returns-then-not-all_hold-2-clause-leads
returns-then-not-all_hold-2-clause-leads c =
    let all = c.args.steps.now in
    let i = c.loop-index.index in
    let loop = c.loop-index.invariant in
    let goal = answers all (drop c.args.next.at all) c.args.next.possible ++ all_answers all
    c.args.left.now.items in
    let on = turn_both all i c.index-steps-index.result c.loop-index.possible c.loop-index-test.true
    c.index-steps-index.is c.in_ok-first.first c.in_ok-second.second c.in_ok-first.ensures
    c.in_ok-second.ensures c.if-not-is_among.ensures goal (all_answers all c.loop-index.left.items)
    (all_answers all c.leave.new.left.items) c.in_ok-leave.ensures.leads loop.leads in
    turn_none all c.args.found.now.items goal (all_answers all c.leave.new.left.items)
    (drop (i + 1) all) c.in_ok-first.first c.if-not-all_hold-2.ensures on

pub returns-then-not-all_hold-2-clause-lighter : goal.returns-then-not-all_hold-2-clause-lighter
returns-then-not-all_hold-2-clause-lighter c =
    let all = c.args.steps.now in
    let i = c.loop-index.index in
    let halves = weight_halves (length all) i c.loop-index-test.true in
    let some = weight_some (length all) (i + 1) in
    let sum = c.loop-index.invariant.lighter in
    let more = c.in_ok-leave.ensures.lighter in
    omega (arith, halves, some, sum, more)

pub loop-index-preserved : goal.loop-index-preserved
loop-index-preserved c =
    let all = c.args.steps.now in
    let i = c.loop-index.index in
    let loop = c.loop-index.invariant in
    let goal = answers all (drop c.args.next.at all) c.args.next.possible ++ all_answers all
    c.args.left.now.items in
    record {
      leads = turn_both all i c.index-steps-index.result c.loop-index.possible
          c.loop-index-test.true c.index-steps-index.is c.in_ok-first.first c.in_ok-second.second
          c.in_ok-first.ensures
          c.in_ok-second.ensures c.if-not-is_among.ensures goal
          (all_answers all c.loop-index.left.items) (all_answers all c.leave.new.left.items)
          c.in_ok-leave.ensures.leads loop.leads;
      holds = sym c.if-not-all_hold-2.ensures;
      lighter =
          let halves = weight_halves (length all) i c.loop-index-test.true in
          let sum = loop.lighter in
          let more = c.in_ok-leave.ensures.lighter in
          omega (arith, halves, sum, more);
    }
