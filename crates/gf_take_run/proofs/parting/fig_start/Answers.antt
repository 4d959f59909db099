use Rattle.std.proofs.Common.{arith, inl, inr}
use Rattle.std.proofs.lemmas.Bool.{cases_lt}
use Rattle.std.proofs.lemmas.List.{length-drop}
use Rattle.gf_take_run.proofs.PartingLemmas.{begun, next_behind, next_line, none_behind, rest_whole}
use Rattle.gf_take_run.proofs.parting.fig_start.Goals as goal

pub loop-left-preserved : goal.loop-left-preserved
loop-left-preserved c =
    let text = c.args.text.now in
    let start = c.loop-left.start in
    let end = c.in-Some.end in
    let whole = rest_whole text start in
    let first = rw whole at c.in-Some.ensures in
    let value = rw whole at c.starts_with.ensures.value in
    let long = length-drop start text in
    let high = first.0.high in
    record {
      within = omega (arith, high, long, c.loop-left.invariant.within);
      line = next_line text start end first;
      none = λ m b. elim (cases_lt start m) [
        | inl after ↦ next_behind text start end first m after b.line
        | inr here ↦
            let low = c.loop-left.invariant.none m b in
            absurd (begun text start m (omega (arith, here, low)) b c.starts_with.result value
            c.if-starts_with.false)
      ];
    }

pub returns-in-None-clause-none : goal.returns-in-None-clause-none
returns-in-None-clause-none c =
    let text = c.args.text.now in
    let start = c.loop-left.start in
    let whole = rest_whole text start in
    let none = rw whole at c.in-None.ensures in
    let value = rw whole at c.starts_with.ensures.value in
    λ m b. elim (cases_lt start m) [
      | inl after ↦ none_behind text start none m after b.line
      | inr here ↦
          let low = c.loop-left.invariant.none m b in
          begun text start m (omega (arith, here, low)) b c.starts_with.result value
          c.if-starts_with.false
    ]
