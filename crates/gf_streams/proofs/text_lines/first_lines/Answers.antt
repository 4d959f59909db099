use Rattle.std.proofs.Common.{◌∙◌, arith, length-drop}
use Rattle.std.proofs.lemmas.List.{map-append}
use Rattle.gf_streams.proofs.BlockLemmas.{first_more, has_byte, no_room, none_left}
use Rattle.gf_streams.proofs.text_lines.first_lines.Goals as goal
use Rattle.gf_streams.proofs.text_lines.first_lines.Goals.{else-loop-left-test}
use Rattle.gf_streams.proofs.text_lines.first_lines.Goals.{then-loop-left-test+in_default}

pub overflow_add-number : goal.overflow_add-number
overflow_add-number c =
    let next = c.in-Some.ensures.some in
    let some_byte = has_byte c.in-Some.next.from.now c.in-Some.next.number _ _ next.first in
    omega (arith, next.few, c.loop-left.invariant.few, some_byte)

pub loop-left-preserved : goal.loop-left-preserved
loop-left-preserved c =
    let next = c.in-Some.ensures.some in
    let some_byte = has_byte c.in-Some.next.from.now c.in-Some.next.number _ _ next.first in
    record {
      lines =
          rw (
            c.in_ok-push.ensures.items,
            map-append,
            c.in_ok-push.ensures.len,
            c.behind-left.ensures,
          )
          (first_more _ _ c.args.most _ _ _ _ (omega (arith, c.loop-left-test.true, c.len.ensures))
          (next.lines ∙ next.first) c.loop-left.invariant.lines);
      within = omega arith;
      few = rw (c.behind-left.ensures, length-drop)
          (omega (arith, next.few, c.loop-left.invariant.few, some_byte));
    }

pub returns : goal.returns
returns c = elim c.loop-left-test.branch [
  | else-loop-left-test w ↦
      no_room _ _ c.args.most _ _ (omega (arith, w.loop-left-test.false, c.len.ensures))
      c.loop-left.invariant.lines
  | then-loop-left-test+in_default w ↦ none_left _ _ _ _ w.in_default.ensures.none
      c.loop-left.invariant.lines
]
