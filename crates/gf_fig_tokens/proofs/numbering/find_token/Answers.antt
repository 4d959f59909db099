use Rattle.std.proofs.Common.{arith}
use Rattle.std.specs.Prelude.{slice_get, flat_map}
use Rattle.gf_fig_tokens.specs.TokenLines.{plain_behind, repeated_number}
use Rattle.gf_fig_tokens.proofs.NumberingLemmas.{on_first_line, behind_first_line}
use Rattle.gf_fig_tokens.proofs.numbering.find_token.Goals as goal

pub returns-then-left-count : goal.returns-then-left-count
returns-then-left-count c =
    on_first_line (plain_behind c.loop-next.number c.loop-next.rest.now)
    (plain_behind c.in-Some.next c.in-Some.after.now) (c.in-Some.next, c.in-Some.line.now)
    c.loop-next.left c.count_words-count.result
    (slice_get (flat_map repeated_number (plain_behind c.args.before c.args.text.now)) c.args.index)
    c.in-Some.ensures.lines c.count_words-count.ensures.count c.if-left-count.true
    c.loop-next.invariant.0

pub loop-next-preserved : goal.loop-next-preserved
loop-next-preserved c = (
  behind_first_line (plain_behind c.loop-next.number c.loop-next.rest.now)
      (plain_behind c.in-Some.next c.in-Some.after.now) (c.in-Some.next, c.in-Some.line.now)
      c.loop-next.left c.count_words-count.result
      (slice_get (flat_map repeated_number (plain_behind c.args.before c.args.text.now))
      c.args.index)
      c.in-Some.ensures.lines c.count_words-count.ensures.count c.if-left-count.false
      c.loop-next.invariant.0,
  omega (arith, c.in-Some.ensures.few, c.loop-next.invariant.1),
)
