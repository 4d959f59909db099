use Rattle.std.proofs.Common.{subst, sym}
use Rattle.std.specs.Prelude.{Contains, drop, length}
use Rattle.std.proofs.lemmas.Bool.Decides.{Decides-eqb}
use Rattle.std.proofs.lemmas.Slice.Eq.{starts_is}
use Rattle.gf_base.proofs.ListLemmas.{Contains-cons_head, Contains-cons_tail}
use Rattle.gf_fig_tokens.specs.Layout.{lines}
use Rattle.gf_take_run.proofs.showing.behind_line.Goals as goal

pub returns-then-starts_with : goal.returns-then-starts_with
returns-then-starts_with c =
    let line = c.in-Some.line.now in
    let begins = c.args.begins.now in
    let is = (starts_is Decides-eqb line begins c.starts_with.result
    c.starts_with.ensures.value).0 c.if-starts_with.true in
    record {
      rest = drop (length begins) line;
      line = subst (Contains (lines c.args.fig.now)) is (c.loop-line.invariant line
          (subst (λ ls. Contains ls line) (sym c.in-Some.ensures.lines)
          (Contains-cons_head line (lines c.in-Some.after.now))));
      part = λ other i. c.loop-line.invariant other
          (subst (λ ls. Contains ls other) (sym c.in-Some.ensures.lines)
          (Contains-cons_tail line (lines c.in-Some.after.now) other i));
    }

pub loop-line-preserved : goal.loop-line-preserved
loop-line-preserved c = λ line i.
    c.loop-line.invariant line
    (subst (λ ls. Contains ls line) (sym c.in-Some.ensures.lines)
    (Contains-cons_tail c.in-Some.line.now (lines c.in-Some.after.now) line i))
