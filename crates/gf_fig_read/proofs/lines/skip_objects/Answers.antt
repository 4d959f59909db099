use Rattle.std.proofs.Common.{◌≡◌, rules, Err, inl, inr, arith, subst}
use Rattle.gf_fig_read.specs.FigGrammar.{Leads, none, nothing}
use Rattle.gf_fig_read.specs.Objects.{object}
use Rattle.gf_fig_read.proofs.ObjectLemmas.{goes}
use Rattle.gf_fig_read.proofs.LineLemmas.{behind_fault, behind_all}
use Rattle.gf_fig_read.proofs.lines.skip_objects.Goals as goal

pub loop-code-init : goal.loop-code-init
loop-code-init c = rw c.requires.empty (record {
  led = none nothing c.args.tokens;
  number = omega (arith, c.in-Some.ensures.0, c.in-Some.ensures.1);
  few = omega arith;
})

pub loop-code-smaller : goal.loop-code-smaller
loop-code-smaller c = (goes c.args.tokens c.loop-code.drawing c.add_object.new.drawing
    c.in-Some-next_token.code.now c.loop-code.left c.next_token.new.self c.add_object.new.tokens
    c.loop-code.invariant.led c.in-Some-next_token.ensures c.in-Ok.ensures).shorter

pub loop-code-preserved : goal.loop-code-preserved
loop-code-preserved c =
    let g = goes c.args.tokens c.loop-code.drawing c.add_object.new.drawing
    c.in-Some-next_token.code.now c.loop-code.left c.next_token.new.self
    c.add_object.new.tokens c.loop-code.invariant.led c.in-Some-next_token.ensures
    c.in-Ok.ensures in
    let more = c.if-ahead-eq0.false in
    record {
      led = g.led;
      number = omega (arith, g.number, more, c.loop-code.invariant.number);
      few = omega (arith, g.shorter, c.loop-code.invariant.few);
    }

pub returns-in-Err : goal.returns-in-Err
returns-in-Err c =
    elim c.in-Err.ensures [
      | inl m ↦ search rules
      | inr wrong ↦
          let whole_wrong : object c.loop-code.drawing c.loop-code.left ≡ Err c.in-Err.field-0 =
          rw c.in-Some-next_token.ensures wrong in
          let more = c.if-ahead-eq0.false in
          behind_fault c.args.tokens c.loop-code.left c.loop-code.drawing c.args.object
          c.in-Err.field-0 c.loop-code.invariant.led whole_wrong
          (omega (arith, more, c.loop-code.invariant.number))
    ]

pub returns : goal.returns
returns c =
    behind_all c.args.tokens c.loop-code.drawing c.args.object
    (subst (λ ts. Leads nothing c.args.tokens c.loop-code.drawing ts)
    c.in_default-next_token.ensures.0 c.loop-code.invariant.led)
    (omega (arith, c.loop-code.invariant.number))
