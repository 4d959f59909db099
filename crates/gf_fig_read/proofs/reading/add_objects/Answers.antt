use Rattle.std.proofs.Common.{arith}
use Rattle.gf_fig_read.specs.FigGrammar.{none, nothing}
use Rattle.gf_fig_read.proofs.ObjectLemmas.{goes}
use Rattle.gf_fig_read.proofs.reading.add_objects.Goals as goal

pub loop-code-init : goal.loop-code-init
loop-code-init c = rw c.requires.empty
    (record { led = none nothing c.args.tokens; number = omega arith; few = omega arith })

pub loop-code-smaller : goal.loop-code-smaller
loop-code-smaller c = (goes c.args.tokens c.loop-code.drawing c.add_object.new.drawing
    c.in-Some.code.now c.loop-code.left c.next_token.new.self c.add_object.new.tokens
    c.loop-code.invariant.led c.in-Some.ensures c.in-Ok.ensures).shorter

pub loop-code-preserved : goal.loop-code-preserved
loop-code-preserved c =
    let g = goes c.args.tokens c.loop-code.drawing c.add_object.new.drawing c.in-Some.code.now
    c.loop-code.left c.next_token.new.self c.add_object.new.tokens c.loop-code.invariant.led
    c.in-Some.ensures c.in-Ok.ensures in
    record {
      led = g.led;
      number = omega (arith, g.number, c.loop-code.invariant.number);
      few = omega (arith, g.shorter, c.loop-code.invariant.few);
    }
