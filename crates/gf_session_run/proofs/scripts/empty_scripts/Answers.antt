use Rattle.gf_session_run.proofs.ScriptLemmas.{empty_more, empty_none, empty_scripts_of}
use Rattle.gf_session_run.proofs.scripts.empty_scripts.Goals as goal

pub loop-init : goal.loop-init
loop-init c = empty_none _ c.new-scripts.ensures.items

pub loop-preserved : goal.loop-preserved
loop-preserved c = empty_more c.loop.counter c.loop.scripts.items c.push.new.self.items _
    c.loop.invariant c.new.ensures.items c.in_ok-push.ensures.items

pub returns : goal.returns
returns c = empty_scripts_of c.args.sites c.loop.counter _ c.loop.invariant c.loop-test.false
    c.loop.auto.counter-end
