use Rattle.std.proofs.Common.{◌≡◌, List, rules, subst, ◌∙◌, ℕ}
use Rattle.gf_streams.specs.Taken.{AppendsPrefix}
use Rattle.gf_serve.specs.declared.serve_error.ServeError.TheVariants as serve
use Rattle.gf_serve.proofs.TurnLemmas.{written_some}
use Rattle.gf_serve.proofs.dialogue.refuse.Goals as goal

pub returns-in-Ok-clause-writes : goal.returns-in-Ok-clause-writes
returns-in-Ok-clause-writes g c =
    let old = g.W.Sink.taken c.args.sink.now in
    let new = g.W.Sink.taken c.write_whole.new.sink in
    let is : c.args.fault ≡ serve.NoRequest = search rules in
    rw is (subst (λ (text : List ℕ). AppendsPrefix old new text)
    (c.deref.ensures.value ∙ c.in-Ok.ensures)
    (written_some old new c.deref.result.now c.write_whole.result c.write_whole.ensures.ok
    c.write_whole.ensures.err))
