use Rattle.std.proofs.Common.{rules, sym}
use Rattle.gf_serve.proofs.AskingLemmas.{json-read, json-refused}
use Rattle.gf_serve.proofs.asking.json.Goals as goal

pub returns-in-Ok : goal.returns-in-Ok
returns-in-Ok c = sym (json-read c.args.line.now _ c.in-Ok.ensures.ok.0 c.in-Ok.ensures.ok.1)

pub returns-else-is_memory : goal.returns-else-is_memory
returns-else-is_memory c =
    sym (json-refused c.args.line.now (c.in-Err.ensures.err (search rules)))
