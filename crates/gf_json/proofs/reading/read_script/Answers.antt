use Rattle.serde_json.specs.View.{view}
use Rattle.gf_json.specs.ScriptLines.{is_script, script_of}
use Rattle.gf_json.specs.ReadLines.{read_script_line}
use Rattle.gf_json.proofs.KeyLemmas.{denoted_by, denoted-within}
use Rattle.gf_json.proofs.MissingKeys.{script_of-read}
use Rattle.gf_json.proofs.reading.read_script.Goals as goal

pub returns-in-Ok-clause-denoted : goal.returns-in-Ok-clause-denoted
returns-in-Ok-clause-denoted c =
    denoted_by is_script script_of read_script_line script_of-read c.args.line.now
    (view c.in-Ok.value) c.in-Ok.value c.script_of.result _ c.in-Ok.ensures c.script_of.ensures
    c.ranged.ensures

pub returns-in-Ok-clause-in_range : goal.returns-in-Ok-clause-in_range
returns-in-Ok-clause-in_range c =
    denoted-within is_script (read_script_line (view c.in-Ok.value)) c.script_of.result _
    c.script_of.ensures c.ranged.ensures
