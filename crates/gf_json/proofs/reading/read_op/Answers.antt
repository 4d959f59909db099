use Rattle.serde_json.specs.View.{view}
use Rattle.gf_ops.specs.Limits.{is_in_range}
use Rattle.gf_json.specs.OperationLines.{op_of}
use Rattle.gf_json.specs.ReadLines.{read_operation}
use Rattle.gf_json.proofs.KeyLemmas.{denoted_by, denoted-within}
use Rattle.gf_json.proofs.MissingKeys.{op_of-read}
use Rattle.gf_json.proofs.reading.read_op.Goals as goal

pub returns-in-Ok-clause-denoted : goal.returns-in-Ok-clause-denoted
returns-in-Ok-clause-denoted c =
    denoted_by is_in_range op_of read_operation op_of-read c.args.line.now (view c.in-Ok.value)
    c.in-Ok.value c.op_of.result _ c.in-Ok.ensures c.op_of.ensures c.ranged.ensures

pub returns-in-Ok-clause-in_range : goal.returns-in-Ok-clause-in_range
returns-in-Ok-clause-in_range c =
    denoted-within is_in_range (read_operation (view c.in-Ok.value)) c.op_of.result _
    c.op_of.ensures c.ranged.ensures
