-- No byte of an operation's line is LF.
use Rattle.std.specs.Prelude.{All}
use Rattle.std.proofs.Common.{◌≡◌, false}
use Rattle.gf_streams.specs.TextLines.{is_line_end}
use Rattle.gf_ops.specs.declared.op.Op.{Op}
use Rattle.gf_json.specs.WrittenLines.{data_of, op_text}
use Rattle.gf_json.proofs.OneLineLemmas.{compact_one_line}

pub op_clean : (a : Op) → All (λ b. is_line_end b ≡ false) (op_text a)
op_clean a = compact_one_line (data_of a)
