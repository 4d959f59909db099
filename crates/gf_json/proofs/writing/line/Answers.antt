use Rattle.std.proofs.Common.{◌≡◌, ◌≤◌, false, refl, ap, ◌∙◌, Some, string_bytes}
use Rattle.std.proofs.lemmas.Str.{IsUtf8-string_bytes}
use Rattle.serde_json.specs.Data.{depth}
use Rattle.serde_json.specs.Read.{max_depth}
use Rattle.serde_json.specs.Written.{has_float, compact_text}
use Rattle.serde_json.specs.View.{view}
use Rattle.gf_json.specs.WrittenLines.{data_of}
use Rattle.gf_json.proofs.KeyLemmas.{json-read}
use Rattle.gf_json.proofs.OpAgainLemmas.{op_of-data_of}
use Rattle.gf_json.proofs.WrittenLemmas.{has_float-data_of, depth-data_of}
use Rattle.gf_json.proofs.writing.line.Goals as goal

pub returns-clause-text : goal.returns-clause-text
returns-clause-text c =
    let built = c.in_ok-value.ensures.value in
    let whole : has_float (view c.in_ok-value.value) ≡ false = rw built
    (has_float-data_of c.args.op.now) in
    c.in_ok-line.ensures.text whole ∙ ap compact_text built

pub returns-clause-read_again : goal.returns-clause-read_again
returns-clause-read_again c = λ within.
    let built = c.in_ok-value.ensures.value in
    let shallow : depth (view c.in_ok-value.value) ≤ max_depth = rw built
    (depth-data_of c.args.op.now) in
    let read = json-read (string_bytes c.in_ok-line.line) (data_of c.args.op.now)
    (IsUtf8-string_bytes c.in_ok-line.line) (c.in_ok-line.ensures.reads_back shallow
    ∙ ap Some built) in
    rw (read, op_of-data_of c.args.op.now c.in_ok-value.ensures.eight within, within) refl
