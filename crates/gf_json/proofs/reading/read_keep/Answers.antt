use Rattle.std.proofs.Common.{refl}
use Rattle.serde_json.specs.View.{view}
use Rattle.gf_json.specs.KeepLines.{is_keep, keep_of}
use Rattle.gf_json.proofs.KeyLemmas.{denoted_by, denoted-within}
use Rattle.gf_json.proofs.reading.read_keep.Goals as goal

pub returns-in-Ok-clause-denoted : goal.returns-in-Ok-clause-denoted
returns-in-Ok-clause-denoted c =
    denoted_by is_keep keep_of keep_of (λ d. refl) c.args.line.now (view c.in-Ok.value)
    c.in-Ok.value c.keep_of.result _ c.in-Ok.ensures c.keep_of.ensures c.ranged.ensures

pub returns-in-Ok-clause-in_range : goal.returns-in-Ok-clause-in_range
returns-in-Ok-clause-in_range c =
    denoted-within is_keep (keep_of (view c.in-Ok.value)) c.keep_of.result _ c.keep_of.ensures
    c.ranged.ensures
