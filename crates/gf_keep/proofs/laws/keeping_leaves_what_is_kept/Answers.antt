use Rattle.gf_keep.proofs.LawLemmas.{keeping_each, keeping_visible}
use Rattle.gf_keep.proofs.laws.keeping_leaves_what_is_kept.Goals as goal

pub returns : goal.returns
returns c = record {
  visible = λ s h k changes new run valid t m f. keeping_visible s h k changes new run valid t m f;
  each = λ s h k changes new run valid t m g kept. keeping_each s h k changes new run valid t m g
      kept;
}
