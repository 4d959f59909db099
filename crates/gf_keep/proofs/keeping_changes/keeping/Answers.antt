use Rattle.std.proofs.Common.{List, sym, subst}
use Rattle.gf_groups.specs.declared.group.Group.{Group}
use Rattle.gf_keep.specs.KeepSteps.{AreOfObject}
use Rattle.gf_keep.proofs.KeptGroupLemmas.{of_object}
use Rattle.gf_keep.proofs.keeping_changes.keeping.Goals as goal

pub changes_of-requires : goal.changes_of-requires
changes_of-requires c =
    subst (λ (gs : List Group). AreOfObject c.args.keep.now.object gs) (sym c.deref.ensures.value)
    (of_object c.args.history.now.ops c.args.keep.now c.in_ok-kept.kept.items
    c.in_ok-kept.ensures.kept)
