use Rattle.std.proofs.Common.{subst, sym}
use Rattle.gf_kept.specs.Keeping.{Keeps}
use Rattle.gf_kept.proofs.KeepingLemmas.{forgotten}
use Rattle.gf_kept.proofs.kept.KeptVersions.forget.Goals as goal

pub returns : goal.returns
returns c = λ h a valid too on keeps. forgotten h a valid too c.args.object on
    c.self.inside.objects.entries c.remove.new.objects.entries
    (subst (Keeps h) (sym c.self.view_is) keeps) c.remove.ensures
