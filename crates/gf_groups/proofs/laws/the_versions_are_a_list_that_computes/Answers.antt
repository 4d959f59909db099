use Rattle.std.proofs.Common.{subst, sym}
use Rattle.gf_groups.specs.Versions.{AreVersions}
use Rattle.gf_groups.proofs.VersionListLemmas.{are_versions, one_list}
use Rattle.gf_groups.proofs.laws.the_versions_are_a_list_that_computes.Goals as goal

pub returns : goal.returns
returns c = λ h o made groups. (
  λ are. one_list h o groups _ are (are_versions h o made),
  λ same. subst (AreVersions h o) (sym same) (are_versions h o made),
)
