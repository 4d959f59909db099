use Rattle.gf_replicas.proofs.SoundLemmas.{world_sound}
use Rattle.gf_replicas.proofs.laws.each_site_of_a_world_has_a_course.Goals as goal

pub returns : goal.returns
returns c = λ n events offers w run. world_sound run
