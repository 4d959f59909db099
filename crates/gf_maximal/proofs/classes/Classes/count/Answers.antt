use Rattle.std.proofs.Common.{rules, ap, ◌∙◌}
use Rattle.gf_maximal.specs.Classes.{ClassesState}
use Rattle.gf_maximal.proofs.ClassLemmas.{used_have_rows}
use Rattle.gf_maximal.proofs.classes.Classes.count.Goals as goal

pub count_sets-requires-clause-numbers : goal.count_sets-requires-clause-numbers
count_sets-requires-clause-numbers c = used_have_rows c.args.self.now c.deref-2.result.now
    c.deref.result.now c.requires.count (search rules)
    (c.deref.ensures.value ∙ ap (λ (s : ClassesState). s.rows) c.self.view_is)
