use Rattle.gf_groups.specs.declared.group.Group.{Group}
use Rattle.std.proofs.Common.{Global, Vec, refl}
use Rattle.gf_keep.proofs.KeptGroupLemmas.{few_at, kept_at}
use Rattle.gf_keep.proofs.visible.kept_of.Goals as goal

pub returns-clause-kept : goal.returns-clause-kept
returns-clause-kept c =
    kept_at c.args.versions.now c.args.keep.now c.args.versions.now refl
    (λ (v : Vec Group Global). v.items) c.in_ok-groups.field-0 c.in-Some.groups c.in-Some.is
    c.in_ok-groups.ensures.groups
    c.as_slice.result.now c.as_slice.ensures c.in_ok-kept.kept.items c.sort_groups.new.groups.items
    c.in_ok-kept.ensures c.in_ok-sort_groups.ensures.moved c.in_ok-sort_groups.ensures.sorted

pub returns-clause-few : goal.returns-clause-few
returns-clause-few c =
    few_at c.args.versions.now c.args.keep.now.object 1000 (λ (v : Vec Group Global). v.items)
    c.in_ok-groups.field-0 c.in-Some.groups c.in-Some.is c.in_ok-groups.ensures.groups
    c.in_ok-groups.ensures.few
