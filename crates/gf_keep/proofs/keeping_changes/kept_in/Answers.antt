use Rattle.gf_keep.proofs.KeptGroupLemmas.{none_found}
use Rattle.gf_groups.specs.declared.group.Group.{Group}
use Rattle.std.proofs.Common.{◌≡◌, true, Global, List, Vec, length, sym, subst, ◌∙◌}
use Rattle.std.specs.Prelude.{◌==◌}
use Rattle.gf_keep.proofs.keeping_changes.kept_in.Goals as goal

pub returns-then-is_none-clause-refused : goal.returns-then-is_none-clause-refused
returns-then-is_none-clause-refused c =
    none_found c.args.history.now.ops c.args.keep.now (λ (v : Vec Group Global). v.items)
    c.in_ok-groups.field-0 c.in-Some.groups c.in-Some.is c.requires c.in_ok-groups.ensures.few
    c.in_ok-groups.ensures.kept
    (subst (λ (gs : List Group). (length gs == 0) ≡ true) c.deref.ensures.value
    (sym c.is_none.ensures ∙ c.if-is_none.true))
