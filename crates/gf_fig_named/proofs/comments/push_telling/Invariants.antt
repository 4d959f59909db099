use Rattle.std.proofs.Common.{◌≡◌, ◌++◌, take}
use Rattle.std.specs.Prelude.{flat_map}
use Rattle.std.specs.List.{enumerate_from}
use Rattle.gf_fig_named.specs.Comments.{nth_id}
use Rattle.gf_fig_named.proofs.comments.push_telling.Given as goal

abbrev pub invariant-loop-index : goal.invariant-loop-index
invariant-loop-index l = l.out.items
    ≡ l.initial.out.items ++ flat_map nth_id (enumerate_from 0 (take l.index l.ids))
