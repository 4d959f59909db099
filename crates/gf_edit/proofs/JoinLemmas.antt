-- What a site makes behind a history joins the operations of that history, and those that wait, in
-- whatever order they come.
use Rattle.std.specs.Prelude.{List, ◌++◌, ℕ}
use Rattle.std.proofs.Common.{refl}
use Rattle.gf_ops.specs.declared.op.Op.{Op}
use Rattle.gf_ops.specs.OperationOrder.{IsSite}
use Rattle.gf_site.specs.SiteState.{authored}
use Rattle.gf_replay.specs.Denoting.{Denotes}
use Rattle.gf_replay.proofs.AddedLemmas.{AreAdded, each_added, next as added_next, none as added_none}
use Rattle.gf_replay.proofs.JoiningLemmas.{join_delivers}
use Rattle.gf_edit.specs.declared.numbered.Numbered.{Numbered}
use Rattle.gf_edit.specs.Making.{Makes, none, author, await, keep}
use Rattle.gf_edit.specs.EditedText.{JoinsEdit, commands_in, ops_in}

-- what the commands make is added behind the history
made_added : (s : ℕ) (h : List Op) (cs : List Numbered) (new : List Op) → Makes s h cs new
    → AreAdded s h new
made_added s h cs new none = added_none
made_added s h cs new (author {cs = before} {new = made} n c m op) =
    added_next (authored s (h ++ made) c) (made_added s h before made m) refl op.in_range op.accepted
made_added s h cs new (await {cs = before} {new = made} n i m p) = made_added s h before made m
made_added s h cs new (keep {cs = before} {new = made} {more = more} {changes = changes} n k m are
    p) = each_added s h made (made_added s h before made m) (h ++ made) refl changes more p

-- lines of what was read and what is new denote that history
pub joins : (s : ℕ) (bytes others : List ℕ) (new : List Op) → IsSite s
    → (j : JoinsEdit s bytes new others) → Denotes others (j.edit.history ++ new)
joins s bytes others new site j =
    let e = j.edit in
    record {
      ops = j.ops;
      lines = j.lines;
      delivers = join_delivers s (ops_in e.entries) e.history e.behind.delivers e.behind.accepted
          e.behind.free new (made_added s e.history (commands_in e.entries) new e.makes) j.ops
          j.same;
    }
