-- What a FIG text tells that was known: the first line that begins so (Xfig, FIG Format 3.2:
-- comments; their words are this project's choice).
use Rattle.std.specs.Prelude.{◌≡◌, ℕ, ◌≤◌, Bool, nat_eq, List, Some, codes, map}
use Rattle.std.specs.List.{find, range_with_len, starts_with}
use Rattle.gf_ops.specs.declared.op.Clock.{Clock}
use Rattle.gf_ops.specs.declared.op.Op.{Op}
use Rattle.gf_ops.specs.OperationOrder.{IsSite, count_of, entry}
use Rattle.gf_fig_tokens.specs.Layout.{lines}
use Rattle.gf_fig_named.specs.Comments.{knows_comment}

-- the line begins as one that tells what was known
abbrev pub begins_known : List ℕ → Bool
begins_known line = starts_with nat_eq line (codes "# figgroup knows")

-- the first line of the text that begins so is the comment that the clock's operations are known
pub record TellsKnown (fig : List ℕ) (c : Clock) : Type 0 where
  pub first : find begins_known (lines fig) ≡ Some (knows_comment (entry c))

-- the clock counts at most 10,000 operations of each site
abbrev pub AreCounts : Clock → Type 0
AreCounts c = (s : ℕ) → IsSite s → entry c s ≤ 10000

-- how many operations of each site h has
abbrev pub written_counts : List Op → Clock
written_counts h = record { 0 = map (count_of h) (range_with_len 1 8) }
