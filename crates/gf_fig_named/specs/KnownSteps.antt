-- What ids count. No public clause cites this module.
use Rattle.std.specs.Prelude.{◌≡◌, ℕ, ◌==◌, List, Some, fold, map, if◌then◌else◌}
use Rattle.std.specs.List.{find, range_with_len}
use Rattle.gf_ops.specs.declared.op.Clock.{Clock}
use Rattle.gf_ops.specs.declared.op.OpId.{OpId}
use Rattle.gf_fig_tokens.specs.Layout.{lines}
use Rattle.gf_fig_named.specs.Known.{begins_known}
use Rattle.gf_fig_named.specs.Spelling.{spelt_ids}

-- the number of the last id of site s, or else n
abbrev pub last_or : ℕ → ℕ → List OpId → ℕ
last_or s n ids = fold (λ m i. if i.site == s then i.seq else m) n ids

-- the number of the last id of each site
abbrev pub last_numbers : List OpId → Clock
last_numbers ids = record { 0 = map (λ s. last_or s 0 ids) (range_with_len 1 8) }

-- the clock has what the ids count of the first line that begins so
pub record CountsFirst (fig : List ℕ) (c : Clock) : Type 0 where
  pub line : List ℕ
  pub first : find begins_known (lines fig) ≡ Some line
  pub is : c ≡ last_numbers (spelt_ids line)
