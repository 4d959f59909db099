-- What the lines above a figure name. No public clause cites this module.
use Rattle.std.specs.Prelude.{ℕ, Bool, true, false, ◌||◌, nat_eq, List, [], ◌∷◌, ◌++◌}
use Rattle.std.specs.Prelude.{codes, drop, filter_map, Option, Some, None, ℤ, pos, nat_abs}
use Rattle.std.specs.Prelude.{if◌then◌else◌}
use Rattle.std.specs.List.{starts_with}
use Rattle.std.specs.Cmp.Lexicographic.{pointwise}
use Rattle.gf_ops.specs.declared.op.OpId.{OpId}
use Rattle.gf_fig_tokens.specs.Fields.{is_in}
use Rattle.gf_fig_tokens.specs.Forms.{whole}
use Rattle.gf_fig_tokens.specs.Layout.{Token, is_comment, words}
use Rattle.gf_fig_named.specs.declared.above.Spot.{Spot}
use Rattle.gf_fig_named.specs.declared.reading.Named.{Named}
use Rattle.gf_fig_named.specs.Spelling.{spelt_id, spelt_ids}

-- there is no token
abbrev pub are_none : List Token → Bool
are_none [] = true
are_none (t ∷ ts) = false

-- the line is a comment, or has no token
abbrev pub is_silent : List ℕ → Bool
is_silent line = is_comment line || are_none (words line)

-- ---- a name

-- n as a natural number, where it lies between 0 and 999
abbrev pub depth_of : ℤ → Option ℕ
depth_of n = if is_in (pos 0) (pos 999) n then Some (nat_abs n) else None

-- the depth of a number, if there is one
abbrev pub depth_in : Option ℤ → Option ℕ
depth_in (Some n) = depth_of n
depth_in None = None

-- the depth that a word spells
abbrev pub spelt_depth : Token → Option ℕ
spelt_depth word = depth_in (whole word)

-- the object and the depth, if there are both
abbrev pub spot_of : Option OpId → Option ℕ → Option Spot
spot_of (Some i) (Some d) = Some (record { object = record { 0 = i }; depth = d })
spot_of (Some i) None = None
spot_of None d = None

-- the word is `at`
abbrev pub is_at : Token → Bool
is_at word = pointwise nat_eq word (codes "at")

-- what the first three words of a name tell
abbrev pub told_of : Token → Token → Token → Option Spot
told_of o at d = if is_at at then spot_of (spelt_id o) (spelt_depth d) else None

-- what the words of a name tell but for its ids
abbrev pub spelt_spot : List Token → Option Spot
spelt_spot (o ∷ at ∷ d ∷ ws) = told_of o at d
spelt_spot ws = None

-- the ids of a name with these words
abbrev pub ids_of_name : List Token → List OpId
ids_of_name (o ∷ at ∷ d ∷ ws) = filter_map spelt_id ws
ids_of_name ws = []

-- ---- the lines above

-- the line goes on with the ids of a name
abbrev pub begins_further : List ℕ → Bool
begins_further line = starts_with nat_eq line (codes "# figgroup with ")

-- the line begins as one that names a figure
abbrev pub begins_name : List ℕ → Bool
begins_name line = starts_with nat_eq line (codes "# figgroup ")

-- what is told behind a line
abbrev pub spot_behind : Option Spot → List ℕ → Option Spot
spot_behind s line =
    if begins_further line then s
    else (if begins_name line then spelt_spot (words (drop 11 line)) else s)

-- which ids are told behind a line
abbrev pub ids_behind : List OpId → List ℕ → List OpId
ids_behind ids line =
    if begins_further line then ids ++ spelt_ids (drop 16 line)
    else (if begins_name line then ids_of_name (words (drop 11 line)) else ids)

-- the name of what is told, with these ids
abbrev pub named_at : Option Spot → List OpId → Option Named
named_at (Some s) ids = Some (record {
  name = record { object = s.object; telling = ids };
  depth = s.depth;
})
named_at None ids = None

-- what the silent lines name with which these lines begin, where this was told before them
abbrev pub told_above : Option Spot → List OpId → List (List ℕ) → Option Named
told_above s ids [] = named_at s ids
told_above s ids (l ∷ ls) =
    if is_silent l then told_above (spot_behind s l) (ids_behind ids l) ls else named_at s ids

-- what the silent lines name with which these lines begin
abbrev pub name_above : List (List ℕ) → Option Named
name_above ls = told_above None [] ls
