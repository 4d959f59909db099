-- How crossings and contacts are joined: in pairs, then merged. No public clause cites this module.
use Rattle.std.specs.Prelude.{Bool, cond, ℤ, pos, ◌+ℤ◌, int_le, List, [], ◌∷◌}
use Rattle.std.specs.Prelude.{◌++◌, Option, Some, None, option_to_list}
use Rattle.std.specs.Int.{int_max}
use Rattle.gf_spans.specs.declared.crossing.Crossing.{Crossing}
use Rattle.gf_spans.specs.declared.span.Span.{Span}

-- the first number at the place k or past it
abbrev pub start : Crossing → ℤ
start k = cond k.between (k.floor +ℤ pos 1) k.floor

-- the numbers from the place k to the place l, where there are any
abbrev pub span_between : Crossing → Crossing → Option Span
span_between k l =
    cond (int_le (start k) l.floor) (Some (record { first = start k; last = l.floor })) None

-- the numbers from the place k to the place l as one span, or none where there are no numbers
abbrev pub spans_between : Crossing → Crossing → List Span
spans_between k l = option_to_list (span_between k l)

-- the spans between each two places in turn; one place may stand before the list
abbrev pub pairs_from : Option Crossing → List Crossing → List Span
pairs_from before [] = []
pairs_from None (k ∷ ks) = pairs_from (Some k) ks
pairs_from (Some k) (l ∷ ks) = spans_between k l ++ pairs_from None ks

-- the span c, widened to the end of the span s
abbrev pub widened : Span → Span → Span
widened c s = record { first = c.first; last = int_max c.last s.last }

-- the span s, which begins no earlier than the span c, overlaps it or begins right after it
abbrev pub meets : Span → Span → Bool
meets c s = int_le s.first (c.last +ℤ pos 1)

-- the span c and spans that begin no earlier, by their first numbers: spans that meet are made one
abbrev pub merged : Span → List Span → List Span
merged c [] = c ∷ []
merged c (s ∷ ss) = cond (meets c s) (merged (widened c s) ss) (c ∷ merged s ss)

-- spans by their first numbers: spans that meet are made one
abbrev pub merged_all : List Span → List Span
merged_all [] = []
merged_all (s ∷ ss) = merged s ss
