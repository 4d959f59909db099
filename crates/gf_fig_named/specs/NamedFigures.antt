-- Which figures of a FIG text its comments name (Xfig, FIG Format 3.2: a comment stands before its
-- object; the words of these are this project's choice).
use Rattle.std.specs.Prelude.{◌≡◌, ◌≢◌, ℕ, ◌+◌, Bool, false, ◌&&◌, nat_le, IsTrue, List, []}
use Rattle.std.specs.Prelude.{◌++◌, codes, length, slice_get, Ok, Some, Option}
use Rattle.std.specs.List.{list_all}
use Rattle.gf_ops.specs.Limits.{is_id}
use Rattle.gf_fig_tokens.specs.Layout.{Token, is_comment, lines, object_tokens, plain, tokens}
use Rattle.gf_fig_tokens.specs.Layout.{words}
use Rattle.gf_fig_read.specs.FaultLines.{BeginsAt}
use Rattle.gf_fig_read.specs.Objects.{Drawn}
use Rattle.gf_fig_named.specs.declared.reading.Named.{Named}
use Rattle.gf_fig_named.specs.Comments.{name_lines}

-- the ids of the name are ones of operations, and its depth is one of FIG
abbrev pub is_spelt : Named → Bool
is_spelt named = is_id named.name.object.0 && list_all is_id named.name.telling
    && nat_le named.depth 999

-- object n of the text begins directly beneath the lines that name it: on the next line, which is
-- no comment and has a token
pub record IsNamed (fig : List ℕ) (n : ℕ) (named : Named) : Type 0 where
  pub front : List ℕ
  pub back : List ℕ
  pub whole : fig ≡ front ++ codes "\n" ++ name_lines named.name named.depth ++ back
  pub spelt : IsTrue (is_spelt named)
  pub next : List ℕ
  pub line : slice_get (lines back) 0 ≡ Some next
  pub directly : (is_comment next ≡ false) × (words next ≢ [])
  pub all : List Token
  pub read : object_tokens fig ≡ Ok all
  pub begins : BeginsAt all n (tokens (plain (lines back)))

-- each figure of the drawing, which the text reads as, has the name that stands over it
abbrev pub AreNamed : List ℕ → Drawn → List (Option Named) → Type 0
AreNamed fig d names = (k : ℕ) (named : Named) → IsNamed fig (length d.table + k + 1) named
    → slice_get names k ≡ Some (Some named)
