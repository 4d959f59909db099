-- The line of a FIG text on which an object begins, and the line at which a fault is reported
-- (lines counted from 1, comments among them; this project's choice).
use Rattle.std.specs.Prelude.{◌≡◌, ◌≢◌, ℕ, ◌+◌, ◌-◌, max, List, [], length, drop, slice_get}
use Rattle.std.specs.Prelude.{Option, Some, None, Ok, MatchOption, unwrap_or}
use Rattle.gf_fig_tokens.specs.Layout.{Token, lines, object_tokens}
use Rattle.gf_fig_tokens.specs.TokenLines.{token_lines}
use Rattle.gf_fig_tokens.specs.declared.faults.FigFault.{FigFault}
use Rattle.gf_fig_tokens.specs.declared.faults.FigFault.TheVariants as fault
use Rattle.gf_fig_read.specs.declared.faults.FigError.{FigError}
use Rattle.gf_fig_read.specs.Objects.{Drawn}
use Rattle.gf_fig_read.specs.FigGrammar.{Leads, nothing}

-- object n begins where these tokens are left: n - 1 whole objects stand before, and a token is
-- left
pub record BeginsAt (all : List Token) (n : ℕ) (left : List Token) : Type 0 where
  pub before : Drawn
  pub objects : Leads nothing all before left
  pub further : left ≢ []
  pub number : n ≡ length before.table + length before.figures + 1

-- object n of the text begins on the line, on which its first token stands. The first two tokens
-- behind the header are the resolution, and of no object
pub record BeginsOn (text : List ℕ) (n line : ℕ) : Type 0 where
  pub all : List Token
  pub left : List Token
  pub tokens : object_tokens text ≡ Ok all
  pub begins : BeginsAt all n left
  pub place : slice_get (drop 2 (token_lines text)) (length all - length left) ≡ Some line

-- the last line of the text, or 1 where it has none
abbrev pub last_line : List ℕ → ℕ
last_line text = max (length (lines text)) 1

-- where a fault before the objects is reported: Version at the first line, Header at the last one.
-- Resolution is reported where the first token behind the header stands, or at the last line
abbrev pub front_line : List ℕ → FigFault → Option ℕ
front_line text fault.Version = Some 1
front_line text fault.Header = Some (last_line text)
front_line text fault.Resolution =
    Some (unwrap_or (slice_get (token_lines text) 0) (last_line text))
front_line text f = None

-- the fault e of the text is reported at the line: a fault of an object where the object begins
abbrev pub IsFaultLine : List ℕ → FigError → ℕ → Type 0
IsFaultLine text e line =
    MatchOption (front_line text e.fault) (BeginsOn text e.object line) (λ front. line ≡ front)
