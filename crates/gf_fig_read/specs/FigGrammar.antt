-- The FIG grammar: which drawing a text reads as, and with which fault of which object it fails
-- (Xfig, FIG Format 3.2); the profile is this project's: filled closed chains, circles and ellipses
-- with level axes, without outline or arrows.
use Rattle.std.specs.Prelude.{◌≡◌, ◌≢◌, ◌⊎◌, ℕ, ◌+◌, Bool, true, false}
use Rattle.std.specs.Prelude.{List, [], length, Ok, Err}
use Rattle.gf_fig_tokens.specs.Layout.{Token, object_tokens}
use Rattle.gf_fig_read.specs.Objects.{Drawn, object}
use Rattle.gf_fig_tokens.specs.declared.faults.FigFault.{FigFault}
use Rattle.gf_fig_tokens.specs.declared.faults.FigFault.TheVariants as fault

-- the drawing before the first object: no colours, no figures
abbrev pub nothing : Drawn
nothing = record { table = []; figures = [] }

-- whole objects, one after another, lead from drawing d with the tokens ts to drawing e with the
-- tokens left
pub data Leads : Drawn → List Token → Drawn → List Token → Type 0 where
  none : (d : Drawn) (ts : List Token) → Leads d ts d ts
  more : (d m e : Drawn) (ts between left : List Token) → object d ts ≡ Ok (m, between)
      → Leads m between e left → Leads d ts e left

-- the text reads as drawing d: its tokens are those of whole objects, which make d
pub record Reads (text : List ℕ) (d : Drawn) : Type 0 where
  pub all : List Token
  pub tokens : object_tokens text ≡ Ok all
  pub objects : Leads nothing all d []

-- behind n - 1 whole objects tokens follow, and f is the first fault of the object there
pub record StopsAt (all : List Token) (f : FigFault) (n : ℕ) : Type 0 where
  pub before : Drawn
  pub left : List Token
  pub objects : Leads nothing all before left
  pub further : left ≢ []
  pub wrong : object before left ≡ Err f
  pub number : n ≡ length before.table + length before.figures + 1

-- f is a fault before the objects
abbrev pub is_of_header : FigFault → Bool
is_of_header fault.Version = true
is_of_header fault.Header = true
is_of_header fault.Resolution = true
is_of_header f = false

-- the text reads as no drawing: f is its first fault, in the object n, or 0 before the objects
abbrev pub Fails : List ℕ → FigFault → ℕ → Type 0
Fails text f n = ((object_tokens text ≡ Err f) × (n ≡ 0))
    ⊎ ((all : List Token) × (object_tokens text ≡ Ok all) × StopsAt all f n)
