-- The faults of a FIG text that are told together (this project's choice, over the FIG grammar).
use Rattle.std.specs.Prelude.{◌≡◌, ℕ, zero, suc, ◌-◌, Bool, true, false, not, ◌&&◌, nat_lt}
use Rattle.std.specs.Prelude.{IsTrue, List, [], ◌∷◌, drop, Option, None, Some}
use Rattle.gf_fig_tokens.specs.Layout.{lines}
use Rattle.gf_fig_tokens.specs.declared.faults.FigFault.{FigFault}
use Rattle.gf_fig_read.specs.FaultLines.{IsFaultLine}
use Rattle.gf_fig_read.specs.FigGrammar.{Fails, Reads, is_of_header}
use Rattle.gf_fig_read.specs.Objects.{Drawn}
use Rattle.gf_fig_faults.specs.declared.faults.DrawingFault.{DrawingFault}
use Rattle.gf_fig_faults.specs.Commenting.{begins_object, commented_out, is_colour}

-- how many faults are told at most
abbrev pub most_told : ℕ
most_told = 64

-- the text reads as no drawing: f is its first fault, which is reported at the line
pub record FailsAt (text : List ℕ) (f : FigFault) (line : ℕ) : Type 0 where
  pub object : ℕ
  pub fails : Fails text f object
  pub reported : IsFaultLine text (record { fault = f; object = object }) line

-- the line stands behind the last one that was told, if there is one
abbrev pub is_behind : Option ℕ → ℕ → Bool
is_behind None line = true
is_behind (Some last) line = nat_lt last line

-- the first of these lines can begin an object that is no colour
abbrev pub begins_figure : List (List ℕ) → Bool
begins_figure [] = false
begins_figure (line ∷ ls) = begins_object line && not (is_colour line)

-- the search goes on behind a fault: it is none of the header, and its line begins a figure
abbrev pub goes_on : List ℕ → DrawingFault → Bool
goes_on text f = not (is_of_header f.fault) && begins_figure (drop (f.line - 1) (lines text))

-- the text has no fault behind the last line that was told
pub data HasNoneBehind (last : Option ℕ) (text : List ℕ) : Type 0 where
  reads : (d : Drawn) → Reads text d → HasNoneBehind last text
  before : (f : FigFault) (line : ℕ) → FailsAt text f line → is_behind last line ≡ false
      → HasNoneBehind last text

-- f is the first fault of the text, behind the last line that was told
pub record IsFirstBehind (last : Option ℕ) (text : List ℕ) (f : DrawingFault) : Type 0 where
  pub fails : FailsAt text f.fault f.line
  pub behind : IsTrue (is_behind last f.line)

-- the faults of the text behind the last line that was told, as far as n are told. Each is the
-- first one of the text in which comments stand for the objects with those before it
pub data AreFaults : ℕ → Option ℕ → List ℕ → List DrawingFault → Type 0 where
  full : (last : Option ℕ) (text : List ℕ) → AreFaults zero last text []
  none : (n : ℕ) (last : Option ℕ) (text : List ℕ) → HasNoneBehind last text
      → AreFaults (suc n) last text []
  ends : (n : ℕ) (last : Option ℕ) (text : List ℕ) (f : DrawingFault)
      → IsFirstBehind last text f → goes_on text f ≡ false → AreFaults (suc n) last text (f ∷ [])
  more : (n : ℕ) (last : Option ℕ) (text : List ℕ) (f : DrawingFault) (fs : List DrawingFault)
      → IsFirstBehind last text f → goes_on text f ≡ true
      → AreFaults n (Some f.line) (commented_out f.line text) fs
      → AreFaults (suc n) last text (f ∷ fs)

-- the first of the faults is the one by which the text reads as no drawing
pub record HasFirst (text : List ℕ) (faults : List DrawingFault) : Type 0 where
  pub first : DrawingFault
  pub others : List DrawingFault
  pub is : faults ≡ first ∷ others
  pub fails : FailsAt text first.fault first.line

-- the answer is the first fault of the text and its line, where the text has one
abbrev pub Finds : List ℕ → Option (ℕ × FigFault) → Type 0
Finds text None = (d : Drawn) × Reads text d
Finds text (Some found) = FailsAt text found.1 found.0

-- the answer is the first fault of the text, where it stands behind the last line that was told
abbrev pub FindsBehind : Option ℕ → List ℕ → Option DrawingFault → Type 0
FindsBehind last text None = HasNoneBehind last text
FindsBehind last text (Some f) = IsFirstBehind last text f
