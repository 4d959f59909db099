-- Why a FIG text is not imported, by the answers of its reader.
use Rattle.std.proofs.Common.{◌≡◌, ℕ, ◌≤◌, ◌<◌, List, ◌∷◌, length, length-append, ap}
use Rattle.std.proofs.Common.{subst, inl, inr, arith}
use Rattle.std.specs.Prelude.{◌⊎◌, Option, None, Some, MatchOption}
use Rattle.gf_shape.specs.declared.outline.Outline.{Outline}
use Rattle.gf_figures.specs.declared.figure.Figure.{Figure}
use Rattle.gf_figures.specs.DrawingState.{DrawingState}
use Rattle.gf_fig_tokens.specs.declared.faults.FigFault.{FigFault}
use Rattle.gf_fig_tokens.specs.declared.faults.FigFault.TheVariants as fault
use Rattle.gf_fig_read.specs.declared.faults.FigError.{FigError}
use Rattle.gf_fig_read.specs.FaultLines.{BeginsOn, IsFaultLine, front_line}
use Rattle.gf_fig_read.specs.FigGrammar.{Fails}
use Rattle.gf_fig_read.proofs.ObjectLemmas.{made_of}
use Rattle.gf_objects.specs.declared.figure_fault.FigureFault.{FigureFault}
use Rattle.gf_import.specs.declared.creation_error.CreationError.TheVariants as creation
use Rattle.gf_import.specs.CreationFaults.{IsFirstFault}
use Rattle.gf_import.specs.ImportRun.{HasNoCreations}
use Rattle.gf_import.proofs.LineLemmas.{object_has_line}

-- what is told of an answer that is there, and of one that is not
pub at_some : (N : Type 0) (P : ℕ → Type 0) (found : Option ℕ) (line : ℕ) → found ≡ Some line
    → MatchOption found N P → P line
at_some N P found line e told = subst (λ o. MatchOption o N P) e told

pub at_none : (N : Type 0) (P : ℕ → Type 0) (found : Option ℕ) → found ≡ None
    → MatchOption found N P → N
at_none N P found e told = subst (λ o. MatchOption o N P) e told

-- want of memory is told at no line
memory_off_lines : (fig : List ℕ) (e : FigError) (line : ℕ) → e.fault ≡ fault.OutOfMemory → e.object
    ≡ 0 → ¬ (IsFaultLine fig e line)
memory_off_lines fig e line memory zeroth told =
    let on : BeginsOn fig e.object line = subst
    (λ (f : FigFault). MatchOption (front_line fig f) (BeginsOn fig e.object line)
    (λ front. line ≡ front)) memory told in
    let n = on.begins.number in
    absurd (omega (arith, n, zeroth))

pub told_fails : (fig : List ℕ) (e : FigError) (line : ℕ)
    → ((e.fault ≡ fault.OutOfMemory) × (e.object ≡ 0)) ⊎ Fails fig e.fault e.object
    → IsFaultLine fig e line → Fails fig e.fault e.object
told_fails fig e line (inl p) told = absurd (memory_off_lines fig e line p.0 p.1 told)
told_fails fig e line (inr fails) told = fails

-- the object of a figure at fault is one of the drawing
among : (d : DrawingState Outline) (n : ℕ) (f : FigureFault) → IsFirstFault d n f → (0 < n)
    × (n ≤ made_of d)
among d n f first =
    let number = first.number in
    let all = ap (λ (fs : List (Figure Outline)). length fs) first.whole in
    let parts = length-append first.before (first.figure ∷ first.after) in
    (omega (arith, number), omega (arith, number, all, parts))

-- and it begins on a line
pub figure_has_line : (fig : List ℕ) (n : ℕ) (f : FigureFault)
    → HasNoCreations fig (creation.Figure n f) → (line : ℕ) × BeginsOn fig n line
figure_has_line fig n f none =
    let there = among none.drawing n f none.refused.1 in
    object_has_line fig none.drawing n none.reads there.0 there.1
