-- How scripts grow by a line, and why what the bytes denote is not played. No public clause cites
-- this module.
use Rattle.std.specs.Prelude.{◌≡◌, ◌≢◌, ℕ, ◌≤◌, List, [], ◌∷◌, ◌++◌, length, slice_get, Some, ⊤}
use Rattle.gf_shape.specs.declared.any_shape.AnyShape.{AnyShape}
use Rattle.gf_shape.specs.Outlines.{any_outline}
use Rattle.gf_ops.specs.declared.op.Op.{Op}
use Rattle.gf_streams.specs.TextLines.{numbered_lines}
use Rattle.gf_figures.specs.DrawingState.{DrawingState}
use Rattle.gf_drawing.specs.declared.compiling.CompileFault.TheVariants as compile
use Rattle.gf_fig_write.specs.FigText.{fig_text}
use Rattle.gf_fig_write.specs.ShownHistory.{Shows}
use Rattle.gf_session.specs.declared.session.Done.{Done}
use Rattle.gf_studio.specs.FigRun.{IsDrawn, RefusesHistory}
use Rattle.gf_session_run.specs.Reports.{report_text}
use Rattle.gf_json.specs.declared.scripts.Command.{Command}
use Rattle.gf_json.specs.declared.scripts.ScriptLine.{ScriptLine}
use Rattle.gf_worker.specs.declared.script.Script.{Script}
use Rattle.gf_replay.specs.declared.reading_error.ReadingError.{ReadingError}
use Rattle.gf_replay.specs.declared.reading_error.ReadingError.TheVariants as reading
use Rattle.gf_run.specs.declared.studio_error.StudioError.{StudioError}
use Rattle.gf_run.specs.declared.studio_error.StudioError.TheVariants as studio
use Rattle.gf_session_run.specs.DenotedScripts.{AreCommandsOf, AreScriptsOf, Fit, HasScriptFault}

-- the script at index k has one more command, and the others are as they were
pub record GainsCommand (old : List Script) (k : ℕ) (c : Command) (new : List Script) : Type 0 where
  pub long : length new ≡ length old
  pub there : (s t : Script) → slice_get old k ≡ Some s → slice_get new k ≡ Some t
      → t.0.items ≡ s.0.items ++ c ∷ []
  pub others : (j : ℕ) → j ≢ k → slice_get new j ≡ slice_get old j

-- there is no script at index k, or it has 1,000 commands
pub data HasNoRoomAt (scripts : List Script) (k : ℕ) : Type 0 where
  past : length scripts ≤ k → HasNoRoomAt scripts k
  long : (s : Script) → slice_get scripts k ≡ Some s → 1000 ≤ length s.0.items
      → HasNoRoomAt scripts k

-- the lines before those that are left denote commands that fit, and these are the scripts so far
pub record HasScripts (n : ℕ) (bytes : List ℕ) (left : List (ℕ × List ℕ))
    (scripts : List Script) : Type 0 where
  pub before : List (ℕ × List ℕ)
  pub whole : numbered_lines bytes ≡ before ++ left
  pub commands : List ScriptLine
  pub lines : AreCommandsOf before commands
  pub fit : Fit n commands
  pub by_site : AreScriptsOf n commands scripts

-- why a text has no scripts
abbrev pub RefusesScripts : ℕ → List ℕ → ReadingError → Type 0
RefusesScripts n bytes (reading.Line m why) = HasScriptFault n bytes m why
RefusesScripts n bytes (reading.Dropped id fault) = ⊥
RefusesScripts n bytes reading.OutOfMemory = ⊤

-- the text has the lines of all sites. Behind them stands the one FIG text of the drawing of h, and
-- this shows h
pub record TellsHistory (h : List Op) (dones : List Done) (text : List ℕ) : Type 0 where
  pub drawing : DrawingState AnyShape
  pub drawn : IsDrawn h drawing
  pub shown : Shows (fig_text any_outline drawing) h
  pub is : text ≡ report_text dones ++ fig_text any_outline drawing

-- why h has no FIG text
abbrev pub RefusesTelling : List Op → StudioError → Type 0
RefusesTelling h (studio.Compile compile.TooManyVersions) = RefusesHistory h compile.TooManyVersions
RefusesTelling h (studio.Compile compile.TooManyColours) = RefusesHistory h compile.TooManyColours
RefusesTelling h studio.OutOfMemory = ⊤
RefusesTelling h other = ⊥
