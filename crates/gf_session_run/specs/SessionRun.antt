-- What the run over a session text writes, and why it is refused (this project's choice).
use Rattle.std.specs.Prelude.{◌≡◌, ◌≤◌, ℕ, List, ◌++◌, Option, Some, None, Contains, ⊤}
use Rattle.gf_shape.specs.declared.any_shape.AnyShape.{AnyShape}
use Rattle.gf_shape.specs.Outlines.{any_outline}
use Rattle.gf_ops.specs.declared.op.Op.{Op}
use Rattle.gf_causal.specs.DeliveredPart.{HaveSame}
use Rattle.gf_figures.specs.DrawingState.{DrawingState}
use Rattle.gf_drawing.specs.declared.compiling.CompileFault.{CompileFault}
use Rattle.gf_drawing.specs.declared.compiling.CompileFault.TheVariants as compile
use Rattle.gf_fig_write.specs.FigText.{fig_text}
use Rattle.gf_fig_write.specs.ShownHistory.{Shows}
use Rattle.gf_worker.specs.declared.script.Script.{Script}
use Rattle.gf_session.specs.declared.session.Done.{Done}
use Rattle.gf_session.specs.declared.session.SessionError.TheVariants as session
use Rattle.gf_session.specs.Session.{IsSession}
use Rattle.gf_run.specs.declared.studio_error.StudioError.{StudioError}
use Rattle.gf_run.specs.declared.studio_error.StudioError.TheVariants as studio
use Rattle.gf_studio.specs.FigRun.{IsDrawn, RefusesHistory}
use Rattle.gf_run.specs.RefusedRuns.{IsOfRun}
use Rattle.gf_run.specs.RunAnswers.{WritesText}
use Rattle.gf_session_run.specs.DenotedScripts.{DenotesScripts, HasScriptFault}
use Rattle.gf_session_run.specs.Reports.{report_text}
use Rattle.gf_session_run.specs.declared.session_run_error.SessionRunError.{SessionRunError}
use Rattle.gf_session_run.specs.declared.session_run_error.SessionRunError.TheVariants as run

-- a session may have n sites: 2 to 8
abbrev pub IsSiteCount : ℕ → Type 0
IsSiteCount n = (2 ≤ n) × (n ≤ 8)

-- the bytes denote scripts of n sites, and a session of them came to this for each site. All sites
-- then had the operations of h
pub record PlaysScripts (n : ℕ) (bytes : List ℕ) (dones : List Done) (h : List Op) : Type 0 where
  pub scripts : List Script
  pub denoted : DenotesScripts n bytes scripts
  pub session : IsSession scripts dones
  pub common : (d : Done) → Contains dones d → HaveSame d.site.ops h

-- the text of a session of n sites that the bytes denote: the lines of sites, then a FIG text. This
-- is the one FIG text of the common history's drawing, and shows this history
pub record TellsSession (n : ℕ) (bytes text : List ℕ) : Type 0 where
  pub dones : List Done
  pub history : List Op
  pub plays : PlaysScripts n bytes dones history
  pub drawing : DrawingState AnyShape
  pub drawn : IsDrawn history drawing
  pub shown : Shows (fig_text any_outline drawing) history
  pub is : text ≡ report_text dones ++ fig_text any_outline drawing

-- known bytes grow from old to new by the text of a session of n sites that the bytes denote
abbrev pub WritesSession : ℕ → List ℕ → Option (List ℕ) → Option (List ℕ) → Type 0
WritesSession n bytes old new = WritesText (TellsSession n bytes) old new

-- a session of the scripts that the bytes denote came to a history that has no drawing, for this
-- fault
pub record HasNoDrawing (n : ℕ) (bytes : List ℕ) (fault : CompileFault) : Type 0 where
  pub dones : List Done
  pub history : List Op
  pub plays : PlaysScripts n bytes dones history
  pub refused : RefusesHistory history fault

-- why the history of a session is not exported; want of memory says nothing of the history
abbrev pub RefusesExport : ℕ → List ℕ → CompileFault → Type 0
RefusesExport n bytes compile.OutOfMemory = ⊥
RefusesExport n bytes fault = HasNoDrawing n bytes fault

-- why the run is refused
abbrev pub RefusesSession : ℕ → List ℕ → SessionRunError → Type 0
RefusesSession n bytes (run.Run (studio.Line m cause)) = HasScriptFault n bytes m cause
RefusesSession n bytes (run.Run (studio.Compile fault)) = RefusesExport n bytes fault
RefusesSession n bytes (run.Run e) = IsOfRun e
RefusesSession n bytes (run.Session session.Sites) = ¬ (IsSiteCount n)
RefusesSession n bytes (run.Session session.OutOfMemory) = ⊤

-- the error of a session run that other runs may have too
abbrev pub of_session : SessionRunError → Option StudioError
of_session (run.Run e) = Some e
of_session (run.Session e) = None
