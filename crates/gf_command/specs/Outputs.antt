-- What the runs of the program leave on their output (this project's choice).
use Rattle.std.specs.Prelude.{◌≡◌, ◌⊎◌, ℕ, Bool, true, List, Option, option_map}
use Rattle.gf_scanline.specs.Windows.{View}
use Rattle.gf_studio.specs.declared.painting.Extent.{Extent}
use Rattle.gf_studio.specs.declared.painting.Format.{Format}
use Rattle.gf_studio.specs.declared.painting.Format.TheVariants as input
use Rattle.gf_studio.specs.FigRun.{Exports, IsFigOf, IsNamedOf, Writes, WritesNamed}
use Rattle.gf_studio.specs.InspectRun.{AnswersQuery, WritesAnswer}
use Rattle.gf_studio.specs.PaintRun.{WritesPicture}
use Rattle.gf_studio.specs.PictureRun.{IsShownBy, IsWindowOf, PaintsBands, PaintsInput}
use Rattle.gf_run.specs.RunAnswers.{WritesPrefix}
use Rattle.gf_import.specs.ImportRun.{Imports, WritesImport}
use Rattle.gf_edit.specs.declared.made.Made.{Made}
use Rattle.gf_edit.specs.EditRun.{IsEditOf, WritesEdit}
use Rattle.gf_take_run.specs.declared.request.TakeRequest.{TakeRequest}
use Rattle.gf_take_run.specs.declared.taken.Taken.{Taken}
use Rattle.gf_take_run.specs.TakeRun.{IsTakeOf, WritesTake}
use Rattle.gf_status.specs.declared.state.State.{State}
use Rattle.gf_status.specs.declared.state.State.TheVariants.{Clean, Open}
use Rattle.gf_status.specs.StatusRun.{IsStatusOf, WritesStatus}
use Rattle.gf_check.specs.AllFaults.{AnswersText}
use Rattle.gf_check.specs.declared.checks.Verdict.TheVariants as verdict
use Rattle.gf_check.specs.CheckRun.{WritesCheck}
use Rattle.gf_session_run.specs.SessionRun.{TellsSession, WritesSession}
use Rattle.gf_serve.specs.declared.serve_error.ServeError.{ServeError}
use Rattle.gf_serve.specs.Serves.{AnswersAll, AnswersFirst}
use Rattle.gf_command.specs.declared.runs.Run.{Run}
use Rattle.gf_command.specs.declared.runs.Editor.{Editor}
use Rattle.gf_command.specs.declared.runs.Run.TheVariants.{Fig, NamedFig, Paint, Repaint}
use Rattle.gf_command.specs.declared.runs.Run.TheVariants.{Inspect, Import, Edit, Take, Status}
use Rattle.gf_command.specs.declared.runs.Run.TheVariants.{Check, Serve, Session}

-- the number of the site, where one is given
abbrev pub site_of : Option Editor → Option ℕ
site_of editor = option_map (λ e. e.site) editor

-- what a take of this site asks for
abbrev pub request_of : Editor → Option ℕ → Bool → TakeRequest
request_of editor after named = record { site = editor.site; after = after; named = named }

-- known bytes grow from old to new by the picture, in the window that the extent asks for, of an
-- input of this format
abbrev pub WritesExtent : Format → Extent → List ℕ → Option (List ℕ) → Option (List ℕ) → Type 0
WritesExtent format extent bytes old new =
    (w : View) × IsWindowOf format extent bytes w × WritesPicture (IsShownBy format bytes) w old new

-- known bytes grow by a prefix of such a picture, perhaps by whole bands
abbrev pub WritesExtentPrefix : Format → Extent → List ℕ → Option (List ℕ) → Option (List ℕ)
    → Type 0
WritesExtentPrefix format extent bytes old new =
    WritesPrefix (PaintsInput format extent bytes) old new ⊎ PaintsBands format extent bytes old new

-- known bytes grow from old to new by what the run asks for. This is the FIG text, the picture, the
-- status or the answer to a query of what the bytes denote. Or it is the picture of a FIG text's
-- drawing, the lines of an import, of an edit or of a take. Or it is what a session came to, the
-- answers of a service, or nothing where there is no fault. The FIG text shows the history, and is
-- to the byte that of its drawing, or the named one
abbrev pub Answers : Run → List ℕ → Option (List ℕ) → Option (List ℕ) → Type 0
Answers (Fig workers) bytes old new = Exports bytes old new × Writes bytes old new
Answers (NamedFig workers) bytes old new = Exports bytes old new × WritesNamed bytes old new
Answers (Paint canvas) bytes old new =
    WritesExtent input.Lines canvas.extent bytes old new
Answers (Repaint canvas) bytes old new =
    WritesExtent input.Fig canvas.extent bytes old new
Answers (Inspect inspection workers) bytes old new = WritesAnswer inspection bytes old new
Answers (Import editor) bytes old new = WritesImport editor.site bytes old new
Answers (Edit editor) bytes old new =
    (made : Option Made) × WritesEdit editor.site bytes made old new
Answers (Take editor after named workers) bytes old new =
    (taken : Taken) × WritesTake (request_of editor after named) bytes taken old new
Answers (Status check notation workers) bytes old new =
    (state : State) × (check ≡ true → state ≡ Clean) × WritesStatus notation bytes state old new
Answers (Check editor) bytes old new =
    WritesCheck (site_of editor) bytes verdict.Clean old new
Answers (Session sites) bytes old new = WritesSession sites bytes old new
Answers (Serve workers) bytes old new = AnswersAll bytes old new

-- known bytes grow from old to new by a prefix of what the run asks for. The prefix of a picture
-- may be whole bands
abbrev pub AnswersPrefix : Run → List ℕ → Option (List ℕ) → Option (List ℕ) → Type 0
AnswersPrefix (Fig workers) bytes old new = WritesPrefix (IsFigOf bytes) old new
AnswersPrefix (NamedFig workers) bytes old new = WritesPrefix (IsNamedOf bytes) old new
AnswersPrefix (Paint canvas) bytes old new =
    WritesExtentPrefix input.Lines canvas.extent bytes old new
AnswersPrefix (Repaint canvas) bytes old new =
    WritesExtentPrefix input.Fig canvas.extent bytes old new
AnswersPrefix (Inspect inspection workers) bytes old new =
    WritesPrefix (AnswersQuery inspection bytes) old new
AnswersPrefix (Import editor) bytes old new = WritesPrefix (Imports editor.site bytes) old new
AnswersPrefix (Edit editor) bytes old new = WritesPrefix (IsEditOf editor.site bytes) old new
AnswersPrefix (Take editor after named workers) bytes old new =
    WritesPrefix (IsTakeOf (request_of editor after named) bytes) old new
AnswersPrefix (Status check notation workers) bytes old new =
    WritesPrefix (IsStatusOf notation bytes) old new
AnswersPrefix (Check editor) bytes old new =
    WritesPrefix (AnswersText (site_of editor) bytes) old new
AnswersPrefix (Session sites) bytes old new = WritesPrefix (TellsSession sites bytes) old new
AnswersPrefix (Serve workers) bytes old new = (e : ServeError) × AnswersFirst bytes old new e

-- known bytes grow from old to new by what the run asks for, which is to be seen to. Something
-- waits or differs, where that is asked for, or there is a fault
abbrev pub AnswersOpen : Run → List ℕ → Option (List ℕ) → Option (List ℕ) → Type 0
AnswersOpen (Status check notation workers) bytes old new =
    (check ≡ true) × WritesStatus notation bytes Open old new
AnswersOpen (Check editor) bytes old new =
    WritesCheck (site_of editor) bytes verdict.Faulty old new
AnswersOpen other bytes old new = ⊥
