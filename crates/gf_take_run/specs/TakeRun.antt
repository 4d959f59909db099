-- What the run of a take writes, and why it is refused (this project's choice).
use Rattle.std.specs.Prelude.{◌≡◌, ◌⊎◌, ◌<◌, ◌≤◌, ℕ, ◌+◌, List, [], ◌++◌, Option, None, Some}
use Rattle.std.specs.Prelude.{IfSome, length, ⊤}
use Rattle.std.specs.Prelude.{slice_get}
use Rattle.gf_shape.specs.declared.outline.Outline.{Outline}
use Rattle.gf_streams.specs.TextLines.{numbered_lines}
use Rattle.gf_ops.specs.declared.op.Op.{Op}
use Rattle.gf_ops.specs.declared.op.OpId.{OpId}
use Rattle.gf_ops.specs.declared.op.Clock.{Clock}
use Rattle.gf_ops.specs.OperationOrder.{count_of}
use Rattle.gf_ops.specs.declared.change.Change.{Change}
use Rattle.gf_causal.specs.Waiting.{waits_for}
use Rattle.gf_replay.specs.Denoting.{AreLinesOf}
use Rattle.gf_replay.specs.Behind.{Divides}
use Rattle.gf_versions.specs.declared.ranking.TheConstants.{MOST_VERSIONS}
use Rattle.gf_fig_named.specs.ThinPolygons.{AreThinOf}
use Rattle.gf_fig_faults.specs.DrawingFaults.{AreFaults, HasFirst, most_told}
use Rattle.gf_fig_read.specs.FaultLines.{BeginsOn}
use Rattle.gf_fig_read.specs.FigGrammar.{Reads}
use Rattle.gf_fig_read.specs.Objects.{Drawn}
use Rattle.gf_figures.specs.declared.figure.Figure.{Figure}
use Rattle.gf_site.specs.declared.faults.AuthorFault.TheVariants as author
use Rattle.gf_visible.specs.ShownVersions.{HasMoreVisible}
use Rattle.gf_objects.specs.declared.figure_fault.FigureFault.{FigureFault}
use Rattle.gf_objects.specs.StartFaults.{figure_fault}
use Rattle.gf_fig_named.specs.Known.{AreCounts, TellsKnown}
use Rattle.gf_run.specs.declared.studio_error.StudioError.{StudioError}
use Rattle.gf_run.specs.declared.studio_error.StudioError.TheVariants as studio
use Rattle.gf_run.specs.RefusedRuns.{IsOfRun, RefusesReading}
use Rattle.gf_run.specs.RunAnswers.{WritesText}
use Rattle.gf_edit.specs.EditRun.{IsFirstBlocking}
use Rattle.gf_edit.specs.MadeOperations.{made_of}
use Rattle.gf_edit.specs.Making.{written_lines}
use Rattle.gf_take.specs.Bases.{AreRead, IsBase}
use Rattle.gf_take.specs.ShownDrawing.{LooksLike}
use Rattle.gf_take.specs.Taking.{HasRefusal}
use Rattle.gf_take_run.specs.declared.take_run_error.TakeRunError.{TakeRunError}
use Rattle.gf_take_run.specs.declared.take_run_error.TakeRunError.TheVariants as refused
use Rattle.gf_take_run.specs.declared.taken.Taken.{Taken}
use Rattle.gf_take_run.specs.declared.request.TakeRequest.{TakeRequest}
use Rattle.gf_take_run.specs.ShownText.{IsShownText}
use Rattle.gf_take_run.specs.Parting.{BeginsFig, IsParted}
use Rattle.gf_take_run.specs.KnownHistory.{AreThere, IsAbsent, IsNewer, since_drawing}
use Rattle.gf_take_run.specs.TakenText.{DenotesDrawing, DenotesTake}
use Rattle.gf_take_run.specs.ToldNumbers.{CountsObjects, alters, creates, hides}

-- the base has at most so many operations of site s, or nothing new is made
abbrev pub StaysWithin : ℕ → Option ℕ → List Op → List Op → Type 0
StaysWithin s after base new = IfSome after (λ n. (count_of base s ≤ n) ⊎ (new ≡ []))

-- the text has the lines of the new operations that the site takes of the bytes, which denote
-- these, and behind them the named text of all, where it was asked for. Their first and last are
-- told, how many objects they change, hide and create, and what the site made since the drawing was
-- written. So are the polygons of its base that xfig does not keep
pub record TakesText (q : TakeRequest) (bytes text : List ℕ) (taken : Taken) : Type 0 where
  pub new : List Op
  pub denoted : DenotesTake q.site bytes new
  pub within : StaysWithin q.site q.after denoted.taken.base new
  pub lines : List ℕ
  pub written : lines ≡ written_lines new
  pub denotes : AreLinesOf (numbered_lines lines) new
  pub shown : List ℕ
  pub shows : IsShownText q.named (denoted.history ++ new) shown
  pub is : text ≡ lines ++ shown
  pub made : taken.made ≡ made_of new
  pub changed : CountsObjects alters new taken.changed
  pub hidden : CountsObjects hides new taken.hidden
  pub drawn : CountsObjects creates new taken.drawn
  pub since : taken.since ≡ since_drawing q.site denoted.knew denoted.history
  pub thin : AreThinOf denoted.taken.base taken.thin.items

-- known bytes grow from old to new by the lines of what is taken, which is told
abbrev pub WritesTake : TakeRequest → List ℕ → Taken → Option (List ℕ) → Option (List ℕ) → Type 0
WritesTake q bytes taken old new = WritesText (λ text. TakesText q bytes text taken) old new

-- the text has the lines of what is taken
abbrev pub IsTakeOf : TakeRequest → List ℕ → List ℕ → Type 0
IsTakeOf q bytes text = (taken : Taken) × TakesText q bytes text taken

-- of the known operations that block site s, i has the least id, and waits for j
pub record HasBlocking (s : ℕ) (known : List Op) (i j : OpId) : Type 0 where
  pub history : List Op
  pub waiting : List Op
  pub divided : Divides known history waiting
  pub op : Op
  pub blocking : IsFirstBlocking s history known op
  pub named : i ≡ op.id
  pub waits : j ≡ waits_for history op

-- the known operations deliver a history for site s, and this holds of it
pub record ReadsLines (s : ℕ) (known : List Op) (Such : List Op → Type 0) : Type 0 where
  pub history : List Op
  pub read : AreRead s known history
  pub such : Such history

-- the FIG text reads as a drawing of more than 1,000 figures
pub record HasManyFigures (fig : List ℕ) : Type 0 where
  pub drawing : Drawn
  pub reads : Reads fig drawing
  pub many : MOST_VERSIONS < length drawing.figures

-- the FIG text reads as a drawing of at most 1,000 figures, and does not tell what this knew
pub record IsUnnamed (fig : List ℕ) : Type 0 where
  pub drawing : Drawn
  pub reads : Reads fig drawing
  pub few : length drawing.figures ≤ MOST_VERSIONS
  pub silent : (c : Clock) → AreCounts c → ¬ (TellsKnown fig c)

-- the operations and the FIG text were read, and this holds of the history and of what the drawing
-- knew
pub record ReadsBoth (s : ℕ) (known : List Op) (fig : List ℕ)
    (Such : List Op → Drawn → Clock → Type 0) : Type 0 where
  pub history : List Op
  pub read : AreRead s known history
  pub drawing : Drawn
  pub knew : Clock
  pub drawn : DenotesDrawing fig drawing knew
  pub such : Such history drawing knew

-- all that the drawing knew is in h, no operation of site s is newer, and this holds of the base
pub record HasBase (s : ℕ) (Such : List Op → Drawn → Type 0) (h : List Op) (drawing : Drawn)
    (knew : Clock) : Type 0 where
  pub there : AreThere knew h
  pub young : (a x : Op) → ¬ (IsNewer s knew h a x)
  pub base : List Op
  pub is_base : IsBase s knew h base
  pub such : Such base drawing

-- the base shows more versions than a drawing has
abbrev pub ShowsMany : List Op → Drawn → Type 0
ShowsMany base drawing = HasMoreVisible base MOST_VERSIONS

-- the base does not look like the drawing
abbrev pub LooksOtherwise : List Op → Drawn → Type 0
LooksOtherwise base drawing = ¬ (LooksLike base drawing)

-- the figure of an object of the drawing breaks this limit, counted from 1 with the colours
pub record BreaksLimit (object : ℕ) (fault : FigureFault) (drawing : Drawn) : Type 0 where
  pub index : ℕ
  pub figure : Figure Outline
  pub at : slice_get drawing.figures index ≡ Some figure
  pub number : object ≡ length drawing.table + index + 1
  pub broken : figure_fault drawing.table figure ≡ Some fault

-- the base does not look like the drawing, of which a figure breaks a limit
pub record GoesBeyond (object : ℕ) (fault : FigureFault) (base : List Op) (drawing : Drawn)
    : Type 0 where
  pub otherwise : LooksOtherwise base drawing
  pub breaks : BreaksLimit object fault drawing

-- the base does not look like the drawing, and site s makes no more operations behind some
pub record IsExhausted (s : ℕ) (base : List Op) (drawing : Drawn) : Type 0 where
  pub otherwise : LooksOtherwise base drawing
  pub changes : List Change
  pub refused : HasRefusal s base changes author.Exhausted

-- the base does not look like the drawing, and has more operations of site s than were asked for,
-- of which i is the last
pub record IsBehind (s : ℕ) (after : Option ℕ) (i : OpId) (base : List Op) (drawing : Drawn)
    : Type 0 where
  pub otherwise : LooksOtherwise base drawing
  pub most : ℕ
  pub asked : after ≡ Some most
  pub more : most < count_of base s
  pub last : i ≡ record { site = s; seq = count_of base s }

-- an operation of the site under the id i knows one of another site under j, and the drawing did
-- not
pub record HasNewer (s : ℕ) (i j : OpId) (h : List Op) (drawing : Drawn) (knew : Clock)
    : Type 0 where
  pub op : Op
  pub known : Op
  pub newer : IsNewer s knew h op known
  pub named : i ≡ op.id
  pub names : j ≡ known.id

-- why nothing is taken of this FIG text behind the known operations; want of memory may come with
-- any
abbrev pub RefusesFigText : TakeRequest → List Op → List ℕ → TakeRunError → Type 0
RefusesFigText q known fig (refused.Run studio.OutOfMemory) = ⊤
RefusesFigText q known fig (refused.Run e) = ⊥
RefusesFigText q known fig (refused.Waits i j) = HasBlocking q.site known i j
RefusesFigText q known fig (refused.Fig faults) = ReadsLines q.site known
    (λ h. HasFirst fig faults × AreFaults most_told None fig faults)
RefusesFigText q known fig refused.TooManyFigures =
    ReadsLines q.site known (λ h. HasManyFigures fig)
    ⊎ ReadsBoth q.site known fig (HasBase q.site ShowsMany)
RefusesFigText q known fig refused.Unnamed = ReadsLines q.site known (λ h. IsUnnamed fig)
RefusesFigText q known fig (refused.Absent i) =
    ReadsBoth q.site known fig (λ h drawing knew. IsAbsent knew h i)
RefusesFigText q known fig (refused.Older i j) = ReadsBoth q.site known fig (HasNewer q.site i j)
RefusesFigText q known fig (refused.Figure broken) =
    ReadsBoth q.site known fig (HasBase q.site (GoesBeyond broken.object broken.fault))
    × BeginsOn fig broken.object broken.line
RefusesFigText q known fig (refused.Behind i) =
    ReadsBoth q.site known fig (HasBase q.site (IsBehind q.site q.after i))
RefusesFigText q known fig refused.Exhausted =
    ReadsBoth q.site known fig (HasBase q.site (IsExhausted q.site))
RefusesFigText q known fig refused.Differs =
    ReadsBoth q.site known fig (HasBase q.site LooksOtherwise)
RefusesFigText q known fig refused.NoDrawing = ⊥

-- the lines denote operations of which this holds
pub record DenotesOps (lines : List ℕ) (Such : List Op → Type 0) : Type 0 where
  pub ops : List Op
  pub denoted : AreLinesOf (numbered_lines lines) ops
  pub such : Such ops

-- why nothing is taken of these operation lines and this FIG text
abbrev pub RefusesParts : TakeRequest → List ℕ → List ℕ → TakeRunError → Type 0
RefusesParts q lines fig (refused.Run e) = RefusesReading lines e
RefusesParts q lines fig e = DenotesOps lines (λ known. RefusesFigText q known fig e)

-- the bytes are these two parts, and nothing is taken of them
pub record RefusesParted (q : TakeRequest) (bytes : List ℕ) (e : TakeRunError) : Type 0 where
  pub lines : List ℕ
  pub fig : List ℕ
  pub parted : IsParted bytes lines fig
  pub refused : RefusesParts q lines fig e

-- why nothing is taken of the bytes
pub data RefusesTaking (q : TakeRequest) (bytes : List ℕ) (e : TakeRunError) : Type 0 where
  no_drawing : e ≡ refused.NoDrawing → ((n : ℕ) → ¬ (BeginsFig bytes n)) → RefusesTaking q bytes e
  parts : RefusesParted q bytes e → RefusesTaking q bytes e
  input : (fault : StudioError) → e ≡ refused.Run fault → IsOfRun fault → RefusesTaking q bytes e

-- the error of a take that other runs may have too
abbrev pub of_take : TakeRunError → Option StudioError
of_take (refused.Run e) = Some e
of_take other = None
