-- What the words of the command line ask for, by what clap reads of them (this project's choice).
use Rattle.std.specs.Prelude.{◌≡◌, ◌≢◌, ◌⊎◌, ◌&&◌, ◌||◌, ℕ, ℤ, pos, Bool, false, List, []}
use Rattle.std.specs.Prelude.{Option, Some, None, Result, Ok, Err, codes, cond, is_some, FitsSigned}
use Rattle.std.specs.Prelude.{IsTrue, MatchOption}
use Rattle.std.specs.Str.{bytes_eq}
use Rattle.std.specs.Int.{w32}
use Rattle.std.specs.Str.Parse.{digits_value, signed_digits_value, without_leading_plus}
use Rattle.clap.specs.Words.{IsAmong, Row, Text, fault_of, first_of, one_of, subcommand_of}
use Rattle.clap.specs.declared.error.kind.ErrorKind.{ErrorKind}
use Rattle.clap.specs.declared.error.kind.ErrorKind.TheVariants.{DisplayHelp, DisplayVersion}
use Rattle.gf_command.specs.CommandLine.{program}
use Rattle.gf_command.specs.Spelling.{SpellsId, SpellsPoint}
use Rattle.gf_plane.specs.declared.point.Point.{Point}
use Rattle.gf_ops.specs.declared.op.OpId.{OpId}
use Rattle.gf_scanline.specs.Frames.{Sides}
use Rattle.gf_scanline.specs.Windows.{View}
use Rattle.gf_json.specs.declared.notation.Notation.{Notation}
use Rattle.gf_json.specs.declared.notation.Notation.TheVariants.{Json, Words}
use Rattle.gf_studio.specs.declared.inspecting.Inspection.{Inspection}
use Rattle.gf_studio.specs.declared.inspecting.Query.{Query}
use Rattle.gf_studio.specs.declared.inspecting.Query.TheVariants.{All, At, Object, Several}
use Rattle.gf_studio.specs.declared.painting.Extent.{Extent}
use Rattle.gf_studio.specs.declared.painting.Extent.TheVariants as extent
use Rattle.gf_command.specs.declared.runs.Asked.{Asked}
use Rattle.gf_command.specs.declared.runs.Asked.TheVariants as asked
use Rattle.gf_command.specs.declared.runs.Mistake.{Mistake}
use Rattle.gf_command.specs.declared.runs.Mistake.TheVariants as mistake
use Rattle.gf_command.specs.declared.runs.QueryFault.{QueryFault}
use Rattle.gf_command.specs.declared.runs.QueryFault.TheVariants.{NotOne, Unreadable}
use Rattle.gf_command.specs.declared.runs.Workers.{Workers}
use Rattle.gf_command.specs.declared.runs.Editor.{Editor}
use Rattle.gf_command.specs.declared.runs.Canvas.{Canvas}
use Rattle.gf_command.specs.declared.runs.Run.{Run}
use Rattle.gf_command.specs.declared.runs.Run.TheVariants.{Fig, NamedFig, Paint, Repaint}
use Rattle.gf_command.specs.declared.runs.Run.TheVariants.{Inspect, Import, Edit, Take, Status}
use Rattle.gf_command.specs.declared.runs.Run.TheVariants.{Check, Serve, Session}

-- in these rows the option has a text, given or by default, whose number is n
pub record HasNatural (rows : List Row) (name : Text) (n : ℕ) : Type 0 where
  pub text : Text
  pub given : one_of name rows ≡ Some text
  pub value : n ≡ digits_value 10 (without_leading_plus text)

-- n is the number of the text, or the other number where there is no text
abbrev pub IsNaturalOr : ℕ → Option Text → ℕ → Type 0
IsNaturalOr other text n =
    MatchOption text (n ≡ other) (λ t. n ≡ digits_value 10 (without_leading_plus t))

-- z is the number of the text, or the other number where there is no text
abbrev pub IsWholeOr : ℤ → Option Text → ℤ → Type 0
IsWholeOr other text z = MatchOption text (z ≡ other) (λ t. z ≡ signed_digits_value 10 t)

-- n is the number that the option has in these rows, or the other number where it is not given
abbrev pub HasNaturalOr : ℕ → List Row → Text → ℕ → Type 0
HasNaturalOr other rows name = IsNaturalOr other (first_of name rows)

-- z is the number that the option has in these rows, or the other number where it is not given
abbrev pub HasWholeOr : ℤ → List Row → Text → ℤ → Type 0
HasWholeOr other rows name = IsWholeOr other (first_of name rows)

-- n is the number of the text, and none where there is no text
abbrev pub IsNaturalOrNone : Option Text → Option ℕ → Type 0
IsNaturalOrNone text n =
    MatchOption text (n ≡ None) (λ t. n ≡ Some (digits_value 10 (without_leading_plus t)))

-- n is the number that the option has in these rows, and none where it is not given
abbrev pub HasNaturalOrNone : List Row → Text → Option ℕ → Type 0
HasNaturalOrNone rows name = IsNaturalOrNone (first_of name rows)

-- in these rows the option is given
abbrev pub is_given : Text → List Row → Bool
is_given name rows = is_some (first_of name rows)

-- the text is that of a flag that is given
abbrev pub is_true : Option Text → Bool
is_true None = false
is_true (Some text) = bytes_eq text (codes "true")

-- in these rows the flag is given, which takes no text
abbrev pub has_flag : Text → List Row → Bool
has_flag name rows = is_true (first_of name rows)

-- the options of these rows have the numbers of the window
pub record IsWindow (rows : List Row) (w : View) : Type 0 where
  pub x : HasWholeOr (pos 0) rows (codes "x") w.x
  pub y : HasWholeOr (pos 0) rows (codes "y") w.y
  pub step : HasNaturalOr 1 rows (codes "step") w.step
  pub width : HasNatural rows (codes "width") w.width
  pub height : HasNatural rows (codes "height") w.height

-- the options of these rows have the numbers of the frame
pub record IsFrame (rows : List Row) (frame : Sides) : Type 0 where
  pub width : HasNatural rows (codes "width") frame.width
  pub height : HasNatural rows (codes "height") frame.height

-- in these rows an option is given that places a window
abbrev pub is_placed : List Row → Bool
is_placed rows =
    is_given (codes "x") rows || is_given (codes "y") rows || is_given (codes "step") rows

-- the window that is to fit is placed too
abbrev pub is_placed_fit : List Row → Bool
is_placed_fit rows = has_flag (codes "fit") rows && is_placed rows

-- the options of these rows ask for this part of the plane
abbrev pub IsExtent : List Row → Extent → Type 0
IsExtent rows (extent.Window w) = (has_flag (codes "fit") rows ≡ false) × IsWindow rows w
IsExtent rows (extent.Fitted frame) = IsTrue (has_flag (codes "fit") rows) × IsFrame rows frame

-- in these rows the option for the workers has their count
abbrev pub HasWorkers : List Row → Workers → Type 0
HasWorkers rows workers = HasNatural rows (codes "workers") workers.count

-- the options of these rows have what the canvas has, and no window that fits is placed
pub record IsCanvas (rows : List Row) (canvas : Canvas) : Type 0 where
  pub extent : IsExtent rows canvas.extent
  pub unplaced : is_placed_fit rows ≡ false
  pub workers : HasWorkers rows canvas.workers

-- the options of these rows ask for this FIG text
abbrev pub IsFig : List Row → Run → Type 0
IsFig rows (Fig workers) = (has_flag (codes "named") rows ≡ false) × HasWorkers rows workers
IsFig rows (NamedFig workers) = IsTrue (has_flag (codes "named") rows) × HasWorkers rows workers
IsFig rows other = ⊥

-- the options of these rows ask for this take
abbrev pub IsTake : List Row → Run → Type 0
IsTake rows (Take editor after named workers) =
    HasNatural rows (codes "site") editor.site × HasNaturalOrNone rows (codes "after") after
    × (named ≡ has_flag (codes "named") rows) × HasWorkers rows workers
IsTake rows other = ⊥

-- the editor is the site of this number
abbrev pub IsEditorOf : ℕ → Option Editor → Type 0
IsEditorOf n editor = MatchOption editor ⊥ (λ e. e.site ≡ n)

-- the editor is the site of the text's number, and none where there is no text
abbrev pub IsEditorOrNone : Option Text → Option Editor → Type 0
IsEditorOrNone text editor = MatchOption text (editor ≡ None)
    (λ t. IsEditorOf (digits_value 10 (without_leading_plus t)) editor)

-- the editor is the site that these rows have, and none where they have none
abbrev pub IsChecked : List Row → Option Editor → Type 0
IsChecked rows = IsEditorOrNone (first_of (codes "site") rows)

-- a query, or why there is none
abbrev pub AskedQuery : Type 0
AskedQuery = Result Query QueryFault

-- the text names no objects: it is none of the two words, and spells no id
pub record NamesNone (text : Text) : Type 0 where
  pub not_all : bytes_eq text (codes "all") ≡ false
  pub not_several : bytes_eq text (codes "several") ≡ false
  pub no_id : (i : OpId) → ¬ (SpellsId text i)

-- what the text of objects asks for
abbrev pub AsksObject : Text → AskedQuery → Type 0
AsksObject text (Ok All) = IsTrue (bytes_eq text (codes "all"))
AsksObject text (Ok Several) = IsTrue (bytes_eq text (codes "several"))
AsksObject text (Ok (Object o)) = SpellsId text o.0
AsksObject text (Err Unreadable) = NamesNone text
AsksObject text other = ⊥

-- what the text of a point asks for
abbrev pub AsksPoint : Text → AskedQuery → Type 0
AsksPoint text (Ok (At p)) = SpellsPoint text p
AsksPoint text (Err Unreadable) =
    (p : Point) → FitsSigned w32 p.x → FitsSigned w32 p.y → ¬ (SpellsPoint text p)
AsksPoint text other = ⊥

-- what the texts of an object and of a point ask for, of which one is to be given
abbrev pub AsksQuery : Option Text → Option Text → AskedQuery → Type 0
AsksQuery (Some text) None answer = AsksObject text answer
AsksQuery None (Some text) answer = AsksPoint text answer
AsksQuery None None answer = answer ≡ Err NotOne
AsksQuery (Some object) (Some point) answer = answer ≡ Err NotOne

-- what the rows of the command `inspect` ask for
abbrev pub IsInspected : List Row → AskedQuery → Type 0
IsInspected rows = AsksQuery (first_of (codes "object") rows) (first_of (codes "at") rows)

-- the notation that these rows ask for
abbrev pub asked_notation : List Row → Notation
asked_notation rows = cond (has_flag (codes "json") rows) Json Words

-- what the rows of the command `inspect` ask for, and in which notation
abbrev pub IsInspection : List Row → Result Inspection QueryFault → Type 0
IsInspection rows (Ok i) = IsInspected rows (Ok i.query) × (i.notation ≡ asked_notation rows)
IsInspection rows (Err fault) = IsInspected rows (Err fault)

-- the command of this name was given, with rows of which P holds
abbrev pub Meets : Option (Text × List Row) → Text → (List Row → Type 0) → Type 0
Meets met name P = (rows : List Row) × (met ≡ Some (name, rows)) × P rows

-- the run that a command asks for, given with its rows
abbrev pub AsksRun : Option (Text × List Row) → Run → Type 0
AsksRun met (Fig workers) = Meets met (codes "fig") (λ rows. IsFig rows (Fig workers))
AsksRun met (NamedFig workers) = Meets met (codes "fig") (λ rows. IsFig rows (NamedFig workers))
AsksRun met (Paint canvas) = Meets met (codes "paint") (λ rows. IsCanvas rows canvas)
AsksRun met (Repaint canvas) = Meets met (codes "repaint") (λ rows. IsCanvas rows canvas)
AsksRun met (Inspect inspection workers) =
    Meets met (codes "inspect") (λ rows. IsInspection rows (Ok inspection)
    × HasWorkers rows workers)
AsksRun met (Import editor) =
    Meets met (codes "import") (λ rows. HasNatural rows (codes "site") editor.site)
AsksRun met (Edit editor) =
    Meets met (codes "edit") (λ rows. HasNatural rows (codes "site") editor.site)
AsksRun met (Take editor after named workers) =
    Meets met (codes "take") (λ rows. IsTake rows (Take editor after named workers))
AsksRun met (Status check notation workers) =
    Meets met (codes "status") (λ rows. (check ≡ has_flag (codes "check") rows)
    × (notation ≡ asked_notation rows) × HasWorkers rows workers)
AsksRun met (Check editor) = Meets met (codes "check") (λ rows. IsChecked rows editor)
AsksRun met (Session sites) =
    Meets met (codes "session") (λ rows. HasNatural rows (codes "sites") sites)
AsksRun met (Serve workers) = Meets met (codes "serve") (λ rows. HasWorkers rows workers)

-- what is asked for by the command that was met, or why nothing is
abbrev pub IsAsked : Option (Text × List Row) → Asked → Type 0
IsAsked met (asked.Run run) = AsksRun met run
IsAsked met (asked.Mistake mistake.PlacedFit) =
    (name : Text) × Meets met name (λ rows. IsTrue (is_placed_fit rows))
IsAsked met (asked.Mistake (mistake.Query fault)) =
    Meets met (codes "inspect") (λ rows. IsInspection rows (Err fault))

-- clap takes the words
abbrev pub AreTaken : List Text → Type 0
AreTaken words = fault_of program words ≡ []

-- the words ask for this run
abbrev pub Asks : List Text → Run → Type 0
Asks words run = AreTaken words × AsksRun (subcommand_of program words) run

-- what the words tell: a run, or a mistake in its options
abbrev pub AsksFor : List Text → Asked → Type 0
AsksFor words asked = AreTaken words × IsAsked (subcommand_of program words) asked

-- the words ask for the help or the version
pub record AsksHelp (words : List Text) : Type 0 where
  pub kind : ErrorKind
  pub among : IsAmong kind (fault_of program words)
  pub told : (kind ≡ DisplayHelp) ⊎ (kind ≡ DisplayVersion)

-- clap refuses the words
pub record AreRefused (words : List Text) : Type 0 where
  pub kind : ErrorKind
  pub among : IsAmong kind (fault_of program words)
  pub no_help : kind ≢ DisplayHelp
  pub no_version : kind ≢ DisplayVersion

-- the words ask for nothing: clap refuses them, or there is a mistake in their options
abbrev pub AreMistaken : List Text → Type 0
AreMistaken words =
    AreRefused words ⊎ ((mistake : Mistake) × AsksFor words (asked.Mistake mistake))
