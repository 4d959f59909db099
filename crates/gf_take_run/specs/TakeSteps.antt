-- What a take makes of what was read. No public clause cites this module.
use Rattle.std.specs.Prelude.{◌≡◌, ◌≢◌, ◌⊎◌, ◌<◌, ◌≤◌, ℕ, List, [], ◌++◌, All}
use Rattle.std.specs.Prelude.{None, Option, Some, length, ⊤}
use Rattle.gf_ops.specs.declared.op.Op.{Op}
use Rattle.gf_ops.specs.declared.op.OpId.{OpId}
use Rattle.gf_ops.specs.declared.op.Clock.{Clock}
use Rattle.gf_ops.specs.declared.change.Change.{Change}
use Rattle.gf_ops.specs.OperationOrder.{IsSite, count_of, entry}
use Rattle.gf_fig_named.specs.ThinPolygons.{AreThinOf}
use Rattle.gf_fig_read.specs.Objects.{Drawn}
use Rattle.gf_run.specs.declared.studio_error.StudioError.TheVariants as studio
use Rattle.gf_fig_read.specs.FaultLines.{BeginsOn}
use Rattle.gf_site.specs.declared.faults.AuthorFault.TheVariants as author
use Rattle.gf_take.specs.Bases.{IsBase}
use Rattle.gf_replay.specs.Denoting.{AreLinesOf}
use Rattle.gf_streams.specs.TextLines.{numbered_lines}
use Rattle.gf_take.specs.ShownDrawing.{LooksLike}
use Rattle.gf_take.specs.Taking.{HasMade, HasRefusal, Takes}
use Rattle.gf_shape.specs.declared.any_shape.AnyShape.{AnyShape}
use Rattle.gf_versions.specs.declared.placed.Ranked.{Ranked}
use Rattle.gf_versions.specs.declared.ranking.TheConstants.{MOST_VERSIONS}
use Rattle.gf_versions.specs.Ranking.{AreRanked}
use Rattle.gf_run.specs.declared.answering.Answer.{Answer}
use Rattle.gf_take_run.specs.declared.behind.MadeBehind.{MadeBehind}
use Rattle.gf_take_run.specs.declared.planning.Making.{Making}
use Rattle.gf_take_run.specs.declared.taken.Taken.{Taken}
use Rattle.gf_take_run.specs.declared.drawing_error.DrawingError.{DrawingError}
use Rattle.gf_take_run.specs.declared.drawing_error.DrawingError.TheVariants as error
use Rattle.gf_take_run.specs.declared.counting.Counts.{Counts}
use Rattle.gf_take_run.specs.declared.making.MadeFrom.{MadeFrom}
use Rattle.gf_take_run.specs.ChangedObjects.{MayChange}
use Rattle.gf_take_run.specs.LeftObjects.{LeavesStanding}
use Rattle.gf_take_run.specs.ShownText.{IsShownText}
use Rattle.gf_take_run.specs.declared.request.TakeRequest.{TakeRequest}
use Rattle.gf_take_run.specs.TakenBehind.{TakesBehind}
use Rattle.gf_take_run.specs.ToldNumbers.{CountsObjects, alters, creates, hides}
use Rattle.gf_take_run.specs.declared.take_run_error.TakeRunError.{TakeRunError}
use Rattle.gf_take_run.specs.declared.take_run_error.TakeRunError.TheVariants as refused
use Rattle.gf_take_run.specs.KnownHistory.{IsAbsent, IsNewer}
use Rattle.gf_take_run.specs.TakeRun.{BreaksLimit, GoesBeyond, HasBase, HasNewer, IsExhausted}
use Rattle.gf_take_run.specs.TakeRun.{IsBehind, LooksOtherwise, ShowsMany, StaysWithin}

-- site s makes new operations behind its base b, each of an object that b shows or the text names,
-- and shows the drawing. It makes none where b looks like the drawing, or has more than so many of
-- the site
pub record TakesFrom (s : ℕ) (after : Option ℕ) (b : List Op) (fig : List ℕ) (drawing : Drawn)
    (new : List Op) : Type 0 where
  pub changes : List Change
  pub takes : Takes s b changes new drawing
  pub may : All (MayChange b fig) changes
  pub standing : All (LeavesStanding b fig drawing) changes
  pub same : LooksLike b drawing → new ≡ []
  pub within : StaysWithin s after b new

-- shown are the visible versions of h, ranked, and no more than a drawing has
pub record AreListed (h : List Op) (shown : Ranked AnyShape) : Type 0 where
  pub ranked : AreRanked h shown.items.items
  pub few : length shown.items.items ≤ MOST_VERSIONS

-- site s made the operations of m behind its base b
pub record IsMaking (s : ℕ) (b : List Op) (m : Making) : Type 0 where
  pub changes : List Change
  pub made : HasMade s b changes m.site m.ops.items

-- old becomes new, and shows these versions; without any nothing was made
abbrev pub AreListedBehind : Making → Making → Option (Ranked AnyShape) → Type 0
AreListedBehind old new None = new ≡ old
AreListedBehind old new (Some shown) = AreListed new.site.ops shown

-- behind the base b, which site s has, what was made shows the drawing
pub record MakesOther (s : ℕ) (b : List Op) (fig : List ℕ) (drawing : Drawn) (made : MadeFrom)
    : Type 0 where
  pub changes : List Change
  pub takes : Takes s b changes made.ops.items drawing
  pub may : All (MayChange b fig) changes
  pub standing : All (LeavesStanding b fig drawing) changes
  pub site : made.site.ops ≡ b ++ made.ops.items
  pub listed : AreListed made.site.ops made.shown

-- what is made of a drawing, what the site then shows, and the polygons of the base b that xfig
-- does not keep
pub record MakesFrom (s : ℕ) (after : Option ℕ) (b : List Op) (fig : List ℕ) (drawing : Drawn)
    (made : MadeFrom) : Type 0 where
  pub taken : TakesFrom s after b fig drawing made.ops.items
  pub site : made.site.ops ≡ b ++ made.ops.items
  pub listed : AreListed made.site.ops made.shown
  pub thin : AreThinOf b made.thin.items

-- what is made of a drawing behind what it knew of h, and the named text of all operations, where
-- it was asked for
pub record MakesBehind (q : TakeRequest) (h : List Op) (fig : List ℕ) (drawing : Drawn)
    (knew : Clock) (made : MadeBehind) : Type 0 where
  pub base : List Op
  pub is_base : IsBase q.site knew h base
  pub taken : TakesFrom q.site q.after base fig drawing made.ops.items
  pub site : made.site.ops ≡ h ++ made.ops.items
  pub thin : AreThinOf base made.thin.items
  pub text : IsShownText q.named (h ++ made.ops.items) made.text.items

-- the operations are counted
pub record AreCounted (new : List Op) (counts : Counts) : Type 0 where
  pub changed : CountsObjects alters new counts.changed
  pub hidden : CountsObjects hides new counts.hidden
  pub drawn : CountsObjects creates new counts.drawn

-- why site s makes nothing of the drawing behind its base
abbrev pub RefusesBase : ℕ → Option ℕ → List Op → List ℕ → Drawn → DrawingError → Type 0
RefusesBase s after b fig drawing error.OutOfMemory = ⊤
RefusesBase s after b fig drawing error.TooManyFigures = ShowsMany b drawing
RefusesBase s after b fig drawing (error.Figure broken) =
    GoesBeyond broken.object broken.fault b drawing × BeginsOn fig broken.object broken.line
RefusesBase s after b fig drawing error.Exhausted = IsExhausted s b drawing
RefusesBase s after b fig drawing error.Differs = LooksOtherwise b drawing
RefusesBase s after b fig drawing (error.Absent i) = ⊥
RefusesBase s after b fig drawing (error.Older i j) = ⊥
RefusesBase s after b fig drawing (error.Behind i) = IsBehind s after i b drawing

-- why the site takes nothing of the drawing, which reads so
abbrev pub RefusesDrawing : TakeRequest → List Op → List ℕ → Drawn → Clock → DrawingError → Type 0
RefusesDrawing q h fig drawing knew error.OutOfMemory = ⊤
RefusesDrawing q h fig drawing knew (error.Absent i) = IsAbsent knew h i
RefusesDrawing q h fig drawing knew (error.Older i j) = HasNewer q.site i j h drawing knew
RefusesDrawing q h fig drawing knew error.TooManyFigures = HasBase q.site ShowsMany h drawing knew
RefusesDrawing q h fig drawing knew (error.Figure broken) =
    HasBase q.site (GoesBeyond broken.object broken.fault) h drawing knew
    × BeginsOn fig broken.object broken.line
RefusesDrawing q h fig drawing knew (error.Behind i) =
    HasBase q.site (IsBehind q.site q.after i) h drawing knew
RefusesDrawing q h fig drawing knew error.Exhausted =
    HasBase q.site (IsExhausted q.site) h drawing knew
RefusesDrawing q h fig drawing knew error.Differs =
    HasBase q.site LooksOtherwise h drawing knew

-- i is the last operation of site s in the base, of which there are more than so many
pub record IsBeyondMost (s : ℕ) (after : Option ℕ) (base : List Op) (i : OpId) : Type 0 where
  pub most : ℕ
  pub asked : after ≡ Some most
  pub more : most < count_of base s
  pub last : i ≡ record { site = s; seq = count_of base s }

-- site s makes no more operations behind some that it makes behind its base b
pub record RunsOut (s : ℕ) (b : List Op) : Type 0 where
  pub changes : List Change
  pub refused : HasRefusal s b changes author.Exhausted

-- why site s makes nothing by which a base that looks otherwise shows the drawing
abbrev pub RefusesPlan : ℕ → List Op → List ℕ → Drawn → DrawingError → Type 0
RefusesPlan s b fig drawing error.OutOfMemory = ⊤
RefusesPlan s b fig drawing error.Differs = ⊤
RefusesPlan s b fig drawing error.Exhausted = RunsOut s b
RefusesPlan s b fig drawing (error.Figure broken) =
    BreaksLimit broken.object broken.fault drawing × BeginsOn fig broken.object broken.line
RefusesPlan s b fig drawing error.TooManyFigures = ⊥
RefusesPlan s b fig drawing (error.Absent i) = ⊥
RefusesPlan s b fig drawing (error.Older i j) = ⊥
RefusesPlan s b fig drawing (error.Behind i) = ⊥

-- site q.site has a base of h behind which it makes nothing of the drawing, for this
pub record RefusesBehindBase (q : TakeRequest) (h : List Op) (fig : List ℕ) (drawing : Drawn)
    (knew : Clock) (e : DrawingError) : Type 0 where
  pub base : List Op
  pub is_base : IsBase q.site knew h base
  pub refused : RefusesBase q.site q.after base fig drawing e

-- why nothing is made of the drawing behind what it knew of h; want of memory may come with any
abbrev pub RefusesBehind : TakeRequest → List Op → List ℕ → Drawn → Clock → DrawingError → Type 0
RefusesBehind q h fig drawing knew e =
    (e ≡ error.OutOfMemory) ⊎ RefusesBehindBase q h fig drawing knew e

-- what is told of a fault of the drawing
abbrev pub told : DrawingError → TakeRunError
told error.OutOfMemory = refused.Run studio.OutOfMemory
told (error.Absent i) = refused.Absent i
told (error.Older i j) = refused.Older i j
told error.TooManyFigures = refused.TooManyFigures
told (error.Figure broken) = refused.Figure broken
told (error.Behind i) = refused.Behind i
told error.Exhausted = refused.Exhausted
told error.Differs = refused.Differs

-- why a site refuses a drawing for what it knew
abbrev pub RefusesKnown : ℕ → List Op → Clock → DrawingError → Type 0
RefusesKnown s h knew (error.Absent i) = IsAbsent knew h i
RefusesKnown s h knew (error.Older i j) = (drawing : Drawn) → HasNewer s i j h drawing knew
RefusesKnown s h knew other = ⊥

-- of h, the operation a of site s came after the drawing, and knows one under the id i of another
-- site, which the drawing did not know
pub record IsNewerThan (s : ℕ) (knew : Clock) (h : List Op) (a : Op) (i : OpId) : Type 0 where
  pub known : Op
  pub newer : IsNewer s knew h a known
  pub id : i ≡ known.id

-- i is the last operation that the clock past counts of a site other than s, and known counts fewer
pub record IsBeyond (s : ℕ) (past known : Clock) (i : OpId) : Type 0 where
  pub site : IsSite i.site
  pub other : i.site ≢ s
  pub last : i.seq ≡ entry past i.site
  pub fewer : entry known i.site < i.seq

-- the site takes of the lines and the FIG text what is written and told
pub record TakesParts (q : TakeRequest) (lines fig : List ℕ) (t : Answer Taken) : Type 0 where
  pub ops : List Op
  pub denoted : AreLinesOf (numbered_lines lines) ops
  pub history : List Op
  pub new : List Op
  pub takes : TakesBehind q ops history fig new t
