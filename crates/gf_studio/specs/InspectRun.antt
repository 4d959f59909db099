-- What the inspecting run writes: the versions of one object or of many, or the version on top at a
-- point (this project's choice).
use Rattle.std.specs.Prelude.{◌≡◌, ℕ, true, false, List, Option}
use Rattle.gf_json.specs.declared.notation.Notation.{Notation}
use Rattle.gf_plane.specs.declared.point.Point.{Point}
use Rattle.gf_ops.specs.declared.op.Op.{Op}
use Rattle.gf_ops.specs.declared.op.ObjectId.{ObjectId}
use Rattle.gf_groups.specs.Versions.{IsMade}
use Rattle.gf_inspect.specs.declared.top.VersionName.{VersionName}
use Rattle.gf_inspect.specs.Told.{TellsObjects, TellsVersions, told_top}
use Rattle.gf_inspect.specs.TopVersion.{NamesTop}
use Rattle.gf_studio.specs.declared.inspecting.Inspection.{Inspection}
use Rattle.gf_studio.specs.declared.inspecting.Query.{Query}
use Rattle.gf_studio.specs.declared.inspecting.Query.TheVariants as asked
use Rattle.gf_studio.specs.FigRun.{DenotesSuch}
use Rattle.gf_run.specs.RunAnswers.{WritesText}

-- h has no operation that made the object o
abbrev pub IsMissing : List Op → ObjectId → Type 0
IsMissing h o = ¬ (IsMade h o)

-- the object o is not missing, and the text has a line for each version of it, in their order
abbrev pub TellsPresent : Notation → List Op → ObjectId → List ℕ → Type 0
TellsPresent n h o text = (¬ (IsMissing h o)) × TellsVersions n h o text

-- the text is the line of what is on top at p
pub record TellsTop (n : Notation) (h : List Op) (p : Point) (text : List ℕ) : Type 0 where
  pub name : Option VersionName
  pub top : NamesTop h p name
  pub is : text ≡ told_top n p name

-- the text answers the query about h
abbrev pub Tells : Notation → List Op → Query → List ℕ → Type 0
Tells n h (asked.Object o) text = TellsPresent n h o text
Tells n h asked.Several text = TellsObjects n h true text
Tells n h asked.All text = TellsObjects n h false text
Tells n h (asked.At p) text = TellsTop n h p text

-- the text answers the query about the history that the bytes denote
abbrev pub AnswersQuery : Inspection → List ℕ → List ℕ → Type 0
AnswersQuery i bytes text = DenotesSuch bytes (λ h. Tells i.notation h i.query text)

-- known bytes grow from old to new by a text that answers the query about what the bytes denote
abbrev pub WritesAnswer : Inspection → List ℕ → Option (List ℕ) → Option (List ℕ) → Type 0
WritesAnswer i bytes old new = WritesText (AnswersQuery i bytes) old new
