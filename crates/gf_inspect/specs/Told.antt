-- What is told of the versions of objects, and of what is on top, in words or as JSON (this
-- project's choice).
use Rattle.std.specs.Prelude.{◌≡◌, ◌≤◌, ◌<◌, ◌&&◌, ℕ, nat_le, Bool, false, IsTrue, List, []}
use Rattle.std.specs.Prelude.{◌∷◌, ◌++◌, Option, flat_map}
use Rattle.gf_json.specs.declared.notation.Notation.{Notation}
use Rattle.gf_json.specs.declared.notation.Notation.TheVariants.{Json, Words}
use Rattle.gf_json.specs.Notations.{json_line}
use Rattle.gf_plane.specs.declared.point.Point.{Point}
use Rattle.gf_ops.specs.declared.op.Op.{Op}
use Rattle.gf_ops.specs.declared.op.OpId.{OpId}
use Rattle.gf_ops.specs.declared.op.ObjectId.{ObjectId}
use Rattle.gf_names.specs.Objects.{AreObjects}
use Rattle.gf_listing.specs.Counting.{IsCount}
use Rattle.gf_versions.specs.declared.key.Version.{Version}
use Rattle.gf_versions.specs.declared.ranking.TheConstants.{MOST_VERSIONS}
use Rattle.gf_inspect.specs.declared.top.VersionName.{VersionName}
use Rattle.gf_inspect.specs.ObjectVersions.{AreVersionsOf}
use Rattle.gf_inspect.specs.VersionJson.{many_data, top_data, version_data}
use Rattle.gf_inspect.specs.VersionLines.{many_line, top_line, version_line}

-- the line of a version
abbrev pub told_version : Notation → Version → List ℕ
told_version Words v = version_line v
told_version Json v = json_line (version_data v)

-- the line that the object o has more than 1,000 versions
abbrev pub told_many : Notation → ObjectId → List ℕ
told_many Words o = many_line o
told_many Json o = json_line (many_data o)

-- the line of what is on top at the point p
abbrev pub told_top : Notation → Point → Option VersionName → List ℕ
told_top Words p name = top_line p name
told_top Json p name = json_line (top_data p name)

-- the text has a line for each version of the object o, in their order
pub record TellsVersions (n : Notation) (h : List Op) (o : ObjectId) (text : List ℕ) : Type 0 where
  pub versions : List Version
  pub all : AreVersionsOf h o versions
  pub is : text ≡ flat_map (told_version n) versions

-- only objects with several versions are asked for, and one with this count has no more than one
abbrev pub is_left_out : Bool → ℕ → Bool
is_left_out several count = several && nat_le count 1

-- the text tells the versions of the object o, if these are at most 1,000, and nothing where it is
-- left out
pub record TellsObject (n : Notation) (h : List Op) (several : Bool) (o : ObjectId)
    (text : List ℕ) : Type 0 where
  pub count : ℕ
  pub counted : IsCount h o count
  pub left_out : IsTrue (is_left_out several count) → text ≡ []
  pub few : is_left_out several count ≡ false → count ≤ MOST_VERSIONS → TellsVersions n h o text
  pub many : MOST_VERSIONS < count → text ≡ told_many n o

-- the text tells the objects under these ids, one after the other
pub data TellsEach (n : Notation) (h : List Op) (several : Bool)
    : List OpId → List ℕ → Type 0 where
  none : TellsEach n h several [] []
  next : (ids : List OpId) (o : ObjectId) (text more : List ℕ) → TellsEach n h several ids text
      → TellsObject n h several o more → TellsEach n h several (ids ++ o.0 ∷ []) (text ++ more)

-- the text tells all objects of h, rising by id
pub record TellsObjects (n : Notation) (h : List Op) (several : Bool) (text : List ℕ) : Type 0 where
  pub ids : List OpId
  pub objects : AreObjects h ids
  pub each : TellsEach n h several ids text
