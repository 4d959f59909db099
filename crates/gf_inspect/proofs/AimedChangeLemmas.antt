-- The change that aims at the version on top: its object is known, and its aim is one.
use Rattle.std.proofs.Common.{◌≡◌, List, refl, sym, subst, ap, ◌∙◌, arith}
use Rattle.std.specs.Prelude.{Contains, Option, Some, None, IsSome, option_map}
use Rattle.gf_plane.specs.declared.point.Point.{Point}
use Rattle.gf_ops.specs.declared.op.Op.{Op}
use Rattle.gf_ops.specs.declared.op.OpId.{OpId}
use Rattle.gf_ops.specs.declared.op.ObjectId.{ObjectId}
use Rattle.gf_ops.specs.declared.change.Change.{Change}
use Rattle.gf_ops.specs.declared.change.Change.TheVariants.{Set}
use Rattle.gf_ops.specs.declared.change.Value.{Value}
use Rattle.gf_ops.specs.Aims.{IsAimed}
use Rattle.gf_ops.specs.Attribute.{Kind, changed_object, change_aim, made_kind}
use Rattle.gf_ops.specs.KnownObject.{KnowsSome, IsFounded}
use Rattle.gf_ops.specs.OperationOrder.{Precedes}
use Rattle.gf_ops.specs.ValidHistory.{IsValid}
use Rattle.gf_ops.specs.Version.{IsVersion}
use Rattle.gf_ops.proofs.AimedLemmas.{version_aimed}
use Rattle.gf_ops.proofs.CountedLemmas.{number_counted}
use Rattle.gf_ops.proofs.HistoryLemmas.{site_in_range}
use Rattle.gf_versions.specs.declared.key.Version.{Version}
use Rattle.gf_versions.specs.HistoryColour.{IsTopAt}
use Rattle.gf_inspect.specs.declared.top.VersionName.{VersionName}
use Rattle.gf_inspect.specs.AimedChange.{AimsAtTop, aimed, nowhere, aimed_change, IsCounts}
use Rattle.gf_inspect.specs.TopVersion.{NamesTop, top, blank}

-- ---- by the name of the version on top

pub aims_by_name : (h : List Op) (p : Point) (v : Value) (o : Option VersionName) → NamesTop h p o
    → AimsAtTop h p v (option_map (aimed_change v) o)
aims_by_name h p v o (top w t) = aimed w t
aims_by_name h p v o (blank none) = nowhere none

-- the version that a change aims at
record Target (h : List Op) (p : Point) (v : Value) (c : Change) : Type 0 where
  version : Version
  top : IsTopAt h p version
  change : c ≡ Set version.key.object v version.key.ops

target_of : (h : List Op) (p : Point) (v : Value) (o : Option Change) → AimsAtTop h p v o
    → (c : Change) → o ≡ Some c → Target h p v c
target_of h p v o (aimed w t) c e =
    let same : Set w.key.object v w.key.ops ≡ c = cc in
    record { version = w; top = t; change = sym same }
target_of h p v o (nowhere none) c e = absurd cc

-- ---- the object and the aim

-- an operation under the counts of a history knows all of it
knows_all : (h : List Op) → IsValid h → (a : Op) → IsCounts a.past h → (x : Op) → Contains h x
    → Precedes x a
knows_all h valid a counts x m =
    let n = number_counted h valid x m in
    let e = counts x.id.site (site_in_range x (valid.in_range x m)) in omega (arith, n, e)

kind_in : (o : Option Kind) → IsSome o → (k : Kind) × (o ≡ Some k)
kind_in (Some k) s = (k, refl)
kind_in None s = absurd cc

knows_object : (h : List Op) → IsValid h → (o : ObjectId) (g : List OpId) → IsVersion h o g
    → (a : Op) → IsCounts a.past h → KnowsSome h a o
knows_object h valid o g v a counts =
    let made = kind_in (made_kind v.created.op.change) v.makes in
    record {
      kind = made.0;
      known = record {
        made = record {
          op = v.created.op;
          contained = v.created.contained;
          id = v.created.id;
          such = made.1;
        };
        before = knows_all h valid a counts v.created.op v.created.contained;
      };
    }

pub top_founded : (h : List Op) → IsValid h → (p : Point) (v : Value) (c : Change)
    → AimsAtTop h p v (Some c) → (a : Op) → a.change ≡ c → IsCounts a.past h
    → IsFounded h a a.change
top_founded h valid p v c t a same counts =
    let target = target_of h p v (Some c) t c refl in
    let version = target.top.seen.visible.version.version in
    subst (IsFounded h a) (sym (same ∙ target.change))
    (knows_object h valid target.version.key.object target.version.key.ops version a counts)

pub top_aimed : (h : List Op) → IsValid h → (p : Point) (v : Value) (c : Change)
    → AimsAtTop h p v (Some c) → (a : Op) → a.change ≡ c → IsCounts a.past h → IsAimed h a
top_aimed h valid p v c t a same counts =
    let target = target_of h p v (Some c) t c refl in
    let version = target.top.seen.visible.version.version in
    let change = same ∙ target.change in
    version_aimed h valid target.version.key.object target.version.key.ops version a
    (ap (λ (d : Change). change_aim d) change) (ap (λ (d : Change). changed_object a.id d) change)
    (knows_all h valid a counts)
