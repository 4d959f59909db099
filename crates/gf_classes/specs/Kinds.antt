-- Setters in classes by their rivals. No public clause cites this module.
use Rattle.std.specs.Prelude.{map, ◌≡◌, ◌≢◌, ◌↔◌, ◌⊎◌, ℕ, ◌<◌, ◌≤◌, List, [], ◌∷◌, ◌++◌, length}
use Rattle.std.specs.Prelude.{Contains}
use Rattle.std.specs.Prelude.{Option, Some, None, slice_get, slice_set, slice_index_or}
use Rattle.std.specs.Prelude.{Bool, false, ◌==◌, ◌&&◌, bytes_eq}
use Rattle.gf_maximal.specs.declared.run.Run.{Run}
use Rattle.gf_ops.specs.declared.op.Op.{Op}
use Rattle.gf_classes.specs.declared.setters.Setter.{Setter}
use Rattle.gf_classes.specs.declared.kinds.Kind.{Kind}
use Rattle.gf_classes.specs.Ranges.{HasRank}
use Rattle.gf_classes.specs.Rivals.{IsRival, AreRivalRanks}
use Rattle.gf_classes.specs.Fingerprints.{are_same}
use Rattle.gf_classes.specs.declared.fingerprint.Fingerprint.{Fingerprint}
use Rattle.gf_classes.specs.declared.rival_ranks.RivalRanks.{RivalRanks}

-- the class k has these rivals and this hiding site
pub record IsKind (ks : List Kind) (k site : ℕ) (found : RivalRanks) : Type 0 where
  pub kind : Kind
  pub at : slice_get ks k ≡ Some kind
  pub hiding : kind.hiding ≡ site
  pub ranks : kind.rival_ranks.ranks ≡ found.ranks
  pub except : kind.rival_ranks.except ≡ found.except

-- there is a class, and it has these rivals and this hiding site
abbrev pub is_kind : Option Kind → RivalRanks → ℕ → Bool
is_kind (Some d) found site = d.hiding == site && bytes_eq d.rival_ranks.ranks found.ranks
    && are_same d.rival_ranks.except found.except
is_kind None found site = false

-- new has the class k, with what d has; old has it too, or d itself is the new last class
pub record Finds (old : List Kind) (d : Kind) (new : List Kind) (k : ℕ) : Type 0 where
  pub kind : IsKind new k d.hiding d.rival_ranks
  pub grown : (new ≡ old) ⊎ (new ≡ old ++ d ∷ [])

-- d has the rivals of the setter with its rank, which is below m
pub record IsFirst (h : List Op) (ss : List Setter) (m : ℕ) (d : Kind) : Type 0 where
  pub setter : Setter
  pub at : slice_get ss d.first ≡ Some setter
  pub below : d.first < m
  pub fingerprint : d.fingerprint ≡ setter.fingerprint
  pub hiding : d.hiding ≡ setter.hiding
  pub rivals : AreRivalRanks h ss setter d.rival_ranks.ranks d.rival_ranks.except

-- the first members rise from class to class
abbrev pub AreRising : List Kind → Type 0
AreRising ks = (j k : ℕ) (a b : Kind) → slice_get ks j ≡ Some a → slice_get ks k ≡ Some b
    → j < k → a.first < b.first

-- the class, if it is one, has the rivals of e and its hiding site; if not, e has no rival
abbrev pub Fits : List Op → List Setter → List Kind → Setter → Option ℕ → Type 0
Fits h ss ks e None = (q : ℕ) → ¬ (IsRival h ss e q)
Fits h ss ks e (Some k) = (d : RivalRanks) × AreRivalRanks h ss e d.ranks d.except
    × IsKind ks k e.hiding d

-- new has the class of d, unless that has no rival
abbrev pub Gives : List Kind → Kind → List Kind → Option ℕ → Type 0
Gives old d new None = (d.rival_ranks.ranks ≡ []) × (new ≡ old)
Gives old d new (Some k) = Finds old d new k

-- cs have the class of e at its rank p
pub record FitsAt (h : List Op) (ss : List Setter) (ks : List Kind) (cs : List (Option ℕ)) (p : ℕ)
    (e : Setter) : Type 0 where
  pub class : Option ℕ
  pub at : slice_get cs p ≡ Some class
  pub fits : Fits h ss ks e class

-- ks are the classes of the first m setters, and cs those of each of them
pub record AreKinds (h : List Op) (ss : List Setter) (m : ℕ) (ks : List Kind)
    (cs : List (Option ℕ)) : Type 0 where
  pub firsts : (k : ℕ) (d : Kind) → slice_get ks k ≡ Some d → IsFirst h ss m d
  pub rising : AreRising ks
  pub count : length cs ≡ m
  pub fits : (p : ℕ) (e : Setter) → p < m → slice_get ss p ≡ Some e → FitsAt h ss ks cs p e

-- the first k classes are those whose first member has a rank below n
pub record IsFirstFrom (n : ℕ) (ks : List Kind) (k : ℕ) : Type 0 where
  pub bound : k ≤ length ks
  pub below : (l : ℕ) (d : Kind) → slice_get ks l ≡ Some d → l < k → d.first < n
  pub above : (l : ℕ) (d : Kind) → slice_get ks l ≡ Some d → k ≤ l → n ≤ d.first

-- the fingerprints of the first members
abbrev pub kind_fingerprints : List Kind → List Fingerprint
kind_fingerprints ks = map (λ (d : Kind). d.fingerprint) ks

-- l is a class of which the first member is in g
pub record IsMet (ks : List Kind) (g : List ℕ) (l : ℕ) : Type 0 where
  pub kind : Kind
  pub at : slice_get ks l ≡ Some kind
  pub first : Contains g kind.first

-- l is a class of which the first member is in g and does not have the fingerprint f
pub record IsAmong (ks : List Kind) (g : List ℕ) (f : Option Fingerprint) (l : ℕ) : Type 0 where
  pub kind : Kind
  pub at : slice_get ks l ≡ Some kind
  pub first : Contains g kind.first
  pub other : f ≢ Some kind.fingerprint

-- l is a class of which the first member is in one of the runs
pub record IsWithin (ks : List Kind) (rs : List Run) (l : ℕ) : Type 0 where
  pub kind : Kind
  pub at : slice_get ks l ≡ Some kind
  pub first : HasRank rs kind.first

-- rs have the row of the class k, which is d: the classes of which the first member is a rival
pub record IsRowOf (ks : List Kind) (rs : List (List ℕ)) (k : ℕ) (d : Kind) : Type 0 where
  pub row : List ℕ
  pub at : slice_get rs k ≡ Some row
  pub exact : (l : ℕ) → Contains row l ↔ IsAmong ks d.rival_ranks.ranks d.rival_ranks.except l

-- rs are the rows of the first m classes
pub record AreRowsOf (ks : List Kind) (m : ℕ) (rs : List (List ℕ)) : Type 0 where
  pub count : length rs ≡ m
  pub each : (k : ℕ) (d : Kind) → k < m → slice_get ks k ≡ Some d → IsRowOf ks rs k d

-- the classes with c at the index i, if it is one
abbrev pub put_class : List (Option ℕ) → ℕ → Option ℕ → List (Option ℕ)
put_class us i None = us
put_class us i (Some k) = slice_set us i (Some k)

-- the class k stands at the index i because of a setter
pub record IsPut (ss : List Setter) (cs : List (Option ℕ)) (m i k : ℕ) : Type 0 where
  pub rank : ℕ
  pub below : rank < m
  pub setter : Setter
  pub at : slice_get ss rank ≡ Some setter
  pub index : setter.index ≡ i
  pub given : slice_index_or cs rank None ≡ Some k

-- us has the classes cs of the first m setters at their indices, of which there are n
pub record ArePut (ss : List Setter) (cs : List (Option ℕ)) (m n : ℕ)
    (us : List (Option ℕ)) : Type 0 where
  pub count : length us ≡ n
  pub found : (i k : ℕ) → slice_index_or us i None ≡ Some k → IsPut ss cs m i k
  pub none : (p : ℕ) (e : Setter) → p < m → slice_get ss p ≡ Some e
      → slice_index_or us e.index None ≡ None → slice_index_or cs p None ≡ None

-- d has those classes of c of which the first member does not have the fingerprint f
pub record ButFor (ks : List Kind) (f : Option Fingerprint) (c d : List ℕ) : Type 0 where
  pub within : (l : ℕ) → Contains d l → Contains c l
  pub found : (l : ℕ) (e : Kind) → slice_get ks l ≡ Some e → Contains c l
      → Contains d l ↔ (f ≢ Some e.fingerprint)
