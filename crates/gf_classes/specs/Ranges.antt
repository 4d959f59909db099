-- Which setters of an attribute neither know a setter nor are known by it, as ranges of ranks.
-- No public clause cites this module.
use Rattle.std.specs.Prelude.{◌≡◌, ◌≢◌, ◌↔◌, ℕ, ◌<◌, ◌≤◌, List, length, Contains, Some, slice_get}
use Rattle.std.specs.Prelude.{Bool, true, false, ◌||◌, ◌&&◌, nat_lt}
use Rattle.gf_maximal.specs.declared.run.Run.{Run}
use Rattle.gf_classes.specs.declared.setters.Setter.{Setter}
use Rattle.gf_classes.specs.Setters.{known, key_of}
use Rattle.gf_classes.specs.declared.setters.TheConstants.{BLOCK}

-- neither of two setters of one attribute knows the other
pub record AreApart (x e : Setter) : Type 0 where
  pub other : e.site ≢ x.site
  pub attribute : e.attribute ≡ x.attribute
  pub unknown : known x.past e.site < e.seq
  pub unknowing : known e.past x.site < x.seq

-- the setter stands before the log, whose keys are in the run, or in it and does not know the
-- operation n of the site s + 1
abbrev pub is_unknowing : Run → ℕ → ℕ → Setter → Bool
is_unknowing r s n e = nat_lt e.key r.start || (nat_lt e.key r.end && nat_lt (known e.past s) n)

-- the run has the keys of the setters of one attribute by one site
pub record AreKeysOf (r : Run) : Type 0 where
  pub attribute : ℕ
  pub site : ℕ
  pub within : site < 8
  pub start : r.start ≡ key_of attribute site 0
  pub end : r.end ≡ key_of attribute site BLOCK

-- the test holds of the setters with a rank below k, and of no other
pub record SplitsAt (test : Setter → Bool) (ss : List Setter) (k : ℕ) : Type 0 where
  pub bound : k ≤ length ss
  pub below : (q : ℕ) (e : Setter) → slice_get ss q ≡ Some e → q < k → test e ≡ true
  pub above : (q : ℕ) (e : Setter) → slice_get ss q ≡ Some e → k ≤ q → test e ≡ false

-- r has the ranks of the setters by the site s + 1 that are apart from x
pub record IsRange (ss : List Setter) (x : Setter) (s : ℕ) (r : Run) : Type 0 where
  pub bound : r.end ≤ length ss
  pub found : (q : ℕ) (e : Setter) → slice_get ss q ≡ Some e
      → ((r.start ≤ q) × (q < r.end)) ↔ ((e.site ≡ s) × AreApart x e)

-- one of the runs has q
pub record HasRank (rs : List Run) (q : ℕ) : Type 0 where
  pub run : Run
  pub contained : Contains rs run
  pub from : run.start ≤ q
  pub below : q < run.end

-- but for what cut has, t has what r has
abbrev pub Trims : List Run → Run → Run → Type 0
Trims cut r t = (q : ℕ) → ¬ (HasRank cut q)
    → ((r.start ≤ q) × (q < r.end)) ↔ ((t.start ≤ q) × (q < t.end))

-- but for what cut has, r has the ranks of the setters by the site s + 1 that are apart from x
pub record IsCutRange (ss : List Setter) (x : Setter) (s : ℕ) (cut : List Run)
    (r : Run) : Type 0 where
  pub bound : (q : ℕ) → ¬ (HasRank cut q) → r.start ≤ q → q < r.end → q < length ss
  pub found : (q : ℕ) (e : Setter) → slice_get ss q ≡ Some e → ¬ (HasRank cut q)
      → ((r.start ≤ q) × (q < r.end)) ↔ ((e.site ≡ s) × AreApart x e)

-- but for what cut has, rs have the ranks of the setters by the first m sites that are apart from x
pub record AreRanges (ss : List Setter) (x : Setter) (m : ℕ) (cut rs : List Run) : Type 0 where
  pub bound : (q : ℕ) → ¬ (HasRank cut q) → HasRank rs q → q < length ss
  pub found : (q : ℕ) (e : Setter) → slice_get ss q ≡ Some e → ¬ (HasRank cut q)
      → HasRank rs q ↔ ((e.site < m) × AreApart x e)

-- d are the ranks of the setters that are apart from x
pub record AreNear (ss : List Setter) (x : Setter) (d : List ℕ) : Type 0 where
  pub bound : (q : ℕ) → Contains d q → q < length ss
  pub found : (q : ℕ) (e : Setter) → slice_get ss q ≡ Some e → Contains d q ↔ AreApart x e

-- but for what s has, d are the ranks of the setters that are apart from x
pub record IsCut (ss : List Setter) (x : Setter) (s d : List ℕ) : Type 0 where
  pub bound : (q : ℕ) → ¬ (Contains s q) → Contains d q → q < length ss
  pub found : (q : ℕ) (e : Setter) → slice_get ss q ≡ Some e → ¬ (Contains s q)
      → Contains d q ↔ AreApart x e
