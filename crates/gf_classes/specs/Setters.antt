-- The operations that set attributes of an object, sorted. No public clause cites this module.
use Rattle.std.specs.Prelude.{◌≡◌, ◌↔◌, ℕ, ◌+◌, ◌-◌, ◌*◌, ◌<◌, ◌≤◌, ◌^◌, List, length, Contains}
use Rattle.std.specs.Prelude.{◌++◌, ◌∷◌, [], map}
use Rattle.gf_classes.specs.declared.fingerprint.Fingerprint.{Fingerprint}
use Rattle.std.specs.Prelude.{Option, Some, None, slice_get, slice_index_or}
use Rattle.gf_ops.specs.declared.op.Op.{Op}
use Rattle.gf_ops.specs.declared.op.OpId.{OpId}
use Rattle.gf_ops.specs.declared.op.ObjectId.{ObjectId}
use Rattle.gf_ops.specs.declared.op.Clock.{Clock}
use Rattle.gf_ops.specs.declared.change.Change.{Change}
use Rattle.gf_ops.specs.declared.change.Change.TheVariants.{Create, Set}
use Rattle.gf_ops.specs.declared.change.Value.{Value}
use Rattle.gf_ops.specs.Attribute.{attribute_index, attribute_of}
use Rattle.gf_classes.specs.declared.setters.Setter.{Setter}
use Rattle.gf_classes.specs.declared.setters.TheConstants.{BLOCK}
use Rattle.gf_classes.specs.Fingerprints.{fingerprint_of, has_own_fingerprint}
use Rattle.gf_classes.specs.Hiding.{hiding_site}
use Rattle.gf_classes.specs.Direct.{place}

-- the place in the order of the operation n of the site s + 1 that sets the attribute with index t
abbrev pub key_of : ℕ → ℕ → ℕ → ℕ
key_of t s n = (t * 8 + s) * BLOCK + n

-- how many operations of the site s + 1 the clock knows
abbrev pub known : Clock → ℕ → ℕ
known past s = slice_index_or past.0 s 0

-- the setter of the operation a at the position q, which has the index i and makes the change
abbrev pub setter_by : Op → ℕ → ℕ → Change → Option Setter
setter_by a i q (Create start) = None
setter_by a i q (Set o v aim) = Some (record {
  key = key_of (attribute_index (attribute_of v)) (a.id.site - 1) a.id.seq;
  attribute = attribute_index (attribute_of v);
  site = a.id.site - 1;
  seq = a.id.seq;
  past = a.past;
  fingerprint = fingerprint_of v;
  own = has_own_fingerprint v;
  hiding = hiding_site a;
  index = i;
  position = q;
})

-- the setter of the operation at the position q, if it is there and sets something
abbrev pub setter_in : Option Op → ℕ → ℕ → Option Setter
setter_in (Some a) i q = setter_by a i q a.change
setter_in None i q = None

-- the setters with one more, if it is there
abbrev pub with_some : List Setter → Option Setter → List Setter
with_some es None = es
with_some es (Some e) = es ++ e ∷ []

-- e is the setter of one of the first m positions
pub record IsTaken (h : List Op) (us : List ℕ) (m : ℕ) (e : Setter) : Type 0 where
  pub index : ℕ
  pub within : index < m
  pub at : setter_in (slice_get h (place us index)) index (place us index) ≡ Some e

-- es are the setters of the first m positions
abbrev pub AreTaken : List Op → List ℕ → ℕ → List Setter → Type 0
AreTaken h us m es = (e : Setter) → Contains es e ↔ IsTaken h us m e

-- e stands for an operation of h, at one of the positions us, that sets an attribute of o
pub record IsSetter (h : List Op) (us : List ℕ) (o : ObjectId) (e : Setter) : Type 0 where
  pub op : Op
  pub within : e.index < length us
  pub placed : place us e.index ≡ e.position
  pub at : slice_get h e.position ≡ Some op
  pub value : Value
  pub aim : List OpId
  pub change : op.change ≡ Set o value aim
  pub attribute : e.attribute ≡ attribute_index (attribute_of value)
  pub site : op.id.site ≡ e.site + 1
  pub seq : op.id.seq ≡ e.seq
  pub past : op.past ≡ e.past
  pub fingerprint : e.fingerprint ≡ fingerprint_of value
  pub own : e.own ≡ has_own_fingerprint value
  pub hiding : e.hiding ≡ hiding_site op

-- the numbers of a setter are in range, and its key is that of them
pub record IsKeyed (e : Setter) : Type 0 where
  pub attribute : e.attribute < 6
  pub site : e.site < 8
  pub seq : e.seq < 2 ^ 32
  pub key : e.key ≡ key_of e.attribute e.site e.seq

-- the keys of the setters do not fall, and the later setters of one attribute and site know all
-- that the earlier ones know
pub record AreSorted (ss : List Setter) : Type 0 where
  pub keyed : (e : Setter) → Contains ss e → IsKeyed e
  pub rising : (p q : ℕ) (d : Setter) → p ≤ q → q < length ss
      → (slice_index_or ss p d).key ≤ (slice_index_or ss q d).key
  pub growing : (a b : Setter) → Contains ss a → Contains ss b → a.attribute ≡ b.attribute
      → a.site ≡ b.site → a.seq ≤ b.seq → (s : ℕ) → s < 8 → known a.past s ≤ known b.past s

-- there is a setter with the index i
pub record HasIndex (ss : List Setter) (i : ℕ) : Type 0 where
  pub setter : Setter
  pub contained : Contains ss setter
  pub index : setter.index ≡ i

-- ss are the setters of o at the positions us of h, sorted
pub record AreSetters (h : List Op) (us : List ℕ) (o : ObjectId) (ss : List Setter) : Type 0 where
  pub each : (e : Setter) → Contains ss e → IsSetter h us o e
  pub all : (i : ℕ) (a : Op) (v : Value) (aim : List OpId) → i < length us
      → slice_get h (place us i) ≡ Some a → a.change ≡ Set o v aim → HasIndex ss i
  pub sorted : AreSorted ss

-- the fingerprints of the values of the setters
abbrev pub fingerprints : List Setter → List Fingerprint
fingerprints ss = map (λ (e : Setter). e.fingerprint) ss
