-- The ranks of fingerprints in a list, by fingerprints. No public clause cites this module.
use Rattle.std.specs.Prelude.{◌≡◌, ◌↔◌, ℕ, ◌<◌, List, [], length, Contains, cond, Some, slice_get}
use Rattle.std.specs.Prelude.{unwrap_or}
use Rattle.std.specs.BTreeMap.{is_at}
use Rattle.std.specs.Map.{lookup}
use Rattle.gf_maximal.specs.Growing.{joined}
use Rattle.gf_classes.specs.declared.fingerprint.Fingerprint.{Fingerprint}
use Rattle.gf_classes.specs.Fingerprints.{fingerprint_cmp}

-- ranks, rising, by fingerprints in their order
abbrev pub Entries : Type 0
Entries = List (Fingerprint × List ℕ)

-- the ranks under the fingerprint p
abbrev pub ranks_at : Entries → Fingerprint → List ℕ
ranks_at ix p = unwrap_or (lookup (is_at (fingerprint_cmp p)) ix) []

-- the index has the ranks of the first m fingerprints of ps
abbrev pub Lists : List Fingerprint → ℕ → Entries → Type 0
Lists ps m ix = (p : Fingerprint) (n : ℕ) → Contains (ranks_at ix p) n
    ↔ ((n < m) × (slice_get ps n ≡ Some p))

-- the index has the ranks of all of them
abbrev pub IsIndex : List Fingerprint → Entries → Type 0
IsIndex ps ix = Lists ps (length ps) ix

-- new has the ranks ns under the fingerprint p, and the others of old
abbrev pub PutsRanks : Entries → Fingerprint → List ℕ → Entries → Type 0
PutsRanks old p ns new = (q : Fingerprint) → lookup (is_at (fingerprint_cmp q)) new
    ≡ cond (is_at (fingerprint_cmp p) q) (Some ns) (lookup (is_at (fingerprint_cmp q)) old)

-- new has the rank x under the fingerprint p, and what old has
abbrev pub PutsRank : Entries → Fingerprint → ℕ → Entries → Type 0
PutsRank old p x new = PutsRanks old p (joined x (ranks_at old p)) new
