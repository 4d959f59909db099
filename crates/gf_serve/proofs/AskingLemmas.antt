-- What a line is as JSON.
use Rattle.std.proofs.Common.{◌≡◌, ℕ, List, refl, inl, inr}
use Rattle.std.proofs.lemmas.Bool.{cases_Bool}
use Rattle.std.specs.Prelude.{None, Some, IsUtf8}
use Rattle.std.specs.Str.{is_utf8}
use Rattle.std.proofs.lemmas.Str.{IsUtf8-from_is_utf8, is_utf8-from_IsUtf8}
use Rattle.serde_json.specs.Data.{Data}
use Rattle.serde_json.specs.Read.{read}
use Rattle.gf_serve.specs.Requests.{json}

-- the bytes that serde_json reads
pub json-read : (line : List ℕ) (d : Data) → IsUtf8 line → read line ≡ Some d → json line ≡ Some d
json-read line d u e = rw (is_utf8-from_IsUtf8 line u, e) refl

-- and those that it refuses
pub json-refused : (line : List ℕ) → (IsUtf8 line → read line ≡ None) → json line ≡ None
json-refused line r = elim (cases_Bool (is_utf8 line)) [
  | inl u ↦ rw (u, r (IsUtf8-from_is_utf8 line u)) refl
  | inr u ↦ rw u refl
]
