-- Keys, and what a line denotes.
use Rattle.std.proofs.Common.{◌≡◌, ℕ, List, [], ◌∷◌, ◌++◌, length, refl, arith, Ok, Err, Bool, true}
use Rattle.std.proofs.Common.{false, ◌&&◌, inl, inr, ◌⊎◌}
use Rattle.std.proofs.lemmas.Bool.{cases_Bool}
use Rattle.std.specs.Prelude.{Option, Some, None, String, IsUtf8, IfOk, IsTrue, if◌then◌else◌}
use Rattle.std.specs.declared.alloc.Global.{Global}
use Rattle.std.specs.List.{list_all}
use Rattle.std.specs.Str.{is_utf8}
use Rattle.std.proofs.lemmas.Str.{IsUtf8-from_is_utf8, is_utf8-from_IsUtf8}
use Rattle.serde_json.specs.Data.{Data}
use Rattle.serde_json.specs.Read.{read}
use Rattle.serde_json.specs.declared.value.Value.{Value}
use Rattle.serde_json.specs.View.{members_view}
use Rattle.gf_json.specs.declared.line_error.LineError.TheVariants as fault
use Rattle.gf_json.specs.LineValues.{Got, and_then, within}
use Rattle.gf_json.specs.Limited.{limited, ranged}
use Rattle.gf_json.specs.LineKeys.{member_count}
use Rattle.gf_json.specs.OperationLines.{json}

-- an object has as many members as its map has entries
pub member_count-members_view : (ms : List (String Global × Value))
    → member_count (members_view ms) ≡ length ms
member_count-members_view [] = refl
member_count-members_view (m ∷ ms) = let i = member_count-members_view ms in omega (arith, i)

-- a test of each of two lists
pub list_all-append : {X : Type 0} (p : X → Bool) (xs ys : List X)
    → list_all p (xs ++ ys) ≡ (list_all p xs && list_all p ys)
list_all-append p [] ys = refl
list_all-append p (x ∷ xs) ys = by_answer (p x) (list_all-append p xs ys)
  where
    by_answer : (b : Bool) → list_all p (xs ++ ys) ≡ (list_all p xs && list_all p ys)
        → (b && list_all p (xs ++ ys)) ≡ ((b && list_all p xs) && list_all p ys)
    by_answer true e = e
    by_answer false e = refl

-- the bytes that serde_json reads
pub json-read : (line : List ℕ) (d : Data) → IsUtf8 line → read line ≡ Some d → json line ≡ Ok d
json-read line d u e = rw (is_utf8-from_IsUtf8 line u, e) refl

-- and those that it refuses
pub json-refused : (line : List ℕ) → (IsUtf8 line → read line ≡ None) → json line ≡ Err fault.Json
json-refused line r = elim (cases_Bool (is_utf8 line)) [
  | inl u ↦ rw (u, r (IsUtf8-from_is_utf8 line u)) refl
  | inr u ↦ rw u refl
]

-- a broken limit is a fault
ranged-limited : {A : Type 0} (keeps : A → Bool) (x : Option A)
    → ranged (limited keeps x) ≡ within keeps x
ranged-limited keeps x = grind arith

-- what a line denotes, where memory serves; it is read as g says, and f says what it is
pub denoted_by : {A B : Type 0} (keeps : A → Bool) (f g : Data → Option A)
    → ((d : Data) → f d ≡ g d) → (line : List ℕ) (d : Data) (b : B) (u : Got (Option A)) (r : Got A)
    → (◌≡◌ {A = Got B} (Ok b) (Err fault.OutOfMemory)) ⊎ (Ok d ≡ json line)
    → (u ≡ Err fault.OutOfMemory) ⊎ (u ≡ limited keeps (g d)) → r ≡ ranged u
    → (r ≡ Err fault.OutOfMemory) ⊎ (r ≡ and_then (λ d. within keeps (f d)) (json line))
denoted_by keeps f g same line d b u r (inl m) n e = absurd cc
denoted_by keeps f g same line d b u r (inr h) (inl m) e = inl (rw (e, m) refl)
denoted_by keeps f g same line d b u r (inr h) (inr w) e =
    inr (rw (e, ← h, w, same d) (ranged-limited keeps (g d)))

-- which keeps the limits
pub denoted-within : {A : Type 0} (keeps : A → Bool) (x : Option A) (u : Got (Option A))
    (r : Got A) → (u ≡ Err fault.OutOfMemory) ⊎ (u ≡ limited keeps x) → r ≡ ranged u
    → IfOk r (λ a. IsTrue (keeps a))
denoted-within keeps x u r (inl m) e = rw (e, m) tt
denoted-within keeps None u r (inr w) e = rw (e, w) tt
denoted-within {A = A} keeps (Some a) u r (inr w) e = rw (e, w) (by_test (keeps a) refl)
  where
    by_test : (b : Bool) → keeps a ≡ b
        → IfOk (ranged {A = A} (Ok (if b then Some a else None))) (λ a. IsTrue (keeps a))
    by_test true t = rw t refl
    by_test false t = tt

pub ruleset counts = (member_count-members_view)
