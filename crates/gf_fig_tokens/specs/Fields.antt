-- Fields of objects, one after another: the value of each, or the first fault (Xfig, FIG Format
-- 3.2: fields are told apart by their order alone); coordinates within reach are this project's
-- profile.
use Rattle.std.specs.Prelude.{◌≡◌, ℕ, zero, suc, Bool, true, ◌&&◌, List, [], ◌∷◌}
use Rattle.std.specs.Prelude.{Option, Some, None, ⊤, Result, Ok, Err, if◌then◌else◌, ℤ}
use Rattle.std.specs.Prelude.{pos, nat_abs, int_le}
use Rattle.gf_plane.specs.declared.point.Point.{Point}
use Rattle.gf_plane.specs.Reach.{is_reached}
use Rattle.gf_fig_tokens.specs.Layout.{Token}
use Rattle.gf_fig_tokens.specs.Forms.{whole}
use Rattle.gf_fig_tokens.specs.declared.faults.FigFault.{FigFault}
use Rattle.gf_fig_tokens.specs.declared.faults.FigFault.TheVariants as fault

-- a value of the first tokens with the tokens behind them, or the first fault
abbrev pub Read : Type 0 → Type 0
Read A = Result (A × List Token) FigFault

-- a call's result and the tokens that it left are those that reading gives
abbrev pub StepsAs : {A : Type 0} → Result A FigFault → List Token → Read A → Type 0
StepsAs (Ok a) left read = read ≡ Ok (a, left)
StepsAs (Err f) left read = read ≡ Err f

-- what the tokens from here on begin with
abbrev pub Reader : Type 0 → Type 0
Reader A = List Token → Read A

-- a value that was read, and then what follows it
abbrev pub read_on : {A B : Type 0} → Read A → (A → Reader B) → Read B
read_on (Ok x) next = next x.0 x.1
read_on (Err f) next = Err f

-- a value, and then what follows it: a line `name ← reader` of `do`
infixl 10 ◌>>=◌
abbrev pub ◌>>=◌ : {A B : Type 0} → Reader A → (A → Reader B) → Reader B
(first >>= next) ts = read_on (first ts) next

-- the value of a token: it has the form, and passes the check
abbrev pub checked : {A : Type 0} → Option A → (A → Bool) → FigFault → List Token
    → Read A
checked None passes wrong rest = Err fault.Token
checked (Some a) passes wrong rest = if passes a then Ok (a, rest) else Err wrong

-- one field: Cut without a token, Token for another form, and wrong where the value does not pass
abbrev pub field : {A : Type 0} → (Token → Option A) → (A → Bool) → FigFault → Reader A
field form passes wrong [] = Err fault.Cut
field form passes wrong (t ∷ ts) = checked (form t) passes wrong ts

-- a field without a check
abbrev pub any : {A : Type 0} → (Token → Option A) → Reader A
any form = field form (λ _. true) fault.Token

-- a check that takes no token
abbrev pub check : Bool → FigFault → Reader ⊤
check passes wrong ts = if passes then Ok (tt, ts) else Err wrong

-- the value of all fields before
abbrev pub give : {A : Type 0} → A → Reader A
give a ts = Ok (a, ts)

-- n lies between low and high
abbrev pub is_in : ℤ → ℤ → ℤ → Bool
is_in low high n = int_le low n && int_le n high

-- a whole number from low to high
unfoldable pub natural : ℕ → ℕ → FigFault → Reader ℕ
natural low high wrong = do
  n ← field whole (is_in (pos low) (pos high)) wrong
  give (nat_abs n)

-- a coordinate within reach
abbrev pub coordinate : Reader ℤ
coordinate = field whole is_reached fault.Range

-- a pair x, y
unfoldable pub point : Reader Point
point = do
  x ← coordinate
  y ← coordinate
  give (record { x = x; y = y })

-- n pairs x, y
unfoldable pub points : ℕ → Reader (List Point)
points zero = give []
points (suc n) = do
  first ← point
  others ← points n
  give (first ∷ others)
