-- The forms of tokens, and what a token of each form stands for (Xfig, FIG Format 3.2: numbers and
-- colours; at most 18 digits is this project's choice).
use Rattle.std.specs.Prelude.{ℕ, ◌+◌, ◌*◌, ◌-◌, Bool, false, not, ◌&&◌}
use Rattle.std.specs.Prelude.{◌||◌, ◌==◌, nat_le, List, [], ◌∷◌, length, fold, Option}
use Rattle.std.specs.Prelude.{Some, None, ℤ, pos, ◌-ℤ◌, count_by}
use Rattle.std.specs.Prelude.{if◌then◌else◌}
use Rattle.std.specs.List.{list_all}
use Rattle.gf_plane.specs.declared.colour.Rgb.{Rgb}
use Rattle.gf_plane.specs.HexDigits.{rgb_of_hex}

-- byte b is '0' to '9'
abbrev pub is_digit : ℕ → Bool
is_digit b = nat_le 48 b && nat_le b 57

-- byte b is '-' or '+'
abbrev pub is_sign : ℕ → Bool
is_sign b = b == 45 || b == 43

-- what follows an optional sign
abbrev pub after_sign : List ℕ → List ℕ
after_sign [] = []
after_sign (b ∷ bs) = if is_sign b then bs else b ∷ bs

-- the token begins with '-'
abbrev pub is_negative : List ℕ → Bool
is_negative [] = false
is_negative (b ∷ bs) = b == 45

-- the number that decimal digits stand for
abbrev pub digits_value : List ℕ → ℕ
digits_value ds = fold (λ n d. 10 * n + (d - 48)) 0 ds

-- a whole number: an optional sign and 1 to 18 digits
unfoldable pub whole : List ℕ → Option ℤ
whole t =
    let ds = after_sign t in
    let n = pos (digits_value ds) in
    if nat_le 1 (length ds) && nat_le (length ds) 18 && list_all is_digit ds
    then Some (if is_negative t then pos 0 -ℤ n else n) else None

-- byte b is '.'
abbrev pub is_point : ℕ → Bool
is_point b = b == 46

-- digits, with at most one '.' before, among or behind them
abbrev pub are_digits_and_point : List ℕ → Bool
are_digits_and_point bs =
    list_all (λ b. is_digit b || is_point b) bs && nat_le (count_by is_point bs) 1

-- the first byte is a digit
abbrev pub begins_with_digit : List ℕ → Bool
begins_with_digit [] = false
begins_with_digit (b ∷ bs) = is_digit b

-- each digit of the token is 0
abbrev pub is_zero : List ℕ → Bool
is_zero t = list_all (λ b. b == 48 || not (is_digit b)) t

-- a decimal: an optional sign, a digit, and then digits with at most one '.'; of its value is kept
-- whether it is zero
unfoldable pub decimal : List ℕ → Option Bool
decimal t =
    let ds = after_sign t in
    if begins_with_digit ds && are_digits_and_point ds then Some (is_zero t) else None

-- a colour: '#' and six hexadecimal digits
unfoldable pub colour : List ℕ → Option Rgb
colour [] = None
colour (b ∷ bs) = if b == 35 then rgb_of_hex bs else None
