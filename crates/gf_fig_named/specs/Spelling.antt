-- The ids and numbers that the words of a comment spell (this project's choice).
use Rattle.std.specs.Prelude.{ℕ, ◌-◌, Bool, ◌&&◌, ◌==◌, nat_le, List, ◌∷◌, filter_map, option_map}
use Rattle.std.specs.Prelude.{Option, Some, None, ℤ, pos, nat_abs, if◌then◌else◌}
use Rattle.gf_ops.specs.declared.op.OpId.{OpId}
use Rattle.gf_fig_tokens.specs.Fields.{is_in}
use Rattle.gf_fig_tokens.specs.Forms.{whole}
use Rattle.gf_fig_tokens.specs.Layout.{words}

-- n as a natural number, where it lies between 1 and most
abbrev pub counted : ℕ → ℤ → Option ℕ
counted most n = if is_in (pos 1) (pos most) n then Some (nat_abs n) else None

-- what is counted of a number, if there is one
abbrev pub counted_of : ℕ → Option ℤ → Option ℕ
counted_of most (Some n) = counted most n
counted_of most None = None

-- the number from 1 to most that a word spells
abbrev pub spelt_number : ℕ → List ℕ → Option ℕ
spelt_number most word = counted_of most (whole word)

-- byte b is a digit of a site, 1 to 8
abbrev pub is_site_digit : ℕ → Bool
is_site_digit b = nat_le 49 b && nat_le b 56

-- the id that a word spells: the digit of a site, a point, and a number from 1 to 10,000
abbrev pub spelt_id : List ℕ → Option OpId
spelt_id (d ∷ p ∷ ds) = if is_site_digit d && p == 46
    then option_map (λ n. record { site = d - 48; seq = n }) (spelt_number 10000 ds) else None
spelt_id word = None

-- the ids that the words of a text spell, in their order
abbrev pub spelt_ids : List ℕ → List OpId
spelt_ids text = filter_map spelt_id (words text)
