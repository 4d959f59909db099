-- What a function that cuts a text has returned and left. No public clause cites this module.
use Rattle.std.specs.Prelude.{◌≡◌, ℕ, ⊤, not, List, drop, Result, Ok, Err}
use Rattle.std.specs.List.{position_or_len}
use Rattle.gf_fig_tokens.specs.Layout.{Token, is_space}
use Rattle.gf_fig_tokens.specs.declared.faults.FigFault.{FigFault}

-- the line without the blanks that it begins with
abbrev pub after_blanks : List ℕ → List ℕ
after_blanks line = drop (position_or_len (λ b. not (is_space b)) line) line

-- the answer has the tokens left, or the fault of the result
abbrev pub LeavesTokens : Result ⊤ FigFault → List Token → Result (List Token) FigFault → Type 0
LeavesTokens (Ok u) left answer = answer ≡ Ok left
LeavesTokens (Err f) left answer = answer ≡ Err f
