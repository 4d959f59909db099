-- What a text comes to, as a function that computes, with as many steps as there are tokens. No
-- public clause cites this module: it is a tool for proofs and for worked examples.
use Rattle.std.specs.Prelude.{ℕ, zero, suc, ◌+◌, List, [], ◌∷◌, length, Result, Ok, Err}
use Rattle.gf_fig_tokens.specs.Layout.{Token, object_tokens}
use Rattle.gf_fig_read.specs.Objects.{Drawn, object}
use Rattle.gf_fig_read.specs.FigGrammar.{nothing, Reads, Fails}
use Rattle.gf_fig_tokens.specs.declared.faults.FigFault.{FigFault}

-- a drawing, or a fault with the number of its object
abbrev pub Outcome : Type 0
Outcome = Result Drawn (FigFault × ℕ)

-- the grammar says that the text comes to the outcome
abbrev pub ComesTo : List ℕ → Outcome → Type 0
ComesTo text (Ok d) = Reads text d
ComesTo text (Err e) = Fails text e.0 e.1

-- the number of the object behind d
abbrev pub next_number : Drawn → ℕ
next_number d = length d.table + length d.figures + 1

-- what the tokens come to behind d, where they make at most n objects
unfoldable pub objects_of : ℕ → Drawn → List Token → Outcome
objects_of zero d ts = Ok d
objects_of (suc n) d [] = Ok d
objects_of (suc n) d (t ∷ ts) =
    elim (object d (t ∷ ts)) [ Ok x ↦ objects_of n x.0 x.1 | Err f ↦ Err (f, next_number d) ]

-- what the tokens come to: each object takes one, so there are no more objects than tokens
abbrev pub outcome_of_tokens : Result (List Token) FigFault → Outcome
outcome_of_tokens (Ok ts) = objects_of (length ts) nothing ts
outcome_of_tokens (Err f) = Err (f, 0)

-- what the text comes to
unfoldable pub outcome_of : List ℕ → Outcome
outcome_of text = outcome_of_tokens (object_tokens text)
