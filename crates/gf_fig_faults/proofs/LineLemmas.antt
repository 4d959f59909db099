-- Lines behind the end of a text.
use Rattle.std.proofs.Common.{◌≡◌, ◌<◌, ℕ, List, [], drop, arith, sym, ◌∙◌}
use Rattle.std.proofs.lemmas.List.{nil_from_length, length-drop}
use Rattle.gf_fig_tokens.proofs.LayoutLemmas.{drop_none}

-- where nothing is left at a place, nothing is at a later one
pub drop_past : {X : Type 0} (xs : List X) (i j : ℕ) (left : List X) → left ≡ []
    → left ≡ drop i xs → i < j → left ≡ drop j xs
drop_past xs i j left none is l =
    let few = drop_none i xs (sym is ∙ none) in
    let m = length-drop j xs in
    none ∙ sym (nil_from_length (drop j xs) (omega (arith, few, m, l)))
