-- Entries in the order of their keys: one whose key is above all others goes to the end. The crates
-- above cite it.
use Rattle.std.proofs.Common.{◌≡◌, List, [], ◌∷◌, ◌++◌, append_assoc, append-nil, refl, sym, ap}
use Rattle.std.proofs.Common.{◌∙◌}
use Rattle.std.specs.Prelude.{Contains}
use Rattle.std.specs.BTreeMap.{insert_entry}
use Rattle.std.specs.Cmp.{IsTotalOrder}
use Rattle.std.specs.List.Sorted.{IsStrictlySortedBy}
use Rattle.std.specs.Map.{keys_of}
use Rattle.std.specs.Ordering.{match_ordering, ordering_reverse}
use Rattle.std.specs.declared.cmp.Ordering.{Ordering}
use Rattle.std.specs.declared.cmp.Ordering.TheVariants.{Less, Greater}
use Rattle.std.proofs.lemmas.List.Elements.{All-contains, All-from_recursion}
use Rattle.std.proofs.lemmas.Map.Keys.{sorted_head, sorted_tail}
use Rattle.gf_base.proofs.ListLemmas.{Contains-cons_head, Contains-cons_tail}

module _ {K X : Type 0} (R : K → K → Ordering) (total : IsTotalOrder R) where
  in_keys : (es : List (K × X)) (k : K) (v : X) (rest : List (K × X))
      → Contains (keys_of (es ++ (k, v) ∷ rest)) k
  in_keys [] k v rest = Contains-cons_head k (keys_of rest)
  in_keys (e ∷ es) k v rest = Contains-cons_tail e.0 (keys_of (es ++ (k, v) ∷ rest)) k
      (in_keys es k v rest)

  insert_last : (es : List (K × X)) (k : K) (v : X) (rest : List (K × X))
      → IsStrictlySortedBy R (keys_of (es ++ (k, v) ∷ rest))
      → insert_entry R es k v ≡ es ++ (k, v) ∷ []
  insert_last [] k v rest s = refl
  insert_last (e ∷ es) k v rest s =
      let keys = keys_of (es ++ (k, v) ∷ rest) in
      let l : R e.0 k ≡ Less = All-contains (λ y. R e.0 y ≡ Less) keys k
      (All-from_recursion (λ y. R e.0 y ≡ Less) keys (sorted_head R e.0 keys s))
      (in_keys es k v rest) in
      let g : R k e.0 ≡ Greater = total.antisymm k e.0 ∙ ap ordering_reverse l in
      ap (λ o. match_ordering o ((k, v) ∷ e ∷ es) ((e.0, v) ∷ es) (e ∷ insert_entry R es k v)) g
      ∙ ap (λ xs. e ∷ xs) (insert_last es k v rest (sorted_tail R e.0 keys s))

  -- one more entry of all goes over
  pub copied_more : (old new all : List (K × X)) (k : K) (v : X) (rest left : List (K × X))
      → IsStrictlySortedBy R (keys_of all) → new ≡ insert_entry R old k v → left ≡ (k, v) ∷ rest
      → old ++ left ≡ all → new ++ rest ≡ all
  copied_more old new all k v rest left sorted made step r =
      let whole : old ++ (k, v) ∷ rest ≡ all = ap (λ xs. old ++ xs) (sym step) ∙ r in
      let last = insert_last old k v rest (rw whole sorted) in
      rw (made, last, append_assoc) whole

-- once none is left, all went over
pub copied_all : {X : Type 0} (new left all : List X) → left ≡ [] → new ++ left ≡ all → new ≡ all
copied_all new left all e r = sym (append-nil new) ∙ ap (λ xs. new ++ xs) (sym e) ∙ r
