-- What is told of a named text to be known is what its history has.
use Rattle.std.proofs.Common.{◌≡◌, ◌≢◌, ◌≤◌, ◌<◌, ℕ, ◌+◌, ◌-◌, Bool, List, ◌++◌}
use Rattle.std.proofs.Common.{map, refl, sym, ap, subst, ◌∙◌, arith, append_assoc}
use Rattle.std.specs.Prelude.{AllPairs, Contains, IfNone, IfSome, Option, Some, None}
use Rattle.std.specs.Prelude.{codes, filter, flat_map, nat_eq, zip}
use Rattle.std.specs.List.{find, range_with_len}
use Rattle.std.proofs.lemmas.Bool.{eqb-true}
use Rattle.std.proofs.lemmas.List.{length-map}
use Rattle.std.proofs.lemmas.List.FromFn.{get_or-range_with_len, length-range_with_len}
use Rattle.std.proofs.lemmas.List.Kept.{AllPairs-filter}
use Rattle.std.proofs.lemmas.List.Sums.{length-filter}
use Rattle.gf_base.proofs.CountLemmas.{no_longer}
use Rattle.gf_base.proofs.FilterLemmas.{Contains-filter}
use Rattle.gf_base.proofs.ListLemmas.{Contains-map_from}
use Rattle.gf_base.proofs.PairLemmas.{AllPairs-map}
use Rattle.gf_shape.specs.Outlines.{any_outline}
use Rattle.gf_ops.specs.declared.op.Clock.{Clock}
use Rattle.gf_ops.specs.declared.op.Op.{Op}
use Rattle.gf_ops.specs.OperationOrder.{IsSite, count_of}
use Rattle.gf_ops.specs.ValidHistory.{IsValid}
use Rattle.gf_ops.proofs.HistoryLemmas.{seq_in_range}
use Rattle.gf_ops.proofs.ValidityLemmas.{same_op}
use Rattle.gf_fig_tokens.specs.Layout.{lines}
use Rattle.gf_fig_write.specs.FigText.{colour_line}
use Rattle.gf_fig_named.specs.Comments.{knows_comment}
use Rattle.gf_fig_named.specs.Known.{AreCounts, TellsKnown, begins_known, written_counts}
use Rattle.gf_fig_named.specs.KnownSteps.{CountsFirst, last_numbers, last_or}
use Rattle.gf_fig_named.specs.NamedText.{IsNamedText, first_lines, known_lines, named_lines}
use Rattle.gf_fig_named.specs.Spelling.{spelt_ids}
use Rattle.gf_fig_named.proofs.CommentLemmas.{known_one}
use Rattle.gf_fig_named.proofs.KnownLemmas.{counted_entry, ids_told, present}
use Rattle.gf_fig_named.proofs.NamedLemmas.{its_raised}
use Rattle.gf_fig_named.proofs.SilentLemmas.{line_alone}

-- ---- how many operations a site has

module _ (h : List Op) (valid : IsValid h) (s : ℕ) where
  abbrev is_own : Op → Bool
  is_own a = nat_eq a.id.site s

  abbrev own : List Op
  own = filter is_own h

  own_there : (a : Op) → Contains own a → Contains h a × (a.id.site ≡ s)
  own_there a c = let f = (Contains-filter is_own h a).0 c in (f.0, eqb-true a.id.site s f.1)

  one_number : (a b : Op) → Contains own a → Contains own b → a.id.seq ≡ b.id.seq → a ≡ b
  one_number a b c d e =
      let x = own_there a c in
      let y = own_there b d in
      let site = x.1 ∙ sym y.1 in
      let same : a.id ≡ b.id = λ i. record { site = site i; seq = e i } in
      same_op h valid a b x.0 y.0 same

  numbers_apart : AllPairs (λ a b. a ≢ b) (map (λ (a : Op). a.id.seq) own)
  numbers_apart =
      let ids = AllPairs-filter (λ (a b : Op). a.id ≢ b.id) is_own h valid.distinct in
      AllPairs-map (λ (a : Op). a.id.seq) own one_number
      (λ i j d l m e. ids i j d l m (ap (λ (a : Op). a.id) e))

  number_within : (most : ℕ) → most ≡ 10000 → (n : ℕ)
      → Contains (map (λ (a : Op). a.id.seq) own) n → Contains (range_with_len 1 most) n
  number_within most is n c =
      let w = Contains-map_from (λ (a : Op). a.id.seq) own n c in
      let range = seq_in_range w.0 (valid.in_range w.0 (own_there w.0 w.1).0) in
      let least = range.0 in
      let high = range.1 in
      let e = w.2 in
      let l : n - 1 < most = omega (arith, least, high, e, is) in
      let long = length-range_with_len 1 most in
      let back : 1 + (n - 1) ≡ n = omega (arith, least, e) in
      (n - 1, omega (arith, l, long), get_or-range_with_len 1 most (n - 1) n l ∙ back)

  most_of : (most : ℕ) → most ≡ 10000 → count_of h s ≤ most
  most_of most is =
      let numbers = map (λ (a : Op). a.id.seq) own in
      let few = no_longer numbers (range_with_len 1 most) numbers_apart (number_within most is) in
      let long = length-range_with_len 1 most in
      let mapped = length-map own (λ (a : Op). a.id.seq) in
      let kept = length-filter is_own h in
      omega (arith, few, long, mapped, kept)

  pub few_of : count_of h s ≤ 10000
  few_of = most_of 10000 refl

-- ---- the line of a named text

-- the first line of a named text that begins so
named_first : (h : List Op) (text : List ℕ) → IsValid h → IsNamedText h text
    → find begins_known (lines text) ≡ Some (knows_comment (count_of h))
named_first h text valid named =
    let r = its_raised h text valid named in
    let known = known_lines (count_of h) in
    let colours = flat_map colour_line r.table in
    let body = flat_map (named_lines any_outline) (zip named.names r.figures) in
    let rest = colours ++ body in
    let cut = append_assoc (first_lines ++ known) colours body
    ∙ append_assoc first_lines known rest in
    let behind = append_assoc (knows_comment (count_of h)) (codes "\n1200 2\n") rest in
    ap (λ t. find begins_known (lines t)) (named.is ∙ cut)
    ∙ ap (find begins_known) (ap lines behind
    ∙ line_alone (knows_comment (count_of h)) (codes "1200 2\n" ++ rest) (known_one (count_of h)))

-- ---- the clock

-- what the ids of the line count
counts_back : (h : List Op) → IsValid h
    → last_numbers (spelt_ids (knows_comment (count_of h))) ≡ written_counts h
counts_back h valid =
    let f = count_of h in
    let few : (s : ℕ) → IsSite s → f s ≤ 10000 = λ s site. few_of h valid s in
    let at : (s : ℕ) → 1 ≤ s → s < 9 → last_or s 0 (spelt_ids (knows_comment f)) ≡ f s =
    λ s l m. ap (last_or s 0) (ids_told f few) ∙ present f 8 1 s l m in
    rw (
      at 1 (omega arith) (omega arith),
      at 2 (omega arith) (omega arith),
      at 3 (omega arith) (omega arith),
      at 4 (omega arith) (omega arith),
      at 5 (omega arith) (omega arith),
      at 6 (omega arith) (omega arith),
      at 7 (omega arith) (omega arith),
      at 8 (omega arith) (omega arith),
    ) refl

pub counted_read : (h : List Op) (text : List ℕ) → IsValid h → IsNamedText h text
    → (known : Option Clock) → IfSome known (CountsFirst text)
    → IfNone known ((c : Clock) → AreCounts c → ¬ (TellsKnown text c))
    → known ≡ Some (written_counts h)
counted_read h text valid named (Some c) counts none =
    let line : counts.line ≡ knows_comment (count_of h) =
    let e = sym counts.first ∙ named_first h text valid named in cc in
    ap Some (counts.is ∙ (ap (λ l. last_numbers (spelt_ids l)) line ∙ counts_back h valid))
counted_read h text valid named None counts none =
    absurd (none (written_counts h)
    (λ s site. subst (λ n. n ≤ 10000) (sym (counted_entry (count_of h) s site)) (few_of h valid s))
    (record { first = named_first h text valid named }))
