-- The faults that are told of a text.
use Rattle.std.proofs.Common.{◌≡◌, ◌<◌, ◌≤◌, ◌⊎◌, ◌↔◌, ℕ, zero, suc, ◌+◌, ◌-◌, Bool, true, false}
use Rattle.std.proofs.Common.{List, [], ◌∷◌, ◌++◌, refl, sym, ap, subst, ◌∙◌, arith, inl, inr, Some}
use Rattle.std.proofs.Common.{None, append_assoc}
use Rattle.std.specs.Prelude.{Option}
use Rattle.std.proofs.lemmas.List.{append-nil}
use Rattle.gf_fig_read.specs.FigGrammar.{Reads}
use Rattle.gf_fig_read.specs.Objects.{Drawn}
use Rattle.gf_fig_read.proofs.GrammarLemmas as grammar
use Rattle.gf_fig_faults.specs.declared.faults.DrawingFault.{DrawingFault}
use Rattle.gf_fig_faults.specs.Commenting.{commented_out}
use Rattle.gf_fig_faults.specs.DrawingFaults.{AreFaults, HasFirst, HasNoneBehind, IsFirstBehind}
use Rattle.gf_fig_faults.specs.DrawingFaults.{full, none, ends, more, reads, before, goes_on}

-- ---- how the search goes on

one_more : (m k : ℕ) → k < m → suc (m - (k + 1)) ≡ m - k
one_more m k l = omega (arith, l)

no_more : (m k : ℕ) → m ≤ k → zero ≡ m - k
no_more m k l = omega (arith, l)

module _ (m k : ℕ) (last : Option ℕ) (text : List ℕ) where
  pub at_most : m ≤ k → AreFaults (m - k) last text []
  at_most l = subst (λ n. AreFaults n last text []) (no_more m k l) (full last text)

  pub at_none : k < m → HasNoneBehind last text → AreFaults (m - k) last text []
  at_none l h = subst (λ n. AreFaults n last text []) (one_more m k l)
      (none (m - (k + 1)) last text h)

  pub at_end : (f : DrawingFault) → k < m → IsFirstBehind last text f → goes_on text f ≡ false
      → AreFaults (m - k) last text (f ∷ [])
  at_end f l first stops = subst (λ n. AreFaults n last text (f ∷ [])) (one_more m k l)
      (ends (m - (k + 1)) last text f first stops)

  pub at_more : (f : DrawingFault) (fs : List DrawingFault) → k < m → IsFirstBehind last text f
      → goes_on text f ≡ true
      → AreFaults (m - (k + 1)) (Some f.line) (commented_out f.line text) fs
      → AreFaults (m - k) last text (f ∷ fs)
  at_more f fs l first on others = subst (λ n. AreFaults n last text (f ∷ fs)) (one_more m k l)
      (more (m - (k + 1)) last text f fs first on others)

-- ---- what the faults say of the text

module _ (text : List ℕ) where
  none_reads : HasNoneBehind None text → (d : Drawn) × Reads text d
  none_reads (reads d r) = (d, r)
  none_reads (before f line fails e) = absurd (cc)

  nothing_reads : (n : ℕ) (fs : List DrawingFault) → 0 < n → AreFaults n None text fs → fs ≡ []
      → (d : Drawn) × Reads text d
  nothing_reads zero fs l (full last text) e = absurd (omega (arith, l))
  nothing_reads (suc n) fs l (none m last text h) e = none_reads h
  nothing_reads (suc n) fs l (ends m last text f first stops) e = absurd (cc)
  nothing_reads (suc n) fs l (more m last text f others first on rest) e = absurd (cc)

  reads_nothing : (n : ℕ) (fs : List DrawingFault) → AreFaults n None text fs → (d : Drawn)
      → Reads text d → fs ≡ []
  reads_nothing zero fs (full last text) d r = refl
  reads_nothing (suc n) fs (none m last text h) d r = refl
  reads_nothing (suc n) fs (ends m last text f first stops) d r =
      absurd (grammar.not_both text d f.fault first.fails.object r first.fails.fails)
  reads_nothing (suc n) fs (more m last text f others first on rest) d r =
      absurd (grammar.not_both text d f.fault first.fails.object r first.fails.fails)

  -- there are none just where the text reads
  pub none_where_read : (n : ℕ) (fs : List DrawingFault) → 0 < n → AreFaults n None text fs
      → fs ≡ [] ↔ (d : Drawn) × Reads text d
  none_where_read n fs l a = (nothing_reads n fs l a, λ r. reads_nothing n fs a r.0 r.1)

  -- the first one refuses the text
  pub first_refuses : (n : ℕ) (fs : List DrawingFault) → AreFaults n None text fs
      → (fs ≡ []) ⊎ HasFirst text fs
  first_refuses zero fs (full last text) = inl refl
  first_refuses (suc n) fs (none m last text h) = inl refl
  first_refuses (suc n) fs (ends m last text f first stops) =
      inr (record { first = f; others = []; is = refl; fails = first.fails })
  first_refuses (suc n) fs (more m last text f others first on rest) =
      inr (record { first = f; others = others; is = refl; fails = first.fails })

-- ---- the search, where these faults were told, and the search goes on with the text left

module _ (text : List ℕ) (told : List DrawingFault) (m k : ℕ) (last : Option ℕ) (left : List ℕ)
    (on : (rest : List DrawingFault) → AreFaults (m - k) last left rest
    → AreFaults m None text (told ++ rest)) where
  told_all : AreFaults (m - k) last left [] → AreFaults m None text told
  told_all a = subst (λ (fs : List DrawingFault). AreFaults m None text fs) (append-nil told)
      (on [] a)

  pub all_told : m ≤ k → AreFaults m None text told
  all_told l = told_all (at_most m k last left l)

  pub none_left : (now : List ℕ) → now ≡ left → k < m → HasNoneBehind last now
      → AreFaults m None text told
  none_left now is l h =
      told_all (at_none m k last left l (subst (λ (t : List ℕ). HasNoneBehind last t) is h))

  module _ (f : DrawingFault) (now other : List ℕ) (is : now ≡ left) (other_is : other ≡ left)
      (l : k < m) (first : IsFirstBehind last now f) (g : Bool) (goes : g ≡ goes_on other f)
      (all : List DrawingFault) (grown : all ≡ told ++ f ∷ []) where
    first_left : IsFirstBehind last left f
    first_left = subst (λ (t : List ℕ). IsFirstBehind last t f) is first

    goes_left : goes_on left f ≡ g
    goes_left = sym (goes ∙ ap (λ (t : List ℕ). goes_on t f) other_is)

    pub ends_here : g ≡ false → AreFaults m None text all
    ends_here stops = subst (λ (fs : List DrawingFault). AreFaults m None text fs) (sym grown)
        (on (f ∷ []) (at_end m k last left f l first_left (goes_left ∙ stops)))

    pub goes_further : (third new : List ℕ) → third ≡ left → new ≡ commented_out f.line third
        → g ≡ true → (rest : List DrawingFault)
        → AreFaults (m - (k + 1)) (Some f.line) new rest → AreFaults m None text (all ++ rest)
    goes_further third new third_is made goes_so rest a =
        subst (λ (fs : List DrawingFault). AreFaults m None text fs)
        (sym (ap (λ (fs : List DrawingFault). fs ++ rest) grown ∙ append_assoc told (f ∷ []) rest))
        (on (f ∷ rest) (at_more m k last left f rest l first_left (goes_left ∙ goes_so)
        (subst (λ (t : List ℕ). AreFaults (m - (k + 1)) (Some f.line) t rest)
        (made ∙ ap (commented_out f.line) third_is) a)))
