-- Whole objects, one after another, lead a reading to where the next one begins, and begin the
-- figures of the drawing. Colours stand before them, so the number of an object tells which one it
-- is.
use Rattle.std.proofs.Common.{◌≡◌, ◌≢◌, ◌≤◌, ℕ, ◌+◌, true, List, [], ◌∷◌, length, refl, sym, ap}
use Rattle.std.proofs.Common.{subst, ◌∙◌, arith, inl, inr}
use Rattle.gf_fig_tokens.specs.Layout.{Token}
use Rattle.gf_fig_tokens.specs.declared.faults.FigFault.TheVariants as fault
use Rattle.gf_fig_read.specs.FigGrammar.{Leads, more, none, nothing}
use Rattle.gf_fig_read.specs.Objects.{Drawn, object}
use Rattle.gf_fig_read.proofs.GrammarLemmas.{apart, no_object, ok_or}
use Rattle.gf_fig_named.specs.FigureNames.{begins}
use Rattle.gf_fig_named.proofs.ObjectLemmas.{object_adds}
use Rattle.gf_fig_named.proofs.StepLemmas.{Passes, passes_then, start, stays}

-- the tokens lead over n figures, which are those of e beyond those of d
pub record LeadsOver (d e : Drawn) (ts left : List Token) (n : ℕ) : Type 0 where
  pub figures : length d.figures + n ≡ length e.figures
  pub passes : Passes start ts start left n

pub leads_over : (d e : Drawn) (ts left : List Token) → Leads d ts e left
    → (n : ℕ) × LeadsOver d e ts left n
leads_over d e ts left (none c us) = (0, record { figures = omega arith; passes = stays start us })
leads_over d e ts left (more a m b vs between ends one others) =
    let r = leads_over m b between ends others in
    let n = r.0 in
    let so = r.1.figures in
    elim (object_adds a m vs between one) [
      | inl x ↦
          let z = x.none in
          let y = x.still in (
            n,
            record {
              figures = omega (arith, so, z, y);
              passes = subst (λ k. Passes start vs start ends k) (omega arith)
                  (passes_then start start start vs between ends 0 n x.passes r.1.passes);
            },
          )
      | inr x ↦
          let y = x.figures in (
            1 + n,
            record {
              figures = omega (arith, so, y);
              passes = passes_then start start start vs between ends 1 n x.passes r.1.passes;
            },
          )
    ]

-- a run to the end goes on from where another one has come
rest_leads : (d e k : Drawn) (ts left end : List Token) → end ≡ [] → Leads d ts e left
    → Leads d ts k end → Leads e left k end
rest_leads d e k ts left end is (none c us) p = p
rest_leads d e k ts left end is (more a n b vs between ends one others) (none c us) =
    apart (object a vs) (n, between) fault.Cut one (ap (object a) is ∙ no_object a)
rest_leads d e k ts left end is (more a n b vs between ends one others)
    (more c m i us middle stops other more_others) =
    let both : (n, between) ≡ (m, middle) = ap (ok_or (n, between)) (sym one ∙ other) in
    rest_leads m b i middle ends stops is
    (subst (λ (x : Drawn × List Token). Leads x.0 x.1 b ends) both others) more_others

-- no colour is taken away, and none comes behind a figure
colours_first : (d e : Drawn) (ts left : List Token) → Leads d ts e left
    → (length d.table ≤ length e.table) × (1 ≤ length d.figures → length e.table ≡ length d.table)
colours_first d e ts left (none c us) = (omega arith, λ l. refl)
colours_first d e ts left (more a m b vs between ends one others) =
    let r = colours_first m b between ends others in
    let grown = r.0 in
    elim (object_adds a m vs between one) [
      | inl x ↦
          let t = x.table in
          let z = x.none in
          (omega (arith, grown, t), λ l. absurd (omega (arith, l, z)))
      | inr x ↦
          let t = x.table in
          let y = x.figures in
          (omega (arith, grown, t), λ l. r.1 (omega (arith, y)) ∙ t)
    ]

-- a token is left that begins a figure, and n figures are before it
pub record IsAtFigure (before : Drawn) (left : List Token) (n : ℕ) : Type 0 where
  pub token : Token
  pub others : List Token
  pub cut : left ≡ token ∷ others
  pub begins : begins start token ≡ true
  pub figures : length before.figures ≡ n

next_figure : (before d : Drawn) (left end : List Token) (k : ℕ) → end ≡ [] → left ≢ []
    → length d.table + k ≡ length before.table + length before.figures
    → Leads before left d end → IsAtFigure before left k
next_figure before d left end k is further number (none c us) = absurd (further is)
next_figure before d left end k is further number (more a m b vs between ends one others) =
    let r = colours_first m b between ends others in
    let grown = r.0 in
    elim (object_adds a m vs between one) [
      | inl x ↦
          let t = x.table in
          let z = x.none in
          absurd (omega (arith, grown, t, z, number))
      | inr x ↦
          let t = x.table in
          let y = x.figures in
          let same = r.1 (omega (arith, y)) in
          record {
            token = x.token;
            others = x.others;
            cut = x.cut;
            begins = x.begins;
            figures = omega (arith, t, same, number);
          }
    ]

-- in a drawing that all tokens make, object n behind the colours is a figure
pub at_figure : (all left : List Token) (before d : Drawn) (k : ℕ) → Leads nothing all d []
    → Leads nothing all before left → left ≢ []
    → length d.table + k + 1 ≡ length before.table + length before.figures + 1
    → IsAtFigure before left k
at_figure all left before d k led so further number =
    next_figure before d left [] k refl further (omega (arith, number))
    (rest_leads nothing before d all left [] refl so led)
