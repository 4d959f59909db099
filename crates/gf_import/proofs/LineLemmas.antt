-- Each object of a FIG text that reads as a drawing begins on a line.
use Rattle.std.proofs.Common.{◌≡◌, ℕ, ◌+◌, ◌<◌, ◌≤◌, List, [], sym, ap, ◌∙◌, inl, inr, arith}
use Rattle.std.specs.Prelude.{Ok, Err}
use Rattle.std.proofs.lemmas.Bool.{cases_eq}
use Rattle.gf_fig_tokens.specs.Layout.{Token}
use Rattle.gf_fig_tokens.specs.declared.faults.FigFault.TheVariants as fault
use Rattle.gf_fig_read.specs.Objects.{Drawn, object}
use Rattle.gf_fig_read.specs.FaultLines.{BeginsAt, BeginsOn}
use Rattle.gf_fig_read.specs.FigGrammar.{Leads, Reads, more, none, nothing}
use Rattle.gf_fig_read.proofs.GrammarLemmas.{no_object}
use Rattle.gf_fig_read.proofs.LineLemmas.{begins_on_a_line}
use Rattle.gf_fig_read.proofs.ObjectLemmas.{leads_on, made_of, object_takes}

-- an object that is one of those read begins there
among_read : (all : List Token) (d e : Drawn) (ts left : List Token) (n : ℕ)
    → Leads nothing all d ts → Leads d ts e left → made_of d < n → n ≤ made_of e
    → (rest : List Token) × BeginsAt all n rest
among_read all d e ts left n led (none c us) low high = absurd (omega (arith, low, high))
among_read all d e ts left n led (more a m b us between ends one others) low high =
    let takes = (object_takes a m us between one).1 in
    elim (cases_eq (made_of a + 1) n) [
      | inl here ↦ (
        us,
        record {
          before = a;
          objects = led;
          further = λ nil.
              let cut : Err fault.Cut ≡ Ok (m, between) =
              sym (no_object a) ∙ (ap (object a) (sym nil) ∙ one) in absurd cc;
          number = omega (arith, here);
        },
      )
      | inr other ↦
          among_read all m b between ends n (leads_on nothing a m all us between led one) others
          (omega (arith, low, takes, other)) high
    ]

-- each object of a text that is read begins on a line
pub object_has_line : (text : List ℕ) (d : Drawn) (n : ℕ) → Reads text d → 0 < n → n ≤ made_of d
    → (line : ℕ) × BeginsOn text n line
object_has_line text d n reads low high =
    let there = among_read reads.all nothing d reads.all [] n (none nothing reads.all) reads.objects
    low high in
    begins_on_a_line text reads.all there.0 n reads.tokens there.1
