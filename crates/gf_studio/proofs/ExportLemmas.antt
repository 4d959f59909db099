-- The FIG text of what some bytes draw shows the history that they denote.
use Rattle.std.specs.Prelude.{Option}
use Rattle.std.specs.Io.KnownBytes.{Appends}
use Rattle.std.proofs.Common.{ℕ, List, subst, sym}
use Rattle.gf_fig_write.specs.ShownHistory.{Shows}
use Rattle.gf_fig_write.proofs.CanonicalLemmas.{canonical_shows}
use Rattle.gf_fig_named.proofs.NamedLemmas.{named_text_shows}
use Rattle.gf_studio.specs.FigRun.{Exports, IsFigOf, IsNamedOf}

pub exported : (bytes text : List ℕ) (old new : Option (List ℕ)) → IsFigOf bytes text
    → Appends old new text → Exports bytes old new
exported bytes text old new fig written =
    let drawn = fig.drawn in
    record {
      text = text;
      is = record {
        history = drawn.history;
        denoted = drawn.denoted;
        such = subst (λ t. Shows t drawn.history) (sym fig.is) (canonical_shows drawn.history
            fig.drawing drawn.denoted.delivers.valid drawn.such.canonical);
      };
      written = written;
    }

-- the named text of what the bytes denote shows it
pub named_exported : (bytes text : List ℕ) (old new : Option (List ℕ)) → IsNamedOf bytes text
    → Appends old new text → Exports bytes old new
named_exported bytes text old new named written = record {
  text = text;
  is = record {
    history = named.history;
    denoted = named.denoted;
    such = named_text_shows named.history text named.denoted.delivers.valid named.such;
  };
  written = written;
}
