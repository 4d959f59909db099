-- All sites of a session have the operations of each.
use Rattle.std.specs.Prelude.{Contains}
use Rattle.std.proofs.Common.{◌≡◌, ◌∙◌, ℕ, ◌++◌, List, [], ◌∷◌, length, get_or, ap, arith, subst}
use Rattle.std.proofs.Common.{sym, inl, inr}
use Rattle.std.proofs.lemmas.List.Elements.{Contains-get_or}
use Rattle.gf_ops.specs.declared.op.Op.{Op}
use Rattle.gf_ops.specs.ValidHistory.{IsValid}
use Rattle.gf_base.proofs.ListLemmas.{Contains-cons_cases, Contains-cons_head, Contains-cons_tail}
use Rattle.gf_base.proofs.ListLemmas.{not_Contains-nil}
use Rattle.gf_causal.specs.DeliveredPart.{HaveSame}
use Rattle.gf_shape.specs.declared.any_shape.AnyShape.{AnyShape}
use Rattle.gf_shape.specs.Outlines.{any_outline}
use Rattle.gf_figures.specs.DrawingState.{DrawingState}
use Rattle.gf_figures.specs.Outlined.{outlined}
use Rattle.gf_drawing.specs.declared.compiling.CompileFault.TheVariants as compile
use Rattle.gf_fig_read.specs.FigGrammar.{Reads}
use Rattle.gf_fig_write.specs.FigText.{fig_text}
use Rattle.gf_fig_write.specs.ShownHistory.{Shows}
use Rattle.gf_fig_write.proofs.CanonicalLemmas.{canonical_shows, shows}
use Rattle.gf_run.specs.declared.studio_error.StudioError.{StudioError}
use Rattle.gf_run.specs.declared.studio_error.StudioError.TheVariants as studio
use Rattle.gf_studio.specs.FigRun.{IsDrawn}
use Rattle.gf_studio.proofs.DrawnLemmas.{both_drawn, one_drawing}
use Rattle.gf_worker.specs.declared.script.Script.{Script}
use Rattle.gf_session.specs.declared.session.Done.{Done}
use Rattle.gf_site.specs.Course.{IsCourse}
use Rattle.gf_site.specs.Course.{none as course_none, next as course_next}
use Rattle.gf_site.proofs.ValidLemmas.{valid_nil}
use Rattle.gf_session.specs.Session.{IsSession, site_end, site_ends}
use Rattle.gf_session_run.specs.DenotedScripts.{DenotesScripts}
use Rattle.gf_session_run.specs.Reports.{report_text}
use Rattle.gf_session_run.specs.SessionRun.{IsSiteCount, PlaysScripts, RefusesSession, TellsSession}
use Rattle.gf_session_run.specs.SessionSteps.{RefusesTelling, TellsHistory}
use Rattle.gf_session_run.specs.declared.session_run_error.SessionRunError.TheVariants as run

-- the place that a site has in the outcome
record IsPlace (scripts : List Script) (dones : List Done) (d : Done) : Type 0 where
  script : Script
  there : Contains (site_ends scripts dones) (site_end script d)

has_place : (scripts : List Script) (dones : List Done) → length dones ≡ length scripts → (d : Done)
    → Contains dones d → IsPlace scripts dones d
has_place scripts [] e d i = absurd (not_Contains-nil d i)
has_place [] (x ∷ dones) e d i = absurd (omega (e, arith))
has_place (s ∷ scripts) (x ∷ dones) e d i = elim (Contains-cons_cases x dones d i) [
  | inl q ↦ record {
    script = s;
    there = subst (λ y. Contains (site_end s x ∷ site_ends scripts dones) (site_end s y)) (sym q)
        (Contains-cons_head (site_end s x) (site_ends scripts dones));
  }
  | inr j ↦ let p = has_place scripts dones (omega (e, arith)) d j in record {
    script = p.script;
    there = Contains-cons_tail (site_end s x) (site_ends scripts dones) (site_end p.script d)
        p.there;
  }
]

pub common_history : (scripts : List Script) (dones : List Done) → IsSession scripts dones
    → (d e : Done) → Contains dones d → Contains dones e → HaveSame d.site.ops e.site.ops
common_history scripts dones session d e i j =
    let p = has_place scripts dones session.long d i in
    let q = has_place scripts dones session.long e j in
    session.outcome.same (site_end p.script d) (site_end q.script e) p.there q.there

course_valid : {s : ℕ} {h : List Op} → IsCourse s h → IsValid h
course_valid course_none = valid_nil
course_valid (course_next a c valid own) = valid

pub site_valid : (scripts : List Script) (dones : List Done) → IsSession scripts dones → (d : Done)
    → Contains dones d → IsValid d.site.ops
site_valid scripts dones session d i =
    let p = has_place scripts dones session.long d i in
    course_valid (session.outcome.each (site_end p.script d) p.there).course

-- histories of the same operations have one FIG text, which shows both
module _ (h k : List Op) (same : HaveSame h k) where
  pub one_text : (drawing other : DrawingState AnyShape) → IsDrawn h drawing → IsDrawn k other
      → fig_text any_outline drawing ≡ fig_text any_outline other
  one_text drawing other x y = ap (fig_text any_outline)
      (one_drawing h k same drawing other x.canonical y.canonical)

  pub text_shows : IsValid k → (drawing : DrawingState AnyShape) → IsDrawn h drawing
      → Shows (fig_text any_outline drawing) k
  text_shows valid drawing x = canonical_shows k drawing valid
      (both_drawn h k same drawing x).canonical

-- each site has the common history, whose text is told
module _ (n : ℕ) (bytes text : List ℕ) (t : TellsSession n bytes text) (d : Done)
    (i : Contains t.dones d) where
  pub told_common : HaveSame t.history d.site.ops
  told_common = let same = t.plays.common d i in λ a. ((same a).1, (same a).0)

  pub told_shows : (drawing : DrawingState AnyShape) → IsDrawn d.site.ops drawing
      → Shows (fig_text any_outline drawing) t.history
  told_shows drawing x = subst (λ (s : List ℕ). Shows s t.history)
      (sym (one_text d.site.ops t.history (t.plays.common d i) drawing t.drawing x t.drawn)) t.shown

-- there is a first site
pub first_there : (n : ℕ) (bytes : List ℕ) (scripts : List Script) (dones : List Done)
    (first : Done) → IsSiteCount n → DenotesScripts n bytes scripts → IsSession scripts dones
    → first ≡ get_or dones 0 first → Contains dones first
first_there n bytes scripts dones first count denoted session is =
    let long = session.long in
    let whole = denoted.by_site.long in
    subst (Contains dones) (sym is) (Contains-get_or dones 0 first (let least = count.0 in
    omega (least, arith)))

-- the text of the lines of all sites with the FIG text of the drawing of h
pub told_history : (h : List Op) (dones : List Done) (text fig : List ℕ)
    (drawing : DrawingState AnyShape) → IsDrawn h drawing → fig ≡ fig_text any_outline drawing
    → Reads fig (outlined any_outline drawing) → text ≡ report_text dones ++ fig
    → TellsHistory h dones text
told_history h dones text fig drawing drawn same reads is = record {
  drawing = drawing;
  drawn = drawn;
  shown = shows h drawing drawn.figures (subst (λ t. Reads t (outlined any_outline drawing)) same
      reads);
  is = is ∙ ap (λ t. report_text dones ++ t) same;
}

-- scripts that the bytes denote were played, and first is what one of the sites came to
module _ (n : ℕ) (bytes : List ℕ) (scripts : List Script) (dones : List Done) (first : Done)
    (denoted : DenotesScripts n bytes scripts) (session : IsSession scripts dones)
    (there : Contains dones first) where
  plays : PlaysScripts n bytes dones first.site.ops
  plays = record {
    scripts = scripts;
    denoted = denoted;
    session = session;
    common = λ d i. common_history scripts dones session d first i there;
  }

  pub told_session : (text : List ℕ) → TellsHistory first.site.ops dones text
      → TellsSession n bytes text
  told_session text tells = record {
    dones = dones;
    history = first.site.ops;
    plays = plays;
    drawing = tells.drawing;
    drawn = tells.drawn;
    shown = tells.shown;
    is = tells.is;
  }

  pub not_told : (e : StudioError) → RefusesTelling first.site.ops e
      → RefusesSession n bytes (run.Run e)
  not_told (studio.Compile compile.TooManyVersions) refused = record {
    dones = dones;
    history = first.site.ops;
    plays = plays;
    refused = refused;
  }
  not_told (studio.Compile compile.TooManyColours) refused = record {
    dones = dones;
    history = first.site.ops;
    plays = plays;
    refused = refused;
  }
  not_told (studio.Compile compile.OutOfMemory) refused = absurd refused
  not_told studio.OutOfMemory refused = tt
  not_told (studio.Line m why) refused = absurd refused
  not_told (studio.Dropped id fault) refused = absurd refused
  not_told (studio.Fig e) refused = absurd refused
  not_told (studio.NoObject o) refused = absurd refused
  not_told studio.ReadFailed refused = absurd refused
  not_told studio.TooLong refused = absurd refused
  not_told studio.WriteFailed refused = absurd refused
