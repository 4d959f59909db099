-- How what a site made behind its base grows, and why it makes no more.
use Rattle.std.proofs.Common.{◌≡◌, ℕ, List, [], ◌∷◌, ◌++◌, refl, sym, ap, subst, ◌∙◌, inl, inr}
use Rattle.std.proofs.Common.{append_assoc}
use Rattle.std.specs.Prelude.{All, None, Option, Some, map, unwrap_or}
use Rattle.std.proofs.lemmas.List.{append-nil}
use Rattle.std.proofs.lemmas.List.Elements.{All-map}
use Rattle.gf_ops.specs.declared.op.Op.{Op}
use Rattle.gf_ops.specs.declared.change.Change.{Change}
use Rattle.gf_site.specs.Events.{Refuses}
use Rattle.gf_site.specs.MadeEach.{MakesEach, next as each_next, none as each_none}
use Rattle.gf_site.specs.SiteState.{SiteState, authored}
use Rattle.gf_site.specs.declared.faults.AuthorFault.{AuthorFault}
use Rattle.gf_ops.specs.Accepted.{AreAccepted}
use Rattle.gf_ops.specs.ValidHistory.{IsValid}
use Rattle.gf_shape.specs.declared.any_shape.AnyShape.{AnyShape}
use Rattle.gf_versions.specs.declared.placed.Ranked.{Ranked}
use Rattle.gf_drawing.specs.CanonicalDrawing.{PaintsAsFig}
use Rattle.gf_fig_read.specs.Objects.{Drawn}
use Rattle.gf_take.specs.ShownDrawing.{ShowsDrawing}
use Rattle.gf_take.specs.Taking.{HasMade, RefusesMaking}
use Rattle.gf_take.proofs.TakingLemmas.{made_none}
use Rattle.gf_take_run.specs.declared.making.MadeFrom.{MadeFrom}
use Rattle.gf_take_run.specs.declared.planning.Making.{Making}
use Rattle.gf_take_run.specs.ChangedObjects.{MayChange}
use Rattle.gf_take_run.specs.LeftObjects.{LeavesStanding}
use Rattle.gf_take_run.specs.TakeSteps.{AreListed, AreListedBehind, IsMaking, MakesOther}

-- changes made behind others are made with them
each_append : (s : ℕ) (h : List Op) (cs : List Change) (new : List Op) → MakesEach s h cs new
    → (ds : List Change) (more : List Op) → MakesEach s (h ++ new) ds more
    → MakesEach s h (cs ++ ds) (new ++ more)
each_append s h cs new each_none ds more m =
    subst (λ (l : List Op). MakesEach s l ds more) (append-nil h) m
each_append s h cs new (each_next {cs = rest} {new = made} c range ok n) ds more m =
    let a = authored s h c in
    each_next c range ok (each_append s (h ++ a ∷ []) rest made n ds more
    (subst (λ (l : List Op). MakesEach s l ds more) (sym (append_assoc h (a ∷ []) made)) m))

-- each operation has the change that it was made of
each_changes : (s : ℕ) (h : List Op) (cs : List Change) (new : List Op) → MakesEach s h cs new
    → map (λ (a : Op). a.change) new ≡ cs
each_changes s h cs new each_none = refl
each_changes s h cs new (each_next {cs = rest} {new = made} c range ok n) =
    ap (λ l. c ∷ l) (each_changes s (h ++ authored s h c ∷ []) rest made n)

-- what holds of the change of each operation holds of each change
pub all_changes : (P : Change → Type 0) (s : ℕ) (h : List Op) (cs : List Change) (new : List Op)
    → MakesEach s h cs new → All (λ (a : Op). P a.change) new → All P cs
all_changes P s h cs new makes all =
    subst (All P) (each_changes s h cs new makes) (All-map P (λ (a : Op). a.change) new all)

module _ (s : ℕ) (b : List Op) (old : Making) (m : IsMaking s b old) where
  -- what is made behind what the site has is made behind this base and what it made
  behind : (cs : List Change) (more : List Op)
      → MakesEach old.site.number old.site.ops cs more
      → MakesEach s b (m.changes ++ cs) (old.ops.items ++ more)
  behind cs more makes =
      each_append s b m.changes old.ops.items m.made.makes cs more
      (subst (λ (l : List Op). MakesEach s l cs more) m.made.ops
      (subst (λ k. MakesEach k old.site.ops cs more) m.made.number makes))

  pub making_more : (cs : List Change) (more : List Op) (new : Making)
      → HasMade old.site.number old.site.ops cs new.site more
      → new.ops.items ≡ old.ops.items ++ more → IsMaking s b new
  making_more cs more new has grown = record {
    changes = m.changes ++ cs;
    made = record {
      makes = subst (MakesEach s b (m.changes ++ cs)) (sym grown) (behind cs more has.makes);
      ops = has.ops ∙ (ap (λ l. l ++ more) m.made.ops
          ∙ (append_assoc b old.ops.items more ∙ ap (λ l. b ++ l) (sym grown)));
      number = has.number ∙ m.made.number;
    };
  }

  -- a change that the site refuses is the first one that it refuses behind its base
  pub making_refused : (cs : List Change) (why : AuthorFault)
      → RefusesMaking old.site.number old.site.ops cs why
      → RefusesMaking s b (m.changes ++ cs) why
  making_refused cs why (inl e) = inl e
  making_refused cs why (inr r) = inr (record {
    before = m.changes ++ r.before;
    change = r.change;
    after = r.after;
    whole = ap (λ l. m.changes ++ l) r.whole
        ∙ sym (append_assoc m.changes r.before (r.change ∷ r.after));
    new = old.ops.items ++ r.new;
    makes = behind r.before r.new r.makes;
    refused = subst (λ (l : List Op). Refuses s l r.change why)
        (ap (λ l. l ++ r.new) m.made.ops ∙ append_assoc b old.ops.items r.new)
        (subst (λ k. Refuses k (old.site.ops ++ r.new) r.change why) m.made.number r.refused);
  })

-- ---- what is made

-- at first nothing is made
pub making_first : (s : ℕ) (b : List Op) (m : Making) → m.site.number ≡ s → m.site.ops ≡ b
    → m.ops.items ≡ [] → IsMaking s b m
making_first s b m number is none =
    record { changes = []; made = made_none s b m.site m.ops.items number is none }

-- what is shown at the end is what was listed last, or at first where nothing was made
pub listed_last : (old new : Making) (last : Option (Ranked AnyShape))
    (versions shown : Ranked AnyShape) → AreListedBehind old new last
    → AreListed old.site.ops versions → shown ≡ unwrap_or last versions
    → AreListed new.site.ops shown
listed_last old new None versions shown same listed e =
    subst (AreListed new.site.ops) (sym e)
    (subst (λ (m : Making). AreListed m.site.ops versions) (sym same) listed)
listed_last old new (Some now) versions shown listed first e =
    subst (AreListed new.site.ops) (sym e) listed

-- what was made is taken where it shows the drawing, on what the base shows or the text names, and
-- leaves what stands in the drawing
pub makes_other : (s : ℕ) (b : List Op) (fig : List ℕ) (d : Drawn) (m : Making) (made : MadeFrom)
    → IsMaking s b m → made.site ≡ m.site → made.ops.items ≡ m.ops.items → AreAccepted m.site.ops
    → IsValid m.site.ops → ShowsDrawing m.site.ops d → PaintsAsFig m.site.ops d
    → All (λ (a : Op). MayChange b fig a.change) m.ops.items
    → All (λ (a : Op). LeavesStanding b fig d a.change) m.ops.items
    → AreListed m.site.ops made.shown → MakesOther s b fig d made
makes_other s b fig d m made i site ops accepted valid shows paints may standing listed =
    let whole : m.site.ops ≡ b ++ made.ops.items = i.made.ops ∙ ap (λ l. b ++ l) (sym ops) in
    record {
      changes = i.changes;
      takes = record {
        makes = subst (MakesEach s b i.changes) (sym ops) i.made.makes;
        accepted = subst AreAccepted whole accepted;
        valid = subst IsValid whole valid;
        shows = subst (λ (h : List Op). ShowsDrawing h d) whole shows;
        paints = subst (λ (h : List Op). PaintsAsFig h d) whole paints;
      };
      may = all_changes (MayChange b fig) s b i.changes m.ops.items i.made.makes may;
      standing = all_changes (LeavesStanding b fig d) s b i.changes m.ops.items i.made.makes
          standing;
      site = ap (λ (x : SiteState). x.ops) site ∙ whole;
      listed = subst (λ (x : SiteState). AreListed x.ops made.shown) (sym site) listed;
    }
