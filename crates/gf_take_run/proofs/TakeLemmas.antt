-- What was read of operation lines, and what is written of operations.
use Rattle.std.proofs.Common.{◌≡◌, ℕ, ◌+◌, ◌<◌, ◌≤◌, List, [], ◌∷◌, ◌++◌, length, get_or, take}
use Rattle.std.proofs.Common.{refl}
use Rattle.std.proofs.Common.{sym, ap, subst, ◌∙◌, inl, inr}
use Rattle.std.proofs.Common.{Global}
use Rattle.std.specs.Prelude.{◌⊎◌, Err, IfErr, IfOk, IfSome, IsSomeAnd, None, Ok, Option, Result}
use Rattle.std.specs.Prelude.{Some, Vec}
use Rattle.std.proofs.lemmas.Grind.{flat_map-append}
use Rattle.std.proofs.lemmas.List.{append-nil, take_more}
use Rattle.std.proofs.lemmas.List.Elements.{Contains-push_cases}
use Rattle.gf_base.proofs.ListLemmas.{not_Contains-nil}
use Rattle.gf_ops.specs.declared.op.Op.{Op}
use Rattle.gf_ops.specs.declared.op.ObjectId.{ObjectId}
use Rattle.gf_ops.specs.declared.op.OpId.{OpId}
use Rattle.gf_ops.specs.Accepted.{AreAccepted}
use Rattle.gf_json.specs.OperationLines.{denoted}
use Rattle.gf_json.specs.WrittenLines.{op_text}
use Rattle.gf_site.specs.ReplicaState.{ReplicaState}
use Rattle.gf_site.specs.SiteState.{SiteState, at_site}
use Rattle.gf_replay.specs.Denoting.{AreLinesOf}
use Rattle.gf_replay.specs.Behind.{Divides}
use Rattle.gf_replay.specs.Waiting.{DenotesWaiting}
use Rattle.gf_streams.specs.TextLines.{numbered_lines}
use Rattle.gf_edit.specs.EntrySteps.{HoldsBlocking, IsUnblocked}
use Rattle.gf_edit.specs.MadeOperations.{made_of, made_until}
use Rattle.gf_edit.specs.Making.{written_line, written_lines}
use Rattle.gf_edit.proofs.BlockingLemmas.{first_blocks, none_blocks}
use Rattle.gf_edit.proofs.CleanLemmas.{op_clean}
use Rattle.gf_edit.proofs.MakingLemmas.{made_push}
use Rattle.gf_edit.proofs.WrittenLemmas.{op_shown, written_from}
use Rattle.gf_ops.specs.declared.op.Clock.{Clock}
use Rattle.gf_ops.specs.declared.change.Change.{Change}
use Rattle.gf_fig_named.specs.ThinPolygons.{AreThinOf}
use Rattle.gf_fig_read.specs.Objects.{Drawn}
use Rattle.gf_run.specs.Answers.{GivesText, Refuses, WritesAnswer}
use Rattle.gf_run.specs.RunAnswers.{WritesPrefix}
use Rattle.gf_run.specs.RefusedRuns.{IsOfRun}
use Rattle.gf_run.specs.declared.studio_error.StudioError.TheVariants as studio
use Rattle.gf_site.specs.MadeEach.{MakesEach, next as each_next, none as each_none}
use Rattle.gf_take.specs.Bases.{AreRead, IsBase}
use Rattle.gf_take.specs.ShownDrawing.{LooksLike}
use Rattle.gf_take.proofs.AlikeLemmas.{like_shows, like_takes}
use Rattle.gf_take.proofs.FrontLemmas.{shown_paints}
use Rattle.gf_fig_read.specs.FigGrammar.{Reads}
use Rattle.gf_fig_read.proofs.LawfulLemmas.{lawful_read}
use Rattle.gf_ops.specs.ValidHistory.{IsValid}
use Rattle.std.proofs.lemmas.List.Elements.{All-nil}
use Rattle.gf_take_run.specs.declared.drawing_error.DrawingError.{DrawingError}
use Rattle.gf_take_run.specs.declared.drawing_error.DrawingError.TheVariants as error
use Rattle.gf_take_run.specs.declared.making.MadeFrom.{MadeFrom}
use Rattle.gf_take_run.specs.ChangedObjects.{MayChange}
use Rattle.gf_take_run.specs.LeftObjects.{LeavesStanding}
use Rattle.gf_take_run.specs.declared.request.TakeRequest.{TakeRequest}
use Rattle.gf_ops.specs.OperationOrder.{count_of}
use Rattle.gf_take_run.specs.ToldNumbers.{CountsObjects, alters, creates, hides}
use Rattle.gf_take_run.specs.declared.take_run_error.TakeRunError.{TakeRunError}
use Rattle.gf_take_run.specs.declared.take_run_error.TakeRunError.TheVariants as refused
use Rattle.gf_take_run.specs.declared.taken.Taken.{Taken}
use Rattle.gf_take_run.specs.declared.behind.MadeBehind.{MadeBehind}
use Rattle.gf_run.specs.declared.answering.Answer.{Answer}
use Rattle.gf_take_run.specs.Parting.{IsParted}
use Rattle.gf_take_run.specs.KnownHistory.{AreThere, IsAbsent, IsNewer, since_drawing}
use Rattle.gf_take_run.specs.TakenText.{DenotesDrawing, DenotesLines}
use Rattle.gf_take_run.specs.TakeRun.{DenotesOps, GoesBeyond, HasBase, HasBlocking, HasNewer}
use Rattle.gf_take_run.specs.TakeRun.{IsExhausted, RefusesFigText}
use Rattle.gf_take_run.specs.TakeRun.{IsBehind, IsTakeOf, LooksOtherwise, ReadsBoth, ShowsMany}
use Rattle.gf_take_run.specs.TakeRun.{StaysWithin, WritesTake}
use Rattle.gf_take_run.specs.TakeRun.{RefusesParts, RefusesTaking, TakesText, of_take, input, parts}
use Rattle.gf_take_run.specs.TakeSteps.{AreListed, IsBeyondMost}
use Rattle.gf_take_run.specs.TakenBehind.{AreWritten, IsWrittenText}
use Rattle.gf_take_run.specs.TakeSteps.{MakesBehind, MakesFrom, MakesOther, RefusesBase}
use Rattle.gf_take_run.specs.TakeSteps.{RefusesBehind, RefusesDrawing, RefusesPlan, TakesFrom}
use Rattle.gf_take_run.specs.TakeSteps.{TakesParts, told}
use Rattle.gf_take_run.specs.TakenBehind.{TakesBehind, TakesSo}

-- ---- what was read

module _ (s : ℕ) (known : List Op) (x : ReplicaState) (d : Divides known x.ops x.held) where
  -- operations by which nothing is blocked are read
  pub are_read : AreAccepted x.ops → IsUnblocked (at_site s x) → AreRead s known x.ops
  are_read accepted none = record {
    delivers = d.delivers;
    accepted = accepted;
    free = none_blocks s known x d.others none;
  }

  -- what blocks the site is among them
  pub has_blocking : (i j : OpId) → HoldsBlocking (at_site s x) i j → HasBlocking s known i j
  has_blocking i j b = record {
    history = x.ops;
    waiting = x.held;
    divided = d;
    op = b.op;
    blocking = first_blocks s known x d.others b.op b.first;
    named = b.named;
    waits = b.waits;
  }

-- what lines denote is delivered, or waits
pub lines_divided : (lines : List ℕ) (h waiting : List Op) (d : DenotesWaiting lines h waiting)
    → Divides d.ops h waiting
lines_divided lines h waiting d = record { delivers = d.delivers; others = d.others }

-- what is refused behind operations is refused behind their lines
pub lines_refused : (q : TakeRequest) (lines fig : List ℕ) (ops : List Op)
    → AreLinesOf (numbered_lines lines) ops → (e : TakeRunError) → RefusesFigText q ops fig e
    → RefusesParts q lines fig e
lines_refused q lines fig ops denoted = cases
  where
    such : (Such : List Op → Type 0) → Such ops → DenotesOps lines Such
    such Such f = record { ops = ops; denoted = denoted; such = f }

    cases : (e : TakeRunError) → RefusesFigText q ops fig e → RefusesParts q lines fig e
    cases (refused.Run studio.OutOfMemory) f = tt
    cases (refused.Run studio.ReadFailed) f = absurd f
    cases (refused.Run studio.TooLong) f = absurd f
    cases (refused.Run (studio.Line n why)) f = absurd f
    cases (refused.Run (studio.Dropped i why)) f = absurd f
    cases (refused.Run (studio.Fig fault)) f = absurd f
    cases (refused.Run (studio.Compile fault)) f = absurd f
    cases (refused.Run (studio.NoObject o)) f = absurd f
    cases (refused.Run studio.WriteFailed) f = absurd f
    cases (refused.Waits i j) f = such _ f
    cases refused.NoDrawing f = absurd f
    cases (refused.Fig faults) f = such _ f
    cases (refused.Figure broken) f = such _ f
    cases refused.TooManyFigures f = such _ f
    cases refused.Unnamed f = such _ f
    cases (refused.Absent i) f = such _ f
    cases (refused.Older i j) f = such _ f
    cases (refused.Behind i) f = such _ f
    cases refused.Exhausted f = such _ f
    cases refused.Differs f = such _ f

module _ (lines : List ℕ) (h waiting : List Op) (d : DenotesWaiting lines h waiting) where
  -- a site that read what the lines denote
  pub lines_read : (s : ℕ) (r : Result SiteState TakeRunError)
      → IfOk r (λ x. AreRead s d.ops x.ops) → IfOk r (λ x. DenotesLines s lines x.ops)
  lines_read s (Ok x) read = record { ops = d.ops; denoted = d.lines; read = read }
  lines_read s (Err e) read = tt

  -- a site that was refused what the lines denote
  pub lines_unread : (q : TakeRequest) (fig : List ℕ) (r : Result SiteState TakeRunError)
      → IfErr r (RefusesFigText q d.ops fig) → IfErr r (RefusesParts q lines fig)
  lines_unread q fig (Ok x) f = tt
  lines_unread q fig (Err e) f = lines_refused q lines fig d.ops d.lines e f

-- ---- what is written

-- one more operation is told
pub told_more : (ops : List Op) (k : ℕ) (a : Op) → k < length ops → a ≡ get_or ops k a
    → Some (made_until (made_of (take k ops)) a.id) ≡ made_of (take (k + 1) ops)
told_more ops k a l is =
    made_push (take k ops) a ∙ sym (ap made_of (more ops k a l is))
  where
    more : (ops : List Op) (k : ℕ) (a : Op) → k < length ops → a ≡ get_or ops k a
        → take (k + 1) ops ≡ take k ops ++ a ∷ []
    more ops k a l is = take_more ops k a l ∙ ap (λ (b : Op). take k ops ++ b ∷ []) (sym is)

pub written_none : (text : List ℕ) → text ≡ [] → AreWritten [] text
written_none text e = record { is = e; reads = λ a i. absurd (not_Contains-nil a i) }

-- the line of one more operation is written
pub written_more : (ops : List Op) (k : ℕ) (a : Op) (text new : List ℕ) → k < length ops
    → a ≡ get_or ops k a → AreWritten (take k ops) text → new ≡ text ++ written_line a
    → denoted (op_text a) ≡ Ok a → AreWritten (take (k + 1) ops) new
written_more ops k a text new l is w grown reads =
    subst (λ (os : List Op). AreWritten os new) (sym more) (record {
      is = grown ∙ (ap (λ t. t ++ written_line a) w.is
          ∙ (ap (λ t. written_lines (take k ops) ++ t) (sym (append-nil (written_line a)))
          ∙ sym (flat_map-append written_line (take k ops) (a ∷ []))));
      reads = λ b i. elim (Contains-push_cases (take k ops) a b i) [
        | inl j ↦ w.reads b j
        | inr q ↦ subst (λ (c : Op). denoted (op_text c) ≡ Ok c) q reads
      ];
    })
  where
    more : take (k + 1) ops ≡ take k ops ++ a ∷ []
    more = take_more ops k a l ∙ ap (λ (b : Op). take k ops ++ b ∷ []) (sym is)

-- the written text denotes the operations
pub written_denotes : (new : List Op) (text : List ℕ) → AreWritten new text
    → AreLinesOf (numbered_lines text) new
written_denotes new text w =
    subst (λ t. AreLinesOf (numbered_lines t) new) (sym w.is) (written_from 1 new (λ a i. record {
      whole = op_clean a;
      shown = op_shown a;
      denotes = w.reads a i;
    }))

-- ---- what is taken

-- what is made behind a base is taken, where all that the drawing knew is there, and no operation
-- of the site is newer
pub takes_so : (q : TakeRequest) (h : List Op) (fig : List ℕ) (drawing : Drawn) (knew : Clock)
    (m : MadeBehind) (t : Answer Taken) → AreThere knew h
    → ((a x : Op) → ¬ (IsNewer q.site knew h a x)) → MakesBehind q h fig drawing knew m
    → IsWrittenText q.named h m.ops.items t.text.items → t.value.made ≡ made_of m.ops.items
    → CountsObjects alters m.ops.items t.value.changed
    → CountsObjects hides m.ops.items t.value.hidden
    → CountsObjects creates m.ops.items t.value.drawn
    → t.value.since ≡ since_drawing q.site knew h → t.value.thin.items ≡ m.thin.items
    → TakesSo q h fig drawing knew m.ops.items t
takes_so q h fig drawing knew m t there young behind text made changed hidden drawn since thin =
    record {
      taken = record {
        there = there;
        young = young;
        base = behind.base;
        is_base = behind.is_base;
        changes = behind.taken.changes;
        takes = behind.taken.takes;
        may = behind.taken.may;
        standing = behind.taken.standing;
        same = behind.taken.same;
      };
      within = behind.taken.within;
      text = text;
      made = made;
      changed = changed;
      hidden = hidden;
      drawn = drawn;
      since = since;
      thin = subst (AreThinOf behind.base) (sym thin) behind.thin;
    }

-- of no changes no operations are made
pub makes_none : {m : ℕ} {base : List Op} {changes : List Change} {new : List Op}
    → MakesEach m base changes new → changes ≡ [] → new ≡ []
makes_none each_none e = refl
makes_none (each_next c in_range accepted more) e = absurd cc

none_within : (s : ℕ) (after : Option ℕ) (b : List Op) → StaysWithin s after b []
none_within s None b = tt
none_within s (Some n) b = inr refl

few_within : (s : ℕ) (after : Option ℕ) (b new : List Op) → IfSome after (λ n. count_of b s ≤ n)
    → StaysWithin s after b new
few_within s None b new few = tt
few_within s (Some n) b new few = inl few

-- what looks like the drawing takes it by nothing
pub takes_nothing : (s : ℕ) (after : Option ℕ) (b : List Op) (fig : List ℕ) (d : Drawn)
    (made : MadeFrom) → AreAccepted b → IsValid b → LooksLike b d → Reads fig d
    → made.ops.items ≡ [] → made.site.ops ≡ b → AreListed b made.shown
    → AreThinOf b made.thin.items → MakesFrom s after b fig d made
takes_nothing s after b fig d made accepted valid like reads none is listed thin = record {
  taken = subst (TakesFrom s after b fig d) (sym none) (record {
    changes = [];
    takes = like_takes s b d accepted valid like
        (shown_paints b d (lawful_read fig d reads) (like_shows b d like));
    may = All-nil (MayChange b fig);
    standing = All-nil (LeavesStanding b fig d);
    same = λ l. refl;
    within = none_within s after b;
  });
  site = is ∙ (sym (append-nil b) ∙ ap (λ l. b ++ l) (sym none));
  listed = subst (λ (h : List Op). AreListed h made.shown) (sym is) listed;
  thin = thin;
}

-- what does not look like the drawing takes it by its changes
pub takes_changes : (s : ℕ) (after : Option ℕ) (b : List Op) (fig : List ℕ) (d : Drawn)
    (made : MadeFrom) → ¬ (LooksLike b d) → IfSome after (λ n. count_of b s ≤ n)
    → MakesOther s b fig d made → AreThinOf b made.thin.items → MakesFrom s after b fig d made
takes_changes s after b fig d made other few o thin = record {
  taken = record {
    changes = o.changes;
    takes = o.takes;
    may = o.may;
    standing = o.standing;
    same = λ l. absurd (other l);
    within = few_within s after b made.ops.items few;
  };
  site = o.site;
  listed = o.listed;
  thin = thin;
}

-- a site that has more operations than were asked for makes nothing
pub behind_refuses : (s : ℕ) (after : Option ℕ) (b : List Op) (d : Drawn) (i : OpId)
    → ¬ (LooksLike b d) → IsBeyondMost s after b i → IsBehind s after i b d
behind_refuses s after b d i other f =
    record { otherwise = other; most = f.most; asked = f.asked; more = f.more; last = f.last }

-- why nothing is planned is why a base that looks otherwise makes nothing
pub plan_refuses : (s : ℕ) (after : Option ℕ) (b : List Op) (fig : List ℕ) (d : Drawn)
    (e : DrawingError) → ¬ (LooksLike b d) → RefusesPlan s b fig d e
    → RefusesBase s after b fig d e
plan_refuses s after b fig d error.OutOfMemory other f = tt
plan_refuses s after b fig d error.Differs other f = other
plan_refuses s after b fig d error.Exhausted other f =
    record { otherwise = other; changes = f.changes; refused = f.refused }
plan_refuses s after b fig d (error.Figure broken) other f =
    (record { otherwise = other; breaks = f.0 }, f.1)
plan_refuses s after b fig d error.TooManyFigures other f = absurd f
plan_refuses s after b fig d (error.Absent i) other f = absurd f
plan_refuses s after b fig d (error.Older i j) other f = absurd f
plan_refuses s after b fig d (error.Behind i) other f = absurd f

-- what is made of a drawing that the base does not look like
pub other_taken : (s : ℕ) (after : Option ℕ) (b : List Op) (fig : List ℕ) (d : Drawn)
    (thin : Vec ObjectId Global) (r : Result MadeFrom DrawingError) → ¬ (LooksLike b d)
    → IfSome after (λ n. count_of b s ≤ n) → AreThinOf b thin.items
    → IfOk r (MakesOther s b fig d) → IfOk r (λ made. made.thin ≡ thin)
    → IfOk r (MakesFrom s after b fig d)
other_taken s after b fig d thin (Ok made) other few are o same =
    takes_changes s after b fig d made other few o
    (subst (λ (ids : Vec ObjectId Global). AreThinOf b ids.items) (sym same) are)
other_taken s after b fig d thin (Err e) other few are o same = tt

pub other_refused : (s : ℕ) (after : Option ℕ) (b : List Op) (fig : List ℕ) (d : Drawn)
    (r : Result MadeFrom DrawingError) → ¬ (LooksLike b d) → IfErr r (RefusesPlan s b fig d)
    → IfErr r (RefusesBase s after b fig d)
other_refused s after b fig d (Ok made) other f = tt
other_refused s after b fig d (Err e) other f = plan_refuses s after b fig d e other f

-- why the base makes nothing is why nothing is taken behind it
base_refuses : (q : TakeRequest) (h base : List Op) (fig : List ℕ) (d : Drawn) (knew : Clock)
    (e : DrawingError) → AreThere knew h → ((a x : Op) → ¬ (IsNewer q.site knew h a x))
    → IsBase q.site knew h base → RefusesBase q.site q.after base fig d e
    → RefusesDrawing q h fig d knew e
base_refuses q h base fig d knew e there young is = cases e
  where
    from : (Such : List Op → Drawn → Type 0) → Such base d → HasBase q.site Such h d knew
    from Such such = record {
      there = there;
      young = young;
      base = base;
      is_base = is;
      such = such;
    }

    cases : (e : DrawingError) → RefusesBase q.site q.after base fig d e
        → RefusesDrawing q h fig d knew e
    cases error.OutOfMemory f = tt
    cases error.TooManyFigures f = from ShowsMany f
    cases (error.Figure broken) f = (from (GoesBeyond broken.object broken.fault) f.0, f.1)
    cases (error.Behind i) f = from (IsBehind q.site q.after i) f
    cases error.Exhausted f = from (IsExhausted q.site) f
    cases error.Differs f = from LooksOtherwise f
    cases (error.Absent i) f = absurd f
    cases (error.Older i j) f = absurd f

-- why nothing is made behind what the drawing knew is why nothing is taken
pub behind_refused : (q : TakeRequest) (h : List Op) (fig : List ℕ) (d : Drawn) (knew : Clock)
    (e : DrawingError) → AreThere knew h → ((a x : Op) → ¬ (IsNewer q.site knew h a x))
    → RefusesBehind q h fig d knew e → RefusesDrawing q h fig d knew e
behind_refused q h fig d knew e there young (inl is) =
    subst (RefusesDrawing q h fig d knew) (sym is) tt
behind_refused q h fig d knew e there young (inr f) =
    base_refuses q h f.base fig d knew e there young f.is_base f.refused

module _ (q : TakeRequest) (known : List Op) (fig : List ℕ) (h : List Op)
    (read : AreRead q.site known h) (drawing : Drawn) (knew : Clock)
    (drawn : DenotesDrawing fig drawing knew) where
  pub taken_behind : (new : List Op) (t : Answer Taken) → TakesSo q h fig drawing knew new t
      → TakesBehind q known h fig new t
  taken_behind new t p = record {
    read = read;
    drawing = drawing;
    knew = knew;
    drawn = drawn;
    takes = p;
  }

  both : (Such : List Op → Drawn → Clock → Type 0) → Such h drawing knew
      → ReadsBoth q.site known fig Such
  both Such such = record {
    history = h;
    read = read;
    drawing = drawing;
    knew = knew;
    drawn = drawn;
    such = such;
  }

  pub refused_behind : (e : DrawingError) → RefusesDrawing q h fig drawing knew e
      → RefusesFigText q known fig (told e)
  refused_behind (error.Absent i) f = both (λ h drawing knew. IsAbsent knew h i) f
  refused_behind (error.Older i j) f = both (HasNewer q.site i j) f
  refused_behind error.TooManyFigures f = inr (both (HasBase q.site ShowsMany) f)
  refused_behind (error.Figure broken) f =
      (both (HasBase q.site (GoesBeyond broken.object broken.fault)) f.0, f.1)
  refused_behind (error.Behind i) f = both (HasBase q.site (IsBehind q.site q.after i)) f
  refused_behind error.Exhausted f = both (HasBase q.site (IsExhausted q.site)) f
  refused_behind error.Differs f = both (HasBase q.site LooksOtherwise) f
  refused_behind error.OutOfMemory f = tt

-- ---- the whole text

module _ (q : TakeRequest) (bytes lines fig : List ℕ) (parted : IsParted bytes lines fig) where
  pub text_taken : (r : Result (Answer Taken) TakeRunError) → IfOk r (TakesParts q lines fig)
      → IfOk r (λ t. TakesText q bytes t.text.items t.value)
  text_taken (Err e) p = tt
  text_taken (Ok t) is = let p = is.takes in record {
    new = is.new;
    denoted = record {
      lines = lines;
      fig = fig;
      parted = parted;
      history = is.history;
      read = record { ops = is.ops; denoted = is.denoted; read = p.read };
      drawing = p.drawing;
      knew = p.knew;
      drawn = p.drawn;
      taken = p.takes.taken;
    };
    within = p.takes.within;
    lines = p.takes.text.lines;
    written = p.takes.text.written.is;
    denotes = written_denotes is.new p.takes.text.lines p.takes.text.written;
    shown = p.takes.text.shown;
    shows = p.takes.text.shows;
    is = p.takes.text.is;
    made = p.takes.made;
    changed = p.takes.changed;
    hidden = p.takes.hidden;
    drawn = p.takes.drawn;
    since = p.takes.since;
    thin = p.takes.thin;
  }

  pub text_refused : (r : Result (Answer Taken) TakeRunError) → IfErr r (RefusesParts q lines fig)
      → IfErr r (RefusesTaking q bytes)
  text_refused (Ok t) p = tt
  text_refused (Err e) p =
      parts (record { lines = lines; fig = fig; parted = parted; refused = p })

-- ---- the run

-- what may refuse any run may refuse a take
of_any_run : (q : TakeRequest) (bytes : List ℕ) (e : TakeRunError) → IsSomeAnd (of_take e) IsOfRun
    → RefusesTaking q bytes e
of_any_run q bytes (refused.Run fault) r = input fault refl r
of_any_run q bytes (refused.Waits i j) r = absurd r
of_any_run q bytes refused.NoDrawing r = absurd r
of_any_run q bytes (refused.Fig faults) r = absurd r
of_any_run q bytes (refused.Figure broken) r = absurd r
of_any_run q bytes refused.TooManyFigures r = absurd r
of_any_run q bytes refused.Unnamed r = absurd r
of_any_run q bytes (refused.Absent i) r = absurd r
of_any_run q bytes (refused.Older i j) r = absurd r
of_any_run q bytes (refused.Behind i) r = absurd r
of_any_run q bytes refused.Exhausted r = absurd r
of_any_run q bytes refused.Differs r = absurd r

-- Gives relates bytes to what they make, and refuses them as a take is refused
module _ (Gives : Vec ℕ Global → Result (Answer Taken) TakeRunError → Type 0) (q : TakeRequest)
    (given : (g : Vec ℕ Global) (e : TakeRunError) → Gives g (Err e)
    → RefusesTaking q g.items e) where
  pub run_refuses : (left : Option (List ℕ)) (r : Result Taken TakeRunError)
      → IfErr r (λ e. Refuses Gives left e ⊎ IsSomeAnd (of_take e) IsOfRun)
      → IfErr r (λ e. IfSome left (λ bytes. RefusesTaking q bytes e))
  run_refuses left (Ok x) f = tt
  run_refuses None (Err e) f = tt
  run_refuses (Some bytes) (Err e) (inl f) =
      subst (λ b. RefusesTaking q b e) f.bytes_are (given f.given e f.gives)
  run_refuses (Some bytes) (Err e) (inr f) = of_any_run q bytes e f

-- Gives relates bytes to what a take makes of them
module _ (Gives : Vec ℕ Global → Result (Answer Taken) TakeRunError → Type 0) (q : TakeRequest)
    (given : (g : Vec ℕ Global) (a : Answer Taken) → Gives g (Ok a)
    → TakesText q g.items a.text.items a.value) where
  pub run_takes : (left old new : Option (List ℕ)) (r : Result Taken TakeRunError)
      → IfOk r (λ taken. WritesAnswer Gives left taken old new)
      → IfOk r (λ taken. IfSome left (λ bytes. WritesTake q bytes taken old new))
  run_takes left old new (Err e) w = tt
  run_takes None old new (Ok taken) w = tt
  run_takes (Some bytes) old new (Ok taken) w = record {
    text = w.answer.text.items;
    is = subst (λ b. TakesText q b w.answer.text.items taken) w.bytes_are
        (subst (λ v. TakesText q w.given.items w.answer.text.items v) w.value_is
        (given w.given w.answer w.gives));
    written = w.written;
  }

  -- a prefix of what is given is one of what is taken
  pub run_prefix : (left old new : Option (List ℕ))
      → IfSome left (λ bytes. WritesPrefix (GivesText Gives bytes) old new)
      → IfSome left (λ bytes. WritesPrefix (IsTakeOf q bytes) old new)
  run_prefix None old new p = tt
  run_prefix (Some bytes) old new p =
      let a = p.is.answer in
      record {
        text = p.text;
        is = (
          a.value,
          subst (λ b. TakesText q b p.text a.value) p.is.bytes_are
              (subst (λ t. TakesText q p.is.given.items t a.value) p.is.text_is
              (given p.is.given a p.is.gives)),
        );
        written = p.written;
      }
