-- One more group is shown behind the others.
use Rattle.std.proofs.Common.{◌≡◌, ℕ, ◌+◌, ◌<◌, true, List, [], ◌∷◌, ◌++◌, get_or, length, sym}
use Rattle.std.proofs.Common.{subst, ap, ◌∙◌}
use Rattle.std.specs.Prelude.{Contains, take}
use Rattle.std.specs.List.{AllZip}
use Rattle.std.proofs.lemmas.List.{take_more}
use Rattle.std.proofs.lemmas.List.Elements.{Contains-get_or}
use Rattle.gf_ops.specs.declared.op.Op.{Op}
use Rattle.gf_ops.specs.declared.op.OpId.{OpId}
use Rattle.gf_ops.specs.declared.op.ObjectId.{ObjectId}
use Rattle.gf_ops.specs.declared.change.Change.{Change}
use Rattle.gf_ops.specs.declared.change.Change.TheVariants.{Set}
use Rattle.gf_ops.specs.declared.change.Value.TheVariants.{Shown}
use Rattle.gf_groups.specs.declared.group.Group.{Group}
use Rattle.gf_keep.specs.Keeping.{AreAimedAt, IsShowing}
use Rattle.gf_keep.specs.KeepSteps.{AreShowings}

pub item_in : (groups : List Group) (n : ℕ) (g : Group) → n < length groups → g ≡ get_or groups n g
    → Contains groups g
item_in groups n g within e = subst (Contains groups) (sym e) (Contains-get_or groups n g within)

zip_push : {A B : Type 0} (R : A → B → Type 0) (xs : List A) (ys : List B) (x : A) (y : B)
    → AllZip R xs ys → R x y → AllZip R (xs ++ x ∷ []) (ys ++ y ∷ [])
zip_push R [] [] x y z r = (r, tt)
zip_push R [] (b ∷ bs) x y z r = absurd z
zip_push R (a ∷ more) [] x y z r = absurd z
zip_push R (a ∷ more) (b ∷ bs) x y z r = (z.0, zip_push R more bs x y z.1 r)

pub shows_more : (h : List Op) (o : ObjectId) (groups : List Group) (n : ℕ) (g : Group)
    → n < length groups → g ≡ get_or groups n g → g.object ≡ o → (aim : List OpId)
    → AreAimedAt h g aim →
    (old new : List Change) (c : Change) → c ≡ Set o (Shown true) aim
    → AreShowings h o (take n groups) old → new ≡ old ++ c ∷ []
    → AreShowings h o (take (n + 1) groups) new
shows_more h o groups n g within e on aim aims old new c is s f =
    let all : take (n + 1) groups ≡ take n groups ++ g ∷ [] = take_more groups n g within
    ∙ ap (λ (x : Group). take n groups ++ x ∷ []) (sym e) in
    let show : IsShowing h g c = record {
      aim = aim;
      aims = aims;
      is = is ∙ ap (λ (p : ObjectId). Set p (Shown true) aim) (sym on);
    } in
    record {
      shows = s.shows ++ c ∷ [];
      each = subst (λ (gs : List Group). AllZip (IsShowing h) gs (s.shows ++ c ∷ [])) (sym all)
          (zip_push (IsShowing h) (take n groups) s.shows g c s.each show);
      is = f ∙ ap (λ (cs : List Change). cs ++ c ∷ []) s.is;
    }
