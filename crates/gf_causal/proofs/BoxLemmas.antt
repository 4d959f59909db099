-- Entries beside what lies in their boxes.
use Rattle.std.proofs.Common.{◌≡◌, ◌<◌, List, [], ◌∷◌, ◌++◌, length, arith, Bool, true, false, cond}
use Rattle.std.proofs.Common.{refl, sym, ap, ◌∙◌}
use Rattle.std.specs.Prelude.{Option, Some, None, option_map}
use Rattle.std.specs.BTreeMap.{insert_entry}
use Rattle.std.specs.Global.{Box}
use Rattle.std.specs.List.Sorted.{IsStrictlySortedBy}
use Rattle.std.specs.Map.{keys_of, lookup, remove_entry}
use Rattle.std.specs.Ordering.{match_ordering}
use Rattle.std.specs.declared.cmp.Ordering.{Ordering}
use Rattle.std.specs.declared.cmp.Ordering.TheVariants.{Less, Equal, Greater}
use Rattle.std.proofs.lemmas.Map.Made.{lookup-map_values, keys_of-map_values}
use Rattle.gf_ops.specs.declared.op.Op.{Op}
use Rattle.gf_ops.specs.declared.op.OpId.{OpId}
use Rattle.gf_ops.specs.OperationOrder.{id_cmp}
use Rattle.gf_causal.specs.Keeping.{opened}
use Rattle.gf_causal.specs.KeptEntries.{entries_of}

opened-match : (o : Ordering) (xs ys zs : List (OpId × Box Op))
    → opened (match_ordering o xs ys zs) ≡ match_ordering o (opened xs) (opened ys) (opened zs)
opened-match Less xs ys zs = refl
opened-match Equal xs ys zs = refl
opened-match Greater xs ys zs = refl

pub opened-insert : (es : List (OpId × Box Op)) (i : OpId) (b : Box Op)
    → opened (insert_entry id_cmp es i b) ≡ insert_entry id_cmp (opened es) i b.value
opened-insert [] i b = refl
opened-insert (e ∷ es) i b =
    opened-match (id_cmp i e.0) ((i, b) ∷ e ∷ es) ((e.0, b) ∷ es) (e ∷ insert_entry id_cmp es i b)
    ∙ ap (λ r. match_ordering (id_cmp i e.0) (opened ((i, b) ∷ e ∷ es)) (opened ((e.0, b) ∷ es))
    ((e.0, e.1.value) ∷ r)) (opened-insert es i b)

opened-cond : (t : Bool) (xs ys : List (OpId × Box Op))
    → opened (cond t xs ys) ≡ cond t (opened xs) (opened ys)
opened-cond true xs ys = refl
opened-cond false xs ys = refl

pub opened-remove : (test : OpId → Bool) (es : List (OpId × Box Op))
    → opened (remove_entry test es) ≡ remove_entry test (opened es)
opened-remove test [] = refl
opened-remove test (e ∷ es) =
    opened-cond (test e.0) es (e ∷ remove_entry test es)
    ∙ ap (λ r. cond (test e.0) (opened es) ((e.0, e.1.value) ∷ r)) (opened-remove test es)

-- what a look-up gives is what lies in the box that it finds
pub lookup-opened : (test : OpId → Bool) (es : List (OpId × Box Op)) (r : Option (Box Op))
    → r ≡ lookup test es → option_map (λ b. b.value) r ≡ lookup test (opened es)
lookup-opened test es r e = ap (option_map (λ b. b.value)) e
    ∙ sym (lookup-map_values (λ b. b.value) test es)

pub none_opened : (test : OpId → Bool) (es : List (OpId × Box Op)) (r : Option (Box Op))
    → r ≡ lookup test es → r ≡ None → lookup test (opened es) ≡ None
none_opened test es r e n = sym (lookup-opened test es r e) ∙ ap (option_map (λ b. b.value)) n

pub some_opened : (test : OpId → Bool) (es : List (OpId × Box Op)) (r : Option (Box Op))
    (b : Box Op) → r ≡ lookup test es → r ≡ Some b → lookup test (opened es) ≡ Some b.value
some_opened test es r b e s = sym (lookup-opened test es r e) ∙ ap (option_map (λ b. b.value)) s

pub rising_opened : (es : List (OpId × Box Op)) → IsStrictlySortedBy id_cmp (keys_of es)
    → IsStrictlySortedBy id_cmp (keys_of (opened es))
rising_opened es s = rw (keys_of-map_values (λ (b : Box Op). b.value) es) s

-- ---- what lies alone

alone_rising : (a : Op) (ops : List Op) (es : List (OpId × Op))
    → IsStrictlySortedBy id_cmp (keys_of (entries_of (a ∷ ops) es))
unfolding IsStrictlySortedBy
alone_rising a ops es = (tt, tt)

pub some_rising : (ops : List Op) (es : List (OpId × Op)) → 0 < length ops
    → IsStrictlySortedBy id_cmp (keys_of (entries_of ops es))
some_rising [] es l = absurd (omega (arith, l))
some_rising (a ∷ ops) es l = alone_rising a ops es

pub pushed_rising : (ops : List Op) (es : List (OpId × Op)) (a : Op) (new : List Op)
    → new ≡ ops ++ a ∷ [] → IsStrictlySortedBy id_cmp (keys_of (entries_of new es))
pushed_rising [] es a new e = rw e (alone_rising a [] es)
pushed_rising (b ∷ ops) es a new e = rw e (alone_rising b (ops ++ a ∷ []) es)
