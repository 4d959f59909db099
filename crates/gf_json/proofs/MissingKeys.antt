-- A key that is not there is a fault of form where it is read, so how many keys a line has and its
-- words tell which line it is.
use native.Mathlib.Omega.{arith}
use Rattle.std.proofs.Common.{◌≡◌, [], ◌∷◌, ℕ, ◌+◌, ◌==◌, List, ◌++◌, length, refl, sym, ap, ◌∙◌}
use Rattle.std.proofs.Common.{Bool, true, false, ◌&&◌, inl, inr, codes, if◌then◌else◌}
use Rattle.std.specs.Prelude.{Option, Some, None, is_some, option_map, option_and_then}
use Rattle.std.specs.List.{list_all}
use Rattle.std.specs.Str.{bytes_eq}
use Rattle.std.proofs.lemmas.Bool.{and_parts, cases_Bool}
use Rattle.std.proofs.lemmas.Slice.Eq.{bytes_eq-Decides}
use Rattle.std.proofs.lemmas.List.{length-append}
use Rattle.gf_plane.specs.declared.colour.Rgb.{Rgb}
use Rattle.gf_plane.specs.declared.point.Point.{Point}
use Rattle.gf_ops.specs.declared.op.OpId.{OpId}
use Rattle.gf_ops.specs.declared.change.Form.{Form}
use Rattle.gf_ops.specs.declared.change.Form.TheVariants.{Rect, Polygon, Circle, Ellipse}
use Rattle.gf_ops.specs.declared.change.Change.{Change}
use Rattle.gf_ops.specs.declared.change.Change.TheVariants.{Create, Set}
use Rattle.gf_ops.specs.declared.change.Value.{Value}
use Rattle.serde_json.specs.Data.{Data, Members}
use Rattle.serde_json.specs.Find.{get, as_bool, as_object, as_str}
use Rattle.gf_json.specs.LineForms.{◌&◌, all, clock, hex_colour, ids, name, natural, pair}
use Rattle.gf_json.specs.LineForms.{point, radius}
use Rattle.gf_json.specs.LineKeys.{aimed_keys, author_keys, await_keys, create_keys, op_keys}
use Rattle.gf_json.specs.LineKeys.{set_keys, awaits, has_count, has_exactly, is_word, member_count}
use Rattle.gf_json.specs.LineKeys.{says}
use Rattle.gf_json.specs.LineChanges.{at, change, creation, named_value, setting}
use Rattle.gf_json.specs.OperationLines.{op_of}
use Rattle.gf_json.specs.ScriptLines.{command_of, script_of}
use Rattle.gf_json.specs.ReadLines.{named_form, read_change, read_command, read_operation}
use Rattle.gf_json.specs.ReadLines.{read_script_line, tells}
use Rattle.gf_json.proofs.KeyLemmas.{list_all-append}

-- ---- both of two parts

both_false : (b : Bool) → (b && false) ≡ false
both_false true = refl
both_false false = refl

-- without the first part
none_left : {A B : Type 0} (x : Option A) (y : Option B) → x ≡ None → (x & y) ≡ None
none_left x y h = rw h refl

-- without the second
none_right : {A B : Type 0} (x : Option A) (y : Option B) → y ≡ None → (x & y) ≡ None
none_right None y h = refl
none_right (Some a) y h = rw h refl

-- ---- keys

-- the keys are there
abbrev are_there : List (List ℕ) → Data → Bool
are_there keys d = list_all (λ key. is_some (get key d)) keys

missing : {A : Type 0} (key : List ℕ) (form : Data → Option A) (d : Data)
    → is_some (get key d) ≡ false → at key form d ≡ None
missing key form d h = of_value (get key d) h
  where
    of_value : (o : Option Data) → is_some o ≡ false → option_and_then form o ≡ None
    of_value None h = refl
    of_value (Some v) h = absurd cc

-- P follows from each of the keys that is not there
abbrev EachMissing : Data → Type 0 → List (List ℕ) → Type 0
EachMissing d P [] = Unit {0}
EachMissing d P (key ∷ keys) = (is_some (get key d) ≡ false → P) × EachMissing d P keys

-- P follows where one of the keys is not there
by_key : {P : Type 0} (d : Data) (keys : List (List ℕ)) → EachMissing d P keys
    → are_there keys d ≡ false → P
by_key d [] each h = absurd cc
by_key d (key ∷ keys) each h = elim (cases_Bool (is_some (get key d))) [
  | inl t ↦ by_key d keys each.1 (rw t at h)
  | inr n ↦ each.0 n
]

says-missing : (key word : List ℕ) (d : Data) → is_some (get key d) ≡ false
    → says key word d ≡ false
says-missing key word d h = nothing (get key d) h
  where
    nothing : (o : Option Data) → is_some o ≡ false
        → is_word word (option_and_then as_str o) ≡ false
    nothing None h = refl
    nothing (Some v) h = absurd cc

-- a line says one word at most at a key
one_word : (key word other : List ℕ) (d : Data) → bytes_eq word other ≡ false
    → says key word d ≡ true → says key other d ≡ false
one_word key word other d n h = of_text (option_and_then as_str (get key d)) h
  where
    of_text : (o : Option (List ℕ)) → is_word word o ≡ true → is_word other o ≡ false
    of_text None h = absurd cc
    of_text (Some text) h = rw ((bytes_eq-Decides text word).0 h) n

-- a line has one number of keys
one_count : (n m : ℕ) (o : Option Members) → has_count n o ≡ true → (n == m) ≡ false
    → has_count m o ≡ false
one_count n m None h d = absurd cc
one_count n m (Some ms) h d = let k : (member_count ms == n) ≡ true = h in grind (arith, k, d)

other_count : (n : ℕ) → ((n + 6 == n + 3) ≡ false) × ((n + 6 == n + 4) ≡ false)
    × ((n + 3 == n + 4) ≡ false)
other_count n = (grind arith, grind arith, grind arith)

-- ---- creations and settings

-- a word is said where there is something alone
unsaid : {P : Type 0} (key word : List ℕ) (d : Data) → says key word d ≡ true
    → is_some (get key d) ≡ false → P
unsaid key word d s n = absurd (let m = says-missing key word d n in cc)

creation-lacks : (f : Option Form) (p s c l v : Option Data) (place : Data → Option Point)
    (colour : Data → Option Rgb) (layer : Data → Option ℕ) (shown : Data → Option Bool)
    → (is_some s ≡ false → f ≡ None)
    → (is_some p && (is_some s && (is_some c && (is_some l && (is_some v && true))))) ≡ false
    → option_map {U = Change} (λ (f, (p, (c, (l, s)))). Create
    (record { form = f; place = p; colour = c; layer = l; shown = s }))
    (f & option_and_then place p & option_and_then colour c & option_and_then layer l
    & option_and_then shown v) ≡ None
creation-lacks f p s c l v place colour layer shown e h = grind arith

creation-missing : (form : Option Form) (shape kind : List ℕ) (d : Data)
    → says (codes "kind") kind d ≡ true → (is_some (get shape d) ≡ false → form ≡ None)
    → are_there (create_keys shape) d ≡ false → creation form d ≡ None
creation-missing form shape kind d k f h = elim (cases_Bool (is_some (get (codes "kind") d))) [
  | inl t ↦ creation-lacks form (get (codes "place") d) (get shape d) (get (codes "colour") d)
      (get (codes "layer") d) (get (codes "shown") d) point hex_colour natural as_bool f (rw t at h)
  | inr n ↦ unsaid (codes "kind") kind d k n
]

setting-lacks : (o n t : Option Data) (a : Option (List OpId)) (object : Data → Option OpId)
    (value : Data → Option Value)
    → (is_some n ≡ false → option_and_then value t ≡ None)
    → (is_some o && (is_some n && (is_some t && true))) ≡ false
    → option_map {U = Change} (λ (o, (v, ids)). Set (record { 0 = o }) v ids)
    (option_and_then object o & option_and_then value t & a) ≡ None
setting-lacks o n t a object value e h = grind arith

unnamed : (d : Data) → is_some (get (codes "set") d) ≡ false
    → at (codes "to") (named_value d) d ≡ None
unnamed d n = of_value (get (codes "to") d)
  where
    of_value : (o : Option Data) → option_and_then (named_value d) o ≡ None
    of_value None = refl
    of_value (Some v) = rw (
      says-missing (codes "set") (codes "place") d n,
      says-missing (codes "set") (codes "points") d n,
      says-missing (codes "set") (codes "size") d n,
      says-missing (codes "set") (codes "colour") d n,
      says-missing (codes "set") (codes "layer") d n,
      says-missing (codes "set") (codes "shown") d n,
    ) refl

setting-missing : (aim : Option (List OpId)) (d : Data) → are_there set_keys d ≡ false
    → setting aim d ≡ None
setting-missing aim d h = setting-lacks (get (codes "object") d) (get (codes "set") d)
    (get (codes "to") d) aim name (named_value d) (unnamed d) h

aimed-missing : (d : Data) → are_there aimed_keys d ≡ false
    → setting (at (codes "aim") ids d) d ≡ None
aimed-missing d h = elim (cases_Bool (is_some (get (codes "aim") d))) [
  | inl t ↦ setting-missing (at (codes "aim") ids d) d (rw t at h)
  | inr n ↦ rw (missing (codes "aim") ids d n)
      (no_aim (at (codes "object") name d) (at (codes "to") (named_value d) d))
]
  where
    no_aim : (o : Option OpId) (v : Option Value) → option_map {U = Change}
        (λ (o, (v, ids)). Set (record { 0 = o }) v ids) (o & v & None) ≡ None
    no_aim o v = grind arith

-- ---- which change

one_of_four : (C S K1 K2 K3 K4 P1 P4 : Bool) (b c e p x y : Option Change)
    → (K1 ≡ true → P1 ≡ false → b ≡ None) → (K2 ≡ true → P1 ≡ false → c ≡ None)
    → (K3 ≡ true → P1 ≡ false → e ≡ None) → (K4 ≡ true → P4 ≡ false → p ≡ None)
    → (C ≡ true → x ≡ None) → (K1 ≡ true → K4 ≡ false) → (K2 ≡ true → K4 ≡ false)
    → (K3 ≡ true → K4 ≡ false) → x ≡ y
    → (if (C && P1) && S && K1 then b else
    (if (C && P1) && S && K2 then c else
    (if (C && P1) && S && K3 then e else (if (C && P4) && S && K4 then p else x))))
    ≡ (if C && S then (if K1 then b else
    (if K2 then c else (if K3 then e else (if K4 then p else None)))) else y)
one_of_four C S K1 K2 K3 K4 P1 P4 b c e p x y f g h k l m n o t = grind arith

one_setting : (T V Q R U : Bool) (s a : Option Change) → (Q ≡ false → s ≡ None)
    → (R ≡ false → a ≡ None) → (T ≡ true → V ≡ false)
    → (if (T && Q) && U then s else (if (V && R) && U then a else None))
    ≡ (if T && U then s else (if V && U then a else None))
one_setting T V Q R U s a f g t = grind arith

-- a creation of a kind that the line names
creation-named_form : (d : Data) → creation (named_form d) d
    ≡ (if says (codes "kind") (codes "box") d
    then creation (option_map (λ p. Rect p.0 p.1) (at (codes "size") (pair natural) d)) d
    else (if says (codes "kind") (codes "circle") d
    then creation (option_map Circle (at (codes "size") radius d)) d
    else (if says (codes "kind") (codes "ellipse") d
    then creation (option_map (λ p. Ellipse p.0 p.1) (at (codes "size") (pair natural) d)) d
    else (if says (codes "kind") (codes "polygon") d
    then creation (option_map Polygon (at (codes "points") (all point) d)) d else None))))
unfolding named_form
creation-named_form d =
    by_kind (says (codes "kind") (codes "box") d) (says (codes "kind") (codes "circle") d)
    (says (codes "kind") (codes "ellipse") d) (says (codes "kind") (codes "polygon") d)
    (option_map (λ p. Rect p.0 p.1) (at (codes "size") (pair natural) d))
    (option_map Circle (at (codes "size") radius d))
    (option_map (λ p. Ellipse p.0 p.1) (at (codes "size") (pair natural) d))
    (option_map Polygon (at (codes "points") (all point) d))
  where
    by_kind : (k l m n : Bool) (x y z w : Option Form) → creation (if k then x else
        (if l then y else (if m then z else (if n then w else None)))) d
        ≡ (if k then creation x d else (if l then creation y d else (if m then creation z d
        else (if n then creation w d else None))))
    by_kind k l m n x y z w = grind arith

-- where each key beside those of the change is there
complete : (beside keys : List (List ℕ)) (d : Data) → are_there beside d ≡ true
    → has_exactly (beside ++ keys) d
    ≡ (has_count (length beside + length keys) (as_object d) && are_there keys d)
complete beside keys d h = rw (length-append, list_all-append, h) refl

change-read : (verb : List ℕ) (beside : List (List ℕ)) (d : Data) → are_there beside d ≡ true
    → change verb beside d ≡ read_change verb (length beside) d
unfolding read_change
change-read verb beside d h =
    let counts = other_count (length beside) in
    let plain = setting (Some []) d in
    let aimed = setting (at (codes "aim") ids d) d in
    let creates = has_count (length beside + 6) (as_object d) in
    let has_plain = has_count (length beside + 3) (as_object d) in
    let has_aimed = has_count (length beside + 4) (as_object d) in
    let all_plain = are_there set_keys d in
    let all_aimed = are_there aimed_keys d in
    let set = says verb (codes "set") d in
    rw (
      complete beside (create_keys (codes "size")) d h,
      complete beside (create_keys (codes "points")) d h,
      complete beside set_keys d h,
      complete beside aimed_keys d h,
      creation-named_form d,
    )
    (one_of_four creates (says verb (codes "create") d)
    (says (codes "kind") (codes "box") d) (says (codes "kind") (codes "circle") d)
    (says (codes "kind") (codes "ellipse") d) (says (codes "kind") (codes "polygon") d)
    (are_there (create_keys (codes "size")) d) (are_there (create_keys (codes "points")) d)
    (creation (option_map (λ p. Rect p.0 p.1) (at (codes "size") (pair natural) d)) d)
    (creation (option_map Circle (at (codes "size") radius d)) d)
    (creation (option_map (λ p. Ellipse p.0 p.1) (at (codes "size") (pair natural) d)) d)
    (creation (option_map Polygon (at (codes "points") (all point) d)) d)
    (if (has_plain && all_plain) && set then plain else
    (if (has_aimed && all_aimed) && set then aimed else None))
    (if has_plain && set then plain else (if has_aimed && set then aimed else None))
    (λ k. creation-missing _ (codes "size") (codes "box") d k
    (λ n. rw (missing (codes "size") _ d n) refl))
    (λ k. creation-missing _ (codes "size") (codes "circle") d k
    (λ n. rw (missing (codes "size") _ d n) refl))
    (λ k. creation-missing _ (codes "size") (codes "ellipse") d k
    (λ n. rw (missing (codes "size") _ d n) refl))
    (λ k. creation-missing _ (codes "points") (codes "polygon") d k
    (λ n. rw (missing (codes "points") _ d n) refl))
    (λ c. rw (one_count _ _ (as_object d) c counts.0, one_count _ _ (as_object d) c counts.1) refl)
    (one_word (codes "kind") (codes "box") (codes "polygon") d refl)
    (one_word (codes "kind") (codes "circle") (codes "polygon") d refl)
    (one_word (codes "kind") (codes "ellipse") (codes "polygon") d refl)
    (one_setting has_plain has_aimed all_plain all_aimed set plain aimed
    (setting-missing (Some []) d) (aimed-missing d)
    (λ c. one_count _ _ (as_object d) c counts.2)))

-- where one is not
incomplete : (beside keys : List (List ℕ)) (d : Data) → are_there beside d ≡ false
    → has_exactly (beside ++ keys) d ≡ false
incomplete beside keys d h = rw (list_all-append, h)
    (both_false (has_count (length (beside ++ keys)) (as_object d)))

change-missing : (verb : List ℕ) (beside : List (List ℕ)) (d : Data) → are_there beside d ≡ false
    → change verb beside d ≡ None
change-missing verb beside d h =
    rw (
      incomplete beside (create_keys (codes "size")) d h,
      incomplete beside (create_keys (codes "points")) d h,
      incomplete beside set_keys d h,
      incomplete beside aimed_keys d h,
    ) refl

-- ---- operations and commands

unread : (verb : List ℕ) (beside : ℕ) (d : Data) → is_some (get verb d) ≡ false
    → read_change verb beside d ≡ None
unfolding read_change
unread verb beside d n =
    rw (
      says-missing verb (codes "create") d n,
      says-missing verb (codes "set") d n,
      both_false (has_count (beside + 6) (as_object d)),
      both_false (has_count (beside + 3) (as_object d)),
      both_false (has_count (beside + 4) (as_object d)),
    ) refl

-- the operation of a line
pub op_of-read : (d : Data) → op_of d ≡ read_operation d
op_of-read d = elim (cases_Bool (are_there op_keys d)) [
  | inl h ↦ rw (change-read (codes "op") op_keys d h) refl
  | inr h ↦
      let i = at (codes "id") name d in
      let p = at (codes "past") clock d in
      let none : (i & p & change (codes "op") op_keys d) ≡ None =
      none_right i _ (none_right p _ (change-missing (codes "op") op_keys d h)) in
      let e : (i & p & read_change (codes "op") 3 d) ≡ None =
      by_key d op_keys (
        (λ n. none_right i _ (none_right p _ (unread (codes "op") 3 d n))),
        (
          (λ n. none_left i _ (missing (codes "id") _ d n)),
          ((λ n. none_right i _ (none_left p _ (missing (codes "past") _ d n))), tt),
        ),
      ) h in
      rw (none, e) refl
]

-- a line that waits has too few keys to make a change
no_change : (d : Data) → has_count 3 (as_object d) ≡ true
    → change (codes "do") author_keys d ≡ None
no_change d h =
    rw (
      one_count 3 8 (as_object d) h refl,
      one_count 3 5 (as_object d) h refl,
      one_count 3 6 (as_object d) h refl,
    ) refl

no_await : (n s p : Bool) → (n && s) ≡ false → ((n && p) && s) ≡ false
no_await n s p h = grind arith

-- the command of a line, with its site
command-read : (d : Data) → (at (codes "site") natural d & command_of d)
    ≡ (at (codes "site") natural d & read_command d)
unfolding read_command
command-read d =
    let s = at (codes "site") natural d in
    let counts = has_count 3 (as_object d) in
    let said = says (codes "do") (codes "await") d in
    elim (cases_Bool (tells 3 (codes "do") (codes "await") d)) [
      | inl t ↦
          let parts = and_parts counts said t in
          elim (cases_Bool (are_there await_keys d)) [
            | inl h ↦ rw (parts.0, h, parts.1) refl
            | inr h ↦
                let none : command_of d ≡ None = rw (parts.0, h, no_change d parts.0) refl in
                let e : (s & read_command d) ≡ None =
                by_key d await_keys (
                  unsaid (codes "do") (codes "await") d parts.1,
                  (
                    (λ n. none_left s _ (missing (codes "site") _ d n)),
                    ((λ n. none_right s _ (rw (t, missing (codes "id") _ d n) refl)), tt),
                  ),
                ) h in
                none_right s _ none ∙ sym e
          ]
      | inr f ↦
          let makes : awaits d ≡ false = no_await counts said (are_there await_keys d) f in
          elim (cases_Bool (are_there author_keys d)) [
            | inl h ↦ rw (makes, f, change-read (codes "do") author_keys d h) refl
            | inr h ↦
                let none : command_of d ≡ None =
                rw (makes, change-missing (codes "do") author_keys d h) refl in
                let e : (s & read_command d) ≡ None =
                by_key d author_keys (
                  (λ n. none_right s _ (rw (f, unread (codes "do") 2 d n) refl)),
                  ((λ n. none_left s _ (missing (codes "site") _ d n)), tt),
                ) h in
                none_right s _ none ∙ sym e
          ]
    ]

-- the line of a script
pub script_of-read : (d : Data) → script_of d ≡ read_script_line d
script_of-read d =
    ap (option_map (λ p. record { site = p.0; command = p.1 })) (command-read d)
