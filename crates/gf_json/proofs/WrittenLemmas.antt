-- What is written for an operation or a command: integers only, and few levels.
use Rattle.std.proofs.Common.{◌≡◌, ℕ, ◌≤◌, List, [], ◌∷◌, ◌++◌, map, refl, arith, false, pos}
use Rattle.std.proofs.Common.{negsuc, ℤ, codes}
use Rattle.gf_plane.specs.declared.point.Point.{Point}
use Rattle.gf_ops.specs.declared.op.Op.{Op}
use Rattle.gf_ops.specs.declared.op.OpId.{OpId}
use Rattle.gf_ops.specs.declared.op.Clock.{Clock}
use Rattle.gf_ops.specs.declared.change.Form.{Form}
use Rattle.gf_ops.specs.declared.change.Form.TheVariants.{Rect, Polygon, Circle, Ellipse}
use Rattle.gf_ops.specs.declared.change.Start.{Start}
use Rattle.gf_ops.specs.declared.change.Change.{Change}
use Rattle.gf_ops.specs.declared.change.Change.TheVariants.{Create, Set}
use Rattle.gf_ops.specs.declared.change.Value.{Value}
use Rattle.gf_ops.specs.declared.change.Value.TheVariants as value
use Rattle.gf_json.specs.declared.scripts.Command.{Command}
use Rattle.gf_json.specs.declared.scripts.Command.TheVariants.{Author, Await}
use Rattle.gf_json.specs.declared.scripts.ScriptLine.{ScriptLine}
use Rattle.serde_json.specs.Data.{Data, string, object, no_members, depth, items_depth}
use Rattle.serde_json.specs.Find.{of_integer, is_float}
use Rattle.serde_json.specs.Read.{max_depth}
use Rattle.serde_json.specs.View.{items_of}
use Rattle.serde_json.specs.Written.{has_float, items_have_float}
use Rattle.gf_json.specs.WrittenValues.{natural_data, name_data, ids_data, clock_data, point_data}
use Rattle.gf_json.specs.WrittenValues.{points_data, value_data}
use Rattle.gf_json.specs.WrittenLines.{creation_data, change_data, data_of}
use Rattle.gf_json.specs.WrittenMembers.{put_all, look_members, form_members}
use Rattle.gf_json.specs.WrittenScripts.{script_data}

-- ---- no float

pub is_float-of_integer : (z : ℤ) → is_float (of_integer z) ≡ false
is_float-of_integer (pos n) = refl
is_float-of_integer (negsuc n) = refl

pub has_float-point_data : (p : Point) → has_float (point_data p) ≡ false
has_float-point_data p = rw (is_float-of_integer p.x, is_float-of_integer p.y) refl

pub items_have_float-map : {A : Type 0} (f : A → Data) → ((a : A) → has_float (f a) ≡ false)
    → (xs : List A) → items_have_float (items_of (map f xs)) ≡ false
items_have_float-map f h [] = refl
items_have_float-map f h (x ∷ xs) = rw (h x) (items_have_float-map f h xs)

has_float-clock_data : (c : Clock) → has_float (clock_data c) ≡ false
has_float-clock_data c = items_have_float-map natural_data (λ n. refl) c.0

pub has_float-points_data : (ps : List Point) → has_float (points_data ps) ≡ false
has_float-points_data ps = items_have_float-map point_data has_float-point_data ps

pub has_float-ids_data : (ids : List OpId) → has_float (ids_data ids) ≡ false
has_float-ids_data ids = items_have_float-map name_data (λ i. refl) ids

has_float-value_data : (v : Value) → has_float (value_data v) ≡ false
has_float-value_data (value.Place p) = has_float-point_data p
has_float-value_data (value.Points ps) = has_float-points_data ps
has_float-value_data (value.Size width height) = refl
has_float-value_data (value.Colour c) = refl
has_float-value_data (value.Layer n) = refl
has_float-value_data (value.Shown b) = refl

has_float-creation_data : (i : OpId) (c : Clock) (s : Start) (f : Form)
    → has_float (creation_data (name_data i) (clock_data c) s f) ≡ false
has_float-creation_data i c s (Rect width height) = rw (
  has_float-clock_data c,
  has_float-point_data s.place,
) refl
has_float-creation_data i c s (Polygon ps) = rw (
  has_float-clock_data c,
  has_float-point_data s.place,
  has_float-points_data ps,
) refl
has_float-creation_data i c s (Circle radius) = rw (
  has_float-clock_data c,
  has_float-point_data s.place,
) refl
has_float-creation_data i c s (Ellipse rx ry) = rw (
  has_float-clock_data c,
  has_float-point_data s.place,
) refl

has_float-change_data : (i : OpId) (c : Clock) (d : Change)
    → has_float (change_data (name_data i) (clock_data c) d) ≡ false
has_float-change_data i c (Create s) = has_float-creation_data i c s s.form
has_float-change_data i c (Set o v []) = rw (has_float-clock_data c, has_float-value_data v) refl
has_float-change_data i c (Set o v (j ∷ js)) = rw (
  has_float-ids_data (j ∷ js),
  has_float-clock_data c,
  has_float-value_data v,
) refl

pub has_float-data_of : (a : Op) → has_float (data_of a) ≡ false
has_float-data_of a = has_float-change_data a.id a.past a.change

-- the value of the line that gives site n the command c
abbrev pub line_data : ℕ → Command → Data
line_data n c = script_data (record { site = n; command = c })

-- the value of the line that tells site n to create an object of the form f
abbrev pub create_data : ℕ → Start → Form → Data
create_data n s f = object
    (put_all ((codes "site", natural_data n) ∷ (codes "do", string (codes "create")) ∷ (look_members
    s ++ form_members f)) no_members)

has_float-create_data : (n : ℕ) (s : Start) (f : Form) → has_float (create_data n s f) ≡ false
has_float-create_data n s (Rect width height) = rw (has_float-point_data s.place) refl
has_float-create_data n s (Polygon ps) = rw (has_float-point_data s.place, has_float-points_data ps)
    refl
has_float-create_data n s (Circle radius) = rw (has_float-point_data s.place) refl
has_float-create_data n s (Ellipse rx ry) = rw (has_float-point_data s.place) refl

has_float-line_data : (n : ℕ) (c : Command) → has_float (line_data n c) ≡ false
has_float-line_data n (Author (Create s)) = has_float-create_data n s s.form
has_float-line_data n (Author (Set o v [])) = rw (has_float-value_data v) refl
has_float-line_data n (Author (Set o v (j ∷ js))) = rw (
  has_float-ids_data (j ∷ js),
  has_float-value_data v,
) refl
has_float-line_data n (Await i) = refl

pub has_float-script_data : (s : ScriptLine) → has_float (script_data s) ≡ false
has_float-script_data s = has_float-line_data s.site s.command

-- ---- few levels

items_depth-map : {A : Type 0} (f : A → Data) (n : ℕ) → ((a : A) → depth (f a) ≤ n) → (xs : List A)
    → items_depth (items_of (map f xs)) ≤ n
items_depth-map f n h [] = omega arith
items_depth-map f n h (x ∷ xs) = let k = h x in let l = items_depth-map f n h xs in
    omega (arith, k, l)

depth-clock_data : (c : Clock) → depth (clock_data c) ≤ 1
depth-clock_data c = let k = items_depth-map natural_data 0 (λ n. omega arith) c.0 in
    omega (arith, k)

depth-points_data : (ps : List Point) → depth (points_data ps) ≤ 2
depth-points_data ps = let k = items_depth-map point_data 1 (λ p. omega arith) ps in
    omega (arith, k)

depth-ids_data : (ids : List OpId) → depth (ids_data ids) ≤ 2
depth-ids_data ids = let k = items_depth-map name_data 1 (λ i. omega arith) ids in omega (arith, k)

depth-value_data : (v : Value) → depth (value_data v) ≤ 2
depth-value_data (value.Place p) = omega arith
depth-value_data (value.Points ps) = depth-points_data ps
depth-value_data (value.Size width height) = omega arith
depth-value_data (value.Colour c) = omega arith
depth-value_data (value.Layer n) = omega arith
depth-value_data (value.Shown b) = omega arith

depth-creation_data : (i : OpId) (c : Clock) (s : Start) (f : Form)
    → depth (creation_data (name_data i) (clock_data c) s f) ≤ 3
depth-creation_data i c s (Rect width height) = let k = depth-clock_data c in omega (arith, k)
depth-creation_data i c s (Polygon ps) = let k = depth-clock_data c in
    let l = depth-points_data ps in omega (arith, k, l)
depth-creation_data i c s (Circle radius) = let k = depth-clock_data c in omega (arith, k)
depth-creation_data i c s (Ellipse rx ry) = let k = depth-clock_data c in omega (arith, k)

depth-change_data : (i : OpId) (c : Clock) (d : Change)
    → depth (change_data (name_data i) (clock_data c) d) ≤ 3
depth-change_data i c (Create s) = depth-creation_data i c s s.form
depth-change_data i c (Set o v []) = let k = depth-clock_data c in let l = depth-value_data v in
    omega (arith, k, l)
depth-change_data i c (Set o v (j ∷ js)) = let h = depth-ids_data (j ∷ js) in
    let k = depth-clock_data c in let l = depth-value_data v in omega (arith, h, k, l)

pub depth-data_of : (a : Op) → depth (data_of a) ≤ max_depth
depth-data_of a = let k = depth-change_data a.id a.past a.change in omega (arith, k)

depth-create_data : (n : ℕ) (s : Start) (f : Form) → depth (create_data n s f) ≤ 3
depth-create_data n s (Rect width height) = omega arith
depth-create_data n s (Polygon ps) = let l = depth-points_data ps in omega (arith, l)
depth-create_data n s (Circle radius) = omega arith
depth-create_data n s (Ellipse rx ry) = omega arith

depth-line_data : (n : ℕ) (c : Command) → depth (line_data n c) ≤ 3
depth-line_data n (Author (Create s)) = depth-create_data n s s.form
depth-line_data n (Author (Set o v [])) = let l = depth-value_data v in omega (arith, l)
depth-line_data n (Author (Set o v (j ∷ js))) = let h = depth-ids_data (j ∷ js) in
    let l = depth-value_data v in omega (arith, h, l)
depth-line_data n (Await i) = omega arith

pub depth-script_data : (s : ScriptLine) → depth (script_data s) ≤ max_depth
depth-script_data s = let k = depth-line_data s.site s.command in omega (arith, k)
