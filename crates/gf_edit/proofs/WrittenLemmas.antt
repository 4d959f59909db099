-- The lines that an edit writes denote the operations that it made.
use Rattle.std.specs.Prelude.{All, Contains, Ok}
use Rattle.std.proofs.Common.{◌≡◌, ℕ, ◌+◌, false, List, [], ◌∷◌, map, refl, ap, append_assoc}
use Rattle.std.proofs.lemmas.List.Splits.{slice_split_at}
use Rattle.gf_streams.specs.TextLines.{is_blank, is_line_end, numbered_from}
use Rattle.gf_ops.specs.declared.op.Op.{Op}
use Rattle.gf_base.proofs.ListLemmas.{Contains-cons_head, Contains-cons_tail}
use Rattle.gf_json.specs.OperationLines.{denoted}
use Rattle.gf_ops.specs.declared.change.Form.{Form}
use Rattle.gf_ops.specs.declared.change.Form.TheVariants.{Rect, Polygon, Circle, Ellipse}
use Rattle.gf_ops.specs.declared.change.Start.{Start}
use Rattle.gf_ops.specs.declared.change.Change.{Change}
use Rattle.gf_ops.specs.declared.change.Change.TheVariants.{Create, Set}
use Rattle.serde_json.specs.Data.{Data}
use Rattle.serde_json.specs.Written.{compact_text}
use Rattle.gf_json.specs.WrittenValues.{clock_data, name_data}
use Rattle.gf_json.specs.WrittenLines.{change_data, creation_data, op_text}
use Rattle.gf_edit.specs.Making.{written_lines}

-- a written line begins with a bracket
shown_creation : (i k : Data) (s : Start) (f : Form)
    → is_blank (compact_text (creation_data i k s f)) ≡ false
shown_creation i k s (Rect width height) = refl
shown_creation i k s (Polygon ps) = refl
shown_creation i k s (Circle radius) = refl
shown_creation i k s (Ellipse width height) = refl

shown_change : (i k : Data) (c : Change) → is_blank (compact_text (change_data i k c)) ≡ false
shown_change i k (Create s) = shown_creation i k s s.form
shown_change i k (Set o v []) = refl
shown_change i k (Set o v (j ∷ js)) = refl

pub op_shown : (a : Op) → is_blank (op_text a) ≡ false
op_shown a = shown_change (name_data a.id) (clock_data a.past) a.change

-- the line of a has no LF and something to see, and denotes a
pub record IsWritable (a : Op) : Type 0 where
  pub whole : All (λ b. is_line_end b ≡ false) (op_text a)
  pub shown : is_blank (op_text a) ≡ false
  pub denotes : denoted (op_text a) ≡ Ok a

pub written_from : (n : ℕ) (ops : List Op) → ((a : Op) → Contains ops a → IsWritable a)
    → map (λ (line : ℕ × List ℕ). denoted line.1) (numbered_from n (written_lines ops)) ≡ map
    Ok ops
written_from n [] w = refl
written_from n (a ∷ ops) w =
    let x = w a (Contains-cons_head a ops) in
    let later = written_from (n + 1) ops (λ b i. w b (Contains-cons_tail a ops b i)) in
    rw (append_assoc (op_text a) (10 ∷ []) (written_lines ops))
    (rw (slice_split_at is_line_end (op_text a) 10 (written_lines ops) x.whole refl)
    (rw x.shown (rw x.denotes (ap (λ l. Ok a ∷ l) later))))
