-- The lines that an import writes denote the commands that it makes.
use Rattle.std.specs.Prelude.{All, Contains, IsTrue, Ok}
use Rattle.std.proofs.Common.{◌≡◌, ℕ, ◌+◌, false, List, [], ◌∷◌, ◌++◌, map, refl, sym, ap, subst}
use Rattle.std.proofs.Common.{◌∙◌, append_assoc, inl, inr}
use Rattle.std.proofs.lemmas.Bool.{and_from, le-leb}
use Rattle.std.proofs.lemmas.List.{append-nil}
use Rattle.std.proofs.lemmas.List.Concat.{flat_map-append}
use Rattle.std.proofs.lemmas.List.Elements.{Contains-push_cases}
use Rattle.std.proofs.lemmas.List.Splits.{slice_split_at}
use Rattle.gf_streams.specs.TextLines.{is_blank, is_line_end, numbered_from}
use Rattle.gf_ops.specs.declared.change.Change.{Change}
use Rattle.gf_ops.specs.Limits.{is_change}
use Rattle.gf_ops.specs.OperationOrder.{IsSite}
use Rattle.gf_base.proofs.ListLemmas.{Contains-cons_head, Contains-cons_tail, not_Contains-nil}
use Rattle.gf_json.specs.declared.scripts.Command.{Command}
use Rattle.gf_json.specs.declared.scripts.Command.TheVariants.{Author, Await}
use Rattle.gf_json.specs.declared.scripts.ScriptLine.{ScriptLine}
use Rattle.gf_json.specs.ScriptLines.{IsScriptInRange, script_denoted}
use Rattle.gf_json.specs.WrittenScripts.{script_text}
use Rattle.gf_json.proofs.OneLineLemmas.{script_one_line}
use Rattle.gf_import.specs.CommandLines.{DenotesChanges, command_line, command_lines, command_of}
use Rattle.gf_import.specs.CommandLines.{denotes_change}
use Rattle.gf_import.specs.ImportRun.{Imports}
use Rattle.gf_import.specs.ImportSteps.{AreWritten, HasCreations, IsReadAgain}
use Rattle.gf_import.specs.Importing.{creations_of}

-- a line with something to see in front of a text
first_line : (n : ℕ) (line rest : List ℕ) → All (λ b. is_line_end b ≡ false) line
    → is_blank line ≡ false
    → numbered_from n ((line ++ 10 ∷ []) ++ rest) ≡ (n, line) ∷ numbered_from (n + 1) rest
first_line n line rest whole shown =
    rw (append_assoc line (10 ∷ []) rest)
    (rw (slice_split_at is_line_end line 10 rest whole refl) (rw shown refl))

module _ (s : ℕ) where
  written_push : (cs : List Change) (c : Change) → command_lines s (cs ++ c ∷ [])
      ≡ command_lines s cs ++ command_line s c
  written_push cs c = flat_map-append (command_line s) cs (c ∷ [])
      ∙ ap (λ t. command_lines s cs ++ t) (append-nil (command_line s c))

  -- before the first change nothing is written
  pub written_none : (text : List ℕ) → text ≡ [] → AreWritten s [] text
  written_none text e = record { is = e; again = λ c i. absurd (not_Contains-nil c i) }

  -- one change more is written
  pub written_more : (cs : List Change) (c : Change) (old new : List ℕ) → AreWritten s cs old → new
      ≡ old ++ command_line s c → IsReadAgain s c → AreWritten s (cs ++ c ∷ []) new
  written_more cs c old new w e again = record {
    is = e ∙ (ap (λ t. t ++ command_line s c) w.is ∙ sym (written_push cs c));
    again = λ d i. elim (Contains-push_cases cs c d i)
        [ inl k ↦ w.again d k | inr q ↦ subst (IsReadAgain s) q again ];
  }

  denotes_from : (n : ℕ) (cs : List Change) → ((c : Change) → Contains cs c
      → script_denoted (script_text (command_of s c)) ≡ Ok (command_of s c)) →
      map (λ (line : ℕ × List ℕ). script_denoted line.1) (numbered_from n (command_lines s cs))
      ≡ map (denotes_change s) cs
  denotes_from n [] again = refl
  denotes_from n (c ∷ cs) again =
      let text = script_text (command_of s c) in
      let first = first_line n text (command_lines s cs) (script_one_line (command_of s c)) refl in
      let here = again c (Contains-cons_head c cs) in
      let later = denotes_from (n + 1) cs (λ d i. again d (Contains-cons_tail c cs d i)) in
      ap (map (λ (line : ℕ × List ℕ). script_denoted line.1)) first ∙ (λ i. here i ∷ later i)

  command_in_range : (c : Change) → IsSite s → IsTrue (is_change c)
      → IsScriptInRange (command_of s c)
  command_in_range c site fits = and_from _ _ (and_from _ _ (le-leb 1 s site.0) (le-leb s 8 site.1))
      fits

  all_in_range : (cs : List Change) → IsSite s → All (λ c. IsTrue (is_change c)) cs → (c : Change)
      → Contains cs c → IsScriptInRange (command_of s c)
  all_in_range cs site fit c (i, l, e) = command_in_range c site
      (subst (λ d. IsTrue (is_change d)) e (fit i c l))

  -- the lines of the creations of a text import it
  pub imported : (fig text : List ℕ) (changes : List Change) → IsSite s → HasCreations fig changes
      → AreWritten s changes text → Imports s fig text
  imported fig text changes site has w =
      let is : text ≡ command_lines s (creations_of has.drawing) = w.is
      ∙ ap (command_lines s) has.is in
      let range = all_in_range (creations_of has.drawing) site has.importable.in_range in
      let again : (c : Change) → Contains (creations_of has.drawing) c
      → IsReadAgain s c = subst (λ cs. (c : Change) → Contains cs c → IsReadAgain s c) has.is
      w.again in
      record {
        drawing = has.drawing;
        reads = has.reads;
        importable = has.importable;
        is = is;
        denotes = subst (λ t. DenotesChanges s t (creations_of has.drawing)) (sym is)
            (denotes_from 1 (creations_of has.drawing) (λ c i. again c i (range c i)));
      }

  -- the change that a command asks for, or d
  change_or : Change → Command → Change
  change_or d (Author c) = c
  change_or d (Await i) = d

  -- lines denote one list of changes
  same_changes : (cs ds : List Change) → map (denotes_change s) cs ≡ map (denotes_change s) ds → cs
      ≡ ds
  unfolding change_or
  same_changes [] [] e = refl
  same_changes [] (d ∷ ds) e = absurd cc
  same_changes (c ∷ cs) [] e = absurd cc
  same_changes (c ∷ cs) (d ∷ ds) e =
      let command : command_of s c ≡ command_of s d = cc in
      let first : c ≡ d = ap (λ (l : ScriptLine). change_or d l.command) command in
      let later : map (denotes_change s) cs ≡ map (denotes_change s) ds = cc in
      let rest = same_changes cs ds later in λ i. first i ∷ rest i

  -- what the lines of an import denote are the creations of the drawing
  pub denotes_creations : (fig text : List ℕ) (i : Imports s fig text) (cs : List Change)
      → DenotesChanges s text cs → cs ≡ creations_of i.drawing
  denotes_creations fig text i cs d = same_changes cs (creations_of i.drawing) (sym d ∙ i.denotes)
