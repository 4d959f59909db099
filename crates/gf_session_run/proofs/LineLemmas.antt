-- How the commands of the lines grow, and what a refused line says of the text.
use Rattle.std.specs.Prelude.{◌⊎◌, Ok, Err}
use Rattle.std.proofs.Common.{◌≡◌, ℕ, List, [], ◌∷◌, ◌++◌, ◌+◌, map, sym, ap, subst, ◌∙◌}
use Rattle.std.proofs.Common.{append_assoc, inl, inr}
use Rattle.std.proofs.lemmas.List.{map-append}
use Rattle.gf_json.specs.declared.line_error.LineError.{LineError}
use Rattle.gf_json.specs.declared.line_error.LineError.TheVariants as line
use Rattle.gf_json.specs.declared.scripts.ScriptLine.{ScriptLine}
use Rattle.gf_json.specs.LineValues.{Got}
use Rattle.gf_json.specs.ScriptLines.{script_denoted}
use Rattle.gf_worker.specs.declared.script.Script.{Script}
use Rattle.gf_replay.specs.declared.reading_error.LineCause.{LineCause}
use Rattle.gf_replay.specs.declared.reading_error.LineCause.TheVariants as cause
use Rattle.gf_replay.specs.declared.reading_error.ReadingError.TheVariants as reading
use Rattle.gf_replay.specs.Taking.{of_line}
use Rattle.gf_replay.proofs.GotLemmas.{denotes_read, fault_read}
use Rattle.gf_session_run.specs.DenotedScripts.{HasScriptFault, IsScriptFault}
use Rattle.gf_session_run.specs.DenotedScripts.{denotes_command}
use Rattle.gf_session_run.specs.SessionSteps.{GainsCommand, HasNoRoomAt, HasScripts}
use Rattle.gf_session_run.specs.SessionSteps.{RefusesScripts}
use Rattle.gf_session_run.proofs.ScriptLemmas.{fit_more, full_beyond, scripts_more}

module _ (n : ℕ) (bytes : List ℕ) (m : ℕ) (text : List ℕ) (left : List (ℕ × List ℕ))
    (scripts : List Script) (has : HasScripts n bytes ((m, text) ∷ left) scripts)
    (q : Got ScriptLine) (known : (q ≡ Err line.OutOfMemory) ⊎ (q ≡ script_denoted text)) where
  fault_at : (why : LineCause) → IsScriptFault n has.commands text why
      → HasScriptFault n bytes m why
  fault_at why f = record {
    line = text;
    at = record {
      before = has.before;
      after = left;
      whole = has.whole;
      commands = has.commands;
      lines = has.lines;
      fit = has.fit;
    };
    fault = f;
  }

  -- what the line was read as is a fault that it has
  pub fault_refused : (f : LineError) → q ≡ Err f → RefusesScripts n bytes (of_line m f)
  fault_refused f is = elim (fault_read q (script_denoted text) f known is) [
    | inl e ↦ subst (λ x. RefusesScripts n bytes (of_line m x)) (sym e) tt
    | inr d ↦ own_fault f d
  ]
    where
      own_fault : (g : LineError) → script_denoted text ≡ Err g → RefusesScripts n bytes (of_line m g)
      own_fault line.Json e = fault_at cause.Json e
      own_fault line.Field e = fault_at cause.Field e
      own_fault line.Range e = fault_at cause.Range (inl e)
      own_fault line.OutOfMemory e = tt

  -- or it is a command of a site, whose script stands at this index
  module _ (l : ScriptLine) (is : q ≡ Ok l) (index : ℕ) (site : l.site ≡ index + 1) where
    denotes : script_denoted text ≡ Ok l
    denotes = denotes_read q (script_denoted text) l known is

    -- for which there is no room
    pub full_refused : HasNoRoomAt scripts index
        → RefusesScripts n bytes (reading.Line m cause.Range)
    full_refused full = fault_at cause.Range (inr (record {
      command = l;
      denotes = denotes;
      beyond = full_beyond n has.commands scripts has.by_site l index site full;
    }))

    -- or which the script gains
    pub scripts_gain : ¬ (HasNoRoomAt scripts index) → (new : List Script)
        → GainsCommand scripts index l.command new → HasScripts n bytes left new
    scripts_gain room new gains = record {
      before = has.before ++ (m, text) ∷ [];
      whole = has.whole ∙ sym (append_assoc has.before ((m, text) ∷ []) left);
      commands = has.commands ++ l ∷ [];
      lines =
          map-append (λ (k : ℕ × List ℕ). script_denoted k.1) has.before ((m, text) ∷ [])
          ∙ (ap (λ r. r ++ script_denoted text ∷ []) has.lines
          ∙ (ap (λ r. map denotes_command has.commands ++ r ∷ []) denotes
          ∙ sym (map-append denotes_command has.commands (l ∷ []))));
      fit = fit_more n has.commands scripts has.fit has.by_site l index site room;
      by_site = scripts_more n has.commands scripts has.fit has.by_site l index site room new gains;
    }
