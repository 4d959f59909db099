-- The scripts that the lines of a session text denote, and which line denotes none (this project's
-- choice).
use Rattle.std.specs.Prelude.{◌≡◌, ◌⊎◌, ℕ, ◌+◌, ◌<◌, ◌≤◌, ◌==◌}
use Rattle.std.specs.Prelude.{List, ◌∷◌, ◌++◌, length, map, filter, slice_get, Contains}
use Rattle.std.specs.Prelude.{Some, Ok, Err}
use Rattle.gf_streams.specs.TextLines.{numbered_lines}
use Rattle.gf_json.specs.declared.line_error.LineError.TheVariants as line
use Rattle.gf_json.specs.declared.scripts.Command.{Command}
use Rattle.gf_json.specs.declared.scripts.ScriptLine.{ScriptLine}
use Rattle.gf_json.specs.LineValues.{Got}
use Rattle.gf_json.specs.ScriptLines.{script_denoted}
use Rattle.gf_worker.specs.declared.script.Script.{Script}
use Rattle.gf_replay.specs.declared.reading_error.LineCause.{LineCause}
use Rattle.gf_replay.specs.declared.reading_error.LineCause.TheVariants as cause

-- what a line that denotes this command of a site reads as
abbrev pub denotes_command : ScriptLine → Got ScriptLine
denotes_command l = Ok l

-- the lines denote these commands of sites, in their order
abbrev pub AreCommandsOf : List (ℕ × List ℕ) → List ScriptLine → Type 0
AreCommandsOf lines ls = map (λ (line : ℕ × List ℕ). script_denoted line.1) lines
    ≡ map denotes_command ls

-- the commands of site s among these, in order
abbrev pub commands_of : ℕ → List ScriptLine → List Command
commands_of s ls =
    map (λ (l : ScriptLine). l.command) (filter (λ (l : ScriptLine). l.site == s) ls)

-- each command is for a site up to n, and each site has at most 1,000
pub record Fit (n : ℕ) (ls : List ScriptLine) : Type 0 where
  pub sites : (l : ScriptLine) → Contains ls l → l.site ≤ n
  pub few : (s : ℕ) → length (commands_of s ls) ≤ 1000

-- there are n scripts, the first of which has the commands of site 1, and so on
pub record AreScriptsOf (n : ℕ) (ls : List ScriptLine) (scripts : List Script) : Type 0 where
  pub long : length scripts ≡ n
  pub each : (k : ℕ) (s : Script) → slice_get scripts k ≡ Some s
      → s.0.items ≡ commands_of (k + 1) ls

-- the lines of the bytes denote commands of n sites, at most 1,000 each, in these scripts
pub record DenotesScripts (n : ℕ) (bytes : List ℕ) (scripts : List Script) : Type 0 where
  pub commands : List ScriptLine
  pub lines : AreCommandsOf (numbered_lines bytes) commands
  pub fit : Fit n commands
  pub by_site : AreScriptsOf n commands scripts

-- the lines of the bytes before line number m denote commands that fit, and this is line m
pub record IsLineBehind (n : ℕ) (bytes : List ℕ) (m : ℕ) (line : List ℕ) : Type 0 where
  pub before : List (ℕ × List ℕ)
  pub after : List (ℕ × List ℕ)
  pub whole : numbered_lines bytes ≡ before ++ (m, line) ∷ after
  pub commands : List ScriptLine
  pub lines : AreCommandsOf before commands
  pub fit : Fit n commands

-- the line denotes a command of a site above n, or of one that has 1,000 among these
pub record GoesBeyond (n : ℕ) (ls : List ScriptLine) (text : List ℕ) : Type 0 where
  pub command : ScriptLine
  pub denotes : script_denoted text ≡ Ok command
  pub beyond : (n < command.site) ⊎ (1000 ≤ length (commands_of command.site ls))

-- what is wrong with a line behind the lines of these commands
abbrev pub IsScriptFault : ℕ → List ScriptLine → List ℕ → LineCause → Type 0
IsScriptFault n ls text cause.Json = script_denoted text ≡ Err line.Json
IsScriptFault n ls text cause.Field = script_denoted text ≡ Err line.Field
IsScriptFault n ls text cause.Range = (script_denoted text ≡ Err line.Range)
    ⊎ GoesBeyond n ls text
IsScriptFault n ls text cause.Clash = ⊥

-- line m is the first that denotes no command, or one that doesn't fit, for this cause
pub record HasScriptFault (n : ℕ) (bytes : List ℕ) (m : ℕ) (cause : LineCause) : Type 0 where
  pub line : List ℕ
  pub at : IsLineBehind n bytes m line
  pub fault : IsScriptFault n at.commands line cause
