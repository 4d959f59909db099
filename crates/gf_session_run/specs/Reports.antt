-- The text that tells what became of the commands of each site (this project's choice; numbers are
-- decimal).
use Rattle.std.specs.Prelude.{ℕ, List, ◌++◌, length, flat_map, codes}
use Rattle.std.specs.Fmt.{decimal}
use Rattle.gf_site.specs.declared.cause.Cause.{Cause}
use Rattle.gf_site.specs.declared.cause.Cause.TheVariants.{Exhausted, Range, NoObject, WrongKind}
use Rattle.gf_site.specs.declared.cause.Cause.TheVariants.{BadAim, OwnId, NeverComes}
use Rattle.gf_worker.specs.declared.report.Refused.{Refused}
use Rattle.gf_worker.specs.declared.report.Report.{Report}
use Rattle.gf_session.specs.declared.session.Done.{Done}

-- the name of a cause
abbrev pub cause_word : Cause → List ℕ
cause_word Exhausted = codes "Exhausted"
cause_word Range = codes "Range"
cause_word NoObject = codes "NoObject"
cause_word WrongKind = codes "WrongKind"
cause_word BadAim = codes "BadAim"
cause_word OwnId = codes "OwnId"
cause_word NeverComes = codes "NeverComes"

-- how a line about site s begins
abbrev pub site_text : ℕ → List ℕ
site_text s = codes "site " ++ decimal s

-- how many commands of site s were accepted and refused
unfoldable pub counts_line : ℕ → Report → List ℕ
counts_line s r = site_text s ++ codes " accepted " ++ decimal (length r.accepted.items)
    ++ codes " refused " ++ decimal (length r.refused.items) ++ codes "\n"

-- which command of site s was refused, and why
unfoldable pub refused_line : ℕ → Refused → List ℕ
refused_line s f = site_text s ++ codes " command " ++ decimal f.command ++ codes " "
    ++ cause_word f.cause ++ codes "\n"

-- the lines of site s: its counts, and one for each refused command
abbrev pub report_lines : ℕ → Report → List ℕ
report_lines s r = counts_line s r ++ flat_map (refused_line s) r.refused.items

-- the lines of one site after the other
abbrev pub report_text : List Done → List ℕ
report_text dones = flat_map (λ (d : Done). report_lines d.site.number d.report) dones
