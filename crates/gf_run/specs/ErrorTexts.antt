-- What a run says where it is refused (this project's choice).
use Rattle.std.specs.Prelude.{ℕ, List, ◌++◌, Option, Some, None, codes}
use Rattle.std.specs.Fmt.{decimal}
use Rattle.gf_ops.specs.FaultWords.{fault_word}
use Rattle.gf_ops.specs.IdText.{id_text}
use Rattle.gf_drawing.specs.FaultWords as compile
use Rattle.gf_replay.specs.CauseWords.{cause_word}
use Rattle.gf_run.specs.declared.studio_error.StudioError.{StudioError}
use Rattle.gf_run.specs.declared.studio_error.StudioError.TheVariants as studio

-- the text of an error; none is stated of a text that reads as no drawing
abbrev pub error_text : StudioError → Option (List ℕ)
error_text studio.ReadFailed = Some (codes "read failed")
error_text studio.TooLong = Some (codes "input too long")
error_text (studio.Line n why) = Some (codes "line " ++ decimal n ++ codes ": " ++ cause_word why)
error_text (studio.Dropped i why) =
    Some (codes "operation " ++ id_text i ++ codes " dropped: " ++ fault_word why)
error_text (studio.Fig e) = None
error_text (studio.Compile why) = Some (codes "export refused: " ++ compile.fault_word why)
error_text (studio.NoObject o) = Some (codes "no object " ++ id_text o.0)
error_text studio.WriteFailed = Some (codes "write failed")
error_text studio.OutOfMemory = Some (codes "out of memory")
