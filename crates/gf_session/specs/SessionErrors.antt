-- What the errors of a session say (this project's choice).
use Rattle.std.specs.Prelude.{ℕ, List, codes}
use Rattle.gf_session.specs.declared.session.SessionError.{SessionError}
use Rattle.gf_session.specs.declared.session.SessionError.TheVariants.{Sites, OutOfMemory}

-- the text of an error
abbrev pub session_error_text : SessionError → List ℕ
session_error_text Sites = codes "sites must be 2 to 8"
session_error_text OutOfMemory = codes "session: out of memory"
