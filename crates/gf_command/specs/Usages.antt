-- What the table of commands has of each command. No public clause cites this module.
use Rattle.std.specs.Prelude.{List, []}
use Rattle.clap.specs.Walk.{Rule}
use Rattle.clap.specs.Simple.{App, Shape}
use Rattle.gf_command.specs.CommandLine.{check_options, command, fig_options, picture_options}
use Rattle.gf_command.specs.CommandLine.{query_options, service_options, session_options}
use Rattle.gf_command.specs.CommandLine.{site_options, status_options, take_options}
use Rattle.gf_command.specs.declared.describing.Takes.{Takes}
use Rattle.gf_command.specs.declared.describing.Takes.TheVariants as takes
use Rattle.gf_command.specs.declared.describing.Usage.{Usage}

-- the options of a command that takes these
abbrev pub options_of : Takes → List Rule
options_of takes.Fig = fig_options
options_of takes.Canvas = picture_options
options_of takes.Query = query_options
options_of takes.Site = site_options
options_of takes.Drawing = take_options
options_of takes.Check = status_options
options_of takes.Editor = check_options
options_of takes.Sites = session_options
options_of takes.Requests = service_options

-- the command of a row
abbrev pub usage_shape : Usage → Shape
usage_shape u = command u.name.now (options_of u.takes)

-- a command without commands of its own
abbrev pub leaf : Shape → App
leaf s = record { top = s; subs = [] }
