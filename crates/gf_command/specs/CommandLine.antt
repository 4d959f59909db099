-- The program's commands and the options of each, as clap reads them (this project's choice).
use Rattle.std.specs.Prelude.{ℕ, List, [], ◌∷◌, Some, true, false, codes, pos, negsuc}
use Rattle.clap.specs.Walk.{Rule, Text}
use Rattle.clap.specs.Simple.{App, Shape, new_rule, new_shape}
use Rattle.clap.specs.declared.builder.action.ArgAction.TheVariants.{SetTrue}
use Rattle.clap.specs.declared.builder.value_parser.ValueParser.{ValueParser}
use Rattle.clap.specs.declared.builder.value_parser.ValueParser.TheVariants.{Signed, Unsigned}

-- an option that takes one text, behind its name
abbrev pub text : Text → Rule
text name = record (new_rule name) { long = Some name; value_names = 1 }

-- an option for a number that the parser takes, with the text for it where it is not given
abbrev pub number : Text → Text → ValueParser → Rule
number name default within = record (text name) { defaults = default ∷ []; parser = Some within }

-- an option for a number that the parser takes, which may be left out
abbrev pub optional : Text → ValueParser → Rule
optional name within = record (text name) { parser = Some within }

-- an option that takes no text
abbrev pub flag : Text → Rule
flag name = record (new_rule name) { long = Some name; action = Some SetTrue }

-- an option for a coordinate of -2,000,000 to 2,000,000
abbrev pub place_option : Text → Rule
place_option name = optional name (Signed (negsuc 1999999) (pos 2000000))

-- an option for a number from 1 to most
abbrev pub count_option : Text → Text → ℕ → Rule
count_option name default most = number name default (Unsigned 1 most)

-- the options of a picture
abbrev pub picture_options : List Rule
picture_options =
    place_option (codes "x") ∷ place_option (codes "y") ∷
    optional (codes "step") (Unsigned 1 10000) ∷ flag (codes "fit") ∷
    count_option (codes "width") (codes "64") 4096 ∷
    count_option (codes "height") (codes "64") 4096 ∷
    count_option (codes "workers") (codes "1") 16 ∷ []

-- how many workers read the lines of a run that only reads
abbrev pub reading : Rule
reading = count_option (codes "workers") (codes "4") 16

-- the options of a FIG text
abbrev pub fig_options : List Rule
fig_options = flag (codes "named") ∷ reading ∷ []

-- the options of a query
abbrev pub query_options : List Rule
query_options = text (codes "object") ∷ text (codes "at") ∷ flag (codes "json") ∷ reading ∷ []

-- which site makes the operations of a run, which has to be given
abbrev pub author : Rule
author = record (text (codes "site")) { parser = Some (Unsigned 1 8); required = true }

-- the option of an edit and of an import
abbrev pub site_options : List Rule
site_options = author ∷ []

-- the options of a take
abbrev pub take_options : List Rule
take_options =
    author ∷ optional (codes "after") (Unsigned 0 10000) ∷ flag (codes "named") ∷ reading ∷ []

-- the options of a status
abbrev pub status_options : List Rule
status_options = flag (codes "check") ∷ flag (codes "json") ∷ reading ∷ []

-- the option of a check, which may be left out
abbrev pub check_options : List Rule
check_options = optional (codes "site") (Unsigned 1 8) ∷ []

-- the option of a session
abbrev pub session_options : List Rule
session_options = number (codes "sites") (codes "2") (Unsigned 2 8) ∷ []

-- the option of a service
abbrev pub service_options : List Rule
service_options = reading ∷ []

-- a command of this name, with these options
abbrev pub command : Text → List Rule → Shape
command name options = record (new_shape name) { rules = options }

-- the commands of the program
abbrev pub commands : List Shape
commands =
    command (codes "fig") fig_options ∷ command (codes "paint") picture_options ∷
    command (codes "repaint") picture_options ∷ command (codes "inspect") query_options ∷
    command (codes "import") site_options ∷ command (codes "edit") site_options ∷
    command (codes "take") take_options ∷
    command (codes "status") status_options ∷ command (codes "check") check_options ∷
    command (codes "session") session_options ∷ command (codes "serve") service_options ∷ []

-- the program: one of its commands is wanted, and without a word its help is told
abbrev pub program : App
program = record {
  top = record (new_shape (codes "figgroup")) {
    is_leaf = false;
    has_version = true;
    arg_required_else_help = true;
    subcommand_required = true;
  };
  subs = commands;
}
