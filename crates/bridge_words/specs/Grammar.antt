-- The words of bridge as they are told to clap, whose definitions say which words these are: options in any order and each
-- once, `--name value` or `--name=value`, and `--`, after which there is no option.
use Rattle.std.specs.Prelude.{◌≡◌, Bool, List, Option, Some, codes, true, false}
use Rattle.clap.specs.declared.builder.action.ArgAction.TheVariants.{SetTrue}
use Rattle.clap.specs.declared.builder.command.Command.{Command}
use Rattle.clap.specs.declared.builder.command.Command.TheViews.{out-Command}
use Rattle.clap.specs.Walk.{Row, Text}
use Rattle.clap.specs.Simple.{App, app_of, new_app, new_rule, subcommand_of, with_rule, with_subcommand}
use Rattle.clap.specs.Kinds.{Kinds}
use Rattle.clap.specs.Faults.{fault_of}

-- a word that must stand or may, an option with a value, and one without
abbrev pub word : Bool → Text → App → App
word is_needed name app = with_rule app (record (new_rule name) { required = is_needed })

abbrev needs : Text → App → App
needs = word true

abbrev pub option : Text → App → App
option name app = with_rule app (record (new_rule name) { long = Some name })

abbrev pub flag : Text → App → App
flag name app = with_rule app (record (new_rule name) { long = Some name; action = Some SetTrue })

-- `format SLOTS SIZE`
abbrev pub format_app : App
format_app = needs (codes "size") (needs (codes "slots") (new_app (codes "format")))

-- `list [--as FORM]`
abbrev pub list_app : App
list_app = option (codes "as") (new_app (codes "list"))

-- `replay PROTO [--token G] [--ack-token G]`
abbrev pub replay_app : App
replay_app = option (codes "ack-token") (option (codes "token") (needs (codes "proto") (new_app (codes "replay"))))

-- `drain PROTO [PLACE] [--out-token G] [--out-channel G] [--polls N]`
abbrev pub drain_app : App
drain_app =
    option (codes "polls") (option (codes "out-channel") (option (codes "out-token")
    (word false (codes "place") (needs (codes "proto") (new_app (codes "drain"))))))

-- `load PROTO NUMBER COUNT`
abbrev pub load_app : App
load_app = needs (codes "count") (needs (codes "number") (needs (codes "proto") (new_app (codes "load"))))

-- `serve [--relp P] [--lumberjack P] [--hec P] [--status P] [--workers N] [--connections N] [--talks N] [--token G]
--     [--ack-token G] [--tokens LIST] [--group] [--forward PROTO] [--to P] [--out-token G] [--out-channel G] [--polls N]`
abbrev pub serve_app : App
serve_app =
    option (codes "polls") (option (codes "out-channel") (option (codes "out-token")
    (option (codes "to") (option (codes "forward") (flag (codes "group")
    (option (codes "tokens") (option (codes "ack-token") (option (codes "token")
    (option (codes "talks") (option (codes "connections") (option (codes "workers") (option (codes "status")
    (option (codes "hec") (option (codes "lumberjack") (option (codes "relp") (new_app (codes "serve")))))))))))))))))

-- `move TARGET TAG`
abbrev pub move_app : App
move_app = needs (codes "tag") (needs (codes "target") (new_app (codes "move")))

-- one command is named, no word is `help`, and there is no option but the commands' own
abbrev pub top_app : App
top_app = let app = new_app (codes "bridge") in
    record app {
      top = record app.top {
        no_binary_name = true;
        disable_help_flag = true;
        disable_help_subcommand = true;
        disable_version_flag = true;
        subcommand_required = true;
      };
    }

abbrev pub bridge_app : App
bridge_app =
    with_subcommand (with_subcommand (with_subcommand (with_subcommand (with_subcommand (with_subcommand (with_subcommand top_app
    format_app.top) list_app.top) replay_app.top) drain_app.top) load_app.top) serve_app.top) move_app.top

-- the command line is this one, and none of its arguments is of all commands
pub record IsApp (app : App) (c : Command) : Type 0 where
  pub is : app_of c ≡ app
  pub local : (out-Command c).has_globals ≡ false

-- what is wrong with the words, by clap: nothing where they are those of a command
unfoldable pub refusals : List Text → Kinds
refusals words = fault_of bridge_app words

-- the name of the command, and what was found of its words
unfoldable pub named : List Text → Option (Text × List Row)
named words = subcommand_of bridge_app words
