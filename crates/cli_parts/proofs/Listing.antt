-- Words list the entries exactly where their command does, and serve many senders exactly where it does.
use Rattle.std.proofs.Common.{◌≡◌, ◌↔◌, ℕ, List, sym, subst}
use Rattle.bridge_words.specs.declared.command.Command.{Command}
use Rattle.bridge_words.specs.declared.command.Command.TheVariants.{Format, List as ListCommand, Replay, Drain, Load, Serve}
use Rattle.bridge_words.specs.Words.{IsCommand, IsNoCommand}
use Rattle.bridge_words.proofs.Once.{one_command}
use Rattle.cli_parts.specs.Opening.{IsList, AreList, IsServe, AreServe}

lists : (command : Command) (words : List (List ℕ)) → IsCommand command words → IsList command → AreList words
lists (ListCommand form) words is list = (form, is)
lists (Format slots size) words is list = absurd list
lists (Replay proto token ack_token) words is list = absurd list
lists (Drain receiver place) words is list = absurd list
lists (Load proto number count) words is list = absurd list
lists (Serve server) words is list = absurd list

pub lists_by : (command : Command) (words : List (List ℕ)) → IsCommand command words → IsList command ↔ AreList words
lists_by command words is = (
  lists command words is,
  λ list. let same : command ≡ ListCommand list.0 = one_command command (ListCommand list.0) words is list.1 in subst IsList (sym same) tt,
)

pub no_list : (words : List (List ℕ)) → IsNoCommand words → AreList words → ⊥
no_list words none list = none (ListCommand list.0) list.1

serves : (command : Command) (words : List (List ℕ)) → IsCommand command words → IsServe command → AreServe words
serves (Serve server) words is serve = (server, is)
serves (Format slots size) words is serve = absurd serve
serves (ListCommand form) words is serve = absurd serve
serves (Replay proto token ack_token) words is serve = absurd serve
serves (Drain receiver place) words is serve = absurd serve
serves (Load proto number count) words is serve = absurd serve

pub serves_by : (command : Command) (words : List (List ℕ)) → IsCommand command words → IsServe command ↔ AreServe words
serves_by command words is = (
  serves command words is,
  λ serve. let same : command ≡ Serve serve.0 = one_command command (Serve serve.0) words is serve.1 in subst IsServe (sym same) tt,
)

pub no_serve : (words : List (List ℕ)) → IsNoCommand words → AreServe words → ⊥
no_serve words none serve = none (Serve serve.0) serve.1
