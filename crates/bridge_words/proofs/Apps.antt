-- A command line with one more argument, and with one more command.
use Rattle.std.proofs.Common.{◌≡◌, ◌∙◌, List, ap, ap₂, refl, subst}
use Rattle.std.specs.Prelude.{true, false, Result, IfOk}
use Rattle.std.proofs.lemmas.Result.{IfOk-weaker}
use Rattle.clap.specs.declared.builder.arg.Arg.{Arg}
use Rattle.clap.specs.declared.builder.command.Command.{Command}
use Rattle.clap.specs.declared.builder.command.Command.TheViews.{out-Command}
use Rattle.clap.specs.declared.builder.command.Command.TheOpen.{Command-F}
use Rattle.clap.specs.Built.{AddsArg, AddsSubcommand}
use Rattle.clap.specs.declared.error.Error.{Error}
use Rattle.clap.specs.declared.parser.matches.ArgMatches.{ArgMatches}
use Rattle.clap.specs.Walk.{Rule, Text, rule_of}
use Rattle.clap.specs.Words.{App, FailsBy, HasMatchesOf, app_of, fault_of, is_simple, is_simple_and_free, subcommand_of, subcommand_rows_of, with_rule, with_subcommand}
use Rattle.clap.specs.Simple.{app_of_fields}
use Rattle.bridge_words.specs.Grammar.{IsApp}

-- the settings that bridge's command line has beside those of every command line
abbrev chosen : Command-F Command → Command-F Command
chosen f = record f { no_binary_name = true; disable_help_flag = true; disable_help_subcommand = true; disable_version_flag = true; subcommand_required = true }

abbrev chosen_app : App → App
chosen_app app = record app {
  top = record app.top { no_binary_name = true; disable_help_flag = true; disable_help_subcommand = true; disable_version_flag = true; subcommand_required = true };
}

pub chooses : (app : App) (c₀ c₁ c₂ c₃ c₄ c₅ : Command) → IsApp app c₀
    → out-Command c₁ ≡ record (out-Command c₀) { no_binary_name = true }
    → out-Command c₂ ≡ record (out-Command c₁) { disable_help_flag = true }
    → out-Command c₃ ≡ record (out-Command c₂) { disable_help_subcommand = true }
    → out-Command c₄ ≡ record (out-Command c₃) { disable_version_flag = true }
    → out-Command c₅ ≡ record (out-Command c₄) { subcommand_required = true }
    → IsApp (chosen_app app) c₅
chooses app c₀ c₁ c₂ c₃ c₄ c₅ is e₁ e₂ e₃ e₄ e₅ =
    let two = e₂ ∙ ap (λ (f : Command-F Command). record f { disable_help_flag = true }) e₁ in
    let three = e₃ ∙ ap (λ (f : Command-F Command). record f { disable_help_subcommand = true }) two in
    let four = e₄ ∙ ap (λ (f : Command-F Command). record f { disable_version_flag = true }) three in
    let all : out-Command c₅ ≡ chosen (out-Command c₀) = e₅ ∙ ap (λ (f : Command-F Command). record f { subcommand_required = true }) four in
    record {
      is = ap app_of_fields all ∙ ap chosen_app is.is;
      local = ap (λ (f : Command-F Command). f.has_globals) all ∙ is.local;
    }

pub adds_argument : (app : App) (rule : Rule) (old : Command) (a : Arg) (new : Command) → IsApp app old → a.global ≡ false → rule_of a ≡ rule → AddsArg old a new → IsApp (with_rule app rule) new
adds_argument app rule old a new is own rule_is adds = record {
  is = adds.shape own ∙ ap₂ with_rule is.is rule_is;
  local = adds.globals ∙ rw (is.local, own) refl;
}

pub adds_command : (app sub_app : App) (old sub new : Command) → IsApp app old → IsApp sub_app sub → AddsSubcommand old sub new → IsApp (with_subcommand app sub_app.top) new
adds_command app sub_app old sub new is sub_is adds = record {
  is = adds.shape sub_is.local ∙ ap₂ with_subcommand is.is (ap (λ (a : App). a.top) sub_is.is);
  local = adds.globals ∙ rw (is.local, sub_is.local) refl;
}

-- what clap says of words, where the command line is this one
pub fails_as : (app : App) (c : Command) (words : List Text) (r : Result ArgMatches Error) → IsApp app c → is_simple_and_free app ≡ true
    → (is_simple_and_free (app_of c) ≡ true → FailsBy (fault_of (app_of c) words) r) → FailsBy (fault_of app words) r
fails_as app c words r is simple kinds = subst (λ (a : App). is_simple_and_free a ≡ true → FailsBy (fault_of a words) r) is.is kinds simple

pub finds_as : (app : App) (c : Command) (words : List Text) (r : Result ArgMatches Error) → IsApp app c → is_simple app ≡ true
    → IfOk r (HasMatchesOf (app_of c) words) → IfOk r (λ matches. subcommand_rows_of matches ≡ subcommand_of app words)
finds_as app c words r is simple has =
    IfOk-weaker r _ _ (λ matches found. (found simple).1) (subst (λ (a : App). IfOk r (HasMatchesOf a words)) is.is has)
