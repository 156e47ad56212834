use Rattle.std.proofs.Common.{◌≡◌, ap₂, refl, sym, List, Option, None, Some, option_map}
use Rattle.std.specs.Prelude.{MatchOption, Box}
use Rattle.std.specs.Box.{box_value}
use Rattle.std.specs.Borrow.{Bor}
use Rattle.clap.specs.declared.parser.matches.ArgMatches.{ArgMatches}
use Rattle.clap.specs.declared.parser.matches.SubCommand.{SubCommand}
use Rattle.clap.specs.declared.parser.matches.ArgMatches.TheViews.{out-ArgMatches, out-SubCommand}
use Rattle.clap.specs.Matches.{found_of}
use Rattle.clap.specs.Walk.{Row, Text, rows_of}
use Rattle.clap.specs.Simple.{subcommand_rows}
use Rattle.bridge_words.specs.Values.{rows_in}
use Rattle.bridge_words.proofs.grammar.found.Goals as goal

-- a subcommand that was met, by its name and its rows
met : {Z : Type 0} (s : Option (Box SubCommand Z)) (r : Option (Bor Text × Bor ArgMatches))
    → option_map (λ p. p.0.now) r ≡ option_map (λ b. (out-SubCommand (box_value b)).name.now) s
    → option_map (λ p. rows_of (found_of p.1.now)) r ≡ option_map (λ p. p.1) (subcommand_rows s)
    → MatchOption r (subcommand_rows s ≡ None) (λ p. subcommand_rows s ≡ Some (p.0.now, rows_in p.1.now))
unfolding rows_in
met None None names rows = refl
met None (Some p) names rows = absurd (cc)
met (Some b) None names rows = absurd (cc)
met (Some b) (Some p) names rows =
    let name : p.0.now ≡ (out-SubCommand (box_value b)).name.now = cc in
    let found : rows_of (found_of p.1.now) ≡ rows_of (found_of (out-SubCommand (box_value b)).matches) = cc in
    ap₂ (λ (n : Text) (r : List Row). Some (n, r)) (sym name) (sym found)

pub returns : goal.returns
returns c = met (out-ArgMatches c.args.matches.now).subcommand c.subcommand.result c.subcommand.ensures.name c.subcommand.ensures.rows
