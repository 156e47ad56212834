use Rattle.std.proofs.Common.{◌≡◌, ◌∙◌, sym, Option, None, Some, option_map}
use Rattle.std.specs.Prelude.{MatchOption}
use Rattle.std.specs.Borrow.{Bor}
use Rattle.clap.specs.Matches.{found_of}
use Rattle.clap.specs.Walk.{Text}
use Rattle.clap.proofs.WalkLemmas.{first_value-rows}
use Rattle.bridge_words.specs.Values.{value_of, rows_in}
use Rattle.bridge_words.proofs.values.value_of.Goals as goal

behind : (r : Option (Bor Text)) (o : Option Text) → option_map (λ s. s.now) r ≡ o → MatchOption r (o ≡ None) (λ text. o ≡ Some text.now)
behind None o is = sym is
behind (Some text) o is = sym is

pub returns : goal.returns
unfolding value_of rows_in
returns c = behind c.get_str.result _ (c.get_str.ensures ∙ first_value-rows (found_of c.args.matches.now) c.args.id.now)
