use Rattle.std.proofs.Common.{map, string_bytes}
use Rattle.bridge_words.specs.Words.{IsCommand}
use Rattle.cli_parts.proofs.Listing.{lists_by, no_list, serves_by, no_serve}
use Rattle.cli_parts.proofs.opening.Opening.of.Goals as goal

pub returns-in-Some : goal.returns-in-Some
returns-in-Some c =
    let is : IsCommand c.in-Some.command (map string_bytes c.args.words.now) = c.of.ensures.some c.in-Some.command (cc) in
    let by = lists_by c.in-Some.command (map string_bytes c.args.words.now) is in
    let serve = serves_by c.in-Some.command (map string_bytes c.args.words.now) is in
    record {
      shared = ((λ shared. by.0 (c.sharing_of.ensures.shared.0 shared)), (λ list. c.sharing_of.ensures.shared.1 (by.1 list)));
      serves = ((λ yes. serve.0 (c.is_serving.ensures.0 yes)), (λ yes. c.is_serving.ensures.1 (serve.1 yes)));
    }

-- no command, and so no list, and none that serves
pub returns-in-None : goal.returns-in-None
returns-in-None c = record {
  shared = ((λ shared. absurd (cc)), (λ list. absurd (no_list _ (c.of.ensures.none (cc)) list)));
  serves = ((λ yes. absurd (cc)), (λ serve. absurd (no_serve _ (c.of.ensures.none (cc)) serve)));
}
