use Rattle.std.proofs.Common.{◌≡◌, ◌∙◌, ap}
use Rattle.notes.specs.declared.note.Note.{Note}
use Rattle.bridge_parts.specs.Refused.{note_of_sent}
use Rattle.bridge_parts.specs.Written.{first_of}
use Rattle.bridge_parts.proofs.Firsts.{wrote_after, fine_or_fault, note_of_both}
use Rattle.commands.proofs.Firsts.{prints_of}
use Rattle.commands.proofs.placing.print_after.Goals as goal

pub returns-in_default : goal.returns-in_default
returns-in_default g c =
    let print = c.print_counts.result in
    let ended = note_of_sent c.args.sent in
    let told = c.sent_note.ensures in
    let is : c.first_of.result ≡ first_of ended print = c.first_of.ensures ∙ ap (λ (n : Note). first_of n print) told in record {
      writes = wrote_after ended print c.first_of.result _ _ is (fine_or_fault print) c.print_counts.ensures.writes;
      note = note_of_both ended print c.first_of.result is c.print_counts.ensures.undisturbed;
      printed = prints_of c.args.sent _ c.first_of.result _ c.in_default.not-NoMemory (record { print = print; written = c.print_counts.ensures.line; note_is = is })
          c.print_counts.ensures.writes;
    }
