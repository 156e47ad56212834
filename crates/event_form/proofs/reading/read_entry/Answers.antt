use Rattle.std.proofs.Common.{◌≡◌, ℕ, List, take, sym, ◌∙◌, ap, subst}
use Rattle.event_form.specs.Entry.{IsEntry, entry_text, size_of}
use Rattle.event_form.specs.Head.{entry_of}
use Rattle.event_form.proofs.Found.{taken, only}
use Rattle.event_form.proofs.reading.read_entry.Goals as goal

pub returns-clause-found : goal.returns-clause-found
returns-clause-found c =
    let text : c.of.result ≡ c.in-Ok.found.1.now = c.of.ensures ∙ c.in_ok-text.ensures.items in
    let entry = entry_of c.in-Ok.found.0 c.in-Ok.found.1.now in
    let begins = c.in-Ok.ensures.ok in
    subst (λ (t : List ℕ). IsEntry (entry_of c.in-Ok.found.0 t) × (take (size_of entry) c.args.bytes.now ≡ entry_text (entry_of c.in-Ok.found.0 t))) (sym text) (begins.1.limits, taken entry c.args.bytes.now begins.0 begins.1)

pub returns-clause-again : goal.returns-clause-again
returns-clause-again c = λ e rest h.
    let text : c.of.result ≡ c.in-Ok.found.1.now = c.of.ensures ∙ c.in_ok-text.ensures.items in
    let entry = entry_of c.in-Ok.found.0 c.in-Ok.found.1.now in
    let begins = c.in-Ok.ensures.ok in
    let same = only entry e c.args.bytes.now begins.0 rest begins.1 h in
    (ap (entry_of c.in-Ok.found.0) text ∙ same, ap size_of same)
