use Rattle.std.proofs.Common.{◌≡◌, ◌+◌, ℕ, List, ◌++◌, ◌∙◌, get_or, ap, sym, subst}
use Rattle.std.proofs.lemmas.Result.{on_ok_weaker}
use Rattle.std.proofs.lemmas.List.Elements.{All-get_or}
use Rattle.event_form.specs.declared.event.Entry.{Entry}
use Rattle.event_form.specs.Event.{IsEvent}
use Rattle.event_map.proofs.Exact.{only_json_object}
use Rattle.event_map.proofs.Functions.{json_object_of}
use Rattle.lumber_frame.specs.Spelling.{json_text}
use Rattle.lumber_sender.proofs.text.write_data.Goals as goal

pub returns : goal.returns
returns c =
    let found = c.index-batch-place.result in
    let there = get_or c.args.batch.now c.args.place found in
    let payload = c.in_ok-payload.payload in
    let limits : IsEvent there.event = All-get_or (λ (x : Entry). IsEvent x.event) c.args.batch.now c.args.place found c.requires.place c.requires.events in
    let is : payload ≡ json_object_of found.event = subst (λ (x : Entry). payload ≡ json_object_of x.event) (sym c.index-batch-place.is) (only_json_object there.event payload limits c.in_ok-payload.ensures.is) in
    on_ok_weaker c.write_json.result (λ wrote. (found, c.index-batch-place.is, wrote ∙ ap (λ (l : List ℕ). c.args.out.now.items ++ json_text (c.args.place + 1) l) (c.bytes.ensures ∙ is))) c.write_json.ensures.ok
