use Rattle.std.proofs.Common.{◌≡◌, ◌∙◌, ap, ℕ, List, length, w32, w64}
use Rattle.std.specs.Int.{to_be_bytes}
use Rattle.event_form.specs.Entry.{head_text}
use Rattle.event_form.proofs.writing.entry_head.Goals as goal

pub returns : goal.returns
unfolding head_text
returns c =
    let conn : c.copy_from_slice.new.self ≡ to_be_bytes w64 c.args.entry.now.conn = c.copy_from_slice.ensures.after ∙ c.to_be_bytes.ensures in
    let index : c.copy_from_slice-2.new.self ≡ to_be_bytes w64 c.args.entry.now.index = c.copy_from_slice-2.ensures.after ∙ c.to_be_bytes-2.ensures in
    let unit : c.copy_from_slice-3.new.self ≡ to_be_bytes w64 c.args.entry.now.unit = c.copy_from_slice-3.ensures.after ∙ c.to_be_bytes-3.ensures in
    let long : c.copy_from_slice-4.new.self ≡ to_be_bytes w32 (length c.args.entry.now.event.text) = c.copy_from_slice-4.ensures.after ∙ c.to_be_bytes-4.ensures ∙ ap (λ (l : List ℕ). to_be_bytes w32 (length l)) c.bytes.ensures in
    rw (c.code_of.ensures, conn, index, unit, long)
