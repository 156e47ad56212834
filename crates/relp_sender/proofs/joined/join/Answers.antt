use Rattle.std.proofs.Common.{◌≡◌, ◌∙◌, ◌+◌, ◌<◌, ◌++◌, ℕ, List, length, ap, arith, length-append}
use Rattle.std.specs.Prelude.{codes}
use Rattle.event_map.proofs.Functions.{text_of}
use Rattle.event_map.proofs.Exact.{only_text}
use Rattle.relp_frame.specs.Spelling.{frame_text}
use Rattle.relp_sender.specs.Texts.{event_text, txnr_of}
use Rattle.relp_sender.proofs.joined.join.Goals as goal

long_of : (old new text : List ℕ) → new ≡ old ++ text → 65536 < length new → 65536 < length old + length text
long_of old new text is long = omega (arith, ap length is, length-append old text, long)

pub returns-clause-joined : goal.returns-clause-joined
unfolding event_text
returns-clause-joined c = λ joined.
    let out = c.args.out.now in
    let body = c.bytes.result.now in
    let word = codes "syslog" in
    let is : body ≡ text_of c.args.event.now = c.bytes.ensures ∙ only_text c.args.event.now c.in_ok-body.body c.requires.event c.in_ok-body.ensures in
    c.in_ok-write_parts.ensures.ok ∙ ap (λ (n : ℕ). out.items ++ frame_text n word body) c.txnr_of.ensures ∙ ap (λ (l : List ℕ). out.items ++ frame_text (txnr_of c.args.place) word l) is

pub returns-then-len-gt-TEXT_BYTES-clause-long : goal.returns-then-len-gt-TEXT_BYTES-clause-long
unfolding event_text
returns-then-len-gt-TEXT_BYTES-clause-long c = λ joined.
    let out = c.args.out.now in
    let body = c.bytes.result.now in
    let word = codes "syslog" in
    let is : body ≡ text_of c.args.event.now = c.bytes.ensures ∙ only_text c.args.event.now c.in_ok-body.body c.requires.event c.in_ok-body.ensures in
    let wrote : c.write_parts.new.out.items ≡ out.items ++ event_text c.args.place c.args.event.now = c.in_ok-write_parts.ensures.ok ∙ ap (λ (n : ℕ). out.items ++ frame_text n word body) c.txnr_of.ensures ∙ ap (λ (l : List ℕ). out.items ++ frame_text (txnr_of c.args.place) word l) is in
    let before : 0 < length out.items = omega (arith, c.if-before-gt0.true, c.len-before.ensures, out.ok.0) in
    (before, long_of out.items c.write_parts.new.out.items (event_text c.args.place c.args.event.now) wrote (omega (arith, c.if-len-gt-TEXT_BYTES.true, c.len.ensures, c.write_parts.new.out.ok.0)))
