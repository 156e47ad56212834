use Rattle.std.proofs.Common.{◌≡◌, ◌++◌, ◌∙◌}
use Rattle.std.specs.Prelude.{codes}
use Rattle.std.specs.Fmt.{decimal}
use Rattle.http_edge.specs.Reply.{crlf}
use Rattle.hec_sender.specs.Texts.{guid_text}
use Rattle.load_run.proofs.stream.post_head.Goals as goal

-- each call adds a part
pub returns : goal.returns
returns c =
    let size : c.as_bytes.result.now ≡ decimal c.args.size = c.as_bytes.ensures.value ∙ c.format.ensures.text in
    let x1 = c.in_ok-extend_from_slice.ensures.items ∙ (λ i. c.in_ok-head.ensures.items i ++ c.args.path.now) in
    let x2 = c.in_ok-extend_from_slice-2.ensures.items ∙ (λ i. x1 i ++ codes " HTTP/1.1") in
    let x3 = c.in_ok-extend_from_slice-3.ensures.items ∙ (λ i. x2 i ++ crlf) in
    let x4 = c.in_ok-extend_from_slice-4.ensures.items ∙ (λ i. x3 i ++ codes "Host: collector") in
    let x5 = c.in_ok-extend_from_slice-5.ensures.items ∙ (λ i. x4 i ++ crlf) in
    let x6 = c.in_ok-extend_from_slice-6.ensures.items ∙ (λ i. x5 i ++ codes "Authorization: Splunk ") in
    let x7 = c.in_ok-write_guid.ensures ∙ (λ i. x6 i ++ guid_text 1) in
    let x8 = c.in_ok-extend_from_slice-7.ensures.items ∙ (λ i. x7 i ++ crlf) in
    let x9 = c.in_ok-extend_from_slice-8.ensures.items ∙ (λ i. x8 i ++ codes "X-Splunk-Request-Channel: ") in
    let x10 = c.in_ok-write_guid-2.ensures ∙ (λ i. x9 i ++ guid_text 2) in
    let x11 = c.in_ok-extend_from_slice-9.ensures.items ∙ (λ i. x10 i ++ crlf) in
    let x12 = c.in_ok-extend_from_slice-10.ensures.items ∙ (λ i. x11 i ++ codes "Content-Type: application/json") in
    let x13 = c.in_ok-extend_from_slice-11.ensures.items ∙ (λ i. x12 i ++ crlf) in
    let x14 = c.in_ok-extend_from_slice-12.ensures.items ∙ (λ i. x13 i ++ codes "Content-Length: ") in
    let x15 = c.in_ok-extend_from_slice-13.ensures.items ∙ (λ i. x14 i ++ size i) in
    let x16 = c.in_ok-extend_from_slice-14.ensures.items ∙ (λ i. x15 i ++ crlf) in
    c.in_ok-extend_from_slice-15.ensures.items ∙ (λ i. x16 i ++ crlf)
