-- The bodies of replies are short.
use Rattle.std.proofs.Common.{◌<◌, ◌≤◌, ◌^◌, ℕ, List, ◌++◌, length, Option, Some, arith, lit<, length-append}
use Rattle.std.specs.Prelude.{codes}
use Rattle.std.specs.Fmt.{decimal}
use Rattle.std.proofs.lemmas.Fmt.{length-decimal-le}
use Rattle.hec_session.specs.declared.code.HecCode.{HecCode}
use Rattle.hec_session.specs.declared.code.HecCode.TheVariants.{Success, TokenRequired, InvalidAuthorization, InvalidToken, EmptyBody, InvalidFormat, ServerError, ServerBusy, ChannelMissing, InvalidChannel, EventRequired, EventBlank, AckDisabled, QueryAuthorization, Healthy, NotFound, MethodNotAllowed}
use Rattle.hec_session.specs.Codes.{number_of, text_of, member_of, object_of}

short_text : (code : HecCode) → length (text_of code) ≤ 41
short_text Success = omega arith
short_text TokenRequired = omega arith
short_text InvalidAuthorization = omega arith
short_text InvalidToken = omega arith
short_text EmptyBody = omega arith
short_text InvalidFormat = omega arith
short_text ServerError = omega arith
short_text ServerBusy = omega arith
short_text ChannelMissing = omega arith
short_text InvalidChannel = omega arith
short_text EventRequired = omega arith
short_text EventBlank = omega arith
short_text AckDisabled = omega arith
short_text QueryAuthorization = omega arith
short_text Healthy = omega arith
short_text NotFound = omega arith
short_text MethodNotAllowed = omega arith

few_digits : (code : HecCode) → number_of code < 1000
few_digits Success = lit< tt
few_digits TokenRequired = lit< tt
few_digits InvalidAuthorization = lit< tt
few_digits InvalidToken = lit< tt
few_digits EmptyBody = lit< tt
few_digits InvalidFormat = lit< tt
few_digits ServerError = lit< tt
few_digits ServerBusy = lit< tt
few_digits ChannelMissing = lit< tt
few_digits InvalidChannel = lit< tt
few_digits EventRequired = lit< tt
few_digits EventBlank = lit< tt
few_digits AckDisabled = lit< tt
few_digits QueryAuthorization = lit< tt
few_digits Healthy = lit< tt
few_digits NotFound = lit< tt
few_digits MethodNotAllowed = lit< tt

short_number : (code : HecCode) → length (decimal (number_of code)) ≤ 3
short_number code =
    let few = few_digits code in
    length-decimal-le 3 (number_of code) (lit< tt) (omega (arith, few)) (omega (arith, few))

pub short_member : (name : List ℕ) (number : ℕ) → length name ≤ 20 → number < 2 ^ 64 → length (member_of name (Some number)) ≤ 44
short_member name number short fits =
    let digits : length (decimal number) ≤ 20 = length-decimal-le 20 number (lit< tt) (omega (arith, fits)) fits in
    omega (arith, short, digits, length-append (codes ",\"" ++ name ++ codes "\":") (decimal number), length-append (codes ",\"" ++ name) (codes "\":"), length-append (codes ",\"") name)

pub short_object : (code : HecCode) (name : List ℕ) (number : Option ℕ) → length (member_of name number) ≤ 44 → length (object_of code name number) ≤ 128
short_object code name number short =
    let text = text_of code in
    let digits = decimal (number_of code) in
    let member = member_of name number in
    let a = codes "{\"text\":\"" ++ text in
    let b = a ++ codes "\",\"code\":" in
    let d = b ++ digits in
    omega (
      arith,
      short_text code,
      short_number code,
      short,
      length-append (codes "{\"text\":\"") text,
      length-append a (codes "\",\"code\":"),
      length-append b digits,
      length-append d member,
      length-append (d ++ member) (codes "}"),
    )
