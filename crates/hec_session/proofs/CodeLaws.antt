-- The table of codes.
use Rattle.std.proofs.Common.{◌≡◌, ℕ, ◌<◌, Option, true, refl, sym, ◌∙◌, ap, get_or, lit<}
use Rattle.std.specs.Prelude.{◌==◌, if◌then◌else◌}
use Rattle.http_edge.specs.Reply.{is_status}
use Rattle.hec_session.specs.declared.code.HecCode.{HecCode}
use Rattle.hec_session.specs.declared.code.HecCode.TheVariants.{Success, TokenRequired, InvalidAuthorization, InvalidToken, EmptyBody, InvalidFormat, ServerError, ServerBusy, ChannelMissing, InvalidChannel, EventRequired, EventBlank, AckDisabled, QueryAuthorization, Healthy, NotFound, MethodNotAllowed}
use Rattle.hec_session.specs.declared.code.TheConstants.{CODES}
use Rattle.hec_session.specs.Codes.{number_of, status_of, say_of, IsReply}

-- the code with a number
code_with : ℕ → HecCode
code_with number =
    if number == 0 then Success
    else if number == 2 then TokenRequired
    else if number == 3 then InvalidAuthorization
    else if number == 4 then InvalidToken
    else if number == 5 then EmptyBody
    else if number == 6 then InvalidFormat
    else if number == 8 then ServerError
    else if number == 9 then ServerBusy
    else if number == 10 then ChannelMissing
    else if number == 11 then InvalidChannel
    else if number == 12 then EventRequired
    else if number == 13 then EventBlank
    else if number == 14 then AckDisabled
    else if number == 16 then QueryAuthorization
    else if number == 17 then Healthy
    else if number == 404 then NotFound
    else MethodNotAllowed

-- a code is the one with its number
code_with_number : (code : HecCode) → code_with (number_of code) ≡ code
unfolding code_with
code_with_number Success = refl
code_with_number TokenRequired = refl
code_with_number InvalidAuthorization = refl
code_with_number InvalidToken = refl
code_with_number EmptyBody = refl
code_with_number InvalidFormat = refl
code_with_number ServerError = refl
code_with_number ServerBusy = refl
code_with_number ChannelMissing = refl
code_with_number InvalidChannel = refl
code_with_number EventRequired = refl
code_with_number EventBlank = refl
code_with_number AckDisabled = refl
code_with_number QueryAuthorization = refl
code_with_number Healthy = refl
code_with_number NotFound = refl
code_with_number MethodNotAllowed = refl

-- codes of one number are one
pub one_code : (code other : HecCode) → number_of code ≡ number_of other → code ≡ other
one_code code other same = sym (code_with_number code) ∙ ap code_with same ∙ code_with_number other

-- where a code stands among all
pub code_stands : (code : HecCode) → (k : ℕ) × (k < 17) × (get_or CODES k Success ≡ code)
code_stands Success = (0, lit< tt, refl)
code_stands TokenRequired = (1, lit< tt, refl)
code_stands InvalidAuthorization = (2, lit< tt, refl)
code_stands InvalidToken = (3, lit< tt, refl)
code_stands EmptyBody = (4, lit< tt, refl)
code_stands InvalidFormat = (5, lit< tt, refl)
code_stands ServerError = (6, lit< tt, refl)
code_stands ServerBusy = (7, lit< tt, refl)
code_stands ChannelMissing = (8, lit< tt, refl)
code_stands InvalidChannel = (9, lit< tt, refl)
code_stands EventRequired = (10, lit< tt, refl)
code_stands EventBlank = (11, lit< tt, refl)
code_stands AckDisabled = (12, lit< tt, refl)
code_stands QueryAuthorization = (13, lit< tt, refl)
code_stands Healthy = (14, lit< tt, refl)
code_stands NotFound = (15, lit< tt, refl)
code_stands MethodNotAllowed = (16, lit< tt, refl)

-- each status is one that replies have
has_status : (code : HecCode) → is_status (status_of code) ≡ true
has_status Success = refl
has_status TokenRequired = refl
has_status InvalidAuthorization = refl
has_status InvalidToken = refl
has_status EmptyBody = refl
has_status InvalidFormat = refl
has_status ServerError = refl
has_status ServerBusy = refl
has_status ChannelMissing = refl
has_status InvalidChannel = refl
has_status EventRequired = refl
has_status EventBlank = refl
has_status AckDisabled = refl
has_status QueryAuthorization = refl
has_status Healthy = refl
has_status NotFound = refl
has_status MethodNotAllowed = refl

pub is_reply : (code : HecCode) (event : Option ℕ) → IsReply (say_of code event)
is_reply code event = record { coded = (code, refl); status = has_status code }
