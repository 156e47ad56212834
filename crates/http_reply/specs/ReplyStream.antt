-- A stream of replies, and its faults.
use Rattle.std.specs.Prelude.{◌≡◌, ℕ, ◌+◌, ◌<◌, ◌≤◌, ◌⊎◌, List, [], ◌∷◌, ◌++◌, length, take, if◌then◌else◌}
use Rattle.std.specs.List.{flat_map}
use Rattle.httparse.specs.Grammar.{ResponseHead, print_response, status_code}
use Rattle.http_edge.specs.declared.fault.HttpWhy.{HttpWhy}
use Rattle.http_edge.specs.declared.fault.HttpWhy.TheVariants.{BadHead, BadLength, TooLong, BadChunk}
use Rattle.http_edge.specs.declared.limits.TheConstants.{MOST_HEAD}
use Rattle.http_edge.specs.Lengths.{BadSize, Chunked}
use Rattle.http_edge.specs.Bodies.{IsBody, IsOpenBody, IsTooLong, IsBadChunk}
use Rattle.http_reply.specs.declared.reply.HttpReply.{HttpReply}
use Rattle.http_reply.specs.Heads.{BeginsWith, NeverHasHead, IsOpenHead}
use Rattle.http_reply.specs.Sizes.{is_interim, size_of}

-- the reply of a head and a body, at an offset
abbrev pub reply_of : ℕ → ResponseHead → List ℕ → HttpReply
reply_of at h body = record { status = status_code h; body = body; at = at }

-- the bytes of a reply: its head and its body's text
pub record IsReply (r : HttpReply) (x : List ℕ) : Type 0 where
  pub head : ResponseHead
  pub text : List ℕ
  pub begins : BeginsWith x head text
  pub reply_is : r ≡ reply_of r.at head r.body
  pub body : IsBody (size_of head) r.body text

-- the bytes are these replies, one after another from an offset on
abbrev pub AreSpelledFrom : ℕ → List HttpReply → List ℕ → Type 0
AreSpelledFrom at [] b = b ≡ []
AreSpelledFrom at (r ∷ rs) b = (x : List ℕ) × (y : List ℕ) × IsReply r x × (r.at ≡ at) × (b ≡ x ++ y) × AreSpelledFrom (at + length x) rs y

-- what is given of a reply: an interim one is passed over
abbrev pub given_of : HttpReply → List HttpReply
given_of r = if is_interim r.status then [] else r ∷ []

-- the bytes from an offset on are whole replies, of which these are given, and which end at a place, and then rest
pub record AreReplies (from : ℕ) (b : List ℕ) (given : List HttpReply) (at : ℕ) (rest : List ℕ) : Type 0 where
  pub replies : List HttpReply
  pub front : List ℕ
  pub spelled : AreSpelledFrom from replies front
  pub whole : b ≡ front ++ rest
  pub at_is : at ≡ length front
  pub given_are : given ≡ flat_map given_of replies

-- the bytes are of an unfinished reply, or none
abbrev pub IsOpen : List ℕ → Type 0
IsOpen rest = ((length rest < MOST_HEAD) × IsOpenHead rest) ⊎ ((h : ResponseHead) × (text : List ℕ) × BeginsWith rest h text × IsOpenBody (size_of h) text)

-- what is at fault, and how far after the reply's first byte
abbrev pub IsFault : List ℕ → HttpWhy → ℕ → Type 0
IsFault rest BadHead place = NeverHasHead (take MOST_HEAD rest) × (place ≡ 0)
IsFault rest BadLength place = (h : ResponseHead) × (text : List ℕ) × BeginsWith rest h text × (size_of h ≡ BadSize) × (place ≡ 0)
IsFault rest TooLong place =
    ((MOST_HEAD ≤ length rest) × IsOpenHead (take MOST_HEAD rest) × (place ≡ 0))
    ⊎ ((h : ResponseHead) × (text : List ℕ) × BeginsWith rest h text × IsTooLong (size_of h) text × (place ≡ 0))
IsFault rest BadChunk place =
    (h : ResponseHead) × (text : List ℕ) × (at : ℕ) × BeginsWith rest h text × (size_of h ≡ Chunked) × IsBadChunk text at
    × (place ≡ length (print_response h) + at)

-- the bytes are whole replies, and then an unfinished one, or none
pub record IsStream (b : List ℕ) (given : List HttpReply) (at : ℕ) (rest : List ℕ) : Type 0 where
  pub replies : AreReplies 0 b given at rest
  pub going : IsOpen rest

-- the bytes are whole replies, and then one at fault
pub record IsFaulty (b : List ℕ) (given : List HttpReply) (at place : ℕ) (why : HttpWhy) : Type 0 where
  pub rest : List ℕ
  pub offset : ℕ
  pub replies : AreReplies 0 b given at rest
  pub place_is : place ≡ at + offset
  pub fault : IsFault rest why offset
