-- A fault stays, whatever bytes follow.
use Rattle.std.proofs.Common.{ℕ, List, ◌++◌, sym, subst, arith, inl, inr, length-append}
use Rattle.std.proofs.lemmas.List.{take-append-le}
use Rattle.httparse.specs.Grammar.{ResponseHead}
use Rattle.httparse.proofs.GrammarLemmas.{ReadsResponse-append}
use Rattle.http_edge.specs.declared.fault.HttpWhy.{HttpWhy}
use Rattle.http_edge.specs.declared.fault.HttpWhy.TheVariants.{BadHead, BadLength, TooLong, BadChunk}
use Rattle.http_edge.proofs.FaultLaws.{never_more, long_more, bad_more}
use Rattle.http_reply.specs.Heads.{BeginsWith, HasNoHead, IsOpenHead}
use Rattle.http_reply.specs.Sizes.{size_of}
use Rattle.http_reply.specs.ReplyStream.{IsFault}

pub begins_more : (b : List ℕ) (h : ResponseHead) (text piece : List ℕ) → BeginsWith b h text → BeginsWith (b ++ piece) h (text ++ piece)
begins_more b h text piece x = record { holds = record { reads = ReadsResponse-append b h text piece x.holds.reads; few = x.holds.few }; short = x.short }

pub fault_more : (rest piece : List ℕ) (why : HttpWhy) (place : ℕ) → IsFault rest why place → IsFault (rest ++ piece) why place
fault_more rest piece BadHead place (never, p) = (never_more HasNoHead 16384 rest piece never, p)
fault_more rest piece BadLength place (h, text, b, z, p) = (h, text ++ piece, begins_more rest h text piece b, z, p)
fault_more rest piece TooLong place (inl (long, head, p)) =
    let n = length-append rest piece in
    inl (omega (arith, long, n), subst IsOpenHead (sym (take-append-le 16384 rest piece long)) head, p)
fault_more rest piece TooLong place (inr (h, text, b, long, p)) = inr (h, text ++ piece, begins_more rest h text piece b, long_more (size_of h) text piece long, p)
fault_more rest piece BadChunk place (h, text, at, b, z, bad, p) = (h, text ++ piece, at, begins_more rest h text piece b, z, bad_more text piece at bad, p)
