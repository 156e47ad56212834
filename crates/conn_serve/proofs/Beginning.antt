-- A connection that ends at its beginning.
use Rattle.std.specs.List.{length_refill}
use Rattle.std.proofs.Common.{refl, take, drop, ◌++◌, ◌<◌, ◌≡◌, ◌⊎◌, inl, inr, ℕ, Bool, true, false, List, [], length, nat_lt, if◌then◌else◌, Option, arith}
use Rattle.edge_io.specs.declared.proto.Proto.{Proto}
use Rattle.edge_io.specs.declared.proto.Proto.TheVariants.{Relp, Lumberjack, Hec}
use Rattle.event_form.specs.declared.talk.Talk.TheVariants.{NoMemory}
use Rattle.conn_serve.specs.Serves.{CarriedAs}
use Rattle.conn_serve.specs.Terms.{Terms, next_piece, short_piece}
use Rattle.conn_serve.proofs.RelpSessions as relp_sessions
use Rattle.conn_serve.proofs.LumberSessions as lumber_sessions
use Rattle.conn_serve.proofs.HecSessions as hec_sessions

-- by any protocol: no memory was found for it
pub none_carried : (proto : Proto) (terms : Terms) (conn : ℕ) (left : Option (List ℕ)) → CarriedAs proto terms conn left [] [] [] NoMemory
none_carried Relp terms conn left = relp_sessions.none_carried terms.most conn left
none_carried Lumberjack terms conn left = lumber_sessions.none_carried conn left
none_carried Hec terms conn left = hec_sessions.none_carried terms.tokens conn left

-- a read asks for some bytes, and so does the next one
few_of : (few part : Bool) (asked : ℕ) → 0 < asked → 0 < (if few then (if part then asked else 8192) else 8192)
few_of true true asked some = some
few_of true false asked some = omega arith
few_of false part asked some = omega arith

short_some : (asked came : ℕ) → 0 < asked → 0 < short_piece asked came
short_some asked came some = few_of (nat_lt asked 8192) (nat_lt came asked) asked some

some_of : (much part : Bool) (asked short : ℕ) → 0 < asked → 0 < short → 0 < (if much then (if part then asked else 65536) else short)
some_of true true asked short some less = some
some_of true false asked short some less = omega arith
some_of false part asked short some less = less

pub asks_some : (group : Bool) (asked came : ℕ) → 0 < asked → 0 < next_piece group asked came
asks_some true asked came some = some_of (nat_lt 4096 came) (nat_lt came asked) asked (short_piece asked came) some (short_some asked came some)
asks_some false asked came some = short_some asked came some

-- the memory of a read as it is fitted
pub fits_some : (group : Bool) (asked came : ℕ) (old new : List ℕ) → 0 < length old → asked ≡ length old
    → (length new ≡ next_piece group asked came) ⊎ (new ≡ old) → 0 < length new
fits_some group asked came old new some is (inl fitted) = rw fitted (asks_some group asked came (rw is some))
fits_some group asked came old new some is (inr same) = rw same some

-- the same of a list that was lent, and got other elements
pub fits_refilled : (group : Bool) (came n : ℕ) (xs ws new : List ℕ) → n ≡ length xs → 0 < length xs
    → (length new ≡ next_piece group (length (take n (ws ++ drop (length ws) xs))) came) ⊎ (new ≡ take n (ws ++ drop (length ws) xs)) → 0 < length new
fits_refilled group came n xs ws new is some fitted =
    fits_some group _ came (take n (ws ++ drop (length ws) xs)) new (omega (arith, length_refill n xs ws is, is, some)) refl fitted
