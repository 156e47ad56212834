-- How far a body is cut into events.
use Rattle.std.proofs.Common.{◌≡◌, ℕ, ◌<◌, Bool, true, false, ◌&&◌, List, [], ◌∷◌, ◌++◌, length, refl, sym, ap, subst, arith, length-append}
use Rattle.std.specs.List.{list_all}
use Rattle.json_span.specs.Json.{is_space, AreSpaces}
use Rattle.hec_body.specs.Events.{BeginsObject, IsEventObject, BeginsEvents}
use Rattle.hec_body.proofs.Front.{object_brace}

-- one more event after those so far
pub begins_more : (body : List ℕ) (texts : List (List ℕ)) (rest text more : List ℕ) → BeginsEvents body texts rest → BeginsObject rest text more → IsEventObject text → BeginsEvents body (texts ++ text ∷ []) more
begins_more body [] rest text more b o e = (more, subst (λ (z : List ℕ). BeginsObject z text more) (sym b) o, e, refl)
begins_more body (t ∷ texts) rest text more b o e = (b.0, b.1, b.2, begins_more b.0 texts rest text more b.3 o e)

-- what is after an object is shorter
pub behind_shorter : (bytes text rest : List ℕ) → BeginsObject bytes text rest → length rest < length bytes
behind_shorter bytes text rest o =
    let brace = object_brace 127 text o.object in
    omega (arith, ap length o.whole, length-append o.space (text ++ rest), length-append text rest, ap length brace.1)

-- ---- white space alone

both : (a b : Bool) → (a && b) ≡ true → (a ≡ true) × (b ≡ true)
both true true e = (refl, refl)
both true false e = absurd cc
both false b e = absurd cc

pub white : (bytes : List ℕ) → list_all is_space bytes ≡ true → AreSpaces bytes
white [] e = tt
white (c ∷ bytes) e = let parts = both (is_space c) (list_all is_space bytes) e in (parts.0, white bytes parts.1)

pub white_passes : (bytes : List ℕ) → AreSpaces bytes → list_all is_space bytes ≡ true
white_passes [] h = refl
white_passes (c ∷ bytes) h = rw (h.0) (white_passes bytes h.1)
