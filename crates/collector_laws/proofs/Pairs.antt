-- The object of pairs is an object of one level.
use Rattle.std.proofs.Common.{◌≡◌, inl, inr, ℕ, List, [], ◌∷◌, ◌++◌, length, refl, ◌∙◌, ap, append_assoc}
use Rattle.std.specs.Prelude.{codes, map}
use Rattle.std.specs.List.{join_with_byte}
use Rattle.json_span.specs.Json.{Further, IsMember, Json, JsonObject}
use Rattle.event_map.specs.Objects.{member_of, pairs_object}
use Rattle.event_map.specs.Strings.{string_of}
use Rattle.collector_laws.proofs.Strings.{string_is}

abbrev Pair : Type 0
Pair = List ℕ × List ℕ

member_is : (p : Pair) → IsMember (Json 0) (member_of p)
member_is p = (string_of p.0, 58 ∷ string_of p.1, string_is p.0, refl, ([], 58 ∷ string_of p.1, tt, refl, (string_of p.1, refl, ([], string_of p.1, tt, refl, inl (string_is p.1)))))

-- commas and further members, and the closing brace
abbrev further : List Pair → List ℕ
further [] = codes "}"
further (p ∷ ps) = 44 ∷ (member_of p ++ further ps)

further_are : (ps : List Pair) → Further (IsMember (Json 0)) 125 (length ps) (further ps)
further_are [] = ([], codes "}", tt, refl, ([], refl, refl))
further_are (p ∷ ps) = ([], 44 ∷ (member_of p ++ further ps), tt, refl, (member_of p ++ further ps, refl, ([], member_of p ++ further ps, tt, refl, (member_of p, further ps, member_is p, refl, further_are ps))))

joined : (p : Pair) (ps : List Pair) → join_with_byte 44 (map member_of (p ∷ ps)) ++ codes "}" ≡ member_of p ++ further ps
joined p [] = refl
joined p (q ∷ ps) = append_assoc (member_of p) (44 ∷ join_with_byte 44 (map member_of (q ∷ ps))) (codes "}") ∙ ap (λ (l : List ℕ). member_of p ++ (44 ∷ l)) (joined q ps)

pub pairs_is : (ps : List Pair) → JsonObject 1 (pairs_object ps)
pairs_is [] = (codes "}", refl, ([], codes "}", tt, refl, inl ([], refl, refl)))
pairs_is (p ∷ ps) =
    let rest : List ℕ = join_with_byte 44 (map member_of (p ∷ ps)) ++ codes "}" in
    (rest, refl, ([], rest, tt, refl, inr (member_of p, further ps, member_is p, joined p ps, (length ps, further_are ps))))
