-- The members of an answer, one after another.
use Rattle.std.proofs.Common.{◌≡◌, ℕ, suc, ◌+◌, ◌*◌, ◌^◌, ◌<◌, ◌≤◌, Bool, true, false, codes, lit<, List, [], ◌∷◌, ◌++◌, length, get_or, map, take, refl, sym, ◌∙◌, ap, arith, append_assoc, length-append}
use Rattle.std.specs.List.{join_with_byte, zip}
use Rattle.std.proofs.Math.Seq.{take-length}
use Rattle.std.proofs.lemmas.List.{map_more, length-map, length-take-le}
use Rattle.std.proofs.lemmas.Slice.Zip.{get_or-zip, length-zip}
use Rattle.std.specs.Fmt.{decimal}
use Rattle.std.proofs.lemmas.Fmt.{length-decimal-le}
use Rattle.hec_body.specs.Acks.{ack_member, answer_of}

three : (y j x : List ℕ) → y ++ 44 ∷ ((j ++ 44 ∷ []) ++ x) ≡ ((y ++ 44 ∷ j) ++ 44 ∷ []) ++ x
three y j x = simp append_assoc

join_push : (xs : List (List ℕ)) (x : List ℕ) → 0 < length xs → join_with_byte 44 (xs ++ x ∷ []) ≡ (join_with_byte 44 xs ++ 44 ∷ []) ++ x
join_push [] x some = absurd (omega arith)
join_push (y ∷ []) x some = sym (append_assoc y (44 ∷ []) x)
join_push (y ∷ z ∷ more) x some = ap (λ (j : List ℕ). y ++ 44 ∷ j) (join_push (z ∷ more) x (omega arith)) ∙ three y (join_with_byte 44 (z ∷ more)) x

join_first : (xs : List (List ℕ)) (x : List ℕ) → length xs ≡ 0 → join_with_byte 44 (xs ++ x ∷ []) ≡ join_with_byte 44 xs ++ x
join_first [] x none = refl
join_first (y ∷ more) x none = absurd (omega arith)

-- the members for the first i ids
abbrev pub texts_to : ℕ → List ℕ → List Bool → List (List ℕ)
texts_to i ids known = map ack_member (take i (zip ids known))

abbrev pub members_to : ℕ → List ℕ → List Bool → List ℕ
members_to i ids known = join_with_byte 44 (texts_to i ids known)

-- the member for one id
abbrev pub member_at : ℕ → List ℕ → List Bool → ℕ × Bool → List ℕ
member_at i ids known d = ack_member (get_or ids i d.0, get_or known i d.1)

within_zip : (i : ℕ) (ids : List ℕ) (known : List Bool) → i < length ids → length ids ≡ length known → i < length (zip ids known)
within_zip i ids known within same = omega (arith, length-zip ids known)

length-texts_to : (i : ℕ) (ids : List ℕ) (known : List Bool) → i < length ids → length ids ≡ length known → length (texts_to i ids known) ≡ i
length-texts_to i ids known within same = let here = within_zip i ids known within same in length-map (take i (zip ids known)) ack_member ∙ length-take-le i (zip ids known) (omega (arith, here))

texts_more : (i : ℕ) (ids : List ℕ) (known : List Bool) (d : ℕ × Bool) → i < length ids → length ids ≡ length known → texts_to (i + 1) ids known ≡ texts_to i ids known ++ member_at i ids known d ∷ []
texts_more i ids known d within same = map_more ack_member (zip ids known) i d (within_zip i ids known within same) ∙ ap (λ (p : ℕ × Bool). texts_to i ids known ++ ack_member p ∷ []) (get_or-zip ids known i d within (omega (arith, same)))

behind : (head j x : List ℕ) → ((head ++ j) ++ 44 ∷ []) ++ x ≡ head ++ ((j ++ 44 ∷ []) ++ x)
behind head j x = simp append_assoc

-- the next member, after a comma
pub one_more : (head old comma new : List ℕ) (i : ℕ) (ids : List ℕ) (known : List Bool) (d : ℕ × Bool) → i < length ids → length ids ≡ length known → 0 < i
    → old ≡ head ++ members_to i ids known → comma ≡ old ++ 44 ∷ [] → new ≡ comma ++ member_at i ids known d → new ≡ head ++ members_to (i + 1) ids known
one_more head old comma new i ids known d within same some o c n =
    n ∙ ap (λ (z : List ℕ). z ++ member_at i ids known d) (c ∙ ap (λ (z : List ℕ). z ++ 44 ∷ []) o)
    ∙ behind head (members_to i ids known) (member_at i ids known d)
    ∙ ap (λ (z : List ℕ). head ++ z) (sym (ap (join_with_byte 44) (texts_more i ids known d within same) ∙ join_push (texts_to i ids known) (member_at i ids known d) (omega (arith, length-texts_to i ids known within same))))

-- the first one
pub first_one : (head old new : List ℕ) (i : ℕ) (ids : List ℕ) (known : List Bool) (d : ℕ × Bool) → i < length ids → length ids ≡ length known → i ≤ 0
    → old ≡ head ++ members_to i ids known → new ≡ old ++ member_at i ids known d → new ≡ head ++ members_to (i + 1) ids known
first_one head old new i ids known d within same none o n =
    n ∙ ap (λ (z : List ℕ). z ++ member_at i ids known d) o
    ∙ append_assoc head (members_to i ids known) (member_at i ids known d)
    ∙ ap (λ (z : List ℕ). head ++ z) (sym (ap (join_with_byte 44) (texts_more i ids known d within same) ∙ join_first (texts_to i ids known) (member_at i ids known d) (omega (arith, length-texts_to i ids known within same))))

-- all of them
all_members : (i : ℕ) (ids : List ℕ) (known : List Bool) → length ids ≤ i → i ≤ length ids → length ids ≡ length known → members_to i ids known ≡ join_with_byte 44 (map ack_member (zip ids known))
all_members i ids known past within same =
    let all : i ≡ length (zip ids known) = omega (arith, length-zip ids known) in
    ap (λ (n : ℕ). join_with_byte 44 (map ack_member (take n (zip ids known)))) all ∙ ap (λ (z : List (ℕ × Bool)). join_with_byte 44 (map ack_member z)) (take-length (zip ids known))

-- the whole answer
pub answer_built : (text result : List ℕ) (i : ℕ) (ids : List ℕ) (known : List Bool) → text ≡ codes "{\"acks\":{" ++ members_to i ids known → length ids ≤ i → i ≤ length ids → length ids ≡ length known → result ≡ text ++ codes "}}" → result ≡ answer_of ids known
answer_built text result i ids known t past within same r =
    let head = codes "{\"acks\":{" in
    r ∙ ap (λ (z : List ℕ). z ++ codes "}}") (t ∙ ap (λ (z : List ℕ). head ++ z) (all_members i ids known past within same)) ∙ append_assoc head (join_with_byte 44 (map ack_member (zip ids known))) (codes "}}")

-- ---- an answer is short

member_short : (n : ℕ) (b : Bool) → n < 2 ^ 64 → length (ack_member (n, b)) ≤ 28
member_short n b fits = by b where
  digits : length (decimal n) ≤ 20
  digits = length-decimal-le 20 n (lit< tt) (omega (arith, fits)) fits

  by : (b : Bool) → length (ack_member (n, b)) ≤ 28
  by true = omega (arith, digits, length-append (decimal n) (codes "\":" ++ codes "true"), length-append (codes "\"") (decimal n ++ (codes "\":" ++ codes "true")))
  by false = omega (arith, digits, length-append (decimal n) (codes "\":" ++ codes "false"), length-append (codes "\"") (decimal n ++ (codes "\":" ++ codes "false")))

-- each number of a list is one of 64 bits
abbrev pub Fit : List ℕ → Type 0
Fit [] = Unit {0}
Fit (n ∷ ns) = (n < 2 ^ 64) × Fit ns

pub fit_each : (ns : List ℕ) → ((k : ℕ) → k < length ns → get_or ns k 0 < 2 ^ 64) → Fit ns
fit_each [] h = tt
fit_each (n ∷ ns) h = (h 0 (omega arith), fit_each ns (λ k within. h (suc k) (omega arith)))

joined_short : (ids : List ℕ) (known : List Bool) → Fit ids → length (join_with_byte 44 (map ack_member (zip ids known))) ≤ 29 * length ids
joined_short [] known fit = omega arith
joined_short (n ∷ ids) [] fit = omega arith
joined_short (n ∷ []) (b ∷ known) fit = omega (arith, member_short n b fit.0)
joined_short (n ∷ m ∷ ids) (b ∷ []) fit = omega (arith, member_short n b fit.0)
joined_short (n ∷ m ∷ ids) (b ∷ c ∷ known) fit =
    omega (arith, member_short n b fit.0, joined_short (m ∷ ids) (c ∷ known) fit.1, length-append (ack_member (n, b)) (44 ∷ join_with_byte 44 (map ack_member (zip (m ∷ ids) (c ∷ known)))))

pub answer_short : (ids : List ℕ) (known : List Bool) → Fit ids → length (answer_of ids known) ≤ 29 * length ids + 11
answer_short ids known fit =
    let inner = join_with_byte 44 (map ack_member (zip ids known)) in
    omega (arith, joined_short ids known fit, length-append inner (codes "}}"), length-append (codes "{\"acks\":{") (inner ++ codes "}}"))
