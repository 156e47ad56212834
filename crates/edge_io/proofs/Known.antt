-- How what a source, a sink or a link tells of its bytes goes on, call after call. `None` tells nothing.
use Rattle.std.specs.Prelude.{◌≡◌, ◌+◌, ◌-◌, ◌≤◌, length, ℕ, List, [], ◌++◌, take, drop, Option, None, Some, refl}
use Rattle.edge_io.specs.Told.{Lasts, MayFollow}
use Rattle.std.specs.Io.KnownBytes.{Appends, Keeps, Consumes, IsAtEnd}
use Rattle.std.proofs.Common.{sym, ◌∙◌, ap, subst, append_assoc, append-nil, arith, length-append}
use Rattle.std.proofs.Math.Seq.{take-add}
use Rattle.std.proofs.lemmas.List.{take_rest, length-take, nil_from_length}

-- no call
pub appends_none : (a : Option (List ℕ)) → Appends a a []
appends_none None = tt
appends_none (Some xs) = sym (append-nil xs)

-- one call and then another
pub appends_then : (a b c : Option (List ℕ)) (xs ys : List ℕ) → Appends a b xs → Appends b c ys → Appends a c (xs ++ ys)
appends_then None b c xs ys p q = tt
appends_then (Some us) None c xs ys p q = absurd p
appends_then (Some us) (Some vs) None xs ys p q = absurd q
appends_then (Some us) (Some vs) (Some ws) xs ys p q = q ∙ ap (λ l. l ++ ys) p ∙ append_assoc us xs ys

-- one call and then a fault
pub appends_keeps : (a b c : Option (List ℕ)) (xs : List ℕ) → Appends a b xs → Keeps b c → Appends a c xs
appends_keeps None b c xs p q = tt
appends_keeps (Some us) None c xs p q = absurd p
appends_keeps (Some us) (Some vs) None xs p q = absurd q
appends_keeps (Some us) (Some vs) (Some ws) xs p q = q ∙ p

-- a fault and then one call
pub keeps_appends : (a b c : Option (List ℕ)) (xs : List ℕ) → Keeps a b → Appends b c xs → Appends a c xs
keeps_appends None b c xs p q = tt
keeps_appends (Some us) None c xs p q = absurd p
keeps_appends (Some us) (Some vs) None xs p q = absurd q
keeps_appends (Some us) (Some vs) (Some ws) xs p q = q ∙ ap (λ l. l ++ xs) p

-- the first bytes of a piece, and then the next
pub appends_more : (a b c : Option (List ℕ)) (piece : List ℕ) (i n : ℕ) → Appends a b (take i piece) → Appends b c (take n (drop i piece)) → Appends a c (take (i + n) piece)
appends_more a b c piece i n p q = rw (take-add i n piece) (appends_then a b c (take i piece) (take n (drop i piece)) p q)

-- the same where the next are the first of the slice that is left
pub appends_on : (a b c : Option (List ℕ)) (piece : List ℕ) (i n : ℕ) → Appends a b (take i piece) → Appends b c (take n (take (length piece - i) (drop i piece))) → Appends a c (take (i + n) piece)
appends_on a b c piece i n p q =
    let same : take n (take (length piece - i) (drop i piece)) ≡ take n (drop i piece) = ap (take n) (take_rest piece i) in
    appends_more a b c piece i n p (subst (Appends b c) same q)

-- what may follow goes on, once its first bytes were taken
pub may_follow_on : (P Q : List ℕ → Type 0) (a b : Option (List ℕ)) (xs ys : List ℕ) → Lasts P a Q b → Appends a b xs → MayFollow P a (xs ++ ys) → MayFollow Q b ys
may_follow_on P Q None b xs ys stay p may = subst (λ (o : Option (List ℕ)). MayFollow Q o ys) (sym (stay.1 refl)) tt
may_follow_on P Q (Some us) None xs ys stay p may = absurd p
may_follow_on P Q (Some us) (Some vs) xs ys stay p may = subst (λ (l : List ℕ). Q l) (sym (ap (λ l. l ++ ys) p ∙ append_assoc us xs ys)) (stay.0 (us ++ (xs ++ ys)) may)

-- no read
pub consumes_none : (a : Option (List ℕ)) → Consumes a a []
consumes_none None = tt
consumes_none (Some xs) = refl

-- one read and then another
pub consumes_then : (a b c : Option (List ℕ)) (xs ys : List ℕ) → Consumes a b xs → Consumes b c ys → Consumes a c (xs ++ ys)
consumes_then None b c xs ys p q = tt
consumes_then (Some us) None c xs ys p q = absurd p
consumes_then (Some us) (Some vs) None xs ys p q = absurd q
consumes_then (Some us) (Some vs) (Some ws) xs ys p q = p ∙ ap (λ l. xs ++ l) q ∙ sym (append_assoc xs ys ws)

-- one read and then a fault
pub consumes_keeps : (a b c : Option (List ℕ)) (xs : List ℕ) → Consumes a b xs → Keeps b c → Consumes a c xs
consumes_keeps None b c xs p q = tt
consumes_keeps (Some us) None c xs p q = absurd p
consumes_keeps (Some us) (Some vs) None xs p q = absurd q
consumes_keeps (Some us) (Some vs) (Some ws) xs p q = p ∙ ap (λ l. xs ++ l) (sym q)

-- a fault and then one read
pub keeps_consumes : (a b c : Option (List ℕ)) (xs : List ℕ) → Keeps a b → Consumes b c xs → Consumes a c xs
keeps_consumes None b c xs p q = tt
keeps_consumes (Some us) None c xs p q = absurd p
keeps_consumes (Some us) (Some vs) None xs p q = absurd q
keeps_consumes (Some us) (Some vs) (Some ws) xs p q = sym p ∙ q

pub keeps_refl : (a : Option (List ℕ)) → Keeps a a
keeps_refl None = tt
keeps_refl (Some xs) = refl

pub keeps_then : (a b c : Option (List ℕ)) → Keeps a b → Keeps b c → Keeps a c
keeps_then None b c p q = tt
keeps_then (Some us) None c p q = absurd p
keeps_then (Some us) (Some vs) None p q = absurd q
keeps_then (Some us) (Some vs) (Some ws) p q = q ∙ p

-- what was told stays told
pub appends_told : (a b : Option (List ℕ)) (xs ys : List ℕ) → a ≡ Some xs → Appends a b ys → b ≡ Some (xs ++ ys)
appends_told None b xs ys is p = cc
appends_told (Some us) None xs ys is p = absurd p
appends_told (Some us) (Some vs) xs ys is p =
    let same : us ≡ xs = cc in
    ap Some (p ∙ ap (λ l. l ++ ys) same)

-- what is left of bytes that were told: they are the bytes read and the rest
pub consumes_told : (a b : Option (List ℕ)) (xs ys : List ℕ) → a ≡ Some xs → Consumes a b ys → (rest : List ℕ) × (b ≡ Some rest) × (xs ≡ ys ++ rest)
consumes_told None b xs ys is p = cc
consumes_told (Some us) None xs ys is p = absurd p
consumes_told (Some us) (Some vs) xs ys is p =
    let same : us ≡ xs = cc in
    (vs, refl, sym same ∙ p)

-- a read at the end gives nothing, and the end stays
pub end_stays : (a b : Option (List ℕ)) (n : ℕ) (buf : List ℕ) → a ≡ Some [] → Consumes a b (take n buf) → n ≤ length buf → (n ≡ 0) × (b ≡ Some [])
end_stays a b n buf is p bound =
    let told = consumes_told a b [] (take n buf) is p in
    let none : length (take n buf ++ told.0) ≡ 0 = ap length (sym told.2) in (
      omega (arith, none, length-append {A = ℕ}, length-take {A = ℕ}),
      told.1 ∙ ap Some (nil_from_length told.0 (omega (arith, none, length-append {A = ℕ}))),
    )

-- what was read to the end is all that there was
pub consumes_all : (a b : Option (List ℕ)) (xs ys : List ℕ) → a ≡ Some xs → Consumes a b ys → IsAtEnd b → ys ≡ xs
consumes_all None b xs ys is p end = cc
consumes_all (Some us) None xs ys is p end = absurd p
consumes_all (Some us) (Some vs) xs ys is p end =
    let same : us ≡ xs = cc in
    sym (append-nil ys) ∙ ap (λ l. ys ++ l) (sym end) ∙ sym p ∙ same

-- the bytes given and the bytes left are together the same bytes throughout
pub same_input : (given given' left left' xs : List ℕ) → Appends (Some given) (Some given') xs → Consumes (Some left) (Some left') xs → given' ++ left' ≡ given ++ left
same_input given given' left left' xs p q = ap (λ l. l ++ left') p ∙ append_assoc given xs left' ∙ ap (λ l. given ++ l) (sym q)
