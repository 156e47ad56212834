-- What streams have left, read after read, and the bytes of a head that were read from one.
use Rattle.std.proofs.Common.{◌≡◌, ◌≢◌, ℕ, ◌+◌, ◌<◌, List, [], ◌∷◌, ◌++◌, take, length, set, Option, None, Some, Result, Ok, Err, refl, sym, ap, subst, ◌∙◌, append_assoc, arith}
use Rattle.std.specs.Io.KnownBytes.{Keeps, Consumes, ReadConsumes, IsAtEnd}
use Rattle.std.proofs.lemmas.List.{take_more_set, length-take-le, append-nil}
use Rattle.proxy_head.specs.declared.limits.TheConstants.{LINE}
use Rattle.proxy_head.specs.declared.fault.HeadFault.{HeadFault}
use Rattle.proxy_head.specs.declared.head.Head.{Head}
use Rattle.proxy_head.specs.declared.head.Reading.{Reading}
use Rattle.proxy_head.specs.declared.head.Reading.TheVariants.{Whole as WholeHead}
use Rattle.proxy_head.specs.Head.{IsBeginning, Reads, IsFault}
use Rattle.proxy_head.proofs.Beginnings.{begins_front}
use Rattle.proxy_head.proofs.SignLaws.{line_itself}
use Rattle.edge_net.specs.declared.heading.Headed.TheVariants.{Whole, Not}
use Rattle.edge_net.specs.declared.heading.Unheaded.TheVariants.{Cut, Wrong}
use Rattle.edge_net.specs.Heading.{IsJustRead, TakesHead}

pub keeps_itself : (a : Option (List ℕ)) → Keeps a a
keeps_itself None = tt
keeps_itself (Some xs) = refl

pub keeps_on : (a b c : Option (List ℕ)) → Keeps a b → Keeps b c → Keeps a c
keeps_on None b c h k = tt
keeps_on (Some xs) None c h k = absurd h
keeps_on (Some xs) (Some ys) None h k = absurd k
keeps_on (Some xs) (Some ys) (Some zs) h k = k ∙ h

pub consumes_nothing : (a : Option (List ℕ)) → Consumes a a []
consumes_nothing None = tt
consumes_nothing (Some xs) = refl

pub consumes_kept : (a b c : Option (List ℕ)) (xs : List ℕ) → Keeps a b → Consumes b c xs → Consumes a c xs
consumes_kept None b c xs h k = tt
consumes_kept (Some us) None c xs h k = absurd h
consumes_kept (Some us) (Some vs) None xs h k = absurd k
consumes_kept (Some us) (Some vs) (Some ws) xs h k = sym h ∙ k

pub consumes_on : (a b c : Option (List ℕ)) (xs ys : List ℕ) → Consumes a b xs → Consumes b c ys → Consumes a c (xs ++ ys)
consumes_on None b c xs ys h k = tt
consumes_on (Some us) None c xs ys h k = absurd h
consumes_on (Some us) (Some vs) None xs ys h k = absurd k
consumes_on (Some us) (Some vs) (Some ws) xs ys h k = h ∙ ap (λ t. xs ++ t) k ∙ sym (append_assoc xs ys ws)

-- a read after reads that failed
pub reads_kept : {E : Type 0} (a b c : Option (List ℕ)) (r : Result ℕ E) (buf : List ℕ) → Keeps a b → ReadConsumes b c r buf → ReadConsumes a c r buf
reads_kept a b c (Ok n) buf h k = (consumes_kept a b c (take n buf) h k.0, k.1)
reads_kept a b c (Err e) buf h k = keeps_on a b c h k

-- no bytes are too few
pub nothing_begins : IsBeginning []
nothing_begins = begins_front [] LINE line_itself

-- one byte more was read
pub one_more : (a b c : Option (List ℕ)) (bytes : List ℕ) (count byte : ℕ) → count < length bytes → Consumes a b (take count bytes) → Consumes b c (byte ∷ []) → Consumes a c (take (count + 1) (set bytes count byte))
one_more a b c bytes count byte inside h k = subst (λ t. Consumes a c t) (sym (take_more_set bytes count byte inside)) (consumes_on a b c (take count bytes) (byte ∷ []) h k)

-- before which they were too few
pub just_read : (bytes : List ℕ) (count byte : ℕ) → count < length bytes → IsBeginning (take count bytes) → IsJustRead (take (count + 1) (set bytes count byte))
just_read bytes count byte inside begins = (take count bytes, byte, take_more_set bytes count byte inside, begins)

-- the stream ended after these
pub no_more : (a b c : Option (List ℕ)) (xs : List ℕ) → Consumes a b xs → Consumes b c [] → Consumes a c xs
no_more a b c xs h k = subst (λ t. Consumes a c t) (append-nil xs) (consumes_on a b c xs [] h k)

-- some came
pub some_came : (bytes : List ℕ) (count : ℕ) → count < length bytes → 0 < count → take count bytes ≢ []
some_came bytes count inside some none = absurd (omega (arith, length-take-le count bytes (omega arith), ap length none))

-- the bytes that were read are a head
pub whole_head : (a b c : Option (List ℕ)) (bytes : List ℕ) (count byte : ℕ) (xs : List ℕ) (reading : Reading) (head : Head) → count < length bytes → Consumes a b (take count bytes) → Consumes b c (byte ∷ []) → IsBeginning (take count bytes) → Reads xs (Ok reading) → reading ≡ WholeHead head → xs ≡ take (count + 1) (set bytes count byte) → TakesHead a c (Whole head.source)
whole_head a b c bytes count byte xs reading head inside taken one few reads has same =
    (xs, subst (λ t. Consumes a c t) (sym same) (one_more a b c bytes count byte inside taken one), (head, subst (λ r. Reads xs (Ok r)) has reads, refl, subst IsJustRead (sym same) (just_read bytes count byte inside few)))

-- they are none
pub no_head : (a b c : Option (List ℕ)) (bytes : List ℕ) (count byte : ℕ) (xs : List ℕ) (fault : HeadFault) → count < length bytes → Consumes a b (take count bytes) → Consumes b c (byte ∷ []) → IsBeginning (take count bytes) → IsFault xs fault → xs ≡ take (count + 1) (set bytes count byte) → TakesHead a c (Not (Wrong fault))
no_head a b c bytes count byte xs fault inside taken one few is same =
    (xs, subst (λ t. Consumes a c t) (sym same) (one_more a b c bytes count byte inside taken one), (is, subst IsJustRead (sym same) (just_read bytes count byte inside few)))

-- the stream ended within them
pub cut_head : (a b c : Option (List ℕ)) (bytes : List ℕ) (count : ℕ) → count < length bytes → 0 < count → Consumes a b (take count bytes) → Consumes b c [] → IsBeginning (take count bytes) → IsAtEnd c → TakesHead a c (Not Cut)
cut_head a b c bytes count inside some taken none few ends =
    (take count bytes, no_more a b c (take count bytes) taken none, (some_came bytes count inside some, few, ends))
