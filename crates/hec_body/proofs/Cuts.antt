-- A body is cut in one way.
use Rattle.std.proofs.Common.{◌≡◌, ◌≢◌, ℕ, zero, suc, ◌+◌, ◌<◌, ◌≤◌, ◌⊎◌, inl, inr, false, true, Option, Some, None, Result, Ok, Err, List, [], ◌∷◌, ◌++◌, length, refl, sym, ◌∙◌, ap, subst, arith, length-append}
use Rattle.std.proofs.lemmas.Bool.{cases_lt}
use Rattle.std.proofs.lemmas.List.{append-nil}
use Rattle.json_span.specs.Json.{is_space, AreSpaces}
use Rattle.json_span.proofs.Stretches.{spaces_at}
use Rattle.hec_body.specs.Events.{BeginsObject, IsEventObject, BeginsEvents, BeginsNoObject, IsRefused, IsFaultBehind, IsCut}
use Rattle.body_faults.specs.declared.fault.BodyFault.{BodyFault}
use Rattle.body_faults.specs.declared.fault.BodyFault.TheVariants.{NoData, Format, NoEvent, Blank, TooMany, NoMemory}
use Rattle.hec_body.proofs.Front.{object_brace, begins_brace, one_object}
use Rattle.hec_body.proofs.Verdicts.{event_not_refused, refused_once}

-- white space holds no object
spaces_no_object : (bytes text rest : List ℕ) → AreSpaces bytes → BeginsObject bytes text rest → ⊥
spaces_no_object bytes text rest spaces o =
    let brace = object_brace 127 text o.object in
    let within : 0 + length o.space < length bytes = omega (arith, ap length o.whole, length-append o.space (text ++ rest), length-append text rest, ap length brace.1) in
    let space : is_space 123 ≡ true = subst (λ (c : ℕ). is_space c ≡ true) (begins_brace bytes text rest o) (spaces_at bytes (0 + length o.space) spaces within) in
    let isnt : is_space 123 ≡ false = refl in
    cc

-- ---- what stands after some events

-- the fault at the end of a body, if there is one
at_end : ℕ → Option BodyFault
at_end zero = Some NoData
at_end (suc n) = None

-- an object that is no further event
Verdict : ℕ → List ℕ → Option BodyFault → Type 0
Verdict number text v = ((number < 10000) × ((f : BodyFault) × (f ≢ NoMemory) × IsRefused text number f × (v ≡ Some f))) ⊎ ((number ≡ 10000) × (v ≡ Some TooMany))

ObjectEnds : ℕ → List ℕ → Option BodyFault → Type 0
ObjectEnds number rest v = (text : List ℕ) × (more : List ℕ) × BeginsObject rest text more × Verdict number text v

Ends : ℕ → List ℕ → Option BodyFault → Type 0
Ends number rest v = (AreSpaces rest × (v ≡ at_end number)) ⊎ ((BeginsNoObject rest × (v ≡ Some (Format number))) ⊎ ObjectEnds number rest v)

verdict_once : (number : ℕ) (text : List ℕ) (v w : Option BodyFault) → Verdict number text v → Verdict number text w → v ≡ w
unfolding Verdict
verdict_once number text v w (inl a) (inl b) = a.1.3 ∙ ap Some (refused_once text number a.1.0 b.1.0 a.1.1 b.1.1 a.1.2 b.1.2) ∙ sym b.1.3
verdict_once number text v w (inl a) (inr b) = absurd (omega (arith, a.0, b.0))
verdict_once number text v w (inr a) (inl b) = absurd (omega (arith, a.0, b.0))
verdict_once number text v w (inr a) (inr b) = a.1 ∙ sym b.1

ends_once : (number : ℕ) (rest : List ℕ) (v w : Option BodyFault) → Ends number rest v → Ends number rest w → v ≡ w
unfolding Ends ObjectEnds
ends_once number rest v w (inl a) (inl b) = a.1 ∙ sym b.1
ends_once number rest v w (inl a) (inr (inl b)) = absurd (b.0.0 a.0)
ends_once number rest v w (inl a) (inr (inr b)) = absurd (spaces_no_object rest b.0 b.1 a.0 b.2)
ends_once number rest v w (inr (inl a)) (inl b) = absurd (a.0.0 b.0)
ends_once number rest v w (inr (inl a)) (inr (inl b)) = a.1 ∙ sym b.1
ends_once number rest v w (inr (inl a)) (inr (inr b)) = absurd (a.0.1 b.0 b.1 b.2)
ends_once number rest v w (inr (inr a)) (inl b) = absurd (spaces_no_object rest a.0 a.1 b.0 a.2)
ends_once number rest v w (inr (inr a)) (inr (inl b)) = absurd (b.0.1 a.0 a.1 a.2)
ends_once number rest v w (inr (inr a)) (inr (inr b)) =
    let same = one_object rest a.0 b.0 a.1 b.1 a.2 b.2 in
    verdict_once number b.0 v w (subst (λ (text : List ℕ). Verdict number text v) same.0 a.3) b.3

-- no further event stands there
no_further : (number : ℕ) (rest : List ℕ) (v : Option BodyFault) → Ends number rest v → number < 10000 → (text more : List ℕ) → BeginsObject rest text more → IsEventObject text → ⊥
unfolding Ends ObjectEnds Verdict
no_further number rest v (inl a) room text more o e = spaces_no_object rest text more a.0 o
no_further number rest v (inr (inl a)) room text more o e = a.0.1 text more o
no_further number rest v (inr (inr a)) room text more o e =
    let same = one_object rest text a.0 more a.1 o a.2 in
    judged a.3 (subst IsEventObject same.0 e)
  where
    judged : Verdict number a.0 v → IsEventObject a.0 → ⊥
    judged (inl b) f = event_not_refused a.0 number b.1.0 b.1.1 b.1.2 f
    judged (inr b) f = absurd (omega (arith, room, b.0))

end_of : (number : ℕ) → 0 < number → None ≡ at_end number
unfolding at_end
end_of zero some = absurd (omega arith)
end_of (suc n) some = refl

start_of : (number : ℕ) → number ≡ 0 → Some NoData ≡ at_end number
unfolding at_end
start_of zero none = refl
start_of (suc n) none = absurd (omega arith)

-- a fault is such an end
fault_ends : (number : ℕ) (rest : List ℕ) (f : BodyFault) → f ≢ NoMemory → IsFaultBehind number rest f → Ends number rest (Some f)
unfolding Ends ObjectEnds Verdict
fault_ends number rest NoData m h = inl (h.1, start_of number h.0)
fault_ends number rest (Format event) m (inl h) = inr (inl (h.1, ap (λ (n : ℕ). Some (Format n)) h.0))
fault_ends number rest (Format event) m (inr h) = inr (inr (h.1.0, h.1.1, h.1.2, inl (h.0, (Format event, m, h.1.3, refl))))
fault_ends number rest (NoEvent event) m h = inr (inr (h.1.0, h.1.1, h.1.2, inl (h.0, (NoEvent event, m, h.1.3, refl))))
fault_ends number rest (Blank event) m h = inr (inr (h.1.0, h.1.1, h.1.2, inl (h.0, (Blank event, m, h.1.3, refl))))
fault_ends number rest TooMany m h = inr (inr (h.1.0, h.1.1, h.1.2, inr (h.0, refl)))
fault_ends number rest NoMemory m h = absurd (m refl)

-- ---- the events before it

-- of two cuts into events, the longer one goes on after the shorter
goes_on : (body : List ℕ) (xs ys : List (List ℕ)) (r s : List ℕ) → BeginsEvents body xs r → BeginsEvents body ys s → length xs ≤ length ys → (zs : List (List ℕ)) × (ys ≡ xs ++ zs) × BeginsEvents r zs s
goes_on body [] ys r s a b fewer = (ys, refl, subst (λ (z : List ℕ). BeginsEvents z ys s) a b)
goes_on body (x ∷ xs) [] r s a b fewer = absurd (omega arith)
goes_on body (x ∷ xs) (y ∷ ys) r s a b fewer =
    let same = one_object body x y a.0 b.0 a.1 b.1 in
    let more = goes_on a.0 xs ys r s a.3 (subst (λ (z : List ℕ). BeginsEvents z ys s) (sym same.1) b.3) (omega arith) in
    let first : x ≡ y = same.0 in
    let others : ys ≡ xs ++ more.0 = more.1 in
    (more.0, cc, more.2)

result_of : List (List ℕ) → Option BodyFault → Result (List (List ℕ)) BodyFault
result_of texts None = Ok texts
result_of texts (Some fault) = Err fault

-- a cut by its events and its end
record At (body : List ℕ) (r : Result (List (List ℕ)) BodyFault) : Type 0 where
  texts : List (List ℕ)
  rest : List ℕ
  begins : BeginsEvents body texts rest
  few : length texts ≤ 10000
  end : Option BodyFault
  ends : Ends (length texts) rest end
  is : r ≡ result_of texts end

fault_at : (body : List ℕ) (f : BodyFault) → f ≢ NoMemory → IsCut body (Err f) → At body (Err f)
unfolding result_of
fault_at body f m h = record { texts = h.texts; rest = h.rest; begins = h.begins; few = h.few; end = Some f; ends = fault_ends (length h.texts) h.rest f m h.fault_is; is = refl }

cut_at : (body : List ℕ) (r : Result (List (List ℕ)) BodyFault) → r ≢ Err NoMemory → IsCut body r → At body r
unfolding result_of Ends
cut_at body (Ok texts) m h = record { texts = texts; rest = h.0.0; begins = h.0.1; few = h.1.few; end = None; ends = inl (h.0.2, end_of (length texts) h.1.some); is = refl }
cut_at body (Err f) m h = fault_at body f (λ e. m (ap Err e)) h

same_at : (body : List ℕ) (r s : Result (List (List ℕ)) BodyFault) (a : At body r) (b : At body s) → length a.texts ≤ length b.texts → r ≡ s
same_at body r s a b fewer =
    let more = goes_on body a.texts b.texts a.rest b.rest a.begins b.begins fewer in
    go more.0 more.1 more.2
  where
    go : (zs : List (List ℕ)) → b.texts ≡ a.texts ++ zs → BeginsEvents a.rest zs b.rest → r ≡ s
    go [] texts rest =
        let same : b.texts ≡ a.texts = texts ∙ append-nil a.texts in
        let there : Ends (length a.texts) a.rest b.end = subst (λ (n : ℕ). Ends n a.rest b.end) (ap length same) (subst (λ (z : List ℕ). Ends (length b.texts) z b.end) (sym rest) b.ends) in
        let end : a.end ≡ b.end = ends_once (length a.texts) a.rest a.end b.end a.ends there in
        a.is ∙ ap (result_of a.texts) end ∙ ap (λ (z : List (List ℕ)). result_of z b.end) (sym same) ∙ sym b.is
    go (z ∷ zs) texts rest =
        let room : length a.texts < 10000 = omega (arith, b.few, ap length texts, length-append a.texts (z ∷ zs)) in
        absurd (no_further (length a.texts) a.rest a.end a.ends room z rest.0 rest.1 rest.2)

pub memory_or_not : (r : Result (List (List ℕ)) BodyFault) → (r ≡ Err NoMemory) ⊎ (r ≢ Err NoMemory)
memory_or_not (Ok texts) = inr (λ e. cc)
memory_or_not (Err NoData) = inr (λ e. cc)
memory_or_not (Err (Format event)) = inr (λ e. cc)
memory_or_not (Err (NoEvent event)) = inr (λ e. cc)
memory_or_not (Err (Blank event)) = inr (λ e. cc)
memory_or_not (Err TooMany) = inr (λ e. cc)
memory_or_not (Err NoMemory) = inl refl

pub one_cut : (body : List ℕ) (r s : Result (List (List ℕ)) BodyFault) → IsCut body r → IsCut body s → (r ≡ Err NoMemory) ⊎ ((s ≡ Err NoMemory) ⊎ (r ≡ s))
one_cut body r s h k = elim (memory_or_not r) [
  | inl m ↦ inl m
  | inr m ↦ elim (memory_or_not s) [
    | inl n ↦ inr (inl n)
    | inr n ↦
        let a = cut_at body r m h in
        let b = cut_at body s n k in
        elim (cases_lt (length a.texts) (length b.texts)) [
          | inl fewer ↦ inr (inr (same_at body r s a b (omega (arith, fewer))))
          | inr fewer ↦ inr (inr (sym (same_at body s r b a fewer)))
        ]
  ]
]
