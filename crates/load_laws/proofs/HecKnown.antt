-- What the replies of a load by the collector's protocol bring: each confirms 128 entries, or those that are left.
use Rattle.std.proofs.Common.{◌≡◌, ℕ, zero, suc, ◌+◌, ◌-◌, ◌*◌, ◌<◌, ◌≤◌, Bool, List, [], ◌∷◌, ◌++◌, length, drop, refl, sym, ◌∙◌, ap, subst, arith, length-append, length-take, length-drop}
use Rattle.std.specs.Prelude.{All, Option, None, min, max, ◌%◌, if◌then◌else◌}
use Rattle.std.proofs.lemmas.Bool.{le-leb}
use Rattle.std.proofs.lemmas.List.Elements.{All-drop, All-head, All-tail, All-take}
use Rattle.event_form.specs.declared.event.Entry.{Entry}
use Rattle.event_map.proofs.Functions.{hec_object_of}
use Rattle.hec_sender.specs.declared.query.Query.{Query}
use Rattle.hec_sender.specs.declared.stop.Stop.{Stop}
use Rattle.hec_sender.specs.Progress.{Brings, Ends, Progress, Stops, Takes, TakesAll, known_by, unconfirmed}
use Rattle.hec_sender.specs.Replies.{Says, by_id}
use Rattle.hec_sender.specs.Requests.{fitting, known_from, request_of, run_from}
use Rattle.hec_sender.proofs.Judging.{one_verdict}
use Rattle.load_laws.proofs.HecReply.{success, success_says, success_text}
use Rattle.load_laws.proofs.HecReplies.{replies}

-- ---- requests of 128 entries

-- the object of each entry has at most 8,192 bytes, so that 128 of them fit in one body
abbrev pub AreLight : List Entry → Type 0
AreLight entries = All (λ (e : Entry). length (hec_object_of e.event) ≤ 8192) entries

all_fit : (room : ℕ) (es : List Entry) → AreLight es → length es * 8192 ≤ room → fitting room es ≡ length es
all_fit room [] light fits = refl
all_fit room (e ∷ es) light fits =
    let size = length (hec_object_of e.event) in
    let one : size ≤ 8192 = All-head (λ (x : Entry). length (hec_object_of x.event) ≤ 8192) e es light in
    let here = le-leb size room (omega (arith, one, fits)) in
    let rest = all_fit (room - size) es (All-tail (λ (x : Entry). length (hec_object_of x.event) ≤ 8192) e es light) (omega (arith, one, fits)) in
    ap (λ (b : Bool). if b then suc (fitting (room - size) es) else 0) here ∙ ap suc rest

request_length : (place : ℕ) (entries : List Entry) → place % 128 ≡ 0 → AreLight entries → length (request_of place entries) ≡ min 128 (length entries)
request_length place entries whole light =
    let run = run_from place entries in
    let long = length-take (128 - place % 128) entries in
    let all = all_fit 1048576 run (All-take (λ (x : Entry). length (hec_object_of x.event) ≤ 8192) (128 - place % 128) entries light) (omega (arith, long)) in
    omega (arith, whole, long, all, length-take (max 1 (fitting 1048576 run)) entries)

none_known : (place : ℕ) (confirmed : List (Option Query)) → known_from place confirmed [] ≡ 0
none_known place [] = refl
none_known place (a ∷ confirmed) = refl

known_all : (place : ℕ) (confirmed : List (Option Query)) (entries : List Entry) → (0 < length entries → place % 128 ≡ 0) → AreLight entries
    → known_from place confirmed entries ≡ min (128 * length confirmed) (length entries)
known_all place [] entries whole light = omega arith
known_all place (a ∷ confirmed) [] whole light = omega arith
known_all place (a ∷ confirmed) (e ∷ es) whole light =
    let k = length (request_of place (e ∷ es)) in
    let here = whole (omega arith) in
    let size = request_length place (e ∷ es) here light in
    let long = length-drop k (e ∷ es) in
    let others = All-drop (λ (x : Entry). length (hec_object_of x.event) ≤ 8192) k (e ∷ es) light in
    let rest = known_all (place + k) confirmed (drop k (e ∷ es)) (λ some. omega (arith, some, here, size, long)) others in
    omega (arith, rest, size, long)

-- ---- what replies bring

-- so many requests are confirmed, and none is asked for
pub record Confirmed (n : ℕ) (p : Progress) : Type 0 where
  pub many : length p.confirmed ≡ n
  pub none : p.asked ≡ None

one_taken : (polls at n : ℕ) (p q : Progress) → Confirmed n p → Takes polls p (success at) q → Confirmed (suc n) q
one_taken polls at n p q c (verdict, says, brings) =
    let one = one_verdict None (success at) verdict (by_id None) (subst (λ (a : Option Query). Says a (success at) verdict) c.none says) (success_says at) in
    let is : q ≡ record { confirmed = p.confirmed ++ p.asked ∷ []; asked = None } = subst (λ v. Brings polls p v q) one brings in
    let many : length q.confirmed ≡ length (p.confirmed ++ p.asked ∷ []) = ap (λ (r : Progress). length r.confirmed) is in
    record { many = omega (arith, many, c.many, length-append p.confirmed (p.asked ∷ [])); none = ap (λ (r : Progress). r.asked) is }

all_taken : (polls at n m : ℕ) (p q : Progress) → Confirmed n p → TakesAll polls p (replies at m) q → Confirmed (n + m) q
all_taken polls at n zero p q c is =
    let same : n ≡ n + 0 = omega arith in
    subst (λ (k : ℕ). Confirmed k q) same (subst (Confirmed n) (sym is) c)
all_taken polls at n (suc m) p q c (next, takes, rest) =
    let sum : suc n + m ≡ n + suc m = omega arith in
    subst (λ (k : ℕ). Confirmed k q) sum (all_taken polls (at + length success_text) (suc n) m next q (one_taken polls at n p next c takes) rest)

pub taken_confirms : (polls m : ℕ) (p : Progress) → TakesAll polls unconfirmed (replies 0 m) p → Confirmed m p
taken_confirms polls m p takes =
    let sum : 0 + m ≡ m = omega arith in
    subst (λ (k : ℕ). Confirmed k p) sum (all_taken polls 0 0 m unconfirmed p (record { many = refl; none = refl }) takes)

-- and one more doesn't end the session
pub goes_on : (polls at n : ℕ) (p : Progress) (how : Stop) → Confirmed n p → Stops polls p (success at) how → ⊥
goes_on polls at n p how c (verdict, says, ends) =
    let one = one_verdict None (success at) verdict (by_id None) (subst (λ (a : Option Query). Says a (success at) verdict) c.none says) (success_says at) in
    subst (λ v. Ends polls p at v how) one ends

-- so the entries of so many requests are known, or all
pub known_is : (n : ℕ) (p : Progress) (entries : List Entry) → Confirmed n p → AreLight entries → known_by entries p ≡ min (128 * n) (length entries)
known_is n p entries c light = known_all 0 p.confirmed entries (λ some. refl) light ∙ ap (λ (k : ℕ). min (128 * k) (length entries)) c.many
