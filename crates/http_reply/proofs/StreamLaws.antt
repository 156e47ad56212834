-- How whole replies follow one another.
use Rattle.std.proofs.Common.{◌≡◌, ℕ, ◌+◌, ◌-◌, ◌<◌, ◌≤◌, List, [], ◌∷◌, ◌++◌, length, take, drop, refl, sym, ap, ◌∙◌, subst, arith, inl, length-append, length-drop, length-take-le, append_assoc, append-nil, take-append-drop}
use Rattle.std.specs.Prelude.{Option, Some, None}
use Rattle.std.specs.List.{flat_map}
use Rattle.std.proofs.lemmas.List.{drop-drop}
use Rattle.http_edge.specs.declared.fault.HttpFault.{HttpFault}
use Rattle.http_edge.specs.declared.fault.HttpWhy.{HttpWhy}
use Rattle.http_edge.specs.declared.stage.Stage.{Stage}
use Rattle.http_edge.specs.declared.stage.Stage.TheVariants.{Plain}
use Rattle.http_edge.proofs.NextLaws.{window}
use Rattle.http_reply.specs.declared.left.Left.{Left}
use Rattle.http_reply.specs.declared.next.Next.{Next}
use Rattle.http_reply.specs.declared.reply.HttpReply.{HttpReply}
use Rattle.http_reply.specs.Heads.{IsOpenHead}
use Rattle.http_reply.specs.ReplyStream.{IsReply, AreSpelledFrom, AreReplies, IsFault, given_of}
use Rattle.http_reply.specs.Scanning.{IsCleared, IsLeft, Nexts, ScansTo}

spelled_append : (at : ℕ) (rs ss : List HttpReply) (a b : List ℕ) → AreSpelledFrom at rs a → AreSpelledFrom (at + length a) ss b → AreSpelledFrom at (rs ++ ss) (a ++ b)
spelled_append at [] ss a b x y =
    let none : at + length a ≡ at = (let n : length a ≡ 0 = ap length x in omega (arith, n)) in
    subst (AreSpelledFrom at ss) (ap (λ (v : List ℕ). v ++ b) (sym x)) (subst (λ (n : ℕ). AreSpelledFrom n ss b) none y)
spelled_append at (r ∷ rs) ss a b (t, u, is, place, e, x) y =
    let far : at + length a ≡ (at + length t) + length u = (let n : length a ≡ length t + length u = ap length e ∙ length-append t u in omega (arith, n)) in
    (t, u ++ b, is, place, ap (λ (v : List ℕ). v ++ b) e ∙ append_assoc t u b, spelled_append (at + length t) rs ss u b x (subst (λ (n : ℕ). AreSpelledFrom n ss b) far y))

given_append : (rs ss : List HttpReply) → flat_map given_of (rs ++ ss) ≡ flat_map given_of rs ++ flat_map given_of ss
given_append [] ss = refl
given_append (r ∷ rs) ss = ap (λ (v : List HttpReply). given_of r ++ v) (given_append rs ss) ∙ sym (append_assoc (given_of r) (flat_map given_of rs) (flat_map given_of ss))

pub no_replies : (base : ℕ) (b : List ℕ) → AreReplies base b [] 0 b
no_replies base b = record { replies = []; front = []; spelled = refl; whole = refl; at_is = refl; given_are = refl }

-- replies, and after them, a piece further on, more replies
pub replies_then : (base : ℕ) (fed piece rest : List ℕ) (given more : List HttpReply) (at from : ℕ) (last : List ℕ) → AreReplies base fed given at rest → AreReplies (base + at) (rest ++ piece) more from last → AreReplies base (fed ++ piece) (given ++ more) (at + from) last
replies_then base fed piece rest given more at from last s f = record {
  replies = s.replies ++ f.replies;
  front = s.front ++ f.front;
  spelled = spelled_append base s.replies f.replies s.front f.front s.spelled (subst (λ (n : ℕ). AreSpelledFrom (base + n) f.replies f.front) s.at_is f.spelled);
  whole = ap (λ (v : List ℕ). v ++ piece) s.whole ∙ append_assoc s.front rest piece ∙ ap (λ (v : List ℕ). s.front ++ v) f.whole ∙ sym (append_assoc s.front f.front last);
  at_is = (λ i. s.at_is i + f.at_is i) ∙ sym (length-append s.front f.front);
  given_are = (λ i. s.given_are i ++ f.given_are i) ∙ sym (given_append s.replies f.replies);
}

-- one reply
pub one_reply : (r : HttpReply) (x y : List ℕ) → IsReply r x → AreReplies r.at (x ++ y) (given_of r) (length x) y
one_reply r x y is = record { replies = r ∷ []; front = x; spelled = (x, [], is, refl, sym (append-nil x), refl); whole = refl; at_is = refl; given_are = sym (append-nil (given_of r)) }

-- one more reply of some bytes
pub replies_more : (base : ℕ) (b : List ℕ) (given : List HttpReply) (from used : ℕ) (r : HttpReply) → AreReplies base b given from (drop from b) → IsReply r (take used (drop from b)) → r.at ≡ base + from → used ≤ length (drop from b) → (now : List HttpReply) → now ≡ given ++ given_of r → AreReplies base b now (from + used) (drop (from + used) b)
replies_more base b given from used r s is at few now e =
    let w = drop from b in
    let one : AreReplies r.at (take used w ++ drop used w) (given_of r) (length (take used w)) (drop used w) = one_reply r (take used w) (drop used w) is in
    let one_here : AreReplies (base + from) (w ++ []) (given_of r) (length (take used w)) (drop used w) = subst (λ (n : ℕ). AreReplies n (w ++ []) (given_of r) (length (take used w)) (drop used w)) at (subst (λ (v : List ℕ). AreReplies r.at v (given_of r) (length (take used w)) (drop used w)) (take-append-drop used w ∙ sym (append-nil w)) one) in
    let all = replies_then base b [] w given (given_of r) from (length (take used w)) (drop used w) s one_here in
    let n : from + length (take used w) ≡ from + used = ap (λ (k : ℕ). from + k) (length-take-le used w few) in
    subst (λ (v : List ℕ). AreReplies base b now (from + used) v) (drop-drop used from b) (subst (λ (k : ℕ). AreReplies base b now k (drop used w)) n (subst (λ (v : List HttpReply). AreReplies base b v (from + length (take used w)) (drop used w)) (sym e) (subst (λ (v : List ℕ). AreReplies base v (given ++ given_of r) (from + length (take used w)) (drop used w)) (append-nil b) all)))

pub replies_inside : (base : ℕ) (b : List ℕ) (given : List HttpReply) (from : ℕ) (rest : List ℕ) → AreReplies base b given from rest → from ≤ length b
replies_inside base b given from rest f =
    let n : length b ≡ length f.front + length rest = ap length f.whole ∙ length-append f.front rest in
    omega (arith, n, f.at_is)

-- a piece after whole replies
pub replies_more_text : (base : ℕ) (fed piece rest : List ℕ) (given : List HttpReply) (at : ℕ) → AreReplies base fed given at rest → AreReplies base (fed ++ piece) given at (rest ++ piece)
replies_more_text base fed piece rest given at s = record {
  replies = s.replies;
  front = s.front;
  spelled = s.spelled;
  whole = ap (λ (v : List ℕ). v ++ piece) s.whole ∙ append_assoc s.front rest piece;
  at_is = s.at_is;
  given_are = s.given_are;
}

-- an unfinished head is held as it is
pub left_open : (rest body : List ℕ) → body ≡ [] → length rest < 16384 → IsOpenHead rest → IsLeft rest None (Plain 0) body 0 rest
left_open rest body e short head = record {
  going = inl (short, head);
  holds = (refl, refl, e, short, head);
  fits = let n : length body ≡ 0 = ap length e in omega (arith, n);
  short = short;
}

-- what a scan brought, by what stood after the last whole reply
pub scans_left : (base : ℕ) (b : List ℕ) (given : List HttpReply) (from : ℕ) (begun : Option ℕ) (stage : Stage) (body : List ℕ) (read : ℕ) (unread : List ℕ) → AreReplies base b given from (drop from b) → read ≤ length (drop from b) → unread ≡ drop (from + read) b → IsLeft (drop from b) begun stage body read (drop (from + read) b) → ScansTo base b given from begun stage body read unread None
scans_left base b given from begun stage body read unread s few u l =
    let inside = replies_inside base b given from (drop from b) s in
    let n = length-drop from b in
    let m : length unread ≡ length b - (from + read) = ap length u ∙ length-drop (from + read) b in
    let now : IsLeft (drop from b) begun stage body read unread = subst (IsLeft (drop from b) begun stage body read) (sym u) l in
    record { replies = s; fits = now.fits; short = now.short; room = omega (arith, m, n, few, inside); leaves = now }

pub scans_bad : (base : ℕ) (b : List ℕ) (given : List HttpReply) (from at : ℕ) (why : HttpWhy) (place : ℕ) (l : Left) → AreReplies base b given from (drop from b) → IsFault (drop from b) why at → place ≡ base + (from + at) → IsCleared l from (record { at = place; why = why }) → ScansTo base b given l.from l.begun l.stage l.body.items l.read l.unread.items l.fault
scans_bad base b given from at why place l s bad p z =
    let inside = replies_inside base b given from (drop from b) s in
    let e : HttpFault = record { at = place; why = why } in
    let here : ScansTo base b given from None (Plain 0) [] 0 [] (Some e) = record {
      replies = s;
      fits = omega arith;
      short = omega arith;
      room = omega (arith, inside);
      leaves = (at, bad, omega (arith, p), refl, refl);
    } in
    let a = subst (λ (n : ℕ). ScansTo base b given n None (Plain 0) [] 0 [] (Some e)) (sym z.from_is) here in
    let c = subst (λ (g : Option ℕ). ScansTo base b given l.from g (Plain 0) [] 0 [] (Some e)) (sym z.begun_is) a in
    let d = subst (λ (g : Stage). ScansTo base b given l.from l.begun g [] 0 [] (Some e)) (sym z.stage_is) c in
    let f = subst (λ (g : List ℕ). ScansTo base b given l.from l.begun l.stage g 0 [] (Some e)) (sym z.body_is) d in
    let g = subst (λ (n : ℕ). ScansTo base b given l.from l.begun l.stage l.body.items n [] (Some e)) (sym z.read_is) f in
    let h = subst (λ (v : List ℕ). ScansTo base b given l.from l.begun l.stage l.body.items l.read v (Some e)) (sym z.unread_is) g in
    subst (λ (v : Option HttpFault). ScansTo base b given l.from l.begun l.stage l.body.items l.read l.unread.items v) (sym z.fault_is) h

pub left_moved : (b : List ℕ) (from : ℕ) (begun : Option ℕ) (stage : Stage) (body : List ℕ) (used : ℕ) → IsLeft (drop from b) begun stage body used (drop used (drop from b)) → IsLeft (drop from b) begun stage body used (drop (from + used) b)
left_moved b from begun stage body used l = subst (IsLeft (drop from b) begun stage body used) (drop-drop used from b) l

-- what a look at the bytes from a place on says
pub next_at : (b : List ℕ) (from : ℕ) (s t : Next) → s ≡ t → Nexts (take (length b - from) (drop from b)) s → Nexts (drop from b) t
next_at b from s t e x = subst (Nexts (drop from b)) e (subst (λ (v : List ℕ). Nexts v s) (window b from) x)
