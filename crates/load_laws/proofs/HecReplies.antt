-- The replies of a load by the collector's protocol, one after another.
use Rattle.std.proofs.Common.{◌≡◌, inl, ℕ, zero, suc, ◌+◌, ◌*◌, ◌≤◌, List, [], ◌∷◌, ◌++◌, length, flat_map, refl, sym, ◌∙◌, ap, arith, append_assoc, append-nil, length-append}
use Rattle.http_reply.specs.declared.reply.HttpReply.{HttpReply}
use Rattle.http_reply.specs.ReplyStream.{AreReplies, AreSpelledFrom, IsStream, given_of}
use Rattle.http_reply.proofs.OpeningLaws.{open_nil}
use Rattle.load_laws.proofs.HecReply.{reply_some, success, success_first, success_is, success_length, success_text}

-- so many replies from an offset on, and their bytes
abbrev pub replies : ℕ → ℕ → List HttpReply
replies at zero = []
replies at (suc n) = success at ∷ replies (at + length success_text) n

abbrev pub texts : ℕ → List ℕ
texts zero = []
texts (suc n) = success_text ++ texts n

pub length-texts : (n : ℕ) → length (texts n) ≤ n * 200
length-texts zero = omega arith
length-texts (suc n) = omega (arith, length-append success_text (texts n), success_length, length-texts n)

length-replies : (at n : ℕ) → length (replies at n) ≡ n
length-replies at zero = refl
length-replies at (suc n) = ap suc (length-replies (at + length success_text) n)

-- two such lists that are equal have one length
pub replies_same : (at m n : ℕ) → replies at m ≡ replies at n → m ≡ n
replies_same at m n e = sym (length-replies at m) ∙ ap (λ (l : List HttpReply). length l) e ∙ length-replies at n

all_spelled : (at n : ℕ) → AreSpelledFrom at (replies at n) (texts n)
all_spelled at zero = refl
all_spelled at (suc n) = (success_text, texts n, success_is at, refl, refl, all_spelled (at + length success_text) n)

-- none of them is passed over
all_given : (at n : ℕ) → flat_map given_of (replies at n) ≡ replies at n
all_given at zero = refl
all_given at (suc n) = ap (λ (l : List HttpReply). success at ∷ l) (all_given (at + length success_text) n)

-- the bytes are these replies, and no others
pub whole_stream : (n : ℕ) → IsStream (texts n) (replies 0 n) (length (texts n)) []
whole_stream n = record {
  replies = record { replies = replies 0 n; front = texts n; spelled = all_spelled 0 n; whole = sym (append-nil (texts n)); at_is = refl; given_are = sym (all_given 0 n) };
  going = inl (omega arith, open_nil);
}

-- Replies at the front of so many are the first of these, and the rest of the bytes are the others.
pub record Firsts (at n : ℕ) (given : List HttpReply) (rest : List ℕ) : Type 0 where
  pub taken : ℕ
  pub left : ℕ
  pub sum : taken + left ≡ n
  pub are : given ≡ replies at taken
  pub rest_is : rest ≡ texts left

spelled_firsts : (at n : ℕ) (rs : List HttpReply) (x y : List ℕ) → AreSpelledFrom at rs x → x ++ y ≡ texts n → Firsts at n rs y
spelled_firsts at n [] x y none whole = record { taken = 0; left = n; sum = omega arith; are = refl; rest_is = ap (λ (l : List ℕ). l ++ y) (sym none) ∙ whole }
spelled_firsts at zero (r ∷ rs) x y (u, v, is, place, e, more) whole = absurd (omega (arith, reply_some r u is, ap length e, length-append u v, ap length whole, length-append x y))
spelled_firsts at (suc n) (r ∷ rs) x y (u, v, is, place, e, more) whole =
    let joined : u ++ (v ++ y) ≡ success_text ++ texts n = sym (append_assoc u v y) ∙ ap (λ (l : List ℕ). l ++ y) (sym e) ∙ whole in
    let one = success_first r u (v ++ y) (texts n) is joined in
    let t = spelled_firsts (at + length u) n rs v y more one.2 in
    let first : r ≡ success at = one.0 ∙ ap success place in
    let others : rs ≡ replies (at + length success_text) t.taken = t.are ∙ ap (λ (l : List ℕ). replies (at + length l) t.taken) one.1 in
    record { taken = suc t.taken; left = t.left; sum = omega (arith, t.sum); are = λ i. first i ∷ others i; rest_is = t.rest_is }

pub firsts : (n : ℕ) (given : List HttpReply) (end : ℕ) (rest : List ℕ) → AreReplies 0 (texts n) given end rest → Firsts 0 n given rest
firsts n given end rest a =
    let f = spelled_firsts 0 n a.replies a.front rest a.spelled (sym a.whole) in
    record { taken = f.taken; left = f.left; sum = f.sum; are = a.given_are ∙ ap (flat_map given_of) f.are ∙ all_given 0 f.taken; rest_is = f.rest_is }

-- each of them is the same but for its offset
pub among : (at n : ℕ) (before after : List HttpReply) (r : HttpReply) → before ++ r ∷ after ≡ replies at n → (place : ℕ) × (r ≡ success place)
among at zero before after r e = absurd (omega (arith, ap (λ (l : List HttpReply). length l) e, length-append before (r ∷ after)))
among at (suc n) [] after r e = (at, cc)
among at (suc n) (b ∷ before) after r e = let rest : before ++ r ∷ after ≡ replies (at + length success_text) n = cc in among (at + length success_text) n before after r rest
