-- The ids that replies give have 64 bits, since no unsigned number that is read has more.
use Rattle.std.proofs.Common.{◌≡◌, ℕ, ◌<◌, ◌^◌, Bool, true, false, List, [], ◌∷◌, Ordering, Less, Equal, Greater, refl, sym, subst, ◌&&◌, ◌==◌, if◌then◌else◌}
use Rattle.std.specs.Prelude.{All, Option, Some, None, codes, drop, nat_lt, option_and_then, option_map, slice_index, ⊤}
use Rattle.std.specs.Ordering.{match_ordering, nat_cmp}
use Rattle.std.specs.Cmp.Lexicographic.{slice_cmp}
use Rattle.std.specs.Float.{binary64, float_is_finite}
use Rattle.std.proofs.lemmas.Bool.{and_parts, ltb-true}
use Rattle.std.proofs.lemmas.List.Elements.{All-append, All-cons, All-nil}
use Rattle.fast_float.specs.Text.{Parts, digits_of, minus, nearest, scan}
use Rattle.json.specs.Json as json
use Rattle.json.specs.Lex.{tokens}
use Rattle.serde_json.specs.Data.{Data, Items, Members, Num, array, boolean, float, item, member, negative, no_items, no_members, null, number, object, put, string, unsigned}
use Rattle.serde_json.specs.Find.{get, get_member}
use Rattle.serde_json.specs.Read.{float_of, is_integer, number_from, number_of, of_items, of_json, of_members, read}
use Rattle.http_reply.specs.declared.reply.HttpReply.{HttpReply}
use Rattle.hec_sender.specs.declared.query.Query.{Query}
use Rattle.hec_sender.specs.Progress.{Brings, Progress, TakesAll, unconfirmed}
use Rattle.hec_sender.specs.Replies.{IsValueOf, ack_of, by_ack, by_code, by_id, by_number, code_of, is_success, verdict_of, whole_number}

-- ---- numbers that are read

abbrev SomeIs : {A : Type 0} → (A → Type 0) → Option A → Type 0
SomeIs P None = ⊤
SomeIs P (Some a) = P a

map_some : {A B : Type 0} (P : A → Type 0) (Q : B → Type 0) (f : A → B) → ((a : A) → P a → Q (f a)) → (o : Option A) → SomeIs P o → SomeIs Q (option_map f o)
map_some P Q f each None h = tt
map_some P Q f each (Some a) h = each a h

then_some : {A B : Type 0} (P : A → Type 0) (Q : B → Type 0) (f : A → Option B) → ((a : A) → P a → SomeIs Q (f a)) → (o : Option A) → SomeIs P o → SomeIs Q (option_and_then f o)
then_some P Q f each None h = tt
then_some P Q f each (Some a) h = each a h

either : {A : Type 0} (P : A → Type 0) (b : Bool) (x y : Option A) → SomeIs P x → SomeIs P y → SomeIs P (if b then x else y)
either P true x y h k = h
either P false x y h k = k

abbrev IsLow : ℕ → Type 0
IsLow n = n < 2 ^ 64

abbrev LowNum : Num → Type 0
LowNum (unsigned n) = IsLow n
LowNum (negative z) = ⊤
LowNum (float x) = ⊤

abbrev mutual
  Low : Data → Type 0
  Low null = ⊤
  Low (boolean b) = ⊤
  Low (number n) = LowNum n
  Low (string s) = ⊤
  Low (array ds) = LowItems ds
  Low (object ms) = LowMembers ms

  LowItems : Items → Type 0
  LowItems no_items = ⊤
  LowItems (item d ds) = Low d × LowItems ds

  LowMembers : Members → Type 0
  LowMembers no_members = ⊤
  LowMembers (member k d ms) = Low d × LowMembers ms

float_low : (sign : Bool) (p : Parts) → SomeIs LowNum (float_of sign p)
float_low sign p = either LowNum (float_is_finite (nearest binary64 sign p)) (Some (float (nearest binary64 sign p))) None tt tt

unsigned_low : (p : Parts) → SomeIs LowNum (number_from false p)
unsigned_low p = by (is_integer p && nat_lt (digits_of p) (2 ^ 64)) refl
  where
    by : (b : Bool) → (is_integer p && nat_lt (digits_of p) (2 ^ 64)) ≡ b → SomeIs LowNum (if b then Some (unsigned (digits_of p)) else float_of false p)
    by true e = ltb-true (digits_of p) (2 ^ 64) (and_parts (is_integer p) (nat_lt (digits_of p) (2 ^ 64)) e).1
    by false e = float_low false p

negative_low : (p : Parts) → SomeIs LowNum (number_from true p)
negative_low p = either LowNum _ (Some (negative _)) (float_of true p) tt (float_low true p)

number_low : (s : List ℕ) → SomeIs LowNum (number_of s)
unfolding number_of
number_low s = either LowNum (slice_index s 0 == minus) (number_from true (scan (drop 1 s))) (number_from false (scan s)) (negative_low (scan (drop 1 s))) (unsigned_low (scan s))

-- ---- values that are read

ordered_low : (o : Ordering) (a b c : Members) → LowMembers a → LowMembers b → LowMembers c → LowMembers (match_ordering o a b c)
ordered_low Less a b c p q r = p
ordered_low Equal a b c p q r = q
ordered_low Greater a b c p q r = r

put_low : (k : List ℕ) (d : Data) (ms : Members) → Low d → LowMembers ms → LowMembers (put k d ms)
put_low k d no_members p q = (p, tt)
put_low k d (member l e ms) p q = ordered_low (slice_cmp nat_cmp k l) (member k d (member l e ms)) (member l d ms) (member l e (put k d ms)) (p, q) (p, q.1) (q.0, put_low k d ms p q.1)

mutual
  json_low : (j : json.Json) → SomeIs Low (of_json j)
  json_low json.null = tt
  json_low (json.boolean b) = tt
  json_low (json.number s) = map_some LowNum Low number (λ n h. h) (number_of s) (number_low s)
  json_low (json.string s) = tt
  json_low (json.array js) = map_some LowItems Low array (λ ds h. h) (of_items js) (items_low js)
  json_low (json.object ms) = map_some LowMembers Low object (λ ds h. h) (of_members ms no_members) (members_low ms no_members tt)

  items_low : (js : json.Items) → SomeIs LowItems (of_items js)
  items_low json.no_items = tt
  items_low (json.item j js) = then_some Low LowItems (λ d. option_map (item d) (of_items js)) (λ d h. map_some LowItems LowItems (item d) (λ ds k. (h, k)) (of_items js) (items_low js)) (of_json j) (json_low j)

  members_low : (ms : json.Members) (found : Members) → LowMembers found → SomeIs LowMembers (of_members ms found)
  members_low json.no_members found h = h
  members_low (json.member k j ms) found h = then_some Low LowMembers (λ d. of_members ms (put k d found)) (λ d l. members_low ms (put k d found) (put_low k d found l h)) (of_json j) (json_low j)

whole_read : (o : Option json.Json) → SomeIs Low (option_and_then of_json o)
whole_read None = tt
whole_read (Some j) = json_low j

read_low : (text : List ℕ) → SomeIs Low (read text)
read_low text = whole_read (option_and_then (λ p. json.if_last p.0 p.1) (json.value 127 (tokens text)))

-- ---- an id

ordered_some : (o : Ordering) (a b c : Option Data) → SomeIs Low a → SomeIs Low b → SomeIs Low c → SomeIs Low (match_ordering o a b c)
ordered_some Less a b c p q r = p
ordered_some Equal a b c p q r = q
ordered_some Greater a b c p q r = r

member_low : (k : List ℕ) (ms : Members) → LowMembers ms → SomeIs Low (get_member k ms)
member_low k no_members h = tt
member_low k (member l e ms) h = ordered_some (slice_cmp nat_cmp k l) (get_member k ms) (Some e) (get_member k ms) (member_low k ms h.1) h.0 (member_low k ms h.1)

get_low : (k : List ℕ) (d : Data) → Low d → SomeIs Low (get k d)
get_low k null h = tt
get_low k (boolean b) h = tt
get_low k (number n) h = tt
get_low k (string s) h = tt
get_low k (array ds) h = tt
get_low k (object ms) h = member_low k ms h

whole_low : (d : Data) → Low d → SomeIs IsLow (whole_number d)
whole_low null h = tt
whole_low (boolean b) h = tt
whole_low (number (unsigned n)) h = h
whole_low (number (negative z)) h = tt
whole_low (number (float x)) h = tt
whole_low (string s) h = tt
whole_low (array ds) h = tt
whole_low (object ms) h = tt

-- ---- what replies bring

-- the id that is asked for, if one is, has 64 bits
abbrev pub HasId : Option Query → Type 0
HasId None = ⊤
HasId (Some query) = query.id < 2 ^ 64

abbrev pub HaveIds : Progress → Type 0
HaveIds p = HasId p.asked × All HasId p.confirmed

value_low : (body : List ℕ) (value : Option Data) → IsValueOf body value → SomeIs Low value
value_low body None is = tt
value_low body (Some d) is = subst (λ (o : Option Data). SomeIs Low o) is.1 (read_low body)

-- what a reply brings that says one thing or another
module _ (polls : ℕ) (p next : Progress) (ids : HaveIds p) where
  number_brings : (n : Option ℕ) → SomeIs IsLow n → Brings polls p (by_number n) next → HaveIds next
  number_brings None low is = absurd is
  number_brings (Some id) low is = subst HaveIds (sym is) (low, ids.1)

  id_brings : (o : Option Data) → SomeIs Low o → Brings polls p (by_id o) next → HaveIds next
  id_brings None low is = subst HaveIds (sym is) (tt, All-append HasId p.confirmed (p.asked ∷ []) ids.1 (All-cons HasId p.asked [] ids.0 (All-nil HasId)))
  id_brings (Some d) low is = number_brings (whole_number d) (whole_low d low) is

  code_brings : (status : ℕ) (o : Option Data) (code : Option ℕ) → SomeIs Low o → Brings polls p (by_code status (by_id o) code) next → HaveIds next
  code_brings status o None low is = absurd is
  code_brings status o (Some code) low is = by (is_success status code) refl
    where
      by : (b : Bool) → is_success status code ≡ b → HaveIds next
      by true e = id_brings o low (rw e at is)
      by false e = absurd (rw e at is)

  -- an answer without an acknowledgement
  silent_brings : (status : ℕ) (code : Option ℕ) → Brings polls p (by_code status (by_number None) code) next → ⊥
  silent_brings status None is = is
  silent_brings status (Some code) is = by (is_success status code) refl
    where
      by : (b : Bool) → is_success status code ≡ b → ⊥
      by true e = rw e at is
      by false e = rw e at is

  ack_brings : (status : ℕ) (code : Option ℕ) (ack : Option Bool) → Brings polls p (by_ack (by_code status (by_number None) code) ack) next → HaveIds next
  ack_brings status code None is = absurd (silent_brings status code is)
  ack_brings status code (Some true) is = subst HaveIds (sym is) (tt, All-append HasId p.confirmed (p.asked ∷ []) ids.1 (All-cons HasId p.asked [] ids.0 (All-nil HasId)))
  ack_brings status code (Some false) (q, asked, few, is) = subst HaveIds (sym is) (subst HasId asked ids.0, ids.1)

  verdict_brings : (asked : Option Query) (status : ℕ) (value : Option Data) → SomeIs Low value → Brings polls p (verdict_of asked status value) next → HaveIds next
  verdict_brings asked status None low is = absurd is
  verdict_brings None status (Some d) low is = code_brings status (get (codes "ackId") d) (code_of d) (get_low (codes "ackId") d low) is
  verdict_brings (Some q) status (Some d) low is = ack_brings status (code_of d) (if status == 200 then ack_of q.id d else None) is

takes_low : (polls : ℕ) (p : Progress) (replies : List HttpReply) (next : Progress) → TakesAll polls p replies next → HaveIds p → HaveIds next
takes_low polls p [] next is ids = subst HaveIds (sym is) ids
takes_low polls p (reply ∷ replies) next (q, (verdict, (value, is, e), brings), more) ids =
    takes_low polls q replies next more (verdict_brings polls p q ids p.asked reply.status value (value_low reply.body value is) (rw e at brings))

pub have_ids : (polls : ℕ) (replies : List HttpReply) (p : Progress) → TakesAll polls unconfirmed replies p → HaveIds p
have_ids polls replies p takes = takes_low polls unconfirmed replies p takes (tt, All-nil HasId)
