-- The entry that is found is the one whose text begins the bytes.
use Rattle.std.proofs.Common.{◌≡◌, ℕ, ◌+◌, ◌^◌, ◌<◌, ◌≤◌, List, ◌∷◌, ◌++◌, length, get_or, take, drop, refl, sym, ◌∙◌, ap, arith}
use Rattle.std.specs.Int.{w32, w64, from_be_bytes, to_be_bytes}
use Rattle.std.proofs.lemmas.List.{take-append-drop, drop-drop, drop_more, take_at, drop_at, length-take, length-drop}
use Rattle.event_form.specs.declared.event.Origin.{Origin}
use Rattle.event_form.specs.declared.event.Origin.TheVariants.{Relp, LumberData, LumberJson, HecEvent, HecRaw}
use Rattle.event_form.specs.declared.event.Entry.{Entry}
use Rattle.event_form.specs.declared.reading.Head.{Head}
use Rattle.event_form.specs.Event.{ArePairs}
use Rattle.event_form.specs.Entry.{origin_code, IsEntry, head_text, entry_text, size_of}
use Rattle.event_form.specs.Reading.{Begins, BeginsNoEntry}
use Rattle.event_form.specs.Head.{Tells, entry_of}
use Rattle.event_form.proofs.Numbers.{IsBytes, IsBytes-take, IsBytes-drop, four_again, eight_again, eight_below}
use Rattle.event_form.proofs.Fields.{length-entry_text}
use Rattle.event_form.proofs.Unique.{one_entry}

-- n bytes from an offset on, and those after them
piece : (i n j : ℕ) (b : List ℕ) → i + n ≡ j → drop i b ≡ take n (drop i b) ++ drop j b
piece i n j b e = sym (take-append-drop n (drop i b)) ∙ ap (λ (r : List ℕ). take n (drop i b) ++ r) (drop-drop n i b ∙ ap (λ k. drop k b) e)

-- the fields one after the other
fields : (b text rest : List ℕ) → 29 ≤ length b → drop 29 b ≡ text ++ rest → b ≡ get_or b 0 0 ∷ (take 8 (drop 1 b) ++ (take 8 (drop 9 b) ++ (take 8 (drop 17 b) ++ (take 4 (drop 25 b) ++ (text ++ rest)))))
fields b text rest there h =
    drop_more b 0 0 (omega arith)
    ∙ ap (λ (r : List ℕ). get_or b 0 0 ∷ r) (piece 1 8 9 b refl
    ∙ ap (λ (r : List ℕ). take 8 (drop 1 b) ++ r) (piece 9 8 17 b refl
    ∙ ap (λ (r : List ℕ). take 8 (drop 9 b) ++ r) (piece 17 8 25 b refl
    ∙ ap (λ (r : List ℕ). take 8 (drop 17 b) ++ r) (piece 25 4 29 b refl
    ∙ ap (λ (r : List ℕ). take 4 (drop 25 b) ++ r) h))))

same_fields : (n m : ℕ) (a b c d e f g h r : List ℕ) → n ≡ m → a ≡ b → c ≡ d → e ≡ f → g ≡ h → n ∷ (a ++ (c ++ (e ++ (g ++ r)))) ≡ m ∷ (b ++ (d ++ (f ++ (h ++ r))))
same_fields n m a b c d e f g h r p1 p2 p3 p4 p5 = cc

pub written : (e : Entry) (rest : List ℕ) → entry_text e ++ rest ≡ origin_code e.event.origin ∷ (to_be_bytes w64 e.conn ++ (to_be_bytes w64 e.index ++ (to_be_bytes w64 e.unit ++ (to_be_bytes w32 (length e.event.text) ++ (e.event.text ++ rest)))))
unfolding head_text entry_text
written e rest = refl

-- eight bytes are there from an offset on, and are those of their number
eight_there : (i : ℕ) (b : List ℕ) (n : ℕ) → i + 8 ≤ length b → IsBytes b → n ≡ from_be_bytes w64 (take 8 (drop i b)) → take 8 (drop i b) ≡ to_be_bytes w64 n
eight_there i b n there fits e =
    sym (ap (to_be_bytes w64) e ∙ eight_again (take 8 (drop i b)) (omega (arith, length-take 8 (drop i b), length-drop i b)) (IsBytes-take 8 (drop i b) (IsBytes-drop i b fits)))

eight_fits : (i : ℕ) (b : List ℕ) (n : ℕ) → IsBytes b → n ≡ from_be_bytes w64 (take 8 (drop i b)) → n < 2 ^ 64
eight_fits i b n fits e = omega (arith, e, eight_below (take 8 (drop i b)) (IsBytes-take 8 (drop i b) (IsBytes-drop i b fits)))

four_there : (i : ℕ) (b : List ℕ) (n : ℕ) → i + 4 ≤ length b → IsBytes b → n ≡ from_be_bytes w32 (take 4 (drop i b)) → take 4 (drop i b) ≡ to_be_bytes w32 n
four_there i b n there fits e =
    sym (ap (to_be_bytes w32) e ∙ four_again (take 4 (drop i b)) (omega (arith, length-take 4 (drop i b), length-drop i b)) (IsBytes-take 4 (drop i b) (IsBytes-drop i b fits)))

pub found : (b : List ℕ) (head : Head) (text : List ℕ) → IsBytes b → Tells b head → 29 + head.length ≤ length b → text ≡ take head.length (drop 29 b) → (head.origin ≡ LumberData → ArePairs text) → Begins (entry_of head text) b (drop head.length (drop 29 b))
found b head text fits tells room is pairs =
    let long : length text ≡ head.length = ap length is ∙ omega (arith, length-take head.length (drop 29 b), length-drop 29 b) in
    let rest = drop head.length (drop 29 b) in
    let behind : drop 29 b ≡ text ++ rest = sym (take-append-drop head.length (drop 29 b)) ∙ ap (λ (t : List ℕ). t ++ rest) (sym is) in
    record {
      limits = record {
        event = record { short = omega (arith, tells.short); pairs = pairs };
        conn = eight_fits 1 b head.conn fits tells.conn;
        index = eight_fits 9 b head.index fits tells.index;
        unit = eight_fits 17 b head.unit fits tells.unit;
      };
      whole = fields b text rest tells.there behind
          ∙ same_fields (get_or b 0 0) (origin_code head.origin) (take 8 (drop 1 b)) (to_be_bytes w64 head.conn) (take 8 (drop 9 b)) (to_be_bytes w64 head.index) (take 8 (drop 17 b)) (to_be_bytes w64 head.unit) (take 4 (drop 25 b)) (to_be_bytes w32 (length text)) (text ++ rest)
          tells.origin
          (eight_there 1 b head.conn (omega (arith, tells.there)) fits tells.conn)
          (eight_there 9 b head.index (omega (arith, tells.there)) fits tells.index)
          (eight_there 17 b head.unit (omega (arith, tells.there)) fits tells.unit)
          (four_there 25 b (length text) (omega (arith, tells.there)) fits (long ∙ tells.length))
          ∙ sym (written (entry_of head text) rest);
    }

-- the bytes that it takes are its text
pub taken : (e : Entry) (b rest : List ℕ) → Begins e b rest → take (size_of e) b ≡ entry_text e
taken e b rest h = ap (take (size_of e)) h.whole ∙ take_at (entry_text e) rest (size_of e) (length-entry_text e)

-- no other entry begins the bytes
pub only : (d e : Entry) (b x y : List ℕ) → Begins d b x → Begins e b y → d ≡ e
only d e b x y p q = (one_entry d e x y p.limits q.limits (sym p.whole ∙ q.whole)).0

-- what is after the entry
pub behind : (e : Entry) (b rest : List ℕ) → Begins e b rest → drop (size_of e) b ≡ rest
behind e b rest h = ap (drop (size_of e)) h.whole ∙ drop_at (entry_text e) rest (size_of e) (length-entry_text e)

is_lumber : (o : Origin) → ((o ≡ LumberData → ⊥) → ⊥) → o ≡ LumberData
is_lumber LumberData h = refl
is_lumber Relp h = absurd (h (λ e. cc))
is_lumber LumberJson h = absurd (h (λ e. cc))
is_lumber HecEvent h = absurd (h (λ e. cc))
is_lumber HecRaw h = absurd (h (λ e. cc))

-- an entry that was read begins the bytes
pub begins_taken : (e : Entry) (b : List ℕ) (used : ℕ) → IsEntry e → take used b ≡ entry_text e → Begins e b (drop used b)
begins_taken e b used limits h = record { limits = limits; whole = sym (take-append-drop used b) ∙ ap (λ (t : List ℕ). t ++ drop used b) h }

-- Where no entry begins bytes whose head is sound and whose text is there whole, the pairs are at fault.
pub pairs_at_fault : (b : List ℕ) (head : Head) → IsBytes b → Tells b head → 29 + head.length ≤ length b → BeginsNoEntry b → (head.origin ≡ LumberData) × (ArePairs (take head.length (drop 29 b)) → ⊥)
pairs_at_fault b head fits tells room none =
    let text = take head.length (drop 29 b) in
    let found_with = λ (pairs : head.origin ≡ LumberData → ArePairs text). none (entry_of head text) (drop head.length (drop 29 b)) (found b head text fits tells room refl pairs) in
    (is_lumber head.origin (λ other. found_with (λ lumber. absurd (other lumber))), λ pairs. found_with (λ _. pairs))
