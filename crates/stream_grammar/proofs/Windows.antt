-- What a window has read goes on by a piece, and by a frame that is given.
use Rattle.std.proofs.Common.{◌≡◌, ℕ, ◌+◌, ◌-◌, ◌≤◌, min, length, take, drop, arith, length-append, length-drop, List, [], ◌∷◌, ◌++◌, Option, None, sym, ap, ◌∙◌, subst, append_assoc}
use Rattle.std.specs.Prelude.{slice_range}
use Rattle.std.proofs.lemmas.List.{take_all, take_at, drop_at, drop-drop, take-append-drop}
use Rattle.stream_grammar.specs.Filling.{window_of}
use Rattle.stream_grammar.specs.Framing.{AreSpelled}
use Rattle.stream_grammar.proofs.Streams.{SpellsFirst, spelled_join}
use Rattle.stream_grammar.specs.Reading.{Format, Window, Keeps, ReadsTo, ReadsOn, Gives, taken_of}

-- the bytes from a place on are those up to another one and those from there on
pub two_parts : (bytes : List ℕ) (from whole : ℕ) → from ≤ whole → drop from bytes ≡ slice_range bytes from whole ++ drop whole bytes
two_parts bytes from whole o =
    let n = whole - from in
    let e : from + n ≡ whole = omega arith in
    sym (take-append-drop n (drop from bytes)) ∙ ap (λ v. take n (drop from bytes) ++ v) (drop-drop n from bytes ∙ ap (λ k. drop k bytes) e)

pub parts_held : (bytes : List ℕ) (from whole : ℕ) → from ≤ whole → whole ≤ length bytes → length (slice_range bytes from whole) + length (drop whole bytes) ≡ length bytes - from
parts_held bytes from whole o i = omega (arith, ap length (two_parts bytes from whole o), length-append (slice_range bytes from whole) (drop whole bytes), length-drop from bytes)

pub part_whole : (bytes : List ℕ) (from whole : ℕ) → from ≤ whole → whole ≤ length bytes → length (slice_range bytes from whole) ≡ whole - from
part_whole bytes from whole o i = omega (arith, parts_held bytes from whole o i, length-drop whole bytes)

-- two lists joined are told apart by the place between them
pub split_front : (n a b : List ℕ) (w : ℕ) → n ≡ a ++ b → length a ≡ w → slice_range n 0 w ≡ a
split_front n a b w is long = let e : w - 0 ≡ w = omega arith in ap (λ k. take k n) e ∙ ap (take w) is ∙ take_at a b w long

pub split_back : (n a b : List ℕ) (w : ℕ) → n ≡ a ++ b → length a ≡ w → drop w n ≡ b
split_back n a b w is long = ap (drop w) is ∙ drop_at a b w long

-- the bytes from a place to the end are those from there on
pub take_held : (bytes d : List ℕ) (whole : ℕ) → d ≡ bytes → take (length d - whole) (drop whole d) ≡ drop whole bytes
take_held bytes d whole same = take_all (length d - whole) (drop whole d) (omega (arith, length-drop whole d)) ∙ ap (drop whole) same

-- The bytes that wait are the first frame's and those of the others.
pub record First (bytes : List ℕ) (from whole n : ℕ) (text more : List ℕ) : Type 0 where
  pub front : take (from + n - from) (drop from bytes) ≡ text
  pub others : slice_range bytes (from + n) whole ≡ more
  pub order : from + n ≤ whole

pub first : (bytes : List ℕ) (from whole n : ℕ) (text more : List ℕ) → slice_range bytes from whole ≡ text ++ more → length text ≡ n → from ≤ whole → whole ≤ length bytes → First bytes from whole n text more
first bytes from whole n text more is long o i =
    let r = drop whole bytes in
    let e : drop from bytes ≡ text ++ (more ++ r) = two_parts bytes from whole o ∙ ap (λ v. v ++ r) is ∙ append_assoc text more r in
    let l : n + length more ≡ whole - from = omega (arith, part_whole bytes from whole o i, ap length is, length-append text more, long) in
    let d : drop (from + n) bytes ≡ more ++ r = sym (drop-drop n from bytes) ∙ ap (drop n) e ∙ drop_at text (more ++ r) n long in
    let a : from + n - from ≡ n = omega arith in
    record {
      front = ap (λ k. take k (drop from bytes)) a ∙ ap (take n) e ∙ take_at text (more ++ r) n long;
      others = ap (take (whole - (from + n))) d ∙ take_at more r (whole - (from + n)) (omega (arith, l));
      order = omega (arith, l);
    }

-- how much of a piece it takes
pub takes : {E : Type 0} (room : ℕ) (bytes : List ℕ) (from whole at : ℕ) (fault : Option E) (piece : List ℕ) → from ≤ whole → whole ≤ length bytes → min (length piece) (room - (length bytes - from)) ≡ taken_of room (window_of bytes from whole at fault) piece
takes room bytes from whole at fault piece o i = ap (λ n. min (length piece) (room - n)) (sym (parts_held bytes from whole o i))

-- A piece adds these frames to those that wait, and leaves a rest or a fault.
pub reads_on : {F E : Type 0} (p : Format F E) (Spells : F → List ℕ → Type 0) (old new : Window E) (piece spelt : List ℕ) (frames : List F) → old.fault ≡ None → AreSpelled Spells frames spelt
    → new.whole ≡ old.whole ++ spelt → ((fed : List ℕ) (before : List F) → p.IsWhole fed before old.at old.rest → ReadsTo p Keeps (fed ++ piece) (before ++ frames) new.at new.rest new.fault)
    → ReadsOn p Spells old piece new
reads_on p Spells old new piece spelt frames none spelled whole on fed given r =
    let a = subst (ReadsTo p Keeps fed (given ++ r.0) old.at old.rest) none r.2 in
    let b = on fed (given ++ r.0) a in
    let k = spelled_join Spells r.0 frames old.whole spelt r.1 spelled in
    (r.0 ++ frames, subst (AreSpelled Spells (r.0 ++ frames)) (sym whole) k, subst (λ fs. ReadsTo p Keeps (fed ++ piece) fs new.at new.rest new.fault) (append_assoc given r.0 frames) b)

-- The first of the frames that wait is given.
pub gives_first : {F E : Type 0} (p : Format F E) (Spells : F → List ℕ → Type 0) → SpellsFirst Spells → (old new : Window E) (f : F) (text : List ℕ) → Spells f text → old.whole ≡ text ++ new.whole → new ≡ record old { whole = new.whole } → Gives p Spells old f new
gives_first {F} {E} p Spells first old new f text k whole same = record {
  text = text;
  spelled = k;
  first = whole;
  same = same;
  reads = λ fed given r.
      let t = first f r.0 text new.whole k (subst (AreSpelled Spells r.0) whole r.1) in
      let q : given ++ r.0 ≡ (given ++ f ∷ []) ++ t.0 = ap (λ v. given ++ v) t.1 ∙ sym (append_assoc given (f ∷ []) t.0) in
      let a = subst (λ v. ReadsTo p Keeps fed v old.at old.rest old.fault) q r.2 in
      let b = subst (λ (w : Window E). ReadsTo p Keeps fed ((given ++ f ∷ []) ++ t.0) w.at w.rest w.fault) (sym same) a in
      (t.0, t.2, b);
}
