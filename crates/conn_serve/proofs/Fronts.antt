-- Frames at the front of the bytes read, for any relation that says how a frame may be spelled.
use Rattle.std.proofs.Common.{◌≡◌, ℕ, ◌<◌, ◌≤◌, ◌∙◌, List, [], ◌∷◌, ◌++◌, length, refl, sym, ap, arith, append_assoc, length-append}
use Rattle.std.proofs.lemmas.List.{append-nil}
use Rattle.stream_grammar.specs.Framing.{AreSpelled}
use Rattle.conn_serve.specs.Front.{IsFront}

-- The bytes are the spellings of these frames, those of the next ones, and what stands after them.
pub record Parts {F : Type 0} (Spells : F → List ℕ → Type 0) (b : List ℕ) (frames next : List F) : Type 0 where
  pub front : List ℕ
  pub middle : List ℕ
  pub behind : List ℕ
  pub spelled : AreSpelled Spells frames front
  pub waits : AreSpelled Spells next middle
  pub whole : b ≡ front ++ (middle ++ behind)

module _ {F : Type 0} (Spells : F → List ℕ → Type 0) where
  -- the spelling of two lists of frames is that of each
  pub spelled_parts : (fs gs : List F) (b : List ℕ) → AreSpelled Spells (fs ++ gs) b → (x : List ℕ) × (y : List ℕ) × AreSpelled Spells fs x × AreSpelled Spells gs y × (b ≡ x ++ y)
  spelled_parts [] gs b s = ([], b, refl, s, refl)
  spelled_parts (f ∷ fs) gs b s =
      let r = spelled_parts fs gs s.1 s.4 in
      (s.0 ++ r.0, r.1, (s.0, r.0, s.2, refl, r.2), r.3, s.3 ∙ ap (λ (l : List ℕ). s.0 ++ l) r.4 ∙ sym (append_assoc s.0 r.0 r.1))

  -- a frame more
  pub spelled_push : (fs : List F) (f : F) (b x : List ℕ) → AreSpelled Spells fs b → Spells f x → AreSpelled Spells (fs ++ f ∷ []) (b ++ x)
  spelled_push [] f b x s spells = (x, [], spells, ap (λ (l : List ℕ). l ++ x) s ∙ sym (append-nil x), refl)
  spelled_push (g ∷ fs) f b x s spells = (s.0, s.1 ++ x, s.2, ap (λ (l : List ℕ). l ++ x) s.3 ∙ append_assoc s.0 s.1 x, spelled_push fs f s.1 x s.4 spells)

  pub parts_of : (b : List ℕ) (frames next : List F) (front behind : List ℕ) → AreSpelled Spells (frames ++ next) front → b ≡ front ++ behind → Parts Spells b frames next
  parts_of b frames next front behind s whole =
      let r = spelled_parts frames next front s in
      record { front = r.0; middle = r.1; behind = behind; spelled = r.2; waits = r.3; whole = whole ∙ ap (λ (l : List ℕ). l ++ behind) r.4 ∙ append_assoc r.0 r.1 behind }

  -- the first frames stand at the front
  pub front_of : (b : List ℕ) (frames next : List F) (p : Parts Spells b frames next) → IsFront Spells b frames (length p.front)
  front_of b frames next p = record { front = p.front; rest = p.middle ++ p.behind; spelled = p.spelled; ends = refl; whole = p.whole }

  pub front_first : (b : List ℕ) (frames next : List F) (at : ℕ) → IsFront Spells b (frames ++ next) at → (end : ℕ) × IsFront Spells b frames end
  front_first b frames next at i = let p = parts_of b frames next i.front i.rest i.spelled i.whole in (length p.front, front_of b frames next p)

  -- and then the first of the next ones
  pub front_next : (b : List ℕ) (frames : List F) (f : F) (more : List F) → Parts Spells b frames (f ∷ more) → (end : ℕ) × IsFront Spells b (frames ++ f ∷ []) end
  front_next b frames f more p =
      let first = p.waits in
      let x = first.0 in
      let y = first.1 in (
        length (p.front ++ x),
        record {
          front = p.front ++ x;
          rest = y ++ p.behind;
          spelled = spelled_push frames f p.front x p.spelled first.2;
          ends = refl;
          whole = p.whole ∙ ap (λ (l : List ℕ). p.front ++ (l ++ p.behind)) first.3 ∙ ap (λ (l : List ℕ). p.front ++ l) (append_assoc x y p.behind) ∙ sym (append_assoc p.front x (y ++ p.behind));
        },
      )

  -- whatever is read after them
  pub front_fed : (b : List ℕ) (frames : List F) (at : ℕ) (piece : List ℕ) → IsFront Spells b frames at → IsFront Spells (b ++ piece) frames at
  front_fed b frames at piece i = record { front = i.front; rest = i.rest ++ piece; spelled = i.spelled; ends = i.ends; whole = ap (λ (l : List ℕ). l ++ piece) i.whole ∙ append_assoc i.front i.rest piece }

  -- there are no more frames than bytes
  module _ (some : (f : F) (x : List ℕ) → Spells f x → 0 < length x) where
    pub spelled_few : (fs : List F) (b : List ℕ) → AreSpelled Spells fs b → length fs ≤ length b
    spelled_few [] b s = omega arith
    spelled_few (f ∷ fs) b s = omega (arith, spelled_few fs s.1 s.4, some f s.0 s.2, ap length s.3, length-append s.0 s.1)

    pub front_few : (b : List ℕ) (frames : List F) (at : ℕ) → IsFront Spells b frames at → length frames ≤ length b
    front_few b frames at i = omega (arith, spelled_few frames i.front i.spelled, ap length i.whole, length-append i.front i.rest)
