-- A list that is cut at two elements.
use Rattle.std.proofs.Common.{◌≡◌, List, [], ◌∷◌, ◌++◌, length, refl, ap, arith, length-append}
use Rattle.std.specs.List.{All}
use Rattle.std.proofs.lemmas.List.Elements.{All-head, All-tail}

-- at one place, or one before the other
pub data TwoCuts {A : Type 0} (x : List A) (f : A) (m y : List A) (g : A) (n : List A) : Type 0 where
  Same : x ≡ y → f ≡ g → m ≡ n → TwoCuts x f m y g n
  Later : (z : List A) → x ≡ y ++ g ∷ z → n ≡ z ++ f ∷ m → TwoCuts x f m y g n
  Earlier : (z : List A) → y ≡ x ++ f ∷ z → m ≡ z ++ g ∷ n → TwoCuts x f m y g n

cons_head : {A : Type 0} (a b : A) (x y : List A) → a ∷ x ≡ b ∷ y → a ≡ b
cons_head a b x y e = cc

cons_tail : {A : Type 0} (a b : A) (x y : List A) → a ∷ x ≡ b ∷ y → x ≡ y
cons_tail a b x y e = cc

cons_both : {A : Type 0} (a b : A) (x y : List A) → a ≡ b → x ≡ y → a ∷ x ≡ b ∷ y
cons_both a b x y p q = cc

pub two_cuts : {A : Type 0} (x : List A) (f : A) (m y : List A) (g : A) (n : List A) → x ++ f ∷ m ≡ y ++ g ∷ n → TwoCuts x f m y g n
two_cuts [] f m [] g n e = Same refl (cons_head f g m n e) (cons_tail f g m n e)
two_cuts [] f m (b ∷ y) g n e =
    let h : f ≡ b = cons_head f b m (y ++ g ∷ n) e in
    Earlier y (cons_both b f y y (cc) refl) (cons_tail f b m (y ++ g ∷ n) e)
two_cuts (a ∷ x) f m [] g n e =
    let h : a ≡ g = cons_head a g (x ++ f ∷ m) n e in
    let t : x ++ f ∷ m ≡ n = cons_tail a g (x ++ f ∷ m) n e in
    Later x (cons_both a g x x h refl) (cc)
two_cuts (a ∷ x) f m (b ∷ y) g n e =
    let h : a ≡ b = cons_head a b (x ++ f ∷ m) (y ++ g ∷ n) e in
    let t : x ++ f ∷ m ≡ y ++ g ∷ n = cons_tail a b (x ++ f ∷ m) (y ++ g ∷ n) e in
    elim (two_cuts x f m y g n t) [
      | Same p q r ↦ Same (cons_both a b x y h p) q r
      | Later z p q ↦ Later z (cons_both a b x (y ++ g ∷ z) h p) q
      | Earlier z p q ↦ let k : b ≡ a = cc in Earlier z (cons_both b a y (x ++ f ∷ z) k p) q
    ]

-- what holds of all elements holds of the one at a cut
pub all_at : {A : Type 0} (P : A → Type 0) (z : List A) (f : A) (y : List A) → All P (z ++ f ∷ y) → P f
all_at P [] f y h = All-head P f y h
all_at P (a ∷ z) f y h = all_at P z f y (All-tail P a (z ++ f ∷ y) h)

-- a list with an element isn't empty
pub not_empty : {A : Type 0} {G : Type 0} (z : List A) (f : A) (y : List A) → [] ≡ z ++ f ∷ y → G
not_empty z f y e = absurd (omega (arith, ap length e, length-append z (f ∷ y)))
