-- Which entries of a source are among the first ones, by their numbers.
use Rattle.std.proofs.Common.{◌≡◌, inl, inr, ℕ, ◌+◌, ◌<◌, ◌≤◌, Bool, true, false, cond, List, [], ◌∷◌, ◌++◌, map, take, drop, get_or, refl, sym, ◌∙◌, ap, subst, arith, take-append-drop}
use Rattle.std.specs.Prelude.{All, not, ◌==◌, ◌&&◌, ◌||◌}
use Rattle.std.specs.List.{Contains, filter, list_any}
use Rattle.std.proofs.Math.Seq.{take-add}
use Rattle.std.proofs.lemmas.Bool.{cond-true, eq-eqb, eqb-true, false_from_ne_true}
use Rattle.std.proofs.lemmas.List.{drop-drop, map-append, take-take}
use Rattle.std.proofs.lemmas.List.Elements.{All-contains, All-head, All-tail, Contains-append_left, Contains-append_right, Contains-get_or, filter-append}
use Rattle.event_form.specs.declared.event.Entry.{Entry}
use Rattle.spool_state.specs.Left.{NumberedEntry, numbered}
use Rattle.spool_state.proofs.Unknown.{filter_all, filter_none}
use Rattle.spool_move.specs.Moved.{connection_of, moved, all_moved, is_present, missing}
use Rattle.spool_move.specs.Runs.{tagged}
use Rattle.spool_move.specs.Walking.{after_last}
use Rattle.spool_move.proofs.Looking.{cons_cases}
use Rattle.spool_move.proofs.Rising.{Rises, rises_parts, all_below, all_from}

-- ---- the entries of a tag

pub tagged_append : (tag : ℕ) (xs ys : List NumberedEntry) → tagged tag (xs ++ ys) ≡ tagged tag xs ++ tagged tag ys
tagged_append tag xs ys =
    ap (filter (λ (e : Entry). e.conn == connection_of tag)) (map-append (λ one. one.entry) xs ys)
    ∙ filter-append (λ (e : Entry). e.conn == connection_of tag) (map (λ one. one.entry) xs) (map (λ one. one.entry) ys)

pub tagged_moved : (tag first : ℕ) (xs : List NumberedEntry) → tagged tag (numbered first (all_moved tag xs)) ≡ all_moved tag xs
tagged_moved tag first [] = refl
tagged_moved tag first (x ∷ xs) =
    let rest = tagged tag (numbered (first + 1) (all_moved tag xs)) in
    cond-true (connection_of tag == connection_of tag) (moved tag x ∷ rest) rest (eq-eqb (connection_of tag) (connection_of tag) refl)
    ∙ ap (λ (l : List Entry). moved tag x ∷ l) (tagged_moved tag (first + 1) xs)

-- an entry with the index is among the tag's
present_one : (b c : Bool) (e : Entry) (es : List Entry) (p : Entry → Bool) → p e ≡ c → ((b && c) || list_any p es) ≡ list_any p (cond b (e ∷ es) es)
present_one true c e es p is = ap (λ (x : Bool). x || list_any p es) (sym is)
present_one false c e es p is = refl

present_tagged : (tag : ℕ) (there : List NumberedEntry) (n : ℕ) → is_present tag there n ≡ list_any (λ e. e.index == n) (tagged tag there)
present_tagged tag [] n = refl
present_tagged tag (x ∷ xs) n =
    ap (λ (b : Bool). ((x.entry.conn == connection_of tag) && (x.entry.index == n)) || b) (present_tagged tag xs n)
    ∙ present_one (x.entry.conn == connection_of tag) (x.entry.index == n) x.entry (tagged tag xs) (λ e. e.index == n) refl

-- whether one of the entries has the number
abbrev pub has_number : List NumberedEntry → ℕ → Bool
has_number xs n = list_any (λ one. one.number == n) xs

moved_number : (tag : ℕ) (xs : List NumberedEntry) (n : ℕ) → list_any (λ e. e.index == n) (all_moved tag xs) ≡ has_number xs n
moved_number tag [] n = refl
moved_number tag (x ∷ xs) n = ap (λ (b : Bool). (x.number == n) || b) (moved_number tag xs n)

pub present_number : (tag : ℕ) (there xs : List NumberedEntry) (n : ℕ) → tagged tag there ≡ all_moved tag xs → is_present tag there n ≡ has_number xs n
present_number tag there xs n is = present_tagged tag there n ∙ ap (list_any (λ (e : Entry). e.index == n)) is ∙ moved_number tag xs n

-- ---- numbers of the first ones

any_here : (p : NumberedEntry → Bool) (xs : List NumberedEntry) (x : NumberedEntry) → Contains xs x → p x ≡ true → list_any p xs ≡ true
any_here p [] x there is = absurd (omega (arith, there.1))
any_here p (y ∷ xs) x there is = elim (cons_cases y xs x there) [
  | inl same ↦ ap (λ (b : Bool). b || list_any p xs) (ap p same ∙ is)
  | inr behind ↦ ap (λ (b : Bool). p y || b) (any_here p xs x behind is) ∙ or_true (p y)
]
  where
    or_true : (b : Bool) → (b || true) ≡ true
    or_true true = refl
    or_true false = refl

any_none : (p : NumberedEntry → Bool) (xs : List NumberedEntry) → All (λ x. p x ≡ false) xs → list_any p xs ≡ false
any_none p [] all = refl
any_none p (x ∷ xs) all =
    ap (λ (b : Bool). b || list_any p xs) (All-head (λ (y : NumberedEntry). p y ≡ false) x xs all) ∙ any_none p xs (All-tail (λ (y : NumberedEntry). p y ≡ false) x xs all)

pub number_in : (xs : List NumberedEntry) (x : NumberedEntry) → Contains xs x → has_number xs x.number ≡ true
number_in xs x there = any_here (λ one. one.number == x.number) xs x there (eq-eqb x.number x.number refl)

-- of rising entries, those behind the first ones have other numbers
apart : (first : List NumberedEntry) (walked : ℕ) (x y : NumberedEntry) → Rises 0 first → Contains (drop walked first) x → Contains (take walked first) y → y.number ≡ x.number → ⊥
apart first walked x y rises there here same =
    let last = after_last 0 (take walked first) in
    let parts = rises_parts 0 (take walked first) (drop walked first) (subst (Rises 0) (sym (take-append-drop walked first)) rises) in
    let below = All-contains (λ (e : NumberedEntry). e.number < last) (take walked first) y (all_below 0 (take walked first) parts.0) here in
    let above = All-contains (λ (e : NumberedEntry). last ≤ e.number) (drop walked first) x (all_from last (drop walked first) parts.1) there in
    omega (arith, same, below, above)

pub number_behind : (first : List NumberedEntry) (walked : ℕ) (x : NumberedEntry) → Rises 0 first → Contains (drop walked first) x → has_number (take walked first) x.number ≡ false
number_behind first walked x rises there =
    any_none (λ one. one.number == x.number) (take walked first)
    (λ k d lt. false_from_ne_true ((get_or (take walked first) k d).number == x.number) (λ is.
    apart first walked x (get_or (take walked first) k d) rises there (Contains-get_or (take walked first) k d lt) (eqb-true (get_or (take walked first) k d).number x.number is)))

-- ---- what a run finds missing

-- The source has what is left behind the first `given`, and the target the first `walked`, of which those are the first. Of the next `w` that are left those are
-- missing that come behind the first `walked`.
module _ (tag : ℕ) (first there : List NumberedEntry) (given j : ℕ) (rises : Rises 0 first) (is : tagged tag there ≡ all_moved tag (take (given + j) first)) where
  had : (k : ℕ) → k ≤ j → missing tag there (take k (drop given first)) ≡ []
  had k le =
      filter_none (λ e. not (is_present tag there e.number)) (take k (drop given first))
      (λ i d lt. ap not (present_number tag there (take (given + j) first) (get_or (take k (drop given first)) i d).number is
      ∙ number_in (take (given + j) first) (get_or (take k (drop given first)) i d) (front (get_or (take k (drop given first)) i d) (Contains-get_or (take k (drop given first)) i d lt))))
    where
      front : (x : NumberedEntry) → Contains (take k (drop given first)) x → Contains (take (given + j) first) x
      front x here =
          subst (λ (l : List NumberedEntry). Contains l x) (sym (take-add given j first))
          (Contains-append_right (take given first) (take j (drop given first)) x
          (subst (λ (l : List NumberedEntry). Contains l x) (take-append-drop k (take j (drop given first)))
          (Contains-append_left (take k (take j (drop given first))) (drop k (take j (drop given first))) x
          (subst (λ (l : List NumberedEntry). Contains l x) (sym (take-take k j (drop given first) le)) here))))

  lacked : (r : ℕ) → missing tag there (take r (drop (given + j) first)) ≡ take r (drop (given + j) first)
  lacked r =
      filter_all (λ e. not (is_present tag there e.number)) (take r (drop (given + j) first))
      (λ i d lt. ap not (present_number tag there (take (given + j) first) (get_or (take r (drop (given + j) first)) i d).number is
      ∙ number_behind first (given + j) (get_or (take r (drop (given + j) first)) i d) rises (behind (get_or (take r (drop (given + j) first)) i d) (Contains-get_or (take r (drop (given + j) first)) i d lt))))
    where
      behind : (x : NumberedEntry) → Contains (take r (drop (given + j) first)) x → Contains (drop (given + j) first) x
      behind x here =
          subst (λ (l : List NumberedEntry). Contains l x) (take-append-drop r (drop (given + j) first)) (Contains-append_left (take r (drop (given + j) first)) (drop r (drop (given + j) first)) x here)

  -- after `j` and r more
  pub missing_past : (r : ℕ) → missing tag there (take (j + r) (drop given first)) ≡ take r (drop (given + j) first)
  missing_past r =
      ap (missing tag there) (take-add j r (drop given first))
      ∙ filter-append (λ e. not (is_present tag there e.number)) (take j (drop given first)) (take r (drop j (drop given first)))
      ∙ ap (λ (l : List NumberedEntry). l ++ missing tag there (take r (drop j (drop given first)))) (had j (omega arith))
      ∙ ap (λ (l : List NumberedEntry). missing tag there (take r l)) (drop-drop j given first)
      ∙ lacked r

  pub missing_none : (w : ℕ) → w ≤ j → missing tag there (take w (drop given first)) ≡ []
  missing_none w le = had w le
