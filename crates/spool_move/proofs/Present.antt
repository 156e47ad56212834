-- Which entries are present, as the target's entries are looked at one after another.
use Rattle.std.proofs.Common.{◌≡◌, ℕ, ◌<◌, ◌≤◌, Bool, true, false, List, [], ◌∷◌, ◌++◌, get_or, refl, sym, ◌∙◌, ap, arith, append_assoc}
use Rattle.std.specs.Prelude.{◌==◌, ◌&&◌, ◌||◌}
use Rattle.std.specs.List.{Contains, list_any}
use Rattle.std.specs.BTreeSet.{BTreeSet, contains}
use Rattle.std.specs.Ordering.{nat_cmp}
use Rattle.std.proofs.lemmas.Bool.{and_parts, eqb-true, eq-eqb, false_from_ne_true}
use Rattle.std.proofs.lemmas.List.Elements.{All-contains, All-nil, All-push, Contains-get_or}
use Rattle.spool_state.specs.SpoolState.{SpoolState, end, IsSound}
use Rattle.spool_log.specs.declared.memory.Memory.{Memory}
use Rattle.spool_state.specs.Left.{NumberedEntry, left}
use Rattle.spool_move.specs.declared.fault.MoveFault.{MoveFault}
use Rattle.spool_move.specs.declared.fault.MoveFault.TheVariants.{Strange, TooLarge, Spent, Full, Worn, NotSpool, SourceFault, TargetFault, NoMemory}
use Rattle.spool_move.specs.Moved.{connection_of, is_present}
use Rattle.spool_move.specs.Strange.{IsStrange, IsPlain, IsFirstStrange}
use Rattle.spool_move.specs.Reading.{IsOfLook, IsOwned, IsReading, IsSearched, IsUnread, FindsFault}
use Rattle.spool_move.specs.Said.{IsSaidBy}
use Rattle.spool_move.proofs.Rising.{left_above, left_rises, one_entry}

-- whether the entry is the one of this tag and number
abbrev pub is_here : ℕ → NumberedEntry → ℕ → Bool
is_here tag one number = one.entry.conn == connection_of tag && one.entry.index == number

or_false : (b : Bool) → (b || false) ≡ b
or_false true = refl
or_false false = refl

or_then : (a b c : Bool) → (a || (b || c)) ≡ ((a || b) || c)
or_then true b c = refl
or_then false b c = refl

pub any_append : (p : NumberedEntry → Bool) (xs ys : List NumberedEntry) → list_any p (xs ++ ys) ≡ (list_any p xs || list_any p ys)
any_append p [] ys = refl
any_append p (x ∷ xs) ys = ap (λ (b : Bool). p x || b) (any_append p xs ys) ∙ or_then (p x) (list_any p xs) (list_any p ys)

pub present_push : (tag : ℕ) (before : List NumberedEntry) (one : NumberedEntry) (n : ℕ) → is_present tag (before ++ one ∷ []) n ≡ (is_present tag before n || is_here tag one n)
present_push tag before one n =
    any_append (λ e. is_here tag e n) before (one ∷ []) ∙ ap (λ (b : Bool). is_present tag before n || b) (or_false (is_here tag one n))

or_same : (a b : Bool) → b ≡ false → (a || b) ≡ a
or_same a b off = ap (λ (x : Bool). a || x) off ∙ or_false a

-- one entry more was looked at
module _ (tag : ℕ) (m : SpoolState) (before : List NumberedEntry) (one : NumberedEntry) where
  pub searched_more : (old new : BTreeSet ℕ) → IsSearched tag m before old → IsPlain tag m one.entry
      → ((x : NumberedEntry) → Contains (left m) x → contains nat_cmp new x.number ≡ (contains nat_cmp old x.number || is_here tag one x.number)) → IsSearched tag m (before ++ one ∷ []) new
  searched_more old new was plain has = record {
    none_strange = All-push (λ (e : NumberedEntry). IsPlain tag m e.entry) before one was.none_strange plain;
    presence = λ k d lt.
        has _ (Contains-get_or (left m) k d lt)
        ∙ ap (λ (b : Bool). b || is_here tag one (get_or (left m) k d).number) (was.presence k d lt)
        ∙ sym (present_push tag before one (get_or (left m) k d).number);
  }

  -- it is of no entry that is left
  pub searched_other : (set : BTreeSet ℕ) → IsSearched tag m before set → IsPlain tag m one.entry → ((x : NumberedEntry) → Contains (left m) x → is_here tag one x.number ≡ false) → IsSearched tag m (before ++ one ∷ []) set
  searched_other set was plain off = searched_more set set was plain (λ x there. sym (or_same (contains nat_cmp set x.number) (is_here tag one x.number) (off x there)))

  -- it hasn't the tag
  pub other_tag : (set : BTreeSet ℕ) → IsSearched tag m before set → (one.entry.conn ≡ connection_of tag → ⊥) → IsSearched tag m (before ++ one ∷ []) set
  other_tag set was off =
      searched_other set was (λ conn. absurd (off conn))
      (λ x there. false_from_ne_true (is_here tag one x.number) (λ is. off (eqb-true _ _ (and_parts (one.entry.conn == connection_of tag) (one.entry.index == x.number) is).0)))

  off_index : (x : NumberedEntry) → (x.number ≡ one.entry.index → ⊥) → is_here tag one x.number ≡ false
  off_index x off = false_from_ne_true (is_here tag one x.number) (λ is. off (sym (eqb-true _ _ (and_parts (one.entry.conn == connection_of tag) (one.entry.index == x.number) is).1)))

  -- its index is below the cursor
  pub index_below : (set : BTreeSet ℕ) → IsSound m → IsSearched tag m before set → one.entry.index < m.cursor → IsSearched tag m (before ++ one ∷ []) set
  index_below set sound was lt =
      let off : (x : NumberedEntry) → Contains (left m) x → x.number ≡ one.entry.index → ⊥ =
      λ x there is. omega (arith, lt, is, All-contains (λ (e : NumberedEntry). m.cursor ≤ e.number) (left m) x (left_above m m.cursor (omega arith)) there) in
      searched_other set was
      (λ conn. (omega (arith, lt, sound.to_end), λ x there is. absurd (off x there is)))
      (λ x there. off_index x (off x there))

  -- no entry of its index is left
  pub index_gone : (set : BTreeSet ℕ) → IsSearched tag m before set → one.entry.index < end m → (IsOwned m one.entry → ⊥) → IsSearched tag m (before ++ one ∷ []) set
  index_gone set was lt gone =
      let off : (x : NumberedEntry) → Contains (left m) x → x.number ≡ one.entry.index → ⊥ = λ x there is. gone (record { one = x; here = there; number_is = is }) in
      searched_other set was
      (λ conn. (lt, λ x there is. absurd (off x there is)))
      (λ x there. off_index x (off x there))

  -- the entry of its index is left, with the same event, and the set got the number
  pub index_present : (old new : BTreeSet ℕ) → IsSearched tag m before old → one.entry.conn ≡ connection_of tag → one.entry.index < end m → (own : IsOwned m one.entry) → own.one.entry.event ≡ one.entry.event
      → ((n : ℕ) → contains nat_cmp new n ≡ (contains nat_cmp old n || one.entry.index == n)) → IsSearched tag m (before ++ one ∷ []) new
  index_present old new was conn lt own same has =
      searched_more old new was
      (λ yes. (lt, λ x there is. ap (λ (e : NumberedEntry). e.entry.event) (one_entry 0 (left m) x own.one (left_rises m) there own.here (is ∙ sym own.number_is)) ∙ same))
      (λ x there. has x.number ∙ ap (λ (b : Bool). contains nat_cmp old x.number || (b && one.entry.index == x.number)) (sym (eq-eqb one.entry.conn (connection_of tag) conn)))

  -- it is the first strange one
  pub strange_here : (set : BTreeSet ℕ) → IsSearched tag m before set → IsStrange tag m one.entry → IsFirstStrange tag m (before ++ one ∷ []) one.entry.index
  strange_here set was strange = record { before = before; one = one; behind = []; whole = refl; none_before = was.none_strange; strange = strange; number_is = refl }

-- ---- entries after entries

pub strange_then : (tag : ℕ) (m : SpoolState) (xs ys : List NumberedEntry) (n : ℕ) → IsFirstStrange tag m xs n → IsFirstStrange tag m (xs ++ ys) n
strange_then tag m xs ys n first = record {
  before = first.before;
  one = first.one;
  behind = first.behind ++ ys;
  whole = ap (λ (l : List NumberedEntry). l ++ ys) first.whole ∙ append_assoc first.before (first.one ∷ first.behind) ys;
  none_before = first.none_before;
  strange = first.strange;
  number_is = first.number_is;
}

pub finds_then : (tag : ℕ) (m : SpoolState) (xs ys : List NumberedEntry) (fault : MoveFault) → FindsFault tag m xs fault → FindsFault tag m (xs ++ ys) fault
finds_then tag m xs ys (Strange n) finds = strange_then tag m xs ys n finds
finds_then tag m xs ys (TooLarge need most) finds = finds
finds_then tag m xs ys (Spent at) finds = finds
finds_then tag m xs ys (Full need free) finds = finds
finds_then tag m xs ys (Worn ordinal) finds = finds
finds_then tag m xs ys (NotSpool at) finds = finds
finds_then tag m xs ys SourceFault finds = finds
finds_then tag m xs ys TargetFault finds = finds
finds_then tag m xs ys NoMemory finds = finds

-- a fault of a reading
pub finds_reading : (tag : ℕ) (m : SpoolState) (there : List NumberedEntry) (fault : MoveFault) → IsReading fault → FindsFault tag m there fault
finds_reading tag m there (Strange n) is = absurd is
finds_reading tag m there (TooLarge need most) is = absurd is
finds_reading tag m there (Spent at) is = absurd is
finds_reading tag m there (Full need free) is = absurd is
finds_reading tag m there (Worn ordinal) is = absurd is
finds_reading tag m there (NotSpool at) is = absurd is
finds_reading tag m there SourceFault is = tt
finds_reading tag m there TargetFault is = tt
finds_reading tag m there NoMemory is = tt

-- before the first
pub searched_none : (tag : ℕ) (m : SpoolState) (set : BTreeSet ℕ) → ((n : ℕ) → contains nat_cmp set n ≡ false) → IsSearched tag m [] set
searched_none tag m set none = record { none_strange = All-nil (λ (e : NumberedEntry). IsPlain tag m e.entry); presence = λ k d lt. none _ }

-- ---- which faults there are

pub look_unread : (fault : MoveFault) → IsUnread fault → IsOfLook fault
look_unread (Strange n) is = absurd is
look_unread (TooLarge need most) is = absurd is
look_unread (Spent at) is = absurd is
look_unread (Full need free) is = absurd is
look_unread (Worn ordinal) is = absurd is
look_unread (NotSpool at) is = tt
look_unread SourceFault is = tt
look_unread TargetFault is = tt
look_unread NoMemory is = tt

pub look_said : (fault : MoveFault) (source target : Memory) → IsOfLook fault → IsSaidBy source target fault
look_said (Strange n) source target is = tt
look_said (TooLarge need most) source target is = absurd is
look_said (Spent at) source target is = absurd is
look_said (Full need free) source target is = absurd is
look_said (Worn ordinal) source target is = absurd is
look_said (NotSpool at) source target is = tt
look_said SourceFault source target is = tt
look_said TargetFault source target is = tt
look_said NoMemory source target is = tt
