-- A slot's bytes are read as groups in one way only.
use Rattle.std.proofs.Common.{◌≡◌, ◌≢◌, ℕ, ◌+◌, ◌^◌, ◌<◌, ◌≤◌, List, [], ◌∷◌, ◌++◌, length, take, drop, get_or, refl, sym, ◌∙◌, ap, arith, append_assoc, length-append}
use Rattle.std.specs.List.{All, AllByRecursion}
use Rattle.std.specs.Int.{to_be_bytes, w32, w64}
use Rattle.std.proofs.lemmas.List.{append-nil, take_at, drop_at}
use Rattle.std.proofs.lemmas.List.Elements.{All-drop, All-same, recursion_from_All}
use Rattle.foundation.specs.Bytes.{part}
use Rattle.foundation.proofs.Bytes.{length-part}
use Rattle.event_form.specs.declared.event.Entry.{Entry}
use Rattle.event_form.specs.Entry.{entry_text}
use Rattle.event_form.proofs.Fields.{length-entry_text}
use Rattle.event_form.proofs.Numbers.{same_four, same_eight}
use Rattle.event_form.proofs.Unique.{one_run}
use Rattle.spool_state.specs.Segment.{IsGroup, Segment, entries_text, group_text, groups_text, head_text, segment_text}
use Rattle.spool_state.specs.Image.{HoldsSegment}
use Rattle.spool_state.specs.Broken.{BeginsGroup, BreaksAt}
use Rattle.spool_state.proofs.Texts.{length-head_text, length-group_text}

-- each entry has bytes
pub count_below : (entries : List Entry) → length entries ≤ length (entries_text entries)
count_below [] = omega arith
count_below (e ∷ entries) = omega (arith, count_below entries, length-append (entry_text e) (entries_text entries), length-entry_text e)

pub count_at : (group : List Entry) (x : List ℕ) → take 4 (drop 4 (group_text group ++ x)) ≡ to_be_bytes w32 (length group)
unfolding group_text
count_at group x = refl

pub length_at : (group : List Entry) (x : List ℕ) → take 4 (group_text group ++ x) ≡ to_be_bytes w32 (length (entries_text group))
unfolding group_text
length_at group x = refl

pub entries_at : (group : List Entry) (x : List ℕ) → drop 8 (group_text group ++ x) ≡ entries_text group ++ x
unfolding group_text
entries_at group x = refl

small : (group : List Entry) (x : List ℕ) → length (group_text group ++ x) < 2 ^ 32 → length group < 2 ^ 32
small group x lt = omega (arith, length-append (group_text group) x, length-group_text group, count_below group)

pub one_group : (g h : List Entry) (x y : List ℕ) → IsGroup g → IsGroup h → length (group_text g ++ x) < 2 ^ 32 → group_text g ++ x ≡ group_text h ++ y → (g ≡ h) × (x ≡ y)
one_group g h x y hg hh lt is =
    let count = same_four (length g) (length h) (small g x lt) (small h y (omega (arith, lt, ap length is))) (sym (count_at g x) ∙ ap (λ (l : List ℕ). take 4 (drop 4 l)) is ∙ count_at h y) in
    one_run g h x y hg.entries hh.entries count (sym (entries_at g x) ∙ ap (drop 8) is ∙ entries_at h y)

joined : (g : List Entry) (groups : List (List Entry)) (x : List ℕ) → groups_text (g ∷ groups) ++ x ≡ 1 ∷ (group_text g ++ (groups_text groups ++ x))
joined g groups x = append_assoc (1 ∷ group_text g) (groups_text groups) x

-- groups that are found from the front are the first of all
found : (bs gs : List (List Entry)) (x y : List ℕ) → AllByRecursion IsGroup bs → AllByRecursion IsGroup gs → length (groups_text bs ++ x) < 2 ^ 32 → get_or y 0 0 ≢ 1
    → groups_text bs ++ x ≡ groups_text gs ++ y → (more : List (List Entry)) × (gs ≡ bs ++ more) × (x ≡ groups_text more ++ y)
found [] gs x y hb hg lt closed is = (gs, refl, is)
found (b ∷ bs) [] x y hb hg lt closed is = absurd (closed (sym (ap (λ (l : List ℕ). get_or l 0 0) is)))
found (b ∷ bs) (g ∷ gs) x y hb hg lt closed is =
    let both : group_text b ++ (groups_text bs ++ x) ≡ group_text g ++ (groups_text gs ++ y) = ap (drop 1) (sym (joined b bs x) ∙ is ∙ joined g gs y) in
    let long : length (group_text b ++ (groups_text bs ++ x)) < 2 ^ 32 = omega (arith, lt, ap length (joined b bs x)) in
    let first = one_group b g (groups_text bs ++ x) (groups_text gs ++ y) hb.0 hg.0 long both in
    let others = found bs gs x y hb.1 hg.1 (omega (arith, long, length-append (group_text b) (groups_text bs ++ x))) closed first.1 in
    (others.0, ap (λ (l : List (List Entry)). g ∷ l) others.1 ∙ ap (λ (h : List Entry). h ∷ (bs ++ others.0)) (sym first.0), others.2)

pub ordinal_at : (ordinal first : ℕ) → take 8 (drop 1 (head_text ordinal first)) ≡ to_be_bytes w64 ordinal
unfolding head_text
ordinal_at ordinal first = refl

pub first_at : (ordinal first : ℕ) → drop 9 (head_text ordinal first) ≡ to_be_bytes w64 first
unfolding head_text
first_at ordinal first = refl

abbrev segment_of : ℕ → ℕ → List (List Entry) → Segment
segment_of ordinal first groups = record { ordinal = ordinal; first = first; groups = groups }

behind_head : (segment : Segment) (rest : List ℕ) → drop 17 (segment_text segment ++ rest) ≡ groups_text segment.groups ++ rest
behind_head segment rest = ap (drop 17) (append_assoc (head_text segment.ordinal segment.first) (groups_text segment.groups) rest) ∙ drop_at (head_text segment.ordinal segment.first) (groups_text segment.groups ++ rest) 17 (length-head_text segment.ordinal segment.first)

front_head : (segment : Segment) (rest : List ℕ) → take 17 (segment_text segment ++ rest) ≡ head_text segment.ordinal segment.first
front_head segment rest = ap (take 17) (append_assoc (head_text segment.ordinal segment.first) (groups_text segment.groups) rest) ∙ take_at (head_text segment.ordinal segment.first) (groups_text segment.groups ++ rest) 17 (length-head_text segment.ordinal segment.first)

-- some groups of a slot, found from its front, are the first of the segment that it holds
pub found_first : (at size : ℕ) (before segment : Segment) (rest c : List ℕ) → at + size ≤ length c → size < 2 ^ 32 → All IsGroup before.groups → All IsGroup segment.groups
    → part at size c ≡ segment_text before ++ rest → (holds : HoldsSegment at size segment c) → (more : List (List Entry)) × (segment.groups ≡ before.groups ++ more) × (rest ≡ groups_text more ++ holds.rest)
found_first at size before segment rest c room small hb hs is holds =
    let same : groups_text before.groups ++ rest ≡ groups_text segment.groups ++ holds.rest = sym (behind_head before rest) ∙ ap (drop 17) (sym is ∙ holds.text) ∙ behind_head segment holds.rest in
    let short : length (groups_text before.groups ++ rest) < 2 ^ 32 =
    omega (arith, small, length-part at size c room, ap length is, ap length (append_assoc (head_text before.ordinal before.first) (groups_text before.groups) rest), length-append (head_text before.ordinal before.first) (groups_text before.groups ++ rest)) in
    found before.groups segment.groups rest holds.rest (recursion_from_All IsGroup before.groups hb) (recursion_from_All IsGroup segment.groups hs) short holds.closed same

sound_behind : (before more groups : List (List Entry)) → groups ≡ before ++ more → All IsGroup groups → All IsGroup more
sound_behind before more groups is sound =
    All-same IsGroup more (drop (length before) groups) (sym (ap (drop (length before)) is ∙ drop_at before more (length before) refl)) (All-drop IsGroup (length before) groups sound)

-- after the last group no open gate stands
none_behind : (more : List (List Entry)) (rest x : List ℕ) → get_or x 0 0 ≢ 1 → x ≡ groups_text more ++ rest → more ≡ []
none_behind [] rest x closed is = refl
none_behind (g ∷ more) rest x closed is = absurd (closed (ap (λ (l : List ℕ). get_or l 0 0) is))

-- of groups that stand there, the first stands there
first_behind : (more : List (List Entry)) (rest x : List ℕ) → All IsGroup more → get_or rest 0 0 ≢ 1 → 0 < length rest → get_or x 0 0 ≡ 1 → x ≡ groups_text more ++ rest → (g : List Entry) × BeginsGroup g x
first_behind [] rest x all closed some opens is = absurd (closed (ap (λ (l : List ℕ). get_or l 0 0) (sym is) ∙ opens))
first_behind (g ∷ more) rest x all closed some opens is = (
  g,
  record {
    sound = all 0 g (omega arith);
    behind = groups_text more ++ rest;
    text = is ∙ joined g more rest;
    closing = omega (arith, length-append (groups_text more) rest, some);
  },
)

-- a slot that breaks the rule holds no segment of sound groups
pub broken_holds_none : (at size place : ℕ) (segment : Segment) (c : List ℕ) → at + size ≤ length c → size < 2 ^ 32 → All IsGroup segment.groups → BreaksAt at size place c → HoldsSegment at size segment c → ⊥
broken_holds_none at size place segment c room small sound breaks holds =
    let first = found_first at size breaks.before segment breaks.rest c room small breaks.sound sound breaks.text holds in
    let group = first_behind first.0 holds.rest breaks.rest (sound_behind breaks.before.groups first.0 segment.groups first.1 sound) holds.closed holds.more breaks.opens first.2 in
    breaks.no_group group.0 group.1

pub same_segment : (s t : Segment) → s.ordinal ≡ t.ordinal → s.first ≡ t.first → s.groups ≡ t.groups → s ≡ t
same_segment s t ordinal first groups =
    ap (λ (n : ℕ). segment_of n s.first s.groups) ordinal ∙ ap (λ (n : ℕ). segment_of t.ordinal n s.groups) first ∙ ap (segment_of t.ordinal t.first) groups

-- a slot holds one segment of sound groups at most
pub one_segment : (at size : ℕ) (s t : Segment) (c : List ℕ) → at + size ≤ length c → size < 2 ^ 32 → s.ordinal < 2 ^ 64 → t.ordinal < 2 ^ 64 → s.first < 2 ^ 64 → t.first < 2 ^ 64
    → All IsGroup s.groups → All IsGroup t.groups → HoldsSegment at size s c → HoldsSegment at size t c → s ≡ t
one_segment at size s t c room small so to sf tf hs ht s_holds t_holds =
    let head : head_text s.ordinal s.first ≡ head_text t.ordinal t.first = sym (front_head s s_holds.rest) ∙ ap (take 17) (sym s_holds.text ∙ t_holds.text) ∙ front_head t t_holds.rest in
    let more = found_first at size s t s_holds.rest c room small hs ht s_holds.text t_holds in
    let none = none_behind more.0 t_holds.rest s_holds.rest s_holds.closed more.2 in
    same_segment s t
    (same_eight s.ordinal t.ordinal so to (sym (ordinal_at s.ordinal s.first) ∙ ap (λ (l : List ℕ). take 8 (drop 1 l)) head ∙ ordinal_at t.ordinal t.first))
    (same_eight s.first t.first sf tf (sym (first_at s.ordinal s.first) ∙ ap (drop 9) head ∙ first_at t.ordinal t.first))
    (sym (more.1 ∙ ap (λ (l : List (List Entry)). s.groups ++ l) none ∙ append-nil s.groups))
