-- No entry's text begins another one's: what is read is what was written, whatever follows it.
use Rattle.std.proofs.Common.{◌≡◌, ℕ, ◌+◌, cond, eqb, List, [], ◌∷◌, ◌++◌, length, get_or, take, drop, refl, sym, ◌∙◌, ap, arith, append_assoc, length-append}
use Rattle.std.specs.Int.{w32, w64, from_be_bytes}
use Rattle.std.specs.List.{All, AllByRecursion, flat_map, sum_by}
use Rattle.std.proofs.lemmas.List.{append_cancel_left}
use Rattle.std.proofs.lemmas.List.Elements.{recursion_from_All}
use Rattle.std.proofs.lemmas.List.Sums.{sum_by-cons}
use Rattle.std.proofs.lemmas.List.Concat.{flat_map-cons}
use Rattle.event_form.specs.declared.event.Origin.{Origin}
use Rattle.event_form.specs.declared.event.Origin.TheVariants.{Relp, LumberData, LumberJson, HecEvent, HecRaw}
use Rattle.event_form.specs.declared.event.Entry.{Entry}
use Rattle.event_form.specs.Entry.{origin_code, IsEntry, entry_text, size_of}
use Rattle.event_form.proofs.Fields.{length-entry_text, origin_at, conn_read, index_read, unit_read, length_read, text_at}

-- ---- origins

-- the origin of a code
origin_from : ℕ → Origin
origin_from n = cond (eqb n 1) Relp (cond (eqb n 2) LumberData (cond (eqb n 3) LumberJson (cond (eqb n 4) HecEvent HecRaw)))

origin_from-code : (o : Origin) → origin_from (origin_code o) ≡ o
unfolding origin_from
origin_from-code Relp = refl
origin_from-code LumberData = refl
origin_from-code LumberJson = refl
origin_from-code HecEvent = refl
origin_from-code HecRaw = refl

pub same_origin : (o p : Origin) → origin_code o ≡ origin_code p → o ≡ p
same_origin o p e = sym (origin_from-code o) ∙ ap origin_from e ∙ origin_from-code p

-- ---- entries

abbrev entry_of : ℕ → ℕ → ℕ → Origin → List ℕ → Entry
entry_of conn index unit origin text = record { conn = conn; index = index; unit = unit; event = record { origin = origin; text = text } }

pub same_entry : (d e : Entry) → d.conn ≡ e.conn → d.index ≡ e.index → d.unit ≡ e.unit → d.event.origin ≡ e.event.origin → d.event.text ≡ e.event.text → d ≡ e
same_entry d e conn index unit origin text =
    ap (λ n. entry_of n d.index d.unit d.event.origin d.event.text) conn
    ∙ ap (λ n. entry_of e.conn n d.unit d.event.origin d.event.text) index
    ∙ ap (λ n. entry_of e.conn e.index n d.event.origin d.event.text) unit
    ∙ ap (λ o. entry_of e.conn e.index e.unit o d.event.text) origin
    ∙ ap (entry_of e.conn e.index e.unit e.event.origin) text

pub one_entry : (d e : Entry) (x y : List ℕ) → IsEntry d → IsEntry e → entry_text d ++ x ≡ entry_text e ++ y → (d ≡ e) × (x ≡ y)
one_entry d e x y hd he h =
    let origin = same_origin d.event.origin e.event.origin (sym (origin_at d x) ∙ ap (λ (b : List ℕ). get_or b 0 0) h ∙ origin_at e y) in
    let conn = sym (conn_read d x hd.conn) ∙ ap (λ (b : List ℕ). from_be_bytes w64 (take 8 (drop 1 b))) h ∙ conn_read e y he.conn in
    let index = sym (index_read d x hd.index) ∙ ap (λ (b : List ℕ). from_be_bytes w64 (take 8 (drop 9 b))) h ∙ index_read e y he.index in
    let unit = sym (unit_read d x hd.unit) ∙ ap (λ (b : List ℕ). from_be_bytes w64 (take 8 (drop 17 b))) h ∙ unit_read e y he.unit in
    let long = sym (length_read d x hd.event) ∙ ap (λ (b : List ℕ). from_be_bytes w32 (take 4 (drop 25 b))) h ∙ length_read e y he.event in
    let text = sym (text_at d x) ∙ ap (λ (n : ℕ). take n (drop 29 (entry_text d ++ x))) long ∙ ap (λ (b : List ℕ). take (length e.event.text) (drop 29 b)) h ∙ text_at e y in
    let same = same_entry d e conn index unit origin text in
    (same, append_cancel_left (entry_text e) x y (ap (λ (f : Entry). entry_text f ++ x) (sym same) ∙ h))

-- ---- lists of entries

-- the first entry's text, and what is after it
pub joined : (e : Entry) (es : List Entry) (x : List ℕ) → flat_map entry_text (e ∷ es) ++ x ≡ entry_text e ++ (flat_map entry_text es ++ x)
joined e es x = ap (λ (b : List ℕ). b ++ x) (flat_map-cons entry_text e es) ∙ append_assoc (entry_text e) (flat_map entry_text es) x

not_empty : (e : Entry) (x : List ℕ) → entry_text e ++ x ≡ [] → ⊥
not_empty e x h = absurd (omega (arith, length-append (entry_text e) x, length-entry_text e, ap length h))

one_list : (ds es : List Entry) (x y : List ℕ) → AllByRecursion IsEntry ds → AllByRecursion IsEntry es → length ds ≡ length es → flat_map entry_text ds ++ x ≡ flat_map entry_text es ++ y → (ds ≡ es) × (x ≡ y)
one_list [] [] x y hd he n h = (refl, h)
one_list [] (e ∷ es) x y hd he n h = absurd (omega (arith, n))
one_list (d ∷ ds) [] x y hd he n h = absurd (omega (arith, n))
one_list (d ∷ ds) (e ∷ es) x y hd he n h =
    let first = one_entry d e (flat_map entry_text ds ++ x) (flat_map entry_text es ++ y) hd.0 he.0 (sym (joined d ds x) ∙ h ∙ joined e es y) in
    let others = one_list ds es x y hd.1 he.1 (omega (arith, n)) first.1 in
    (cc (first.0, others.0), others.1)

-- as many entries, whatever follows them
pub one_run : (ds es : List Entry) (x y : List ℕ) → All IsEntry ds → All IsEntry es → length ds ≡ length es → flat_map entry_text ds ++ x ≡ flat_map entry_text es ++ y → (ds ≡ es) × (x ≡ y)
one_run ds es x y hd he n h = one_list ds es x y (recursion_from_All IsEntry ds hd) (recursion_from_All IsEntry es he) n h

-- nothing after them: the count needn't be known
same_list : (ds es : List Entry) → AllByRecursion IsEntry ds → AllByRecursion IsEntry es → flat_map entry_text ds ≡ flat_map entry_text es → ds ≡ es
same_list [] [] hd he h = refl
same_list [] (e ∷ es) hd he h = absurd (not_empty e (flat_map entry_text es) (sym h))
same_list (d ∷ ds) [] hd he h = absurd (not_empty d (flat_map entry_text ds) h)
same_list (d ∷ ds) (e ∷ es) hd he h =
    let first = one_entry d e (flat_map entry_text ds) (flat_map entry_text es) hd.0 he.0 h in
    let others = same_list ds es hd.1 he.1 first.1 in
    cc (first.0, others)

pub same_entries : (ds es : List Entry) → All IsEntry ds → All IsEntry es → flat_map entry_text ds ≡ flat_map entry_text es → ds ≡ es
same_entries ds es hd he h = same_list ds es (recursion_from_All IsEntry ds hd) (recursion_from_All IsEntry es he) h

-- The entries of a text that goes on are a front of the entries of the whole.
front_list : (ds es : List Entry) (y : List ℕ) → AllByRecursion IsEntry ds → AllByRecursion IsEntry es → flat_map entry_text ds ≡ flat_map entry_text es ++ y → (more : List Entry) × (ds ≡ es ++ more) × (y ≡ flat_map entry_text more)
front_list ds [] y hd he h = (ds, refl, sym h)
front_list [] (e ∷ es) y hd he h = absurd (not_empty e (flat_map entry_text es ++ y) (sym (h ∙ joined e es y)))
front_list (d ∷ ds) (e ∷ es) y hd he h =
    let first = one_entry d e (flat_map entry_text ds) (flat_map entry_text es ++ y) hd.0 he.0 (h ∙ joined e es y) in
    let others = front_list ds es y hd.1 he.1 first.1 in
    (others.0, cc (first.0, others.1), others.2)

pub front_entries : (ds es : List Entry) (y : List ℕ) → All IsEntry ds → All IsEntry es → flat_map entry_text ds ≡ flat_map entry_text es ++ y → (more : List Entry) × (ds ≡ es ++ more) × (y ≡ flat_map entry_text more)
front_entries ds es y hd he h = front_list ds es y (recursion_from_All IsEntry ds hd) (recursion_from_All IsEntry es he) h

pub length-entries_text : (es : List Entry) → length (flat_map entry_text es) ≡ sum_by size_of es
length-entries_text [] = refl
length-entries_text (e ∷ es) =
    let joined : length (flat_map entry_text (e ∷ es)) ≡ length (entry_text e) + length (flat_map entry_text es) = ap length (flat_map-cons entry_text e es) ∙ length-append (entry_text e) (flat_map entry_text es) in
    omega (arith, joined, length-entry_text e, length-entries_text es, sum_by-cons size_of e es)
