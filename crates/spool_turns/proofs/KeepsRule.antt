-- Each step keeps the rule.
use Rattle.std.proofs.Common.{◌≡◌, ◌≢◌, ⊎_elim, ℕ, zero, suc, ◌+◌, ◌^◌, ◌<◌, ◌≤◌, ◌==◌, Bool, true, false, List, [], ◌∷◌, ◌++◌, length, set, Option, Some, None, refl, sym, ap, ◌∙◌, subst, arith, eq-eqb, ne_eqb}
use Rattle.std.specs.Prelude.{if◌then◌else◌, slice_index, nat_lt}
use mathlib.Core.Option.{some, some-ne-none, some-injective}
use mathlib.Core.List.{IsPrefix}
use lib.ListN.{get_elem?}
use Rattle.atomic_table.specs.Table.{State as Table, Me, keeps, Allows, Splits, Joins, opening}
use Rattle.event_form.specs.declared.event.Entry.{Entry}
use Rattle.desk_access.specs.Call.{Call, Record, own_of}
use Rattle.spool_turns.specs.Rules.{View, Locked, Pass, Copy, Claim, Returned, Spent, Handed, handed_by, sent_out, claim_of, out_of, returning, back_again, SettlesClaim, Facts, PassView, pass_view, made_by, Knows, Saw, Whole, HasCaller, Fits, Fresh, words_of, Kept, first_facts, first_view, one_pass_more, new_pass, admitted, released, caller_of, with_record, after_call, CallerKnown, end_at, cursor_at, copy_of, merged, merging, longer, compared_pass, caught_up, SeesAll, Records, Learns, MakesPass, WritesEnd, WritesCursor, LoadsEnd, LoadsCursor, Compares}
use Rattle.desk_seats.specs.Own.{prefix_self, prefix_more, own_of-snoc, own_of-snoc-other, own_of-between}
use Rattle.spool_turns.proofs.Views.{prefix_shorter, at_set', at_snoc'}

-- the rule of the table
abbrev pub holds : Table ℕ View → Type 0
holds s = Kept s.words s.views

fits_set : (g : Whole) (views : List View) (i : ℕ) (w : View) → ((j : ℕ) (u : View) → j ≢ i → get_elem? views j ≡ some u → Fits g j u) → Fits g i w
    → (j : ℕ) (u : View) → get_elem? (set views i w) j ≡ some u → Fits g j u
fits_set g views i w others mine j u e =
    ⊎_elim
    (λ (x : (j ≡ i) × (w ≡ u)). subst (λ (y : ℕ × View). Fits g y.0 y.1) (λ k. (sym x.0 k, x.1 k)) mine)
    (λ (x : (j ≢ i) × (get_elem? views j ≡ some u)). others j u x.0 x.1)
    (at_set' views i j w u e)

-- the same, where another seat is left out
fits_set_but : (g : Whole) (views : List View) (i other : ℕ) (w : View) → ((j : ℕ) (u : View) → j ≢ other → j ≢ i → get_elem? views j ≡ some u → Fits g j u) → Fits g i w
    → (j : ℕ) (u : View) → j ≢ other → get_elem? (set views i w) j ≡ some u → Fits g j u
fits_set_but g views i other w others mine j u apart e =
    ⊎_elim
    (λ (x : (j ≡ i) × (w ≡ u)). subst (λ (y : ℕ × View). Fits g y.0 y.1) (λ k. (sym x.0 k, x.1 k)) mine)
    (λ (x : (j ≢ i) × (get_elem? views j ≡ some u)). others j u apart x.0 x.1)
    (at_set' views i j w u e)

fits_snoc : (g : Whole) (views : List View) (w : View) → ((j : ℕ) (u : View) → get_elem? views j ≡ some u → Fits g j u) → Fits g (length views) w
    → (j : ℕ) (u : View) → get_elem? (views ++ w ∷ []) j ≡ some u → Fits g j u
fits_snoc g views w others mine j u e =
    ⊎_elim
    (λ (x : get_elem? views j ≡ some u). others j u x)
    (λ (x : (j ≡ length views) × (w ≡ u)). subst (λ (y : ℕ × View). Fits g y.0 y.1) (λ k. (sym x.0 k, x.1 k)) mine)
    (at_snoc' views w u j e)

-- the number n is now at the seat k
abbrev moved : ℕ → ℕ → (ℕ → ℕ) → ℕ → ℕ
moved n k who x = if x == n then k else who x

moved_here : (n k : ℕ) (who : ℕ → ℕ) → moved n k who n ≡ k
moved_here n k who = ap (λ (b : Bool). if b then k else who n) (eq-eqb n n refl)

moved_else : (n k : ℕ) (who : ℕ → ℕ) (x : ℕ) → x ≢ n → moved n k who x ≡ who x
moved_else n k who x ne = ap (λ (b : Bool). if b then k else who x) (ne_eqb x n ne)

-- the number n is out with that
abbrev outs : ℕ → Option Handed → (ℕ → Option Handed) → ℕ → Option Handed
outs n h out x = if x == n then h else out x

outs_here : (n : ℕ) (h : Option Handed) (out : ℕ → Option Handed) → outs n h out n ≡ h
outs_here n h out = ap (λ (b : Bool). if b then h else out n) (eq-eqb n n refl)

outs_else : (n : ℕ) (h : Option Handed) (out : ℕ → Option Handed) (x : ℕ) → x ≢ n → outs n h out x ≡ out x
outs_else n h out x ne = ap (λ (b : Bool). if b then h else out x) (ne_eqb x n ne)

within : (f g : Facts) → f ≡ g → g.end ≤ 2 ^ 63 → f.end ≤ 2 ^ 63
within f g is most = subst (λ (y : Facts). y.end ≤ 2 ^ 63) (sym is) most

-- the same but for the seats of the numbers and the facts
abbrev whole : Whole → (ℕ → ℕ) → Facts → Whole
whole g who f = record { seat = g.seat; who = who; out = g.out; claim = g.claim; now = f }

abbrev rehomed : Whole → ℕ → ℕ → Whole
rehomed g n k = whole g (moved n k g.who) g.now

-- who has another number stays where it was
fits_rehomed : (g : Whole) (n k j : ℕ) (u : View) → j ≢ g.who n → Fits g j u → Fits (rehomed g n k) j u
fits_rehomed g n k j (Locked h caller) ne f = (f.0, f.1, by_caller caller f.2)
  where
    by_caller : (o : Option PassView) → HasCaller g o → HasCaller (rehomed g n k) o
    by_caller None x = tt
    by_caller (Some m) x = (moved_else n k g.who m.number (λ e. ne (f.0 ∙ sym x.0 ∙ ap g.who e)) ∙ x.0, x.1, x.2)
fits_rehomed g n k j (Pass m) ne f = (moved_else n k g.who m.number (λ e. ne (sym f.0 ∙ ap g.who e)) ∙ f.0, f.1, f.2)
fits_rehomed g n k j (Copy m) ne f = f
fits_rehomed g n k j (Claim number h) ne f = f
fits_rehomed g n k j (Returned h m) ne f = (moved_else n k g.who m.number (λ e. ne (sym f.0 ∙ ap g.who e)) ∙ f.0, f.1, f.2, f.3, f.4)
fits_rehomed g n k j Spent ne f = tt

-- later facts
record Later (f f' : Facts) : Type 0 where
  made : f.made ≤ f'.made
  log : (xs : List Record) → IsPrefix xs f.log → IsPrefix xs f'.log
  end : f.end ≤ f'.end
  cursor : f.cursor ≤ f'.cursor

knows_later : (f f' : Facts) (m : PassView) → Later f f' → own_of m.number f'.log ≡ own_of m.number f.log → Knows f m → Knows f' m
knows_later f f' m l same k = record {
  number = omega (arith, k.number, l.made);
  seen = l.log m.seen k.seen;
  also = l.log m.also k.also;
  own = same ∙ k.own;
  own_seen = k.own_seen;
  end_known = omega (arith, k.end_known, l.end);
  cursor_known = omega (arith, k.cursor_known, l.cursor);
}

saw_later : (f f' : Facts) (m : PassView) → Later f f' → Saw f m → Saw f' m
saw_later f f' m l k = record { seen = l.log m.seen k.seen; end_known = omega (arith, k.end_known, l.end); cursor_known = omega (arith, k.cursor_known, l.cursor) }

-- the words after a load
read_again : (words : List ℕ) (f : Facts) (i : ℕ) → words ≡ words_of f → set (words_of f) i (slice_index (words_of f) i) ≡ words_of f → set words i (slice_index words i) ≡ words_of f
read_again words f i is at = ap (λ ws. set ws i (slice_index ws i)) is ∙ at

-- a pass gives its view to a new seat
pub hands_over : (id : ℕ) (m : PassView) → Splits holds id (Pass m) Spent (Pass m)
hands_over id m s kept at =
    let g = kept.0 in
    let mine : Fits g id (Pass m) = kept.4 id (Pass m) at in
    let left = set s.views id Spent in
    let g' = rehomed g m.number (length left) in (
      g',
      kept.1,
      kept.2,
      kept.3,
      fits_snoc g' left (Pass m)
          (fits_set g' s.views id Spent (λ j u ne e. fits_rehomed g m.number (length left) j u (λ same. ne (same ∙ mine.0)) (kept.4 j u e)) tt)
          (moved_here m.number (length left) g.who, mine.1, mine.2),
    )

-- the facts with a number more, which is out with nothing
abbrev newly : Whole → Facts → Whole
newly g f = record { seat = g.seat; who = moved f.made g.seat g.who; out = outs f.made None g.out; claim = g.claim; now = one_pass_more f }

-- a new pass is made
pub makes_pass : (slots id : ℕ) (f : Facts) (n : ℕ) → n ≡ f.made + 1 → Allows holds slots id (Locked f None, []) 3 (λ _. n) (λ _. MakesPass (Locked f None, []))
makes_pass slots id f n next s kept homes at bound =
    let g = kept.0 in
    let mine : Fits g id (Locked f None) = kept.4 id (Locked f None) at in
    let kw = Locked (one_pass_more f) (Some (new_pass f)) in
    let g' : Whole = newly g f in
    let fresh : Fresh f = subst Fresh (sym mine.1) kept.2 in (
      kw,
      keeps,
      tt,
      (
        g',
        ap (λ ws. set ws 3 n) (kept.1 ∙ ap words_of (sym mine.1)) ∙ ap (λ (k : ℕ). 0 ∷ f.end ∷ f.cursor ∷ k ∷ []) next,
        (λ k le. fresh k (omega (arith, le))),
        within f g.now mine.1 kept.3,
        fits_set g' s.views id kw (λ j u ne e. others g f (sym mine.1) id mine.0 j u ne (kept.4 j u e)) (
          mine.0,
          refl,
          (
            moved_here f.made g.seat g.who,
            record {
              number = omega arith;
              seen = prefix_self f.log;
              also = (f.log, refl);
              own = fresh f.made (omega arith);
              own_seen = fresh f.made (omega arith);
              end_known = omega arith;
              cursor_known = omega arith;
            },
            outs_here f.made None g.out,
          ),
        ),
      ),
      refl,
    )
  where
    one_more : (f : Facts) → Later f (one_pass_more f)
    one_more f = record { made = omega arith; log = λ xs p. p; end = omega arith; cursor = omega arith }

    passes : (g : Whole) (f : Facts) → g.now ≡ f → (j : ℕ) (m : PassView) → Fits g j (Pass m) → Fits (newly g f) j (Pass m)
    passes g f is j m x =
        let know : Knows f m = subst (λ y. Knows y m) is x.1 in
        let older : m.number ≢ f.made = λ e. omega (arith, know.number, e) in
        (moved_else f.made g.seat g.who m.number older ∙ x.0, knows_later f (one_pass_more f) m (one_more f) refl know, outs_else f.made None g.out m.number older ∙ x.2)

    others : (g : Whole) (f : Facts) → g.now ≡ f → (id : ℕ) → id ≡ g.seat → (j : ℕ) (u : View) → j ≢ id → Fits g j u → Fits (newly g f) j u
    others g f is id here j (Locked h caller) ne x = absurd (ne (x.0 ∙ sym here))
    others g f is id here j (Pass m) ne x = passes g f is j m x
    others g f is id here j (Copy m) ne x =
        saw_later f (one_pass_more f) m (one_more f) (subst (λ y. Saw y m) is x)
    others g f is id here j (Claim number h) ne x =
        let less : number < f.made = subst (λ (y : Facts). number < y.made) is x.0 in
        (omega (arith, less), x.1, outs_else f.made None g.out number (λ e. omega (arith, less, e)) ∙ x.2)
    others g f is id here j (Returned h m) ne x =
        let p = passes g f is j m (x.0, x.1, x.2) in
        (p.0, p.1, p.2, x.3, p.2 ∙ sym x.2 ∙ x.4)
    others g f is id here j Spent ne x = tt

-- a pass comes under the lock
pub admits : (id : ℕ) (f : Facts) (other : ℕ) (m : PassView) → Joins holds id (Locked f None) other (Pass m) (Locked f (Some m)) Spent
admits id f other m s kept at apart there =
    let g = kept.0 in
    let mine : Fits g id (Locked f None) = kept.4 id (Locked f None) at in
    let kw = Locked f (Some m) in
    let was : get_elem? s.views other ≡ some (Pass m) = ⊎_elim (λ (t : (other ≡ id) × (kw ≡ Pass m)). absurd (apart t.0)) (λ (t : (other ≢ id) × (get_elem? s.views other ≡ some (Pass m))). t.1) (at_set' s.views id other kw (Pass m) there) in
    let theirs : Fits g other (Pass m) = kept.4 other (Pass m) was in
    let g' = rehomed g m.number id in
    let here : g'.who m.number ≡ g.seat = moved_here m.number id g.who ∙ mine.0 in
    let know : Knows g.now m = theirs.1 in (
      g',
      kept.1,
      kept.2,
      kept.3,
      fits_set g' (set s.views id kw) other Spent
          (λ j u apart' e. fits_set_but g' s.views id other kw (λ j' u' ne' ne e'. fits_rehomed g m.number id j' u' (λ same. ne' (same ∙ theirs.0)) (kept.4 j' u' e')) (mine.0, mine.1, (here, know, theirs.2)) j u apart' e)
          tt,
    )

-- a record of the caller's call is added
pub records : (slots id : ℕ) (f : Facts) (m : PassView) (one : Record) → Allows holds slots id (Locked f (Some m), []) 0 (λ n. n) (λ _. Records one (Locked f (Some m), []))
records slots id f m one s kept homes at bound =
    let g = kept.0 in
    let v = Locked f (Some m) in
    let mine : Fits g id v = kept.4 id v at in
    let r = made_by m.number one in
    let f' = with_record f r in
    let w = Locked f' (Some (after_call f m one)) in
    let g' : Whole = whole g g.who f' in
    let know : Knows f m = subst (λ y. Knows y m) (sym mine.1) mine.2.1 in
    let fresh : Fresh f = subst Fresh (sym mine.1) kept.2 in
    let mine' : own_of m.number f'.log ≡ m.own ++ one.call ∷ [] = own_of-snoc m.number f.log r refl ∙ ap (λ (l : List Call). l ++ one.call ∷ []) know.own in (
      w,
      keeps,
      tt,
      (
        g',
        read_again s.words f 0 (kept.1 ∙ ap words_of (sym mine.1)) refl,
        (λ n le. own_of-snoc-other n f.log r (λ e. omega (arith, know.number, le, e)) ∙ fresh n le),
        within f g.now mine.1 kept.3,
        fits_set g' s.views id w
            (λ j u ne e. others g f r (sym mine.1) id mine.0 m.number refl mine.2.0 j u ne (kept.4 j u e)) (
              mine.0,
              refl,
              (
                mine.2.0,
                record {
                  number = know.number;
                  seen = prefix_self f'.log;
                  also = (f'.log, refl);
                  own = mine';
                  own_seen = mine';
                  end_known = omega arith;
                  cursor_known = omega arith;
                },
                mine.2.2,
              ),
            ),
      ),
      refl,
    )
  where
    passes : (g : Whole) (f : Facts) (r : Record) → g.now ≡ f → (id : ℕ) → id ≡ g.seat → (n : ℕ) → r.by ≡ n → g.who n ≡ g.seat → (j : ℕ) (k : PassView) → j ≢ id → Fits g j (Pass k)
        → Fits (whole g g.who (with_record f r)) j (Pass k)
    passes g f r is id here n by there j k ne x = (
      x.0,
      knows_later f (with_record f r) k (record { made = omega arith; log = λ xs p. prefix_more xs f.log (r ∷ []) p; end = omega arith; cursor = omega arith })
          (own_of-snoc-other k.number f.log r (λ e. ne (sym x.0 ∙ ap g.who (sym e ∙ by) ∙ there ∙ sym here)))
          (subst (λ y. Knows y k) is x.1),
      x.2,
    )

    others : (g : Whole) (f : Facts) (r : Record) → g.now ≡ f → (id : ℕ) → id ≡ g.seat → (n : ℕ) → r.by ≡ n → g.who n ≡ g.seat → (j : ℕ) (u : View) → j ≢ id → Fits g j u
        → Fits (whole g g.who (with_record f r)) j u
    others g f r is id here n by there j (Locked h caller) ne x = absurd (ne (x.0 ∙ sym here))
    others g f r is id here n by there j (Pass k) ne x = passes g f r is id here n by there j k ne x
    others g f r is id here n by there j (Copy k) ne x =
        saw_later f (with_record f r) k (record { made = omega arith; log = λ xs p. prefix_more xs f.log (r ∷ []) p; end = omega arith; cursor = omega arith }) (subst (λ y. Saw y k) is x)
    others g f r is id here n by there j (Claim number h) ne x = (subst (λ (y : Facts). number < y.made) is x.0, x.1, x.2)
    others g f r is id here n by there j (Returned h k) ne x = let p = passes g f r is id here n by there j k ne (x.0, x.1, x.2) in (p.0, p.1, p.2, x.3, x.4)
    others g f r is id here n by there j Spent ne x = tt

-- the pass leaves the lock
pub releases : (id : ℕ) (f : Facts) (m : PassView) → Splits holds id (Locked f (Some m)) (Locked f None) (Pass m)
releases id f m s kept at =
    let g = kept.0 in
    let mine : Fits g id (Locked f (Some m)) = kept.4 id (Locked f (Some m)) at in
    let kw = Locked f None in
    let left = set s.views id kw in
    let g' = rehomed g m.number (length left) in (
      g',
      kept.1,
      kept.2,
      kept.3,
      fits_snoc g' left (Pass m)
          (fits_set g' s.views id kw (λ j u ne e. fits_rehomed g m.number (length left) j u (λ same. ne (same ∙ mine.2.0 ∙ sym mine.0)) (kept.4 j u e)) (mine.0, mine.1, tt))
          (moved_here m.number (length left) g.who, mine.2.1, mine.2.2),
    )

-- what the caller knows is right
pub learns : (slots id : ℕ) (f : Facts) (caller : Option PassView) → Allows holds slots id (Locked f caller, []) 0 (λ n. n) (λ _. Learns (Locked f caller, []))
learns slots id f caller s kept homes at bound =
    let g = kept.0 in
    let v = Locked f caller in
    let mine : Fits g id v = kept.4 id v at in (
      v,
      keeps,
      tt,
      (g, read_again s.words g.now 0 kept.1 refl, kept.2, kept.3, fits_set g s.views id v (λ j u ne e. kept.4 j u e) mine),
      (refl, (by_caller g f caller mine.1 mine.2, subst Fresh (sym mine.1) kept.2)),
    )
  where
    by_caller : (g : Whole) (f : Facts) (o : Option PassView) → f ≡ g.now → HasCaller g o → CallerKnown f o
    by_caller g f None is x = tt
    by_caller g f (Some m) is x = subst (λ y. Knows y m) (sym is) x.1

-- and it sees the whole journal
pub sees_all : (slots id : ℕ) (f : Facts) (m : PassView) → Allows holds slots id (Locked f (Some m), []) 0 (λ n. n) (λ _. SeesAll (Locked f (Some m), []))
sees_all slots id f m s kept homes at bound =
    let g = kept.0 in
    let v = Locked f (Some m) in
    let w = Locked f (Some (caught_up f m)) in
    let mine : Fits g id v = kept.4 id v at in
    let know : Knows f m = subst (λ y. Knows y m) (sym mine.1) mine.2.1 in
    let all : Knows f (caught_up f m) = record {
      number = know.number;
      seen = prefix_self f.log;
      also = (f.log, refl);
      own = know.own;
      own_seen = know.own;
      end_known = omega arith;
      cursor_known = omega arith;
    } in (
      w,
      keeps,
      tt,
      (g, read_again s.words g.now 0 kept.1 refl, kept.2, kept.3, fits_set g s.views id w (λ j u ne e. kept.4 j u e) (mine.0, mine.1, (mine.2.0, subst (λ y. Knows y (caught_up f m)) mine.1 all, mine.2.2))),
      refl,
    )

-- facts that differ in the words of the end and the cursor alone
fits_later : (g : Whole) (f f' : Facts) → g.now ≡ f → Later f f' → f'.log ≡ f.log → (id : ℕ) → id ≡ g.seat → (j : ℕ) (u : View) → j ≢ id → Fits g j u → Fits (whole g g.who f') j u
fits_later g f f' is l same id here j (Locked h caller) ne x = absurd (ne (x.0 ∙ sym here))
fits_later g f f' is l same id here j (Pass m) ne x = (x.0, knows_later f f' m l (ap (own_of m.number) same) (subst (λ y. Knows y m) is x.1), x.2)
fits_later g f f' is l same id here j (Copy m) ne x = saw_later f f' m l (subst (λ y. Saw y m) is x)
fits_later g f f' is l same id here j (Claim number h) ne x = (let less : number < f.made = subst (λ (y : Facts). number < y.made) is x.0 in omega (arith, less, l.made), x.1, x.2)
fits_later g f f' is l same id here j (Returned h m) ne x = (x.0, knows_later f f' m l (ap (own_of m.number) same) (subst (λ y. Knows y m) is x.1), x.2, x.3, x.4)
fits_later g f f' is l same id here j Spent ne x = tt

caller_later : (g : Whole) (f f' : Facts) (caller : Option PassView) → g.now ≡ f → Later f f' → f'.log ≡ f.log → HasCaller g caller → HasCaller (whole g g.who f') caller
caller_later g f f' None is l same x = tt
caller_later g f f' (Some m) is l same x = (x.0, knows_later f f' m l (ap (own_of m.number) same) (subst (λ y. Knows y m) is x.1), x.2)

-- the word of the end is written
pub writes_end : (slots id : ℕ) (f : Facts) (caller : Option PassView) (n : ℕ) → f.end ≤ n → n ≤ 2 ^ 63 → Allows holds slots id (Locked f caller, []) 1 (λ _. n) (λ _. WritesEnd n (Locked f caller, []))
writes_end slots id f caller n le most s kept homes at bound =
    let g = kept.0 in
    let v = Locked f caller in
    let mine : Fits g id v = kept.4 id v at in
    let f' = end_at n f in
    let g' = whole g g.who f' in
    let l : Later f f' = record { made = omega arith; log = λ xs p. p; end = le; cursor = omega arith } in (
      Locked f' caller,
      keeps,
      tt,
      (
        g',
        ap (λ ws. set ws 1 n) (kept.1 ∙ ap words_of (sym mine.1)),
        subst Fresh (sym mine.1) kept.2,
        most,
        fits_set g' s.views id (Locked f' caller)
            (λ j u ne e. fits_later g f f' (sym mine.1) l refl id mine.0 j u ne (kept.4 j u e))
            (mine.0, refl, caller_later g f f' caller (sym mine.1) l refl mine.2),
      ),
      refl,
    )

-- the word of the cursor is written
pub writes_cursor : (slots id : ℕ) (f : Facts) (caller : Option PassView) (n : ℕ) → f.cursor ≤ n → Allows holds slots id (Locked f caller, []) 2 (λ _. n) (λ _. WritesCursor n (Locked f caller, []))
writes_cursor slots id f caller n le s kept homes at bound =
    let g = kept.0 in
    let v = Locked f caller in
    let mine : Fits g id v = kept.4 id v at in
    let f' = cursor_at n f in
    let g' = whole g g.who f' in
    let l : Later f f' = record { made = omega arith; log = λ xs p. p; end = omega arith; cursor = le } in (
      Locked f' caller,
      keeps,
      tt,
      (
        g',
        ap (λ ws. set ws 2 n) (kept.1 ∙ ap words_of (sym mine.1)),
        subst Fresh (sym mine.1) kept.2,
        within f g.now mine.1 kept.3,
        fits_set g' s.views id (Locked f' caller)
            (λ j u ne e. fits_later g f f' (sym mine.1) l refl id mine.0 j u ne (kept.4 j u e))
            (mine.0, refl, caller_later g f f' caller (sym mine.1) l refl mine.2),
      ),
      refl,
    )

-- a pass loads word 1
pub loads_end : (slots id : ℕ) (m : PassView) → Allows holds slots id (Pass m, []) 1 (λ n. n) (λ n. LoadsEnd (Pass m, []) n)
loads_end slots id m s kept homes at bound =
    let g = kept.0 in
    let mine : Fits g id (Pass m) = kept.4 id (Pass m) at in
    let k = mine.1 in
    let is : slice_index s.words 1 ≡ g.now.end = ap (λ ws. slice_index ws 1) kept.1 in
    let n = slice_index s.words 1 in
    let w = Pass (pass_view m.number m.seen m.own m.also n m.cursor_known m.out) in (
      w,
      keeps,
      tt,
      (
        g,
        read_again s.words g.now 1 kept.1 refl,
        kept.2,
        kept.3,
        fits_set g s.views id w (λ j u ne e. kept.4 j u e) (mine.0, record { number = k.number; seen = k.seen; also = k.also; own = k.own; own_seen = k.own_seen; end_known = omega (arith, is); cursor_known = k.cursor_known }, mine.2),
      ),
      (refl, omega (arith, is, k.end_known), omega (arith, is, kept.3)),
    )

-- a pass loads word 2
pub loads_cursor : (slots id : ℕ) (m : PassView) → Allows holds slots id (Pass m, []) 2 (λ n. n) (λ n. LoadsCursor (Pass m, []) n)
loads_cursor slots id m s kept homes at bound =
    let g = kept.0 in
    let mine : Fits g id (Pass m) = kept.4 id (Pass m) at in
    let k = mine.1 in
    let is : slice_index s.words 2 ≡ g.now.cursor = ap (λ ws. slice_index ws 2) kept.1 in
    let n = slice_index s.words 2 in
    let w = Pass (pass_view m.number m.seen m.own m.also m.end_known n m.out) in (
      w,
      keeps,
      tt,
      (
        g,
        read_again s.words g.now 2 kept.1 refl,
        kept.2,
        kept.3,
        fits_set g s.views id w (λ j u ne e. kept.4 j u e) (mine.0, record { number = k.number; seen = k.seen; also = k.also; own = k.own; own_seen = k.own_seen; end_known = k.end_known; cursor_known = omega (arith, is) }, mine.2),
      ),
      (refl, omega (arith, is, k.cursor_known)),
    )

-- what a pass has seen is copied
pub copies : (id : ℕ) (m : PassView) → Splits holds id (Pass m) (Pass m) (Copy m)
copies id m s kept at =
    let g = kept.0 in
    let mine : Fits g id (Pass m) = kept.4 id (Pass m) at in
    let k = mine.1 in
    let left = set s.views id (Pass m) in (
      g,
      kept.1,
      kept.2,
      kept.3,
      fits_snoc g left (Copy m) (fits_set g s.views id (Pass m) (λ j u ne e. kept.4 j u e) mine) (record { seen = k.seen; end_known = k.end_known; cursor_known = k.cursor_known }),
    )

-- and another takes it in
pub merges : (id : ℕ) (m : PassView) (other : ℕ) (c : PassView) → Joins holds id (Pass m) other (Copy c) (Pass (merged m c)) Spent
merges id m other c s kept at apart there =
    let g = kept.0 in
    let w = Pass (merged m c) in
    let mine : Fits g id (Pass m) = kept.4 id (Pass m) at in
    let was : get_elem? s.views other ≡ some (Copy c) = ⊎_elim (λ (t : (other ≡ id) × (w ≡ Copy c)). absurd (apart t.0)) (λ (t : (other ≢ id) × (get_elem? s.views other ≡ some (Copy c))). t.1) (at_set' s.views id other w (Copy c) there) in
    let theirs : Fits g other (Copy c) = kept.4 other (Copy c) was in
    let k = mine.1 in (
      g,
      kept.1,
      kept.2,
      kept.3,
      fits_set g (set s.views id w) other Spent
          (λ j u apart' e. fits_set_but g s.views id other w (λ j' u' ne' ne e'. kept.4 j' u' e') (mine.0, record { number = k.number; seen = k.seen; also = theirs.seen; own = k.own; own_seen = k.own_seen; end_known = omega (arith, k.end_known, theirs.end_known); cursor_known = omega (arith, k.cursor_known, theirs.cursor_known) }, mine.2) j u apart' e)
          tt,
    )

-- a pass compares the two journals that it knows
longer_of : (xs ys zs : List Record) → IsPrefix xs zs → IsPrefix ys zs → IsPrefix xs (longer xs ys) × IsPrefix ys (longer xs ys) × IsPrefix (longer xs ys) zs
longer_of xs ys zs p q = by_test (nat_lt (length xs) (length ys)) refl
  where
    by_test : (b : Bool) → nat_lt (length xs) (length ys) ≡ b → IsPrefix xs (if b then ys else xs) × IsPrefix ys (if b then ys else xs) × IsPrefix (if b then ys else xs) zs
    by_test true e = (prefix_shorter xs ys zs p q (grind arith), prefix_self ys, q)
    by_test false e = (prefix_self xs, prefix_shorter ys xs zs q p (grind arith), p)

pub compares : (slots id : ℕ) (m : PassView) → Allows holds slots id (Pass m, []) 0 (λ n. n) (λ _. Compares (Pass m, []))
compares slots id m s kept homes at bound =
    let g = kept.0 in
    let mine : Fits g id (Pass m) = kept.4 id (Pass m) at in
    let k = mine.1 in
    let w = Pass (compared_pass m) in
    let both = longer_of m.seen m.also g.now.log k.seen k.also in
    let own = own_of-between m.number m.seen (longer m.seen m.also) g.now.log m.own both.0 both.2 k.own_seen k.own in (
      w,
      keeps,
      tt,
      (
        g,
        read_again s.words g.now 0 kept.1 refl,
        kept.2,
        kept.3,
        fits_set g s.views id w (λ j u ne e. kept.4 j u e) (mine.0, record { number = k.number; seen = both.2; also = (g.now.log, refl); own = k.own; own_seen = own; end_known = k.end_known; cursor_known = k.cursor_known }, mine.2),
      ),
      (refl, (both.0, both.1, own)),
    )

-- ---- a pass that is out with entries

-- a number is out with that, by the claim of the seat k, and is at the seat i
abbrev sent : Whole → ℕ → ℕ → Handed → ℕ → Whole
sent g n i h k = record { seat = g.seat; who = moved n i g.who; out = outs n (Some h) g.out; claim = moved n k g.claim; now = g.now }

-- a pass goes out: its seat keeps the claim
pub sends_out : (id : ℕ) (m : PassView) (entries : List Entry) (front : Bool) → m.out ≡ None → Splits holds id (Pass m) (Claim m.number (handed_by m entries front)) (Pass (sent_out m entries front))
sends_out id m entries front stays s kept at =
    let g = kept.0 in
    let h = handed_by m entries front in
    let mine : Fits g id (Pass m) = kept.4 id (Pass m) at in
    let know = mine.1 in
    let left = set s.views id (Claim m.number h) in
    let g' = sent g m.number (length left) h id in (
      g',
      kept.1,
      kept.2,
      kept.3,
      fits_snoc g' left (Pass (sent_out m entries front))
          (fits_set g' s.views id (Claim m.number h) (λ j u ne e. others g m.number (length left) h id (mine.2 ∙ stays) mine.0 j u ne (kept.4 j u e)) (know.number, moved_here m.number id g.claim, outs_here m.number (Some h) g.out)) (
            moved_here m.number (length left) g.who,
            record { number = know.number; seen = know.seen; also = know.also; own = know.own; own_seen = know.own_seen; end_known = know.end_known; cursor_known = know.cursor_known },
            outs_here m.number (Some h) g.out,
          ),
    )
  where
    no_some : (h k : Option Handed) (j : Handed) → h ≡ None → h ≡ Some j → ⊥
    no_some h k j none is = cc (sym none ∙ is)

    others : (g : Whole) (n i : ℕ) (h : Handed) (id : ℕ) → g.out n ≡ None → g.who n ≡ id → (j : ℕ) (u : View) → j ≢ id → Fits g j u → Fits (sent g n i h id) j u
    others g n i h id none at j (Locked f None) ne x = (x.0, x.1, tt)
    others g n i h id none at j (Locked f (Some m)) ne x =
        let other : m.number ≢ n = λ e. ne (x.0 ∙ sym x.2.0 ∙ ap g.who e ∙ at) in
        (x.0, x.1, (moved_else n i g.who m.number other ∙ x.2.0, x.2.1, outs_else n (Some h) g.out m.number other ∙ x.2.2))
    others g n i h id none at j (Pass m) ne x =
        let other : m.number ≢ n = λ e. ne (sym x.0 ∙ ap g.who e ∙ at) in
        (moved_else n i g.who m.number other ∙ x.0, x.1, outs_else n (Some h) g.out m.number other ∙ x.2)
    others g n i h id none at j (Copy m) ne x = x
    others g n i h id none at j (Claim number k) ne x =
        let other : number ≢ n = λ e. no_some (g.out n) None k none (ap g.out (sym e) ∙ x.2) in
        (x.0, moved_else n id g.claim number other ∙ x.1, outs_else n (Some h) g.out number other ∙ x.2)
    others g n i h id none at j (Returned k m) ne x =
        let other : m.number ≢ n = λ e. ne (sym x.0 ∙ ap g.who e ∙ at) in
        (moved_else n i g.who m.number other ∙ x.0, x.1, outs_else n (Some h) g.out m.number other ∙ x.2, moved_else n id g.claim m.number other ∙ x.3, outs_else n (Some h) g.out m.number other ∙ x.4)
    others g n i h id none at j Spent ne x = tt

-- a pass of that number comes back to the claim
pub takes_back : (id n : ℕ) (h : Handed) (other : ℕ) (m : PassView) → m.number ≡ n → Joins holds id (Claim n h) other (Pass m) (Returned h m) Spent
takes_back id n h other m same s kept at apart there =
    let g = kept.0 in
    let w = Returned h m in
    let mine : Fits g id (Claim n h) = kept.4 id (Claim n h) at in
    let was : get_elem? s.views other ≡ some (Pass m) = ⊎_elim (λ (t : (other ≡ id) × (w ≡ Pass m)). absurd (apart t.0)) (λ (t : (other ≢ id) × (get_elem? s.views other ≡ some (Pass m))). t.1) (at_set' s.views id other w (Pass m) there) in
    let theirs : Fits g other (Pass m) = kept.4 other (Pass m) was in
    let g' = rehomed g m.number id in
    let back : Fits g' id w = (moved_here m.number id g.who, theirs.1, theirs.2, ap g.claim same ∙ mine.1, ap g.out same ∙ mine.2) in (
      g',
      kept.1,
      kept.2,
      kept.3,
      fits_set g' (set s.views id w) other Spent
          (λ j u apart' e. fits_set_but g' s.views id other w (λ j' u' ne' ne e'. fits_rehomed g m.number id j' u' (λ at'. ne' (at' ∙ theirs.0)) (kept.4 j' u' e')) back j u apart' e)
          tt,
    )

-- a number is out no more
abbrev ended : Whole → ℕ → Whole
ended g n = record { seat = g.seat; who = g.who; out = outs n None g.out; claim = g.claim; now = g.now }

-- the pass learns that it came back with what it was sent out with
pub settles : (slots id : ℕ) (h : Handed) (m : PassView) → Allows holds slots id (Returned h m, []) 0 (λ n. n) (λ _. SettlesClaim (Returned h m, []))
settles slots id h m s kept homes at bound =
    let g = kept.0 in
    let mine : Fits g id (Returned h m) = kept.4 id (Returned h m) at in
    let know = mine.1 in
    let w = Pass (back_again m) in
    let g' = ended g m.number in (
      w,
      keeps,
      tt,
      (
        g',
        read_again s.words g.now 0 kept.1 refl,
        kept.2,
        kept.3,
        fits_set g' s.views id w (λ j u ne e. others g m.number id mine.0 mine.3 j u ne (kept.4 j u e)) (
          mine.0,
          record { number = know.number; seen = know.seen; also = know.also; own = know.own; own_seen = know.own_seen; end_known = know.end_known; cursor_known = know.cursor_known },
          outs_here m.number None g.out,
        ),
      ),
      (refl, sym mine.2 ∙ mine.4),
    )
  where
    others : (g : Whole) (n id : ℕ) → g.who n ≡ id → g.claim n ≡ id → (j : ℕ) (u : View) → j ≢ id → Fits g j u → Fits (ended g n) j u
    others g n id at claimed j (Locked f None) ne x = (x.0, x.1, tt)
    others g n id at claimed j (Locked f (Some k)) ne x = (x.0, x.1, (x.2.0, x.2.1, outs_else n None g.out k.number (λ e. ne (x.0 ∙ sym x.2.0 ∙ ap g.who e ∙ at)) ∙ x.2.2))
    others g n id at claimed j (Pass k) ne x = (x.0, x.1, outs_else n None g.out k.number (λ e. ne (sym x.0 ∙ ap g.who e ∙ at)) ∙ x.2)
    others g n id at claimed j (Copy k) ne x = x
    others g n id at claimed j (Claim number h) ne x = (x.0, x.1, outs_else n None g.out number (λ e. ne (sym x.1 ∙ ap g.claim e ∙ claimed)) ∙ x.2)
    others g n id at claimed j (Returned h k) ne x =
        let other : k.number ≢ n = λ e. ne (sym x.0 ∙ ap g.who e ∙ at) in
        (x.0, x.1, outs_else n None g.out k.number other ∙ x.2, x.3, outs_else n None g.out k.number other ∙ x.4)
    others g n id at claimed j Spent ne x = tt

-- the same, at views that are known
pub sends_out_as : (id : ℕ) (m : PassView) (entries : List Entry) (front : Bool) (v : View) → m.out ≡ None → v ≡ Pass m → Splits holds id v (claim_of entries front v) (out_of entries front v)
sends_out_as id m entries front v stays is = subst (λ (x : View). Splits holds id x (claim_of entries front x) (out_of entries front x)) (sym is) (sends_out id m entries front stays)

pub takes_back_as : (id n : ℕ) (h : Handed) (v : View) (other : ℕ) (m : PassView) (w : View) → m.number ≡ n → v ≡ Claim n h → w ≡ Pass m → Joins holds id v other w (returning v w) Spent
takes_back_as id n h v other m w same is it = subst (λ (x : View × View). Joins holds id x.0 other x.1 (returning x.0 x.1) Spent) (λ i. (sym is i, sym it i)) (takes_back id n h other m same)

pub settles_as : (slots id : ℕ) (h : Handed) (m : PassView) (me : Me ℕ View) → me ≡ (Returned h m, []) → Allows holds slots id me 0 (λ n. n) (λ _. SettlesClaim me)
settles_as slots id h m me is = subst (λ (x : Me ℕ View). Allows holds slots id x 0 (λ n. n) (λ _. SettlesClaim x)) (sym is) (settles slots id h m)

-- no number is out
abbrev first_whole : Facts → Whole
first_whole f = record { seat = 0; who = λ _. 0; out = λ _. None; claim = λ _. 0; now = f }

pub begins : (end cursor : ℕ) → end ≤ 2 ^ 63 → holds (opening (words_of (first_facts end cursor)) [] (first_view (end, cursor)))
begins end cursor most = (first_whole (first_facts end cursor), refl, (λ n le. refl), most, one)
  where
    one : (id : ℕ) (v : View) → get_elem? (first_view (end, cursor) ∷ []) id ≡ some v → Fits (first_whole (first_facts end cursor)) id v
    one zero v e = subst (Fits (first_whole (first_facts end cursor)) 0) (some-injective _ _ e) (refl, refl, tt)
    one (suc id) v e = absurd (some-ne-none v (sym e))

-- the same, at views that are known
pub hands_over_as : (id : ℕ) (v : View) (m : PassView) → v ≡ Pass m → Splits holds id v Spent v
hands_over_as id v m is = subst (λ (x : View). Splits holds id x Spent x) (sym is) (hands_over id m)

pub makes_pass_as : (slots id : ℕ) (f : Facts) (n : ℕ) (me : Me ℕ View) → n ≡ f.made + 1 → me ≡ (Locked f None, []) → Allows holds slots id me 3 (λ _. n) (λ _. MakesPass me)
makes_pass_as slots id f n me next is = subst (λ (x : Me ℕ View). Allows holds slots id x 3 (λ _. n) (λ _. MakesPass x)) (sym is) (makes_pass slots id f n next)

pub admits_as : (id : ℕ) (f : Facts) (v : View) (other : ℕ) (w : View) (m : PassView) → v ≡ Locked f None → w ≡ Pass m → Joins holds id v other w (admitted v w) Spent
admits_as id f v other w m is it = subst (λ (x : View × View). Joins holds id x.0 other x.1 (admitted x.0 x.1) Spent) (λ i. (sym is i, sym it i)) (admits id f other m)

pub records_as : (slots id : ℕ) (f : Facts) (m : PassView) (one : Record) (me : Me ℕ View) → me ≡ (Locked f (Some m), []) → Allows holds slots id me 0 (λ n. n) (λ _. Records one me)
records_as slots id f m one me is = subst (λ (x : Me ℕ View). Allows holds slots id x 0 (λ n. n) (λ _. Records one x)) (sym is) (records slots id f m one)

pub releases_as : (id : ℕ) (f : Facts) (m : PassView) (v : View) → v ≡ Locked f (Some m) → Splits holds id v (released v) (caller_of v)
releases_as id f m v is = subst (λ (x : View). Splits holds id x (released x) (caller_of x)) (sym is) (releases id f m)

pub learns_as : (slots id : ℕ) (f : Facts) (caller : Option PassView) (me : Me ℕ View) → me ≡ (Locked f caller, []) → Allows holds slots id me 0 (λ n. n) (λ _. Learns me)
learns_as slots id f caller me is = subst (λ (x : Me ℕ View). Allows holds slots id x 0 (λ n. n) (λ _. Learns x)) (sym is) (learns slots id f caller)

pub sees_all_as : (slots id : ℕ) (f : Facts) (m : PassView) (me : Me ℕ View) → me ≡ (Locked f (Some m), []) → Allows holds slots id me 0 (λ n. n) (λ _. SeesAll me)
sees_all_as slots id f m me is = subst (λ (x : Me ℕ View). Allows holds slots id x 0 (λ n. n) (λ _. SeesAll x)) (sym is) (sees_all slots id f m)

pub writes_end_as : (slots id : ℕ) (f : Facts) (caller : Option PassView) (n : ℕ) (me : Me ℕ View) → f.end ≤ n → n ≤ 2 ^ 63 → me ≡ (Locked f caller, []) → Allows holds slots id me 1 (λ _. n) (λ _. WritesEnd n me)
writes_end_as slots id f caller n me le most is = subst (λ (x : Me ℕ View). Allows holds slots id x 1 (λ _. n) (λ _. WritesEnd n x)) (sym is) (writes_end slots id f caller n le most)

pub writes_cursor_as : (slots id : ℕ) (f : Facts) (caller : Option PassView) (n : ℕ) (me : Me ℕ View) → f.cursor ≤ n → me ≡ (Locked f caller, []) → Allows holds slots id me 2 (λ _. n) (λ _. WritesCursor n me)
writes_cursor_as slots id f caller n me le is = subst (λ (x : Me ℕ View). Allows holds slots id x 2 (λ _. n) (λ _. WritesCursor n x)) (sym is) (writes_cursor slots id f caller n le)

pub loads_end_as : (slots id : ℕ) (m : PassView) (me : Me ℕ View) → me ≡ (Pass m, []) → Allows holds slots id me 1 (λ n. n) (λ n. LoadsEnd me n)
loads_end_as slots id m me is = subst (λ (x : Me ℕ View). Allows holds slots id x 1 (λ n. n) (λ n. LoadsEnd x n)) (sym is) (loads_end slots id m)

pub loads_cursor_as : (slots id : ℕ) (m : PassView) (me : Me ℕ View) → me ≡ (Pass m, []) → Allows holds slots id me 2 (λ n. n) (λ n. LoadsCursor me n)
loads_cursor_as slots id m me is = subst (λ (x : Me ℕ View). Allows holds slots id x 2 (λ n. n) (λ n. LoadsCursor x n)) (sym is) (loads_cursor slots id m)

pub copies_as : (id : ℕ) (m : PassView) (v : View) → v ≡ Pass m → Splits holds id v v (copy_of v)
copies_as id m v is = subst (λ (x : View). Splits holds id x x (copy_of x)) (sym is) (copies id m)

pub merges_as : (id : ℕ) (m : PassView) (v : View) (other : ℕ) (c : PassView) (w : View) → v ≡ Pass m → w ≡ Copy c → Joins holds id v other w (merging v w) Spent
merges_as id m v other c w is it = subst (λ (x : View × View). Joins holds id x.0 other x.1 (merging x.0 x.1) Spent) (λ i. (sym is i, sym it i)) (merges id m other c)

pub compares_as : (slots id : ℕ) (m : PassView) (me : Me ℕ View) → me ≡ (Pass m, []) → Allows holds slots id me 0 (λ n. n) (λ _. Compares me)
compares_as slots id m me is = subst (λ (x : Me ℕ View). Allows holds slots id x 0 (λ n. n) (λ _. Compares x)) (sym is) (compares slots id m)
