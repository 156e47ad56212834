-- The scan for the first value goes on, and ends.
use Rattle.std.proofs.Common.{◌≡◌, ℕ, zero, suc, ◌+◌, ◌≤◌, ◌<◌, Bool, true, false, List, [], ◌∷◌, ◌++◌, length, get_or, refl, sym, ap, ◌∙◌, subst, arith, Option, Some, None}
use Rattle.std.specs.Prelude.{slice_range}
use Rattle.std.proofs.lemmas.List.Edits.{between_more}
use Rattle.json_span.specs.Strings.{is_plain}
use Rattle.json_span.specs.Json.{is_space, AreSpaces, Json}
use Rattle.json_span.specs.Plain.{ArePlain}
use Rattle.json_span.specs.Machine.{State, Value, Goes, Fails, Why, Bad, Deep, step, accepts, Going, Stopped, onward, run}
use Rattle.json_span.specs.Spans.{Stretch, Begins, NoValue, IsFirst, IsCut, IsFault, IsFaultPlace, IsNotJson, IsTooDeep}
use Rattle.json_span.specs.Reading.{Fits, HasTop, brackets, state_of}
use Rattle.json_span.specs.declared.reading.Reading.{Reading}
use Rattle.json_span.proofs.TextLaws.{spaced_now}
use Rattle.json_span.proofs.RunLaws.{run_push}
use Rattle.json_span.proofs.Fronts.{run_value, run_begins, spaced_value, going_no_value, bad_none, stopped_none, deep_deeper}
use Rattle.json_span.proofs.DeepLaws.{deep_alone, deep_bracket}
use Rattle.json_span.proofs.Stretches.{range_split, range_whole}
use Rattle.json_span.proofs.Values.{range_head, value_some, value_start, begins_at, begins_from, value_front}

-- the longest value from `start` that ends at `i` or before
pub record Found (levels : ℕ) (bytes : List ℕ) (start i : ℕ) (end : Option ℕ) : Type 0 where
  pub value : (e : ℕ) → end ≡ Some e → (e ≤ i) × Stretch (Json levels) bytes start e
  pub longest : (d e : ℕ) → e ≤ i → Stretch (Json d) bytes start e → (k : ℕ) × (end ≡ Some k) × (e ≤ k)

-- how far the scan from `start` has come
pub record Scan (levels : ℕ) (bytes : List ℕ) (start i : ℕ) (reading : Reading) (end : Option ℕ) : Type 0 where
  pub order : start ≤ i
  pub bound : i ≤ length bytes
  pub fits : Fits reading
  pub top : HasTop reading.place (brackets reading.depth reading.bits)
  pub runs : run (Value levels []) (slice_range bytes start i) ≡ Going (state_of reading)
  pub found : Found levels bytes start i end

pub found_none : (levels : ℕ) (bytes : List ℕ) (start : ℕ) → Found levels bytes start start None
found_none levels bytes start = record {
  value = λ e q. cc;
  longest = λ d e h s. absurd (omega (arith, h, value_some bytes d start e s));
}

-- one byte more
pub runs_more : (levels : ℕ) (bytes : List ℕ) (start i : ℕ) (s t : State) → start ≤ i → i < length bytes → run (Value levels []) (slice_range bytes start i) ≡ Going s → Goes t ≡ step s (get_or bytes i 0) → run (Value levels []) (slice_range bytes start (i + 1)) ≡ Going t
runs_more levels bytes start i s t a b e f =
    ap (run (Value levels [])) (between_more bytes start i 0 a b) ∙ run_push (Value levels []) s (slice_range bytes start i) (get_or bytes i 0) e ∙ ap (λ p. onward p (λ u. Going u)) (sym f)

stopped_more : (levels : ℕ) (bytes : List ℕ) (start i : ℕ) (s : State) (w : Why) → start ≤ i → i < length bytes → run (Value levels []) (slice_range bytes start i) ≡ Going s → Fails w ≡ step s (get_or bytes i 0) → run (Value levels []) (slice_range bytes start (i + 1)) ≡ Stopped w
stopped_more levels bytes start i s w a b e f =
    ap (run (Value levels [])) (between_more bytes start i 0 a b) ∙ run_push (Value levels []) s (slice_range bytes start i) (get_or bytes i 0) e ∙ ap (λ p. onward p (λ u. Going u)) (sym f)

pub found_more : (levels : ℕ) (bytes : List ℕ) (start i : ℕ) (t : State) (end result : Option ℕ) → start ≤ i → i < length bytes → is_space (get_or bytes start 0) ≡ false → run (Value levels []) (slice_range bytes start (i + 1)) ≡ Going t → Found levels bytes start i end → (accepts t ≡ true → result ≡ Some (i + 1)) → (accepts t ≡ false → result ≡ end) → Found levels bytes start (i + 1) result
found_more levels bytes start i t end result a b f e h y n = go (accepts t) refl
  where
    head : (c : ℕ) (v : List ℕ) → slice_range bytes start (i + 1) ≡ c ∷ v → is_space c ≡ false
    head c v q =
        let r : slice_range bytes start (i + 1) ≡ get_or bytes start 0 ∷ slice_range bytes (start + 1) (i + 1) = range_head bytes start (i + 1) (omega (arith, a)) (omega (arith, b)) in
        let w : get_or bytes start 0 ≡ c = cc in
        subst (λ z. is_space z ≡ false) w f

    go : (p : Bool) → accepts t ≡ p → Found levels bytes start (i + 1) result
    go true q =
        let v : Stretch (Json levels) bytes start (i + 1) = record { order = omega (arith, a); bound = omega (arith, b); text = spaced_value levels (slice_range bytes start (i + 1)) head (run_value levels t (slice_range bytes start (i + 1)) e q) } in
        let r : result ≡ Some (i + 1) = y q in
        record {
          value = λ k w. let s : i + 1 ≡ k = cc in (omega (arith, s), subst (Stretch (Json levels) bytes start) s v);
          longest = λ d k l s. (i + 1, r, l);
        }
    go false q =
        let r : result ≡ end = n q in
        record {
          value = λ k w. let o = h.value k (sym r ∙ w) in (omega (arith, o.0), o.1);
          longest = λ d k l s. let o = before d k l s in let m = h.longest d k o s in (m.0, r ∙ m.1, m.2);
        }
      where
        before : (d k : ℕ) → k ≤ i + 1 → Stretch (Json d) bytes start k → k ≤ i
        before d k l s =
            let no : k ≡ i + 1 → ⊥ = λ w. going_no_value levels d t (slice_range bytes start (i + 1)) e q (spaced_now (Json d) (slice_range bytes start (i + 1)) (subst (λ z. Json d (slice_range bytes start z)) w s.text)) in
            omega (arith, l, no)

-- after a byte at which the machine fails no value ends
bad_longest : (levels : ℕ) (bytes : List ℕ) (start i : ℕ) (s : State) → start ≤ i → i < length bytes → run (Value levels []) (slice_range bytes start i) ≡ Going s → Fails Bad ≡ step s (get_or bytes i 0) → (d e : ℕ) → Stretch (Json d) bytes start e → e ≤ i
bad_longest levels bytes start i s a b r f d e v =
    let no : i < e → ⊥ = λ h. bad_none levels d (slice_range bytes start (i + 1)) (stopped_more levels bytes start i s Bad a b r f) (value_front bytes d start (i + 1) e v (omega (arith, a)) (omega (arith, h))) in
    omega (arith, no)

deep_longest : (levels : ℕ) (bytes : List ℕ) (start i : ℕ) (s : State) → start ≤ i → i < length bytes → run (Value levels []) (slice_range bytes start i) ≡ Going s → Fails Deep ≡ step s (get_or bytes i 0) → (e : ℕ) → Stretch (Json levels) bytes start e → e ≤ i
deep_longest levels bytes start i s a b r f e v =
    let no : i < e → ⊥ = λ h. stopped_none levels Deep (slice_range bytes start (i + 1)) (stopped_more levels bytes start i s Deep a b r f) (value_front bytes levels start (i + 1) e v (omega (arith, a)) (omega (arith, h))) in
    omega (arith, no)

-- the longest value is the answer
pub first_here : (levels : ℕ) (bytes : List ℕ) (at start i e : ℕ) (end : Option ℕ) → Stretch AreSpaces bytes at start → Found levels bytes start i end → end ≡ Some e → ((d k : ℕ) → Stretch (Json d) bytes start k → k ≤ i) → IsFirst levels bytes at (record { start = start; end = e })
first_here levels bytes at start i e end s h q l = record {
  space = s;
  value = (h.value e q).1;
  longest = λ d k v. let m = h.longest d k (l d k v) v in let r : m.0 ≡ e = cc in omega (arith, m.2, r);
}

pub first_bad : (levels : ℕ) (bytes : List ℕ) (at start i e : ℕ) (s : State) (end : Option ℕ) → Stretch AreSpaces bytes at start → start ≤ i → i < length bytes → run (Value levels []) (slice_range bytes start i) ≡ Going s → Fails Bad ≡ step s (get_or bytes i 0) → Found levels bytes start i end → end ≡ Some e → IsFirst levels bytes at (record { start = start; end = e })
first_bad levels bytes at start i e s end w a b r f h q = first_here levels bytes at start i e end w h q (bad_longest levels bytes start i s a b r f)

pub first_end : (levels : ℕ) (bytes : List ℕ) (at start i e : ℕ) (end : Option ℕ) → Stretch AreSpaces bytes at start → length bytes ≤ i → Found levels bytes start i end → end ≡ Some e → IsFirst levels bytes at (record { start = start; end = e })
first_end levels bytes at start i e end w b h q = first_here levels bytes at start i e end w h q (λ d k v. omega (arith, v.bound, b))

-- no value was found, and none will be
none_here : (levels : ℕ) (bytes : List ℕ) (at start i : ℕ) → Stretch AreSpaces bytes at start → (start < length bytes → is_space (get_or bytes start 0) ≡ false) → Found levels bytes start i None → ((d k : ℕ) → Stretch (Json d) bytes start k → k ≤ i) → NoValue bytes at
none_here levels bytes at start i w u h l d from e t v =
    let q : start ≡ from = value_start bytes at start d from e w u t v in
    let x : Stretch (Json d) bytes start e = subst (λ z. Stretch (Json d) bytes z e) (sym q) v in
    let m = h.longest d e (l d e x) x in
    let n = m.1 in
    cc

pub cut_here : (levels : ℕ) (bytes : List ℕ) (at start i : ℕ) (s : State) → Stretch AreSpaces bytes at start → (start < length bytes → is_space (get_or bytes start 0) ≡ false) → i ≡ length bytes → run (Value levels []) (slice_range bytes start i) ≡ Going s → Found levels bytes start i None → IsCut levels bytes at
cut_here levels bytes at start i s w u q r h = record {
  begins =
      let b : Begins levels (slice_range bytes start (length bytes)) = subst (λ z. Begins levels (slice_range bytes start z)) q (run_begins levels s (slice_range bytes start i) r) in
      subst (Begins levels) (sym (range_whole bytes at (omega (arith, w.order, w.bound)))) (begins_at bytes levels at start (length bytes) w w.bound b);
  none = none_here levels bytes at start i w u h (λ d k v. omega (arith, v.bound, q));
}

pub fault_here : (levels : ℕ) (bytes : List ℕ) (at start i : ℕ) (s : State) → Stretch AreSpaces bytes at start → start ≤ i → i < length bytes → run (Value levels []) (slice_range bytes start i) ≡ Going s → Fails Bad ≡ step s (get_or bytes i 0) → IsFault levels bytes at i
fault_here levels bytes at start i s w a b r f = record {
  order = omega (arith, w.order, a);
  bound = b;
  begins = begins_at bytes levels at start i w a (run_begins levels s (slice_range bytes start i) r);
  ends = λ d g. bad_none levels d (slice_range bytes start (i + 1)) (stopped_more levels bytes start i s Bad a b r f) (begins_from bytes d at start (i + 1) w (omega (arith, a)) g);
}

pub not_json_here : (levels : ℕ) (bytes : List ℕ) (at start i place : ℕ) (s : State) → Stretch AreSpaces bytes at start → (start < length bytes → is_space (get_or bytes start 0) ≡ false) → start ≤ i → i < length bytes → run (Value levels []) (slice_range bytes start i) ≡ Going s → Fails Bad ≡ step s (get_or bytes i 0) → Found levels bytes start i None → IsFaultPlace bytes at i place → IsNotJson levels bytes at place
not_json_here levels bytes at start i place s w u a b r f h p = record {
  fault = i;
  first = fault_here levels bytes at start i s w a b r f;
  found = p;
  none = none_here levels bytes at start i w u h (bad_longest levels bytes start i s a b r f);
}

pub deep_here : (levels : ℕ) (bytes : List ℕ) (at start i : ℕ) (s : State) → Stretch AreSpaces bytes at start → (start < length bytes → is_space (get_or bytes start 0) ≡ false) → start ≤ i → i < length bytes → run (Value levels []) (slice_range bytes start i) ≡ Going s → Fails Deep ≡ step s (get_or bytes i 0) → IsTooDeep levels bytes at i
deep_here levels bytes at start i s w u a b r f = record {
  order = omega (arith, w.order, a);
  bound = b;
  bracket = deep_bracket s (get_or bytes i 0) f;
  begins = begins_at bytes levels at start i w a (run_begins levels s (slice_range bytes start i) r);
  ends = λ g. stopped_none levels Deep (slice_range bytes start (i + 1)) (stopped_more levels bytes start i s Deep a b r f) (begins_from bytes levels at start (i + 1) w (omega (arith, a)) g);
  deeper = begins_at bytes (levels + 1) at start (i + 1) w (omega (arith, a)) (subst (Begins (levels + 1)) (sym (between_more bytes start i 0 a b)) (deep_deeper levels s (slice_range bytes start i) (get_or bytes i 0) r (sym f)));
  none = λ from e t v. none from e t v;
}
  where
    none : (from e : ℕ) → Stretch AreSpaces bytes at from → Stretch (Json levels) bytes from e → ⊥
    none from e t v =
        let q : start ≡ from = value_start bytes at start levels from e w u t v in
        let x : Stretch (Json levels) bytes start e = subst (λ z. Stretch (Json levels) bytes z e) (sym q) v in
        let l : e ≤ i = deep_longest levels bytes start i s a b r f e x in
        let p : slice_range bytes start i ≡ slice_range bytes start e ++ slice_range bytes e i = range_split bytes start e i x.order l in
        deep_alone levels (slice_range bytes start e) (slice_range bytes e i) s (get_or bytes i 0) x.text (subst (λ z. run (Value levels []) z ≡ Going s) p r) f

-- where the state is none that accepts, the longest value stays
pub found_stays : (levels : ℕ) (bytes : List ℕ) (start i : ℕ) (t : State) (end : Option ℕ) → start ≤ i → i < length bytes → is_space (get_or bytes start 0) ≡ false → run (Value levels []) (slice_range bytes start (i + 1)) ≡ Going t → Found levels bytes start i end → accepts t ≡ false → Found levels bytes start (i + 1) end
found_stays levels bytes start i t end a b f e h n = found_more levels bytes start i t end end a b f e h (λ y. let q : true ≡ false = sym y ∙ n in cc) (λ _. refl)

-- so it is over bytes that change nothing
pub scan_stays : (levels : ℕ) (bytes : List ℕ) (start i : ℕ) (reading : Reading) (end : Option ℕ) (n : ℕ) → i + n ≤ length bytes → ArePlain bytes i (i + n)
    → (start < length bytes → is_space (get_or bytes start 0) ≡ false) → ((c : ℕ) → is_plain c ≡ true → Goes (state_of reading) ≡ step (state_of reading) c)
    → accepts (state_of reading) ≡ false → Scan levels bytes start i reading end → Scan levels bytes start (i + n) reading end
scan_stays levels bytes start i reading end zero a p w f h v = let q : i ≡ i + 0 = omega arith in subst (λ m. Scan levels bytes start m reading end) q v
scan_stays levels bytes start i reading end (suc n) a p w f h v =
    let u = scan_stays levels bytes start i reading end n (omega (arith, a)) (λ k from to. p k from (omega (arith, to))) w f h v in
    let s = state_of reading in
    let b : start ≤ i + n = u.order in
    let l : i + n < length bytes = omega (arith, a) in
    let r = runs_more levels bytes start (i + n) s s b l u.runs (f (get_or bytes (i + n) 0) (p (i + n) (omega arith) (omega arith))) in
    let q : i + n + 1 ≡ i + suc n = omega arith in
    subst (λ m. Scan levels bytes start m reading end) q (record {
      order = omega (arith, b);
      bound = omega (arith, l);
      fits = u.fits;
      top = u.top;
      runs = r;
      found = found_stays levels bytes start (i + n) s end b l (w (omega (arith, b, l))) r u.found h;
    })
