-- Whether bytes begin with a piece of a head, may come to one, or never do.
use Rattle.std.proofs.Common.{◌≡◌, ◌≢◌, ℕ, zero, suc, ◌+◌, ◌<◌, Bool, true, false, List, [], ◌∷◌, ◌++◌, length, refl, sym, ap, ◌∙◌, subst, arith, inl, inr, length-append, append_assoc, append-nil, codes}
use Rattle.std.specs.Prelude.{◌⊎◌, All, IsUtf8}
use Rattle.std.specs.List.{flat_map}
use Rattle.std.specs.Str.{is_utf8}
use Rattle.std.proofs.lemmas.Bool.{cases_eq, false≢true}
use Rattle.std.proofs.lemmas.List.Elements.{All-nil, All-cons}
use Rattle.std.proofs.lemmas.Str.{IsUtf8-from_is_utf8, is_utf8-from_IsUtf8}
use Rattle.httparse.specs.Grammar.{is_token_byte, is_uri_byte, is_value_byte, AllPass, LineEnd, crlf, lf, print_end, print_blank, print_version, Field, IsField, print_field, RequestHead, ReadsRequest, HasNoRequest, MayBecomeRequest, NeverHasRequest}
use Rattle.httparse.specs.Pieces.{Piece, Begins, NotYet, Never, Completes, Stops, is_newline, Bytes, Newline, Blank, BlankLines, Word, Method, Target, Version, Text, FieldLine, BeginsLine, CompletesLine, Section, RequestStart, MayBecomeRequestStart}
use Rattle.httparse.proofs.RunLemmas.{run_unique, run_unstopped, Stops-append}
use Rattle.httparse.proofs.PieceLemmas.{Refutes_by, Never_intro, NotYet_intro, Refutes_first, Refutes_next, Word_deterministic, Version_deterministic, Name_deterministic, RequestStart_deterministic, Section_skip, FieldLines-append, Stops_value}
use Rattle.httparse.proofs.PieceLemmas.{space_ends_token, colon_ends_token, front-append}
use Rattle.httparse.proofs.ReadLemmas.{Version_bytes, Blank_after, Blank_open, Blank_newline, BeginsLine_either, FieldLine_at_newline, Newline_at_other, BeginsLine_open, FieldLine_row, FieldLine_done, Section_after}
use Rattle.httparse.proofs.LineLemmas.{request_blank, request_method, request_target, request_version, request_newline}
use Rattle.httparse.proofs.OpenLemmas.{Completes_first, Completes_next, some_newline, some_bytes, some_text, Newline_after_cr, BlankLines_after, Version_after_bytes, Version_before_digit, Word_cut, letter_is_token, FieldLine_of_row, Section_after_lines, Section_of_line, line_blank}
use Rattle.httparse.proofs.OpenLemmas.{line_method, ends_in_target, line_version, request_may, request_may_from_line}
use Rattle.httparse.proofs.HeadLemmas.{request_not_yet, request_never}
use Rattle.httparse.proofs.GrammarLemmas.{request_head, request_from_pieces}

-- the bytes begin with the piece; or they don't yet, and are what may; or they never will
abbrev pub Verdict : {A : Type 0} → Piece A → (List ℕ → Type 0) → List ℕ → Type 0
Verdict G May s = Begins G s ⊎ ((NotYet (Begins G) s × May s) ⊎ Never (Begins G) s)

-- ---- runs and words

abbrev pub Split : (ℕ → Bool) → List ℕ → Type 0
Split test s = (w : List ℕ) × (r : List ℕ) × AllPass test w × (s ≡ w ++ r) × ((r ≡ []) ⊎ Stops test r)

-- the longest run of bytes that pass a test, and what stops it
pub split_run : (test : ℕ → Bool) (s : List ℕ) → Split test s
split_run test [] = ([], [], All-nil _, refl, inl refl)
split_run test (c ∷ s) = go (test c) refl (split_run test s)
  where
    go : (b : Bool) → test c ≡ b → Split test s → Split test (c ∷ s)
    go true e (w, r, all, is, ends) = (c ∷ w, r, All-cons (λ v. test v ≡ true) c w e all, ap (λ (v : List ℕ). c ∷ v) is, ends)
    go false e rest = ([], c ∷ s, All-nil _, refl, inr e)

pub all_of : (test : ℕ → Bool) (s w r : List ℕ) → AllPass test w → s ≡ w ++ r → r ≡ [] → AllPass test s
all_of test s w r all is e = subst (AllPass test) (sym (is ∙ ap (λ (v : List ℕ). w ++ v) e ∙ append-nil w)) all

pub verdict_word : (test : ℕ → Bool) (stop : ℕ) → test stop ≡ false → (s : List ℕ) → Verdict (Word test stop) (AllPass test) s
verdict_word test stop fails s = go (split_run test s)
  where
    go : Split test s → Verdict (Word test stop) (AllPass test) s
    go (w, r, all, is, inl e) =
        let whole = all_of test s w r all is e in
        inr (inl (NotYet_intro (λ h. run_unstopped test h.0 (stop ∷ h.1) (subst (AllPass test) h.2.2 whole) fails), whole))
    go (w, [], all, is, inr f) = absurd f
    go ([], c ∷ r, all, is, inr f) =
        inr (inr (Never_intro (λ more h.
        let q = run_unique test h.0 [] (stop ∷ h.1) ((c ∷ r) ++ more) h.2.1 all fails f (sym h.2.2 ∙ ap (λ (v : List ℕ). v ++ more) is) in
        let n : length h.0 ≡ 0 = ap length q.0 in
        let some = h.2.0 in
        omega (arith, n, some))))
    go (x ∷ w, c ∷ r, all, is, inr f) = choose (cases_eq c stop)
      where
        choose : (c ≡ stop) ⊎ (c ≡ stop → ⊥) → Verdict (Word test stop) (AllPass test) s
        choose (inl e) = inl (x ∷ w, r, (omega arith, all, is ∙ ap (λ (v : ℕ). x ∷ (w ++ v ∷ r)) e))
        choose (inr other) =
            inr (inr (Never_intro (λ more h.
            let q = run_unique test h.0 (x ∷ w) (stop ∷ h.1) ((c ∷ r) ++ more) h.2.1 all fails f (sym h.2.2 ∙ ap (λ (v : List ℕ). v ++ more) is ∙ append_assoc (x ∷ w) (c ∷ r) more) in
            let e = q.1 in
            other (cc))))

-- ---- line ends and fixed bytes

no_newline : (e : LineEnd) (r : List ℕ) → [] ≡ print_end e ++ r → ⊥
no_newline crlf r e = cc
no_newline lf r e = cc

other_byte : (end : LineEnd) (c : ℕ) (t r : List ℕ) → c ≢ 10 → c ≢ 13 → c ∷ t ≡ print_end end ++ r → ⊥
other_byte crlf c t r a b e = b (cc)
other_byte lf c t r a b e = a (cc)

after_return : (end : LineEnd) (c d : ℕ) (t r : List ℕ) → c ≡ 13 → d ≢ 10 → c ∷ d ∷ t ≡ print_end end ++ r → ⊥
after_return crlf c d t r a b e = b (cc)
after_return lf c d t r a b e = let z : c ≡ 10 = cc in omega (arith, a, z)

return_alone : (end : LineEnd) (c : ℕ) (r : List ℕ) → c ≡ 13 → c ∷ [] ≡ print_end end ++ r → ⊥
return_alone crlf c r a e = cc
return_alone lf c r a e = let z : c ≡ 10 = cc in omega (arith, a, z)

pub verdict_newline : (s : List ℕ) → Verdict Newline (Completes Newline) s
verdict_newline [] = inr (inl (NotYet_intro (λ h. no_newline h.0 h.1 h.2), some_newline))
verdict_newline (c ∷ s) = go (cases_eq c 10) (cases_eq c 13) s
  where
    go : (c ≡ 10) ⊎ (c ≡ 10 → ⊥) → (c ≡ 13) ⊎ (c ≡ 13 → ⊥) → (s : List ℕ) → Verdict Newline (Completes Newline) (c ∷ s)
    go (inl e) f s = inl (lf, s, ap (λ (v : ℕ). v ∷ s) e)
    go (inr a) (inr b) s = inr (inr (Never_intro (λ more h. other_byte h.0 c (s ++ more) h.1 a b h.2)))
    go (inr a) (inl e) [] = inr (inl (NotYet_intro (λ h. return_alone h.0 c h.1 e h.2), Newline_after_cr (ap (λ (v : ℕ). v ∷ []) e)))
    go (inr a) (inl e) (d ∷ s) = second (cases_eq d 10)
      where
        second : (d ≡ 10) ⊎ (d ≡ 10 → ⊥) → Verdict Newline (Completes Newline) (c ∷ d ∷ s)
        second (inl f) = inl (crlf, s, λ i. e i ∷ f i ∷ s)
        second (inr other) = inr (inr (Never_intro (λ more h. after_return h.0 c d (s ++ more) h.1 e other h.2)))

pub verdict_bytes : (bytes s : List ℕ) → Verdict (Bytes bytes) (Completes (Bytes bytes)) s
verdict_bytes [] s = inl (tt, s, refl)
verdict_bytes (b ∷ bytes) [] = inr (inl (NotYet_intro (λ h. let z : [] ≡ b ∷ (bytes ++ h.1) = h.2 in cc), some_bytes (b ∷ bytes)))
verdict_bytes (b ∷ bytes) (c ∷ s) = go (cases_eq c b) (verdict_bytes bytes s)
  where
    tails : (more r : List ℕ) → c ∷ (s ++ more) ≡ b ∷ (bytes ++ r) → (c ≡ b) × (s ++ more ≡ bytes ++ r)
    tails more r e = (cc, cc)

    go : (c ≡ b) ⊎ (c ≡ b → ⊥) → Verdict (Bytes bytes) (Completes (Bytes bytes)) s → Verdict (Bytes (b ∷ bytes)) (Completes (Bytes (b ∷ bytes))) (c ∷ s)
    go (inr other) v = inr (inr (Never_intro (λ more h. other (tails more h.1 h.2).0)))
    go (inl e) (inl (u, r, is)) = inl (tt, r, λ i. e i ∷ is i)
    go (inl e) (inr (inl (none, x))) = inr (inl (Refutes_by (λ more h. (tt, h.1, (tails more h.1 h.2).1)) none, record { more = x.more; tree = tt; reads = λ rest. λ i. e i ∷ x.reads rest i }))
    go (inl e) (inr (inr never)) = inr (inr (Refutes_by (λ more h. (tt, h.1, (tails more h.1 h.2).1)) never))

-- ---- the start line

some_end : (e : LineEnd) → 0 < length (print_end e)
some_end crlf = omega arith
some_end lf = omega arith

-- bytes of fewer than n
pub verdict_blank : (n : ℕ) (s : List ℕ) → length s < n → Verdict Blank (Completes BlankLines) s
verdict_blank zero s few = absurd (omega (arith, few))
verdict_blank (suc n) [] few = inr (inl (Blank_open [] 0 (omega arith), record { more = []; tree = []; reads = λ rest. refl }))
verdict_blank (suc n) (c ∷ s) few = go (λ t less. verdict_blank n t less) (verdict_newline (c ∷ s)) (is_newline c) refl
  where
    go : ((t : List ℕ) → length t < n → Verdict Blank (Completes BlankLines) t) → Verdict Newline (Completes Newline) (c ∷ s) → (b : Bool) → is_newline c ≡ b → Verdict Blank (Completes BlankLines) (c ∷ s)
    go ih (inl (e, t, is)) b f = next (ih t fewer)
      where
        fewer : length t < n
        fewer = let m : length (c ∷ s) ≡ length (print_end e) + length t = ap length is ∙ length-append (print_end e) t in let k = some_end e in omega (arith, m, k, few)

        front : c ∷ s ≡ print_blank (e ∷ []) ++ t
        front = is ∙ ap (λ (v : List ℕ). v ++ t) (sym (append-nil (print_end e)))

        next : Verdict Blank (Completes BlankLines) t → Verdict Blank (Completes BlankLines) (c ∷ s)
        next (inl (es, r, (at, stops))) = inl (e ∷ es, r, (is ∙ ap (λ (v : List ℕ). print_end e ++ v) at ∙ sym (append_assoc (print_end e) (print_blank es) r), stops))
        next (inr (inl (none, x))) = inr (inl (
          Blank_after (e ∷ []) front none,
          record {
            more = x.more;
            tree = e ∷ x.tree;
            reads = λ rest. front-append (c ∷ s) (print_end e) t (x.more ++ rest) is ∙ ap (λ (v : List ℕ). print_end e ++ v) (x.reads rest) ∙ sym (append_assoc (print_end e) (print_blank x.tree) rest);
          },
        ))
        next (inr (inr never)) = inr (inr (Blank_after (e ∷ []) front never))
    go ih (inr v) false f = inl ([], c ∷ s, (refl, f))
    go ih (inr (inl (none, x))) true f = inr (inl (Blank_newline (c ∷ s) 0 (omega arith) f none, BlankLines_after [] refl x))
    go ih (inr (inr never)) true f = inr (inr (Blank_newline (c ∷ s) 0 (omega arith) f never))

pub verdict_version : (s : List ℕ) → Verdict Version (Completes Version) s
verdict_version s = go (verdict_bytes (codes "HTTP/1.") s)
  where
    digit : (minor c : ℕ) (t more r : List ℕ) → s ≡ codes "HTTP/1." ++ c ∷ t → s ++ more ≡ print_version minor ++ r → c ≡ 48 + minor
    digit minor c t more r is e = let f : (codes "HTTP/1." ++ c ∷ t) ++ more ≡ print_version minor ++ r = sym (ap (λ (v : List ℕ). v ++ more) is) ∙ e in cc

    none_yet : (minor : ℕ) (r : List ℕ) → s ≡ codes "HTTP/1." ++ [] → s ≡ print_version minor ++ r → ⊥
    none_yet minor r is e = let f : codes "HTTP/1." ++ [] ≡ print_version minor ++ r = sym is ∙ e in cc

    go : Verdict (Bytes (codes "HTTP/1.")) (Completes (Bytes (codes "HTTP/1."))) s → Verdict Version (Completes Version) s
    go (inr (inl (none, x))) = inr (inl (Version_bytes none, Version_after_bytes x))
    go (inr (inr never)) = inr (inr (Version_bytes never))
    go (inl (u, [], is)) = inr (inl (NotYet_intro (λ h. none_yet h.0 h.1 is h.2.1), Version_before_digit is refl))
    go (inl (u, c ∷ t, is)) = choose (cases_eq c 48) (cases_eq c 49)
      where
        choose : (c ≡ 48) ⊎ (c ≡ 48 → ⊥) → (c ≡ 49) ⊎ (c ≡ 49 → ⊥) → Verdict Version (Completes Version) s
        choose (inl e) f = inl (0, t, (omega arith, is ∙ ap (λ (v : ℕ). codes "HTTP/1." ++ v ∷ t) e))
        choose (inr a) (inl e) = inl (1, t, (omega arith, is ∙ ap (λ (v : ℕ). codes "HTTP/1." ++ v ∷ t) e))
        choose (inr a) (inr b) = inr (inr (Never_intro (λ more h. let d = digit h.0 c t more h.1 is h.2.1 in let few = h.2.0 in omega (arith, a, b, d, few))))

verdict_target : (s : List ℕ) → Verdict Target (AllPass is_uri_byte) s
verdict_target s = go (verdict_word is_uri_byte 32 refl s)
  where
    go : Verdict (Word is_uri_byte 32) (AllPass is_uri_byte) s → Verdict Target (AllPass is_uri_byte) s
    go (inr (inl (none, all))) = inr (inl (Refutes_by (λ more h. (h.0, h.1, h.2.0)) none, all))
    go (inr (inr never)) = inr (inr (Refutes_by (λ more h. (h.0, h.1, h.2.0)) never))
    go (inl (w, r, word)) = choose (is_utf8 w) refl
      where
        choose : (b : Bool) → is_utf8 w ≡ b → Verdict Target (AllPass is_uri_byte) s
        choose true e = inl (w, r, (word, IsUtf8-from_is_utf8 w e))
        choose false e =
            inr (inr (Never_intro (λ more h.
            let det = Word_deterministic is_uri_byte 32 refl in
            let q = det.unique h.0 w (s ++ more) h.1 (r ++ more) h.2.0 (det.append w s r more word) in
            false≢true (sym e ∙ is_utf8-from_IsUtf8 w (subst IsUtf8 q.0 h.2.1)))))

pub verdict_start : (s : List ℕ) → Verdict RequestStart MayBecomeRequestStart s
verdict_start s = go (verdict_blank (length s + 1) s (omega arith))
  where
    go : Verdict Blank (Completes BlankLines) s → Verdict RequestStart MayBecomeRequestStart s
    go (inr (inl (none, x))) = inr (inl (request_blank none, inl (line_blank x)))
    go (inr (inr never)) = inr (inr (request_blank never))
    go (inl (es, t, blank)) = of_method (verdict_word is_token_byte 32 space_ends_token t)
      where
        of_method : Verdict Method (AllPass is_token_byte) t → Verdict RequestStart MayBecomeRequestStart s
        of_method (inr (inl (none, all))) = inr (inl (request_method es blank none, inl (line_method es blank (Word_cut is_token_byte 32 65 letter_is_token all))))
        of_method (inr (inr never)) = inr (inr (request_method es blank never))
        of_method (inl (m, u, method)) = of_target (verdict_target u)
          where
            of_target : Verdict Target (AllPass is_uri_byte) u → Verdict RequestStart MayBecomeRequestStart s
            of_target (inr (inl (none, all))) = inr (inl (request_target es m blank method none, inr (ends_in_target es m u blank method all)))
            of_target (inr (inr never)) = inr (inr (request_target es m blank method never))
            of_target (inl (p, v, target)) = of_version (verdict_version v)
              where
                of_version : Verdict Version (Completes Version) v → Verdict RequestStart MayBecomeRequestStart s
                of_version (inr (inl (none, x))) = inr (inl (request_version es m p blank method target none, inl (line_version es m p blank method target (Completes_first x some_newline))))
                of_version (inr (inr never)) = inr (inr (request_version es m p blank method target never))
                of_version (inl (minor, w, version)) = of_end (verdict_newline w)
                  where
                    of_end : Verdict Newline (Completes Newline) w → Verdict RequestStart MayBecomeRequestStart s
                    of_end (inr (inl (none, x))) = inr (inl (request_newline es m p minor blank method target version none, inl (line_version es m p blank method target (Completes_next Version_deterministic {a = minor} version x))))
                    of_end (inr (inr never)) = inr (inr (request_newline es m p minor blank method target version never))
                    of_end (inl (e, z, end)) = inl ((es, (m, (p, (minor, e)))), z, (t, blank, (u, method, (v, target, (w, version, end)))))

-- ---- the field lines

pub verdict_text : (s : List ℕ) → Verdict Text (Completes Text) s
verdict_text s = go (split_run is_value_byte s)
  where
    go : Split is_value_byte s → Verdict Text (Completes Text) s
    go (w, r, all, is, inl e) =
        let whole = all_of is_value_byte s w r all is e in
        inr (inl (NotYet_intro (λ h. run_unstopped is_value_byte h.0.0 (print_end h.0.1 ++ h.1) (subst (AllPass is_value_byte) h.2.1 whole) (Stops_value h.0.1 h.1)), record { more = 10 ∷ []; tree = (s, lf); reads = λ rest. (whole, refl) }))
    go (w, r, all, is, inr stops) = choose (verdict_newline r)
      where
        end : (more : List ℕ) → Begins Text (s ++ more) → Begins Newline (r ++ more)
        end more h =
            let q = run_unique is_value_byte h.0.0 w (print_end h.0.1 ++ h.1) (r ++ more) h.2.0 all (Stops_value h.0.1 h.1) (Stops-append is_value_byte r more stops) (sym h.2.1 ∙ front-append s w r more is) in
            (h.0.1, h.1, sym q.1)

        choose : Verdict Newline (Completes Newline) r → Verdict Text (Completes Text) s
        choose (inl (e, z, at)) = inl ((w, e), z, (all, is ∙ ap (λ (v : List ℕ). w ++ v) at))
        choose (inr (inl (none, x))) = inr (inl (Refutes_by end none, record { more = x.more; tree = (w, x.tree); reads = λ rest. (all, front-append s w r (x.more ++ rest) is ∙ ap (λ (v : List ℕ). w ++ v) (x.reads rest)) }))
        choose (inr (inr never)) = inr (inr (Refutes_by end never))

verdict_field : (s : List ℕ) → Verdict FieldLine (Completes FieldLine) s
verdict_field s = go (verdict_word is_token_byte 58 colon_ends_token s)
  where
    go : Verdict (Word is_token_byte 58) (AllPass is_token_byte) s → Verdict FieldLine (Completes FieldLine) s
    go (inr (inl (none, all))) = inr (inl (FieldLine_row (Refutes_first (Word is_token_byte 58) Text none), FieldLine_of_row (Completes_first (Word_cut is_token_byte 58 65 letter_is_token all) some_text)))
    go (inr (inr never)) = inr (inr (FieldLine_row (Refutes_first (Word is_token_byte 58) Text never)))
    go (inl (n, t, word)) = choose (verdict_text t)
      where
        choose : Verdict Text (Completes Text) t → Verdict FieldLine (Completes FieldLine) s
        choose (inl (raw, r, x)) = inl (_, r, FieldLine_done n raw.0 raw.1 s t r word x)
        choose (inr (inl (none, x))) = inr (inl (FieldLine_row (Refutes_next Text Name_deterministic {a = n} word none), FieldLine_of_row (Completes_next Name_deterministic {a = n} word x)))
        choose (inr (inr never)) = inr (inr (FieldLine_row (Refutes_next Text Name_deterministic {a = n} word never)))

abbrev pub LineVerdict : List ℕ → Type 0
LineVerdict s = BeginsLine s ⊎ ((NotYet BeginsLine s × CompletesLine s) ⊎ Never BeginsLine s)

verdict_line : (s : List ℕ) → LineVerdict s
verdict_line [] = inr (inl (BeginsLine_open [] 0 (omega arith), inl some_newline))
verdict_line (c ∷ s) = go (is_newline c) refl
  where
    go : (b : Bool) → is_newline c ≡ b → LineVerdict (c ∷ s)
    go true f = choose (verdict_newline (c ∷ s))
      where
        choose : Verdict Newline (Completes Newline) (c ∷ s) → LineVerdict (c ∷ s)
        choose (inl x) = inl (inl x)
        choose (inr (inl (none, x))) = inr (inl (BeginsLine_either none (FieldLine_at_newline _ (c ∷ s) 0 (omega arith) f), inl x))
        choose (inr (inr never)) = inr (inr (BeginsLine_either never (FieldLine_at_newline _ (c ∷ s) 0 (omega arith) f)))
    go false f = choose (verdict_field (c ∷ s))
      where
        choose : Verdict FieldLine (Completes FieldLine) (c ∷ s) → LineVerdict (c ∷ s)
        choose (inl x) = inl (inr x)
        choose (inr (inl (none, x))) = inr (inl (BeginsLine_either (Newline_at_other _ (c ∷ s) 0 (omega arith) f) none, inr x))
        choose (inr (inr never)) = inr (inr (BeginsLine_either (Newline_at_other _ (c ∷ s) 0 (omega arith) f) never))

some_field : (f : Field) (s t : List ℕ) → FieldLine f s t → length t < length s
some_field f s t x =
    let n : length s ≡ length (print_field f) + length t = ap length x.1 ∙ length-append (print_field f) t in
    let a : length (print_field f) ≡ length (f.name ++ 58 ∷ f.raw) + length (print_end f.end) = length-append (f.name ++ 58 ∷ f.raw) (print_end f.end) in
    let k = some_end f.end in
    omega (arith, n, a, k)

-- bytes of fewer than n
pub verdict_section : (n : ℕ) (s : List ℕ) → length s < n → Verdict Section (Completes Section) s
verdict_section zero s few = absurd (omega (arith, few))
verdict_section (suc n) s few = go (λ t less. verdict_section n t less) (verdict_line s)
  where
    go : ((t : List ℕ) → length t < n → Verdict Section (Completes Section) t) → LineVerdict s → Verdict Section (Completes Section) s
    go ih (inl (inl (e, r, at))) = inl (([], e), r, (All-nil IsField, at))
    go ih (inr (inl (none, x))) = inr (inl (Section_after [] (All-nil IsField, refl) none, Section_of_line x))
    go ih (inr (inr never)) = inr (inr (Section_after [] (All-nil IsField, refl) never))
    go ih (inl (inr (f, t, x))) = next (ih t fewer)
      where
        fewer : length t < n
        fewer = let k = some_field f s t x in omega (arith, k, few)

        lines : All IsField (f ∷ []) × (s ≡ flat_map print_field (f ∷ []) ++ t)
        lines = (All-cons IsField f [] x.0 (All-nil IsField), x.1 ∙ ap (λ (v : List ℕ). v ++ t) (sym (append-nil (print_field f))))

        after : (more : List ℕ) → Begins Section (s ++ more) → Begins Section (t ++ more)
        after more h = let q = Section_skip (f ∷ []) h.0.0 h.0.1 (s ++ more) (t ++ more) h.1 (FieldLines-append (f ∷ []) s t more lines) h.2 in ((q.0, h.0.1), h.1, q.2)

        next : Verdict Section (Completes Section) t → Verdict Section (Completes Section) s
        next (inl ((gs, e), r, y)) =
            let flat : (a b c d : List ℕ) → a ++ ((b ++ c) ++ d) ≡ ((a ++ b) ++ c) ++ d = λ a b c d. simp append_assoc in
            inl ((f ∷ gs, e), r, (All-cons IsField f gs x.0 y.0, x.1 ∙ ap (λ (v : List ℕ). print_field f ++ v) y.1 ∙ flat (print_field f) (flat_map print_field gs) (print_end e) r))
        next (inr (inl (none, y))) = inr (inl (Refutes_by after none, Section_after_lines (f ∷ []) lines y))
        next (inr (inr never)) = inr (inr (Refutes_by after never))

-- ---- the whole head

abbrev pub RequestVerdict : List ℕ → Type 0
RequestVerdict b = ((h : RequestHead) × (rest : List ℕ) × ReadsRequest b h rest) ⊎ ((HasNoRequest b × MayBecomeRequest b) ⊎ NeverHasRequest b)

pub verdict_request : (b : List ℕ) → RequestVerdict b
verdict_request b = go (verdict_start b)
  where
    go : Verdict RequestStart MayBecomeRequestStart b → RequestVerdict b
    go (inr (inl (none, may))) = inr (inl (request_not_yet (Refutes_first RequestStart Section none), request_may_from_line may))
    go (inr (inr never)) = inr (inr (request_never (Refutes_first RequestStart Section never)))
    go (inl (tree, t, start)) = choose (verdict_section (length t + 1) t (omega arith))
      where
        choose : Verdict Section (Completes Section) t → RequestVerdict b
        choose (inl (section, r, x)) = inl (request_head (tree, section), r, request_from_pieces b (tree, section) r (t, start, x))
        choose (inr (inl (none, x))) = inr (inl (request_not_yet (Refutes_next Section RequestStart_deterministic {a = tree} start none), request_may (Completes_next RequestStart_deterministic {a = tree} start x)))
        choose (inr (inr never)) = inr (inr (request_never (Refutes_next Section RequestStart_deterministic {a = tree} start never)))
