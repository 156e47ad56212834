-- Whether bytes begin with a head, may come to one, or never do.
use Rattle.std.proofs.Common.{◌≡◌, ℕ, ◌+◌, ◌<◌, ◌≤◌, Bool, true, false, List, [], ◌∷◌, ◌++◌, length, take, drop, refl, sym, ap, ◌∙◌, arith, inl, inr}
use Rattle.std.specs.Prelude.{◌⊎◌, Option, Some, None}
use Rattle.std.specs.Char.{is_ascii_digit}
use Rattle.std.proofs.lemmas.Bool.{cases_eq, cases_lt, false≢true}
use Rattle.std.proofs.lemmas.List.Elements.{All-nil}
use Rattle.httparse.specs.Grammar.{LineEnd, crlf, lf, print_end, ResponseHead, ReadsResponse, HasNoResponse, MayBecomeResponse, NeverHasResponse, print_response, is_value_byte}
use Rattle.httparse.specs.Pieces.{Begins, Completes, BlankLines, Bytes, Newline, Blank, Version, Digit, Code, Text, Reason, Section, ResponseStart}
use Rattle.httparse.proofs.PieceLemmas.{Refutes_by, Never_intro, NotYet_intro, Refutes_first, Refutes_next, Digit_deterministic, Code_deterministic, ResponseStart_deterministic}
use Rattle.httparse.proofs.LineLemmas.{response_blank, response_version, response_space, response_code, response_reason, code_first, code_second, code_third}
use Rattle.httparse.proofs.OpenLemmas.{Completes_first, Completes_next, some_digit, some_reason, some_section, status_blank, status_version, status_space, status_code, Reason_without, Reason_with, response_may}
use Rattle.httparse.proofs.HeadLemmas.{response_not_yet, response_never}
use Rattle.httparse.proofs.GrammarLemmas.{response_head, response_from_pieces, response_unique, ReadsResponse-append}
use Rattle.http_edge.proofs.VerdictLaws.{Verdict, verdict_newline, verdict_bytes, verdict_blank, verdict_version, verdict_text, verdict_section}
use Rattle.http_edge.proofs.LineVerdictLaws.{in_window}
use Rattle.http_reply.specs.Heads.{HoldsHead, HasNoHead, NeverHasHead, IsOpenHead, BeginsWith}
use Rattle.http_reply.proofs.HeadLaws.{HeadJudged, head_judged}

no_digit : (d : ℕ) (r : List ℕ) → [] ≡ d ∷ r → ⊥
no_digit d r e = cc

verdict_digit : (s : List ℕ) → Verdict Digit (Completes Digit) s
verdict_digit [] = inr (inl (NotYet_intro (λ h. no_digit h.0 h.1 h.2.1), some_digit))
verdict_digit (c ∷ s) = go (is_ascii_digit c) refl
  where
    same : (more : List ℕ) (d : ℕ) (r : List ℕ) → c ∷ (s ++ more) ≡ d ∷ r → c ≡ d
    same more d r e = cc

    go : (b : Bool) → is_ascii_digit c ≡ b → Verdict Digit (Completes Digit) (c ∷ s)
    go true e = inl (c, s, (e, refl))
    go false e = inr (inr (Never_intro (λ more h. false≢true (sym e ∙ ap is_ascii_digit (same more h.0 h.1 h.2.1) ∙ h.2.0))))

verdict_code : (s : List ℕ) → Verdict Code (Completes Code) s
verdict_code s = first (verdict_digit s)
  where
    first : Verdict Digit (Completes Digit) s → Verdict Code (Completes Code) s
    first (inr (inl (none, x))) = inr (inl (code_first none, Completes_first x (Completes_first some_digit some_digit)))
    first (inr (inr never)) = inr (inr (code_first never))
    first (inl (a, t, one)) = second (verdict_digit t)
      where
        second : Verdict Digit (Completes Digit) t → Verdict Code (Completes Code) s
        second (inr (inl (none, x))) = inr (inl (code_second a one none, Completes_next Digit_deterministic {a = a} one (Completes_first x some_digit)))
        second (inr (inr never)) = inr (inr (code_second a one never))
        second (inl (b, u, two)) = third (verdict_digit u)
          where
            third : Verdict Digit (Completes Digit) u → Verdict Code (Completes Code) s
            third (inr (inl (none, x))) = inr (inl (code_third a b one two none, Completes_next Digit_deterministic {a = a} one (Completes_next Digit_deterministic {a = b} two x)))
            third (inr (inr never)) = inr (inr (code_third a b one two never))
            third (inl (d, v, three)) = inl ((a, (b, d)), v, (t, one, (u, two, three)))

-- a line's end is no space
no_space : (end : LineEnd) (r t : List ℕ) → 32 ∷ t ≡ print_end end ++ r → ⊥
no_space crlf r t e = cc
no_space lf r t e = cc

first_byte : (c d : ℕ) (t r : List ℕ) → c ∷ t ≡ d ∷ r → c ≡ d
first_byte c d t r e = cc

verdict_reason : (s : List ℕ) → Verdict Reason (Completes Reason) s
verdict_reason [] = inr (inl (NotYet_intro (λ h. none h.0 h.1 h.2), some_reason))
  where
    none : (r : Option (List ℕ) × LineEnd) (rest : List ℕ) → Reason r [] rest → ⊥
    none (None, crlf) rest x = let e = x.1 in cc
    none (None, lf) rest x = let e = x.1 in cc
    none (Some phrase, end) rest x = let e = x.1 in cc
verdict_reason (c ∷ s) = go (cases_eq c 32)
  where
    newline : (c ≡ 32 → ⊥) → (more : List ℕ) → Begins Reason ((c ∷ s) ++ more) → Begins Newline ((c ∷ s) ++ more)
    newline other more ((None, end), rest, x) = (end, rest, x.1)
    newline other more ((Some phrase, end), rest, x) = absurd (other (first_byte c 32 (s ++ more) (phrase ++ (print_end end ++ rest)) x.1))

    text : c ≡ 32 → (more : List ℕ) → Begins Reason ((c ∷ s) ++ more) → Begins Text (s ++ more)
    text is more ((None, end), rest, x) = absurd (no_space end rest (s ++ more) (ap (λ (v : ℕ). v ∷ (s ++ more)) (sym is) ∙ x.1))
    text is more ((Some phrase, end), rest, x) = let e : c ∷ (s ++ more) ≡ 32 ∷ (phrase ++ (print_end end ++ rest)) = x.1 in ((phrase, end), rest, (x.0, cc))

    go : (c ≡ 32) ⊎ (c ≡ 32 → ⊥) → Verdict Reason (Completes Reason) (c ∷ s)
    go (inr other) = line (verdict_newline (c ∷ s))
      where
        line : Verdict Newline (Completes Newline) (c ∷ s) → Verdict Reason (Completes Reason) (c ∷ s)
        line (inl (e, rest, x)) = inl ((None, e), rest, (All-nil (λ v. is_value_byte v ≡ true), x))
        line (inr (inl (none, x))) = inr (inl (Refutes_by (newline other) none, Reason_without x))
        line (inr (inr never)) = inr (inr (Refutes_by (newline other) never))
    go (inl is) = phrase (verdict_text s)
      where
        phrase : Verdict Text (Completes Text) s → Verdict Reason (Completes Reason) (c ∷ s)
        phrase (inl (t, rest, x)) = inl ((Some t.0, t.1), rest, (x.0, λ i. is i ∷ x.1 i))
        phrase (inr (inl (none, x))) = inr (inl (Refutes_by (text is) none, Reason_with (ap (λ (v : ℕ). v ∷ s) is) x))
        phrase (inr (inr never)) = inr (inr (Refutes_by (text is) never))

verdict_start : (s : List ℕ) → Verdict ResponseStart (Completes ResponseStart) s
verdict_start s = go (verdict_blank (length s + 1) s (omega arith))
  where
    go : Verdict Blank (Completes BlankLines) s → Verdict ResponseStart (Completes ResponseStart) s
    go (inr (inl (none, x))) = inr (inl (response_blank none, status_blank x))
    go (inr (inr never)) = inr (inr (response_blank never))
    go (inl (es, t, blank)) = of_version (verdict_version t)
      where
        of_version : Verdict Version (Completes Version) t → Verdict ResponseStart (Completes ResponseStart) s
        of_version (inr (inl (none, x))) = inr (inl (response_version es blank none, status_version es blank x))
        of_version (inr (inr never)) = inr (inr (response_version es blank never))
        of_version (inl (minor, u, version)) = of_space (verdict_bytes (32 ∷ []) u)
          where
            of_space : Verdict (Bytes (32 ∷ [])) (Completes (Bytes (32 ∷ []))) u → Verdict ResponseStart (Completes ResponseStart) s
            of_space (inr (inl (none, x))) = inr (inl (response_space es minor blank version none, status_space es minor blank version x))
            of_space (inr (inr never)) = inr (inr (response_space es minor blank version never))
            of_space (inl (one, v, space)) = of_code (verdict_code v)
              where
                of_code : Verdict Code (Completes Code) v → Verdict ResponseStart (Completes ResponseStart) s
                of_code (inr (inl (none, x))) = inr (inl (response_code es minor blank version space none, status_code es minor blank version space (Completes_first x some_reason)))
                of_code (inr (inr never)) = inr (inr (response_code es minor blank version space never))
                of_code (inl (d, w, code)) = of_reason (verdict_reason w)
                  where
                    of_reason : Verdict Reason (Completes Reason) w → Verdict ResponseStart (Completes ResponseStart) s
                    of_reason (inr (inl (none, x))) = inr (inl (response_reason es minor d blank version space code none, status_code es minor blank version space (Completes_next Code_deterministic {a = d} code x)))
                    of_reason (inr (inr never)) = inr (inr (response_reason es minor d blank version space code never))
                    of_reason (inl (r, z, reason)) = inl ((es, (minor, (one, (d, r)))), z, (t, blank, (u, version, (v, space, (w, code, reason)))))

abbrev pub ResponseVerdict : List ℕ → Type 0
ResponseVerdict b = ((h : ResponseHead) × (rest : List ℕ) × ReadsResponse b h rest) ⊎ ((HasNoResponse b × MayBecomeResponse b) ⊎ NeverHasResponse b)

verdict_response : (b : List ℕ) → ResponseVerdict b
verdict_response b = go (verdict_start b)
  where
    go : Verdict ResponseStart (Completes ResponseStart) b → ResponseVerdict b
    go (inr (inl (none, x))) = inr (inl (response_not_yet (Refutes_first ResponseStart Section none), response_may (Completes_first x some_section)))
    go (inr (inr never)) = inr (inr (response_never (Refutes_first ResponseStart Section never)))
    go (inl (tree, t, start)) = choose (verdict_section (length t + 1) t (omega arith))
      where
        choose : Verdict Section (Completes Section) t → ResponseVerdict b
        choose (inl (section, r, x)) = inl (response_head (tree, section), r, response_from_pieces b (tree, section) r (t, start, x))
        choose (inr (inl (none, x))) = inr (inl (response_not_yet (Refutes_next Section ResponseStart_deterministic {a = tree} start none), response_may (Completes_next ResponseStart_deterministic {a = tree} start x)))
        choose (inr (inr never)) = inr (inr (response_never (Refutes_next Section ResponseStart_deterministic {a = tree} start never)))

abbrev pub HeadVerdict : List ℕ → Type 0
HeadVerdict b = ((h : ResponseHead) × (rest : List ℕ) × HoldsHead b h rest) ⊎ (IsOpenHead b ⊎ NeverHasHead b)

verdict_head : (b : List ℕ) → HeadVerdict b
verdict_head b = go (verdict_response b)
  where
    judged : HasNoHead b → HeadJudged b → HeadVerdict b
    judged none (inl (o, going)) = inr (inl (record { none = none; going = going }))
    judged none (inr (o, never)) = inr (inr never)

    go : ResponseVerdict b → HeadVerdict b
    go (inr (inl (none, may))) = judged (λ h rest x. none h rest x.reads) (head_judged b none may)
    go (inr (inr never)) = inr (inr (λ more h rest x. never more h rest x.reads))
    go (inl (h, rest, reads)) = choose (cases_lt 64 (length h.fields))
      where
        choose : (64 < length h.fields) ⊎ (length h.fields ≤ 64) → HeadVerdict b
        choose (inr few) = inl (h, rest, record { reads = reads; few = few })
        choose (inl many) =
            inr (inr (λ more k other x.
            let q = response_unique (b ++ more) h k (rest ++ more) other (ReadsResponse-append b h rest more reads) x.reads in
            let n = ap (λ (v : ResponseHead). length v.fields) q.0 in
            let few = x.few in
            omega (arith, n, few, many)))

abbrev pub HeadTurn : List ℕ → Type 0
HeadTurn rest = ((h : ResponseHead) × (text : List ℕ) × BeginsWith rest h text) ⊎ (IsOpenHead (take 16384 rest) ⊎ NeverHasHead (take 16384 rest))

-- what stands at the front of the bytes of a reply
pub head_turn : (rest : List ℕ) → HeadTurn rest
head_turn rest = go (verdict_head (take 16384 rest))
  where
    go : HeadVerdict (take 16384 rest) → HeadTurn rest
    go (inl (h, more, x)) = let w = in_window 16384 rest (print_response h) more x.reads.1 in inl (h, more ++ drop 16384 rest, record { holds = record { reads = (x.reads.0, w.0); few = x.few }; short = w.1 })
    go (inr v) = inr v
