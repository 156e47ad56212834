-- What a head that is not whole yet may become.
use Rattle.std.proofs.Common.{◌≡◌, ◌≢◌, ℕ, zero, suc, ◌+◌, ◌≤◌, true, false, List, [], ◌∷◌, ◌++◌, length, length-append, refl, sym, ap, ◌∙◌, subst, arith, append_assoc, append-nil, inl, inr}
use Rattle.std.specs.Prelude.{◌⊎◌, Option, Some, None, ⊤}
use Rattle.std.specs.List.{flat_map}
use Rattle.std.specs.Char.{is_ascii_digit}
use Rattle.std.proofs.lemmas.List.Elements.{All-nil}
use Rattle.httparse.specs.Grammar.{is_value_byte, AllPass, LineEnd, lf, print_end, print_blank, print_version, print_reason, reason_phrase, Field, print_field, IsField, print_section, ReadsSection, ResponseHead, IsResponseHead, HasNoResponse, MayBecomeResponse}
use Rattle.httparse.specs.Lines.{code_digits}
use Rattle.httparse.specs.Pieces.{Code, Section, ResponseStart}
use Rattle.httparse.proofs.PieceLemmas.{ResponseStart_deterministic, Section_skip, token_is_no_newline, newline_not_stopped, front-append}
use Rattle.httparse.proofs.GrammarLemmas.{response_pieces, print_response-append}
use Rattle.http_edge.specs.declared.lines.Lines.{Lines}
use Rattle.http_edge.specs.LineCount.{count_lines, at_line, at_start, is_over}
use Rattle.http_edge.proofs.LineLaws.{count_append, lines_grow, in_line, passes_plain, count_plain, count_end}
use Rattle.http_edge.proofs.HeadLaws.{Room, Full, Judged, over_no, split_at, section_judged, count_blank}
use Rattle.http_reply.specs.Heads.{NeverHasHead, BeginsAHead}
use Rattle.http_reply.specs.Parts.{after_start}

three_digits : (ds rest : List ℕ) → length ds ≡ 3 → AllPass is_ascii_digit ds → (d : ℕ × (ℕ × ℕ)) × (code_digits d ≡ ds) × Code d (ds ++ rest) rest
three_digits [] rest three all = absurd (omega (arith, three))
three_digits (a ∷ []) rest three all = absurd (omega (arith, three))
three_digits (a ∷ b ∷ []) rest three all = absurd (omega (arith, three))
three_digits (a ∷ b ∷ c ∷ []) rest three all = ((a, (b, c)), refl, (_, (all 0 0 (omega arith), refl), (_, (all 1 0 (omega arith), refl), (all 2 0 (omega arith), refl))))
three_digits (a ∷ b ∷ c ∷ d ∷ ds) rest three all = absurd (omega (arith, three))

abbrev pub StartTree : Type 0
StartTree = List LineEnd × (ℕ × (⊤ × ((ℕ × (ℕ × ℕ)) × (Option (List ℕ) × LineEnd))))

start_reads : (h : ResponseHead) → IsResponseHead h → (z : List ℕ) → (t : StartTree) × ResponseStart t (after_start h z) z
start_reads h x z =
    let code = three_digits h.digits (print_reason h.reason ++ (print_end h.line_end ++ z)) x.digits.0 x.digits.1 in (
      (h.blank, (h.minor, (tt, (code.0, (h.reason, h.line_end))))),
      (_, (refl, refl), (_, (x.minor, refl), (_, refl, (_, code.2, (x.reason, refl))))),
    )

pub start_append : (h : ResponseHead) (z y : List ℕ) → after_start h z ++ y ≡ after_start h (z ++ y)
start_append h z y = go (print_blank h.blank) (print_version h.minor) h.digits (print_reason h.reason) (print_end h.line_end)
  where
    go : (a b c d e : List ℕ) → (a ++ (b ++ 32 ∷ (c ++ (d ++ (e ++ z))))) ++ y ≡ a ++ (b ++ 32 ∷ (c ++ (d ++ (e ++ (z ++ y)))))
    go a b c d e = simp append_assoc

full_never : (h : ResponseHead) → IsResponseHead h → (t : List ℕ) → Full 64 t → NeverHasHead (after_start h t)
full_never h x t (fs, c, v, all, is, token, many) more k rest holds =
    let p = response_pieces (after_start h t ++ more) k rest holds.reads in
    let mine = start_reads h x t in
    let longer = ResponseStart_deterministic.append mine.0 (after_start h t) t more mine.1 in
    let same = ResponseStart_deterministic.unique mine.0 p.0.0 (after_start h t ++ more) (t ++ more) p.2.0 longer p.2.1 in
    let fields : p.0.1.0 ≡ k.fields = ap (λ (g : ResponseHead). g.fields) p.1 in
    let last : p.0.1.1 ≡ k.last = ap (λ (g : ResponseHead). g.last) p.1 in
    let found : ReadsSection p.2.0 k.fields k.last rest = subst (λ (l : LineEnd). ReadsSection p.2.0 k.fields l rest) last (subst (λ (gs : List Field). ReadsSection p.2.0 gs p.0.1.1 rest) fields p.2.2) in
    let sec : Section (k.fields, k.last) (t ++ more) rest = subst (λ (m : List ℕ). ReadsSection m k.fields k.last rest) (sym same.1) found in
    let skip = Section_skip fs k.fields k.last (t ++ more) ((c ∷ v) ++ more) rest (all, front-append t (flat_map print_field fs) (c ∷ v) more is) sec in
    go skip.0 skip.1 skip.2
  where
    go : (hs : List Field) → k.fields ≡ fs ++ hs → Section (hs, k.last) (c ∷ (v ++ more)) rest → ⊥
    go [] e s = newline_not_stopped k.last rest (c ∷ (v ++ more)) (sym s.1) (token_is_no_newline c token)
    go (g ∷ hs) e s =
        let n : length k.fields ≡ length fs + length (g ∷ hs) = ap (λ (l : List Field). length l) e ∙ length-append fs (g ∷ hs) in
        let few = holds.few in
        let z : length (g ∷ hs) ≡ length hs + 1 = omega arith in
        omega (arith, n, few, z, many)

room_begins : (h : ResponseHead) → IsResponseHead h → (t : List ℕ) → Room 64 t → BeginsAHead (after_start h t)
room_begins h x t (fs, last, more, all, is, few) =
    let k : ResponseHead = record { blank = h.blank; minor = h.minor; digits = h.digits; reason = h.reason; line_end = h.line_end; fields = fs; last = last } in
    record {
      more = more;
      head = k;
      holds = record {
        reads = (record { minor = x.minor; digits = x.digits; reason = x.reason; fields = all }, start_append h t more ∙ ap (after_start h) (is ∙ sym (append-nil (print_section fs last))) ∙ sym (print_response-append k []));
        few = few;
      };
    }

count_version : (minor : ℕ) (z : List ℕ) → minor ≤ 1 → count_lines at_start (print_version minor ++ 32 ∷ z) ≡ count_lines (in_line 0) z
count_version zero z x = refl
count_version (suc zero) z x = refl
count_version (suc (suc n)) z x = absurd (omega (arith, x))

count_digits : (digits z : List ℕ) → AllPass is_ascii_digit digits → count_lines (in_line 0) (digits ++ z) ≡ count_lines (in_line 0) z
count_digits digits z x = count_append (in_line 0) digits z ∙ ap (λ (s : Lines). count_lines s z) (count_plain 0 digits (passes_plain is_ascii_digit refl digits x))

count_reason : (reason : Option (List ℕ)) (z : List ℕ) → AllPass is_value_byte (reason_phrase reason) → count_lines (in_line 0) (print_reason reason ++ z) ≡ count_lines (in_line 0) z
count_reason None z x = refl
count_reason (Some phrase) z x = count_append (in_line 0) phrase z ∙ ap (λ (s : Lines). count_lines s z) (count_plain 0 phrase (passes_plain is_value_byte refl phrase x))

count_start_text : (h : ResponseHead) → IsResponseHead h → (z : List ℕ) → count_lines at_start (after_start h z) ≡ count_lines (at_line 1) z
count_start_text h x z =
    count_blank h.blank (print_version h.minor ++ 32 ∷ (h.digits ++ (print_reason h.reason ++ (print_end h.line_end ++ z))))
    ∙ count_version h.minor (h.digits ++ (print_reason h.reason ++ (print_end h.line_end ++ z))) x.minor
    ∙ count_digits h.digits (print_reason h.reason ++ (print_end h.line_end ++ z)) x.digits.1
    ∙ count_reason h.reason (print_end h.line_end ++ z) x.reason
    ∙ count_append (in_line 0) (print_end h.line_end) z ∙ ap (λ (s : Lines). count_lines s z) (count_end 0 h.line_end)

abbrev pub HeadJudged : List ℕ → Type 0
HeadJudged b = ((is_over (count_lines at_start b) ≡ false) × BeginsAHead b) ⊎ ((is_over (count_lines at_start b) ≡ true) × NeverHasHead b)

few_lines : (s : Lines) → s.ended ≤ 1 → is_over s ≡ false
few_lines s a = over_no s (omega (arith, a)) (λ _. omega (arith, a))

pub head_judged : (b : List ℕ) → HasNoResponse b → MayBecomeResponse b → HeadJudged b
head_judged b none (more, h, (x, is)) = choose (split_at (after_start h []) b (print_section h.fields h.last) more (sym e))
  where
    e : b ++ more ≡ after_start h [] ++ print_section h.fields h.last
    e = is ∙ print_response-append h [] ∙ ap (after_start h) (append-nil (print_section h.fields h.last)) ∙ sym (start_append h [] (print_section h.fields h.last))

    some : more ≢ []
    some i = none h [] (x, sym (append-nil b) ∙ ap (λ (v : List ℕ). b ++ v) (sym i) ∙ is)

    after : (m : List ℕ) → b ≡ after_start h m → Judged 64 (count_lines (at_line 1) m) m → HeadJudged b
    after m y (inl (o, room)) = inl (subst (λ (s : Lines). is_over s ≡ false) (sym (ap (count_lines at_start) y ∙ count_start_text h x m)) o, subst BeginsAHead (sym y) (room_begins h x m room))
    after m y (inr (o, full)) = inr (subst (λ (s : Lines). is_over s ≡ true) (sym (ap (count_lines at_start) y ∙ count_start_text h x m)) o, subst NeverHasHead (sym y) (full_never h x m full))

    choose : ((m : List ℕ) × (b ≡ after_start h [] ++ m) × (print_section h.fields h.last ≡ m ++ more)) ⊎ ((m : List ℕ) × (after_start h [] ≡ b ++ m) × (more ≡ m ++ print_section h.fields h.last)) → HeadJudged b
    choose (inl (m, y, z)) = after m (y ∙ start_append h [] m) (section_judged h.fields h.last 64 1 m more refl x.fields (sym z) some)
    choose (inr (m, y, z)) =
        let k : count_lines at_start (b ++ m) ≡ at_line 1 = ap (count_lines at_start) (sym y) ∙ count_start_text h x [] in
        let g : (count_lines at_start b).ended ≤ (count_lines (count_lines at_start b) m).ended = lines_grow (count_lines at_start b) m in
        let a : count_lines at_start (b ++ m) ≡ count_lines (count_lines at_start b) m = count_append at_start b m in
        let n : (count_lines (count_lines at_start b) m).ended ≡ 1 = ap (λ (s : Lines). s.ended) (sym a ∙ k) in
        let short : ResponseHead = record { blank = h.blank; minor = h.minor; digits = h.digits; reason = h.reason; line_end = h.line_end; fields = []; last = lf } in
        inl (
          few_lines (count_lines at_start b) (omega (arith, g, n)),
          record {
            more = m ++ 10 ∷ [];
            head = short;
            holds = record {
              reads = (record { minor = x.minor; digits = x.digits; reason = x.reason; fields = All-nil IsField }, sym (append_assoc b m (10 ∷ [])) ∙ ap (λ (v : List ℕ). v ++ 10 ∷ []) (sym y) ∙ start_append h [] (10 ∷ []) ∙ sym (print_response-append short []));
              few = omega arith;
            };
          },
        )

pub head_bad : (b : List ℕ) → HeadJudged b → is_over (count_lines at_start b) ≡ true → NeverHasHead b
head_bad b (inl (o, h)) e = absurd (cc)
head_bad b (inr (o, h)) e = h

pub head_open : (b : List ℕ) → HeadJudged b → is_over (count_lines at_start b) ≡ false → BeginsAHead b
head_open b (inl (o, h)) e = h
head_open b (inr (o, h)) e = absurd (cc)
