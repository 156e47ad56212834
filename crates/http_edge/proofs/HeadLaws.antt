-- What a head that is not whole yet may become.
use Rattle.std.proofs.Common.{◌≡◌, ◌≢◌, ℕ, zero, suc, ◌+◌, ◌<◌, ◌≤◌, Bool, true, false, List, [], ◌∷◌, ◌++◌, length, length-append, refl, sym, ap, ◌∙◌, subst, arith, append_assoc, append-nil, inl, inr}
use Rattle.std.specs.Prelude.{◌⊎◌, All, nat_lt, ◌&&◌, ◌||◌}
use Rattle.std.specs.List.{flat_map}
use Rattle.std.proofs.lemmas.List.Elements.{All-cons, All-nil, All-head, All-tail, All-append}
use Rattle.std.proofs.lemmas.Bool.{false≢true, ltb-true, ltb-false}
use Rattle.httparse.specs.Grammar.{is_token_byte, is_uri_byte, is_value_byte, AllPass, IsToken, LineEnd, crlf, lf, print_end, print_blank, print_version, Field, print_field, IsField, print_section, RequestHead, IsRequestHead, HasNoRequest, MayBecomeRequest, EndsInTarget}
use Rattle.httparse.specs.Pieces.{Section, RequestStart}
use Rattle.httparse.proofs.PieceLemmas.{RequestStart_deterministic, Section_skip, Stops_token, token_is_no_newline, newline_not_stopped, front-append}
use Rattle.httparse.proofs.GrammarLemmas.{request_tree, request_pieces, print_request-append}
use Rattle.std.specs.Prelude.{Result, Ok}
use Rattle.httparse.specs.declared.Status.{Status}
use Rattle.httparse.specs.declared.Status.TheVariants.{Partial}
use Rattle.httparse.specs.Outcome.{OnPartial}
use Rattle.http_edge.specs.Heads.{NeverHasHead, BeginsAHead}
use Rattle.http_edge.specs.declared.lines.Lines.{Lines}
use Rattle.http_edge.specs.declared.lines.LastLine.TheVariants.{Return}
use Rattle.http_edge.specs.LineCount.{count_lines, at_line, at_start, is_over, is_text}
use Rattle.http_edge.proofs.LineLaws.{count_append, lines_grow, NotLf, in_line, passes_plain, count_plain, count_open, token_lf, count_first, count_start, count_end}

pub over_no : (s : Lines) → s.ended ≤ 65 → (is_text s.last ≡ true → s.ended ≤ 64) → is_over s ≡ false
over_no s a b = go (nat_lt 65 s.ended) refl (nat_lt 64 s.ended) refl (is_text s.last) refl
  where
    go : (p : Bool) → nat_lt 65 s.ended ≡ p → (q : Bool) → nat_lt 64 s.ended ≡ q → (r : Bool) → is_text s.last ≡ r → (p || (q && r)) ≡ false
    go true x q y r z = let i = ltb-true 65 s.ended x in absurd (omega (arith, a, i))
    go false x false y r z = refl
    go false x true y false z = refl
    go false x true y true z = let i = ltb-true 64 s.ended y in let j = b z in absurd (omega (arith, i, j))

pub over_yes : (s : Lines) → 64 < s.ended → (65 < s.ended) ⊎ (is_text s.last ≡ true) → is_over s ≡ true
over_yes s a b = go (nat_lt 65 s.ended) refl (nat_lt 64 s.ended) refl (is_text s.last) refl b
  where
    go : (p : Bool) → nat_lt 65 s.ended ≡ p → (q : Bool) → nat_lt 64 s.ended ≡ q → (r : Bool) → is_text s.last ≡ r → (65 < s.ended) ⊎ (is_text s.last ≡ true) → (p || (q && r)) ≡ true
    go true x q y r z h = refl
    go false x false y r z h = let i = ltb-false 64 s.ended y in absurd (omega (arith, a, i))
    go false x true y true z h = refl
    go false x true y false z (inl h) = let i = ltb-false 65 s.ended x in absurd (omega (arith, h, i))
    go false x true y false z (inr h) = absurd (false≢true (sym z ∙ h))

-- two splits of one list
pub split_at : (a b x y : List ℕ) → a ++ x ≡ b ++ y → ((m : List ℕ) × (b ≡ a ++ m) × (x ≡ m ++ y)) ⊎ ((m : List ℕ) × (a ≡ b ++ m) × (y ≡ m ++ x))
split_at [] b x y e = inl (b, refl, e)
split_at (c ∷ a) [] x y e = inr (c ∷ a, refl, sym e)
split_at (c ∷ a) (d ∷ b) x y e = let i : c ≡ d = cc in go i (split_at a b x y (cc))
  where
    go : c ≡ d → ((m : List ℕ) × (b ≡ a ++ m) × (x ≡ m ++ y)) ⊎ ((m : List ℕ) × (a ≡ b ++ m) × (y ≡ m ++ x)) → ((m : List ℕ) × (d ∷ b ≡ c ∷ (a ++ m)) × (x ≡ m ++ y)) ⊎ ((m : List ℕ) × (c ∷ a ≡ d ∷ (b ++ m)) × (y ≡ m ++ x))
    go i (inl (m, p, q)) = inl (m, cc, q)
    go i (inr (m, p, q)) = inr (m, cc, q)

-- bytes that may become a section of at most r fields
abbrev pub Room : ℕ → List ℕ → Type 0
Room r t = (fs : List Field) × (last : LineEnd) × (more : List ℕ) × All IsField fs × (t ++ more ≡ print_section fs last) × (length fs ≤ r)

-- bytes with r field lines and the beginning of a further one
abbrev pub Full : ℕ → List ℕ → Type 0
Full r t = (fs : List Field) × (c : ℕ) × (v : List ℕ) × All IsField fs × (t ≡ flat_map print_field fs ++ c ∷ v) × (is_token_byte c ≡ true) × (r ≤ length fs)

abbrev pub Judged : ℕ → Lines → List ℕ → Type 0
Judged r s t = ((is_over s ≡ false) × Room r t) ⊎ ((is_over s ≡ true) × Full r t)

-- the text of a start line, and what follows
abbrev pub start_text : RequestHead → List ℕ → List ℕ
start_text h z = print_blank h.blank ++ (h.method ++ 32 ∷ (h.target ++ 32 ∷ (print_version h.minor ++ (print_end h.line_end ++ z))))

pub start_reads : (h : RequestHead) → IsRequestHead h → (z : List ℕ) → RequestStart (request_tree h).0 (start_text h z) z
start_reads h x z = (_, (refl, Stops_token h.method _ x.method.0 x.method.1), (_, (x.method.0, x.method.1, refl), (_, ((x.target.0, x.target.1, refl), x.target_text), (_, (x.minor, refl), refl))))

pub start_append : (h : RequestHead) (z y : List ℕ) → start_text h z ++ y ≡ start_text h (z ++ y)
start_append h z y = go (print_blank h.blank) h.method h.target (print_version h.minor) (print_end h.line_end)
  where
    go : (a b c d e : List ℕ) → (a ++ (b ++ 32 ∷ (c ++ 32 ∷ (d ++ (e ++ z))))) ++ y ≡ a ++ (b ++ 32 ∷ (c ++ 32 ∷ (d ++ (e ++ (z ++ y)))))
    go a b c d e = simp append_assoc

pub full_never : (h : RequestHead) → IsRequestHead h → (t : List ℕ) → Full 64 t → NeverHasHead (start_text h t)
full_never h x t (fs, c, v, all, is, token, many) more k rest holds =
    let p = request_pieces (start_text h t ++ more) k rest holds.reads in
    let mine = RequestStart_deterministic.append (request_tree h).0 (start_text h t) t more (start_reads h x t) in
    let same = RequestStart_deterministic.unique (request_tree h).0 (request_tree k).0 (start_text h t ++ more) (t ++ more) p.0 mine p.1 in
    let sec : Section (k.fields, k.last) (t ++ more) rest = subst (λ (m : List ℕ). Section (k.fields, k.last) m rest) (sym same.1) p.2 in
    let skip = Section_skip fs k.fields k.last (t ++ more) ((c ∷ v) ++ more) rest (all, front-append t (flat_map print_field fs) (c ∷ v) more is) sec in
    go skip.0 skip.1 skip.2
  where
    go : (hs : List Field) → k.fields ≡ fs ++ hs → Section (hs, k.last) (c ∷ (v ++ more)) rest → ⊥
    go [] e s = newline_not_stopped k.last rest (c ∷ (v ++ more)) (sym s.1) (token_is_no_newline c token)
    go (g ∷ hs) e s =
        let n : length k.fields ≡ length fs + length (g ∷ hs) = ap (λ (l : List Field). length l) e ∙ length-append fs (g ∷ hs) in
        let few = holds.few in
        let z : length (g ∷ hs) ≡ length hs + 1 = omega arith in
        omega (arith, n, few, z, many)

pub room_begins : (h : RequestHead) → IsRequestHead h → (t : List ℕ) → Room 64 t → BeginsAHead (start_text h t)
room_begins h x t (fs, last, more, all, is, few) =
    let k : RequestHead = record { blank = h.blank; method = h.method; target = h.target; minor = h.minor; line_end = h.line_end; fields = fs; last = last } in
    record {
      more = more;
      head = k;
      holds = record {
        reads = (record { method = x.method; target = x.target; target_text = x.target_text; minor = x.minor; fields = all }, start_append h t more ∙ ap (start_text h) (is ∙ sym (append-nil (print_section fs last))) ∙ sym (print_request-append k []));
        few = few;
      };
    }

-- a field line is a first byte, bytes that are no LF, and a line end
pub field_line : (f : Field) → IsField f → (c : ℕ) × (w : List ℕ) × (is_token_byte c ≡ true) × All NotLf w × (print_field f ≡ c ∷ (w ++ print_end f.end))
field_line f x = go f.name x.name.0 x.name.1
  where
    go : (name : List ℕ) → 0 < length name → AllPass is_token_byte name → (c : ℕ) × (w : List ℕ) × (is_token_byte c ≡ true) × All NotLf w × (name ++ 58 ∷ f.raw ++ print_end f.end ≡ c ∷ (w ++ print_end f.end))
    go [] some all = absurd (omega (arith, some))
    go (c ∷ name) some all = (
      c,
      name ++ 58 ∷ f.raw,
      All-head (λ v. is_token_byte v ≡ true) c name all,
      All-append NotLf name (58 ∷ f.raw) (passes_plain is_token_byte token_lf name (All-tail (λ v. is_token_byte v ≡ true) c name all)) (All-cons NotLf 58 f.raw refl (passes_plain is_value_byte refl f.raw x.raw)),
      refl,
    )

-- a field line that is not whole yet
short_judged : (f : Field) → IsField f → (r l : ℕ) (b : ℕ) (t : List ℕ) (x : ℕ) (m : List ℕ) → r + l ≡ 65 → is_token_byte b ≡ true → print_field f ≡ (b ∷ t) ++ x ∷ m → count_lines (at_line l) (b ∷ t) ≡ in_line l → Judged r (count_lines (at_line l) (b ∷ t)) (b ∷ t)
short_judged f f_is zero l b t x m e token is k = inr (subst (λ (s : Lines). is_over s ≡ true) (sym k) (over_yes (in_line l) (omega (arith, e)) (inr refl)), ([], b, t, All-nil IsField, refl, token, omega arith))
short_judged f f_is (suc r) l b t x m e token is k = inl (subst (λ (s : Lines). is_over s ≡ false) (sym k) (over_no (in_line l) (omega (arith, e)) (λ _. omega (arith, e))), (f ∷ [], lf, (x ∷ m) ++ 10 ∷ [], All-cons IsField f [] f_is (All-nil IsField), sym (append_assoc (b ∷ t) (x ∷ m) (10 ∷ [])) ∙ ap (λ (z : List ℕ). z ++ 10 ∷ []) (sym is ∙ sym (append-nil (print_field f))), omega arith))

-- a whole field line, and then what is judged
long_judged : (f : Field) (fs : List Field) (last : LineEnd) → IsField f → (r l : ℕ) (b : ℕ) (t m : List ℕ) → r + l ≡ 65 → is_token_byte b ≡ true → b ∷ t ≡ print_field f ++ m → count_lines (at_line l) (b ∷ t) ≡ count_lines (at_line (l + 1)) m → ((r l : ℕ) → r + l ≡ 65 → Judged r (count_lines (at_line l) m) m) → Judged r (count_lines (at_line l) (b ∷ t)) (b ∷ t)
long_judged f fs last f_is zero l b t m e token is k ih =
    let g : l + 1 ≤ (count_lines (at_line (l + 1)) m).ended = lines_grow (at_line (l + 1)) m in
    inr (subst (λ (s : Lines). is_over s ≡ true) (sym k) (over_yes (count_lines (at_line (l + 1)) m) (omega (arith, e, g)) (inl (omega (arith, e, g)))), ([], b, t, All-nil IsField, refl, token, omega arith))
long_judged f fs last f_is (suc r) l b t m e token is k ih = go (ih r (l + 1) (omega (arith, e)))
  where
    go : Judged r (count_lines (at_line (l + 1)) m) m → Judged (suc r) (count_lines (at_line l) (b ∷ t)) (b ∷ t)
    go (inl (o, (gs, end, more, all, q, few))) = inl (subst (λ (s : Lines). is_over s ≡ false) (sym k) o, (f ∷ gs, end, more, All-cons IsField f gs f_is all, ap (λ (z : List ℕ). z ++ more) is ∙ append_assoc (print_field f) m more ∙ ap (λ (z : List ℕ). print_field f ++ z) q ∙ sym (append_assoc (print_field f) (flat_map print_field gs) (print_end end)), omega (arith, few)))
    go (inr (o, (gs, c, v, all, q, first, many))) = inr (subst (λ (s : Lines). is_over s ≡ true) (sym k) o, (f ∷ gs, c, v, All-cons IsField f gs f_is all, is ∙ ap (λ (z : List ℕ). print_field f ++ z) q ∙ sym (append_assoc (print_field f) (flat_map print_field gs) (c ∷ v)), first, omega (arith, many)))

-- bytes that begin a section, after so many lines
pub section_judged : (fs : List Field) (last : LineEnd) (r l : ℕ) (t more : List ℕ) → r + l ≡ 65 → All IsField fs → t ++ more ≡ print_section fs last → more ≢ [] → Judged r (count_lines (at_line l) t) t
section_judged fs last r l [] more e all q n = inl (over_no (at_line l) (omega (arith, e)) (λ i. absurd (false≢true i)), ([], lf, 10 ∷ [], All-nil IsField, refl, omega arith))
section_judged [] crlf r l (c ∷ []) more e all q n = let i : c ≡ 13 = cc in rw i (inl (over_no (record { started = true; ended = l; last = Return }) (omega (arith, e)) (λ i. absurd (false≢true i)), ([], crlf, 10 ∷ [], All-nil IsField, refl, omega arith)))
section_judged [] crlf r l (c ∷ d ∷ []) more e all q n = absurd (n (cc))
section_judged [] crlf r l (c ∷ d ∷ x ∷ t) more e all q n = absurd (cc)
section_judged [] lf r l (c ∷ []) more e all q n = absurd (n (cc))
section_judged [] lf r l (c ∷ d ∷ t) more e all q n = absurd (cc)
section_judged (f ∷ fs) last r l (b ∷ t) more e all q n = go line.0 line.1 line.2 line.3 line.4 (λ m r l e q. section_judged fs last r l m more e (All-tail IsField f fs all) q n)
  where
    f_is : IsField f
    f_is = All-head IsField f fs all

    line : (c : ℕ) × (w : List ℕ) × (is_token_byte c ≡ true) × All NotLf w × (print_field f ≡ c ∷ (w ++ print_end f.end))
    line = field_line f f_is

    go : (c : ℕ) (w : List ℕ) → is_token_byte c ≡ true → All NotLf w → print_field f ≡ c ∷ (w ++ print_end f.end) → ((m : List ℕ) (r l : ℕ) → r + l ≡ 65 → m ++ more ≡ print_section fs last → Judged r (count_lines (at_line l) m) m) → Judged r (count_lines (at_line l) (b ∷ t)) (b ∷ t)
    go c w token plain is ih =
        let pe = print_end f.end in
        let q2 : b ∷ (t ++ more) ≡ c ∷ ((w ++ pe) ++ print_section fs last) = q ∙ append_assoc (print_field f) (flat_map print_field fs) (print_end last) ∙ ap (λ (z : List ℕ). z ++ print_section fs last) is in
        let i : c ≡ b = cc in
        let q3 : t ++ more ≡ (w ++ pe) ++ print_section fs last = cc in
        let tb : is_token_byte b ≡ true = subst (λ (v : ℕ). is_token_byte v ≡ true) i token in
        let first : count_lines (at_line l) (b ∷ t) ≡ count_lines (in_line l) t = ap (λ (s : Lines). count_lines s t) (count_first l b tb) in
        choose tb first (is ∙ ap (λ (v : ℕ). v ∷ (w ++ pe)) i) (split_at t (w ++ pe) more (print_section fs last) q3)
      where
        long : is_token_byte b ≡ true → count_lines (at_line l) (b ∷ t) ≡ count_lines (in_line l) t → print_field f ≡ b ∷ (w ++ print_end f.end) → (m : List ℕ) → t ≡ (w ++ print_end f.end) ++ m → print_section fs last ≡ m ++ more → Judged r (count_lines (at_line l) (b ∷ t)) (b ∷ t)
        long tb first pf m y z =
            let count : count_lines (in_line l) t ≡ count_lines (at_line (l + 1)) m = ap (count_lines (in_line l)) y ∙ count_append (in_line l) (w ++ print_end f.end) m ∙ ap (λ (s : Lines). count_lines s m) (count_append (in_line l) w (print_end f.end) ∙ ap (λ (s : Lines). count_lines s (print_end f.end)) (count_plain l w plain) ∙ count_end l f.end) in
            long_judged f fs last f_is r l b t m e tb (ap (λ (v : List ℕ). b ∷ v) y ∙ ap (λ (v : List ℕ). v ++ m) (sym pf)) (first ∙ count) (λ r l e. ih m r l e (sym z))

        choose : is_token_byte b ≡ true → count_lines (at_line l) (b ∷ t) ≡ count_lines (in_line l) t → print_field f ≡ b ∷ (w ++ print_end f.end) → ((m : List ℕ) × (w ++ print_end f.end ≡ t ++ m) × (more ≡ m ++ print_section fs last)) ⊎ ((m : List ℕ) × (t ≡ (w ++ print_end f.end) ++ m) × (print_section fs last ≡ m ++ more)) → Judged r (count_lines (at_line l) (b ∷ t)) (b ∷ t)
        choose tb first pf (inl ([], y, z)) = long tb first pf [] (sym (append-nil t) ∙ sym y ∙ sym (append-nil (w ++ print_end f.end))) (sym z)
        choose tb first pf (inl (x ∷ m, y, z)) = short_judged f f_is r l b t x m e tb (pf ∙ ap (λ (v : List ℕ). b ∷ v) y) (first ∙ count_open l w f.end t (x ∷ m) plain (sym y) (λ h. cc))
        choose tb first pf (inr (m, y, z)) = long tb first pf m y z

pub count_blank : (ends : List LineEnd) (z : List ℕ) → count_lines at_start (print_blank ends ++ z) ≡ count_lines at_start z
count_blank [] z = refl
count_blank (crlf ∷ ends) z = count_blank ends z
count_blank (lf ∷ ends) z = count_blank ends z

-- a method begins the start line
pub count_method : (method z : List ℕ) → IsToken method → count_lines at_start (method ++ z) ≡ count_lines (in_line 0) z
count_method [] z x = absurd (omega (arith, x.0))
count_method (c ∷ method) z x = ap (λ (s : Lines). count_lines s (method ++ z)) (count_start c (All-head (λ v. is_token_byte v ≡ true) c method x.1)) ∙ count_append (in_line 0) method z ∙ ap (λ (s : Lines). count_lines s z) (count_plain 0 method (passes_plain is_token_byte token_lf method (All-tail (λ v. is_token_byte v ≡ true) c method x.1)))

pub count_target : (target z : List ℕ) → AllPass is_uri_byte target → count_lines (in_line 0) (32 ∷ (target ++ z)) ≡ count_lines (in_line 0) z
count_target target z x = count_append (in_line 0) target z ∙ ap (λ (s : Lines). count_lines s z) (count_plain 0 target (passes_plain is_uri_byte refl target x))

pub count_version : (minor : ℕ) (z : List ℕ) → minor ≤ 1 → count_lines (in_line 0) (32 ∷ (print_version minor ++ z)) ≡ count_lines (in_line 0) z
count_version zero z x = refl
count_version (suc zero) z x = refl
count_version (suc (suc n)) z x = absurd (omega (arith, x))

pub count_start_text : (h : RequestHead) → IsRequestHead h → (z : List ℕ) → count_lines at_start (start_text h z) ≡ count_lines (at_line 1) z
count_start_text h x z =
    count_blank h.blank (h.method ++ 32 ∷ (h.target ++ 32 ∷ (print_version h.minor ++ (print_end h.line_end ++ z))))
    ∙ count_method h.method (32 ∷ (h.target ++ 32 ∷ (print_version h.minor ++ (print_end h.line_end ++ z)))) x.method
    ∙ count_target h.target (32 ∷ (print_version h.minor ++ (print_end h.line_end ++ z))) x.target.1
    ∙ count_version h.minor (print_end h.line_end ++ z) x.minor
    ∙ count_append (in_line 0) (print_end h.line_end) z ∙ ap (λ (s : Lines). count_lines s z) (count_end 0 h.line_end)

abbrev pub HeadJudged : List ℕ → Type 0
HeadJudged b = ((is_over (count_lines at_start b) ≡ false) × (BeginsAHead b ⊎ EndsInTarget b)) ⊎ ((is_over (count_lines at_start b) ≡ true) × NeverHasHead b)

few_lines : (s : Lines) → s.ended ≤ 1 → is_over s ≡ false
few_lines s a = over_no s (omega (arith, a)) (λ _. omega (arith, a))

pub head_judged : (b : List ℕ) → HasNoRequest b → MayBecomeRequest b → HeadJudged b
head_judged b none (inr (blank, method, target, method_is, target_is, is)) =
    let k : count_lines at_start b ≡ in_line 0 = ap (count_lines at_start) (is ∙ append_assoc (print_blank blank) method (32 ∷ target) ∙ ap (λ (v : List ℕ). print_blank blank ++ (method ++ 32 ∷ v)) (sym (append-nil target))) ∙ count_blank blank (method ++ 32 ∷ (target ++ [])) ∙ count_method method (32 ∷ (target ++ [])) method_is ∙ count_target target [] target_is in
    inl (subst (λ (s : Lines). is_over s ≡ false) (sym k) (few_lines (in_line 0) (omega arith)), inr (blank, method, target, method_is, target_is, is))
head_judged b none (inl (more, h, (x, is))) = choose (split_at (start_text h []) b (print_section h.fields h.last) more (sym e))
  where
    e : b ++ more ≡ start_text h [] ++ print_section h.fields h.last
    e = is ∙ print_request-append h [] ∙ ap (start_text h) (append-nil (print_section h.fields h.last)) ∙ sym (start_append h [] (print_section h.fields h.last))

    some : more ≢ []
    some i = none h [] (x, sym (append-nil b) ∙ ap (λ (v : List ℕ). b ++ v) (sym i) ∙ is)

    after : (m : List ℕ) → b ≡ start_text h m → Judged 64 (count_lines (at_line 1) m) m → HeadJudged b
    after m y (inl (o, room)) = inl (subst (λ (s : Lines). is_over s ≡ false) (sym (ap (count_lines at_start) y ∙ count_start_text h x m)) o, inl (subst BeginsAHead (sym y) (room_begins h x m room)))
    after m y (inr (o, full)) = inr (subst (λ (s : Lines). is_over s ≡ true) (sym (ap (count_lines at_start) y ∙ count_start_text h x m)) o, subst NeverHasHead (sym y) (full_never h x m full))

    choose : ((m : List ℕ) × (b ≡ start_text h [] ++ m) × (print_section h.fields h.last ≡ m ++ more)) ⊎ ((m : List ℕ) × (start_text h [] ≡ b ++ m) × (more ≡ m ++ print_section h.fields h.last)) → HeadJudged b
    choose (inl (m, y, z)) = after m (y ∙ start_append h [] m) (section_judged h.fields h.last 64 1 m more refl x.fields (sym z) some)
    choose (inr (m, y, z)) =
        let k : count_lines at_start (b ++ m) ≡ at_line 1 = ap (count_lines at_start) (sym y) ∙ count_start_text h x [] in
        let g : (count_lines at_start b).ended ≤ (count_lines (count_lines at_start b) m).ended = lines_grow (count_lines at_start b) m in
        let a : count_lines at_start (b ++ m) ≡ count_lines (count_lines at_start b) m = count_append at_start b m in
        let n : (count_lines (count_lines at_start b) m).ended ≡ 1 = ap (λ (s : Lines). s.ended) (sym a ∙ k) in
        inl (
          few_lines (count_lines at_start b) (omega (arith, g, n)),
          inl (record {
            more = m ++ 10 ∷ [];
            head = record { blank = h.blank; method = h.method; target = h.target; minor = h.minor; line_end = h.line_end; fields = []; last = lf };
            holds = record {
              reads = (record { method = x.method; target = x.target; target_text = x.target_text; minor = x.minor; fields = All-nil IsField }, sym (append_assoc b m (10 ∷ [])) ∙ ap (λ (v : List ℕ). v ++ 10 ∷ []) (sym y) ∙ start_append h [] (10 ∷ []) ∙ sym (print_request-append (record { blank = h.blank; method = h.method; target = h.target; minor = h.minor; line_end = h.line_end; fields = []; last = lf }) []));
              few = omega arith;
            };
          }),
        )

pub head_bad : (b : List ℕ) → HeadJudged b → is_over (count_lines at_start b) ≡ true → NeverHasHead b
head_bad b (inl (o, h)) e = absurd (cc)
head_bad b (inr (o, h)) e = h

pub head_open : (b : List ℕ) → HeadJudged b → is_over (count_lines at_start b) ≡ false → BeginsAHead b ⊎ EndsInTarget b
head_open b (inl (o, h)) e = h
head_open b (inr (o, h)) e = absurd (cc)

pub on_partial : {A E : Type 0} (P : Type 0) (r : Result (Status A) E) (s : Status A) → r ≡ Ok s → s ≡ Partial → OnPartial r P → P
on_partial {E} P r s e f h = subst (λ q. OnPartial q P) (e ∙ ap (λ v. Ok v) f) h
