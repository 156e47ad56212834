-- The statuses of replies that are written: each has three digits and a reason that a head may have, and none is an interim one.
use Rattle.std.proofs.Common.{◌≡◌, ℕ, ◌<◌, ◌≤◌, Bool, true, false, IsTrue, List, [], ◌∷◌, length, refl, ap, ◌∙◌, ◌==◌, not, inl, inr}
use Rattle.std.specs.Prelude.{◌⊎◌, nat_le, nat_lt}
use Rattle.std.specs.Fmt.{decimal, digits}
use Rattle.std.specs.List.{list_all, list_any}
use Rattle.std.proofs.lemmas.Bool.{and_parts, eqb-true, false≢true, leb-true, ltb-true, not-true, or_cases}
use Rattle.std.proofs.lemmas.List.Sums.{AllPass-from_list_all}
use Rattle.httparse.specs.Grammar.{AllPass, is_value_byte}
use Rattle.http_edge.specs.Reply.{is_status, reason_of}
use Rattle.http_reply.specs.Sizes.{is_interim}

abbrev statuses : List ℕ
statuses = 200 ∷ 400 ∷ 401 ∷ 403 ∷ 404 ∷ 405 ∷ 500 ∷ 503 ∷ []

here_or_later : (test : ℕ → Bool) (s t : ℕ) (more : Bool) → test t ≡ true → (more ≡ true → test s ≡ true) → ((s == t) ≡ true) ⊎ (more ≡ true) → test s ≡ true
here_or_later test s t more here later (inl e) = ap test (eqb-true s t e) ∙ here
here_or_later test s t more here later (inr e) = later e

-- what each of some numbers passes, one of them does
passed : (test : ℕ → Bool) (s : ℕ) (ts : List ℕ) → list_all test ts ≡ true → list_any (λ t. s == t) ts ≡ true → test s ≡ true
passed test s [] all is = absurd (false≢true is)
passed test s (t ∷ ts) all is =
    let each = and_parts (test t) (list_all test ts) all in
    here_or_later test s t (list_any (λ u. s == u) ts) each.0 (passed test s ts each.1) (or_cases (s == t) (list_any (λ u. s == u) ts) is)

all_three : list_all (λ (s : ℕ). length (decimal s) == 3) statuses ≡ true
unfolding digits
all_three = refl

pub three_digits : (s : ℕ) → IsTrue (is_status s) → length (decimal s) ≡ 3
three_digits s is = eqb-true (length (decimal s)) 3 (passed (λ (t : ℕ). length (decimal t) == 3) s statuses all_three is)

pub reason_passes : (s : ℕ) → IsTrue (is_status s) → AllPass is_value_byte (reason_of s)
reason_passes s is = AllPass-from_list_all is_value_byte (reason_of s) (passed (λ (t : ℕ). list_all is_value_byte (reason_of t)) s statuses refl is)

pub reason_short : (s : ℕ) → IsTrue (is_status s) → length (reason_of s) ≤ 50
reason_short s is = leb-true (length (reason_of s)) 50 (passed (λ (t : ℕ). nat_le (length (reason_of t)) 50) s statuses refl is)

pub not_interim : (s : ℕ) → IsTrue (is_status s) → is_interim s ≡ false
not_interim s is = not-true (is_interim s) (passed (λ (t : ℕ). not (is_interim t)) s statuses refl is)

pub status_small : (s : ℕ) → IsTrue (is_status s) → s < 1000
status_small s is = ltb-true s 1000 (passed (λ (t : ℕ). nat_lt t 1000) s statuses refl is)
