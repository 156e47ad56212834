-- The tokens of lines, read one after the other.
use Rattle.std.proofs.Common.{◌≡◌, ◌∙◌, ℕ, ◌<◌, ◌≤◌, ◌+◌, ◌++◌, ◌∷◌, [], List, length, drop, get_or, map, Bor, codes, refl, sym, ap, arith, append_assoc}
use Rattle.std.specs.Prelude.{false, Option, None, Some, option_map, option_and_then, nat_eq}
use Rattle.std.specs.List.{ends_with}
use Rattle.std.specs.Str.Lines.{lines}
use Rattle.std.proofs.lemmas.Bool.{le-leb, lt-leb}
use Rattle.std.proofs.lemmas.List.{append-nil, drop_more, length-map}
use Rattle.std.proofs.Math.ListN.{drop_of_length-le}
use Rattle.clap.specs.Walk.{Text}
use Rattle.hec_tokens.specs.declared.list.ListedToken.{ListedToken}
use Rattle.bridge_words.specs.Tokens.{guid_token, token_at, tokens_of, tokens_at}

-- a line that doesn't end in `ack`
pub plain : (line : Text) → false ≡ ends_with nat_eq line (codes " ack") → guid_token false line ≡ token_at line
plain line other = rw (← other) refl

-- the tokens that were read before those of other lines
abbrev pub after : List ListedToken → Option (List ListedToken) → Option (List ListedToken)
after read others = option_map (λ tokens. read ++ tokens) others

abbrev before : Option ListedToken → Option (List ListedToken) → Option (List ListedToken)
before token others = option_and_then (λ t. option_map (λ tokens. t ∷ tokens) others) token

-- the texts of lines
abbrev pub texts : List (Bor Text) → List Text
texts lines = map (λ line. line.now) lines

pub begun : (others : Option (List ListedToken)) → others ≡ after [] others
begun None = refl
begun (Some tokens) = refl

joined : (read : List ListedToken) (token : ListedToken) (others : Option (List ListedToken))
    → after read (before (Some token) others) ≡ after (read ++ token ∷ []) others
joined read token None = refl
joined read token (Some tokens) = ap Some (sym (append_assoc read (token ∷ []) tokens))

module _ (lines : List (Bor Text)) (i : ℕ) (read : List ListedToken) (so_far : tokens_of (texts lines) ≡ after read (tokens_of (texts (drop i lines)))) where
  next : (d : Bor Text) → i < length lines
      → tokens_of (texts lines) ≡ after read (before (token_at (get_or lines i d).now) (tokens_of (texts (drop (i + 1) lines))))
  next d less = so_far ∙ ap (λ (left : List (Bor Text)). after read (tokens_of (texts left))) (drop_more lines i d less)

  pub turn : (d : Bor Text) (token : ListedToken) → i < length lines → token_at (get_or lines i d).now ≡ Some token
      → tokens_of (texts lines) ≡ after (read ++ token ∷ []) (tokens_of (texts (drop (i + 1) lines)))
  turn d token less is =
      let others = tokens_of (texts (drop (i + 1) lines)) in
      next d less ∙ ap (λ (t : Option ListedToken). after read (before t others)) is ∙ joined read token others

  pub stop : (d : Bor Text) → i < length lines → token_at (get_or lines i d).now ≡ None → tokens_of (texts lines) ≡ None
  stop d less none =
      next d less ∙ ap (λ (t : Option ListedToken). after read (before t (tokens_of (texts (drop (i + 1) lines))))) none

  pub ended : length lines ≤ i → tokens_of (texts lines) ≡ Some read
  ended all =
      so_far ∙ ap (λ (left : List (Bor Text)). after read (tokens_of (texts left))) (drop_of_length-le lines all) ∙ ap Some (append-nil read)

-- a text of such lines
module _ (text : Text) (found : List (Bor Text)) (is : texts found ≡ lines text) where
  count : length (lines text) ≡ length found
  count = ap (λ (l : List Text). length l) (sym is) ∙ length-map found (λ line. line.now)

  pub within : 1 ≤ length found → length found ≤ 1000 → tokens_at text ≡ tokens_of (texts found)
  within some few =
      let one = le-leb 1 (length (lines text)) (omega (arith, count, some)) in
      let most = le-leb (length (lines text)) 1000 (omega (arith, count, few)) in
      rw (one, most) (ap tokens_of (sym is))

  pub nothing : length found < 1 → tokens_at text ≡ None
  nothing less = let none = lt-leb 1 (length (lines text)) (omega (arith, count, less)) in rw none refl

  pub too_many : 1000 < length found → tokens_at text ≡ None
  too_many more =
      let one = le-leb 1 (length (lines text)) (omega (arith, count, more)) in
      let over = lt-leb (length (lines text)) 1000 (omega (arith, count, more)) in
      rw (one, over) refl
