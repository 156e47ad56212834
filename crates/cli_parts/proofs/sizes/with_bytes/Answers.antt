use Rattle.std.proofs.Common.{◌≡◌, ◌∙◌, ◌-◌, ◌<◌, ◌≤◌, Global, ℕ, List, [], ◌++◌, Some, length, get_or, map, take, drop, set, string_bytes, inr, sym, ap, subst, arith}
use Rattle.std.specs.Fmt.{decimal}
use Rattle.std.proofs.lemmas.List.{take_all, drop_all, append-nil, length-map, get_or-map}
use Rattle.cli_parts.specs.RunOptions.{Text}
use Rattle.cli_parts.specs.Sizes.{HaveBytes, bytes_in}
use Rattle.cli_parts.proofs.sizes.with_bytes.Goals as goal

-- all of the list, where none is left of the old one
whole : {X : Type 0} (len : ℕ) (new old : List X) → len ≡ length old → length new ≡ length old → take len (new ++ drop (length new) old) ≡ new
whole len new old is same =
    ap (λ l. take len (new ++ l)) (drop_all (length new) old (omega (arith, same))) ∙ ap (take len) (append-nil new) ∙ take_all len new (omega (arith, is, same))

-- the last of some words, which has a unit, gives way to its bytes
put : {X : Type 0} (f : X → Text) (old now new : List X) (last : X) (len at bytes : ℕ) (word text : Text) → now ≡ old → len ≡ length old → at ≡ len - 1
    → length new ≡ length now → map f new ≡ set (map f now) at text → text ≡ decimal bytes → 0 < length old → get_or old (length old - 1) last ≡ last
    → word ≡ f last → bytes_in word ≡ Some bytes → HaveBytes (map f old) (map f (take len (new ++ drop (length new) old)))
put f old now new last len at bytes word text is count there same made writes some from of has = inr (
  bytes,
  (let count_of : length (map f old) ≡ length old = length-map old f in
      let here : get_or (map f old) (length (map f old) - 1) [] ≡ word =
      ap (λ n. get_or (map f old) (n - 1) []) count_of ∙ get_or-map f old (length old - 1) last [] (omega (arith, some)) ∙ ap f from ∙ sym of in
      ap bytes_in here ∙ has),
  (let place : at ≡ length (map f old) - 1 = omega (arith, there, count, length-map old f) in
      ap (map f) (whole len new old count (same ∙ ap length is)) ∙ made ∙ ap (λ l. set (map f l) at text) is
      ∙ ap (λ n. set (map f old) n text) place ∙ ap (λ t. set (map f old) (length (map f old) - 1) t) writes),
)

pub returns : goal.returns
returns c =
    let words = c.args.words in
    let last = c.in-Some-Some.last in
    let item = c.in-Some-Some.ensures'.item in
    put (string_bytes {Z = Global}) words.items c.deref_mut.result.now c.put_text.new.words last.now words.len (c.len-at.result - 1) c.in-Some.bytes
    c.as_str-2.result.now c.as_str-3.result.now c.deref_mut.ensures.value words.ok.0 (ap (λ n. n - 1) c.len-at.ensures) c.in_ok-put_text.ensures.count
    c.in_ok-put_text.ensures.put (c.as_str-3.ensures.value ∙ c.in_ok-text.ensures.ok) (subst (λ l. 0 < length l) c.deref-2.ensures.value item.3.0)
    (sym (subst (λ l. last.now ≡ get_or l (length l - 1) last.now) c.deref-2.ensures.value item.1)) c.as_str-2.ensures.value (sym c.bytes_in.ensures ∙ c.in-Some.is)
