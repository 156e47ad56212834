-- How words are read, one after another, where options of a run stand among them.
use Rattle.std.proofs.Common.{◌≡◌, ◌∙◌, ◌-◌, ◌<◌, ◌≤◌, List, [], ◌∷◌, ◌++◌, Some, length, get_or, take, drop, map, true, false, inl, inr, refl, sym, ap, subst, arith, codes}
use Rattle.std.proofs.lemmas.List.{take_rest, append-nil}
use Rattle.cli_parts.specs.declared.run_options.RunOptions.{RunOptions}
use Rattle.cli_parts.specs.declared.run_options.Flag.{Flag}
use Rattle.cli_parts.specs.declared.wrong_option.WrongOption.{WrongOption}
use Rattle.cli_parts.specs.declared.wrong_option.WrongOption.TheVariants.{Twice, Valued, IdleElsewhere, IdleTwice, IdleNoValue, IdleRange, MemoryElsewhere, MemoryTwice, MemoryNoValue, MemoryRange, ProxyElsewhere, ProxyTwice, ProxyNoValue, ProxyNone}
use Rattle.cli_parts.specs.RunOptions.{Text, no_options, option_name, IsNoOption, IsNoAddresses, IsNoBytes, IsNoSeconds, IsRead, named, flag, idle, memory, proxies, other, flag_word, is_given, giving, AreTaken, TakesIdle, TakesMemory, TakesProxies, IsWrongNext}
use Rattle.cli_parts.specs.Piece.{IsNext, so_far_as}

-- the first of some elements, and the others as a pattern has them
pub first_and_rest : {X : Type 0} (f : X → Text) (xs : List X) (x : X) (text : Text) → 1 ≤ length xs → x ≡ get_or xs 0 x → text ≡ f x
    → map f xs ≡ text ∷ map f (take (length xs - 1) (drop 1 xs))
first_and_rest f [] x text long at is = absurd (omega arith)
first_and_rest f (y ∷ ys) x text long at is =
    ap (λ z. z ∷ map f ys) (ap f (sym at) ∙ sym is) ∙ ap (λ t. text ∷ map f t) (sym (take_rest (y ∷ ys) 1))

-- none of them
pub none_of : {X : Type 0} (f : X → Text) (xs : List X) → length xs < 1 → map f xs ≡ []
none_of f [] few = refl
none_of f (x ∷ xs) few = absurd (omega arith)

-- ---- one word, or an option with its value

-- an option that has no value, with one
pub valued : (one : Flag) (word name value : Text) → word ≡ name ++ 61 ∷ value → name ≡ flag_word one
    → (v : Text) × (word ≡ flag_word one ++ 61 ∷ v)
valued one word name value whole is = (value, whole ∙ ap (λ (n : Text). n ++ 61 ∷ value) is)

pub next_flag : (one : Flag) (name word : Text) (more : List Text) (old new : RunOptions) (kept : List Text) → word ≡ flag_word one
    → is_given one old ≡ false → new ≡ giving one old → IsNext name (word ∷ more) more (so_far_as old kept) (so_far_as new kept)
next_flag one name word more old new kept is unsaid given = record {
  own = flag_word one ∷ [];
  words_are = ap (λ w. w ∷ more) is;
  goes_on = λ read was. subst (λ (o : RunOptions). IsRead name (read ++ flag_word one ∷ []) o kept) (sym given) (flag one was unsaid);
}

pub next_idle : (name word value : Text) (whole more : List Text) (old new : RunOptions) (kept : List Text) → whole ≡ value ∷ more
    → word ≡ codes "--idle" → TakesIdle name value old new → IsNext name (word ∷ whole) more (so_far_as old kept) (so_far_as new kept)
next_idle name word value whole more old new kept whole_is is takes = record {
  own = word ∷ value ∷ [];
  words_are = ap (λ l. word ∷ l) whole_is;
  goes_on = λ read was. subst (λ (o : RunOptions). IsRead name (read ++ word ∷ value ∷ []) o kept) (sym takes.new_is)
      (idle was takes.once takes.serves (inl (ap (λ w. w ∷ value ∷ []) is)) takes.read);
}

pub next_idle_with : (name word value : Text) (more : List Text) (old new : RunOptions) (kept : List Text) → word ≡ codes "--idle=" ++ value
    → TakesIdle name value old new → IsNext name (word ∷ more) more (so_far_as old kept) (so_far_as new kept)
next_idle_with name word value more old new kept is takes = record {
  own = word ∷ [];
  words_are = refl;
  goes_on = λ read was. subst (λ (o : RunOptions). IsRead name (read ++ word ∷ []) o kept) (sym takes.new_is)
      (idle was takes.once takes.serves (inr (ap (λ w. w ∷ []) is)) takes.read);
}

pub next_memory : (name word value : Text) (whole more : List Text) (old new : RunOptions) (kept : List Text) → whole ≡ value ∷ more
    → word ≡ codes "--memory" → TakesMemory name value old new → IsNext name (word ∷ whole) more (so_far_as old kept) (so_far_as new kept)
next_memory name word value whole more old new kept whole_is is takes = record {
  own = word ∷ value ∷ [];
  words_are = ap (λ l. word ∷ l) whole_is;
  goes_on = λ read was. subst (λ (o : RunOptions). IsRead name (read ++ word ∷ value ∷ []) o kept) (sym takes.new_is)
      (memory was takes.once takes.serves (inl (ap (λ w. w ∷ value ∷ []) is)) takes.read);
}

pub next_memory_with : (name word value : Text) (more : List Text) (old new : RunOptions) (kept : List Text) → word ≡ codes "--memory=" ++ value
    → TakesMemory name value old new → IsNext name (word ∷ more) more (so_far_as old kept) (so_far_as new kept)
next_memory_with name word value more old new kept is takes = record {
  own = word ∷ [];
  words_are = refl;
  goes_on = λ read was. subst (λ (o : RunOptions). IsRead name (read ++ word ∷ []) o kept) (sym takes.new_is)
      (memory was takes.once takes.serves (inr (ap (λ w. w ∷ []) is)) takes.read);
}

pub next_proxies : (name word value : Text) (whole more : List Text) (old new : RunOptions) (kept : List Text) → whole ≡ value ∷ more
    → word ≡ codes "--accept-proxy" → TakesProxies name value old new → IsNext name (word ∷ whole) more (so_far_as old kept) (so_far_as new kept)
next_proxies name word value whole more old new kept whole_is is takes = record {
  own = word ∷ value ∷ [];
  words_are = ap (λ l. word ∷ l) whole_is;
  goes_on = λ read was. subst (λ (o : RunOptions). IsRead name (read ++ word ∷ value ∷ []) o kept) (sym takes.new_is)
      (proxies was takes.once takes.serves (inl (ap (λ w. w ∷ value ∷ []) is)) takes.read);
}

pub next_proxies_with : (name word value : Text) (more : List Text) (old new : RunOptions) (kept : List Text) → word ≡ codes "--accept-proxy=" ++ value
    → TakesProxies name value old new → IsNext name (word ∷ more) more (so_far_as old kept) (so_far_as new kept)
next_proxies_with name word value more old new kept is takes = record {
  own = word ∷ [];
  words_are = refl;
  goes_on = λ read was. subst (λ (o : RunOptions). IsRead name (read ++ word ∷ []) o kept) (sym takes.new_is)
      (proxies was takes.once takes.serves (inr (ap (λ w. w ∷ []) is)) takes.read);
}

-- what is wrong with them

pub wrong_flag : (one : Flag) (name word : Text) (more : List Text) (old : RunOptions) (wrong : WrongOption) → word ≡ flag_word one
    → (wrong ≡ Twice one) × (is_given one old ≡ true) → IsWrongNext wrong name old (word ∷ more)
wrong_flag one name word more old wrong is why =
    subst (λ (w : WrongOption). IsWrongNext w name old (word ∷ more)) (sym why.0) (why.1, ap Some is)

pub wrong_idle : (name word value : Text) (whole more : List Text) (old : RunOptions) (wrong : WrongOption) → whole ≡ value ∷ more
    → word ≡ codes "--idle" → IsNoSeconds wrong name old value → IsWrongNext wrong name old (word ∷ whole)
wrong_idle name word value whole more old (Twice one) whole_is is why = absurd why
wrong_idle name word value whole more old (Valued one) whole_is is why = absurd why
wrong_idle name word value whole more old IdleElsewhere whole_is is why = (why, (word, whole, refl, ap option_name is))
wrong_idle name word value whole more old IdleTwice whole_is is why = (why, (word, whole, refl, ap option_name is))
wrong_idle name word value whole more old IdleNoValue whole_is is why = absurd why
wrong_idle name word value whole more old IdleRange whole_is is why =
    (word ∷ value ∷ [], more, value, ap (λ l. word ∷ l) whole_is, inl (ap (λ w. w ∷ value ∷ []) is), why)
wrong_idle name word value whole more old MemoryElsewhere whole_is is why = absurd why
wrong_idle name word value whole more old MemoryTwice whole_is is why = absurd why
wrong_idle name word value whole more old MemoryNoValue whole_is is why = absurd why
wrong_idle name word value whole more old MemoryRange whole_is is why = absurd why
wrong_idle name word value whole more old ProxyElsewhere whole_is is why = absurd why
wrong_idle name word value whole more old ProxyTwice whole_is is why = absurd why
wrong_idle name word value whole more old ProxyNoValue whole_is is why = absurd why
wrong_idle name word value whole more old ProxyNone whole_is is why = absurd why

pub wrong_idle_with : (name word value : Text) (more : List Text) (old : RunOptions) (wrong : WrongOption) → word ≡ codes "--idle=" ++ value
    → IsNoSeconds wrong name old value → IsWrongNext wrong name old (word ∷ more)
wrong_idle_with name word value more old (Twice one) is why = absurd why
wrong_idle_with name word value more old (Valued one) is why = absurd why
wrong_idle_with name word value more old IdleElsewhere is why = (why, (word, more, refl, ap option_name is))
wrong_idle_with name word value more old IdleTwice is why = (why, (word, more, refl, ap option_name is))
wrong_idle_with name word value more old IdleNoValue is why = absurd why
wrong_idle_with name word value more old IdleRange is why = (word ∷ [], more, value, refl, inr (ap (λ w. w ∷ []) is), why)
wrong_idle_with name word value more old MemoryElsewhere is why = absurd why
wrong_idle_with name word value more old MemoryTwice is why = absurd why
wrong_idle_with name word value more old MemoryNoValue is why = absurd why
wrong_idle_with name word value more old MemoryRange is why = absurd why
wrong_idle_with name word value more old ProxyElsewhere is why = absurd why
wrong_idle_with name word value more old ProxyTwice is why = absurd why
wrong_idle_with name word value more old ProxyNoValue is why = absurd why
wrong_idle_with name word value more old ProxyNone is why = absurd why

pub wrong_memory : (name word value : Text) (whole more : List Text) (old : RunOptions) (wrong : WrongOption) → whole ≡ value ∷ more
    → word ≡ codes "--memory" → IsNoBytes wrong name old value → IsWrongNext wrong name old (word ∷ whole)
wrong_memory name word value whole more old (Twice one) whole_is is why = absurd why
wrong_memory name word value whole more old (Valued one) whole_is is why = absurd why
wrong_memory name word value whole more old MemoryElsewhere whole_is is why = (why, (word, whole, refl, ap option_name is))
wrong_memory name word value whole more old MemoryTwice whole_is is why = (why, (word, whole, refl, ap option_name is))
wrong_memory name word value whole more old MemoryNoValue whole_is is why = absurd why
wrong_memory name word value whole more old MemoryRange whole_is is why =
    (word ∷ value ∷ [], more, value, ap (λ l. word ∷ l) whole_is, inl (ap (λ w. w ∷ value ∷ []) is), why)
wrong_memory name word value whole more old IdleElsewhere whole_is is why = absurd why
wrong_memory name word value whole more old IdleTwice whole_is is why = absurd why
wrong_memory name word value whole more old IdleNoValue whole_is is why = absurd why
wrong_memory name word value whole more old IdleRange whole_is is why = absurd why
wrong_memory name word value whole more old ProxyElsewhere whole_is is why = absurd why
wrong_memory name word value whole more old ProxyTwice whole_is is why = absurd why
wrong_memory name word value whole more old ProxyNoValue whole_is is why = absurd why
wrong_memory name word value whole more old ProxyNone whole_is is why = absurd why

pub wrong_memory_with : (name word value : Text) (more : List Text) (old : RunOptions) (wrong : WrongOption) → word ≡ codes "--memory=" ++ value
    → IsNoBytes wrong name old value → IsWrongNext wrong name old (word ∷ more)
wrong_memory_with name word value more old (Twice one) is why = absurd why
wrong_memory_with name word value more old (Valued one) is why = absurd why
wrong_memory_with name word value more old MemoryElsewhere is why = (why, (word, more, refl, ap option_name is))
wrong_memory_with name word value more old MemoryTwice is why = (why, (word, more, refl, ap option_name is))
wrong_memory_with name word value more old MemoryNoValue is why = absurd why
wrong_memory_with name word value more old MemoryRange is why = (word ∷ [], more, value, refl, inr (ap (λ w. w ∷ []) is), why)
wrong_memory_with name word value more old IdleElsewhere is why = absurd why
wrong_memory_with name word value more old IdleTwice is why = absurd why
wrong_memory_with name word value more old IdleNoValue is why = absurd why
wrong_memory_with name word value more old IdleRange is why = absurd why
wrong_memory_with name word value more old ProxyElsewhere is why = absurd why
wrong_memory_with name word value more old ProxyTwice is why = absurd why
wrong_memory_with name word value more old ProxyNoValue is why = absurd why
wrong_memory_with name word value more old ProxyNone is why = absurd why

pub wrong_proxies : (name word value : Text) (whole more : List Text) (old : RunOptions) (wrong : WrongOption) → whole ≡ value ∷ more
    → word ≡ codes "--accept-proxy" → IsNoAddresses wrong name old value → IsWrongNext wrong name old (word ∷ whole)
wrong_proxies name word value whole more old (Twice one) whole_is is why = absurd why
wrong_proxies name word value whole more old (Valued one) whole_is is why = absurd why
wrong_proxies name word value whole more old ProxyElsewhere whole_is is why = (why, (word, whole, refl, ap option_name is))
wrong_proxies name word value whole more old ProxyTwice whole_is is why = (why, (word, whole, refl, ap option_name is))
wrong_proxies name word value whole more old ProxyNoValue whole_is is why = absurd why
wrong_proxies name word value whole more old ProxyNone whole_is is why =
    (word ∷ value ∷ [], more, value, ap (λ l. word ∷ l) whole_is, inl (ap (λ w. w ∷ value ∷ []) is), why)
wrong_proxies name word value whole more old IdleElsewhere whole_is is why = absurd why
wrong_proxies name word value whole more old IdleTwice whole_is is why = absurd why
wrong_proxies name word value whole more old IdleNoValue whole_is is why = absurd why
wrong_proxies name word value whole more old IdleRange whole_is is why = absurd why
wrong_proxies name word value whole more old MemoryElsewhere whole_is is why = absurd why
wrong_proxies name word value whole more old MemoryTwice whole_is is why = absurd why
wrong_proxies name word value whole more old MemoryNoValue whole_is is why = absurd why
wrong_proxies name word value whole more old MemoryRange whole_is is why = absurd why

pub wrong_proxies_with : (name word value : Text) (more : List Text) (old : RunOptions) (wrong : WrongOption) → word ≡ codes "--accept-proxy=" ++ value
    → IsNoAddresses wrong name old value → IsWrongNext wrong name old (word ∷ more)
wrong_proxies_with name word value more old (Twice one) is why = absurd why
wrong_proxies_with name word value more old (Valued one) is why = absurd why
wrong_proxies_with name word value more old ProxyElsewhere is why = (why, (word, more, refl, ap option_name is))
wrong_proxies_with name word value more old ProxyTwice is why = (why, (word, more, refl, ap option_name is))
wrong_proxies_with name word value more old ProxyNoValue is why = absurd why
wrong_proxies_with name word value more old ProxyNone is why = (word ∷ [], more, value, refl, inr (ap (λ w. w ∷ []) is), why)
wrong_proxies_with name word value more old IdleElsewhere is why = absurd why
wrong_proxies_with name word value more old IdleTwice is why = absurd why
wrong_proxies_with name word value more old IdleNoValue is why = absurd why
wrong_proxies_with name word value more old IdleRange is why = absurd why
wrong_proxies_with name word value more old MemoryElsewhere is why = absurd why
wrong_proxies_with name word value more old MemoryTwice is why = absurd why
wrong_proxies_with name word value more old MemoryNoValue is why = absurd why
wrong_proxies_with name word value more old MemoryRange is why = absurd why

pub next_other : (name word : Text) (more : List Text) (old new : RunOptions) (kept now : List Text) → IsNoOption word → new ≡ old
    → now ≡ kept ++ word ∷ [] → IsNext name (word ∷ more) more (so_far_as old kept) (so_far_as new now)
next_other name word more old new kept now is same one = record {
  own = word ∷ [];
  words_are = refl;
  goes_on = λ read was. subst (λ (o : RunOptions). IsRead name (read ++ word ∷ []) o now) (sym same)
      (subst (λ (k : List Text). IsRead name (read ++ word ∷ []) old k) (sym one) (other was is));
}

-- ---- all words up to here

pub record Reading (name : Text) (words left : List Text) (options : RunOptions) (kept : List Text) : Type 0 where
  pub read : List Text
  pub words_are : words ≡ read ++ left
  pub says : IsRead name read options kept

pub begun : (name : Text) (words rest kept : List Text) (options : RunOptions) → words ≡ name ∷ rest → options ≡ no_options
    → kept ≡ name ∷ [] → Reading name words rest options kept
begun name words rest kept options is none one = record {
  read = name ∷ [];
  words_are = is;
  says = subst (λ (o : RunOptions). IsRead name (name ∷ []) o kept) (sym none) (subst (λ (k : List Text). IsRead name (name ∷ []) no_options k) (sym one) named);
}

-- all of them
pub taken_all : (name : Text) (words left kept : List Text) (options : RunOptions) → Reading name words left options kept → left ≡ []
    → AreTaken words options kept
taken_all name words left kept options r none = record {
  name = name;
  read = r.read;
  kept = kept;
  after = left;
  words_are = r.words_are;
  left_is = sym (append-nil kept) ∙ ap (λ l. kept ++ l) (sym none);
  says = r.says;
  ends = inl none;
}
