-- What words say together: the first that is wrong decides.
use Rattle.std.proofs.Common.{◌≡◌, ◌∙◌, ℕ, refl, sym, ap}
use Rattle.std.specs.Prelude.{Option, Result, Ok, Err}
use Rattle.std.specs.Result.{IsErr, IsErrAnd}
use Rattle.clap.specs.Walk.{Text}
use Rattle.edge_io.specs.declared.proto.Proto.{Proto}
use Rattle.words_faults.specs.declared.fault.WordsFault.{WordsFault}
use Rattle.bridge_words.specs.declared.reading.Unread.{Unread}
use Rattle.bridge_words.specs.declared.reading.Unread.TheVariants.{Wrong}
use Rattle.bridge_words.specs.Values.{receiver_of, relay_of}
use Rattle.bridge_words.specs.Words.{receiver_by, relay_by}

-- the error that `?` returns
pub err_is : {A E : Type 0} (r : Result A E) (x : E) → IsErr r × IsErrAnd r (λ e. e ≡ x) → r ≡ Err x
err_is (Ok v) x told = absurd told.1
err_is (Err e) x told = ap Err told.1

-- and is what it is said to be
pub same_error : {A E : Type 0} (r : Result A E) (x y : E) → IsErr r × IsErrAnd r (λ e. e ≡ x) → r ≡ Err y → x ≡ y
same_error r x y told is = let out : Err x ≡ Err y = sym (err_is r x told) ∙ is in cc

same_fault : (x y : WordsFault) → Wrong x ≡ Wrong y → x ≡ y
same_fault x y is = cc

pub told_as : {A : Type 0} (r : Result A Unread) (x y : WordsFault) → IsErr r × IsErrAnd r (λ e. e ≡ Wrong x) → r ≡ Err (Wrong y) → x ≡ y
told_as r x y told is = same_fault x y (same_error r (Wrong x) (Wrong y) told is)

module _ (p : Result Proto WordsFault) (t c : Result (Option ℕ) WordsFault) (n : Result ℕ WordsFault) (proto : Proto) (token : Option ℕ) where
  pub receiver_channel : (w : WordsFault) → Ok proto ≡ p → Ok token ≡ t → Err w ≡ c → Err w ≡ receiver_by p t c n
  receiver_channel w a b d = rw (← a, ← b, ← d) refl

  pub receiver_polls : (channel : Option ℕ) (w : WordsFault) → Ok proto ≡ p → Ok token ≡ t → Ok channel ≡ c → Err w ≡ n → Err w ≡ receiver_by p t c n
  receiver_polls channel w a b d e = rw (← a, ← b, ← d, ← e) refl

  pub receiver_all : (channel : Option ℕ) (polls : ℕ) → Ok proto ≡ p → Ok token ≡ t → Ok channel ≡ c → Ok polls ≡ n → receiver_of proto token channel polls ≡ receiver_by p t c n
  receiver_all channel polls a b d e = rw (← a, ← b, ← d, ← e) refl

module _ (p : Result (Option Proto) WordsFault) (q : Result (Option Text) WordsFault) (t c : Result (Option ℕ) WordsFault) (n : Result ℕ WordsFault)
    (proto : Option Proto) (place : Option Text) (token : Option ℕ) where
  pub relay_channel : (w : WordsFault) → Ok proto ≡ p → q ≡ Ok place → Ok token ≡ t → Err w ≡ c → relay_by p q t c n ≡ Err w
  relay_channel w a b d e = rw (← a, b, ← d, ← e) refl

  pub relay_polls : (channel : Option ℕ) (w : WordsFault) → Ok proto ≡ p → q ≡ Ok place → Ok token ≡ t → Ok channel ≡ c → Err w ≡ n → relay_by p q t c n ≡ Err w
  relay_polls channel w a b d e f = rw (← a, b, ← d, ← e, ← f) refl

  pub relay_all : (channel : Option ℕ) (polls : ℕ) → Ok proto ≡ p → q ≡ Ok place → Ok token ≡ t → Ok channel ≡ c → Ok polls ≡ n → relay_by p q t c n ≡ relay_of proto place token channel polls
  relay_all channel polls a b d e f = rw (← a, b, ← d, ← e, ← f) refl
