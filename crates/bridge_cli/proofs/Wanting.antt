-- Which files words want.
use Rattle.std.proofs.Common.{◌≡◌, ◌∙◌, inl, inr, ℕ, List, sym, ap, subst}
use Rattle.bridge_words.specs.declared.command.Command.{Command}
use Rattle.bridge_words.specs.declared.command.Command.TheVariants.{Format, List as ListCommand, Replay, Drain, Load, Serve}
use Rattle.bridge_words.specs.declared.need.Need.{Need}
use Rattle.bridge_words.specs.declared.need.Need.TheVariants.{NoCommand, Existing, Make, Pair}
use Rattle.bridge_words.specs.Words.{IsMove, IsNeed, IsNoMove, IsSomeMove, need_for}
use Rattle.bridge_words.proofs.Once.{one_command, move_is_no_command}
use Rattle.cli_files.specs.declared.files.How.{How}
use Rattle.cli_files.specs.declared.files.How.TheVariants as how
use Rattle.bridge_cli.specs.Opened.{WantsFile}

-- no command wants two devices
one_device : (command : Command) (target : List ℕ) (tag : ℕ) → Pair target tag ≡ need_for command → ⊥
one_device (Format slots size) target tag is = cc
one_device (ListCommand form) target tag is = cc
one_device (Replay proto token ack_token) target tag is = cc
one_device (Drain receiver place) target tag is = cc
one_device (Load proto number count) target tag is = cc
one_device (Serve server) target tag is = cc

-- words that want two move entries
pub pair_moves : (words : List (List ℕ)) (target : List ℕ) (tag : ℕ) → IsNeed words (Pair target tag) → IsSomeMove words
pair_moves words target tag (inl none) = let is = none.0 in absurd cc
pair_moves words target tag (inr (inl some)) = absurd (one_device some.0 target tag some.2)
pair_moves words target tag (inr (inr move)) = (move.0, move.1, move.2)

-- to the target that the need names
pub pair_is : (words : List (List ℕ)) (target : List ℕ) (tag : ℕ) → IsNeed words (Pair target tag) → IsMove target tag words
pair_is words target tag (inl none) = let is = none.0 in absurd cc
pair_is words target tag (inr (inl some)) = absurd (one_device some.0 target tag some.2)
pair_is words target tag (inr (inr move)) =
    let is = move.3 in
    let same : target ≡ move.0 = cc in
    let same_tag : tag ≡ move.1 = cc in
    subst (λ (p : List ℕ × ℕ). IsMove p.0 p.1 words) (λ i. (sym same i, sym same_tag i)) move.2

-- and all others move none
pub moves_none : (words : List (List ℕ)) (need : Need) → ((target : List ℕ) (tag : ℕ) → need ≡ Pair target tag → ⊥) → IsNeed words need → IsNoMove words
moves_none words need alone (inl none) = none.2
moves_none words need alone (inr (inl some)) = λ target tag move. move_is_no_command target tag words move some.0 some.1
moves_none words need alone (inr (inr move)) = absurd (alone move.0 move.1 move.3)

-- words that want a device alone want no other
one_wanted : (words : List (List ℕ)) (need other : Need) → (other ≡ NoCommand → ⊥) → ((target : List ℕ) (tag : ℕ) → other ≡ Pair target tag → ⊥)
    → IsNeed words need → IsNeed words other → need ≡ other
one_wanted words need other some alone is (inl none) = absurd (some none.0)
one_wanted words need other some alone is (inr (inr move)) = absurd (alone move.0 move.1 move.3)
one_wanted words need other some alone (inl none) (inr (inl by)) = absurd (none.1 by.0 by.1)
one_wanted words need other some alone (inr (inl is)) (inr (inl by)) = is.2 ∙ ap need_for (one_command is.0 by.0 words is.1 by.1) ∙ sym by.2
one_wanted words need other some alone (inr (inr move)) (inr (inl by)) = absurd (move_is_no_command move.0 move.1 words move.2 by.0 by.1)

-- words that want neither a new device nor one that exists want no FILE
pub no_file : (words : List (List ℕ)) (need : Need) (h : How) → (need ≡ Existing → ⊥) → ((len : ℕ) → need ≡ Make len → ⊥) → IsNeed words need
    → WantsFile words h → ⊥
no_file words need (how.Made len) other made is wants = made len (one_wanted words need (Make len) (λ by. cc) (λ target tag by. cc) is wants)
no_file words need (how.Existing sharing) other made is wants = other (one_wanted words need Existing (λ by. cc) (λ target tag by. cc) is wants.0)
no_file words need how.ToRead other made is wants = wants
