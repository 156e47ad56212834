-- What a call did, by its words.
use Rattle.std.proofs.Common.{◌≡◌, ◌∙◌, inl, inr, ℕ, List, sym, subst}
use Rattle.edge_disk.specs.Calls.{Calls}
use Rattle.edge_disk.specs.Disk.{Moment}
use Rattle.edge_disk.proofs.Calls.{calls_as, calls_none}
use Rattle.conn_serve.specs.Endings.{CountsFaults}
use Rattle.conn_serve.proofs.Faults.{counts_none}
use Rattle.bridge_words.specs.declared.command.Command.{Command}
use Rattle.bridge_words.specs.declared.command.Command.TheVariants.{Format, List as ListCommand, Replay, Drain, Load, Serve}
use Rattle.bridge_words.specs.declared.need.Need.{Need}
use Rattle.bridge_words.specs.declared.need.Need.TheVariants.{Pair}
use Rattle.bridge_words.specs.Words.{IsNeed, IsMove, IsNoMove, need_for}
use Rattle.bridge_words.proofs.Once.{move_is_no_command, one_tag}
use Rattle.notes.specs.declared.note.Note.{Note}
use Rattle.bridge_parts.specs.Run.{OutputRun, IsSilent}
use Rattle.bridge_move.specs.Ended.{TellsDisks, IsMoveNote}
use Rattle.bridge_move.specs.MoveRun.{IsMoved, IsMoveRun, two_disks}

no_pair : (command : Command) (target : List ℕ) (tag : ℕ) → need_for command ≡ Pair target tag → ⊥
no_pair (Format slots size) target tag is = cc
no_pair (ListCommand form) target tag is = cc
no_pair (Replay proto token ack_token) target tag is = cc
no_pair (Drain receiver place) target tag is = cc
no_pair (Load proto number count) target tag is = cc
no_pair (Serve server) target tag is = cc

-- words that want two devices move entries
pub pair_is : (words : List (List ℕ)) (need : Need) (target : List ℕ) (tag : ℕ) → IsNeed words need → need ≡ Pair target tag → IsMove target tag words
pair_is words need target tag (inl is) at = let none = is.0 in absurd (cc)
pair_is words need target tag (inr (inl is)) at = absurd (no_pair is.0 target tag (sym is.2 ∙ at))
pair_is words need target tag (inr (inr is)) at =
    let same : Pair is.0 is.1 ≡ Pair target tag = sym is.3 ∙ at in
    let target_is : is.0 ≡ target = cc in
    let tag_is : is.1 ≡ tag = cc in
    subst (λ (t : List ℕ). IsMove t tag words) target_is (subst (λ (g : ℕ). IsMove is.0 g words) tag_is is.2)

-- all others move nothing
pub none_is : (words : List (List ℕ)) (need : Need) → IsNeed words need → ((target : List ℕ) (tag : ℕ) → need ≡ Pair target tag → ⊥) → IsNoMove words
none_is words need (inl is) other = is.2
none_is words need (inr (inl is)) other = λ target tag move. move_is_no_command target tag words move is.0 is.1
none_is words need (inr (inr is)) other = absurd (other is.0 is.1 is.3)

module _ {D E : Type 0} (tells tells' : Type 0) (on : D → Moment) (onto : E → Moment) (words : List (List ℕ)) (source source' : D) (target target' : E) (output : OutputRun) (note : Note) where
  -- the words move entries
  pub run_of_move : (path : List ℕ) (tag : ℕ) → IsMove path tag words → IsMoveNote note → TellsDisks note (on source) (on source') (onto target) (onto target')
      → CountsFaults (note ≡ Note.WriteFault) output.faults output.faults_after → IsMoved (two_disks tells tells' on onto) tag (source, target) (source', target') output note
      → IsMoveRun (two_disks tells tells' on onto) words (source, target) (source', target') output note
  run_of_move path tag move known disks writes moved = record {
    calls = disks;
    writes = writes;
    which = inl (path, tag, move);
    known = inr known;
    usage = λ is. absurd (subst IsMoveNote is known);
    no_move = λ none. absurd (none path tag move);
    done = λ other n is.
        inr (subst (λ (t : ℕ). IsMoved (two_disks tells tells' on onto) t (source, target) (source', target') output note) (one_tag path other tag n words move is) moved);
  }

  -- they don't
  pub run_of_others : IsNoMove words → note ≡ Note.Usage → source' ≡ source → target' ≡ target → IsSilent output
      → IsMoveRun (two_disks tells tells' on onto) words (source, target) (source', target') output note
  run_of_others none is source_same target_same silent = record {
    calls = inl (
      subst (λ (d : D). Calls (note ≡ Note.DiskFault) (on source) (on d)) (sym source_same)
          (calls_as ⊥ (note ≡ Note.DiskFault) (on source) (on source) (calls_none (on source)) (λ by. cc) (λ never. absurd never)),
      subst (λ (e : E). Calls ⊥ (onto target) (onto e)) (sym target_same) (calls_none (onto target)),
    );
    writes = counts_none (note ≡ Note.WriteFault) output.faults output.faults_after (λ by. cc) silent.faults;
    which = inr (inl none);
    known = inl is;
    usage = λ _. none;
    no_move = λ _. (inl is, record { source_same = source_same; target_same = target_same; silent = silent });
    done = λ path tag move. absurd (none path tag move);
  }
