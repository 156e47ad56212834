-- The leave of a command, of a disk that is watched, and of words that want no device.
use Rattle.std.proofs.Common.{◌≡◌, inl, inr, ℕ, List, ◌∙◌, ap}
use Rattle.std.specs.Prelude.{Some, None}
use Rattle.edge_disk.specs.Disk.{Moment}
use Rattle.edge_io.specs.declared.held_up.HeldUp.{HeldUp}
use Rattle.edge_io.specs.declared.monitor.SpoolNumbers.{SpoolNumbers}
use Rattle.bridge_words.specs.declared.command.Command.{Command}
use Rattle.bridge_words.specs.declared.command.Command.TheVariants.{Format, List as ListCommand, Replay, Drain, Load, Serve}
use Rattle.bridge_words.specs.declared.need.Need.{Need}
use Rattle.bridge_words.specs.declared.need.Need.TheVariants.{Existing}
use Rattle.bridge_words.specs.Words.{IsNeed, need_for}
use Rattle.bridge_words.proofs.Once.{one_command, move_is_no_command}
use Rattle.bridge_serve.proofs.Releasing.{any_some, if_some}
use Rattle.bridge_core.specs.Leave.{Exchanges, ForWords, MayAnswer, MayRelease, MayReplay, MayReport, MayTear, MayTell}

-- what is durable on a disk within another is so on that
pub answers_within : {D W : Type 0} (tells : Type 0) (moment : D → Moment) (within : W → D) (given : W) (Permits : List ℕ → ℕ → ℕ → List ℕ → List ℕ → Type 0)
    (command : Command) → MayAnswer tells moment (within given) Permits command → MayAnswer tells (λ (w : W). moment (within w)) given Permits command
answers_within tells moment within given Permits (Format slots size) may = tt
answers_within tells moment within given Permits (ListCommand form) may = tt
answers_within tells moment within given Permits (Replay proto token ack_token) may = tt
answers_within tells moment within given Permits (Drain receiver place) may = tt
answers_within tells moment within given Permits (Load proto number count) may = tt
answers_within tells moment within given Permits (Serve server) may =
    λ proto place named door few k within_run disk bytes text durable. may proto place named door few k within_run (within disk) bytes text durable

pub replays_within : {D W : Type 0} (tells : Type 0) (moment : D → Moment) (within : W → D) (given : W) (Read Take : List ℕ → Type 0)
    (command : Command) → MayReplay tells moment (within given) Read Take command → MayReplay tells (λ (w : W). moment (within w)) given Read Take command
replays_within tells moment within given Read Take (Format slots size) may = tt
replays_within tells moment within given Read Take (ListCommand form) may = tt
replays_within tells moment within given Read Take (Replay proto token ack_token) may = λ disk bytes text read durable. may (within disk) bytes text read durable
replays_within tells moment within given Read Take (Drain receiver place) may = tt
replays_within tells moment within given Read Take (Load proto number count) may = tt
replays_within tells moment within given Read Take (Serve server) may = tt

pub releases_within : {D W : Type 0} (tells : Type 0) (moment : D → Moment) (within : W → D) (given : W) (exchanges : Exchanges) (Release : ℕ → Type 0) (command : Command)
    → MayRelease tells moment (within given) exchanges Release command
    → MayRelease tells (λ (w : W). moment (within w)) given exchanges Release command
releases_within tells moment within given exchanges Release (Format slots size) may = tt
releases_within tells moment within given exchanges Release (ListCommand form) may = tt
releases_within tells moment within given exchanges Release (Replay proto token ack_token) may = tt
releases_within tells moment within given exchanges Release (Drain receiver None) may = λ disk n received. may (within disk) n received
releases_within tells moment within given exchanges Release (Drain receiver (Some place)) may =
    λ disk n received. may (within disk) n received
releases_within tells moment within given exchanges Release (Load proto number count) may = tt
releases_within tells moment within given exchanges Release (Serve server) may =
    if_some server.forward _ _ (λ relay may disk n received. may (within disk) n received) may

-- those who ask may be told the numbers of the spool on it
pub tells_within : {D W : Type 0} (tells : Type 0) (moment : D → Moment) (within : W → D) (given : W) (May : SpoolNumbers → Type 0) (command : Command)
    → MayTell tells moment (within given) May command → MayTell tells (λ (w : W). moment (within w)) given May command
tells_within tells moment within given May (Format slots size) may = tt
tells_within tells moment within given May (ListCommand form) may = tt
tells_within tells moment within given May (Replay proto token ack_token) may = tt
tells_within tells moment within given May (Drain receiver place) may = tt
tells_within tells moment within given May (Load proto number count) may = tt
tells_within tells moment within given May (Serve server) may = λ disk numbers are. may (within disk) numbers are

-- what may be reported by calls on it
pub reports_within : {D W : Type 0} (tells : Type 0) (moment : D → Moment) (within : W → D) (given : W) (At : List ℕ → List ℕ → List ℕ → Type 0)
    (Report : List ℕ → HeldUp → Type 0) (command : Command) → MayReport tells moment (within given) At Report command
    → MayReport tells (λ (w : W). moment (within w)) given At Report command
reports_within tells moment within given At Report (Format slots size) may = tt
reports_within tells moment within given At Report (ListCommand form) may = tt
reports_within tells moment within given At Report (Replay proto token ack_token) may = tt
reports_within tells moment within given At Report (Drain receiver place) may = tt
reports_within tells moment within given At Report (Load proto number count) may = tt
reports_within tells moment within given At Report (Serve server) may =
    if_some server.forward _ _ (λ relay may disk held_up is. may (within disk) held_up is) may

-- what may be written to a disk may be so to one round it
pub tears_within : {D W : Type 0} (tells : Type 0) (moment : D → Moment) (within : W → D) (Tear : D → ℕ → ℕ → Type 0) (Release : ℕ → Type 0) (command : Command)
    → MayTear tells moment Tear Release command → MayTear tells (λ (w : W). moment (within w)) (λ (w : W) (at n : ℕ). Tear (within w) at n) Release command
tears_within tells moment within Tear Release (Format slots size) may = λ disk at n. may (within disk) at n
tears_within tells moment within Tear Release (ListCommand form) may = λ disk at n tears. may (within disk) at n tears
tears_within tells moment within Tear Release (Replay proto token ack_token) may = λ disk at n tears. may (within disk) at n tears
tears_within tells moment within Tear Release (Drain receiver place) may = λ disk at n tears. may (within disk) at n tears
tears_within tells moment within Tear Release (Load proto number count) may = λ disk at n tears. may (within disk) at n tears
tears_within tells moment within Tear Release (Serve server) may = λ disk at n tears. may (within disk) at n tears

-- of a disk to which anything may be written
pub all_torn : {D : Type 0} (tells : Type 0) (moment : D → Moment) (Tear : D → ℕ → ℕ → Type 0) (Release : ℕ → Type 0) → ((disk : D) (at n : ℕ) → Tear disk at n) → (command : Command) → MayTear tells moment Tear Release command
all_torn tells moment Tear Release all (Format slots size) = λ disk at n. ∣ all disk at n ∣₁
all_torn tells moment Tear Release all (ListCommand form) = λ disk at n tears. ∣ all disk at n ∣₁
all_torn tells moment Tear Release all (Replay proto token ack_token) = λ disk at n tears. ∣ all disk at n ∣₁
all_torn tells moment Tear Release all (Drain receiver place) = λ disk at n tears. ∣ all disk at n ∣₁
all_torn tells moment Tear Release all (Load proto number count) = λ disk at n tears. ∣ all disk at n ∣₁
all_torn tells moment Tear Release all (Serve server) = λ disk at n tears. ∣ all disk at n ∣₁

-- of a disk of which any number may become known
pub all_released : {D : Type 0} (tells : Type 0) (moment : D → Moment) (given : D) (exchanges : Exchanges) (Release : ℕ → Type 0) → ((n : ℕ) → Release n)
    → (command : Command) → MayRelease tells moment given exchanges Release command
all_released tells moment given exchanges Release all (Format slots size) = tt
all_released tells moment given exchanges Release all (ListCommand form) = tt
all_released tells moment given exchanges Release all (Replay proto token ack_token) = tt
all_released tells moment given exchanges Release all (Drain receiver None) = λ disk n received. all n
all_released tells moment given exchanges Release all (Drain receiver (Some place)) = λ disk n received. all n
all_released tells moment given exchanges Release all (Load proto number count) = tt
all_released tells moment given exchanges Release all (Serve server) =
    any_some server.forward _ (λ relay disk n received. all n)

-- words that don't want a device that exists answer nobody
pub nobody_answers : {D : Type 0} (tells : Type 0) (moment : D → Moment) (given : D) (Permits : List ℕ → ℕ → ℕ → List ℕ → List ℕ → Type 0)
    (words : List (List ℕ)) (need : Need) → (need ≡ Existing → ⊥) → IsNeed words need → ForWords words (MayAnswer tells moment given Permits)
nobody_answers tells moment given Permits words need other is (Format slots size) asks = tt
nobody_answers tells moment given Permits words need other is (ListCommand form) asks = tt
nobody_answers tells moment given Permits words need other is (Replay proto token ack_token) asks = tt
nobody_answers tells moment given Permits words need other is (Drain receiver place) asks = tt
nobody_answers tells moment given Permits words need other is (Load proto number count) asks = tt
nobody_answers tells moment given Permits words need other (inl none) (Serve server) asks = absurd (none.1 (Serve server) asks)
nobody_answers tells moment given Permits words need other (inr (inl some)) (Serve server) asks =
    absurd (other (some.2 ∙ ap need_for (one_command some.0 (Serve server) words some.1 asks)))
nobody_answers tells moment given Permits words need other (inr (inr move)) (Serve server) asks =
    absurd (move_is_no_command move.0 move.1 words move.2 (Serve server) asks)

pub nothing_replayed : {D : Type 0} (tells : Type 0) (moment : D → Moment) (given : D) (Read Take : List ℕ → Type 0)
    (words : List (List ℕ)) (need : Need) → (need ≡ Existing → ⊥) → IsNeed words need → ForWords words (MayReplay tells moment given Read Take)
nothing_replayed tells moment given Read Take words need other is (Format slots size) asks = tt
nothing_replayed tells moment given Read Take words need other is (ListCommand form) asks = tt
nothing_replayed tells moment given Read Take words need other is (Drain receiver place) asks = tt
nothing_replayed tells moment given Read Take words need other is (Load proto number count) asks = tt
nothing_replayed tells moment given Read Take words need other is (Serve server) asks = tt
nothing_replayed tells moment given Read Take words need other (inl none) (Replay proto token ack_token) asks =
    absurd (none.1 (Replay proto token ack_token) asks)
nothing_replayed tells moment given Read Take words need other (inr (inl some)) (Replay proto token ack_token) asks =
    absurd (other (some.2 ∙ ap need_for (one_command some.0 (Replay proto token ack_token) words some.1 asks)))
nothing_replayed tells moment given Read Take words need other (inr (inr move)) (Replay proto token ack_token) asks =
    absurd (move_is_no_command move.0 move.1 words move.2 (Replay proto token ack_token) asks)
