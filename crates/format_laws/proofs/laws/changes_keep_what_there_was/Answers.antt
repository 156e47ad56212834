use Rattle.spool_state.proofs.Begun.{follows_begun, left-begun}
use Rattle.spool_state.proofs.Following.{follows_then, follows_added, follows_registered}
use Rattle.spool_state.proofs.Shut.{follows_shut, left-shut, sound-shut}
use Rattle.format_laws.proofs.laws.changes_keep_what_there_was.Goals as goal

pub returns : goal.returns
returns c = record {
  on = follows_then;
  adding = λ s group sound. follows_added s group sound.from_base;
  beginning = λ s place sound. (follows_begun s place sound.from_base, left-begun s place);
  shutting = λ s slot rest sound is confirmed. (follows_shut s slot rest is sound confirmed, left-shut s slot rest is sound confirmed, sound-shut s slot rest is sound confirmed);
  registering = λ s run cursor known sound r c stays. follows_registered s run cursor known sound.from_base r c stays;
}
