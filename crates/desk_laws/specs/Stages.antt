-- The stages of a change: what each of them keeps of the state before.
use Rattle.std.specs.Prelude.{List}
use Rattle.known_numbers.specs.declared.stretch.Stretch.{Stretch}
use Rattle.event_form.specs.declared.event.Entry.{Entry}
use Rattle.spool_state.specs.SpoolState.{SpoolState, IsSound}
use Rattle.spool_answers.specs.Stages.{AllFollow, group_stages, known_stages}

-- Each stage by which a group is added follows the state.
abbrev pub AddingStagesFollow : Type 0
AddingStagesFollow = (s : SpoolState) (group : List Entry) → IsSound s → AllFollow s (group_stages s group)

-- So does the one by which the numbers of some stretches become known.
abbrev pub KnownStagesFollow : Type 0
KnownStagesFollow = (s : SpoolState) (more : List Stretch) → IsSound s → AllFollow s (known_stages s more)
