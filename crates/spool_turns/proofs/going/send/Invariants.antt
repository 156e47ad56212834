use Rattle.spool_turns.proofs.going.send.Given as goal

abbrev pub ghosts-send_out : goal.ghosts-send_out
ghosts-send_out g a = record { entries = a._entries.now; front = a._front }
