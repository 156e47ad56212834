use Rattle.std.proofs.Common.{◌≡◌, ℕ, ◌||◌, ◌&&◌, nat_lt, nat_le, ◌<◌, ◌≤◌, length, get_or, false}
use Rattle.cli_parts.proofs.tally.Tally.note.Given as goal

-- the parts before this one are told of
abbrev pub invariant-loop-part : goal.invariant-loop-part
invariant-loop-part l =
    (length l.self.parts.items ≡ length l.fn.self.parts.items)
    × ((part : ℕ) → part < length l.self.parts.items → get_or l.self.parts.items part false
    ≡ (get_or l.fn.self.parts.items part false || (nat_le l.first part && nat_lt part l.part)))
    × (l.past < l.first → l.part ≤ l.first)
