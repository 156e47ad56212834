-- Which parts of a disk end within the bytes from one offset up to another.
use Rattle.std.proofs.Common.{◌≡◌, ℕ, ◌+◌, ◌*◌, ◌/◌, ◌<◌, ◌≤◌, ◌&&◌, min, nat_le, nat_lt, arith}
use Rattle.std.proofs.lemmas.Bool.Decides.{leb_tells}
use Rattle.cli_parts.specs.Tally.{ends_within}

-- the parts from that of the first byte on, up to that of the last byte, of which the disk has so many
pub ends_between : (from to count past stop part : ℕ) → part < count → past ≡ min (to / 1048576) count → past ≤ stop
    → (from / 1048576 ≤ past → stop ≤ past) → (past < from / 1048576 → stop ≤ from / 1048576)
    → (nat_le (from / 1048576) part && nat_lt part stop) ≡ ends_within from to part
ends_between from to count past stop part within past_is least most none =
    let one = leb_tells (from / 1048576) part in
    let two = leb_tells (part + 1) stop in
    let three = leb_tells (from + 1) ((part + 1) * 1048576) in
    let four = leb_tells ((part + 1) * 1048576) to in
    grind (arith, one, two, three, four)
