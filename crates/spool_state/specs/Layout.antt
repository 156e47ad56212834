-- Where things lie on a device, and the limits of a spool's numbers: each constant once.
use Rattle.std.specs.Prelude.{ℕ, ◌^◌}

-- ---- offsets and lengths, in bytes

-- the magic, the number of slots and their size
abbrev pub header_length : ℕ
header_length = 20

-- where the two cells begin, and how long each is
abbrev pub first_cell : ℕ
first_cell = 4096

abbrev pub second_cell : ℕ
second_cell = 8192

abbrev pub cell_length : ℕ
cell_length = 4096

-- where the slot of place 0 begins: after the cells
abbrev pub first_slot : ℕ
first_slot = 12288

-- a cell's gate, ordinal and length, before its content
abbrev pub cell_head : ℕ
cell_head = 13

-- the content of version 1
abbrev pub content_length_1 : ℕ
content_length_1 = 17

-- the content of version 2 but for its stretches, and each stretch
abbrev pub content_length : ℕ
content_length = 19

abbrev pub stretch_length : ℕ
stretch_length = 16

-- an open slot's gate, ordinal and first number
abbrev pub slot_head : ℕ
slot_head = 17

-- that head and the closed gate after it: what a slot has not as room for groups
abbrev pub slot_loss : ℕ
slot_loss = 18

-- a group's gate, the length of its entries and their count
abbrev pub group_head : ℕ
group_head = 9

-- ---- limits

abbrev pub most_slots : ℕ
most_slots = 1024

-- bytes of a slot
abbrev pub least_size : ℕ
least_size = 4096

abbrev pub most_size : ℕ
most_size = 1073741824

abbrev pub most_run : ℕ
most_run = 2097151

-- of the register's ordinal, and of the number after the last entry
abbrev pub most_number : ℕ
most_number = 2 ^ 63
