-- A field of a word, by position and width. Definitions only.
use Rattle.std.specs.Prelude.{ℕ, ◌+◌, ◌-◌, ◌*◌, ◌/◌, ◌%◌, ◌^◌, Bool, ◌&&◌, Result, Ok, Err, cond, leb, ltb}
use Rattle.registers.specs.declared.field.Field.{Field}
use Rattle.registers.specs.declared.refusal.Refusal.{Refusal}
use Rattle.registers.specs.declared.refusal.Refusal.TheVariants.{Word}
use Rattle.registers.specs.Registers.{width_of, holds}

-- bits low..high, as the data sheet writes them
abbrev pub bits : ℕ → ℕ → Field
bits low high = record { position = low; width = high + 1 - low }

abbrev pub bit : ℕ → Field
bit k = bits k k

-- what stands in a field
unfoldable pub field_of : ℕ → Field → ℕ
field_of word f = word / 2 ^ f.position % 2 ^ f.width

-- the word with another value in a field: the bits above it and below it stay
unfoldable pub with_field : ℕ → Field → ℕ → ℕ
with_field word f value =
    let above = 2 ^ (f.position + f.width) in
    word / above * above + value * 2 ^ f.position + word % 2 ^ f.position

-- a value is not too wide for its field, and the field lies within 32 bits
abbrev pub fits_field : Field → ℕ → Bool
fits_field f value = ltb value (2 ^ f.width) && leb (f.position + f.width) 32

-- a value too wide is Word
abbrev pub set_of : ℕ → Field → ℕ → Result ℕ Refusal
set_of word f value = cond (fits_field f value) (Ok (with_field word f value)) (Err Word)

-- a field of a register: a raw value too wide for its register is Word
abbrev pub get_in : ℕ → ℕ → Field → Result ℕ Refusal
get_in address raw f = cond (holds address raw) (Ok (field_of raw f)) (Err Word)

abbrev pub set_in : ℕ → ℕ → Field → ℕ → Result ℕ Refusal
set_in address raw f value = cond (holds address raw) (set_of raw f value) (Err Word)

-- a raw value of a register, taken as it is
abbrev pub raw_in : ℕ → ℕ → Result ℕ Refusal
raw_in address raw = cond (holds address raw) (Ok raw) (Err Word)

-- a field lies within its register
abbrev pub lies_in : ℕ → Field → Bool
lies_in address f = leb (f.position + f.width) (8 * width_of address)

-- a field of a register's value: one that does not lie within the register is Word, and so is a value too wide for it
abbrev pub with_in : ℕ → ℕ → Field → ℕ → Result ℕ Refusal
with_in address raw f value = cond (lies_in address f) (set_of raw f value) (Err Word)
