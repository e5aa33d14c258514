-- Document 01, CSR: bit 0 lsb_first, bits 1..2 mode, bits 4..7 channels 0..3. Definitions only.
use Rattle.std.specs.Prelude.{ℕ, Result, Ok, Err, ◌+◌, ◌*◌, cond, ltb}
use Rattle.registers.specs.declared.field.Field.{Field}
use Rattle.registers.specs.declared.refusal.Refusal.{Refusal}
use Rattle.registers.specs.declared.refusal.Refusal.TheVariants.{Mask, Mode}
use Rattle.registers.specs.Registers.{CSR}
use Rattle.registers.specs.Fields.{bit, bits, set_in}

abbrev pub lsb_first : Field
lsb_first = bit 0

abbrev pub mode : Field
mode = bits 1 2

abbrev pub channel : Field
channel = bits 4 7

-- the one that the driver builds
abbrev pub byte_of : ℕ → ℕ → ℕ
byte_of m mask = mask * 16 + m * 2

-- Mode, then Mask
abbrev pub csr_of : ℕ → ℕ → Result ℕ Refusal
csr_of m mask = cond (ltb 3 m) (Err Mode) (cond (ltb 15 mask) (Err Mask) (Ok (byte_of m mask)))

-- a mode above 3 is Mode
abbrev pub with_mode : ℕ → ℕ → Result ℕ Refusal
with_mode csr value = cond (ltb 3 value) (Err Mode) (set_in CSR csr mode value)

-- a mask above 15 is Mask
abbrev pub with_channel : ℕ → ℕ → Result ℕ Refusal
with_channel csr value = cond (ltb 15 value) (Err Mask) (set_in CSR csr channel value)
