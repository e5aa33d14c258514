-- Document 01, ACR: bits 0..9 asf, bit 12 multiplier, other fields as in the Rust's `Acr`. Definitions only.
use Rattle.std.specs.Prelude.{ℕ, Result, Ok, Err, ◌+◌, cond, ltb, eqb}
use Rattle.registers.specs.declared.field.Field.{Field}
use Rattle.registers.specs.declared.refusal.Refusal.{Refusal}
use Rattle.registers.specs.declared.refusal.Refusal.TheVariants.{Word}
use Rattle.registers.specs.Fields.{bit, bits}

abbrev pub asf : Field
asf = bits 0 9

abbrev pub load_arr : Field
load_arr = bit 10

abbrev pub ramp : Field
ramp = bit 11

abbrev pub multiplier : Field
multiplier = bit 12

abbrev pub step : Field
step = bits 14 15

abbrev pub arr : Field
arr = bits 16 23

-- below 1024 the ACR is 4096 + asf; 1024 writes ACR 0, multiplier off; more is too wide
abbrev pub acr_of : ℕ → Result ℕ Refusal
acr_of scale = cond (ltb scale 1024) (Ok (4096 + scale)) (cond (eqb scale 1024) (Ok 0) (Err Word))
