-- Document 01, `freeze`. Definitions only.
use Rattle.std.specs.Prelude.{ℕ, cond, ltb, Result, Ok, Err}
use Rattle.registers.specs.declared.refusal.Refusal.{Refusal}
use Rattle.registers.specs.declared.refusal.Refusal.TheVariants.{Mode}
use Rattle.convert.specs.declared.Driver.{Driver}

-- the mode alone; a hand-made one above 3 is Mode
abbrev pub freeze_of : Driver → Result ℕ Refusal
freeze_of d = cond (ltb 3 d.mode) (Err Mode) (Ok d.mode)
