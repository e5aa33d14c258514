-- Document 01, phase. Definitions only.
use Rattle.std.specs.Prelude.{ℕ, ◌%◌, cond, Float, Result, Ok, Err}
use Rattle.std.specs.Float.Ieee.{to_unsigned}
use Rattle.convert.specs.declared.Setting.{Setting}
use Rattle.registers.specs.declared.refusal.Refusal.{Refusal}
use Rattle.registers.specs.declared.refusal.Refusal.TheVariants.{Word}
use Rattle.registers.specs.Registers.{CPOW0, holds}
use Rattle.binary32.specs.Floats.{whole, ◌times◌, ◌over◌}

-- times 16384, rounded, cut toward zero into 0..65535, then modulo 16384
abbrev pub word_of : Float → ℕ
word_of phase = to_unsigned 16 (phase times whole 16384) % 16384

-- what a word means: its last 14 bits over 16384
abbrev pub meaning : ℕ → Float
meaning word = whole (word % 16384) over whole 16384

-- never refused
abbrev pub setting_of : Float → Setting
setting_of phase = record { word = word_of phase; achieved = whole (word_of phase) over whole 16384 }

abbrev pub reading_of : ℕ → Result Float Refusal
reading_of word = cond (holds CPOW0 word) (Ok (meaning word)) (Err Word)
