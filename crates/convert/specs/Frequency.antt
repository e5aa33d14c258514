-- Document 01, frequency, on a driver's ratio. Definitions only.
use Rattle.std.specs.Prelude.{ℕ, Bool, ◌||◌, cond, Float, Result, Ok, Err}
use Rattle.std.specs.Float.Ieee.{lt, to_unsigned}
use Rattle.convert.specs.declared.Setting.{Setting}
use Rattle.registers.specs.declared.refusal.Refusal.{Refusal}
use Rattle.registers.specs.declared.refusal.Refusal.TheVariants.{Bounds, NotReady}
use Rattle.binary32.specs.Floats.{whole, ◌times◌, ◌over◌, within}

-- NotReady where the ratio is NaN, below 8 or above 4295
abbrev pub ready : Float → Bool
ready ratio = within (whole 8) ratio (whole 4295)

-- 2^32 / ratio, rounded
abbrev pub limit_of : Float → Float
limit_of ratio = whole 4294967296 over ratio

-- Bounds exactly if below 0 or above the limit: a NaN is neither
abbrev pub outside : Float → Float → Bool
outside limit frequency = lt frequency (whole 0) || lt limit frequency

-- frequency times ratio, rounded once, then cut toward zero; 4294967295 from 2^32 up, 0 for a NaN
abbrev pub word_of : Float → Float → ℕ
word_of ratio frequency = to_unsigned 32 (frequency times ratio)

-- what a word means: the word rounded to f32, divided by ratio
abbrev pub meaning : Float → ℕ → Float
meaning ratio word = whole word over ratio

abbrev pub setting_of : Float → Float → Result Setting Refusal
setting_of ratio frequency =
    cond (ready ratio)
    (cond (outside (limit_of ratio) frequency) (Err Bounds) (Ok (record { word = word_of ratio frequency; achieved = meaning ratio (word_of ratio frequency) })))
    (Err NotReady)

abbrev pub reading_of : Float → ℕ → Result Float Refusal
reading_of ratio word = cond (ready ratio) (Ok (meaning ratio word)) (Err NotReady)
