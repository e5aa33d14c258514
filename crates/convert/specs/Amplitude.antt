-- Document 01, amplitude. Definitions only.
use Rattle.std.specs.Prelude.{ℕ, cond, eqb, Float, Result, Ok, Err}
use Rattle.std.specs.Float.Ieee.{to_unsigned}
use Rattle.std.specs.Result.{result_unwrap_or}
use Rattle.convert.specs.declared.Setting.{Setting}
use Rattle.registers.specs.declared.refusal.Refusal.{Refusal}
use Rattle.registers.specs.declared.refusal.Refusal.TheVariants.{Bounds, Word}
use Rattle.registers.specs.Registers.{ACR, holds}
use Rattle.registers.specs.Fields.{field_of}
use Rattle.bitfields.specs.Acr.{asf, multiplier, acr_of}
use Rattle.binary32.specs.Floats.{whole, ◌times◌, ◌over◌, within}

-- amplitude times 1024, cut
abbrev pub asf_of : Float → ℕ
asf_of amplitude = to_unsigned 32 (amplitude times whole 1024)

-- what an ACR means: 1.0 if the multiplier bit is off, else asf / 1024
abbrev pub meaning : ℕ → Float
meaning acr = cond (eqb (field_of acr multiplier) 0) (whole 1) (whole (field_of acr asf) over whole 1024)

-- the ACR of the scale factor: within 0..=1 there is one
abbrev pub word_of : Float → ℕ
word_of amplitude = result_unwrap_or (acr_of (asf_of amplitude)) 0

-- Bounds exactly if not within 0..=1; achieved = asf / 1024
abbrev pub setting_of : Float → Result Setting Refusal
setting_of amplitude =
    cond (within (whole 0) amplitude (whole 1))
    (Ok (record { word = word_of amplitude; achieved = whole (asf_of amplitude) over whole 1024 }))
    (Err Bounds)

abbrev pub reading_of : ℕ → Result Float Refusal
reading_of acr = cond (holds ACR acr) (Ok (meaning acr)) (Err Word)
