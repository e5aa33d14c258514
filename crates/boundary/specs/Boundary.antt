-- The C boundary: what stands for a value that is not there. Definitions only.
use Rattle.std.specs.Prelude.{ℕ, ◌/◌, cond, ltb, ℤ, Some, None}
use Rattle.binary32.specs.Floats.{whole}
use Rattle.convert.specs.declared.Setting.{Setting}
use Rattle.convert.specs.declared.clock.Clock.{Clock}
use Rattle.rules.specs.declared.Push.{Push}
use Rattle.rules.specs.Rules.{given_by}

-- beside a refusal
abbrev pub no_setting : Setting
no_setting = record { word = 0; achieved = whole 0 }

abbrev pub no_clock : Clock
no_clock = record { system = whole 0; vco = 0; ratio = whole 0 }

-- bits 0, 1, 2 of presence: word, phase, ACR. A presence above 7 stands for a phase that is too wide, so that the push is refused in its own order: Mode, Mask, Word
abbrev pub push_at : ℕ → ℕ → ℤ → ℕ → ℕ → Push
push_at mask presence word phase acr =
    cond (ltb 7 presence) (record { mask = mask; word = None; phase = Some 4294967295; acr = None })
    (record { mask = mask; word = given_by presence word; phase = given_by (presence / 2) phase; acr = given_by (presence / 4) acr })
