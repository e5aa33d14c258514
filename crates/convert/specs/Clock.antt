-- Document 01, clock. Definitions only.
use Rattle.std.specs.Prelude.{ℕ, Bool, ◌&&◌, cond, leb, eqb, Float, Result, Ok, Err}
use Rattle.std.specs.Float.Ieee.{le}
use Rattle.convert.specs.declared.clock.Clock.{Clock}
use Rattle.registers.specs.declared.refusal.Refusal.{Refusal}
use Rattle.registers.specs.declared.refusal.Refusal.TheVariants.{Bounds}
use Rattle.binary32.specs.Floats.{whole, ◌times◌, ◌over◌, within}

-- multiplier times reference, one rounding
abbrev pub system_of : Float → ℕ → Float
system_of reference multiplier = whole multiplier times reference

-- multiplier 1: reference in 1e6..=500e6. Multipliers 4..=20: reference in 10e6..=125e6 and system clock in 100e6..=500e6. Nothing else
abbrev pub allowed : Float → ℕ → Bool
allowed reference multiplier =
    cond (eqb multiplier 1) (within (whole 1000000) reference (whole 500000000))
    (leb 4 multiplier && leb multiplier 20 && within (whole 10000000) reference (whole 125000000)
    && within (whole 100000000) (system_of reference multiplier) (whole 500000000))

-- vco_high exactly from 200e6 up
abbrev pub vco_high_of : Float → ℕ
vco_high_of system = cond (le (whole 200000000) system) 1 0

-- 2^32 / system clock, rounded once
abbrev pub ratio_of : Float → Float
ratio_of system = whole 4294967296 over system

-- Bounds exactly if not allowed
abbrev pub clock_of : Float → ℕ → Result Clock Refusal
clock_of reference multiplier =
    let system = system_of reference multiplier in
    cond (allowed reference multiplier)
    (Ok (record { system = system; vco = vco_high_of system; ratio = ratio_of system }))
    (Err Bounds)
