-- Document 01, FR1: bits 18..22 multiplier, bit 23 vco_high, other fields as in the Rust's `Fr1`. Definitions only.
use Rattle.std.specs.Prelude.{ℕ, Result, Ok, Err, cond, ◌&&◌, ltb}
use Rattle.registers.specs.declared.field.Field.{Field}
use Rattle.registers.specs.declared.refusal.Refusal.{Refusal}
use Rattle.registers.specs.declared.refusal.Refusal.TheVariants.{Word}
use Rattle.registers.specs.Registers.{FR1, holds}
use Rattle.registers.specs.Fields.{bit, bits, with_field}

abbrev pub sw_sync : Field
sw_sync = bit 0

abbrev pub hw_sync : Field
hw_sync = bit 1

abbrev pub dac_ref_pd : Field
dac_ref_pd = bit 4

abbrev pub sync_clk_pd : Field
sync_clk_pd = bit 5

abbrev pub ext_pd : Field
ext_pd = bit 6

abbrev pub ext_clk_pd : Field
ext_clk_pd = bit 7

abbrev pub modulation : Field
modulation = bits 8 9

abbrev pub ramp_up_down : Field
ramp_up_down = bits 10 11

abbrev pub profile_pin : Field
profile_pin = bits 12 14

abbrev pub charge_pump : Field
charge_pump = bits 16 17

-- the multiplier, under the Rust's name
abbrev pub pll_divier : Field
pll_divier = bits 18 22

abbrev pub vco_high : Field
vco_high = bit 23

-- setting multiplier and vco_high keeps all other bits, unnamed ones too
abbrev pub clock_in : ℕ → ℕ → ℕ → ℕ
clock_in fr1 multiplier vco = with_field (with_field fr1 pll_divier multiplier) vco_high vco

-- a raw value, a multiplier or a vco_high that is too wide is Word
abbrev pub with_clock : ℕ → ℕ → ℕ → Result ℕ Refusal
with_clock fr1 multiplier vco = cond (holds FR1 fr1 && ltb multiplier 32 && ltb vco 2) (Ok (clock_in fr1 multiplier vco)) (Err Word)
