-- FR1 with a multiplier and vco_high.
--     clock_keeps        every bit below 18 stays, unnamed ones too; above 23 there is none
--     clock_multiplier   the multiplier reads back
--     clock_vco          vco_high reads back
--     clock_refused, clock_set   the two settings, one after the other, are the one
use mathlib.Core.Path.{◌≡◌, refl, ◌∙◌}
use mathlib.Core.Bool.{Bool, true, false, ◌&&◌, cond, and-true}
use Prim.Native.Nat.{ℕ, ◌<◌, ◌^◌}
use native.Mathlib.Omega.{arith}
use lib.Dec.{ltb, lit≤}
use borrow.Author.Tests.{ltb-true, lt-ltb}
use Rattle.std.proofs.Common.{Result, Ok, Err}
use Rattle.registers.specs.declared.refusal.Refusal.{Refusal}
use Rattle.registers.specs.declared.refusal.Refusal.TheVariants.{Word}
use Rattle.registers.specs.Registers.{FR1, holds, width_of}
use Rattle.registers.specs.Fields.{bit, field_of, with_field, set_in}
use Rattle.bitfields.specs.Fr1.{pll_divier, vco_high, clock_in, with_clock}
use Rattle.registers.proofs.Fields.{get_set, stays_below, set_lt}

module _ (fr1 m v : ℕ) (hm : m < 32) (hv : v < 2) where
  pub clock_keeps : (k : ℕ) → k < 18 → field_of (clock_in fr1 m v) (bit k) ≡ field_of fr1 (bit k)
  clock_keeps k h =
      stays_below (with_field fr1 pll_divier m) vco_high v hv (bit k) (omega arith) ∙ stays_below fr1 pll_divier m hm (bit k) (omega arith)

  pub clock_multiplier : field_of (clock_in fr1 m v) pll_divier ≡ m
  clock_multiplier = stays_below (with_field fr1 pll_divier m) vco_high v hv pll_divier (lit≤ tt) ∙ get_set fr1 pll_divier m hm

  pub clock_vco : field_of (clock_in fr1 m v) vco_high ≡ v
  clock_vco = get_set (with_field fr1 pll_divier m) vco_high v hv

-- ---- the two settings, one after the other, are the one

module _ (fr1 m v : ℕ) where
  pub clock_refused : (e : Refusal) → set_in FR1 fr1 pll_divier m ≡ Err e → with_clock fr1 m v ≡ Err e
  unfolding width_of
  clock_refused e made = by (holds FR1 fr1) (ltb m 32) made
    where
      by : (h t : Bool) → ◌≡◌ {A = Result ℕ Refusal} (cond h (cond (t && true) (Ok (with_field fr1 pll_divier m)) (Err Word)) (Err Word)) (Err e)
          → ◌≡◌ {A = Result ℕ Refusal} (cond (h && t && ltb v 2) (Ok (clock_in fr1 m v)) (Err Word)) (Err e)
      by false t k = k
      by true false k = k
      by true true k = absurd (cc)

  pub clock_set : (w : ℕ) → set_in FR1 fr1 pll_divier m ≡ Ok w → set_in FR1 w vco_high v ≡ with_clock fr1 m v
  unfolding width_of
  clock_set w made = by (holds FR1 fr1) (ltb m 32) refl refl made
    where
      by : (h t : Bool) → holds FR1 fr1 ≡ h → ltb m 32 ≡ t → ◌≡◌ {A = Result ℕ Refusal} (cond h (cond (t && true) (Ok (with_field fr1 pll_divier m)) (Err Word)) (Err Word)) (Ok w)
          → set_in FR1 w vco_high v ≡ cond (h && t && ltb v 2) (Ok (clock_in fr1 m v)) (Err Word)
      by false t f g k = absurd (cc)
      by true false f g k = absurd (cc)
      by true true f g k =
          let e : with_field fr1 pll_divier m ≡ w = cc in
          let fits : holds FR1 (with_field fr1 pll_divier m) ≡ true = lt-ltb _ _ (set_lt fr1 pll_divier m (ltb-true m 32 g) 24 (ltb-true fr1 (2 ^ 24) f) (lit≤ tt)) in
          rw (← e, fits, and-true (ltb v 2))
