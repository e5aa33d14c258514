-- A float from 1 up is no NaN, and its pattern has no sign; any other is cut to 0.
--     over_one, under_one   what the two are cut to
use Rattle.std.proofs.Common.{◌≡◌, ℕ, ◌-◌, ◌*◌, ◌/◌, ◌^◌, ◌<◌, ◌≤◌, min, Bool, true, false, not, T, sym, refl, subst, lt_of_not-le, le-div_iff_mul-le, arith}
use lib.Ieee.{Float, nan, inf, fin, binary32, up, down, is_nan, fits, le, of_bits, to_bits, to_unsigned}
use lib.Ieee.Fits.{down_pos}
use lib.Ieee.Positive.{above, above_of_le, le→cross}
use Rattle.std.proofs.num.Truncating.{one, below_one}
use Rattle.binary32.proofs.Pattern.{digits, negative, positive}

-- 1.0 as MIR has it, by its bit pattern
one_is : of_bits binary32 0x3f80_0000 ≡ one
unfolding of_bits
one_is = refl

from_one : (x : Float) → le (of_bits binary32 0x3f80_0000) x ≡ true → T (le one x)
from_one x h = subst (λ (k : Float). T (le k x)) one_is (subst T (sym h) tt)

pub under_one : (x : Float) → le (of_bits binary32 0x3f80_0000) x ≡ false → 0 ≡ to_unsigned 32 x
under_one x h = below_one 32 x (subst (λ (k : Float). T (not (le k x))) one_is (subst (λ (b : Bool). T (not b)) (sym h) tt))

no_nan : (x : Float) → T (le one x) → T (not (is_nan x))
unfolding le is_nan
no_nan nan h = absurd h
no_nan (inf s) h = tt
no_nan (fin s m e) h = tt

quotient : (a c : ℕ) → 0 < c → 1 * c ≤ a * 1 → 1 ≤ min (a / c) (2 ^ 32 - 1)
quotient a c p h =
    let k : 1 ≤ a / c = (le-div_iff_mul-le {x = 1} p).1 (omega arith) in
    omega arith

by_sign : (x : Float) → T (above x) → T (le one x) → 1 ≤ to_unsigned 32 x
unfolding to_unsigned
by_sign nan a h = absurd a
by_sign (inf true) a h = absurd a
by_sign (inf false) a h = omega arith
by_sign (fin true m e) a h = absurd a
by_sign (fin false m e) a h = quotient (m * up e) (down e) (down_pos e) (le→cross one (fin false m e) tt a h)

whole_part : (x : Float) → T (le one x) → 1 ≤ to_unsigned 32 x
whole_part x h = by_sign x (above_of_le one x tt h) h

clash : (n : ℕ) → 0 ≡ n → 1 ≤ n → ⊥
clash n h k = omega arith

no_sign : (x : Float) → T (fits binary32 x) → T (le one x) → to_bits binary32 x < 0x8000_0000
no_sign x F h = lt_of_not-le (λ k. clash (to_unsigned 32 x) (negative x F (no_nan x h) k) (whole_part x h))

-- a float that the format holds, as every `f32`
pub over_one : (x : Float) → fits binary32 x ≡ true → le (of_bits binary32 0x3f80_0000) x ≡ true → min (digits (to_bits binary32 x) * 2 ^ (to_bits binary32 x / 0x80_0000) / 2 ^ 158) (2 ^ 32 - 1) ≡ to_unsigned 32 x
over_one x held h =
    let F : T (fits binary32 x) = subst T (sym held) tt in
    let up : T (le one x) = from_one x h in
    positive x F (no_nan x up) (no_sign x F up)
