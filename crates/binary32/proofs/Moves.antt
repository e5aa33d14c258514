-- q * 2 ^ e / 2 ^ 158, by the place where e lies.
--     large      past 158 it is more than 32 bits hold
--     shifted    where the loop's counter has gone from e to 158, it is q halved once a turn
--     turned     a turn halves once more
--     gone       a number halved often enough is 0
use Rattle.std.proofs.Common.{◌≡◌, ℕ, ◌+◌, ◌-◌, ◌*◌, ◌/◌, ◌^◌, ◌<◌, ◌≤◌, min, sym, ap, ◌∙◌, le_trans, lt_of_lt_of_le, mul-le-mul, le-div_iff_mul-le, arith, lit≤, pow_pos, pow_mono, shr-shr}
use native.Mathlib.Nat.{min-eq_right, div-eq_of_lt}
use lib.Pow.{shr_le, shl-shr}

-- omega reads no number of more than 38 digits, so 2 ^ 158 goes through these
pub gone : (n k : ℕ) → n < 2 ^ 32 → 32 ≤ k → n / 2 ^ k ≡ 0
gone n k h l = div-eq_of_lt (lt_of_lt_of_le h (pow_mono l))

abbrev At : ℕ → ℕ → ℕ
At q e = min (q * 2 ^ e / 2 ^ 158) (2 ^ 32 - 1)

pub large : (q e : ℕ) → 2 ^ 31 ≤ q → 158 < e → 2 ^ 32 - 1 ≡ At q e
large q e h g = sym (min-eq_right (le_trans (lit≤ tt) ((le-div_iff_mul-le {x = 2 ^ 32} (pow_pos 158)).1 (mul-le-mul h (pow_mono g)))))

pub shifted : (q e i : ℕ) → q < 2 ^ 32 → e ≤ i → i ≡ 158 → q / 2 ^ (i - e) ≡ At q e
shifted q e i f h l =
    let k : 158 ≡ e + (i - e) = omega arith in
    let is : q * 2 ^ e / 2 ^ 158 ≡ q / 2 ^ (i - e) = ap (λ (n : ℕ). q * 2 ^ e / 2 ^ n) k ∙ rw (← shr-shr (q * 2 ^ e) e (i - e), shl-shr q e) in
    rw is (omega (arith, shr_le q (i - e)))

pub turned : (q i e : ℕ) → e ≤ i → q / 2 ^ (i - e) / 2 ≡ q / 2 ^ (i + 1 - e)
turned q i e h =
    let k : i + 1 - e ≡ i - e + 1 = omega arith in
    rw (k, shr-shr q (i - e) 1)
