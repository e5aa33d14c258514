-- What a float cut toward zero is, by its bit pattern.
--     value_cut   whatever has the value a / c is cut as a / c is
--     negative, positive   a pattern with the sign, and one without
--     narrowed    16 bits from 32
use Rattle.std.proofs.Common.{◌≡◌, ℕ, zero, suc, ◌+◌, ◌-◌, ◌*◌, ◌/◌, ◌%◌, ◌^◌, ◌<◌, ◌≤◌, min, Bool, true, false, cond, not, T, eqb, leb, sym, refl, ap, ◌∙◌, subst, mod-lt, mod-eq_of_lt, mul_assoc, add_comm, pow-suc, mul_left_comm, arith, lit<, lit≤, eqb→eq, pow_pos, le-leb}
use lib.Ieee.{Float, nan, inf, fin, binary32, up, down, odd, is_nan, fits, of_fields, of_bits, to_bits, to_unsigned}
use borrow.Author.Tests.{lt-leb}
use lib.Ieee.Fits.{down_pos}
use lib.Ieee.Bits.{of_bits-to_bits}
use lib.Ieee.Exact.{HasValue, odd_sign}
use lib.Ieee.Nearest.{div_same}
use Rattle.binary32.proofs.Moves.{gone}

-- whatever has the value a / c, with the sign s, is cut as a / c is
pub value_cut : (w : ℕ) (x : Float) (s : Bool) (a c : ℕ) → 0 < c → HasValue x s a c → to_unsigned w x ≡ cond s 0 (min (a / c) (2 ^ w - 1))
unfolding to_unsigned
value_cut w nan s a c p h = absurd h
value_cut w (inf t) s a c p h = absurd h
value_cut w (fin t m e) s a c p h = rw (h.0, div_same (m * up e) (down e) a c (down_pos e) p h.1)

-- the digits with their leading one, moved up by 8 places
abbrev pub digits : ℕ → ℕ
digits b = (b % 0x80_0000 + 0x80_0000) * 256

cross : (q p : ℕ) → q * p * 2 ^ 158 ≡ q * 256 * (p * 2) * 2 ^ 149
cross q p = rw (mul_assoc q 256 (p * 2), mul_left_comm 256 p 2, ← mul_assoc q p 512, mul_assoc (q * p) 512 (2 ^ 149))

fields : (s : Bool) (x t : ℕ) → t < 2 ^ 23 → T (not (is_nan (of_fields binary32 s x t)))
    → to_unsigned 32 (of_fields binary32 s x t) ≡ cond s 0 (min ((t + 0x80_0000) * 256 * 2 ^ x / 2 ^ 158) (2 ^ 32 - 1))
unfolding of_fields to_unsigned is_nan
fields s zero t h n = value_cut 32 (odd 24 s t 0 149) s (t * 2 ^ 0) (2 ^ 149) (pow_pos 149) (odd_sign 24 s t 0 149) ∙ rw (gone (t * 1) 149 (omega arith) (lit≤ tt), gone ((t + 0x80_0000) * 256 * 1) 158 (omega arith) (lit≤ tt))
fields s (suc x) t h n = top (eqb (suc x) 255) (eqb t 0) (eqb→eq (suc x) 255) (eqb→eq t 0) n
  where
    top : (a b : Bool) → (T a → suc x ≡ 255) → (T b → t ≡ 0) → T (not (is_nan (cond a (cond b (inf s) nan) (odd 24 s (0x80_0000 + t) x 149))))
        → to_unsigned 32 (cond a (cond b (inf s) nan) (odd 24 s (0x80_0000 + t) x 149)) ≡ cond s 0 (min ((t + 0x80_0000) * 256 * 2 ^ suc x / 2 ^ 158) (2 ^ 32 - 1))
    top true true p q n = rw (p tt, q tt)
    top true false p q n = absurd n
    top false b p q n =
        value_cut 32 (odd 24 s (0x80_0000 + t) x 149) s ((0x80_0000 + t) * 2 ^ x) (2 ^ 149) (pow_pos 149) (odd_sign 24 s (0x80_0000 + t) x 149)
        ∙ ap (λ (k : ℕ). cond s 0 (min k (2 ^ 32 - 1))) (rw (add_comm 0x80_0000 t) (div_same ((t + 0x80_0000) * 2 ^ x) (2 ^ 149) ((t + 0x80_0000) * 256 * 2 ^ suc x) (2 ^ 158) (pow_pos 149) (pow_pos 158) (rw (pow-suc 2 x) (cross (t + 0x80_0000) (2 ^ x)))))

bits_are : (b : ℕ) → T (not (is_nan (of_bits binary32 b)))
    → to_unsigned 32 (of_bits binary32 b) ≡ cond (leb 0x8000_0000 b) 0 (min (digits b * 2 ^ (b % 0x8000_0000 / 0x80_0000) / 2 ^ 158) (2 ^ 32 - 1))
unfolding of_bits
bits_are b n = fields (leb 0x8000_0000 b) (b % 0x8000_0000 / 0x80_0000) (b % 0x80_0000) (mod-lt b (lit< tt)) n

-- ---- an x that is no NaN, and its pattern b
module _ (x : Float) (F : T (fits binary32 x)) (N : T (not (is_nan x))) where
  abbrev b : ℕ
  b = to_bits binary32 x

  whole : to_unsigned 32 x ≡ cond (leb 0x8000_0000 b) 0 (min (digits b * 2 ^ (b % 0x8000_0000 / 0x80_0000) / 2 ^ 158) (2 ^ 32 - 1))
  whole = subst (λ (y : Float). T (not (is_nan y)) → to_unsigned 32 y ≡ cond (leb 0x8000_0000 b) 0 (min (digits b * 2 ^ (b % 0x8000_0000 / 0x80_0000) / 2 ^ 158) (2 ^ 32 - 1))) (of_bits-to_bits binary32 x F) (bits_are b) N

  pub negative : 0x8000_0000 ≤ b → 0 ≡ to_unsigned 32 x
  negative h = sym (rw (le-leb 0x8000_0000 b h) at whole)

  pub positive : b < 0x8000_0000 → min (digits b * 2 ^ (b / 0x80_0000) / 2 ^ 158) (2 ^ 32 - 1) ≡ to_unsigned 32 x
  positive h = sym (rw (lt-leb 0x8000_0000 b h, mod-eq_of_lt h) at whole)

-- ---- 16 bits from 32
pub narrowed : (x : Float) → min (to_unsigned 32 x) 65535 ≡ to_unsigned 16 x
unfolding to_unsigned
narrowed nan = refl
narrowed (inf true) = refl
narrowed (inf false) = refl
narrowed (fin true m e) = refl
narrowed (fin false m e) = omega arith
