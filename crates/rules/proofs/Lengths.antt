-- Lengths that are padded, and values that are held.
--     padding_fits          a length that is not full has room for its padding
--     quarters              a padded length is four times its words, by the length modulo 4
--     padded_quarters       so it is a multiple of four
--     padding_writes_given  the padding as two values, LSRR before CSR
--     held_below            a value that is not above some number is held where that is
--     word_held             a tuning word's bits are held by its register
use mathlib.Core.Path.{◌≡◌, refl}
use mathlib.Core.Bool.{false}
use mathlib.Core.List.{◌++◌}
use Prim.Native.Nat.{ℕ, zero, suc, ◌+◌, ◌*◌, ◌/◌, ◌%◌, ◌^◌, ◌≤◌, ◌<◌}
use native.Mathlib.Nat.{lt_of_le_of_lt}
use native.Mathlib.Omega.{arith}
use borrow.Author.Tests.{ltb-false}
use lib.IntN.{pos, negsuc}
use Rattle.registers.specs.Registers.{width_of, CSR, CFTW0, LSRR}
use Rattle.std.specs.Prelude.{Some, None, ℤ, Option}
use Rattle.rules.specs.Rules.{word_of, above, padding_by, padding, given, padding_writes_by}
use Rattle.rules.specs.Judged.{Held, lsrr_by, csr_by}

-- a size that is a multiple of four
pub fits_by : (size n r : ℕ) → size % 4 ≡ 0 → n % 4 ≡ r → n ≤ size → (n + 1 ≡ size → ⊥) → n + padding_by r ≤ size
fits_by size n zero c e h k = omega arith
fits_by size n (suc zero) c e h k = omega arith
fits_by size n (suc (suc zero)) c e h k = omega arith
fits_by size n (suc (suc (suc r))) c e h k = omega arith

pub padding_fits : (size n : ℕ) → size % 4 ≡ 0 → n ≤ size → (n + 1 ≡ size → ⊥) → n + padding n ≤ size
padding_fits size n c h k = fits_by size n (n % 4) c refl h k

quarters_by : (n r : ℕ) → r < 4 → n % 4 ≡ r → (n / 4 + (r + 1) / 2) * 4 ≡ n + padding_by r
quarters_by n zero l e = omega arith
quarters_by n (suc zero) l e = omega arith
quarters_by n (suc (suc zero)) l e = omega arith
quarters_by n (suc (suc (suc zero))) l e = omega arith
quarters_by n (suc (suc (suc (suc r)))) l e = omega arith

pub quarters : (n : ℕ) → (n / 4 + (n % 4 + 1) / 2) * 4 ≡ n + padding n
quarters n = quarters_by n (n % 4) (omega arith) refl

pub padded_quarters : (n : ℕ) → (n + padding n) / 4 * 4 ≡ n + padding n
padded_quarters n = omega (arith, quarters n)

pub padding_writes_given : (mode r : ℕ) → padding_writes_by mode r ≡ given LSRR (lsrr_by r) ++ given CSR (csr_by mode r)
padding_writes_given mode zero = refl
padding_writes_given mode (suc zero) = refl
padding_writes_given mode (suc (suc zero)) = refl
padding_writes_given mode (suc (suc (suc r))) = refl

pub held_below : (a most : ℕ) (v : Option ℕ) → above most v ≡ false → most < 256 ^ width_of a → Held a v
held_below a most (Some v) e h = lt_of_le_of_lt (ltb-false most v e) h
held_below a most None e h = tt

pub word_held : (tuning : Option ℤ) → Held CFTW0 (word_of tuning)
unfolding width_of
word_held (Some (pos n)) = omega arith
word_held (Some (negsuc n)) = omega arith
word_held None = tt
