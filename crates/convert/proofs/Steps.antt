-- A phase from 0.0 up and below 1.0 differs from the value that it achieves by less than one step of 1 / 16384, in whole numbers.
-- `num x / den x` is x's exact size, and `HasValue x false a c` says that x is finite, has no minus sign, and is exactly a / c.
--     part      a whole number below 2 ^ 24 over a power of two is exact
--     word_lt   a phase's word is below 16384
--     exact     what a phase achieves is exactly its word over 16384
--     step      word / 16384 ≤ phase < (word + 1) / 16384, where 0.0 ≤ phase < 1.0; -0.0 is such a phase
use mathlib.Core.Path.{◌≡◌, ap, ◌∙◌}
use mathlib.Core.Bool.{Bool, true, false, ◌&&◌}
use Prim.Native.Nat.{ℕ, zero, suc, ◌+◌, ◌-◌, ◌*◌, ◌/◌, ◌%◌, ◌^◌, ◌≤◌, ◌<◌, min}
use native.Mathlib.Nat.{mul-one, one-mul, zero-mul, mul_assoc, mul_comm, mul-pos, zero-lt-suc, mod-lt, lt_of_lt_of_le, lt_of_not-le, lt_irrefl, div-mul-le_self, div-lt_iff_lt-mul, le_of_lt}
use native.Mathlib.Omega.{arith}
use lib.IntN.{ℤ, pos, negsuc}
use lib.Dec.{T, ltb, leb, eqb, ltb→lt, leb→le, eqb→eq, lit<, lit≤}
use lib.Pow.{pow_pos, pow-add, pow_mono, pow-lt, shl_lt}
use lib.Ieee.{Float, nan, inf, fin, binary32, up, down, of_int, mul, div, le, lt, fits, to_unsigned}
use lib.Ieee.Fits.{and_l, and_r, down_pos}
use lib.Ieee.Exact.{HasValue, round_exact}
use lib.Ieee.Back.{round_whole}
use lib.Ieee.Scale.{round_same}
use lib.Ieee.Positive.{num, den}
use Rattle.binary32.specs.Floats.{whole, ◌times◌, ◌over◌}
use Rattle.binary32.proofs.Pattern.{value_cut}
use Rattle.convert.specs.Phase.{word_of, setting_of}
use Rattle.convert.proofs.Rising.{negative}

-- ---- the value achieved

quotient : (x : Float) (n k : ℕ) → k ≤ 149 → n < 2 ^ 24 → HasValue x false n 1 → HasValue (x over fin false 1 (pos k)) false n (2 ^ k)
unfolding div
quotient nan n k h l v = absurd v
quotient (inf s) n k h l v = absurd v
quotient (fin s m e) n k h l v =
    let i : 149 - k + k ≡ 149 = omega arith in
    rw (v.0, round_same binary32 false (m * up e * 1) (1 * 2 ^ k * down e) n (2 ^ k) (mul-pos (mul-pos (lit< tt) (pow_pos k)) (down_pos e)) (pow_pos k) (ap (λ (a : ℕ). a * 2 ^ k) v.1 ∙ simp (mul_assoc, mul_comm, one-mul)))
    (round_exact binary32 false n (2 ^ k) n (149 - k) (pow_pos k) l (lt_of_lt_of_le (shl_lt 24 (149 - k) l) (pow_mono {j = 277} (omega arith)))
    (rw (mul_assoc n (2 ^ (149 - k)) (2 ^ k), ← pow-add 2 (149 - k) k, i)))

pub part : (n k : ℕ) → k ≤ 149 → n < 2 ^ 24 → HasValue (whole n over fin false 1 (pos k)) false n (2 ^ k)
unfolding of_int
part n k h l = quotient (whole n) n k h l (round_whole binary32 false n (le_of_lt l))

pub word_lt : (x : Float) → word_of x < 16384
word_lt x = mod-lt (to_unsigned 16 (x times whole 16384)) (lit< tt)

pub exact : (x : Float) → HasValue (setting_of x).achieved false (word_of x) 16384
unfolding of_int
exact x = part (word_of x) 14 (lit≤ tt) (lt_of_lt_of_le (word_lt x) (lit≤ tt))

-- ---- the product by 16384 is exact

shallow : (k : ℕ) → 2 ^ k ≤ 2 ^ 149 → k < 150
shallow k h = lt_of_not-le (λ (g : 150 ≤ k). lt_irrefl (2 ^ 149) (lt_of_lt_of_le (pow-lt {i = 149} g) h))

product : (m : ℕ) (e : ℤ) → T (fits binary32 (fin false m e)) → m * up e < down e → HasValue (fin false m e times whole 16384) false (m * up e * 16384) (down e)
unfolding mul of_int fits
product zero e F h =
    rw (mul-one (down e)) (round_exact binary32 false (0 * up e * 16384) (down e) 0 0 (down_pos e) (lit< tt) (lit< tt) (rw (zero-mul (up e), zero-mul (down e))))
product (suc m) (pos k) F h = absurd (let p : 0 < suc m * 2 ^ k = mul-pos (zero-lt-suc m) (pow_pos k) in omega arith)
product (suc m) (negsuc k) F h =
    let a : Bool = eqb (suc m % 2) 1 && ltb (suc m) (2 ^ 24) in
    let b : Bool = leb (2 ^ suc k) (2 ^ 149) in
    let t = and_l (a && b) (ltb (suc m * 1) (2 ^ 128 * 2 ^ suc k)) F in
    let l : suc m < 2 ^ 24 = ltb→lt (suc m) (2 ^ 24) (and_r (eqb (suc m % 2) 1) (ltb (suc m) (2 ^ 24)) (and_l a b t)) in
    let d = shallow (suc k) (leb→le (2 ^ suc k) (2 ^ 149) (and_r a b t)) in
    let i : 162 - k + suc k ≡ 163 = omega arith in
    rw (mul-one (2 ^ suc k))
    (round_exact binary32 false (suc m * 1 * 16384) (2 ^ suc k) (suc m) (162 - k) (pow_pos (suc k)) l
    (lt_of_lt_of_le (shl_lt 24 (162 - k) l) (pow_mono {j = 277} (omega arith)))
    (rw (mul_assoc (suc m) (2 ^ (162 - k)) (2 ^ suc k), ← pow-add 2 (162 - k) (suc k), i, mul-one (suc m), mul_assoc (suc m) 16384 (2 ^ 149))))

-- ---- so the word is the phase's whole part in steps

cut : (a c w : ℕ) → 0 < c → a < c → w ≡ min (a * 16384 / c) 65535 % 16384 → (w * c ≤ a * 16384) × (a * 16384 < (w + 1) * c)
cut a c w C h e =
    let q : a * 16384 / c < 16384 = (div-lt_iff_lt-mul C).1 (omega arith) in
    let i : w ≡ a * 16384 / c = omega arith in
    rw i (div-mul-le_self (a * 16384) c, (div-lt_iff_lt-mul C).0 (omega arith))

pub step : (x : Float) → T (fits binary32 x) → T (le (whole 0) x) → T (lt x (whole 1)) → (word_of x * den x ≤ num x * 16384) × (num x * 16384 < (word_of x + 1) * den x)
unfolding le lt of_int mul
step nan F l u = absurd l
step (inf true) F l u = absurd l
step (inf false) F l u = absurd u
step (fin true m e) F l u =
    let z : 0 * down e ≡ m * up e * 1 = eqb→eq (0 * down e) (m * up e * 1) (and_l (eqb (0 * down e) (m * up e * 1)) (eqb (0 * down e) 0) l) in
    let d = down_pos e in
    rw (negative 16 (m * up e * 16384) (down e * 1)) (omega arith)
step (fin false m e) F l u =
    let h : m * up e < down e = (let k = ltb→lt (m * up e * 1) (1 * down e) u in omega arith) in
    cut (m * up e) (down e) (word_of (fin false m e)) (down_pos e) h
    (ap (λ (n : ℕ). n % 16384) (value_cut 16 (fin false m e times whole 16384) false (m * up e * 16384) (down e) (down_pos e) (product m e F h)))
