-- A larger value is cut to no smaller a number.
--     cut_mono       a larger float
--     negative       what rounds with a minus sign is cut to 0
--     product_mono   a larger factor of a product, the other factor above zero
--     accepted       a frequency that gets Ok: the ratio is ready, and the setting is the word and its meaning
--     word_mono      on one ratio a larger accepted frequency never gets a smaller word
use mathlib.Core.Path.{◌≡◌, refl, sym, ap, ◌∙◌}
use mathlib.Core.Bool.{Bool, true, false, ◌&&◌, ◌||◌, cond}
use Prim.Native.Nat.{ℕ, zero, suc, ◌-◌, ◌*◌, ◌/◌, ◌^◌, ◌≤◌, ◌<◌, zero-le, min}
use native.Mathlib.Nat.{le_refl, le_trans, le_of_lt, le_of_eq, zero-mul, eq_of_mul-eq-mul_right, div-eq_of_lt, mul-le-mul_right, mul-mul-mul_comm, mul-pos}
use native.Mathlib.Omega.{arith}
use lib.Dec.{T, ltb, eqb, ltb→lt, eqb→eq, eqb-suc-zero, lit<}
use lib.Pow.{le_ones}
use lib.Ieee.{Float, nan, inf, fin, binary32, up, down, odd, units, round, of_int, mul, le, to_unsigned}
use lib.Ieee.Casts.{to_unsigned-lt}
use lib.Ieee.Fits.{and_l, and_r, down_pos, round_is}
use lib.Ieee.Nearest.{div_mono}
use lib.Ieee.Order.{round_mono}
use lib.Ieee.Positive.{positive, between}
use Rattle.std.specs.Prelude.{Result, Ok, Err}
use Rattle.convert.specs.declared.Setting.{Setting}
use Rattle.convert.specs.Frequency.{ready, limit_of, outside, meaning, word_of, setting_of}
use Rattle.registers.specs.declared.refusal.Refusal.{Refusal}
use Rattle.registers.specs.declared.refusal.Refusal.TheVariants.{Bounds, NotReady}
use Rattle.binary32.specs.Floats.{whole, ◌times◌}

or_le : (a b : ℕ) → T (ltb a b || (eqb a b && true)) → a ≤ b
or_le a b = go (ltb a b) (eqb a b) (ltb→lt a b) (eqb→eq a b)
  where
    go : (p q : Bool) → (T p → a < b) → (T q → a ≡ b) → T (p || (q && true)) → a ≤ b
    go true q l e t = le_of_lt (l tt)
    go false true l e t = le_of_eq (e tt)
    go false false l e t = absurd t

capped : (a b c : ℕ) → a ≤ b → min a c ≤ min b c
capped a b c h = omega arith

-- what is no more than a zero with a sign
none : (A B : ℕ) → T (eqb A B && eqb A 0) → A ≡ 0
none A B h = eqb→eq A 0 (and_r (eqb A B) (eqb A 0) h)

pub cut_mono : (w : ℕ) (x y : Float) → T (le x y) → to_unsigned w x ≤ to_unsigned w y
unfolding le to_unsigned
cut_mono w nan y h = zero-le
cut_mono w (inf true) y h = zero-le
cut_mono w (fin true m e) y h = zero-le
cut_mono w (inf false) nan h = absurd h
cut_mono w (inf false) (inf true) h = absurd h
cut_mono w (inf false) (inf false) h = le_refl (2 ^ w - 1)
cut_mono w (inf false) (fin t n d) h = absurd h
cut_mono w (fin false m e) nan h = absurd h
cut_mono w (fin false m e) (inf true) h = absurd h
cut_mono w (fin false m e) (inf false) h = omega arith
cut_mono w (fin false m e) (fin true n d) h =
    let z = none (m * up e * down d) (n * up d * down e) h in
    let k : m * up e / down e ≤ 0 / down d = div_mono (m * up e) (down e) 0 (down d) (down_pos e) (down_pos d) (le_of_eq (z ∙ sym (zero-mul (down e)))) in
    let q : 0 / down d ≡ 0 = div-eq_of_lt (down_pos d) in
    omega arith
cut_mono w (fin false m e) (fin false n d) h =
    capped (m * up e / down e) (n * up d / down d) (2 ^ w - 1) (div_mono (m * up e) (down e) (n * up d) (down d) (down_pos e) (down_pos d) (or_le (m * up e * down d) (n * up d * down e) h))

negative_units : (w q k : ℕ) → to_unsigned w (units binary32 true q k) ≡ 0
unfolding units odd to_unsigned
negative_units w q k = go (ltb (q * 2 ^ k) (2 ^ 277)) q
  where
    go : (b : Bool) (q : ℕ) → to_unsigned w (cond b (odd 25 true q k 149) (inf true)) ≡ 0
    go false q = refl
    go true zero = refl
    go true (suc q) = refl

pub negative : (w a c : ℕ) → to_unsigned w (round binary32 true a c) ≡ 0
negative w a c = ap (to_unsigned w) (round_is binary32 true a c) ∙ negative_units w _ _

nothing : (w a c : ℕ) → 0 < c → a ≡ 0 → to_unsigned w (round binary32 false a c) ≡ 0
unfolding round to_unsigned
nothing w a c C z =
    let h : to_unsigned w (round binary32 false a c) ≤ min 0 (2 ^ w - 1) = cut_mono w (round binary32 false a c) (round binary32 false 0 1) (round_mono binary32 a c 0 1 C (lit< tt) (omega arith)) in
    omega arith

-- a / c is no more than b / d, and k / l is the other factor
rounded : (w a c b d k l : ℕ) → 0 < c → 0 < d → 0 < l → a * d ≤ b * c → to_unsigned w (round binary32 false (a * k) (c * l)) ≤ to_unsigned w (round binary32 false (b * k) (d * l))
rounded w a c b d k l C D L h =
    cut_mono w (round binary32 false (a * k) (c * l)) (round binary32 false (b * k) (d * l))
    (round_mono binary32 (a * k) (c * l) (b * k) (d * l) (mul-pos C L) (mul-pos D L)
    (le_trans (le_of_eq (mul-mul-mul_comm a k d l)) (le_trans (mul-le-mul_right (k * l) h) (le_of_eq (mul-mul-mul_comm b c k l)))))

pub product_mono : (w : ℕ) (x y r : Float) → T (positive r) → T (le x y) → to_unsigned w (x times r) ≤ to_unsigned w (y times r)
unfolding le mul to_unsigned
product_mono w x y nan p h = absurd p
product_mono w x y (inf s) p h = absurd p
product_mono w x y (fin true k c) p h = absurd p
product_mono w x y (fin false zero c) p h = absurd p
product_mono w nan y (fin false (suc k) c) p h = absurd h
product_mono w (inf true) y (fin false (suc k) c) p h = rw (eqb-suc-zero k) zero-le
product_mono w (inf false) nan (fin false (suc k) c) p h = absurd h
product_mono w (inf false) (inf true) (fin false (suc k) c) p h = absurd h
product_mono w (inf false) (inf false) (fin false (suc k) c) p h = le_refl _
product_mono w (inf false) (fin t n d) (fin false (suc k) c) p h = absurd h
product_mono w (fin true m e) y (fin false (suc k) c) p h = rw (negative w (m * up e * (suc k * up c)) (down e * down c)) zero-le
product_mono w (fin false m e) nan (fin false (suc k) c) p h = absurd h
product_mono w (fin false m e) (inf true) (fin false (suc k) c) p h = absurd h
product_mono w (fin false m e) (inf false) (fin false (suc k) c) p h = rw (eqb-suc-zero k) (le_ones w (to_unsigned-lt w (fin false m e times fin false (suc k) c)))
product_mono w (fin false m e) (fin true n d) (fin false (suc k) c) p h =
    let z = eq_of_mul-eq-mul_right (down d) (down_pos d) (m * up e) 0 (none (m * up e * down d) (n * up d * down e) h ∙ sym (zero-mul (down d))) in
    rw (nothing w (m * up e * (suc k * up c)) (down e * down c) (mul-pos (down_pos e) (down_pos c)) (rw z (zero-mul (suc k * up c)))) zero-le
product_mono w (fin false m e) (fin false n d) (fin false (suc k) c) p h =
    rounded w (m * up e) (down e) (n * up d) (down d) (suc k * up c) (down c) (down_pos e) (down_pos d) (down_pos c) (or_le (m * up e * down d) (n * up d * down e) h)

ready_positive : (ratio : Float) → T (ready ratio) → T (positive ratio)
unfolding of_int
ready_positive ratio t = between (whole 8) ratio (whole 4295) tt tt (and_l (le (whole 8) ratio) (le ratio (whole 4295)) t) (and_r (le (whole 8) ratio) (le ratio (whole 4295)) t)

pub accepted : (ratio f : Float) (s : Setting) → setting_of ratio f ≡ Ok s → T (ready ratio) × (s ≡ record { word = word_of ratio f; achieved = meaning ratio (word_of ratio f) })
accepted ratio f s = go (ready ratio) (outside (limit_of ratio) f) (record { word = word_of ratio f; achieved = meaning ratio (word_of ratio f) })
  where
    judged : Bool → Bool → Setting → Result Setting Refusal
    judged a b made = cond a (cond b (Err Bounds) (Ok made)) (Err NotReady)

    go : (a b : Bool) (made : Setting) → judged a b made ≡ Ok s → T a × (s ≡ made)
    go true true made h = absurd (cc)
    go true false made h = (tt, cc)
    go false b made h = absurd (cc)

pub word_mono : (ratio f g : Float) (s t : Setting) → setting_of ratio f ≡ Ok s → setting_of ratio g ≡ Ok t → T (le f g) → s.word ≤ t.word
word_mono ratio f g s t x y l =
    let a = accepted ratio f s x in
    let b = accepted ratio g t y in
    rw (a.1, b.1) (product_mono 32 f g ratio (ready_positive ratio a.0) l)
