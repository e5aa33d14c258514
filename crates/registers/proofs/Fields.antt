-- A field of a word, once over position and width.
--     get_set       what was set reads back
--     stays_below   what lies below the field stays, a field or a single bit
--     stays_above   what lies above it stays
--     set_get       setting what is there changes nothing
--     set_lt        a word that fits some bits fits them still
--     too_wide      a value too wide is Word
--     set_of_fits   what is set in a field of a register fits the register
--     fits_out      no value fits a field that does not lie within 32 bits
--     fits_within   a value fits one that does if it is below 2 ^ width
--     get_past, get_wide   a field past 32 bits, or as wide
use mathlib.Core.Path.{◌≡◌, sym, ap, ◌∙◌}
use mathlib.Core.Bool.{false, and-true, and-false}
use Prim.Native.Nat.{ℕ, ◌+◌, ◌-◌, ◌*◌, ◌/◌, ◌%◌, ◌^◌, ◌≤◌, ◌<◌}
use native.Mathlib.Nat.{mod-lt, mod-eq_of_lt, zero-mod, div-eq_of_lt, div-le_self, lt_of_lt_of_le, lt_of_le_of_lt, add_comm, add_assoc}
use native.Mathlib.Omega.{arith}
use lib.Dec.{ltb}
use lib.Arith.{digits_lt}
use lib.Pow.{pow_pos, pow_mono, pow-add, split, high, low, field, mod-mod-pow, mod-pow-add, shr-shr, shr_lt}
use borrow.Author.Tests.{le-ltb, le-leb, lt-leb}
use Rattle.registers.specs.declared.field.Field.{Field}
use Rattle.std.proofs.Common.{Ok, Err, rules, refl, Bool, true, cond}
use Rattle.registers.proofs.Widths.{bytes_bits}
use Rattle.registers.specs.declared.refusal.Refusal.TheVariants.{Word}
use Rattle.registers.specs.Fields.{field_of, with_field, fits_field, set_of}

-- ---- over a position p and a width n, with the word's part above the field a, and below it l

regroup : (a p n v l : ℕ) → a * (p * n) + v * p + l ≡ (a * n + v) * p + l
regroup a p n v l = omega arith

module _ (a p n v l : ℕ) (h : v < 2 ^ n) (g : l < 2 ^ p) where
  shape : a * 2 ^ (p + n) + v * 2 ^ p + l ≡ (a * 2 ^ n + v) * 2 ^ p + l
  shape = rw (pow-add 2 p n) (regroup a (2 ^ p) (2 ^ n) v l)

  tail : v * 2 ^ p + l < 2 ^ (p + n)
  tail = rw (add_comm p n, pow-add 2 n p) (digits_lt h g)

  inside : (a * 2 ^ (p + n) + v * 2 ^ p + l) / 2 ^ p % 2 ^ n ≡ v
  inside = rw (shape, high (a * 2 ^ n + v) p g, low a n h)

  under : (a * 2 ^ (p + n) + v * 2 ^ p + l) % 2 ^ p ≡ l
  under = rw (shape, low (a * 2 ^ n + v) p g)

  over : (a * 2 ^ (p + n) + v * 2 ^ p + l) / 2 ^ (p + n) ≡ a
  over = rw (add_assoc (a * 2 ^ (p + n)) (v * 2 ^ p) l, high a (p + n) tail)

-- what lies below p is a matter of the remainder by 2 ^ p
lower : (x p q m : ℕ) → q + m ≤ p → x / 2 ^ q % 2 ^ m ≡ x % 2 ^ p % 2 ^ (m + q) / 2 ^ q
lower x p q m h =
    let e : p ≡ (p - (m + q)) + (m + q) = omega arith in
    sym (field x m q) ∙ ap (λ (k : ℕ). k / 2 ^ q) (sym (mod-mod-pow x (p - (m + q)) (m + q))) ∙ ap (λ (k : ℕ). x % 2 ^ k % 2 ^ (m + q) / 2 ^ q) (sym e)

-- what lies from t up is a matter of the quotient by 2 ^ t
upper : (x t q : ℕ) → t ≤ q → x / 2 ^ q ≡ x / 2 ^ t / 2 ^ (q - t)
upper x t q h =
    let e : t + (q - t) ≡ q = omega arith in
    ap (λ (k : ℕ). x / 2 ^ k) (sym e) ∙ sym (shr-shr x t (q - t))

pub tail_lt : (w p n v : ℕ) → v < 2 ^ n → p + n ≤ 32 → v * 2 ^ p + w % 2 ^ p < 4294967296
tail_lt w p n v h k = lt_of_lt_of_le (tail 0 p n v (w % 2 ^ p) h (mod-lt w (pow_pos p))) (pow_mono {j = 32} k)

-- ---- the laws

module _ (w : ℕ) (f : Field) (v : ℕ) (h : v < 2 ^ f.width) where
  beneath : w % 2 ^ f.position < 2 ^ f.position
  beneath = mod-lt w (pow_pos f.position)

  pub get_set : field_of (with_field w f v) f ≡ v
  unfolding field_of with_field
  get_set = inside (w / 2 ^ (f.position + f.width)) f.position f.width v (w % 2 ^ f.position) h beneath

  pub stays_below : (g : Field) → g.position + g.width ≤ f.position → field_of (with_field w f v) g ≡ field_of w g
  unfolding field_of with_field
  stays_below g k =
      lower _ f.position g.position g.width k
      ∙ ap (λ (m : ℕ). m % 2 ^ (g.width + g.position) / 2 ^ g.position) (under (w / 2 ^ (f.position + f.width)) f.position f.width v (w % 2 ^ f.position) h beneath)
      ∙ sym (lower w f.position g.position g.width k)

  pub stays_above : (g : Field) → f.position + f.width ≤ g.position → field_of (with_field w f v) g ≡ field_of w g
  unfolding field_of with_field
  stays_above g k =
      ap (λ (m : ℕ). m % 2 ^ g.width)
      (upper _ (f.position + f.width) g.position k
      ∙ ap (λ (m : ℕ). m / 2 ^ (g.position - (f.position + f.width))) (over (w / 2 ^ (f.position + f.width)) f.position f.width v (w % 2 ^ f.position) h beneath)
      ∙ sym (upper w (f.position + f.width) g.position k))

  pub set_lt : (m : ℕ) → w < 2 ^ m → f.position + f.width ≤ m → with_field w f v < 2 ^ m
  unfolding with_field
  set_lt m k l =
      let t = f.position + f.width in
      let e : (m - t) + t ≡ m = omega arith in
      let high_lt : w / 2 ^ t < 2 ^ (m - t) = shr_lt (m - t) t (rw e k) in
      rw (add_assoc (w / 2 ^ t * 2 ^ t) (v * 2 ^ f.position) (w % 2 ^ f.position))
      (rw (← pow-add 2 (m - t) t, e) at (digits_lt high_lt (tail (w / 2 ^ t) f.position f.width v (w % 2 ^ f.position) h beneath)))

fits_parts : (f : Field) (v : ℕ) → fits_field f v ≡ true → (v < 2 ^ f.width) × (f.position + f.width ≤ 32)
fits_parts f v t = search rules

-- a value of so many bytes has so many with a field set
pub set_of_fits : (m w : ℕ) (f : Field) (v r : ℕ) → set_of w f v ≡ Ok r → w < 256 ^ m → f.position + f.width ≤ 8 * m → r < 256 ^ m
unfolding with_field
set_of_fits m w f v r e h k = by (fits_field f v) refl e
  where
    by : (b : Bool) → fits_field f v ≡ b → cond b (Ok (with_field w f v)) (Err Word) ≡ Ok r → r < 256 ^ m
    by true t i =
        let fits = fits_parts f v t in
        let same : with_field w f v ≡ r = cc in
        rw (← same, bytes_bits m) (set_lt w f v fits.0 (8 * m) (rw bytes_bits at h) k)
    by false t i = cc

pub set_get : (w : ℕ) (f : Field) → with_field w f (field_of w f) ≡ w
unfolding field_of with_field
set_get w f =
    let t = f.position + f.width in
    add_assoc (w / 2 ^ t * 2 ^ t) (w / 2 ^ f.position % 2 ^ f.width * 2 ^ f.position) (w % 2 ^ f.position)
    ∙ ap (λ (m : ℕ). w / 2 ^ t * 2 ^ t + m) (sym (mod-pow-add w f.width f.position) ∙ ap (λ (k : ℕ). w % 2 ^ k) (add_comm f.width f.position))
    ∙ split w t

pub too_wide : (w : ℕ) (f : Field) (v : ℕ) → 2 ^ f.width ≤ v → set_of w f v ≡ Err Word
too_wide w f v h = rw (le-ltb v (2 ^ f.width) h)

pub fits_out : (f : Field) (v : ℕ) → 32 < f.position + f.width → false ≡ fits_field f v
fits_out f v h = rw (lt-leb (f.position + f.width) 32 h) (sym (and-false (ltb v (2 ^ f.width))))

pub fits_within : (f : Field) (v : ℕ) → f.position + f.width ≤ 32 → ltb v (2 ^ f.width) ≡ fits_field f v
fits_within f v h = rw (le-leb (f.position + f.width) 32 h) (sym (and-true (ltb v (2 ^ f.width))))

-- ---- a word of 32 bits

pub get_past : (w : ℕ) (f : Field) → w < 2 ^ 32 → 32 ≤ f.position → field_of w f ≡ 0
unfolding field_of
get_past w f h k = rw (div-eq_of_lt (lt_of_lt_of_le h (pow_mono {i = 32} k)), zero-mod)

pub get_wide : (w : ℕ) (f : Field) → w < 2 ^ 32 → 32 ≤ f.width → field_of w f ≡ w / 2 ^ f.position
unfolding field_of
get_wide w f h k = mod-eq_of_lt (lt_of_le_of_lt (div-le_self w (2 ^ f.position)) (lt_of_lt_of_le h (pow_mono {i = 32} k)))
