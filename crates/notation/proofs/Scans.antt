-- Numbers byte by byte.
--     digit_is               a byte's digit is std's, and 16 where std has none
--     scan_next, scan_stop   a digit, and another byte
use Rattle.std.proofs.Common.{ℕ, suc, ◌+◌, ◌-◌, ◌*◌, ◌^◌, ◌<◌, ◌≤◌, ◌≡◌, refl, ap, Bool, true, false, cond, List, [], ◌∷◌, length, get_or, drop, arith}
use Rattle.std.proofs.Common.{Ok, Err, min}
use Rattle.std.specs.Char.{digit_value}
use native.Mathlib.Nat.{mul-le-mul_left}
use native.Mathlib.Numerals.{add-one}
use lib.Dec.{ltb}
use lib.Seq.{drop-cons}
use borrow.Author.Tests.{lt-ltb, le-ltb, ltb-false, ltb-true}
use Rattle.std.proofs.lemmas.Bool.Decides.{nat_tests}
use lib.ListN.{drop_of_length-le}
use Rattle.notation.specs.declared.Reason.TheVariants.{Digits, Large}
use Rattle.notation.specs.Numbers.{digit_of, scan_of}

digit_is : (b : ℕ) → digit_of b ≡ min 16 (digit_value b)
unfolding digit_of
digit_is b = grind (arith, nat_tests)

module _ (base : ℕ) (some : 1 ≤ base) where
  grows : (v d : ℕ) → 4294967296 ≤ v → 4294967296 ≤ v * base + d
  grows v d h = omega (arith, mul-le-mul_left v some)

  scan_large : (v w : ℕ) (bs : List ℕ) → 4294967296 ≤ v → 4294967296 ≤ w → scan_of base v bs ≡ scan_of base w bs
  unfolding scan_of
  scan_large v w [] hv hw = simp (le-ltb v 4294967296 hv, le-ltb w 4294967296 hw)
  scan_large v w (b ∷ bs) hv hw =
      ap (λ n. cond (ltb (digit_of b) base) n (Err Digits))
      (scan_large (v * base + digit_of b) (w * base + digit_of b) bs (grows v (digit_of b) hv) (grows w (digit_of b) hw))

  capped : (v w d : ℕ) (bs : List ℕ) → w ≡ min (min (v * base) (2 ^ 64 - 1) + d) (2 ^ 64 - 1) → (s : Bool) → ltb (v * base + d) 18446744073709551616 ≡ s → scan_of base w bs ≡ scan_of base (v * base + d) bs
  capped v w d bs e true q =
      let k : v * base + d < 18446744073709551616 = ltb-true (v * base + d) 18446744073709551616 q in
      let f : w ≡ v * base + d = omega arith in
      rw f
  capped v w d bs e false q =
      let k : 18446744073709551616 ≤ v * base + d = ltb-false (v * base + d) 18446744073709551616 q in
      scan_large w (v * base + d) bs (omega arith) (omega arith)

  scan_capped : (v w d : ℕ) (bs : List ℕ) → w ≡ min (min (v * base) (2 ^ 64 - 1) + d) (2 ^ 64 - 1) → scan_of base w bs ≡ scan_of base (v * base + d) bs
  scan_capped v w d bs e = capped v w d bs e (ltb (v * base + d) 18446744073709551616) refl

  module _ (few : base ≤ 16) (t : List ℕ) (i v : ℕ) (there : i < length t) where
    pub scan_next : (w d : ℕ) → d ≡ digit_value (get_or t i 0) → d < base → w ≡ min (min (v * base) (2 ^ 64 - 1) + d) (2 ^ 64 - 1) → scan_of base w (drop (i + 1) t) ≡ scan_of base v (drop i t)
    unfolding scan_of
    scan_next w d e h f =
        let s : digit_of (get_or t i 0) ≡ d = omega (arith, digit_is (get_or t i 0)) in
        rw (add-one, drop-cons t i 0)
        (simp (s, lt-ltb d base h) (scan_capped v w d (drop (suc i) t) f))

    pub scan_stop : base ≤ digit_value (get_or t i 0) → Err Digits ≡ scan_of base v (drop i t)
    unfolding scan_of
    scan_stop h =
        let s : base ≤ digit_of (get_or t i 0) = omega (arith, digit_is (get_or t i 0)) in
        rw (drop-cons t i 0) (simp (le-ltb _ base s))

  pub scan_end : (t : List ℕ) (i v : ℕ) → length t ≤ i → scan_of base v (drop i t) ≡ cond (ltb v 4294967296) (Ok v) (Err Large)
  unfolding scan_of
  scan_end t i v h = rw (drop_of_length-le t h)
