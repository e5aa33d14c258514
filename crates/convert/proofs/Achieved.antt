-- What a setting achieved is what reading the written word back gives, and where an amplitude reads as 1.0.
--     asf_most        an amplitude in 0.0 ..= 1.0 has a scale factor of at most 1024
--     acr_meaning     a scale factor of at most 1024 has an ACR, which its register holds and which means it over 1024
--     word_given, word_fits, word_meaning   the same of an amplitude in 0.0 ..= 1.0
--     frequency_back, phase_back, amplitude_back   reading the word of a setting gives what the setting achieved
--     one_off, off_one   an ACR means 1.0 exactly where its multiplier bit is off
use mathlib.Core.Path.{◌≡◌, refl, sym, subst}
use mathlib.Core.Logic.{inl, inr}
use mathlib.Core.Bool.{Bool, true, false, cond}
use Prim.Native.Nat.{ℕ, ◌+◌, ◌/◌, ◌^◌, ◌≤◌, ◌<◌}
use native.Mathlib.Nat.{mod-lt, mod-eq_of_lt, lt_of_lt_of_le, eq-or-lt_of_le}
use native.Mathlib.Omega.{arith}
use lib.Dec.{T, eqb, eqb→eq, lit<, lit≤}
use borrow.Author.Tests.{lt-ltb}
use lib.Ieee.{Float, of_int, mul, div, le, to_unsigned}
use lib.Ieee.Fits.{and_r}
use lib.Ieee.Exact.{HasValue}
use lib.Ieee.Bits.{is_true}
use Rattle.std.specs.Prelude.{Result, Ok, Err, IsOkAnd}
use Rattle.std.specs.Result.{result_unwrap_or}
use Rattle.registers.specs.declared.refusal.Refusal.{Refusal}
use Rattle.registers.specs.declared.refusal.Refusal.TheVariants.{Bounds}
use Rattle.registers.specs.Registers.{width_of}
use Rattle.registers.specs.Fields.{field_of}
use Rattle.bitfields.specs.Acr.{asf, multiplier, acr_of}
use Rattle.binary32.specs.Floats.{whole, ◌over◌, within}
use Rattle.convert.specs.declared.Setting.{Setting}
use Rattle.convert.specs.Amplitude.{asf_of, word_of, meaning}
use Rattle.convert.specs.Frequency as F
use Rattle.convert.specs.Phase as P
use Rattle.convert.specs.Amplitude as A
use Rattle.convert.proofs.Rising.{product_mono, accepted}
use Rattle.convert.proofs.Steps.{part, word_lt}

-- ---- the scale factor

pub asf_most : (x : Float) → T (within (whole 0) x (whole 1)) → asf_of x ≤ 1024
unfolding of_int mul to_unsigned
asf_most x t = product_mono 32 x (whole 1) (whole 1024) tt (and_r (le (whole 0) x) (le x (whole 1)) t)

below : (s : ℕ) → s < 1024 → meaning (4096 + s) ≡ whole s over whole 1024
unfolding field_of
below s h =
    let m : field_of (4096 + s) multiplier ≡ 1 = omega arith in
    let a : field_of (4096 + s) asf ≡ s = omega arith in
    rw (m, a)

-- ---- what it is written as

pub acr_meaning : (s : ℕ) → s ≤ 1024 → IsOkAnd (acr_of s) (λ acr. (acr < 256 ^ 3) × (meaning acr ≡ whole s over whole 1024))
unfolding field_of of_int div
acr_meaning s h = elim (eq-or-lt_of_le h) [ inl e ↦ rw e (lit< tt, refl) | inr l ↦ rw (lt-ltb s 1024 l) (omega arith, below s l) ]

given : (r : Result ℕ Refusal) (P : ℕ → Type 0) → IsOkAnd r P → (r ≡ Ok (result_unwrap_or r 0)) × P (result_unwrap_or r 0)
given (Ok acr) P h = (refl, h)
given (Err e) P h = absurd h

in_range : (x : Float) → within (whole 0) x (whole 1) ≡ true → (acr_of (asf_of x) ≡ Ok (A.word_of x)) × ((A.word_of x < 256 ^ 3) × (meaning (A.word_of x) ≡ whole (asf_of x) over whole 1024))
in_range x h = given (acr_of (asf_of x)) _ (acr_meaning (asf_of x) (asf_most x (subst T (sym h) tt)))

pub word_given : (x : Float) → within (whole 0) x (whole 1) ≡ true → acr_of (asf_of x) ≡ Ok (A.word_of x)
word_given x h = (in_range x h).0

pub word_fits : (x : Float) → within (whole 0) x (whole 1) ≡ true → A.word_of x < 256 ^ 3
word_fits x h = (in_range x h).1.0

pub word_meaning : (x : Float) → within (whole 0) x (whole 1) ≡ true → meaning (A.word_of x) ≡ whole (asf_of x) over whole 1024
word_meaning x h = (in_range x h).1.1

-- ---- reading back

pub frequency_back : (ratio f : Float) (s : Setting) → F.setting_of ratio f ≡ Ok s → F.reading_of ratio s.word ≡ Ok s.achieved
frequency_back ratio f s h =
    let a = accepted ratio f s h in
    rw (a.1, is_true (F.ready ratio) a.0)

pub phase_back : (x : Float) → P.reading_of (P.setting_of x).word ≡ Ok (P.setting_of x).achieved
unfolding width_of
phase_back x = rw (lt-ltb (P.word_of x) 65536 (lt_of_lt_of_le (word_lt x) (lit≤ tt)), mod-eq_of_lt (word_lt x))

pub amplitude_back : (x : Float) (s : Setting) → A.setting_of x ≡ Ok s → A.reading_of s.word ≡ Ok s.achieved
unfolding width_of
amplitude_back x s = go (within (whole 0) x (whole 1)) refl
  where
    go : (b : Bool) → within (whole 0) x (whole 1) ≡ b → cond b (Ok (record { word = A.word_of x; achieved = whole (asf_of x) over whole 1024 })) (Err Bounds) ≡ Ok s → A.reading_of s.word ≡ Ok s.achieved
    go true e h =
        let made : record { word = A.word_of x; achieved = whole (asf_of x) over whole 1024 } ≡ s = cc in
        rw (← made, lt-ltb (A.word_of x) (256 ^ 3) (word_fits x e), word_meaning x e)
    go false e h = absurd (cc)

-- ---- full amplitude

pub one_off : (acr : ℕ) → field_of acr multiplier ≡ 0 → meaning acr ≡ whole 1
one_off acr h = rw h

pub off_one : (acr : ℕ) → meaning acr ≡ whole 1 → field_of acr multiplier ≡ 0
unfolding of_int field_of
off_one acr = go (eqb (field_of acr multiplier) 0) (eqb→eq (field_of acr multiplier) 0)
  where
    go : (b : Bool) → (T b → field_of acr multiplier ≡ 0) → cond b (whole 1) (whole (field_of acr asf) over whole 1024) ≡ whole 1 → field_of acr multiplier ≡ 0
    go true m h = m tt
    go false m h =
        let l : field_of acr asf < 1024 = mod-lt (acr / 1) (lit< tt) in
        let v : HasValue (whole 1) false (field_of acr asf) 1024 = subst (λ (x : Float). HasValue x false (field_of acr asf) 1024) h (part (field_of acr asf) 10 (lit≤ tt) (lt_of_lt_of_le l (lit≤ tt))) in
        omega arith
