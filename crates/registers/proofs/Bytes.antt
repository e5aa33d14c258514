-- Values high byte first, once over the width.
--     length_big_endian   as many bytes as the width
--     value_big_endian    reading what was written gives the value
--     big_endian_value    writing what was read gives the bytes
--     read_short, read_value   what a reading at a register's width tells
--     write_number_fits   a value that fits its width is refused by Room alone
use mathlib.Core.Path.{◌≡◌, refl, sym, ◌∙◌}
use mathlib.Core.List.{List, [], ◌∷◌, ◌++◌, append-nil, append_assoc}
use Prim.Native.Nat.{ℕ, zero, suc, ◌+◌, ◌-◌, ◌*◌, ◌/◌, ◌%◌, ◌^◌, ◌≤◌, ◌<◌}
use native.Mathlib.Nat.{add-zero, zero-add, pow-suc}
use native.Mathlib.Numerals.{add-one}
use native.Mathlib.Omega.{arith}
use borrow.Author.Tests.{lt-leb, le-ltb, ltb-true, ltb-false}
use mathlib.Core.Bool.{Bool, true, false, cond}
use lib.Dec.{ltb}
use lib.Dec.{ltb}
use lib.Arith.{digits_div, digits_mod, digits_lt}
use lib.ListN.{length, take, drop, set, length-append, length-set}
use Rattle.registers.proofs.Laid.{laid_nil, laid_sets, sets_snoc}
use Rattle.std.proofs.Common.{get_or, drop-cons, Result, Ok, Err}
use Rattle.std.proofs.lemmas.List.{drop_all}
use Rattle.registers.specs.declared.refusal.Refusal.{Refusal}
use Rattle.registers.specs.declared.refusal.Refusal.TheVariants.{Room, Short}
use Rattle.registers.specs.Bytes.{big_endian, value_from, value_of, laid, read_of, write_of}

pub length_big_endian : (w v : ℕ) → length (big_endian w v) ≡ w
unfolding big_endian
length_big_endian zero v = refl
length_big_endian (suc w) v = simp (length-append, length_big_endian w (v / 256)) (add-one w)

value_snoc : (u : ℕ) (xs : List ℕ) (b : ℕ) → value_from u (xs ++ b ∷ []) ≡ value_from u xs * 256 + b
unfolding value_from
value_snoc u [] b = refl
value_snoc u (x ∷ xs) b = value_snoc (u * 256 + x) xs b

pub value_big_endian : (w v : ℕ) → v < 256 ^ w → value_of (big_endian w v) ≡ v
unfolding value_from big_endian
value_big_endian zero v h = omega arith
value_big_endian (suc w) v h =
    let k = rw pow-suc at h in
    rw (value_snoc, value_big_endian w (v / 256) (omega arith)) (omega arith)

-- each is a byte
abbrev pub AllBytes : List ℕ → Type 0
AllBytes [] = Unit {0}
AllBytes (b ∷ bs) = (b < 256) × AllBytes bs

behind : (n u : ℕ) (bs : List ℕ) → AllBytes bs → big_endian (n + length bs) (value_from u bs) ≡ big_endian n u ++ bs
unfolding value_from big_endian
behind n u [] p = rw (add-zero, append-nil)
behind n u (b ∷ bs) p =
    let e : n + suc (length bs) ≡ suc n + length bs = omega arith in
    rw e (behind (suc n) (u * 256 + b) bs p.1 ∙ rw (digits_div u p.0, digits_mod u p.0, append_assoc))

pub big_endian_value : (bs : List ℕ) → AllBytes bs → big_endian (length bs) (value_of bs) ≡ bs
unfolding big_endian
big_endian_value bs p = rw zero-add at (behind 0 0 bs p)

-- ---- reading and writing at a width of at most 4

module _ (bs : List ℕ) (at w : ℕ) (h : w ≤ 4) where
  reading : read_of bs at w ≡ cond (ltb (length bs) (at + w)) (Err Short) (Ok (value_of (take w (drop at bs))))
  reading = rw (le-ltb 4 w h)

  pub read_short : (e : Refusal) → read_of bs at w ≡ Err e → (length bs < at + w) × (e ≡ Short)
  read_short e bad = go (ltb (length bs) (at + w)) refl (sym reading ∙ bad)
    where
      go : (b : Bool) → ltb (length bs) (at + w) ≡ b → ◌≡◌ {A = Result ℕ Refusal} (cond b (Err Short) (Ok (value_of (take w (drop at bs))))) (Err e) → (length bs < at + w) × (e ≡ Short)
      go true k n = (ltb-true (length bs) (at + w) k, cc)
      go false k n = absurd (cc)

  pub read_value : (v : ℕ) → read_of bs at w ≡ Ok v → (at + w ≤ length bs) × (v ≡ value_of (take w (drop at bs)))
  read_value v good = go (ltb (length bs) (at + w)) refl (sym reading ∙ good)
    where
      go : (b : Bool) → ltb (length bs) (at + w) ≡ b → ◌≡◌ {A = Result ℕ Refusal} (cond b (Err Short) (Ok (value_of (take w (drop at bs))))) (Ok v) → (at + w ≤ length bs) × (v ≡ value_of (take w (drop at bs)))
      go true k n = absurd (cc)
      go false k n = (ltb-false (length bs) (at + w) k, cc)

pub write_number_fits : (size at w v : ℕ) → w ≤ 4 → v < 256 ^ w → write_of size at w v ≡ cond (ltb size (at + w)) (Err Room) (Ok tt)
write_number_fits size at w v h k = rw (le-ltb 4 w h, lt-leb (256 ^ w) v k)

-- ---- for the loops: one byte read behind what was read, and the last of what is left stored

pub value_from_next : (u i : ℕ) (bs : List ℕ) → i < length bs → value_from (u * 256 + get_or bs i 0) (drop (i + 1) bs) ≡ value_from u (drop i bs)
unfolding value_from
value_from_next u i bs h = rw (add-one, drop-cons bs i 0 h)

pub value_from_all : (u i : ℕ) (bs : List ℕ) → length bs ≤ i → value_from u (drop i bs) ≡ u
unfolding value_from
value_from_all u i bs h = rw (drop_all i bs h)

pub value_lt_next : (u i b : ℕ) → u < 256 ^ i → b < 256 → u * 256 + b < 256 ^ (i + 1)
value_lt_next u i b h k = rw (add-one, pow-suc) (digits_lt h k)

pub last_laid : (d : List ℕ) (at i v : ℕ) → 0 < i → at + i ≤ length d → laid (set d (at + (i - 1)) (v % 256)) at (big_endian (i - 1) (v / 256)) ≡ laid d at (big_endian i v)
unfolding big_endian
last_laid d at zero v h k = absurd (omega (arith, h))
last_laid d at (suc i) v h k =
    let e : suc i - 1 ≡ i = omega arith in
    let t : length (big_endian i (v / 256)) ≡ i = length_big_endian i (v / 256) in
    rw e (laid_sets (set d (at + i) (v % 256)) at (big_endian i (v / 256)) (rw (length-set, t) (omega arith))
    ∙ sym (laid_sets d at (big_endian i (v / 256) ++ (v % 256) ∷ []) (rw length-append (omega (arith, t, k))) ∙ sets_snoc d at (big_endian i (v / 256)) (v % 256) ∙ rw t))

pub none_laid : (d : List ℕ) (at v : ℕ) → laid d at (big_endian 0 v) ≡ d
unfolding big_endian
none_laid d at v = laid_nil d at
