-- Words left to be laid: a store takes one off.
--     done         none left
--     whole        all left
--     one_word .. four_words   so many stores
use mathlib.Core.Path.{◌≡◌, refl, sym, ap, ◌∙◌}
use mathlib.Core.List.{List}
use Prim.Native.Nat.{ℕ, zero, suc, ◌+◌, ◌*◌, ◌-◌, ◌≤◌, ◌<◌}
use native.Mathlib.Nat.{sub-zero}
use native.Mathlib.Omega.{arith}
use lib.ListN.{length, set, drop, length-set}
use lib.Seq.{drop-drop}
use Rattle.registers.specs.Bytes.{laid}
use Rattle.registers.proofs.Laid.{laid_cons, laid_nil}
use Rattle.profile.specs.Serializer.{words_of, four_of}
use Rattle.profile.specs.Lent.{left_of}

length_words : (n : ℕ) (bs : List ℕ) → length (words_of n bs) ≡ n
unfolding words_of
length_words zero bs = refl
length_words (suc n) bs = ap suc (length_words n (drop 4 bs))

-- a turn's word is the first of those left
turn : (d bs : List ℕ) (n i x : ℕ) → i < n → n ≤ length d → x ≡ four_of (drop (i * 4) bs)
    → laid (set d i x) (i + 1) (words_of (n - (i + 1)) (drop ((i + 1) * 4) bs)) ≡ laid d i (words_of (n - i) (drop (i * 4) bs))
unfolding words_of
turn d bs n i x h k e =
    let p : n - i ≡ suc (n - (i + 1)) = omega arith in
    let q : (i + 1) * 4 ≡ i * 4 + 4 = omega arith in
    let m = length_words (n - (i + 1)) (drop (i * 4 + 4) bs) in
    rw (p, q, drop-drop, e) (sym (laid_cons d i (four_of (drop (i * 4) bs)) (words_of (n - (i + 1)) (drop (i * 4 + 4) bs)) (omega arith)))

pub done : (d bs : List ℕ) (n i : ℕ) → n ≤ i → left_of n i d bs ≡ d
unfolding words_of
done d bs n i h =
    let p : n - i ≡ 0 = omega arith in
    rw p (laid_nil d i)

-- a store of the next word
step : (d bs : List ℕ) (n i j x : ℕ) → j ≡ i + 1 → i < n → n ≤ length d → x ≡ four_of (drop (i * 4) bs) → left_of n j (set d i x) bs ≡ left_of n i d bs
step d bs n i j x e h k f = rw e (turn d bs n i x h k f)

pub whole : (d bs : List ℕ) (n : ℕ) → left_of n 0 d bs ≡ laid d 0 (words_of n bs)
whole d bs n = rw sub-zero

module _ (d bs : List ℕ) (n i : ℕ) (room : n ≤ length d) where
  pub one_word : (a : ℕ) → i < n → n ≤ i + 1 → a ≡ four_of (drop (i * 4) bs) → set d i a ≡ left_of n i d bs
  one_word a h k e = sym (done (set d i a) bs n (i + 1) k) ∙ step d bs n i (i + 1) a refl h room e

  pub two_words : (a b : ℕ) → i + 1 < n → n ≤ i + 2 → a ≡ four_of (drop (i * 4) bs) → b ≡ four_of (drop ((i + 1) * 4) bs) → set (set d i a) (i + 1) b ≡ left_of n i d bs
  two_words a b h k e f =
      sym (done (set (set d i a) (i + 1) b) bs n (i + 2) k)
      ∙ step (set d i a) bs n (i + 1) (i + 2) b (omega arith) h (simp length-set room) f
      ∙ step d bs n i (i + 1) a refl (omega arith) room e

  pub three_words : (a b c : ℕ) → i + 2 < n → n ≤ i + 3 → a ≡ four_of (drop (i * 4) bs) → b ≡ four_of (drop ((i + 1) * 4) bs) → c ≡ four_of (drop ((i + 2) * 4) bs)
      → set (set (set d i a) (i + 1) b) (i + 2) c ≡ left_of n i d bs
  three_words a b c h k e f g =
      sym (done (set (set (set d i a) (i + 1) b) (i + 2) c) bs n (i + 3) k)
      ∙ step (set (set d i a) (i + 1) b) bs n (i + 2) (i + 3) c (omega arith) h (simp length-set room) g
      ∙ step (set d i a) bs n (i + 1) (i + 2) b (omega arith) (omega arith) (simp length-set room) f
      ∙ step d bs n i (i + 1) a refl (omega arith) room e

  pub four_words : (a b c x : ℕ) → i + 3 < n → a ≡ four_of (drop (i * 4) bs) → b ≡ four_of (drop ((i + 1) * 4) bs) → c ≡ four_of (drop ((i + 2) * 4) bs) → x ≡ four_of (drop ((i + 3) * 4) bs)
      → left_of n (i + 4) (set (set (set (set d i a) (i + 1) b) (i + 2) c) (i + 3) x) bs ≡ left_of n i d bs
  four_words a b c x h e f g k =
      step (set (set (set d i a) (i + 1) b) (i + 2) c) bs n (i + 3) (i + 4) x (omega arith) h (simp length-set room) k
      ∙ step (set (set d i a) (i + 1) b) bs n (i + 2) (i + 3) c (omega arith) (omega arith) (simp length-set room) g
      ∙ step (set d i a) bs n (i + 1) (i + 2) b (omega arith) (omega arith) (simp length-set room) f
      ∙ step d bs n i (i + 1) a refl (omega arith) room e
