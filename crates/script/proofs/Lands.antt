-- Where padding lands, word by word.
--     give_word   a register given to the channels of a mask is set at exactly those
--     chosen      after a push the channels that are selected, where padding lands, are the push's
--     pads        after a finalisation CSR, if touched, has the mode and all channels, an LSRR that is touched is zero, and every other word is as it was
use mathlib.Core.Path.{◌≡◌, refl, ap, ◌∙◌}
use mathlib.Core.Bool.{Bool, true, false, cond, ◌&&◌, ◌||◌}
use mathlib.Core.List.{List}
use Prim.Native.Nat.{ℕ, zero, suc, ◌+◌, ◌*◌, ◌%◌, ◌≤◌, ◌<◌}
use native.Mathlib.Omega.{arith}
use borrow.Author.Tests.{eqb-true, eqb-false}
use lib.Dec.{eqb}
use lib.ListN.{length, get_or, set, length-set}
use lib.Seq.{get_or-set_other, get_or-set_same}
use Rattle.registers.proofs.Choice.{by}
use Rattle.registers.specs.Registers.{CSR, CFTW0, CPOW0, ACR, LSRR}
use Rattle.bitfields.specs.Csr.{byte_of}
use Rattle.image.specs.Image.{selects, reaches, give_to, give, selected, select}
use Rattle.image.proofs.Images.{length_give, selected_select}
use Rattle.rules.specs.declared.Push as given
use Rattle.rules.specs.Rules.{word_of}
use Rattle.script.proofs.Follows.{selected_gives}
use Rattle.script.specs.declared.Step.TheVariants.{Push, Finalize}
use Rattle.script.specs.Meaning.{padded_by, effect_at, padding_touches, touches_at}

length_give_to : (n mask a v : ℕ) (image : List ℕ) → length (give_to n mask a v image) ≡ length image
length_give_to zero mask a v image = refl
length_give_to (suc i) mask a v image =
    let h = length_give_to i mask a v image in
    by (λ (l : List ℕ). length l ≡ length image) (selects mask i) (λ _. length-set (give_to i mask a v image) (22 * i + a) v ∙ h) (λ _. h)

store : (here : Bool) (k v : ℕ) (image : List ℕ) (j : ℕ) → k < length image → eqb j k ≡ here → get_or (set image k v) j 0 ≡ cond here v (get_or image j 0)
store true k v image j h e = rw (eqb-true j k e) (get_or-set_same image k v 0 h)
store false k v image j h e = get_or-set_other image k j v 0 (eqb-false j k e)

store_if : (here on : Bool) (k v : ℕ) (image : List ℕ) (j : ℕ) → k < length image → eqb j k ≡ here → get_or (cond on (set image k v) image) j 0 ≡ cond (here && on) v (get_or image j 0)
store_if true true k v image j h e = store true k v image j h e
store_if true false k v image j h e = refl
store_if false true k v image j h e = store false k v image j h e
store_if false false k v image j h e = refl

either : (a b : Bool) (v x y : ℕ) → x ≡ cond b v y → cond a v x ≡ cond (a || b) v y
either true b v x y e = refl
either false b v x y e = e

pub give_word : (n mask a v : ℕ) (image : List ℕ) (j : ℕ) → n ≤ 4 → a < 25 → 91 ≤ length image → get_or (give_to n mask a v image) j 0 ≡ cond (reaches n mask a j) v (get_or image j 0)
give_word zero mask a v image j h k l = refl
give_word (suc i) mask a v image j h k l =
    store_if (eqb j (22 * i + a)) (selects mask i) (22 * i + a) v (give_to i mask a v image) j (omega (arith, length_give_to i mask a v image)) refl
    ∙ either (eqb j (22 * i + a) && selects mask i) (reaches i mask a j) v _ _ (give_word i mask a v image j (omega arith) k l)

pub chosen : (mode n : ℕ) (p : given.Push) (image : List ℕ) → mode ≤ 3 → 0 < length image → selected (effect_at mode n (Push p) image) ≡ p.mask
unfolding effect_at
chosen mode n p image h l =
    selected_gives p.mask ACR p.acr _ (omega arith)
    (selected_gives p.mask CPOW0 p.phase _ (omega arith)
    (selected_gives p.mask CFTW0 (word_of p.word) _ (omega arith) (selected_select mode p.mask image l h)))

module _ (mode : ℕ) (image : List ℕ) (j : ℕ) (l : 91 ≤ length image) where
  -- what padding leaves in a word that it touches
  abbrev left : Bool → ℕ
  left csr = cond csr (byte_of mode 15) 0

  abbrev before : ℕ
  before = get_or image j 0

  abbrev reached : Bool
  reached = reaches 4 (selected image) LSRR j

  zeros : get_or (give (selected image) LSRR 0 image) j 0 ≡ cond reached 0 before
  zeros = give_word 4 (selected image) LSRR 0 image j (omega arith) (omega arith) l

  -- CSR is no channel's LSRR
  apart : (csr : Bool) → eqb j CSR ≡ csr → cond reached 0 before ≡ cond reached (left csr) before
  apart false e = refl
  apart true e = rw (eqb-true j CSR e)

  all_selected : (image' : List ℕ) → 0 < length image' → get_or (select mode 15 image') j 0 ≡ cond (eqb j CSR) (byte_of mode 15) (get_or image' j 0)
  all_selected image' h = store (eqb j CSR) CSR (byte_of mode 15) image' j h refl

  one : (csr : Bool) → cond csr (byte_of mode 15) before ≡ cond csr (left csr) before
  one true = refl
  one false = refl

  both : (csr r : Bool) → cond csr (byte_of mode 15) (cond r 0 before) ≡ cond (csr || r) (left csr) before
  both true r = refl
  both false r = refl

  padded_word : (r : ℕ) → get_or (padded_by mode r image) j 0 ≡ cond (padding_touches (selected image) r j) (left (eqb j CSR)) before
  padded_word zero = refl
  padded_word (suc zero) = zeros ∙ apart (eqb j CSR) refl
  padded_word (suc (suc zero)) = all_selected image (omega arith) ∙ one (eqb j CSR)
  padded_word (suc (suc (suc r))) =
      all_selected (give (selected image) LSRR 0 image) (omega (arith, length_give (selected image) LSRR 0 image))
      ∙ ap (cond (eqb j CSR) (byte_of mode 15)) zeros ∙ both (eqb j CSR) reached

  pub pads : (n words : ℕ)
      → get_or (effect_at mode n (Finalize words) image) j 0 ≡ cond (touches_at n (selected image) (Finalize words) j) (cond (eqb j CSR) (byte_of mode 15) 0) (get_or image j 0)
  unfolding effect_at touches_at
  pads n words = padded_word (n % 4)
