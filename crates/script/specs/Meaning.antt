-- What a script means, over its steps and the chip's registers. It accepts by the paper's rules, counts lengths, and builds no bytes:
-- of `profile` it uses the rules and the steps' types, of `image` the registers. Definitions only.
use Rattle.std.specs.Prelude.{ℕ, zero, suc, ◌+◌, ◌%◌, Bool, false, ◌||◌, not, cond, List, [], ◌∷◌, ◌≡◌, T, eqb, Option, Some, None, Result, Ok, is_ok}
use Rattle.registers.specs.declared.refusal.Refusal.{Refusal}
use Rattle.registers.specs.Refusals.{answer_of}
use Rattle.registers.specs.Registers.{CSR, CFTW0, CPOW0, ACR, LSRR}
use Rattle.image.specs.Image.{give, selected, select, reaches}
use Rattle.rules.specs.Rules.{word_of, push_size, padding, push_judged, finalize_judged}
use Rattle.script.specs.declared.Step.{Step}
use Rattle.script.specs.declared.Step.TheVariants.{Push, Finalize}

-- a field that is given goes to the channels that the mask names
abbrev pub gives : ℕ → ℕ → Option ℕ → List ℕ → List ℕ
gives mask a (Some v) image = give mask a v image
gives mask a None image = image

-- padding by the length modulo 4: LSRR zero on the channels that CSR selects, then CSR with all channels
abbrev pub padded_by : ℕ → ℕ → List ℕ → List ℕ
padded_by mode zero image = image
padded_by mode (suc zero) image = give (selected image) LSRR 0 image
padded_by mode (suc (suc zero)) image = select mode 15 image
padded_by mode (suc (suc (suc k))) image = select mode 15 (give (selected image) LSRR 0 image)

-- how far a script has come: the bytes counted, and the registers
pub record Told : Type 0 where
  pub length : ℕ
  pub image : List ℕ

module _ (mode : ℕ) where
  -- the answer that a step gives at a length
  unfoldable pub answer_at : ℕ → Step → Result Unit Refusal
  answer_at n (Push p) = answer_of (push_judged mode n p)
  answer_at n (Finalize words) = answer_of (finalize_judged mode n words)

  -- what it adds to the length
  unfoldable pub size_at : ℕ → Step → ℕ
  size_at n (Push p) = push_size p
  size_at n (Finalize words) = padding n

  -- what it does to the registers: a push sets CSR to its mask and the mode, then what it gives on the channels it names
  unfoldable pub effect_at : ℕ → Step → List ℕ → List ℕ
  effect_at n (Push p) image =
      gives p.mask ACR p.acr (gives p.mask CPOW0 p.phase (gives p.mask CFTW0 (word_of p.word) (select mode p.mask image)))
  effect_at n (Finalize words) image = padded_by mode (n % 4) image

  -- a refused step does nothing
  unfoldable pub tell : Told → Step → Told
  tell x step =
      cond (is_ok (answer_at x.length step))
      (record { length = x.length + size_at x.length step; image = effect_at x.length step x.image }) x

  -- accepted steps in order
  abbrev pub tell_all : Told → List Step → Told
  tell_all x [] = x
  tell_all x (step ∷ steps) = tell_all (tell x step) steps

  abbrev pub meaning : List Step → List ℕ → List ℕ
  meaning steps image = (tell_all (record { length = 0; image = image }) steps).image

-- ---- which words of the image a step can touch

abbrev pub touches_by : ℕ → ℕ → Option ℕ → ℕ → Bool
touches_by mask a (Some v) j = reaches 4 mask a j
touches_by mask a None j = false

-- CSR; a push's fields on the channels it names; LSRR of any channel at a finalisation
unfoldable pub touches : Step → ℕ → Bool
touches (Push p) j =
    eqb j CSR || (touches_by p.mask CFTW0 (word_of p.word) j || (touches_by p.mask CPOW0 p.phase j || touches_by p.mask ACR p.acr j))
touches (Finalize words) j = eqb j CSR || reaches 4 15 LSRR j

-- no step names word j
abbrev pub Spared : ℕ → List Step → Type 0
Spared j [] = Unit {0}
Spared j (step ∷ steps) = T (not (touches step j)) × Spared j steps

-- no accepted step names word j: the steps are judged along the way, and a refused one may name what it likes
abbrev pub SparedBy : ℕ → ℕ → Told → List Step → Type 0
SparedBy mode j x [] = Unit {0}
SparedBy mode j x (step ∷ steps) = (answer_at mode x.length step ≡ Ok tt → T (not (touches step j))) × SparedBy mode j (tell mode x step) steps

-- ---- the same exactly: a finalisation at a length, with the channels of a mask selected

-- padding by the length modulo 4: LSRR of the selected channels at 1 and 3, CSR at 2 and 3
abbrev pub padding_touches : ℕ → ℕ → ℕ → Bool
padding_touches mask zero j = false
padding_touches mask (suc zero) j = reaches 4 mask LSRR j
padding_touches mask (suc (suc zero)) j = eqb j CSR
padding_touches mask (suc (suc (suc k))) j = eqb j CSR || reaches 4 mask LSRR j

unfoldable pub touches_at : ℕ → ℕ → Step → ℕ → Bool
touches_at n mask (Push p) j = touches (Push p) j
touches_at n mask (Finalize words) j = padding_touches mask (n % 4) j

-- no accepted step touches word j, judged along the way with the channels that are selected then
abbrev pub SparedAt : ℕ → ℕ → Told → List Step → Type 0
SparedAt mode j x [] = Unit {0}
SparedAt mode j x (step ∷ steps) =
    (answer_at mode x.length step ≡ Ok tt → T (not (touches_at x.length (selected x.image) step j))) × SparedAt mode j (tell mode x step) steps
