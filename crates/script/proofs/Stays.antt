-- Every register that no accepted step touches stays as it was.
--     lands            one step: padding leaves the channels that CSR doesn't select, and CSR where it pads LSRR alone
--     stays_exact      the steps judged along the way, with the channels selected then
--     finer            what a step touches exactly is among what it names
--     stays_accepted   so what no accepted step names stays
--     stays            and what no step names, accepted or not
use mathlib.Core.Path.{◌≡◌, refl, ◌∙◌}
use mathlib.Core.Logic.{◌≢◌}
use mathlib.Core.Bool.{Bool, true, false, not, ◌||◌}
use mathlib.Core.List.{List, [], ◌∷◌}
use Prim.Native.Nat.{ℕ, zero, suc, ◌+◌, ◌*◌, ◌%◌, ◌<◌}
use native.Mathlib.Omega.{arith}
use lib.Dec.{T, eqb}
use lib.ListN.{get_or}
use lib.Seq.{get_or-set_other}
use Rattle.registers.proofs.Choice.{by}
use Rattle.std.specs.Prelude.{Option, Some, None, is_ok}
use Rattle.registers.specs.Registers.{CSR, CFTW0, CPOW0, ACR, LSRR}
use Rattle.bitfields.specs.Csr.{byte_of}
use Rattle.image.specs.Image.{reaches, give, selected, select}
use Rattle.image.proofs.Images.{nor, apart, misses, give_stays}
use Rattle.rules.specs.Rules.{word_of}
use Rattle.script.proofs.Accepted.{accepted_is}
use Rattle.script.specs.declared.Step.{Step}
use Rattle.script.specs.declared.Step.TheVariants.{Push, Finalize}
use Rattle.script.specs.Meaning.{gives, padded_by, Told, answer_at, effect_at, tell, tell_all, meaning, touches_by, touches, Spared, SparedBy, padding_touches, touches_at, SparedAt}

none_of : (a b : Bool) → T (not a) → T (not b) → T (not (a || b))
none_of true b s t = s
none_of false b s t = t

-- a mask of all channels reaches each channel's LSRR
lsrr_reached : (i : ℕ) → i < 4 → T (not (reaches 4 15 LSRR (22 * i + LSRR))) → ⊥
lsrr_reached zero h t = t
lsrr_reached (suc zero) h t = t
lsrr_reached (suc (suc zero)) h t = t
lsrr_reached (suc (suc (suc zero))) h t = t
lsrr_reached (suc (suc (suc (suc i)))) h t = omega arith

abbrev Same : ℕ → List ℕ → List ℕ → Type 0
Same j image image' = get_or image' j 0 ≡ get_or image j 0

module _ (j : ℕ) where
  -- ---- what a step touches exactly is among what it names

  lsrr_apart : (mask : ℕ) → T (not (reaches 4 15 LSRR j)) → T (not (reaches 4 mask LSRR j))
  lsrr_apart mask t = misses 4 mask LSRR j (λ i h e. lsrr_reached i h (rw e at t))

  padding_apart : (mask r : ℕ) → T (not (eqb j CSR || reaches 4 15 LSRR j)) → T (not (padding_touches mask r j))
  padding_apart mask r t = let h = nor (eqb j CSR) (reaches 4 15 LSRR j) t in by_rest r h.0 (lsrr_apart mask h.1)
    where
      by_rest : (r : ℕ) → T (not (eqb j CSR)) → T (not (reaches 4 mask LSRR j)) → T (not (padding_touches mask r j))
      by_rest zero c l = tt
      by_rest (suc zero) c l = l
      by_rest (suc (suc zero)) c l = c
      by_rest (suc (suc (suc r))) c l = none_of (eqb j CSR) (reaches 4 mask LSRR j) c l

  pub finer : (n mask : ℕ) (step : Step) → T (not (touches step j)) → T (not (touches_at n mask step j))
  unfolding touches touches_at
  finer n mask (Push p) t = t
  finer n mask (Finalize words) t = padding_apart mask (n % 4) t

  -- ---- one step

  select_stays : (mode mask : ℕ) (image : List ℕ) → j ≢ CSR → Same j image (select mode mask image)
  select_stays mode mask image z = get_or-set_other image CSR j (byte_of mode mask) 0 z

  gives_stays : (mask a : ℕ) (v : Option ℕ) (image : List ℕ) → T (not (touches_by mask a v j)) → Same j image (gives mask a v image)
  gives_stays mask a (Some v) image t = give_stays 4 mask a v image j t
  gives_stays mask a None image t = refl

  padded_stays : (mode r : ℕ) (image : List ℕ) → T (not (padding_touches (selected image) r j)) → Same j image (padded_by mode r image)
  padded_stays mode zero image t = refl
  padded_stays mode (suc zero) image t = give_stays 4 (selected image) LSRR 0 image j t
  padded_stays mode (suc (suc zero)) image t = select_stays mode 15 image (apart j CSR t)
  padded_stays mode (suc (suc (suc r))) image t =
      let h = nor (eqb j CSR) (reaches 4 (selected image) LSRR j) t in
      select_stays mode 15 (give (selected image) LSRR 0 image) (apart j CSR h.0) ∙ give_stays 4 (selected image) LSRR 0 image j h.1

  pub lands : (mode n : ℕ) (step : Step) (image : List ℕ) → T (not (touches_at n (selected image) step j)) → get_or (effect_at mode n step image) j 0 ≡ get_or image j 0
  unfolding effect_at touches touches_at
  lands mode n (Push p) image t =
      let h₀ = nor (eqb j CSR) _ t in
      let h₁ = nor (touches_by p.mask CFTW0 (word_of p.word) j) _ h₀.1 in
      let h₂ = nor (touches_by p.mask CPOW0 p.phase j) (touches_by p.mask ACR p.acr j) h₁.1 in
      gives_stays p.mask ACR p.acr _ h₂.1 ∙ gives_stays p.mask CPOW0 p.phase _ h₂.0 ∙ gives_stays p.mask CFTW0 (word_of p.word) _ h₁.0 ∙ select_stays mode p.mask image (apart j CSR h₀.0)
  lands mode n (Finalize words) image t = padded_stays mode (n % 4) image t

  -- ---- the whole script

  tells_stay : (mode : ℕ) (steps : List Step) (x : Told) → SparedAt mode j x steps → Same j x.image (tell_all mode x steps).image
  unfolding tell
  tells_stay mode [] x h = refl
  tells_stay mode (step ∷ steps) x h =
      tells_stay mode steps (tell mode x step) h.1
      ∙ by (λ (y : Told). Same j x.image y.image) (is_ok (answer_at mode x.length step))
      (λ t. lands mode x.length step x.image (h.0 (accepted_is _ t))) (λ _. refl)

  spares_at : (mode : ℕ) (steps : List Step) (x : Told) → SparedBy mode j x steps → SparedAt mode j x steps
  spares_at mode [] x h = tt
  spares_at mode (step ∷ steps) x h = (λ e. finer x.length (selected x.image) step (h.0 e), spares_at mode steps (tell mode x step) h.1)

  spares : (mode : ℕ) (steps : List Step) (x : Told) → Spared j steps → SparedBy mode j x steps
  spares mode [] x h = tt
  spares mode (step ∷ steps) x h = (λ e. h.0, spares mode steps (tell mode x step) h.1)

pub stays_exact : (mode : ℕ) (steps : List Step) (image : List ℕ) (j : ℕ) → SparedAt mode j (record { length = 0; image = image }) steps → get_or (meaning mode steps image) j 0 ≡ get_or image j 0
stays_exact mode steps image j h = tells_stay j mode steps (record { length = 0; image = image }) h

pub stays_accepted : (mode : ℕ) (steps : List Step) (image : List ℕ) (j : ℕ) → SparedBy mode j (record { length = 0; image = image }) steps → get_or (meaning mode steps image) j 0 ≡ get_or image j 0
stays_accepted mode steps image j h = stays_exact mode steps image j (spares_at j mode steps _ h)

pub stays : (mode : ℕ) (steps : List Step) (image : List ℕ) (j : ℕ) → Spared j steps → get_or (meaning mode steps image) j 0 ≡ get_or image j 0
stays mode steps image j h = stays_accepted mode steps image j (spares j mode steps _ h)
