-- A channel setting or reading that is legal: its mode, its CSR and its register.
--     in_range   the mode is at most 3, the CSR is the mask's byte, and the register is a channel's
--     selects    the CSR that the code builds is the table's
--     legal_at   it is legal at every step or at none
use mathlib.Core.Path.{◌≡◌, refl, sym, ap, ◌∙◌}
use mathlib.Core.Bool.{true, false≢true, ◌&&◌, and-eq-true_iff}
use Prim.Native.Nat.{ℕ, ◌≤◌}
use native.Mathlib.Omega.{arith}
use native.Mathlib.Decide.{dec_lt}
use borrow.Author.Tests.{ne_eqb, ltb-false}
use lib.Dec.{ltb}
use lib.Ieee.{Float}
use Rattle.std.specs.Prelude.{Result, Ok, is_ok}
use Rattle.registers.proofs.Choice.{by}
use Rattle.registers.specs.declared.refusal.Refusal.{Refusal}
use Rattle.bitfields.specs.Csr.{byte_of, csr_of}
use Rattle.driver.specs.declared.channel.Transfer.{Transfer}
use Rattle.driver.specs.Channel.{own, takes, legal, at}

csr_fits : (mode mask : ℕ) → is_ok (csr_of mode mask) ≡ true → (mode ≤ 3) × (csr_of mode mask ≡ Ok (byte_of mode mask))
csr_fits mode mask =
    let P : Result ℕ Refusal → Type 0 = λ a. is_ok a ≡ true → (mode ≤ 3) × (a ≡ Ok (byte_of mode mask)) in
    by P (ltb 3 mode) (λ _ e. absurd (false≢true e)) (λ m. by P (ltb 15 mask) (λ _ e. absurd (false≢true e)) (λ _ _. (ltb-false 3 mode m, refl)))

own_from : (register : ℕ) (ratio : Float) → own register ratio ≡ true → 3 ≤ register
own_from register ratio h =
    elim (dec_lt register 3) [
      | yes l ↦ absurd (false≢true (rw (ne_eqb register 4 (λ e. omega arith), ne_eqb register 5 (λ e. omega arith), ne_eqb register 6 (λ e. omega arith)) at h))
      | no l ↦ omega arith
    ]

pub in_range : (s : Transfer) → legal s ≡ true → (s.mode ≤ 3) × (csr_of s.mode s.mask ≡ Ok (byte_of s.mode s.mask)) × (3 ≤ s.register)
unfolding legal
in_range s h =
    let front = ((and-eq-true_iff (is_ok (csr_of s.mode s.mask) && own s.register s.ratio) (takes s.register s.access)).0 h).0 in
    let parts = (and-eq-true_iff (is_ok (csr_of s.mode s.mask)) (own s.register s.ratio)).0 front in
    let csr = csr_fits s.mode s.mask parts.0 in
    (csr.0, csr.1, own_from s.register s.ratio parts.1)

result_value : {a b : ℕ} → ◌≡◌ {A = Result ℕ Refusal} (Ok a) (Ok b) → a ≡ b
result_value e = cc

pub selects : (mode mask csr : ℕ) → csr_of mode mask ≡ Ok csr → csr ≡ byte_of mode mask
selects mode mask csr e = result_value (sym e ∙ (csr_fits mode mask (ap is_ok e)).1)

pub legal_at : (s : Transfer) (n : ℕ) → legal (at s n) ≡ legal s
unfolding legal
legal_at s n = refl
