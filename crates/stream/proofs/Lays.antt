-- One write laid over bytes.
--     lay_full, lay_refused, lay_fits   a good write, by what became of its value's bytes
--     stored                            its address before them
--     lays_good                         a good write that fits is not refused
use Rattle.std.proofs.Common.{◌≡◌, ℕ, suc, ◌+◌, ◌-◌, ◌^◌, ◌≤◌, ◌<◌, Bool, true, false, cond, List, [], ◌∷◌, length, set, refl, sym, ap, ◌∙◌, arith, Result, Ok, Err}
use borrow.Author.Tests.{lt-ltb, le-ltb, lt-leb, ltb-false}
use lib.Dec.{ltb}
use Rattle.registers.specs.declared.refusal.Refusal.{Refusal}
use Rattle.registers.specs.declared.refusal.Refusal.TheVariants.{Room}
use Rattle.registers.specs.Registers.{Write, width_of}
use Rattle.registers.specs.Bytes.{big_endian, laid, write_of}
use Rattle.registers.proofs.Widths.{width_most}
use Rattle.registers.proofs.Bytes.{length_big_endian}
use Rattle.registers.proofs.Laid.{laid_sets, laid_ahead, length_laid}
use Rattle.stream.specs.Streams.{write_bytes}
use Rattle.stream.specs.Encoder.{size_of, behind, lay_judged}
use Rattle.stream.proofs.Rest.{fault_none}

module _ (size at : ℕ) (w : Write) (n : ℕ) (good : size_of w ≡ Ok n) where
  judged : lay_judged size at w ≡ cond (ltb size (at + n)) (Err Room) (Ok (at + n))
  judged = ap (behind size at) good

  -- its value's bytes are refused by Room alone
  writing : write_of size (at + 1) (n - 1) w.value ≡ cond (ltb size (at + n)) (Err Room) (Ok tt)
  writing =
      let (a, v, e) = fault_none w n good in
      let f : n - 1 ≡ width_of w.address = omega arith in
      let g : at + 1 + width_of w.address ≡ at + n = omega arith in
      let h : width_of w.address ≤ 4 = width_most w.address in
      rw (f, le-ltb 4 (width_of w.address) h, lt-leb (256 ^ width_of w.address) w.value v, g)

  pub lay_full : size ≤ at → lay_judged size at w ≡ Err Room
  lay_full h =
      let k : size < at + n = let e = (fault_none w n good).2 in omega arith in
      judged ∙ rw (lt-ltb size (at + n) k)

  pub lay_refused : (e : Refusal) → write_of size (at + 1) (n - 1) w.value ≡ Err e → lay_judged size at w ≡ Err e
  lay_refused e z = go (ltb size (at + n)) refl (sym writing ∙ z)
    where
      go : (b : Bool) → ltb size (at + n) ≡ b → ◌≡◌ {A = Result (Unit {0}) Refusal} (cond (ltb size (at + n)) (Err Room) (Ok tt)) (Err e) → lay_judged size at w ≡ Err e
      go true f z = judged ∙ rw f (let g : ◌≡◌ {A = Result (Unit {0}) Refusal} (Err Room) (Err e) = rw f at z in cc)
      go false f z = absurd (let g : ◌≡◌ {A = Result (Unit {0}) Refusal} (Ok tt) (Err e) = rw f at z in cc)

  pub lay_fits : write_of size (at + 1) (n - 1) w.value ≡ Ok tt → (lay_judged size at w ≡ Ok (at + n)) × (at + n ≤ size)
  lay_fits z = go (ltb size (at + n)) refl (sym writing ∙ z)
    where
      go : (b : Bool) → ltb size (at + n) ≡ b → ◌≡◌ {A = Result (Unit {0}) Refusal} (cond (ltb size (at + n)) (Err Room) (Ok tt)) (Ok tt) → (lay_judged size at w ≡ Ok (at + n)) × (at + n ≤ size)
      go true f z = absurd (let g : ◌≡◌ {A = Result (Unit {0}) Refusal} (Err Room) (Ok tt) = rw f at z in cc)
      go false f z = (judged ∙ rw f, ltb-false size (at + n) f)

module _ (d : List ℕ) (at : ℕ) (w : Write) where
  pub stored : {n : ℕ} {e : List ℕ} → size_of w ≡ Ok n → at + n ≤ length d → e ≡ laid d (at + 1) (big_endian (n - 1) w.value) → set e at w.address ≡ laid d at (write_bytes w)
  unfolding write_bytes
  stored {n} {e} good room h =
      let q = (fault_none w n good).2 in
      let f : n - 1 ≡ width_of w.address = omega arith in
      let h' : e ≡ laid d (at + 1) (big_endian (width_of w.address) w.value) = rw f at h in
      let l = length_big_endian (width_of w.address) w.value in
      let fits : at + 1 + length (big_endian (width_of w.address) w.value) ≤ length d = omega arith in
      let k : length e ≡ length d = ap length h' ∙ length_laid d (at + 1) _ fits in
      sym (laid_sets e at (w.address ∷ []) (omega arith))
      ∙ ap (λ (x : List ℕ). laid x at (w.address ∷ [])) h'
      ∙ laid_ahead d at (w.address ∷ []) (big_endian (width_of w.address) w.value) fits

pub lays_good : (size at : ℕ) (w : Write) → at + suc (width_of w.address) ≤ size → size_of w ≡ Ok (suc (width_of w.address)) → lay_judged size at w ≡ Ok (at + suc (width_of w.address))
lays_good size at w room good = judged size at w (suc (width_of w.address)) good ∙ rw (le-ltb size (at + suc (width_of w.address)) room)
