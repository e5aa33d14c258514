-- A buffer of more than eight words is as good as one of eight.
--     enough_words       the answer is the same
--     enough_finalized   and so is the record
use mathlib.Core.Path.{◌≡◌, refl, sym, ap, ◌∙◌}
use mathlib.Core.Bool.{Bool, true, false, cond, ◌||◌}
use Prim.Native.Nat.{ℕ, ◌+◌, ◌≤◌, min}
use native.Mathlib.Omega.{arith}
use lib.Dec.{ltb, eqb}
use borrow.Author.Tests.{ltb-true, ltb-false, eqb-false, le-ltb, lt-ltb}
use Rattle.std.specs.Prelude.{Ok, Err}
use Rattle.registers.specs.declared.refusal.Refusal.TheVariants.{Mode, Room}
use Rattle.profile.specs.declared.ProfileSerializer.{ProfileSerializer}
use Rattle.rules.specs.Rules.{padding, quarter, finalize_judged}
use Rattle.profile.specs.Serializer.{finalized_of}
use Rattle.rules.proofs.Lengths.{padding_fits}

-- a quarter of what fits 32 bytes is at most 8
few : (n words : ℕ) → n + padding n ≤ 32 → ltb (min words 8) (quarter n) ≡ ltb words (quarter n)
few n words h = go (ltb words (quarter n)) refl
  where
    go : (b : Bool) → ltb words (quarter n) ≡ b → ltb (min words 8) (quarter n) ≡ ltb words (quarter n)
    go true e = let l = ltb-true words (quarter n) e in lt-ltb (min words 8) (quarter n) (omega arith) ∙ sym e
    go false e = let l = ltb-false words (quarter n) e in le-ltb (min words 8) (quarter n) (omega arith) ∙ sym e

pub enough_words : (mode n words : ℕ) → finalize_judged mode n (min words 8) ≡ finalize_judged mode n words
unfolding finalize_judged
enough_words mode n words = ap (λ (b : Bool). cond (ltb 3 mode) (Err Mode) (cond b (Err Room) (Ok (quarter n)))) (go (eqb (n + 1) 32) (ltb 32 n) refl refl)
  where
    go : (a b : Bool) → eqb (n + 1) 32 ≡ a → ltb 32 n ≡ b → a || b || ltb (min words 8) (quarter n) ≡ a || b || ltb words (quarter n)
    go true b e f = refl
    go false true e f = refl
    go false false e f = few n words (padding_fits 32 n refl (ltb-false 32 n f) (eqb-false (n + 1) 32 e))

pub enough_finalized : (s : ProfileSerializer) (words : ℕ) → finalized_of s (min words 8) ≡ finalized_of s words
unfolding finalized_of
enough_finalized s words = rw (enough_words s.mode s.length words)
