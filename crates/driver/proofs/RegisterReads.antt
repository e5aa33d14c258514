-- Reading CSR or FR1 is one action, so of any run, whatever the replies are:
--     one          it is the read, and nothing more is handed out
--     read_well    a good reply ends it with the value
--     read_failed  a failed one ends it with Interface, read_wide a value too wide with Word
--     on_chip      an image is left as it was
use mathlib.Core.Path.{◌≡◌, refl, ap}
use mathlib.Core.Bool.{true, false}
use mathlib.Core.List.{List, [], ◌∷◌}
use Prim.Native.Nat.{ℕ, ◌≤◌}
use native.Mathlib.Omega.{arith}
use borrow.Author.Tests.{le-leb}
use Rattle.std.specs.Prelude.{Result, Option, Some, Ok, Err}
use Rattle.registers.specs.declared.refusal.Refusal.{Refusal}
use Rattle.registers.specs.declared.refusal.Refusal.TheVariants.{Interface, Word}
use Rattle.registers.specs.Registers.{FR1, holds}
use Rattle.image.specs.Image.{apply}
use Rattle.bus.specs.declared.Action.TheVariants.{Read}
use Rattle.bus.specs.declared.Reply.{Reply}
use Rattle.bus.specs.Sequence.{shown, action, answer, after, acts, writes, ends}
use Rattle.bus.proofs.Runs.{good, failed, judges, refuses, ends_it, hands_nothing, in_time}
use Rattle.driver.specs.Register.{start, plan}
use Rattle.driver.specs.RegisterLaws.{follows}

module _ (a : ℕ) (h : a ≤ FR1) where
  the_read : action plan (start a) ≡ Some (Read a)
  unfolding action
  the_read = rw (le-leb a FR1 h)

  pub one : (rs : List Reply) → acts plan (start a) rs ≡ Read a ∷ []
  one [] = ap shown the_read
  one (r ∷ rs) = rw (the_read, hands_nothing plan (after plan (start a) r) rs (in_time plan (λ s vs. plan.table s) follows (start a) (r ∷ []) (omega arith)))

  -- what a reply brings, and the record after it
  abbrev Brings : Reply → Result (Option ℕ) Refusal → Type 0
  Brings r x = (answer plan (start a) r ≡ x) × (after plan (start a) r ≡ plan.ended (start a))

  brings : (r : Reply) (x : Result (Option ℕ) Refusal) → answer plan (start a) r ≡ x → ends x ≡ true → Brings r x
  brings r x e t = (e, ends_it plan (start a) r (Read a, the_read) (rw e t))

  pub read_well : (v : ℕ) → holds a v ≡ true → Brings (good v) (Ok (Some v))
  read_well v e = brings (good v) (Ok (Some v)) (judges plan (start a) (good v) (rw (the_read, e) refl)) refl

  pub read_failed : (v : ℕ) → Brings (failed v) (Err Interface)
  read_failed v = brings (failed v) (Err Interface) (refuses plan (start a) (failed v) Interface (rw the_read refl)) refl

  pub read_wide : (v : ℕ) → holds a v ≡ false → Brings (good v) (Err Word)
  read_wide v e = brings (good v) (Err Word) (refuses plan (start a) (good v) Word (rw (the_read, e) refl)) refl

  pub on_chip : (rs : List Reply) (image : List ℕ) → apply (writes (acts plan (start a) rs)) image ≡ image
  on_chip rs image = rw (one rs)
