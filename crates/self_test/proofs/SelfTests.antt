-- The self test follows its table, so of any run, whatever the replies are:
--     in_order    what is handed out is the beginning of the table of the byte that was read first
--     stops       a failed reply ends it, and nothing more is handed out
--     goes        good replies whose channel bits are those that were written lead it to its last step, and a good reply there passes it
--     differing   a read whose channel bits differ ends it with Ok and false, and the old byte is not restored
--     passed      where a reply passes it, the whole table has been handed out
--     on_chip     and CSR is left at the byte that was read first, every other register as it was
use mathlib.Core.Path.{◌≡◌, refl, sym, ap, ◌∙◌}
use mathlib.Core.Bool.{Bool, true, false, cond}
use mathlib.Core.List.{List, [], ◌∷◌, ◌++◌}
use Prim.Native.Nat.{ℕ, zero, suc, ◌+◌, ◌/◌, ◌%◌, ◌<◌}
use native.Mathlib.Omega.{arith}
use borrow.Author.Tests.{eqb-true, lt-ltb}
use lib.Dec.{eqb}
use lib.ListN.{get_or, set}
use lib.Seq.{set-set}
use Rattle.std.specs.Prelude.{Result, Option, Some, None, Ok, Err, slice_get}
use Rattle.registers.proofs.Choice.{by}
use Rattle.registers.specs.declared.refusal.Refusal.{Refusal}
use Rattle.registers.specs.Registers.{CSR, width_of, holds}
use Rattle.image.specs.Image.{apply}
use Rattle.bus.specs.declared.Action.{Action}
use Rattle.bus.specs.declared.Action.TheVariants.{Pin, Delay, Configure, Write, Read}
use Rattle.bus.specs.declared.Reply.{Reply}
use Rattle.bus.specs.Bus.{fault_of}
use Rattle.bus.specs.Sequence.{action, answer, after, ends, values, acts, reached, writes}
use Rattle.bus.proofs.Runs.{good, failed, beyond, stands, good_some, judges, brings, ends_it, Along, along, complete, failed_stops}
use Rattle.bus.proofs.Runs as runs
use Rattle.self_test.specs.declared.SelfTest.{SelfTest}
use Rattle.self_test.specs.Laws.{follows}
use Rattle.self_test.specs.SelfTest.{table, start, differs, ended, plan, table_of}

pub in_order : (rs : List Reply) → (l : List Action) × (acts plan start rs ++ l ≡ table (get_or (values rs) 0 0))
in_order rs = runs.in_order plan table_of follows start rs

-- there is no delay in the table
abbrev delays : Option Action → ℕ
delays None = 0
delays (Some (Pin p h)) = 0
delays (Some (Delay n)) = 1
delays (Some (Configure m)) = 0
delays (Some (Write a v)) = 0
delays (Some (Read a)) = 0

entry_no_delay : (old k : ℕ) → delays (slice_get (table old) k) ≡ 0
entry_no_delay old zero = refl
entry_no_delay old (suc zero) = refl
entry_no_delay old (suc (suc zero)) = refl
entry_no_delay old (suc (suc (suc zero))) = refl
entry_no_delay old (suc (suc (suc (suc zero)))) = refl
entry_no_delay old (suc (suc (suc (suc (suc zero))))) = refl
entry_no_delay old (suc (suc (suc (suc (suc (suc k)))))) = refl

no_delay : (s : SelfTest) (n : ℕ) → action plan s ≡ Some (Delay n) → ⊥
unfolding action
no_delay s n e = let z : delays (action plan s) ≡ 0 = by (λ (a : Option Action). delays a ≡ 0) (holds CSR s.old) (λ _. entry_no_delay s.old s.step) (λ _. refl) in let o : ◌≡◌ {A = ℕ} 0 1 = sym z ∙ ap delays e in omega arith

pub stops : (s : SelfTest) (rs : List Reply) (v : ℕ) (more : List Reply) → acts plan s (rs ++ failed v ∷ more) ≡ acts plan s rs
stops s rs v more = failed_stops plan table_of follows s rs v more (no_delay (reached plan s rs))

module _ (b v w x y z : ℕ) (h : b < 256) (k : v < 256) (l : x < 16) (f : v / 16 ≡ 15) where
  -- the record at each step
  abbrev at : ℕ → SelfTest
  at k = record { step = k; old = cond (eqb k 0) 0 b }

  byte : (v : ℕ) → v < 256 → holds CSR v ≡ true
  unfolding width_of
  byte v h = lt-ltb v 256 h

  -- a good reply to the table's entry there
  fine : (k v : ℕ) → fault_of (slice_get (table (at k).old) k) (good v) ≡ Ok tt → fault_of (action plan (at k)) (good v) ≡ Ok tt
  fine k v e = ap (λ (a : Option Action). fault_of a (good v)) (sym (stands plan (at k) (by (λ (n : ℕ). holds CSR n ≡ true) (eqb k 0) (λ _. byte 0 (omega arith)) (λ _. byte b h)))) ∙ e

  abbrev replies : List Reply
  replies = good b ∷ good w ∷ good v ∷ good y ∷ good x ∷ []

  going : Along plan at 0 replies
  going =
      let none : x / 16 ≡ 0 = omega arith in (
        fine 0 b (rw (byte b h)),
        refl,
        refl,
        (
          fine 1 w refl,
          refl,
          refl,
          (
            fine 2 v (rw (byte v k)),
            rw f,
            refl,
            (
              fine 3 y refl,
              refl,
              refl,
              (fine 4 x (rw (byte x (omega arith))), rw none, refl, tt),
            ),
          ),
        ),
      )

  pub goes : (reached plan start replies ≡ at 5) × (answer plan (at 5) (good z) ≡ Ok (Some true)) × (after plan (at 5) (good z) ≡ at 6)
  goes =
      let e = fine 5 z refl in
      let k : answer plan (at 5) (good z) ≡ Ok (Some true) = judges plan (at 5) (good z) e in
      (along plan at 0 replies going, k, ends_it plan (at 5) (good z) (good_some plan (at 5) (good z) e) (ap ends k))

pub differing : (s : SelfTest) (v : ℕ) → fault_of (action plan s) (good v) ≡ Ok tt → differs s.step v ≡ true
    → (answer plan s (good v) ≡ Ok (Some false)) × (after plan s (good v) ≡ ended s) × (action plan (ended s) ≡ None)
differing s v e d =
    let k : answer plan s (good v) ≡ Ok (Some false) = judges plan s (good v) e ∙ rw d refl in
    (k, ends_it plan s (good v) (good_some plan s (good v) e) (ap ends k), beyond plan (ended s) (omega arith))

-- which answer it is
abbrev kind : Result (Option Bool) Refusal → ℕ
kind (Ok None) = 0
kind (Ok (Some false)) = 1
kind (Ok (Some true)) = 2
kind (Err refusal) = 3

-- only a good reply at the last step passes it
last : (s : SelfTest) (r : Reply) → answer plan s r ≡ Ok (Some true) → (fault_of (action plan s) r ≡ Ok tt) × (s.step ≡ 5)
last s r e =
    let b = brings plan s r (Some true) e in
    let P : Result (Option Bool) Refusal → Type 0 = λ x. kind x ≡ 2 → s.step ≡ 5 in
    (b.0, by P (differs s.step r.value) (λ _ z. absurd (omega (arith, z))) (λ _. by P (eqb s.step 5) (λ u _. eqb-true s.step 5 u) (λ _ z. absurd (omega (arith, z)))) (ap kind b.1))

module _ (rs : List Reply) (r : Reply) (more : List Reply) (e : answer plan (reached plan start rs) r ≡ Ok (Some true)) where
  pub passed : acts plan start (rs ++ r ∷ more) ≡ table (get_or (values rs) 0 0)
  passed = let k = last (reached plan start rs) r e in complete plan table_of follows start rs r more k.0 (ap suc k.1)

  pub on_chip : (image : List ℕ) → apply (writes (acts plan start (rs ++ r ∷ more))) image ≡ set image CSR (get_or (values rs) 0 0)
  on_chip image = let b = get_or (values rs) 0 0 in rw (passed, set-set image CSR (b % 16 + 240) (b % 16), set-set image CSR (b % 16) b)
