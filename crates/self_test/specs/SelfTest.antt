-- Document 01, the self test. Definitions only.
use Rattle.std.specs.Prelude.{ℕ, ◌+◌, ◌/◌, ◌%◌, Bool, true, false, not, cond, List, [], ◌∷◌, eqb, get_or, Option, Some, None, Result, Ok}
use Rattle.registers.specs.declared.refusal.Refusal.{Refusal}
use Rattle.registers.specs.Registers.{CSR, holds}
use Rattle.bus.specs.declared.Action.{Action}
use Rattle.bus.specs.declared.Action.TheVariants.{Write, Read}
use Rattle.bus.specs.Sequence.{Plan, next}
use Rattle.self_test.specs.declared.SelfTest.{SelfTest}

-- read CSR; write it with channels 15; read; write it with channels 0; read; write the old byte
abbrev pub table : ℕ → List Action
table old = Read CSR ∷ Write CSR (old % 16 + 240) ∷ Read CSR ∷ Write CSR (old % 16) ∷ Read CSR ∷ Write CSR old ∷ []

abbrev pub start : SelfTest
start = record { step = 0; old = 0 }

-- a read whose channel bits differ
abbrev pub differs : ℕ → ℕ → Bool
differs step v = cond (eqb step 2) (not (eqb (v / 16) 15)) (cond (eqb step 4) (not (eqb (v / 16) 0)) false)

-- the old byte is the first that is read
abbrev pub kept_of : ℕ → ℕ → ℕ → ℕ
kept_of step v old = cond (eqb step 0) v old

abbrev pub ended : SelfTest → SelfTest
ended s = record { step = 6; old = s.old }

-- a read whose channel bits differ ends it with false, and the good reply to the restoring write with true
abbrev pub judge : SelfTest → ℕ → Result (Option Bool) Refusal
judge s v = cond (differs s.step v) (Ok (Some false)) (cond (eqb s.step 5) (Ok (Some true)) (Ok None))

-- an old byte out of range counts as ended
abbrev pub plan : Plan SelfTest Bool
plan = record {
  legal = λ s. holds CSR s.old;
  step = λ s. s.step;
  table = λ s. table s.old;
  judge = judge;
  onward = λ s v. record { step = next s.step; old = kept_of s.step v s.old };
  ended = ended;
}

-- the table of the byte that is read first, where that is still to come
abbrev pub table_of : SelfTest → List ℕ → List Action
table_of s vs = table (cond (eqb s.step 0) (get_or vs 0 0) s.old)
