-- What the trait asks of a register read: it follows its table, which no value that comes back changes.
--     table_stays a record that moves on keeps its whole table, whatever its step
--     moves_on    past its table too: any record but one of the largest step moves on by one, with that table
use Rattle.std.specs.Prelude.{◌≡◌, ℕ, ◌+◌, ◌<◌, false, List, length, refl}
use Rattle.std.proofs.Common.{arith}
use Rattle.bus.specs.Sequence.{Follows, stops}
use Rattle.bus.proofs.Runs.{next_is}
use Rattle.driver.specs.declared.register.Register.{Register}
use Rattle.driver.specs.Register.{plan}

-- one step, of any record
pub many : (s : Register) → length (plan.table s) ≡ 1
many s = refl

pub table_stays : (s : Register) (v : ℕ) → plan.table (plan.onward s v) ≡ plan.table s
table_stays s v = refl

pub moves_on : (s : Register) (v : ℕ) (vs : List ℕ) → s.step < 4294967295 → stops plan s v ≡ false
    → (plan.step (plan.onward s v) ≡ plan.step s + 1) × (plan.table (plan.onward s v) ≡ plan.table s)
moves_on s v vs h e = (next_is s.step 4294967295 h (omega arith), table_stays s v)

pub follows : Follows plan (λ s vs. plan.table s)
follows = record { long = λ s vs. refl; here = λ s vs. refl; moves = λ s v vs h e. moves_on s v vs (omega (arith, h)) e; over = λ s. omega arith }
