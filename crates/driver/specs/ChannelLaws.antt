-- What the trait asks of a transfer: it follows its table, which no value that comes back changes.
--     table_stays a record that moves on keeps its whole table, whatever its step
--     moves_on    past its table too: any record but one of the largest step moves on by one, with that table
use Rattle.std.specs.Prelude.{◌≡◌, ℕ, ◌+◌, ◌<◌, false, List, length, refl}
use Rattle.std.proofs.Common.{arith}
use Rattle.bus.specs.Sequence.{Follows, stops}
use Rattle.bus.proofs.Runs.{next_is}
use Rattle.driver.specs.declared.channel.Transfer.{Transfer}
use Rattle.driver.specs.Channel.{plan, table}

-- two steps, of any record
pub many : (s : Transfer) → length (plan.table s) ≡ 2
many s = refl

pub table_stays : (s : Transfer) (v : ℕ) → table (plan.onward s v) ≡ table s
table_stays s v = refl

pub moves_on : (s : Transfer) (v : ℕ) (vs : List ℕ) → s.step < 4294967295 → stops plan s v ≡ false
    → (plan.step (plan.onward s v) ≡ plan.step s + 1) × (table (plan.onward s v) ≡ table s)
moves_on s v vs h e = (next_is s.step 4294967295 h (omega arith), table_stays s v)

pub follows : Follows plan (λ s vs. table s)
follows = record { long = λ s vs. refl; here = λ s vs. refl; moves = λ s v vs h e. moves_on s v vs (omega (arith, h)) e; over = λ s. omega arith }
