-- What the trait asks of the self test: it follows its table.
--     table_stays a record that moves on keeps its whole table, whatever its step
--     moves_on    past its table too: any record but one of the largest step moves on by one, with that table
use Rattle.std.specs.Prelude.{◌≡◌, ℕ, zero, suc, ◌+◌, ◌<◌, Bool, false, cond, List, ◌∷◌, length, eqb, get_or, slice_get, min, refl}
use Rattle.std.proofs.Common.{ap, arith}
use borrow.Author.Tests.{ne_eqb}
use lib.Dec.{eqb-suc-zero}
use Rattle.bus.specs.Sequence.{Follows, stops}
use Rattle.bus.proofs.Runs.{next_is}
use Rattle.self_test.specs.declared.SelfTest.{SelfTest}
use Rattle.self_test.specs.SelfTest.{table, plan, table_of}

-- the first step is the same whatever the byte is
first_same : (k old : ℕ) (vs : List ℕ) → slice_get (table (cond (eqb k 0) (get_or vs 0 0) old)) k ≡ slice_get (table old) k
first_same zero old vs = refl
first_same (suc k) old vs = ap (λ (b : Bool). slice_get (table (cond b (get_or vs 0 0) old)) (suc k)) (eqb-suc-zero k)

-- six steps, of any record
pub many : (s : SelfTest) → length (plan.table s) ≡ 6
many s = refl

pub table_stays : (s : SelfTest) (v : ℕ) (vs : List ℕ) → table_of (plan.onward s v) vs ≡ table_of s (v ∷ vs)
table_stays s v vs = rw (ne_eqb (min (s.step + 1) 4294967295) 0 (λ z. omega (arith, z))) refl

pub moves_on : (s : SelfTest) (v : ℕ) (vs : List ℕ) → s.step < 4294967295 → stops plan s v ≡ false
    → (plan.step (plan.onward s v) ≡ plan.step s + 1) × (table_of (plan.onward s v) vs ≡ table_of s (v ∷ vs))
moves_on s v vs h e = (next_is s.step 4294967295 h (omega arith), table_stays s v vs)

pub follows : Follows plan table_of
follows = record {
  long = λ s vs. refl;
  here = λ s vs. first_same s.step s.old vs;
  moves = λ s v vs h e. moves_on s v vs (omega (arith, h)) e;
  over = λ s. omega arith;
}
