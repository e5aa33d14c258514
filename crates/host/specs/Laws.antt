-- What the trait asks of the four as one: each follows its table.
--     table_stays a record that moves on keeps its whole table, whatever its step
--     moves_on    past its table too: any record but one of the largest step moves on by one, with that table
use Rattle.std.specs.Prelude.{◌≡◌, ℕ, ◌+◌, ◌<◌, ◌≤◌, false, List, ◌∷◌, length, slice_get, Option, Some, None, Result, Ok, Err, refl}
use Rattle.std.proofs.Common.{arith}
use Rattle.registers.specs.declared.refusal.Refusal.{Refusal}
use Rattle.bus.specs.Sequence.{Follows, ends, stops}
use Rattle.startup.specs.Laws as startup-laws
use Rattle.driver.specs.ChannelLaws as channel-laws
use Rattle.driver.specs.RegisterLaws as register-laws
use Rattle.self_test.specs.Laws as self-test-laws
use Rattle.startup.specs.Startup as startup
use Rattle.driver.specs.Channel as channel
use Rattle.driver.specs.Register as register
use Rattle.self_test.specs.SelfTest as self-test
use Rattle.host.specs.declared.Kind.{Kind}
use Rattle.host.specs.declared.Kind.TheVariants.{Startup, Transfer, Register, SelfTest}
use Rattle.host.specs.declared.Outcome.{Outcome}
use Rattle.host.specs.declared.Outcome.TheVariants.{Driver, Float, Word, Passed}
use Rattle.host.specs.Host.{brings, plan, table_of}

-- a judgement ends the one exactly where it ends the other
ends_brings : {A : Type 0} (f : A → Outcome) (x : Result (Option A) Refusal) → ends (brings f x) ≡ false → ends x ≡ false
ends_brings f (Ok None) e = refl
ends_brings f (Ok (Some a)) e = e
ends_brings f (Err refusal) e = e

long : (k : Kind) (vs : List ℕ) → length (table_of k vs) ≡ length (plan.table k)
long (Startup s) vs = startup-laws.follows.long s vs
long (Transfer s) vs = channel-laws.follows.long s vs
long (Register s) vs = register-laws.follows.long s vs
long (SelfTest s) vs = self-test-laws.follows.long s vs

here : (k : Kind) (vs : List ℕ) → slice_get (table_of k vs) (plan.step k) ≡ slice_get (plan.table k) (plan.step k)
here (Startup s) vs = startup-laws.follows.here s vs
here (Transfer s) vs = channel-laws.follows.here s vs
here (Register s) vs = register-laws.follows.here s vs
here (SelfTest s) vs = self-test-laws.follows.here s vs

-- far fewer steps than a step can count
short : (k : Kind) → length (plan.table k) < 4294967295
short (Startup s) = omega arith
short (Transfer s) = omega arith
short (Register s) = omega arith
short (SelfTest s) = omega arith

pub table_stays : (k : Kind) (v : ℕ) (vs : List ℕ) → table_of (plan.onward k v) vs ≡ table_of k (v ∷ vs)
table_stays (Startup s) v vs = startup-laws.table_stays s v vs
table_stays (Transfer s) v vs = channel-laws.table_stays s v
table_stays (Register s) v vs = register-laws.table_stays s v
table_stays (SelfTest s) v vs = self-test-laws.table_stays s v vs

pub moves_on : (k : Kind) (v : ℕ) (vs : List ℕ) → plan.step k < 4294967295 → stops plan k v ≡ false
    → (plan.step (plan.onward k v) ≡ plan.step k + 1) × (table_of (plan.onward k v) vs ≡ table_of k (v ∷ vs))
moves_on (Startup s) v vs h e = startup-laws.moves_on s v vs h (ends_brings Driver (startup.plan.judge s v) e)
moves_on (Transfer s) v vs h e = channel-laws.moves_on s v vs h (ends_brings Float (channel.plan.judge s v) e)
moves_on (Register s) v vs h e = register-laws.moves_on s v vs h (ends_brings Word (register.plan.judge s v) e)
moves_on (SelfTest s) v vs h e = self-test-laws.moves_on s v vs h (ends_brings Passed (self-test.plan.judge s v) e)

over : (k : Kind) → length (plan.table (plan.ended k)) ≤ plan.step (plan.ended k)
over (Startup s) = startup-laws.follows.over s
over (Transfer s) = channel-laws.follows.over s
over (Register s) = register-laws.follows.over s
over (SelfTest s) = self-test-laws.follows.over s

pub follows : Follows plan table_of
follows = record { long = long; here = here; moves = λ k v vs h e. moves_on k v vs (omega (arith, h, short k)) e; over = over }
