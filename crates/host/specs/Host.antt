-- The four kinds of sequence as one. Definitions only.
use Rattle.std.specs.Prelude.{ℕ, Bool, List, Option, Some, None, Result, Ok, Err}
use Rattle.registers.specs.declared.refusal.Refusal.{Refusal}
use Rattle.bus.specs.declared.Action.{Action}
use Rattle.bus.specs.Sequence.{Plan}
use Rattle.startup.specs.Startup as startup
use Rattle.driver.specs.Channel as channel
use Rattle.driver.specs.Register as register
use Rattle.self_test.specs.SelfTest as self-test
use Rattle.host.specs.declared.Kind.{Kind}
use Rattle.host.specs.declared.Kind.TheVariants.{Startup, Transfer, Register, SelfTest}
use Rattle.host.specs.declared.Outcome.{Outcome}
use Rattle.host.specs.declared.Outcome.TheVariants.{Driver, Float, Word, Passed}

-- what a kind's judgement brings, as an outcome
abbrev pub brings : {A : Type 0} → (A → Outcome) → Result (Option A) Refusal → Result (Option Outcome) Refusal
brings f (Ok None) = Ok None
brings f (Ok (Some a)) = Ok (Some (f a))
brings f (Err refusal) = Err refusal

abbrev legal : Kind → Bool
legal (Startup s) = startup.plan.legal s
legal (Transfer s) = channel.plan.legal s
legal (Register s) = register.plan.legal s
legal (SelfTest s) = self-test.plan.legal s

abbrev step : Kind → ℕ
step (Startup s) = startup.plan.step s
step (Transfer s) = channel.plan.step s
step (Register s) = register.plan.step s
step (SelfTest s) = self-test.plan.step s

abbrev table : Kind → List Action
table (Startup s) = startup.plan.table s
table (Transfer s) = channel.plan.table s
table (Register s) = register.plan.table s
table (SelfTest s) = self-test.plan.table s

abbrev judge : Kind → ℕ → Result (Option Outcome) Refusal
judge (Startup s) v = brings Driver (startup.plan.judge s v)
judge (Transfer s) v = brings Float (channel.plan.judge s v)
judge (Register s) v = brings Word (register.plan.judge s v)
judge (SelfTest s) v = brings Passed (self-test.plan.judge s v)

abbrev onward : Kind → ℕ → Kind
onward (Startup s) v = Startup (startup.plan.onward s v)
onward (Transfer s) v = Transfer (channel.plan.onward s v)
onward (Register s) v = Register (register.plan.onward s v)
onward (SelfTest s) v = SelfTest (self-test.plan.onward s v)

abbrev ended : Kind → Kind
ended (Startup s) = Startup (startup.plan.ended s)
ended (Transfer s) = Transfer (channel.plan.ended s)
ended (Register s) = Register (register.plan.ended s)
ended (SelfTest s) = SelfTest (self-test.plan.ended s)

abbrev pub plan : Plan Kind Outcome
plan = record { legal = legal; step = step; table = table; judge = judge; onward = onward; ended = ended }

abbrev pub table_of : Kind → List ℕ → List Action
table_of (Startup s) vs = startup.table_of s vs
table_of (Transfer s) vs = channel.table s
table_of (Register s) vs = register.plan.table s
table_of (SelfTest s) vs = self-test.table_of s vs
