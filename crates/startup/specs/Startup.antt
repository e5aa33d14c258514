-- Document 01, start-up. Definitions only.
use Rattle.std.specs.Prelude.{ℕ, ◌-◌, Bool, true, false, cond, ◌&&◌, ◌||◌, List, [], ◌∷◌, ltb, leb, eqb, is_ok, get_or, Float, Option, Some, None, Result, Ok, Err}
use Rattle.std.specs.Result.{result_unwrap_or}
use Rattle.registers.specs.declared.refusal.Refusal.{Refusal}
use Rattle.registers.specs.declared.refusal.Refusal.TheVariants.{Check, Mode}
use Rattle.registers.specs.Registers.{CSR, FR1, holds}
use Rattle.bitfields.specs.Csr.{csr_of}
use Rattle.bitfields.specs.Fr1.{with_clock}
use Rattle.convert.specs.declared.Driver.{Driver}
use Rattle.convert.specs.declared.clock.Clock.{Clock}
use Rattle.convert.specs.Clock.{clock_of}
use Rattle.bus.specs.declared.Action.{Action}
use Rattle.bus.specs.declared.Action.TheVariants.{Pin, Delay, Configure, Write, Read}
use Rattle.bus.specs.Bus.{IoUpdate, Reset}
use Rattle.bus.specs.Sequence.{Plan, next}
use Rattle.startup.specs.declared.Startup.{Startup}

-- the 17 actions, where csr and fr1 are what is written to them
abbrev pub table : ℕ → ℕ → ℕ → List Action
table mode csr fr1 =
    Pin IoUpdate false ∷ Pin Reset true ∷ Delay 5 ∷ Pin Reset false
    ∷ Configure 0 ∷ Write CSR csr ∷ Pin IoUpdate true ∷ Delay 5 ∷ Pin IoUpdate false
    ∷ Configure mode ∷ Delay 5 ∷ Read CSR
    ∷ Read FR1 ∷ Write FR1 fr1 ∷ Pin IoUpdate true ∷ Delay 5 ∷ Pin IoUpdate false ∷ []

abbrev pub start : ℕ → Float → ℕ → Startup
start mode reference multiplier = record { step = 0; mode = mode; reference = reference; multiplier = multiplier; fr1 = 0 }

-- a mode above 3 is Mode, before any action
abbrev pub new_of : ℕ → Float → ℕ → Result Startup Refusal
new_of mode reference multiplier = cond (ltb 3 mode) (Err Mode) (Ok (start mode reference multiplier))

abbrev pub clock : Startup → Result Clock Refusal
clock s = clock_of s.reference s.multiplier

-- a mode or an FR1 out of range counts as ended, and so does a clock outside its rule past the CSR read
unfoldable pub legal : Startup → Bool
legal s = leb s.mode 3 && holds FR1 s.fr1 && (ltb s.step 12 || is_ok (clock s))

-- a refused clock has none: 0, which is written nowhere
abbrev pub vco_of : Result Clock Refusal → ℕ
vco_of (Ok c) = c.vco
vco_of (Err refusal) = 0

-- FR1 with multiplier and vco_high, and every other bit as it was read
unfoldable pub word : Startup → ℕ → ℕ
word s fr1 = result_unwrap_or (with_clock fr1 s.multiplier (vco_of (clock s))) 0

-- CSR with all channels: 0xF0 + 2 x mode
abbrev pub csr : Startup → ℕ
csr s = result_unwrap_or (csr_of s.mode 15) 0

-- a good clock brings nothing yet at the CSR read, and the driver's record with the last reply
abbrev pub waits : Result Clock Refusal → Result (Option Driver) Refusal
waits (Ok c) = Ok None
waits (Err refusal) = Err refusal

abbrev pub makes : ℕ → Result Clock Refusal → Result (Option Driver) Refusal
makes mode (Ok c) = Ok (Some (record { mode = mode; ratio = c.ratio }))
makes mode (Err refusal) = Err refusal

-- the CSR that was written is read, else Check; then the clock
unfoldable pub judge : Startup → ℕ → Result (Option Driver) Refusal
judge s v = cond (eqb s.step 11) (cond (eqb v (csr s)) (waits (clock s)) (Err Check)) (cond (eqb s.step 16) (makes s.mode (clock s)) (Ok None))

abbrev pub at : Startup → ℕ → ℕ → Startup
at s step fr1 = record { step = step; mode = s.mode; reference = s.reference; multiplier = s.multiplier; fr1 = fr1 }

abbrev pub kept_of : ℕ → ℕ → ℕ → ℕ
kept_of step v fr1 = cond (eqb step 12) v fr1

abbrev pub plan : Plan Startup Driver
plan = record {
  legal = legal;
  step = λ s. s.step;
  table = λ s. table s.mode (csr s) (word s s.fr1);
  judge = judge;
  onward = λ s v. at s (next s.step) (kept_of s.step v s.fr1);
  ended = λ s. at s 17 s.fr1;
}

-- the FR1 that is read at step 12, where that is still to come
abbrev pub fr1_to : ℕ → List ℕ → ℕ → ℕ
fr1_to k vs fr1 = cond (ltb k 13) (get_or vs (12 - k) 0) fr1

abbrev pub table_of : Startup → List ℕ → List Action
table_of s vs = table s.mode (csr s) (word s (fr1_to s.step vs s.fr1))
