-- Document 01, reading CSR or FR1. Definitions only.
use Rattle.std.specs.Prelude.{ℕ, [], ◌∷◌, leb, Some, Ok}
use Rattle.registers.specs.Registers.{FR1}
use Rattle.bus.specs.declared.Action.TheVariants.{Read}
use Rattle.bus.specs.Sequence.{Plan, next}
use Rattle.driver.specs.declared.register.Register.{Register}

abbrev pub start : ℕ → Register
start a = record { step = 0; address = a }

-- one action, and the value that was read; an address past FR1's counts as ended
abbrev pub plan : Plan Register ℕ
plan = record {
  legal = λ s. leb s.address FR1;
  step = λ s. s.step;
  table = λ s. Read s.address ∷ [];
  judge = λ s v. Ok (Some v);
  onward = λ s v. record { step = next s.step; address = s.address };
  ended = λ s. record { step = 1; address = s.address };
}
