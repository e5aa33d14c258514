-- For the code's own contracts: what is known of a step once it is judged, and its padding as values. Definitions only.
use Rattle.std.specs.Prelude.{ℕ, zero, suc, ◌+◌, ◌*◌, ◌^◌, ◌≤◌, ◌<◌, ◌≡◌, Some, None, Option}
use Rattle.registers.specs.Registers.{CPOW0, ACR, width_of}
use Rattle.bitfields.specs.Csr.{byte_of}
use Rattle.rules.specs.declared.Push.{Push}
use Rattle.rules.specs.Rules.{push_size, padding, quarter}

-- a value that its register holds
abbrev pub Held : ℕ → Option ℕ → Type 0
Held a (Some v) = v < 256 ^ width_of a
Held a None = Unit {0}

-- a push that is laid: each value is held, and there is room
pub record Fits (m n : ℕ) (p : Push) : Type 0 where
  pub mode : m ≤ 3
  pub mask : p.mask ≤ 15
  pub phase : Held CPOW0 p.phase
  pub acr : Held ACR p.acr
  pub room : n + push_size p ≤ 32

-- a length that is padded into k of so many words
pub record Pads (m n w k : ℕ) : Type 0 where
  pub mode : m ≤ 3
  pub room : n + padding n ≤ 32
  pub words : k ≤ w
  pub count : k ≡ quarter n
  pub whole : k * 4 ≡ n + padding n

-- padding as values, by the length modulo 4
abbrev pub lsrr_by : ℕ → Option ℕ
lsrr_by zero = None
lsrr_by (suc zero) = Some 0
lsrr_by (suc (suc zero)) = None
lsrr_by (suc (suc (suc r))) = Some 0

abbrev pub csr_by : ℕ → ℕ → Option ℕ
csr_by mode zero = None
csr_by mode (suc zero) = None
csr_by mode (suc (suc r)) = Some (byte_of mode 15)
