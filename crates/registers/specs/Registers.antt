-- Document 01, "Registers and fields": the addresses, and the widths in bytes. Definitions only.
use Rattle.std.specs.Prelude.{ℕ, ◌-◌, ◌^◌, Bool, List, ◌∷◌, ltb, get_or, replicate}
use Rattle.registers.specs.declared.write

abbrev pub CSR : ℕ
CSR = 0x00

abbrev pub FR1 : ℕ
FR1 = 0x01

abbrev pub FR2 : ℕ
FR2 = 0x02

abbrev pub CFR : ℕ
CFR = 0x03

abbrev pub CFTW0 : ℕ
CFTW0 = 0x04

abbrev pub CPOW0 : ℕ
CPOW0 = 0x05

abbrev pub ACR : ℕ
ACR = 0x06

abbrev pub LSRR : ℕ
LSRR = 0x07

abbrev pub RDW : ℕ
RDW = 0x08

abbrev pub FDW : ℕ
FDW = 0x09

abbrev pub CW1 : ℕ
CW1 = 0x0a

-- CW2 to CW14 stand between them
abbrev pub CW15 : ℕ
CW15 = 0x18

-- in address order: CSR 1, FR1 3, FR2 2, CFR 3, CFTW0 4, CPOW0 2, ACR 3, LSRR 2, RDW 4, FDW 4, CW1 to CW15 4 each
abbrev pub widths : List ℕ
widths = 1 ∷ 3 ∷ 2 ∷ 3 ∷ 4 ∷ 2 ∷ 3 ∷ 2 ∷ 4 ∷ 4 ∷ replicate 15 4

-- an address above 0x18 has width 0
unfoldable pub width_of : ℕ → ℕ
width_of address = get_or widths address 0

-- the largest value of a register, from its width
abbrev pub largest_of : ℕ → ℕ
largest_of address = 256 ^ width_of address - 1

-- a value is not too wide for its register
abbrev pub holds : ℕ → ℕ → Bool
holds address value = ltb value (256 ^ width_of address)

-- a register write
abbrev pub Write : Type 0
Write = write.Write.Write

abbrev pub wrote : ℕ → ℕ → Write
wrote a v = record { address = a; value = v }
