-- Document 01, "Bus sequences": what is wrong with a reply to an action. Definitions only.
use Rattle.std.specs.Prelude.{ℕ, cond, Option, Some, None, Result, Ok, Err}
use Rattle.registers.specs.declared.refusal.Refusal.{Refusal}
use Rattle.registers.specs.declared.refusal.Refusal.TheVariants.{Interface, Word, Over}
use Rattle.registers.specs.declared.refusal.Refusal.TheVariants as refused
use Rattle.registers.specs.Registers.{holds}
use Rattle.bus.specs.declared.Action.{Action}
use Rattle.bus.specs.declared.Action.TheVariants.{Pin, Delay, Configure, Write, Read}
use Rattle.bus.specs.declared.Reply.{Reply}

-- the two pins
abbrev pub IoUpdate : ℕ
IoUpdate = 0

abbrev pub Reset : ℕ
Reset = 1

-- Interface or Pin, then Word; a failed flag on a delay is ignored; the u32 counts only for a read that didn't fail
abbrev pub fault_of : Option Action → Reply → Result (Unit {0}) Refusal
fault_of None r = Err Over
fault_of (Some (Pin pin high)) r = cond r.failed (Err refused.Pin) (Ok tt)
fault_of (Some (Delay us)) r = Ok tt
fault_of (Some (Configure mode)) r = cond r.failed (Err Interface) (Ok tt)
fault_of (Some (Write a v)) r = cond r.failed (Err Interface) (Ok tt)
fault_of (Some (Read a)) r = cond r.failed (Err Interface) (cond (holds a r.value) (Ok tt) (Err Word))
