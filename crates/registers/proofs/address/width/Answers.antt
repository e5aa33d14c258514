use Rattle.std.proofs.Common.{sym}
use Rattle.registers.proofs.Widths.{width_past}
use Rattle.registers.proofs.address.width.Goals as goal

pub returns-then-address-gt-CW15 : goal.returns-then-address-gt-CW15
returns-then-address-gt-CW15 c = sym (width_past _ c.if-address-gt-CW15.true)
