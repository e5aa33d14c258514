use Rattle.std.proofs.Common.{◌≡◌, ◌∙◌, sym, arith}
use lib.ListN.{length-set}
use Rattle.registers.proofs.Bytes.{last_laid, none_laid}
use Rattle.registers.proofs.big_endian.lay.Goals as goal

pub loop-i-preserved : goal.loop-i-preserved
loop-i-preserved c =
    let l = c.loop-i in record {
      long = rw length-set l.invariant.long;
      left = last_laid l.bytes c.args.at l.i l.rest (omega arith) (omega arith) ∙ l.invariant.left;
    }

pub returns : goal.returns
returns c =
    let l = c.loop-i in
    let e : l.i ≡ 0 = omega arith in
    sym (none_laid l.bytes c.args.at l.rest) ∙ rw e at l.invariant.left
