use Rattle.std.proofs.Common.{◌≡◌, ◌∷◌, length, ap, ◌∙◌, arith, Ok, inl}
use Rattle.std.specs.Iterator.Adapters.{enumerate_source, enumerate_count}
use lib.ListN.{length-set}
use Rattle.stream.specs.Decoder.{address_of, value_in}
use Rattle.stream.specs.Left.{items_left}
use Rattle.stream.proofs.Steps.{next_laid}
use Rattle.stream.proofs.fill.Goals as goal

pub loop-place-preserved : goal.loop-place-preserved
loop-place-preserved c =
    let l = c.loop-place in
    let s = c.in-Some.ensures.steps in
    let i = enumerate_count l.place-iterator in
    let left = items_left (enumerate_source c.next.new.self) in
    let e : items_left (enumerate_source l.place-iterator) ≡ Ok c.in-Ok.write ∷ left = s.0 ∙ ap (λ x. x ∷ left) c.in-Ok.is in
    let n = ap length e in record {
      can = (tt, tt, inl (omega (arith, n, s, l.invariant.room)));
      ends = tt;
      addresses = rw (s.1, s.2) (next_laid address_of l.addresses _ i _ _ c.in-Ok.write e l.invariant.room l.invariant.addresses);
      values = rw (s.1, s.2) (next_laid value_in l.values _ i _ _ c.in-Ok.write e l.invariant.space l.invariant.values);
      room = simp length-set (omega (arith, n, s, l.invariant.room));
      space = simp length-set (omega (arith, n, s, l.invariant.space));
    }
