use Rattle.std.proofs.Common.{◌≡◌, ℕ, suc, ◌+◌, ◌≤◌, List, ◌∷◌, length, take, sym, ap, ◌∙◌, arith, rules, Ok, refl}
use lib.ListN.{length-append}
use Rattle.registers.specs.Registers.{Write, wrote, width_of}
use Rattle.registers.specs.Bytes.{laid}
use Rattle.registers.proofs.Laid.{laid_laid, laid_nil}
use Rattle.stream.specs.Streams.{write_bytes, encode}
use Rattle.stream.specs.Encoder.{size_of, sizes_of, lay_judged}
use Rattle.stream.proofs.Streams.{length_write, size_cons}
use Rattle.stream.proofs.Rest.{rest_all, rest_end, rest_cons, good_head}
use Rattle.stream.proofs.Lays.{lays_good}
use Rattle.std.specs.Iterator.Adapters.{zip_first, zip_second}
use Rattle.std.specs.Slice.Iter.{iter_rest}
use Rattle.stream.proofs.lay_each.Goals as goal

-- the write that a turn lays is good, and its bytes are the first of those left
module _ (w : Write) (ws rs : List Write) (h : rs ≡ w ∷ ws) (g : sizes_of rs ≡ Ok (length (encode rs))) where
  good : (size_of w ≡ Ok (suc (width_of w.address))) × (sizes_of ws ≡ Ok (length (encode ws))) × (length (encode rs) ≡ suc (width_of w.address) + length (encode ws))
  good = let p = good_head w ws (rw h at g) in (p.0, p.1, ap length (ap encode h) ∙ size_cons w ws)

  judged : (size at : ℕ) → at + length (encode rs) ≤ size → lay_judged size at w ≡ Ok (at + suc (width_of w.address))
  judged size at room = lays_good size at w (omega (arith, good.2)) good.0

one_more : (w : Write) (ws rs : List Write) (d e : List ℕ) (at r : ℕ) → rs ≡ w ∷ ws → e ≡ laid d at (write_bytes w) → r ≡ at + suc (width_of w.address) → at + length (encode rs) ≤ length d
    → laid e r (encode ws) ≡ laid d at (encode rs)
unfolding encode
one_more w ws rs d e at r q l p h =
    let k = rw (q, length-append) at h in
    let n = length_write w in
    let i : r ≡ at + length (write_bytes w) = omega arith in
    rw (l, i, q) (laid_laid d at (write_bytes w) (encode ws) (omega arith))

pub loop-address-init : goal.loop-address-init
loop-address-init c =
    let z = c.into_iter-address-iterator.result in
    let a : iter_rest (zip_first z) ≡ take c.args.count c.args.addresses.now = search rules in
    let v : iter_rest (zip_second z) ≡ take c.args.count c.args.values.now = search rules in
    let e = rest_all z c.args.count c.args.addresses.now c.args.values.now a v in record {
      long = refl;
      good = rw e c.requires.good;
      room = rw e (omega (arith, c.requires.room));
      laid = rw e;
    }

pub unwrap-at-requires : goal.unwrap-at-requires
unwrap-at-requires c =
    let l = c.loop-address in
    let h = rest_cons l.address-iterator c.next.new.self _ _ c.in-Some.is c.next.ensures.steps in
    rw (c.lay.ensures.judged, judged _ _ _ h l.invariant.good (length l.bytes) l.at l.invariant.room) refl

pub loop-address-preserved : goal.loop-address-preserved
loop-address-preserved c =
    let l = c.loop-address in
    let w = wrote c.in-Some.field-0-0.now c.in-Some.field-0-1.now in
    let h = rest_cons l.address-iterator c.next.new.self _ _ c.in-Some.is c.next.ensures.steps in
    let g = good w _ _ h l.invariant.good in
    let j = judged w _ _ h l.invariant.good (length l.bytes) l.at l.invariant.room in
    let next : c.unwrap-at.result ≡ l.at + suc (width_of w.address) = search rules in
    let bytes : c.lay.new.bytes ≡ laid l.bytes l.at (write_bytes w) = search rules in record {
      long = c.lay.auto.bytes ∙ l.invariant.long;
      good = g.1;
      room = omega (arith, next, g.2, c.lay.auto.bytes, l.invariant.room);
      laid = one_more w _ _ _ _ _ _ h bytes next l.invariant.room ∙ l.invariant.laid;
    }

pub returns : goal.returns
unfolding encode
returns c =
    let l = c.loop-address in
    let e = rest_end l.address-iterator c.next.new.self _ c.in-None.is c.next.ensures.steps in
    sym (laid_nil l.bytes l.at) ∙ rw e at l.invariant.laid
