use Rattle.std.proofs.Common.{sym, ap, ◌∙◌, arith, rules, length, ◌≡◌, take}
use Rattle.std.proofs.lemmas.Result.{err_from_is_err_and}
use Rattle.stream.proofs.Rest.{rest_all, rest_end, rest_cons, rest_more, rest_none, rest_bad, more_none}
use Rattle.std.specs.Iterator.Adapters.{zip_first, zip_second}
use Rattle.std.specs.Slice.Iter.{iter_rest}
use Rattle.std.proofs.lemmas.Slice.Zip.{Zip-more}
use lib.ListN.{length-take}
use Rattle.stream.specs.Encoder.{sizes_of}
use Rattle.stream.proofs.measure.Goals as goal

pub loop-address-init : goal.loop-address-init
loop-address-init c =
    let z = c.into_iter-address-iterator.result in
    let a : iter_rest (zip_first z) ≡ take c.args.count c.args.addresses.now = search rules in
    let v : iter_rest (zip_second z) ≡ take c.args.count c.args.values.now = search rules in record {
      counted = more_none _ ∙ ap sizes_of (rest_all z c.args.count c.args.addresses.now c.args.values.now a v);
      small = omega (arith, ap length a, length-take c.args.count c.args.addresses.now);
    }

pub loop-address-preserved : goal.loop-address-preserved
loop-address-preserved c =
    let l = c.loop-address in
    let h = rest_cons l.address-iterator c.next.new.self _ _ c.in-Some.is c.next.ensures.steps in
    let s = Zip-more l.address-iterator c.next.new.self _ _ c.in-Some.is c.next.ensures.steps in record {
      counted = rest_more _ _ _ l.bytes h _ (search rules) ∙ l.invariant.counted;
      small = omega (arith, ap length s.0, l.invariant.small, c.in_ok-bytes.ensures.small);
    }

pub returns : goal.returns
returns c =
    let l = c.loop-address in
    sym (rest_none l.bytes _ (rest_end l.address-iterator c.next.new.self _ c.in-None.is c.next.ensures.steps)) ∙ l.invariant.counted

pub returns-in_err-bytes : goal.returns-in_err-bytes
returns-in_err-bytes c =
    let l = c.loop-address in
    let p = err_from_is_err_and c.from_residual.result c.from_residual.ensures.1 in
    rw (p.1, p.2) (sym (rest_bad _ _ _ l.bytes (rest_cons l.address-iterator c.next.new.self _ _ c.in-Some.is c.next.ensures.steps) _ (sym c.in_err-bytes.ensures.judged)) ∙ l.invariant.counted)
