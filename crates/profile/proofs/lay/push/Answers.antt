-- The values' writes one behind another, and CSR's before them.
use Rattle.std.proofs.Common.{◌+◌, ◌≤◌, length, ◌∙◌, arith}
use lib.Dec.{lit<}
use lib.ListN.{length-append}
use Rattle.registers.specs.Registers.{width_of, CFTW0, CPOW0, ACR}
use Rattle.stream.specs.Streams.{write_bytes}
use Rattle.stream.proofs.Streams.{length_write}
use Rattle.stream.proofs.Rest.{fault_clear}
use Rattle.stream.proofs.Lays.{lays_good}
use Rattle.rules.specs.Rules.{csr, cost, push_writes}
use Rattle.profile.proofs.Sizes.{length_given, encode_push}
use Rattle.profile.proofs.Puts.{puts_then, puts_ahead}
use Rattle.profile.proofs.lay.push.Goals as goal

pub returns : goal.returns
unfolding width_of push_writes
returns c =
    let a = c.args in
    let word = c.word-word.result in
    let f = c.requires.fits in
    let x = length_given CFTW0 word in
    let y = length_given CPOW0 a.push.phase in
    let z = length_given ACR a.push.acr in
    let w = csr a.mode a.push.mask in
    let m = length_write w in
    let room : a.at + (2 + cost word 5 + cost a.push.phase 3 + cost a.push.acr 4) ≤ length a.bytes.now = rw c.word-word.ensures.value c.requires.room in
    let three = puts_then (puts_then c.given-b.ensures c.given-c.ensures (omega arith)) c.given-d.ensures (simp length-append (omega arith)) in
    let good = lays_good (length c.given-d.new.bytes) a.at w (omega (arith, c.given-b.auto, c.given-c.auto, c.given-d.auto)) (fault_clear w (lit< tt) (omega (arith, f.mode, f.mask))) in
    let laid = rw (c.lay.ensures.judged ∙ good) at c.lay.ensures.laid in
    rw (← c.word-word.ensures.value, encode_push w word a.push.phase a.push.acr) (puts_ahead (write_bytes w) (omega arith) three laid (simp length-append (omega arith)))
