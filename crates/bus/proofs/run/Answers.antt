use Rattle.std.proofs.Common.{rules, refl, ap, sym, ◌∙◌, Ok}
use Rattle.bus.proofs.Hosts.{ends_now, goes_more, shorter}
use Rattle.bus.proofs.run.Goals as goal

pub loop-action-smaller : goal.loop-action-smaller
loop-action-smaller g c =
    let q = g.S.Sequence in
    shorter q.plan q.table_of g.met.S.Sequence.laws _ _ c.reply.ensures.after c.reply.ensures.answer (c.in_ok-output.was ∙ ap Ok c.in_default-2.is)

pub loop-action-preserved : goal.loop-action-preserved
loop-action-preserved g c =
    let q = g.S.Sequence in
    let none = c.in_ok-output.was ∙ ap Ok c.in_default-2.is in
    λ result left end R. c.loop-action.invariant _ _ _ (goes_more q.plan q.table_of g.met.S.Sequence.laws g.B.Bus.gives (sym c.action.ensures ∙ c.in-Some.is) c.play-reply.ensures c.reply.ensures.after c.reply.ensures.answer none result left end R)

pub returns-in-Some-2 : goal.returns-in-Some-2
returns-in-Some-2 g c =
    let q = g.S.Sequence in
    c.loop-action.invariant _ _ _ (ends_now q.plan q.table_of g.met.S.Sequence.laws g.B.Bus.gives (sym c.action.ensures ∙ c.in-Some.is) c.play-reply.ensures c.reply.ensures.after c.reply.ensures.answer _ (c.in_ok-output.was ∙ ap Ok c.in-Some-2.is) refl)

pub returns-in_err-output : goal.returns-in_err-output
returns-in_err-output g c =
    let q = g.S.Sequence in
    let h = c.loop-action.invariant _ _ _ (ends_now q.plan q.table_of g.met.S.Sequence.laws g.B.Bus.gives (sym c.action.ensures ∙ c.in-Some.is) c.play-reply.ensures c.reply.ensures.after c.reply.ensures.answer _ c.in_err-output.was refl) in
    let e = c.from_residual.ensures in
    search rules
