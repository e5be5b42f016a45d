use Rattle.descriptors.proofs.Drafting.{drafts-on, drafts-stops, given, handed-on}
use Rattle.type_builder.proofs.Meant.{of-params}
use Rattle.type_builder.proofs.meanings.signature.Goals as goal

pub returns-in_err-fixed : goal.returns-in_err-fixed
returns-in_err-fixed c = handed-on _ _ _ _ _ _ _ c.from_residual.ensures (drafts-stops _ _ _ _ _ _ _ _ (of-params c.args.names.now c.args.scope _ _ _ _ _ c.deref.ensures.value c.in_err-fixed.ensures))

pub returns-in_err-rest : goal.returns-in_err-rest
returns-in_err-rest c = handed-on _ _ _ _ _ _ _ c.from_residual-in_err-rest.ensures (drafts-on _ _ _ _ _ _ _ _ _ _ (of-params c.args.names.now c.args.scope _ _ _ _ _ c.deref.ensures.value c.in_ok-fixed.ensures)
    (drafts-stops _ _ _ _ _ _ _ _ (given _ _ _ _ _ _ _ c.in_err-rest.ensures (λ n h. h.0))))

pub returns-in_err-result : goal.returns-in_err-result
returns-in_err-result c = handed-on _ _ _ _ _ _ _ c.from_residual-in_err-result.ensures (drafts-on _ _ _ _ _ _ _ _ _ _ (of-params c.args.names.now c.args.scope _ _ _ _ _ c.deref.ensures.value c.in_ok-fixed.ensures)
    (drafts-on _ _ _ _ _ _ _ _ _ _ (given _ _ _ _ _ _ _ c.in_ok-rest.ensures (λ n h. h.0))
    (drafts-stops _ _ _ _ _ _ _ _ (given _ _ _ _ _ _ _ c.in_err-result.ensures (λ n h. h.0.0)))))

pub returns : goal.returns
returns c = drafts-on _ _ _ _ _ _ _ _ _ _ (of-params c.args.names.now c.args.scope _ _ _ _ _ c.deref.ensures.value c.in_ok-fixed.ensures)
    (drafts-on _ _ _ _ _ _ _ _ _ _ (given _ _ _ _ _ _ _ c.in_ok-rest.ensures (λ n h. h.0))
    (drafts-on _ _ _ _ _ _ _ _ _ _ (given _ _ _ _ _ _ _ c.in_ok-result.ensures (λ n h. h.0.0))
    (given _ _ _ _ _ _ _ (c.signed.ensures c.args.names.now c.args.scope) (λ n h. ((h.0.0.1, h.0.1), h.1)))))
