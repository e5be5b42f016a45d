use Rattle.check_kinds.proofs.TestedTypes.{false-of, narrows-both, narrows-stops, true-of}
use Rattle.check_kinds.proofs.narrowing.narrowed.Goals as goal

pub returns-in-Ok-where_false-clause-comes : goal.returns-in-Ok-where_false-clause-comes
returns-in-Ok-where_false-clause-comes g c =
    narrows-both g.T.Types.passes c.args.s.now c.args.t.now c.args.at _ _ _ c.in-Ok.ensures.atoms c.in-Ok.yes c.in-Ok-where_false.no
    (true-of _ _ _ _ _ _ c.deref.ensures c.deref-2.ensures c.in-Ok.ensures.is) (false-of g.T.Types.passes c.args.at _ _ _ _ _ _ _ c.deref-in-Ok.ensures c.deref-in-Ok-2.ensures c.in-Ok-where_false.ensures.comes)

pub returns-in-Err-where_false-clause-comes : goal.returns-in-Err-where_false-clause-comes
returns-in-Err-where_false-clause-comes g c =
    narrows-stops g.T.Types.passes c.args.s.now c.args.t.now c.args.at _ _ _ c.in-Ok.ensures.atoms c.in-Ok.yes c.in-Err-where_false.stop
    (true-of _ _ _ _ _ _ c.deref.ensures c.deref-2.ensures c.in-Ok.ensures.is) (false-of g.T.Types.passes c.args.at _ _ _ _ _ _ _ c.deref-in-Ok.ensures c.deref-in-Ok-2.ensures c.in-Err-where_false.ensures.comes)
