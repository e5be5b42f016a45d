use Rattle.std.proofs.Common.{ap, arith, subst}
use borrow.Enum.Total.{values_d}
use denote.Hole.Carrier
use Rattle.typed_tree.specs.declared.stmt.TypedStmt.{out-TypedStmt}
use Rattle.typed_tree.specs.contracts.stmt.TypedStmt as stmt
use Rattle.std.specs.List.{AllZip}
use Rattle.declared_reads.specs.Declared.{IsBare, IsBareSource, IsBareStmt, IsBareTarget}
use Rattle.bare_packages.specs.Parts.{IsBareClause, IsBareResult}
use Rattle.bare_packages.proofs.Bare.{ok-one}
use Rattle.bare_packages.proofs.Changed.{block-bare, change-more, foreach-bare, if-bare, match-bare, perform-bare, return-bare, set-bare, update-bare, while-bare}
use Rattle.bare_packages.proofs.stmts.+stmt.Goals as goal

pub stmt-returns-in-Set : goal.stmt-returns-in-Set
unfolding out-TypedStmt Carrier.out
stmt-returns-in-Set t c =
    ok-one c.boxed.result (λ x. set-bare c.args.s.now c.in-Set.slot _ c.in-Set.value _ c.in-Set._at _ c.in-Set.is (ap (λ e. (values_d stmt.enum 0 (c.in-Set.slot, (c.in-Set.value, (c.in-Set._at, tt))) e).0) c.in-Set.is) c.in-Set._at-is
    (subst (λ z. IsBare z.value c.boxed.new.e.value) c.in-Set.value-is x)) c.boxed.ensures

pub stmt-returns-in-Perform : goal.stmt-returns-in-Perform
unfolding out-TypedStmt Carrier.out
stmt-returns-in-Perform t c =
    ok-one c.exprs.result (λ x. perform-bare c.args.s.now c.in-Perform.form _ c.in-Perform.operands _ c.in-Perform._at _ c.in-Perform.is (ap (λ e. (values_d stmt.enum 1 (c.in-Perform.form, (c.in-Perform.operands, (c.in-Perform._at, tt))) e).0) c.in-Perform.is) c.in-Perform._at-is
    (subst (λ z. AllZip IsBare z.items c.exprs.new.es.items) c.in-Perform.operands-is x)) c.exprs.ensures

pub stmt-returns-in_ok-target-in-Update : goal.stmt-returns-in_ok-target-in-Update
stmt-returns-in_ok-target-in-Update t c =
    ok-one c.boxed-in-Update.result (λ x. update-bare c.args.s.now c.in-Update.to _ c.in-Update._op _ c.in-Update.value _ c.in-Update._at _ c.in-Update.is c.in-Update._op-is c.in-Update._at-is
    (subst (λ z. IsBareTarget z c.target.new.t) c.in-Update.to-is c.in_ok-target-in-Update.ensures)
    (subst (λ z. IsBare z.value c.boxed-in-Update.new.e.value) c.in-Update.value-is x)) c.boxed-in-Update.ensures

pub stmt-returns-in_ok-stmts-in-If : goal.stmt-returns-in_ok-stmts-in-If
stmt-returns-in_ok-stmts-in-If t c =
    ok-one c.stmts-in-If.result (λ x. if-bare c.args.s.now c.in-If.condition _ c.in-If.first c.in-If.second _ _ c.in-If._at _ c.in-If.is c.in-If._at-is
    (subst (λ z. IsBare z.value c.boxed-in-If.new.e.value) c.in-If.condition-is c.in_ok-boxed-in-If.ensures)
    (subst (λ z. AllZip IsBareStmt z.items c.stmts.new.ss.items) c.in-If.first-is c.in_ok-stmts-in-If.ensures)
    (subst (λ z. AllZip IsBareStmt z.items c.stmts-in-If.new.ss.items) c.in-If.second-is x)) c.stmts-in-If.ensures

pub stmt-returns-in_ok-boxed-in-While : goal.stmt-returns-in_ok-boxed-in-While
stmt-returns-in_ok-boxed-in-While t c =
    ok-one c.stmts-in-While.result (λ x. while-bare c.args.s.now c.in-While.condition _ c.in-While.body _ c.in-While._at _ c.in-While.is c.in-While._at-is
    (subst (λ z. IsBare z.value c.boxed-in-While.new.e.value) c.in-While.condition-is c.in_ok-boxed-in-While.ensures)
    (subst (λ z. AllZip IsBareStmt z.items c.stmts-in-While.new.ss.items) c.in-While.body-is x)) c.stmts-in-While.ensures

pub stmt-returns-in_ok-source-in-Foreach : goal.stmt-returns-in_ok-source-in-Foreach
unfolding out-TypedStmt Carrier.out
stmt-returns-in_ok-source-in-Foreach t c =
    ok-one c.stmts-in-Foreach.result (λ x. foreach-bare c.args.s.now c.in-Foreach.slot _ c.in-Foreach.from _ c.in-Foreach.body _ c.in-Foreach._at _ c.in-Foreach.is (ap (λ e. (values_d stmt.enum 5 (c.in-Foreach.slot, (c.in-Foreach.from, (c.in-Foreach.body, (c.in-Foreach._at, tt)))) e).0) c.in-Foreach.is) c.in-Foreach._at-is
    (subst (λ z. IsBareSource z c.source.new.s) c.in-Foreach.from-is c.in_ok-source-in-Foreach.ensures)
    (subst (λ z. AllZip IsBareStmt z.items c.stmts-in-Foreach.new.ss.items) c.in-Foreach.body-is x)) c.stmts-in-Foreach.ensures

pub stmt-returns-in_ok-boxed-in-Match : goal.stmt-returns-in_ok-boxed-in-Match
unfolding out-TypedStmt Carrier.out
stmt-returns-in_ok-boxed-in-Match t c =
    ok-one c.clauses.result (λ x. match-bare c.args.s.now c.in-Match.own _ c.in-Match.subject _ c.in-Match.rows _ c.in-Match._at _ c.in-Match.is (ap (λ e. (values_d stmt.enum 6 (c.in-Match.own, (c.in-Match.subject, (c.in-Match.rows, (c.in-Match._at, tt)))) e).0) c.in-Match.is) c.in-Match._at-is
    (subst (λ z. IsBare z.value c.boxed-in-Match.new.e.value) c.in-Match.subject-is c.in_ok-boxed-in-Match.ensures)
    (subst (λ z. AllZip IsBareClause z.items c.clauses.new.cs.items) c.in-Match.rows-is x)) c.clauses.ensures

pub stmt-returns-in-Return : goal.stmt-returns-in-Return
stmt-returns-in-Return t c =
    ok-one c.returned.result (λ x. return-bare c.args.s.now c.in-Return.value _ c.in-Return._at _ c.in-Return.is c.in-Return._at-is
    (subst (λ z. IsBareResult z c.returned.new.value) c.in-Return.value-is x)) c.returned.ensures

pub stmt-returns-in-Block : goal.stmt-returns-in-Block
stmt-returns-in-Block t c =
    ok-one c.stmts-in-Block.result (λ x. block-bare c.args.s.now c.in-Block.body _ c.in-Block._at _ c.in-Block.is c.in-Block._at-is
    (subst (λ z. AllZip IsBareStmt z.items c.stmts-in-Block.new.ss.items) c.in-Block.body-is x)) c.stmts-in-Block.ensures

pub all-loop-s-preserved : goal.all-loop-s-preserved
all-loop-s-preserved t c =
    change-more IsBareStmt c.args.ss.now c.loop-s.ss c.loop-s.s-index c.s-item.result c.stmt.new.s (omega arith) c.loop-s.invariant.0.0 c.loop-s.invariant.0.1 c.loop-s.invariant.1 c.in_ok-stmt.ensures

pub rows-loop-c-preserved : goal.rows-loop-c-preserved
rows-loop-c-preserved t c =
    change-more IsBareClause c.args.cs.now c.loop-c.cs c.loop-c.c-index c.c-item.result c.clause.new.c (omega arith) c.loop-c.invariant.0.0 c.loop-c.invariant.0.1 c.loop-c.invariant.1 c.in_ok-clause.ensures
