use Rattle.std.proofs.Common.{◌∙◌, ◌+◌, ◌<◌, ◌≤◌, Err, Ok, arith, drop, length, slice_index_or, subst, sym}
use Rattle.operations.specs.declared.library.LibraryCall.TheVariants.{Println}
use Rattle.check_kinds.specs.Over.{ComesOver}
use Rattle.check_words.specs.Calls.{is_receiver}
use Rattle.check_words.specs.Library.{row_of}
use Rattle.check_calls.specs.Picking.{picks_among}
use Rattle.check_calls.proofs.PickedMethods.{none-among, passed, rest-at, rest-past, skipped, stopped, taken}
use Rattle.check_calls.proofs.picking.pick_among.Goals as goal

pub loop-call-preserved-then-not-is_named : goal.loop-call-preserved-then-not-is_named
loop-call-preserved-then-not-is_named g c = (
  c.loop-call.invariant.0,
  λ e is r new h.
      let calls = c.args.sought.calls.now in
      let i = c.loop-call.call-index in
      let name = c.args.sought.name.now in
      let env = g.T.Types.atoms c.loop-call.types in
      let lt : i < length calls = grind (arith, c.loop-call-test.true) in
      c.loop-call.invariant.1 e is r new
      (subst (λ xs. ComesOver (picks_among g.T.Types.passes name xs e c.args.sought.at) env r new) (sym (rest-at calls i Println lt))
      (skipped g.T.Types.passes c.args.sought.at name e (slice_index_or calls i Println) (drop (i + 1) calls) env new r (sym c.is_named.ensures ∙ c.if-not-is_named.true) h)),
)

pub returns-then-so-clause-comes : goal.returns-then-so-clause-comes
returns-then-so-clause-comes g c = λ e is.
    let calls = c.args.sought.calls.now in
    let i = c.loop-call.call-index in
    let name = c.args.sought.name.now in
    let call = slice_index_or calls i Println in
    let env = g.T.Types.atoms c.loop-call.types in
    let new = g.T.Types.atoms c.fits.new.types in
    let lt : i < length calls = grind (arith, c.loop-call-test.true) in
    c.loop-call.invariant.1 e is (Ok (row_of call)) new
    (subst (λ xs. ComesOver (picks_among g.T.Types.passes name xs e c.args.sought.at) env (Ok (row_of call)) new) (sym (rest-at calls i Println lt))
    (taken g.T.Types.passes c.args.sought.at name e call (drop (i + 1) calls) env new (sym c.is_named.ensures ∙ c.if-not-is_named.false)
    (subst (λ b. ComesOver (is_receiver g.T.Types.passes (row_of call).receiver e c.args.sought.at) env (Ok b) new) c.if-so.true (c.in-Ok.ensures.comes e is))))

pub returns-in-Err-clause-comes : goal.returns-in-Err-clause-comes
returns-in-Err-clause-comes g c = λ e is.
    let calls = c.args.sought.calls.now in
    let i = c.loop-call.call-index in
    let name = c.args.sought.name.now in
    let env = g.T.Types.atoms c.loop-call.types in
    let new = g.T.Types.atoms c.fits.new.types in
    let lt : i < length calls = grind (arith, c.loop-call-test.true) in
    c.loop-call.invariant.1 e is (Err c.in-Err.stop) new
    (subst (λ xs. ComesOver (picks_among g.T.Types.passes name xs e c.args.sought.at) env (Err c.in-Err.stop) new) (sym (rest-at calls i Println lt))
    (stopped g.T.Types.passes c.args.sought.at name e (slice_index_or calls i Println) (drop (i + 1) calls) env new c.in-Err.stop (sym c.is_named.ensures ∙ c.if-not-is_named.false)
    (c.in-Err.ensures.comes e is)))

pub loop-call-preserved : goal.loop-call-preserved
loop-call-preserved g c = (
  c.in-Ok.ensures.atoms ∙ c.loop-call.invariant.0,
  λ e is r new h.
      let calls = c.args.sought.calls.now in
      let i = c.loop-call.call-index in
      let name = c.args.sought.name.now in
      let call = slice_index_or calls i Println in
      let env = g.T.Types.atoms c.loop-call.types in
      let mid = g.T.Types.atoms c.fits.new.types in
      let lt : i < length calls = grind (arith, c.loop-call-test.true) in
      c.loop-call.invariant.1 e is r new
      (subst (λ xs. ComesOver (picks_among g.T.Types.passes name xs e c.args.sought.at) env r new) (sym (rest-at calls i Println lt))
      (passed g.T.Types.passes c.args.sought.at name e call (drop (i + 1) calls) env mid new r (sym c.is_named.ensures ∙ c.if-not-is_named.false)
      (subst (λ b. ComesOver (is_receiver g.T.Types.passes (row_of call).receiver e c.args.sought.at) env (Ok b) mid) c.if-so.false (c.in-Ok.ensures.comes e is)) h)),
)

pub returns-clause-comes : goal.returns-clause-comes
returns-clause-comes g c = λ e is.
    let calls = c.args.sought.calls.now in
    let i = c.loop-call.call-index in
    let env = g.T.Types.atoms c.loop-call.types in
    let le : length calls ≤ i = grind (arith, c.loop-call-test.false) in
    c.loop-call.invariant.1 e is (Err c.no_method.result) env
    (subst (λ xs. ComesOver (picks_among g.T.Types.passes c.args.sought.name.now xs e c.args.sought.at) env (Err c.no_method.result) env) (sym (rest-past calls i le))
    (none-among g.T.Types.passes c.args.sought.at c.args.sought.name.now e env c.no_method.result c.no_method.ensures))
