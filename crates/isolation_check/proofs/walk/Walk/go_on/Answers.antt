use Rattle.std.proofs.Common.{Err, None, Some, ap, arith, drop, false, length, map, rules, subst, sym, true, ◌+◌, ◌++◌, ◌≡◌, ◌∙◌, ◌∷◌, []}
use Rattle.std.specs.Prelude.{Ok, option_map, set}
use Rattle.std.proofs.lemmas.List.{map-append}
use Rattle.std.proofs.lemmas.Option.{slice_get_within}
use Rattle.bal_base.specs.Stops.{IfFault}
use Rattle.bal_base.specs.declared.fault.FaultCode.TheVariants.{NotIsolated}
use Rattle.bal_base.specs.declared.fault.Kept.TheVariants.{Names as ShowsNames}
use Rattle.checks.specs.Questions.{IsFault}
use Rattle.isolation_check.specs.declared.parts.HeldPart.{HeldPart}
use Rattle.isolation_check.specs.declared.walk.OpenBody.{OpenBody}
use Rattle.isolation_check.specs.declared.walk.Walk.{Walk}
use Rattle.isolation_check.specs.inner.Opened.{AreBelow, GoesOn, WalksOn, left, open_of}
use Rattle.isolation_check.specs.inner.Views.{does_of, part_of, parts_of}
use Rattle.isolation_check.specs.Isolated.{own_parts}
use Rattle.isolation_check.specs.Parts.{function_parts}
use Rattle.isolation_check.specs.Typed.{PartBelow}
use Rattle.isolation_check.specs.Walk.{body, leads, path}
use Rattle.isolation_check.proofs.Sound.{calls-new}
use Rattle.isolation_check.proofs.Stepping.{Here, closed-left, from, here-as, names-back, on-broken, on-error, opened-left, part-below, step-enter, step-leave, step-on}
use Rattle.isolation_check.proofs.walk.Walk.go_on.Goals as goal

pub keeps-requires-clause-part : goal.keeps-requires-clause-part
keeps-requires-clause-part g c =
    let part = c.index-body-i.result in
    subst (λ h. PartBelow (length (g.T.Types.atoms c.loop-i.types)) (part_of h)) c.index-body-i.is
    (subst (λ env. PartBelow (length env) (part_of part)) (sym c.loop-i.invariant.0) (part-below (length (g.T.Types.atoms c.args.types.now)) c.args.body.parts.now c.loop-i.i part c.loop-i-test.true c.index-body-i.is c.requires.below))

pub returns-in_err-keeps-clause-goes_on : goal.returns-in_err-keeps-clause-goes_on
returns-in_err-keeps-clause-goes_on g c =
    let env = g.T.Types.atoms c.args.types.now in
    let around = map open_of c.args.self.now.stack.items in
    let name = option_map (λ n. n.now) c.args.body.name in
    let entered = c.args.self.now.entered.items in
    let parts = c.args.body.parts.now in
    let part = c.index-body-i.result in
    let passed : c.from_residual.result ≡ Err c.in_err-keeps.field-0.0 = search rules in
    subst (λ r. GoesOn g.T.Types.passes c.args.bodies env (map open_of (c.args.self.now.stack.items ++ c.args.body ∷ [])) entered c.loop-i.self r) (sym passed)
    (on-error g.T.Types.passes c.args.bodies env around name entered parts c.loop-i.i part c.loop-i-test.true c.index-body-i.is c.loop-i.self _ c.in_err-keeps.field-0.0
    (subst (λ m. Here g.T.Types.passes c.args.bodies m around name entered parts c.loop-i.i part c.loop-i-test.true c.index-body-i.is (Err c.in_err-keeps.field-0.0)) c.loop-i.invariant.0
    (here-as g.T.Types.passes c.args.bodies (g.T.Types.atoms c.loop-i.types) around name entered parts c.loop-i.i part c.loop-i-test.true c.index-body-i.is _ (Err c.in_err-keeps.field-0.0) c.index-body-i.is
    (c.in_err-keeps.ensures.judged (path (from g.T.Types.passes c.args.bodies env around name entered parts c.loop-i.i c.loop-i.i)))))
    c.loop-i.invariant.2)

pub returns-then-not-branch-clause-goes_on : goal.returns-then-not-branch-clause-goes_on
returns-then-not-branch-clause-goes_on g c =
    let env = g.T.Types.atoms c.args.types.now in
    let around = map open_of c.args.self.now.stack.items in
    let name = option_map (λ n. n.now) c.args.body.name in
    let entered = c.args.self.now.entered.items in
    let parts = c.args.body.parts.now in
    let part = c.index-body-i.result in
    let stack = c.loop-i.self.stack.items in
    let back : c.deref.result.now ≡ c.args.self.now.stack.items ++ c.args.body ∷ [] =
    c.deref.ensures.value ∙ c.in_ok-push.ensures.items ∙ ap (λ (w : Walk). w.stack.items ++ c.args.body ∷ []) c.loop-i.invariant.1 in
    on-broken g.T.Types.passes c.args.bodies env around name entered parts c.loop-i.i part c.loop-i-test.true c.index-body-i.is (record { stack = c.push.new.self; entered = c.loop-i.self.entered }) _ c.broken.result _ c.broken.ensures.refused
    (subst (λ h. IfFault c.broken.result (IsFault NotIsolated (Some h.at) (ShowsNames (path (map open_of c.deref.result.now))))) (sym c.index-body-i.is) c.broken.ensures.fault)
    (names-back c.args.self.now.stack.items c.deref.result.now c.args.body (parts_of (drop c.loop-i.i parts)) back)
    (subst (λ b. Here g.T.Types.passes c.args.bodies env around name entered parts c.loop-i.i part c.loop-i-test.true c.index-body-i.is (Ok b)) c.if-not-branch.true
    (subst (λ m. Here g.T.Types.passes c.args.bodies m around name entered parts c.loop-i.i part c.loop-i-test.true c.index-body-i.is (Ok c.in_ok-keeps.field-0)) c.loop-i.invariant.0
    (here-as g.T.Types.passes c.args.bodies (g.T.Types.atoms c.loop-i.types) around name entered parts c.loop-i.i part c.loop-i-test.true c.index-body-i.is _ (Ok c.in_ok-keeps.field-0) c.index-body-i.is
    (c.in_ok-keeps.ensures.judged (path (from g.T.Types.passes c.args.bodies env around name entered parts c.loop-i.i c.loop-i.i))))))
    c.loop-i.invariant.2

pub enter-requires-clause-inside : goal.enter-requires-clause-inside
enter-requires-clause-inside g c =
    slice_get_within c.loop-i.self.entered.items c.in-Some.unit false (calls-new c.loop-i.self.entered.items _ c.in-Some.unit (sym c.leads.ensures ∙ c.in-Some.is)).1

pub returns-in-Some-clause-goes_on : goal.returns-in-Some-clause-goes_on
returns-in-Some-clause-goes_on g c =
    let env = g.T.Types.atoms c.args.types.now in
    let around = map open_of c.args.self.now.stack.items in
    let name = option_map (λ n. n.now) c.args.body.name in
    let entered = c.args.self.now.entered.items in
    let parts = c.args.body.parts.now in
    let part = c.index-body-i.result in
    let opened = c.in_ok-enter.ensures.stack in
    let new : leads entered (does_of part.deed) ≡ Some c.in-Some.unit =
    ap (λ (w : Walk). leads w.entered.items (does_of part.deed)) (sym c.loop-i.invariant.1) ∙ ap (λ (h : HeldPart). leads c.loop-i.self.entered.items (does_of h.deed)) c.index-body-i.is ∙ sym c.leads.ensures ∙ c.in-Some.is in
    let now_entered : c.enter.new.self.entered.items ≡ set entered c.in-Some.unit true =
    c.in_ok-enter.ensures.entered ∙ ap (λ (w : Walk). set w.entered.items c.in-Some.unit true) c.loop-i.invariant.1 in
    let next : OpenBody = record { name = c.args.body.name; parts = c.args.body.parts; done = c.loop-i.i + 1 } in
    let grown : map open_of c.enter.new.self.stack.items ≡ map open_of (c.args.self.now.stack.items ++ next ∷ []) ++ body (Some opened.0.name) (own_parts (function_parts opened.0)) ∷ [] =
    opened.2 ∙ ap (λ (w : Walk). map open_of (w.stack.items ++ next ∷ []) ++ body (Some opened.0.name) (own_parts (function_parts opened.0)) ∷ []) c.loop-i.invariant.1 in
    let here : map open_of c.enter.new.self.stack.items ≡ from g.T.Types.passes c.args.bodies env around name entered parts (c.loop-i.i + 1) (c.loop-i.i + 1) ++ body (Some opened.0.name) (own_parts (function_parts opened.0)) ∷ [] =
    grown ∙ ap (λ os. os ++ body (Some opened.0.name) (own_parts (function_parts opened.0)) ∷ []) (map-append open_of c.args.self.now.stack.items (next ∷ [])) in (
      λ o w. c.loop-i.invariant.2 o
          (step-enter g.T.Types.passes c.args.bodies env around name entered parts c.loop-i.i part c.loop-i-test.true c.index-body-i.is c.in-Some.unit opened.0 new opened.1 o
          (subst (λ bs. WalksOn g.T.Types.passes c.args.bodies env (from g.T.Types.passes c.args.bodies env around name entered parts (c.loop-i.i + 1) (c.loop-i.i + 1) ++ body (Some opened.0.name) (own_parts (function_parts opened.0)) ∷ []) bs o) now_entered (subst (λ os. WalksOn g.T.Types.passes c.args.bodies env os c.enter.new.self.entered.items o) here w))),
      opened-left entered c.enter.new.self.entered.items c.in-Some.unit c.args.self.now.stack.items next c.args.body c.enter.new.self.stack.items _ (calls-new entered (does_of part.deed) c.in-Some.unit new).1 now_entered grown,
    )

pub returns-in-Some-clause-stack : goal.returns-in-Some-clause-stack
returns-in-Some-clause-stack g c =
    let n = length (g.T.Types.atoms c.args.types.now) in
    c.in_ok-enter.ensures.below n (subst (λ (w : Walk). AreBelow n w.stack.items) (sym c.loop-i.invariant.1) c.requires.stack) c.requires.below c.requires.bodies.below

pub loop-i-preserved : goal.loop-i-preserved
loop-i-preserved g c =
    let env = g.T.Types.atoms c.args.types.now in
    let around = map open_of c.args.self.now.stack.items in
    let name = option_map (λ n. n.now) c.args.body.name in
    let entered = c.args.self.now.entered.items in
    let parts = c.args.body.parts.now in
    let part = c.index-body-i.result in
    let none : leads entered (does_of part.deed) ≡ None =
    ap (λ (w : Walk). leads w.entered.items (does_of part.deed)) (sym c.loop-i.invariant.1) ∙ ap (λ (h : HeldPart). leads c.loop-i.self.entered.items (does_of h.deed)) c.index-body-i.is ∙ sym c.leads.ensures ∙ c.in_default.is in
    let kept : Here g.T.Types.passes c.args.bodies env around name entered parts c.loop-i.i part c.loop-i-test.true c.index-body-i.is (Ok true) =
    subst (λ b. Here g.T.Types.passes c.args.bodies env around name entered parts c.loop-i.i part c.loop-i-test.true c.index-body-i.is (Ok b)) c.if-not-branch.false
    (subst (λ m. Here g.T.Types.passes c.args.bodies m around name entered parts c.loop-i.i part c.loop-i-test.true c.index-body-i.is (Ok c.in_ok-keeps.field-0)) c.loop-i.invariant.0
    (here-as g.T.Types.passes c.args.bodies (g.T.Types.atoms c.loop-i.types) around name entered parts c.loop-i.i part c.loop-i-test.true c.index-body-i.is _ (Ok c.in_ok-keeps.field-0) c.index-body-i.is
    (c.in_ok-keeps.ensures.judged (path (from g.T.Types.passes c.args.bodies env around name entered parts c.loop-i.i c.loop-i.i))))) in (
      c.in_ok-keeps.ensures.atoms ∙ c.loop-i.invariant.0,
      c.loop-i.invariant.1,
      λ o w. c.loop-i.invariant.2 o (step-on g.T.Types.passes c.args.bodies env around name entered parts c.loop-i.i part c.loop-i-test.true c.index-body-i.is kept none o w),
    )

pub returns-clause-goes_on : goal.returns-clause-goes_on
returns-clause-goes_on g c =
    let env = g.T.Types.atoms c.args.types.now in
    let around = map open_of c.args.self.now.stack.items in
    let name = option_map (λ n. n.now) c.args.body.name in
    let entered = c.args.self.now.entered.items in
    let parts = c.args.body.parts.now in (
      λ o w. c.loop-i.invariant.2 o
          (step-leave g.T.Types.passes c.args.bodies env around name entered parts c.loop-i.i (grind (arith, c.loop-i-test.false)) o
          (subst (λ (k : Walk). WalksOn g.T.Types.passes c.args.bodies env (map open_of k.stack.items) k.entered.items o) c.loop-i.invariant.1 w)),
      subst (λ (k : Walk). left k.entered.items (length k.stack.items) + 1 ≡ left entered (length (map open_of (c.args.self.now.stack.items ++ c.args.body ∷ [])))) (sym c.loop-i.invariant.1)
          (closed-left entered c.args.self.now.stack.items c.args.body),
    )
