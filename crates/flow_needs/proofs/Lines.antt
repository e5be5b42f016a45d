-- Lines that say something of variables, or keep a value in a slot of their own.
use Rattle.std.proofs.Common.{◌≡◌, Bool, true, false, List, length, IfSome, Option, None, Some, arith, sym, subst}
use Rattle.bal_base.specs.declared.place.Place.{Place}
use Rattle.bal_tree.specs.declared.expr.PrefixOp.{PrefixOp}
use Rattle.bal_tree.specs.declared.expr.PrefixOp.TheVariants as prefix
use Rattle.bal_tree.specs.declared.name.QualifiedName.{QualifiedName}
use Rattle.bal_tree.specs.declared.types.TypeTree.{TypeTree}
use Rattle.checks.specs.Checks.{Gives}
use Rattle.descriptors.specs.declared.names.Names.{Names}
use Rattle.operations.specs.Rows.{Surroundings}
use Rattle.type_model.specs.declared.answers.TypeLimit.{TypeLimit}
use Rattle.type_model.specs.declared.atoms.AtomDef.{AtomDef}
use Rattle.type_model.specs.Calls.{Asked}
use Rattle.typed_tree.specs.declared.form.Operator.TheVariants as operator
use Rattle.typed_tree.specs.Listed.{Listed, nothing, one, ◌&◌}
use Rattle.expr_needs.specs.declared.expected.Expected.{Expected}
use Rattle.expr_needs.specs.declared.expected.Expected.TheVariants as expected
use Rattle.expr_needs.specs.declared.kind.Kind.TheVariants as kind
use Rattle.expr_needs.specs.declared.operators.Family.TheVariants.{Condition, Elvis}
use Rattle.expr_needs.specs.ExprTable.{Reading, against, binary_needs, condition_needs, conditional_needs, freely}
use Rattle.expr_needs.specs.Needs.{Need, Checks, ChecksPanicking, Chooses, Describes, Encloses, FillsNil, Forms, GivesNamed, IsOf, Splits, Switches, Tests, Traps, Turns}
use Rattle.expr_needs.specs.Operators.{expectation, made_of, prefix_expects, prefix_needs}
use Rattle.check_words.specs.State.{State, UnitAtWork}
use Rattle.check_words.specs.Values.{checked as checked_word, turns}
use Rattle.check_laws.specs.Laws.{IsReady}
use Rattle.tree_promises.specs.Laws.{MadeExprsKeepFlows}
use Rattle.typed_needs.specs.Between.{IsSoFar, IsStanding}
use Rattle.typed_needs.specs.Pieces.{IsBefore}
use Rattle.typed_needs.proofs.Asking.{is-of-leaves}
use Rattle.typed_needs.proofs.Placed.{last-same}
use Rattle.calm_needs.specs.Calm.{IsCalm, IsCalmNeed, NeedsAreCalm}
use Rattle.calm_needs.specs.Staying.{Stays, WaysStayOn}
use Rattle.typed_exprs.specs.Lines.{Left, Path, Run}
use Rattle.typed_exprs.proofs.Steps.{Step, calm-path, parted, path-on, so-far, still-ready}
use Rattle.flow_needs.specs.Runs.{KnowsFlow}
use Rattle.flow_needs.specs.Slots.{HasOwnSlots, HaveSlots}
use Rattle.flow_needs.proofs.Conditions.{comes-both, comes-chosen, own-entered, own-switched}
use Rattle.flow_needs.proofs.Growing.{grows-part, grows-then}
use Rattle.flow_needs.proofs.NarrowedReads.{comes-tested}
use Rattle.flow_needs.proofs.Needs.{quiet-describes, weave-forms}
use Rattle.flow_needs.proofs.Own.{checks-opened, comes-checked, comes-filled, comes-trapped, state-before}
use Rattle.flow_needs.proofs.Reading.{NamesOne, comes-named, named-given}
use Rattle.flow_needs.proofs.Stepping.{AtHand, FlowLine, nothing-run, own-slots, run-stands, slots-within, step-path, strict-line}
use Rattle.flow_needs.proofs.StrictLines.{is-kind, last, leads, of-kind}
use Rattle.flow_needs.proofs.Testing.{comes-enclosed, comes-turned, tested-so}
use Rattle.flow_needs.proofs.Ways.{Paired, Splitted, chosen, conjoined, disjoined, splitted, switched}

module _ (passes : List AtomDef → Asked → TypeLimit → Type 0) (names : Names) (env : List AtomDef) (calm : NeedsAreCalm passes names) (stay : WaysStayOn passes names)
    (flows : MadeExprsKeepFlows) where
  abbrev Reads : Reading → Type 0
  Reads = KnowsFlow passes names env

  abbrev Says : (Expected → Listed Need) → Type 0
  Says = FlowLine passes names env

  -- ---- states on the way

  hand-of : (e : Expected) (s : State) → IsReady e s → IsStanding s → HasOwnSlots s → AtHand s
  hand-of e s ready standing own = record { unit = ready.unit; standing = standing; slots = own }

  pub before-of : (place : Surroundings) (s : State) → IsStanding s → IsSoFar env place s → IsBefore env s
  before-of place s standing far = state-before env s standing far.first

  nothing-ready : (e : Expected) (s : State) → IsReady e s → IsReady expected.Nothing s
  nothing-ready e s h = record { unit = h.unit; wants = tt }

  truth-ready : (e : Expected) (s : State) → IsReady e s → IsReady (expectation kind.Truth) s
  truth-ready e s h = record { unit = h.unit; wants = tt }

  kind-asked : (at : Place) (old new : State) → Step passes names env (IsOf kind.Truth at) old new → new ≡ old
  kind-asked at old new s = is-of-leaves passes kind.Truth at old new tt s.0

  -- ---- names

  pub name : (q : QualifiedName) → Says (λ e. one (GivesNamed q))
  name q leaves e place around live old new slots ready run standing own far =
      let path = (leaves e old new ready run).path in
      let far-old = so-far env place old new path far in
      comes-named env around live flows names q old new own.unit own.at_hand own.slots (slots-within place around live env old own.unit slots own.at_hand far-old) (named-given names q old new tt run.0)

  -- ---- one operand

  pub enclosed : (a : Reading) (at : Place) → Reads a → Says (λ e. a.needs e & one (Encloses at))
  enclosed a at ka leaves e place around live old new slots ready run standing own far =
      let left = leaves e old new ready run in
      let (k, ra, s) = parted passes names env (a.needs e) (one (Encloses at)) old new run in
      let c : IsCalm k new = calm.encloses at k new s.0 in
      let far-k = so-far env place k new (calm-path k new c.on c.units) far in
      comes-enclosed env around live flows at old k new (ka.claim e place around live old k slots ready ra standing own far-k) s.0 left.more.part left.more.found

  pub turned : (a : Reading) (at : Place) → Reads a → Says (λ e. a.needs (expectation kind.Truth) & one (IsOf kind.Truth a.at) & one (Turns at))
  turned a at ka leaves e place around live old new slots ready run standing own far =
      let left = leaves e old new ready run in
      let (k, ra, rest) = parted passes names env (a.needs (expectation kind.Truth)) (one (IsOf kind.Truth a.at) & one (Turns at)) old new run in
      let (l, si, s) = parted passes names env (one (IsOf kind.Truth a.at)) (one (Turns at)) k new rest in
      let same : l ≡ k = kind-asked a.at k l si in
      let c : IsCalm l new = calm.turns at l new s.0 in
      let far-k : IsSoFar env place k = subst (IsSoFar env place) same (so-far env place l new (calm-path l new c.on c.units) far) in
      comes-turned env around live flows at old k new (ka.claim (expectation kind.Truth) place around live old k slots (truth-ready e old ready) ra standing own far-k)
      (subst (λ (x : State). turns at x (Gives tt) new) same s.0) left.more.part left.more.found

  pub negated : (a : Reading) (at : Place) → Reads a → Says (λ e. a.needs (expectation kind.Integer) & one (IsOf kind.Integer a.at) & one (Forms operator.Negate 1 kind.Integer at))
  negated a at ka =
      strict-line passes names env calm flows (λ e. Forms operator.Negate 1 kind.Integer at)
      (λ e. a.needs (expectation kind.Integer) & one (IsOf kind.Integer a.at) & one (Forms operator.Negate 1 kind.Integer at)) (λ e. weave-forms passes names operator.Negate 1 kind.Integer at)
      (λ place around live slots e.
      leads passes names env calm flows place around live slots (Forms operator.Negate 1 kind.Integer at) (a.needs (expectation kind.Integer))
      (one (IsOf kind.Integer a.at) & one (Forms operator.Negate 1 kind.Integer at)) (of-kind passes names env calm flows place around live slots kind.Integer a ka)
      (leads passes names env calm flows place around live slots (Forms operator.Negate 1 kind.Integer at) (one (IsOf kind.Integer a.at)) (one (Forms operator.Negate 1 kind.Integer at))
      (is-kind passes names env calm flows place around live slots kind.Integer a.at) (last passes names env calm flows place around live slots (Forms operator.Negate 1 kind.Integer at) tt)))

  pub checked : (panics : Bool) (need : Need) → IsCalmNeed need → (at : Place) → ((old new : State) → Step passes names env need old new → checked_word panics at old (Gives tt) new)
      → (a : Reading) → Reads a → Says (λ e. freely a & one need)
  checked panics need is at opens a ka leaves e place around live old new slots ready run standing own far =
      let left = leaves e old new ready run in
      let (k, ra, s) = parted passes names env (freely a) (one need) old new run in
      let far-k = so-far env place k new (step-path passes names env calm flows place around live slots need is k new s) far in
      let x = ka.claim expected.Nothing place around live old k slots (nothing-ready e old ready) ra standing own far-k in
      let stands-k = run-stands passes names env (freely a) old k standing ra in
      comes-checked env around live flows place slots panics at old k new left.more.part own.unit own.at_hand own.slots (grows-part env around live old k x) (before-of place k stands-k far-k)
      (before-of place new s.1 far) far.placed (opens k new s) left.more.found

  pub prefixed : (o : PrefixOp) (a : Reading) (at : Place) → Reads a → Says (λ e. a.needs (prefix_expects o) & prefix_needs o a.at at)
  prefixed prefix.Negate a at ka = negated a at ka
  prefixed prefix.Not a at ka = turned a at ka
  prefixed prefix.Check a at ka = checked false (Checks at) tt at (λ old new s. checks-opened passes at old new s.0) a ka
  prefixed prefix.CheckPanic a at ka = checked true (ChecksPanicking at) tt at (λ old new s. s.0) a ka

  pub trapped : (a : Reading) (at : Place) → Reads a → Says (λ e. freely a & one (Traps at))
  trapped a at ka leaves e place around live old new slots ready run standing own far =
      let left = leaves e old new ready run in
      let (k, ra, s) = parted passes names env (freely a) (one (Traps at)) old new run in
      let far-k = so-far env place k new (step-path passes names env calm flows place around live slots (Traps at) tt k new s) far in
      let x = ka.claim expected.Nothing place around live old k slots (nothing-ready e old ready) ra standing own far-k in
      comes-trapped env around live flows place slots at old k new left.more.part own.unit own.at_hand own.slots (grows-part env around live old k x) s.0 left.more.found

  pub tested : (type : TypeTree) (a : Reading) (at : Place) → Reads a → Says (λ e. freely a & one (Describes type) & one (Tests a.name at))
  tested type a at ka leaves e place around live old new slots ready run standing own far =
      let left = leaves e old new ready run in
      let (k, ra, rest) = parted passes names env (freely a) (one (Describes type) & one (Tests a.name at)) old new run in
      let (l, sd, s) = parted passes names env (one (Describes type)) (one (Tests a.name at)) k new rest in
      let c : IsCalm l new = calm.tests a.name at l new s.0 in
      let far-l = so-far env place l new (calm-path l new c.on c.units) far in
      let far-k = so-far env place k l (step-path passes names env calm flows place around live slots (Describes type) tt k l sd) far-l in
      let path-k = (ka.leaves expected.Nothing old k (nothing-ready e old ready) ra).path in
      let far-old = so-far env place old k path-k far-k in
      let x = ka.claim expected.Nothing place around live old k slots (nothing-ready e old ready) ra standing own far-k in
      let one : own.unit ≡ x.was = last-same old.units own.unit x.was own.at_hand x.before in
      comes-tested env around live flows passes names a.name at old k l new x (quiet-describes passes names type k l tt sd.0) (named-by a ka old k ra)
      (subst (λ (u : UnitAtWork). HaveSlots (length u.slots) u.flow.variables) one own.slots)
      (slots-within place around live env old x.was slots x.before far-old) (before-of place l sd.1 far-l) (before-of place new s.1 far) (tested-so passes a.name at l new s.0) left.more.part left.more.found
    where
      named-by : (a : Reading) → Reads a → (old k : State) → Run passes names env (freely a) old k → IfSome a.name (λ q. NamesOne names q old k)
      named-by a ka old k run = by a.name ka.named
        where
          by : (n : Option QualifiedName) → IfSome n (λ q. a.needs ≡ (λ e. one (GivesNamed q))) → IfSome n (λ q. NamesOne names q old k)
          by None h = tt
          by (Some q) h =
              let met : Run passes names env (one (GivesNamed q)) old k = subst (λ (f : Expected → Listed Need). Run passes names env (f expected.Nothing) old k) h run in
              named-given names q old k tt met.0

  -- ---- `a ?: b`

  pub filled : (a b : Reading) (at : Place) → Reads a → Reads b → Says (λ e. binary_needs Elvis a b at e)
  filled a b at ka kb leaves e place around live old new slots ready run standing own far =
      let left = leaves e old new ready run in
      let (m, ra, rest) = parted passes names env (a.needs expected.Nothing & nothing) ((b.needs e & nothing) & one (FillsNil at)) old new run in
      let (n, rb, s) = parted passes names env (b.needs e & nothing) (one (FillsNil at)) m new rest in
      let (m', ra', na) = parted passes names env (a.needs expected.Nothing) nothing old m ra in
      let (n', rb', nb) = parted passes names env (b.needs e) nothing m n rb in
      let run-a : Run passes names env (a.needs expected.Nothing) old m = subst (λ (z : State). Run passes names env (a.needs expected.Nothing) old z) (sym (nothing-run passes names env m' m na)) ra' in
      let run-b : Run passes names env (b.needs e) m n = subst (λ (z : State). Run passes names env (b.needs e) m z) (sym (nothing-run passes names env n' n nb)) rb' in
      let left-a : Left old m = ka.leaves expected.Nothing old m (nothing-ready e old ready) run-a in
      let ready-b : IsReady e m = still-ready e old m left-a.path.many left-a.more.same.wants ready in
      let left-b : Left m n = kb.leaves e m n ready-b run-b in
      let far-n = so-far env place n new (step-path passes names env calm flows place around live slots (FillsNil at) tt n new s) far in
      let far-m = so-far env place m n left-b.path far-n in
      let x = ka.claim expected.Nothing place around live old m slots (nothing-ready e old ready) run-a standing own far-m in
      let stands-m = run-stands passes names env (a.needs expected.Nothing) old m standing run-a in
      let y = kb.claim e place around live m n slots ready-b run-b stands-m (own-slots old m x.on own) far-n in
      let stands-n = run-stands passes names env (b.needs e) m n stands-m run-b in
      comes-filled env around live flows place slots at old n new left.more.part own.unit own.at_hand own.slots
      (grows-then env around live old m n (grows-part env around live old m x) (grows-part env around live m n y)) (before-of place n stands-n far-n) (before-of place new s.1 far) far.placed s.0 left.more.found

  -- ---- ways

  stays-path : (s t : State) → Stays s t → Path s t
  stays-path s t h = calm-path s t h.on h.units

  split-path : (way : Bool) (k m : State) → Step passes names env (Splits way) k m → Path k m
  split-path way k m s = stays-path k m (stay.splits way k m s.0)

  made-path : (holds : Bool) (at : Place) (s t : State) → Step passes names env (made_of (Condition holds) at) s t → Path s t
  made-path true at s t x = stays-path s t (stay.conjoins at s t x.0)
  made-path false at s t x = stays-path s t (stay.disjoins at s t x.0)

  paired : (holds : Bool) (at : Place) (s t : State) → Step passes names env (made_of (Condition holds) at) s t → Paired holds at s t
  paired true at s t x = conjoined at s t x.0
  paired false at s t x = disjoined at s t x.0

  units-ready : (s t : State) → Path s t → IsReady (expectation kind.Truth) s → IsReady (expectation kind.Truth) t
  units-ready s t path ready = record { unit = (let u = ready.unit in let q = path.many in omega (arith, u, q)); wants = tt }

  pub both : (holds : Bool) (a b : Reading) (at : Place) → Reads a → Reads b → Says (λ e. binary_needs (Condition holds) a b at e)
  both holds a b at ka kb leaves e place around live old new slots ready run standing own far =
      let left = leaves e old new ready run in
      let (m, ra, rest) = parted passes names env (a.needs (expectation kind.Truth) & one (IsOf kind.Truth a.at) & one (Splits holds))
      ((b.needs (expectation kind.Truth) & one (IsOf kind.Truth b.at)) & one (made_of (Condition holds) at)) old new run in
      let (k, run-a, more-a) = parted passes names env (a.needs (expectation kind.Truth)) (one (IsOf kind.Truth a.at) & one (Splits holds)) old m ra in
      let (l, si, ss) = parted passes names env (one (IsOf kind.Truth a.at)) (one (Splits holds)) k m more-a in
      let (n, rb, sm) = parted passes names env (b.needs (expectation kind.Truth) & one (IsOf kind.Truth b.at)) (one (made_of (Condition holds) at)) m new rest in
      let (j, run-b, sj) = parted passes names env (b.needs (expectation kind.Truth)) (one (IsOf kind.Truth b.at)) m n rb in
      let split : Step passes names env (Splits holds) k m = subst (λ (z : State). Step passes names env (Splits holds) z m) (kind-asked a.at k l si) ss in
      let pair : Step passes names env (made_of (Condition holds) at) j new = subst (λ (z : State). Step passes names env (made_of (Condition holds) at) z new) (kind-asked b.at j n sj) sm in
      let ready-a = truth-ready e old ready in
      let left-a : Left old k = ka.leaves (expectation kind.Truth) old k ready-a run-a in
      let path-m = path-on old k m left-a.path (split-path holds k m split) in
      let ready-m = units-ready old m path-m ready-a in
      let left-b : Left m j = kb.leaves (expectation kind.Truth) m j ready-m run-b in
      let far-j = so-far env place j new (made-path holds at j new pair) far in
      let far-m = so-far env place m j left-b.path far-j in
      let far-k = so-far env place k m (split-path holds k m split) far-m in
      let x = ka.claim (expectation kind.Truth) place around live old k slots ready-a run-a standing own far-k in
      let s : Splitted holds k m = splitted holds k m split.0 in
      let own-m = own-entered env around live flows holds old k m x s own in
      let y = kb.claim (expectation kind.Truth) place around live m j slots ready-m run-b split.1 own-m far-j in
      let stands-j = run-stands passes names env (b.needs (expectation kind.Truth)) m j split.1 run-b in
      comes-both env around live flows holds at old k m j new x s y (paired holds at j new pair) left-b.more.same.choices (before-of place j stands-j far-j) (before-of place new pair.1 far)
      left.more.part left.more.found

  pub conditional : (c a b : Reading) (at : Place) → Reads c → Reads a → Reads b → Says (λ e. conditional_needs c a b at)
  conditional c a b at kc ka kb leaves e place around live old new slots ready run standing own far =
      let left = leaves e old new ready run in
      let (m, rc, rest) = parted passes names env (condition_needs c) ((freely a & one Switches) & freely b & one (Chooses at)) old new run in
      let (l, rk, ss) = parted passes names env (against kind.Truth c) (one (Splits true)) old m rc in
      let (k, run-c, si) = parted passes names env (c.needs (expectation kind.Truth)) (one (IsOf kind.Truth c.at)) old l rk in
      let (q, rq, more) = parted passes names env (freely a & one Switches) (freely b & one (Chooses at)) m new rest in
      let (p, run-a, sw) = parted passes names env (freely a) (one Switches) m q rq in
      let (r, run-b, sc) = parted passes names env (freely b) (one (Chooses at)) q new more in
      let split : Step passes names env (Splits true) k m = subst (λ (z : State). Step passes names env (Splits true) z m) (kind-asked c.at k l si) ss in
      let ready-c = truth-ready e old ready in
      let left-c : Left old k = kc.leaves (expectation kind.Truth) old k ready-c run-c in
      let ready-m = nothing-ready (expectation kind.Truth) m (units-ready old m (path-on old k m left-c.path (split-path true k m split)) ready-c) in
      let left-a : Left m p = ka.leaves expected.Nothing m p ready-m run-a in
      let path-q = stays-path p q (stay.switches p q sw.0) in
      let ready-q : IsReady expected.Nothing q = (let path = path-on m p q left-a.path path-q in record { unit = (let u = ready-m.unit in let z = path.many in omega (arith, u, z)); wants = tt }) in
      let left-b : Left q r = kb.leaves expected.Nothing q r ready-q run-b in
      let far-r = so-far env place r new (stays-path r new (stay.chooses at r new sc.0)) far in
      let far-q = so-far env place q r left-b.path far-r in
      let far-p = so-far env place p q path-q far-q in
      let far-m = so-far env place m p left-a.path far-p in
      let far-k = so-far env place k m (split-path true k m split) far-m in
      let x = kc.claim (expectation kind.Truth) place around live old k slots ready-c run-c standing own far-k in
      let s : Splitted true k m = splitted true k m split.0 in
      let own-m = own-entered env around live flows true old k m x s own in
      let y = ka.claim expected.Nothing place around live m p slots ready-m run-a split.1 own-m far-p in
      let w = switched p q sw.0 in
      let own-q = own-switched env around live flows old k m p q x s y w left-a.more.same.choices own in
      let z = kb.claim expected.Nothing place around live q r slots ready-q run-b sw.1 own-q far-r in
      comes-chosen env around live flows at old k m p q r new x s y w z (chosen at r new sc.0) left-a.more.same.choices left-b.more.same.choices left.more.part left.more.found
