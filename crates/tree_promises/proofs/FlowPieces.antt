-- What expressions leave of the flow, by what their parts do.
use Rattle.std.proofs.Common.{◌≡◌, ⊎_elim, inl, inr, ℕ, Bool, true, false, List, [], ◌∷◌, length, Option, Some, None, refl, sym, subst}
use Rattle.std.specs.Prelude.{option_map, slice_get, slice_set, ⊤}
use Rattle.bal_base.specs.declared.place.Place.{Place}
use Rattle.type_model.specs.declared.atoms.AtomDef.{AtomDef}
use Rattle.type_model.specs.declared.basic.SemType.{SemType}
use Rattle.type_model.specs.Inclusion.{Sub}
use Rattle.operations.specs.declared.operation.Operation.{Operation}
use Rattle.operations.specs.declared.operation.Operation.TheVariants.{Load, Store, Test}
use Rattle.typed_tree.specs.declared.expr.AnonymousFunction.{AnonymousFunction}
use Rattle.typed_tree.specs.declared.expr.TypedExpr.{TypedExpr, out-TypedExpr}
use Rattle.typed_tree.specs.declared.expr.TypedExpr.TheOpen as layer
use Rattle.typed_tree.specs.declared.form.Operator.TheVariants as operator
use Rattle.typed_tree.specs.declared.form.StrictForm.{StrictForm}
use Rattle.typed_tree.specs.declared.form.StrictForm.TheVariants as form
use Rattle.typed_tree.specs.declared.unit.Captured.{Captured}
use Rattle.typed_tree.specs.ExprLayers.{TypedExprOf}
use Rattle.typed_tree.specs.SharedTypes.{Shared, sem_of}
use Rattle.typed_tree.specs.Views.{IsAnd, IsCheck, IsConditional, IsElvis, IsFunctionOf, IsLocal, IsOr, IsParens, IsStrict, IsTrap}
use Rattle.held_operations.specs.Constructs.{operations_of}
use Rattle.eval_model.specs.Expressions.{check_ends, error_type, makes_function, narrowed_to, nil_type}
use Rattle.eval_model.specs.Walk.{CapturesOver, ExprOver, ExprsOver, KeptOver, OpsOver}
use Rattle.eval_model.specs.Ways.{Ways}
use Rattle.tree_promises.specs.Flows.{Around, GetsFlow, LeavesFalse, LeavesTrue, Loads, Narrows, flow_ways}
use Rattle.tree_promises.specs.Known.{BaseBelow, Below, Flow, FlowBelow, HasSome, IsFreeIn, Known, Point, loaded, plain, set_in, told}
use Rattle.tree_promises.specs.Layers.{ExprLayerOver}
use Rattle.tree_promises.specs.MadeFlows.{AllKeep, AllKnown, IsKnown, KeepsFlow, LeavesFlow, MadeKeepsFlow, OpsKeep, OwnTested}
use Rattle.tree_promises.proofs.Layered.{expr-by-layer}
use Rattle.tree_promises.proofs.Order.{below-itself, below-then, flow-itself}
use Rattle.tree_promises.proofs.Sets.{has-below, loaded-known, loaded-plain, plain-wider, set-get, set-twice-below, told-wider}

module _ (env : List AtomDef) (around : Around) where
  abbrev W : Ways Point
  W = flow_ways env around

  -- by what the layer of the expression is
  pub from-view : (e : TypedExpr) (l : TypedExprOf TypedExpr) (p q : Point) → out-TypedExpr e ≡ l → ExprLayerOver W l p q → ExprOver W e p q
  from-view e l p q is way = expr-by-layer W e p q (subst (λ k. ExprLayerOver W k p q) (sym is) way)

  -- ---- variables

  known-loads : (slot : ℕ) (narrowed : Bool) (t : SemType) (f : Flow) → IsKnown env around slot narrowed t f → HasSome env (λ s. ⊤) slot f
  known-loads slot false t f h = h
  known-loads slot true t None h = tt
  known-loads slot true t (Some ks) h = ⊎_elim (λ none. inl none) (λ (s, e, under). inr (s, e, tt)) h

  -- where more is known it is loaded all the same
  loads : (slot : ℕ) (p q : Point) (f : Flow) (base : Option Flow) → Below env p (plain f base) → HasSome env (λ s. ⊤) slot f
      → Below env (loaded slot p) q → Loads env around slot p q
  loads slot p q f base c h d = (has-below env (λ s. ⊤) (λ r s under h. tt) slot p.flow f c.flow h, d)

  pub gets : (slot : ℕ) (narrowed : Bool) (t : Shared) (p q : Point) (f : Flow) (base : Option Flow) → Below env p (plain f base)
      → IsKnown env around slot narrowed (sem_of t) f → Below env (loaded slot p) q → GetsFlow env around slot (narrowed_to narrowed t) p q
  gets slot false t p q f base c h d = loads slot p q f base c h d
  gets slot true t p q f base c h d = (
    has-below env (λ s. Sub env s (sem_of t)) (λ r s under u. λ x valid i. u x valid (under x valid i)) slot p.flow f c.flow h,
    loads slot p q f base c (known-loads slot true (sem_of t) f h) d,
  )

  module _ (base : Option Flow) where
    abbrev Leaves : TypedExpr → Flow → Flow → Flow → Flow → Type 0
    Leaves e f g y n = LeavesFlow env around base e f g y n

    abbrev Keeps : TypedExpr → Flow → Type 0
    Keeps e f = KeepsFlow env around base e f

    -- a part that is held in a box
    held : (a b : TypedExpr) (f g y n : Flow) → a ≡ b → Leaves b f g y n → Leaves a f g y n
    held a b f g y n is leaves = subst (λ x. Leaves x f g y n) (sym is) leaves

    itself : (p : Point) → Below env p p
    itself = below-itself env

    -- ---- all operands

    pub parts-over : (es : List TypedExpr) (p : Point) (f : Flow) → AllKeep env around base es f → Below env p (plain f base) → ExprsOver W es p (plain f base)
    parts-over [] p f keep c = c
    parts-over (e ∷ es) p f (first, more) c =
        (plain f base, first p (plain f base) c (itself (plain f base)), parts-over es (plain f base) f more (itself (plain f base)))

    pub ops-over : (ops : List Operation) (p q : Point) (f : Flow) → OpsKeep env around base ops f → Below env p (plain f base) → Below env (plain f base) q → OpsOver W ops p q
    ops-over [] p q f keep c d = below-then env p (plain f base) q c d
    ops-over (op ∷ ops) p q f (first, more) c d =
        (plain f base, first p (plain f base) c (itself (plain f base)), ops-over ops (plain f base) q f more (itself (plain f base)) d)

    strict : (form : StrictForm) (parts : List TypedExpr) (t : Shared) (at : Place) (e : TypedExpr) (f : Flow) → IsStrict form parts t at e
        → AllKeep env around base parts f → OpsKeep env around base (operations_of form (length parts)) f → Keeps e f
    strict form parts t at e f (v, is, same) keep ops p q c d =
        from-view e (layer.Strict form v t at) p q is
        (subst (λ (xs : List TypedExpr). (m : Point) × ExprsOver W xs p m × OpsOver W (operations_of form (length xs)) m q) (sym same)
        (plain f base, parts-over parts p f keep c, ops-over (operations_of form (length parts)) (plain f base) q f ops (itself (plain f base)) d))

    -- one operand, and one operation
    one-over : (form : StrictForm) (a e : TypedExpr) (t : Shared) (at : Place) (op : Operation) (p m q : Point) → IsStrict form (a ∷ []) t at e
        → operations_of form 1 ≡ op ∷ [] → ExprOver W a p m → W.does op m q → ExprOver W e p q
    one-over form a e t at op p m q (v, is, same) ops part does =
        from-view e (layer.Strict form v t at) p q is
        (subst (λ (xs : List TypedExpr). (m : Point) × ExprsOver W xs p m × OpsOver W (operations_of form (length xs)) m q) (sym same)
        (m, (m, part, itself m), subst (λ os. OpsOver W os m q) (sym ops) (q, does, itself q)))

    -- ---- variables and their tests

    local : (slot : ℕ) (narrowed : Bool) (t : Shared) (at : Place) (e : TypedExpr) (f : Flow) → IsLocal slot narrowed t at e
        → IsKnown env around slot narrowed (sem_of t) f → Keeps e f
    local slot narrowed t at e f is known p q c d =
        from-view e (layer.Local slot narrowed t at) p q is
        (gets slot narrowed t p q f base c known (below-then env (loaded slot p) (plain f base) q (loaded-plain env slot p f base c) d))

    tested : (slot : ℕ) (narrowed : Bool) (t u v : Shared) (at here : Place) (a e : TypedExpr) (ks : Known) (s holds fails : SemType)
        → IsLocal slot narrowed u at a → IsKnown env around slot narrowed (sem_of u) (Some ks) → IsStrict (form.Is t) (a ∷ []) v here e
        → slice_get ks slot ≡ Some (Some s) → LeavesTrue env s (sem_of t) holds → LeavesFalse env s (sem_of t) fails
        → Leaves e (Some ks) (Some ks) (Some (slice_set ks slot (Some holds))) (Some (slice_set ks slot (Some fails)))
    tested slot narrowed t u v at here a e ks s holds fails local known is has truly falsely p q c d =
        let m : Point = loaded slot (plain (Some ks) base) in
        let narrows : Narrows env (sem_of t) m q =
        record {
          slot = slot;
          known = ks;
          from = s;
          holds = holds;
          fails = fails;
          of = refl;
          flow = refl;
          has = has;
          on_true = truly;
          on_false = falsely;
          behind = d;
        } in
        one-over (form.Is t) a e v here (Test (sem_of t)) p m q is refl
        (from-view a (layer.Local slot narrowed u at) p m local (gets slot narrowed u p m (Some ks) base c known (loaded-known env slot p (Some ks) base c)))
        (inl narrows)

    negated : (a e : TypedExpr) (t : Shared) (at : Place) (f g met unmet : Flow) → IsStrict (form.Operator operator.Not) (a ∷ []) t at e
        → Leaves a f g met unmet → Leaves e f g unmet met
    negated a e t at f g met unmet is leaves p q c d =
        let m : Point = told met unmet (plain g base) in
        one-over (form.Operator operator.Not) a e t at _ p m q is refl (leaves p m c (itself m)) d

    -- ---- two ways

    conjoined : (a b e : TypedExpr) (t : Shared) (at : Place) (f g met unmet h truly falsely i o : Flow) → IsAnd a b t at e
        → Leaves a f g met unmet → Leaves b met h truly falsely → FlowBelow env h i → FlowBelow env unmet i
        → FlowBelow env falsely o → FlowBelow env unmet o → Leaves e f i truly o
    conjoined a b e t at f g met unmet h truly falsely i o (l, r, is, left, right) first second hi noi fo noo p q c d =
        let m : Point = told met unmet (plain g base) in
        let x : Point = told truly falsely (plain h base) in
        let y : Point = told None unmet (plain unmet base) in
        let end : Point = told truly o (plain i base) in
        from-view e (layer.And l r t at) p q is (
          m,
          held l.value a f g met unmet left first p m c (itself m),
          (
            plain met base,
            x,
            plain unmet base,
            y,
            itself (plain met base),
            held r.value b met h truly falsely right second (plain met base) x (itself (plain met base)) (itself x),
            below-then env x end q (told-wider env h i truly truly falsely o base hi (flow-itself env truly) fo) d,
            itself (plain unmet base),
            (y, itself y, itself y),
            below-then env y end q (told-wider env unmet i None truly unmet o base noi tt noo) d,
          ),
        )

    disjoined : (a b e : TypedExpr) (t : Shared) (at : Place) (f g met unmet h truly falsely i o : Flow) → IsOr a b t at e
        → Leaves a f g met unmet → Leaves b unmet h truly falsely → FlowBelow env h i → FlowBelow env met i
        → FlowBelow env truly o → FlowBelow env met o → Leaves e f i o falsely
    disjoined a b e t at f g met unmet h truly falsely i o (l, r, is, left, right) first second hi yesi to yeso p q c d =
        let m : Point = told met unmet (plain g base) in
        let x : Point = told met None (plain met base) in
        let y : Point = told truly falsely (plain h base) in
        let end : Point = told o falsely (plain i base) in
        from-view e (layer.Or l r t at) p q is (
          m,
          held l.value a f g met unmet left first p m c (itself m),
          (
            plain met base,
            x,
            plain unmet base,
            y,
            itself (plain met base),
            (x, itself x, itself x),
            below-then env x end q (told-wider env met i met o None falsely base yesi yeso tt) d,
            itself (plain unmet base),
            held r.value b unmet h truly falsely right second (plain unmet base) y (itself (plain unmet base)) (itself y),
            below-then env y end q (told-wider env h i truly o falsely falsely base hi to (flow-itself env falsely)) d,
          ),
        )

    chosen : (k a b e : TypedExpr) (t : Shared) (at : Place) (f g met unmet i : Flow) → IsConditional k a b t at e
        → Leaves k f g met unmet → Keeps a met → Keeps b unmet → FlowBelow env met i → FlowBelow env unmet i → Leaves e f i i i
    chosen k a b e t at f g met unmet i (s, l, r, is, condition, left, right) first second third yesi noi p q c d =
        let m : Point = told met unmet (plain g base) in
        from-view e (layer.Conditional s l r t at) p q is (
          m,
          held s.value k f g met unmet condition first p m c (itself m),
          (
            plain met base,
            plain met base,
            plain unmet base,
            plain unmet base,
            itself (plain met base),
            held l.value a met met met met left second (plain met base) (plain met base) (itself (plain met base)) (itself (plain met base)),
            below-then env (plain met base) (plain i base) q (plain-wider env met i base yesi) d,
            itself (plain unmet base),
            held r.value b unmet unmet unmet unmet right third (plain unmet base) (plain unmet base) (itself (plain unmet base)) (itself (plain unmet base)),
            below-then env (plain unmet base) (plain i base) q (plain-wider env unmet i base noi) d,
          ),
        )

    -- ---- what is kept in a slot of its own

    module _ (f : Flow) (own : ℕ) (t holds fails : SemType) (h : OwnTested env around base f own t holds fails) where
      -- where what is kept was narrowed so
      abbrev kept_as : SemType → Flow → Flow
      kept_as s g = option_map (λ ks. slice_set (slice_set ks own (Some h.declared)) own (Some s)) g

      kept-below : (s : SemType) (g : Flow) → IsFreeIn own g → FlowBelow env (kept_as s g) g
      kept-below s None free = tt
      kept-below s (Some ks) free = inr (set-twice-below env ks own h.declared s free)

      kept-has : (P : SemType → Type 0) (s : SemType) (g : Flow) → IsFreeIn own g → P s → HasSome env P own (kept_as s g)
      kept-has P s None free has = tt
      kept-has P s (Some ks) free has =
          inr (s, set-get (slice_set ks own (Some h.declared)) own (Some h.declared) s (set-get ks own None h.declared free), has)

      abbrev own_told : Flow → Point
      own_told g = told (kept_as holds g) (kept_as fails g) (plain (set_in own h.declared g) base)

      keeps-own : (g : Flow) → IsFreeIn own g → OpsOver W (Store own ∷ Load own ∷ Test t ∷ []) (plain g base) (own_told g)
      keeps-own None free =
          let p : Point = plain None base in let l : Point = loaded own p in
          (p, (h.free, h.declared, h.slot, itself p), (l, (tt, itself l), (p, inr (itself p), itself p)))
      keeps-own (Some ks) free =
          let js : Known = slice_set ks own (Some h.declared) in let m : Point = plain (Some js) base in let l : Point = loaded own m in
          let e : Point = own_told (Some ks) in
          let set : slice_get js own ≡ Some (Some h.declared) = set-get ks own None h.declared free in
          let narrows : Narrows env t l e =
          record {
            slot = own;
            known = js;
            from = h.declared;
            holds = holds;
            fails = fails;
            of = refl;
            flow = refl;
            has = set;
            on_true = h.on_true;
            on_false = h.on_false;
            behind = itself e;
          } in
          (m, (h.free, h.declared, h.slot, itself m), (l, (inr (h.declared, set, tt), itself l), (e, inl narrows, itself e)))

      -- what is kept is loaded as this type
      reads : (s u : SemType) → Sub env s u → (q : Point) → Below env (loaded own (plain (kept_as s f) base)) q
          → GetsFlow env around own (Some u) (plain (kept_as s f) base) q
      reads s u under q d = (kept-has (λ r. Sub env r u) s f h.unknown under, (kept-has (λ r. ⊤) s f h.unknown tt, d))

      -- and then nothing more is known than before
      passes : (s u : SemType) → Sub env s u → KeptOver W own u [] (plain (kept_as s f) base) (plain f base)
      passes s u under =
          let p : Point = plain (kept_as s f) base in
          (loaded own p, reads s u under (loaded own p) (itself (loaded own p)), loaded-plain env own p f base (plain-wider env (kept_as s f) f base (kept-below s f h.unknown)))

    filled : (own : ℕ) (a b e : TypedExpr) (t : Shared) (at : Place) (f : Flow) (holds fails : SemType) → IsElvis own a b t at e
        → Keeps a f → Keeps b f → OwnTested env around base f own nil_type holds fails → Sub env fails (sem_of t) → Keeps e f
    filled own a b e t at f holds fails (l, r, is, left, right) first second h under p q c d =
        let m : Point = plain f base in
        let x : Point = plain (kept_as f own nil_type holds fails h holds f) base in
        let y : Point = plain (kept_as f own nil_type holds fails h fails f) base in
        from-view e (layer.Elvis own l r t at) p q is (
          m,
          own_told f own nil_type holds fails h f,
          held l.value a f f f f left first p m c (itself m),
          keeps-own f own nil_type holds fails h f h.unknown,
          (
            x,
            m,
            y,
            m,
            itself x,
            held r.value b f f f f right second x m (plain-wider env _ f base (kept-below f own nil_type holds fails h holds f h.unknown)) (itself m),
            d,
            itself y,
            passes f own nil_type holds fails h fails (sem_of t) under,
            d,
          ),
        )

    -- nothing comes behind
    ends-flow : (panics : Bool) (p : Point) → p.base ≡ base → OpsOver W (check_ends panics ∷ []) p (plain None base)
    ends-flow true p is = (plain None base, subst (λ b. Below env (plain None b) (plain None base)) (sym is) (itself (plain None base)), itself (plain None base))
    ends-flow false p is = (plain None base, subst (λ b. Below env (plain None b) (plain None base)) (sym is) (itself (plain None base)), itself (plain None base))

    checked : (panics : Bool) (own : ℕ) (a e : TypedExpr) (t : Shared) (at : Place) (f : Flow) (holds fails : SemType) → IsCheck panics own a t at e
        → Keeps a f → OwnTested env around base f own error_type holds fails → Sub env fails (sem_of t) → Keeps e f
    checked panics own a e t at f holds fails (o, is, same) first h under p q c d =
        let m : Point = plain f base in
        let x : Point = plain (kept_as f own error_type holds fails h holds f) base in
        let y : Point = plain (kept_as f own error_type holds fails h fails f) base in
        from-view e (layer.Check panics own o t at) p q is (
          m,
          own_told f own error_type holds fails h f,
          held o.value a f f f f same first p m c (itself m),
          keeps-own f own error_type holds fails h f h.unknown,
          (
            x,
            plain None base,
            y,
            m,
            itself x,
            (
              loaded own x,
              reads f own error_type holds fails h holds error_type (λ z valid i. ((h.on_true z valid).0 i).1) (loaded own x) (itself (loaded own x)),
              ends-flow panics (loaded own x) refl,
            ),
            below-then env (plain None base) m q (plain-wider env None f base tt) d,
            itself y,
            passes f own error_type holds fails h fails (sem_of t) under,
            d,
          ),
        )

    -- ---- traps and functions

    trapped : (a e : TypedExpr) (t : Shared) (at : Place) (f : Flow) → IsTrap a t at e → KeepsFlow env around (Some f) a f → BaseBelow env f base → Keeps e f
    trapped a e t at f (o, is, same) keeps outer p q c d =
        let m : Point = plain f (Some f) in
        from-view e (layer.Trap o t at) p q is (
          m,
          m,
          record {
            kept = f;
            is = c.flow;
            outer = subst (λ b. BaseBelow env f b) c.base outer;
            begins = plain-wider env p.flow f (Some f) c.flow;
            ends = refl;
            behind = subst (λ b. Below env (plain f b) q) c.base d;
          },
          subst (λ x. ExprOver W x m m) (sym same) (keeps m m (itself m) (itself m)),
        )

    captures-over : (cs : List Captured) (p : Point) (f : Flow) → AllKnown env around cs f → Below env p (plain f base) → CapturesOver W cs p (plain f base)
    captures-over [] p f known c = c
    captures-over (k ∷ cs) p f (first, more) c =
        (plain f base, gets k.slot k.narrowed k.ty p (plain f base) f base c first (loaded-plain env k.slot p f base c), captures-over cs (plain f base) f more (itself (plain f base)))

    function : (g : AnonymousFunction) (value e : TypedExpr) (t : Shared) (at : Place) (f : Flow) → IsFunctionOf g value t at e
        → AllKnown env around g.captured f → Keeps e f
    function g value e t at f (b, v, is, same, values) known p q c d =
        from-view e (layer.Function b v t at) p q is
        (subst (λ (h : AnonymousFunction). (m : Point) × CapturesOver W h.captured p m × W.does (makes_function h) m q) (sym same)
        (plain f base, captures-over g.captured p f known c, d))

    enclosed : (a e : TypedExpr) (t : Shared) (at : Place) (f g met unmet : Flow) → IsParens a t at e → Leaves a f g met unmet → Leaves e f g met unmet
    enclosed a e t at f g met unmet (o, is, same) leaves p q c d =
        from-view e (layer.Parens o t at) p q is (held o.value a f g met unmet same leaves p q c d)

    pub made-keeps-flow : MadeKeepsFlow env around base
    made-keeps-flow =
        record {
          strict = strict;
          loaded = local;
          tested = tested;
          negated = negated;
          conjoined = conjoined;
          disjoined = disjoined;
          chosen = chosen;
          filled = filled;
          checked = checked;
          trapped = trapped;
          function = function;
          enclosed = enclosed;
        }
