-- What loops over lists and ranges, and assignments with an operator, leave of the flow.
use Rattle.std.proofs.Common.{◌≡◌, ◌++◌, ◌+◌, inl, inr, ℕ, List, [], ◌∷◌, None, Option, Some, pos, negsuc, refl, sym, subst}
use Rattle.std.specs.Prelude.{⊤}
use Rattle.bal_base.specs.declared.place.Place.{Place}
use Rattle.type_model.specs.declared.atoms.AtomDef.{AtomDef}
use Rattle.type_model.specs.declared.basic.SemType.{SemType}
use Rattle.operations.specs.declared.library.LibraryCall.TheVariants.{ListLength}
use Rattle.operations.specs.declared.operation.Constant.TheVariants as constant
use Rattle.operations.specs.declared.operation.Operation.{Operation}
use Rattle.operations.specs.declared.operation.Operation.TheVariants.{Add, Const, GetChar, GetField, GetItem, GetKey, GetOptional, Less, LessEqual, Library, Load, Not, Store}
use Rattle.typed_tree.specs.declared.form.Operator.{Operator}
use Rattle.typed_tree.specs.declared.form.Operator.TheVariants as operator
use Rattle.typed_tree.specs.declared.form.Read.{Read}
use Rattle.typed_tree.specs.declared.form.Read.TheVariants as read
use Rattle.typed_tree.specs.declared.stmt.RangeEnd.TheVariants.{Excluded, Included}
use Rattle.typed_tree.specs.declared.stmt.Source.TheVariants as source
use Rattle.typed_tree.specs.declared.stmt.TypedClause.{TypedClause}
use Rattle.typed_tree.specs.declared.stmt.TypedStmt.{TypedStmt, TypedStmt-F, out-TypedStmt}
use Rattle.typed_tree.specs.declared.stmt.TypedStmt.TheOpen as layer
use Rattle.typed_tree.specs.declared.stmt.UpdateTarget.TheVariants as target
use Rattle.held_operations.specs.Constructs.{operator_operations}
use Rattle.eval_model.specs.Loops.{raises}
use Rattle.eval_model.specs.Statements.{reads_member, sets_member}
use Rattle.eval_model.specs.Tasks.{Loop, OverList, OverRange}
use Rattle.eval_model.specs.Walk.{BlockOver, LoopOver, OpsOver, PreparesOver, StmtOver, TriesOver}
use Rattle.eval_model.specs.Ways.{Ways}
use Rattle.tree_promises.specs.Flows.{Around, DoesFlow, flow_ways}
use Rattle.tree_promises.specs.Known.{Below, Flow, FlowBelow, HasSome, Point, plain, set_in, told}
use Rattle.tree_promises.specs.Layers.{StmtLayerOver}
use Rattle.tree_promises.specs.MadeFlows.{OpKeeps, OpsKeep}
use Rattle.tree_promises.specs.MadeLoopFlows.{Holds, IsDeclared, MadeLoopKeepsFlow, MadeUpdateKeepsFlow}
use Rattle.tree_promises.specs.MadeStmtFlows.{BlockLeaves, LoopFlow, loop_points, turns_of}
use Rattle.tree_promises.proofs.FlowPieces.{gets, ops-over}
use Rattle.tree_promises.proofs.Layered.{stmt-by-layer}
use Rattle.tree_promises.proofs.Order.{below-itself, below-then}
use Rattle.tree_promises.proofs.Sets.{loaded-plain, plain-wider, said-plain}

module _ (env : List AtomDef) (around : Around) where
  abbrev W : Ways Point
  W = flow_ways env around

  abbrev at : Flow → Point
  at f = plain f None

  itself : (p : Point) → Below env p p
  itself = below-itself env

  wider : (f g : Flow) (q : Point) → FlowBelow env f g → Below env (at g) q → Below env (at f) q
  wider f g q c d = below-then env (at f) (at g) q (plain-wider env f g None c) d

  -- ---- operations one behind another, from where just this is known

  abbrev Ops : List Operation → Flow → Flow → Type 0
  Ops ops f g = (q : Point) → Below env (at g) q → OpsOver W ops (at f) q

  ops-end : (f : Flow) → Ops [] f f
  ops-end f q d = d

  holds-some : (slot : ℕ) (f : Flow) → Holds slot f → HasSome env (λ s. ⊤) slot f
  holds-some slot None h = tt
  holds-some slot (Some ks) h = inr h

  ops-load : (slot : ℕ) (ops : List Operation) (f g : Flow) → Holds slot f → Ops ops f g → Ops (Load slot ∷ ops) f g
  ops-load slot ops f g h rest q d = (at f, (holds-some slot f h, loaded-plain env slot (at f) f None (itself (at f))), rest q d)

  ops-keep : (op : Operation) (ops : List Operation) (f g : Flow) → DoesFlow env around op (at f) (at f) → Ops ops f g → Ops (op ∷ ops) f g
  ops-keep op ops f g keeps rest q d = (at f, keeps, rest q d)

  ops-store : (slot : ℕ) (t : SemType) (ops : List Operation) (f g : Flow) → IsDeclared around slot t → Ops ops (set_in slot t f) g → Ops (Store slot ∷ ops) f g
  ops-store slot t ops f g held rest q d = (at (set_in slot t f), (tt, t, held, itself (at (set_in slot t f))), rest q d)

  raised : (slot : ℕ) (t : SemType) (ops : List Operation) (f g : Flow) → Holds slot f → IsDeclared around slot t → Ops ops (set_in slot t f) g → Ops (raises slot ++ ops) f g
  raised slot t ops f g h held rest =
      ops-load slot (Const (constant.Int (pos 1)) ∷ Add ∷ Store slot ∷ ops) f g h
      (ops-keep (Const (constant.Int (pos 1))) (Add ∷ Store slot ∷ ops) f g (itself (at f))
      (ops-keep Add (Store slot ∷ ops) f g (itself (at f)) (ops-store slot t ops f g held rest)))

  -- ---- what says nothing of variables

  -- whatever waits
  keeps-plain : (f : Flow) (p q : Point) → Below env p (at f) → Below env (at f) q → Below env (plain p.flow p.base) q
  keeps-plain f p q c d = below-then env (plain p.flow p.base) (at f) q (said-plain env p f None c) d

  -- the ways of a condition that says nothing are exchanged
  keeps-not : (f : Flow) → OpKeeps env around None f Not
  keeps-not f p q c d =
      below-then env (told p.on_false p.on_true p) (at f) q
      (record { flow = c.flow; on_true = c.on_false; on_false = c.on_true; of = inl refl; twin = inl refl; base = c.base }) d

  operator-keeps : (op : Operator) (f : Flow) → OpsKeep env around None (operator_operations op) f
  operator-keeps operator.Negate f = (keeps-plain f, tt)
  operator-keeps operator.Not f = (keeps-not f, tt)
  operator-keeps operator.Multiply f = (keeps-plain f, tt)
  operator-keeps operator.Divide f = (keeps-plain f, tt)
  operator-keeps operator.Remainder f = (keeps-plain f, tt)
  operator-keeps operator.Add f = (keeps-plain f, tt)
  operator-keeps operator.Concat f = (keeps-plain f, tt)
  operator-keeps operator.Subtract f = (keeps-plain f, tt)
  operator-keeps operator.Less f = (keeps-plain f, tt)
  operator-keeps operator.LessEqual f = (keeps-plain f, tt)
  operator-keeps operator.Greater f = (keeps-plain f, (keeps-not f, tt))
  operator-keeps operator.GreaterEqual f = (keeps-plain f, (keeps-not f, tt))
  operator-keeps operator.Equal f = (keeps-plain f, tt)
  operator-keeps operator.NotEqual f = (keeps-plain f, (keeps-not f, tt))
  operator-keeps operator.Same f = (keeps-plain f, tt)
  operator-keeps operator.NotSame f = (keeps-plain f, (keeps-not f, tt))

  operated : (op : Operator) (f : Flow) → OpsOver W (operator_operations op) (at f) (at f)
  operated op f = ops-over env around None (operator_operations op) (at f) (at f) f (operator-keeps op f) (itself (at f)) (itself (at f))

  -- a member is read by both of what is kept, or by the first alone
  by-both : (op : Operation) (own : ℕ) (f : Flow) → DoesFlow env around op (at f) (at f) → Holds own f → Holds (own + 1) f → Ops (Load own ∷ Load (own + 1) ∷ op ∷ []) f f
  by-both op own f keeps h k =
      ops-load own (Load (own + 1) ∷ op ∷ []) f f h (ops-load (own + 1) (op ∷ []) f f k (ops-keep op [] f f keeps (ops-end f)))

  by-first : (op : Operation) (own : ℕ) (f : Flow) → DoesFlow env around op (at f) (at f) → Holds own f → Ops (Load own ∷ op ∷ []) f f
  by-first op own f keeps h = ops-load own (op ∷ []) f f h (ops-keep op [] f f keeps (ops-end f))

  member-read : (how : Read) (own : ℕ) (f : Flow) → Holds own f → Holds (own + 1) f → Ops (reads_member how own) f f
  member-read read.Item own f h k = by-both GetItem own f (itself (at f)) h k
  member-read read.Key own f h k = by-both GetKey own f (itself (at f)) h k
  member-read read.Char own f h k = by-both GetChar own f (itself (at f)) h k
  member-read (read.Field name) own f h k = by-first (GetField name) own f (itself (at f)) h
  member-read (read.OptionalField name) own f h k = by-first (GetOptional name) own f (itself (at f)) h

  member-set : (how : Read) (f : Flow) (q : Point) → Below env (at f) q → W.does (sets_member how) (at f) q
  member-set read.Item f q d = d
  member-set read.Key f q d = d
  member-set read.Char f q d = d
  member-set (read.Field name) f q d = d
  member-set (read.OptionalField name) f q d = d

  -- ---- loops

  -- each turn leads back to the head, and what is known where it is tried is known behind the loop
  looped : (turning : Loop) (body : List TypedStmt) (l : LoopFlow) (tried begun i : Flow) → TriesOver W turning (at l.head) (at tried)
      → PreparesOver W turning (at tried) (at begun) → BlockLeaves env around (Some l) body begun i → FlowBelow env i l.head → FlowBelow env tried l.exit
      → LoopOver W turning (λ k. BlockOver W body (Some k)) (turns_of l)
  looped turning body l tried begun i tries prepares turn again out = (
    at l.head,
    at tried,
    at tried,
    at tried,
    at begun,
    at i,
    itself (at l.head),
    tries,
    itself (at tried),
    itself (at tried),
    plain-wider env tried l.exit None out,
    prepares,
    turn (at begun) (at i) (itself (at begun)) (itself (at i)),
    plain-wider env i l.head None again,
  )

  list-tries : (slot own : ℕ) (int : SemType) (f : Flow) → IsDeclared around (own + 1) int → Holds (own + 1) f → Holds own (set_in (own + 1) int f)
      → Holds (own + 1) (set_in (own + 1) int f) → TriesOver W (OverList slot own []) (at f) (at (set_in (own + 1) int f))
  list-tries slot own int f declared h k index =
      let g : Flow = set_in (own + 1) int f in
      raised (own + 1) int (Load (own + 1) ∷ Load own ∷ Library ListLength None 1 ∷ Less ∷ []) f g h declared
      (ops-load (own + 1) (Load own ∷ Library ListLength None 1 ∷ Less ∷ []) g g index
      (ops-load own (Library ListLength None 1 ∷ Less ∷ []) g g k
      (ops-keep (Library ListLength None 1) (Less ∷ []) g g (itself (at g)) (ops-keep Less [] g g (itself (at g)) (ops-end g)))))
      (at g) (itself (at g))

  list-prepares : (slot own : ℕ) (item : SemType) (g : Flow) → IsDeclared around slot item → Holds own g → Holds (own + 1) g
      → PreparesOver W (OverList slot own []) (at g) (at (set_in slot item g))
  list-prepares slot own item g declared h k =
      let e : Flow = set_in slot item g in
      ops-load own (Load (own + 1) ∷ GetItem ∷ Store slot ∷ []) g e h
      (ops-load (own + 1) (GetItem ∷ Store slot ∷ []) g e k
      (ops-keep GetItem (Store slot ∷ []) g e (itself (at g)) (ops-store slot item [] g e declared (ops-end e))))
      (at e) (itself (at e))

  below-tries : (slot own : ℕ) (f : Flow) → Holds own f → Holds (own + 1) f → TriesOver W (OverRange Excluded slot own []) (at f) (at f)
  below-tries slot own f h k =
      ops-load own (Load (own + 1) ∷ Less ∷ []) f f h
      (ops-load (own + 1) (Less ∷ []) f f k (ops-keep Less [] f f (itself (at f)) (ops-end f))) (at f) (itself (at f))

  below-prepares : (slot own : ℕ) (item next : SemType) (f : Flow) → IsDeclared around slot item → IsDeclared around own next → Holds own f
      → Holds own (set_in slot item f) → PreparesOver W (OverRange Excluded slot own []) (at f) (at (set_in own next (set_in slot item f)))
  below-prepares slot own item next f declared held h k =
      let g : Flow = set_in slot item f in let e : Flow = set_in own next g in
      ops-load own (Store slot ∷ raises own) f e h (ops-store slot item (raises own) f e declared (raised own next [] g e k held (ops-end e)))
      (at e) (itself (at e))

  through-tries : (slot own : ℕ) (f : Flow) → Holds (own + 2) f → TriesOver W (OverRange Included slot own []) (at f) (at f)
  through-tries slot own f h = ops-load (own + 2) [] f f h (ops-end f) (at f) (itself (at f))

  -- the last one isn't raised
  module _ (slot own : ℕ) (item next left : SemType) (f u : Flow) (declared : IsDeclared around slot item) (held : IsDeclared around own next)
      (kept : IsDeclared around (own + 2) left) where
    abbrev taken : Flow
    taken = set_in slot item f

    abbrev compared : Flow
    compared = set_in (own + 2) left taken

    through-prepares : Holds own f → Holds own taken → Holds (own + 1) taken → Holds own compared → Holds (own + 2) compared
        → FlowBelow env (set_in own next compared) u → FlowBelow env compared u → PreparesOver W (OverRange Included slot own []) (at f) (at u)
    through-prepares a b k x y raises-below under =
        let m : Point = at compared in let e : Flow = set_in own next compared in (
          m,
          ops-load own (Store slot ∷ Load own ∷ Load (own + 1) ∷ Less ∷ Store (own + 2) ∷ Load (own + 2) ∷ []) f compared a
              (ops-store slot item (Load own ∷ Load (own + 1) ∷ Less ∷ Store (own + 2) ∷ Load (own + 2) ∷ []) f compared declared
              (ops-load own (Load (own + 1) ∷ Less ∷ Store (own + 2) ∷ Load (own + 2) ∷ []) taken compared b
              (ops-load (own + 1) (Less ∷ Store (own + 2) ∷ Load (own + 2) ∷ []) taken compared k
              (ops-keep Less (Store (own + 2) ∷ Load (own + 2) ∷ []) taken compared (itself (at taken))
              (ops-store (own + 2) left (Load (own + 2) ∷ []) taken compared kept (ops-load (own + 2) [] compared compared y (ops-end compared)))))))
              m (itself m),
          (m, at e, m, m, itself m, raised own next [] compared e x held (ops-end e) (at e) (itself (at e)), plain-wider env e u None raises-below, itself m, itself m, plain-wider env compared u None under),
        )

  module _ (loop : Option LoopFlow) where
    view : (s : TypedStmt) (l : TypedStmt-F TypedStmt TypedClause) → out-TypedStmt s ≡ l → (p q : Point) → StmtLayerOver W l (loop_points loop) p q
        → StmtOver W s (loop_points loop) p q
    view s l is p q way = stmt-by-layer W s (loop_points loop) p q (subst (λ k. StmtLayerOver W k (loop_points loop) p q) (sym is) way)

    pub made-loop-keeps-flow : (s : TypedStmt) (here : Place) → MadeLoopKeepsFlow env around loop s here
    made-loop-keeps-flow s here =
        record {
          over_list = λ slot own list body t int item f g i h l is leaves held index declared begins a b x y turn again out behind p q c d.
              let m : Point = at (set_in (own + 1) int (set_in own t g)) in
              view s (layer.Foreach slot (source.List own list) body here) is p q (
                m,
                turns_of l,
                (
                  at g,
                  leaves p (at g) c (itself (at g)),
                  ops-store own t (Const (constant.Int (negsuc 0)) ∷ Store (own + 1) ∷ []) g (set_in (own + 1) int (set_in own t g)) held
                      (ops-keep (Const (constant.Int (negsuc 0))) (Store (own + 1) ∷ []) (set_in own t g) (set_in (own + 1) int (set_in own t g)) (itself (at (set_in own t g)))
                      (ops-store (own + 1) int [] (set_in own t g) (set_in (own + 1) int (set_in own t g)) index (ops-end (set_in (own + 1) int (set_in own t g)))))
                      m (itself m),
                ),
                plain-wider env (set_in (own + 1) int (set_in own t g)) l.head None begins,
                looped (OverList slot own []) body.items l (set_in (own + 1) int l.head) (set_in slot item (set_in (own + 1) int l.head)) i
                    (list-tries slot own int l.head index b x y) (list-prepares slot own item (set_in (own + 1) int l.head) declared x y) turn again out,
                wider l.exit h q behind d,
              );
          below_end = λ slot own from to body next last item f g j i h l is first second held bound declared begins a b x turn again out behind p q c d.
              let m : Point = at (set_in (own + 1) last j) in
              view s (layer.Foreach slot (source.Range own Excluded from to) body here) is p q (
                m,
                turns_of l,
                (
                  at g,
                  at (set_in own next g),
                  at j,
                  first p (at g) c (itself (at g)),
                  (tt, next, held, itself (at (set_in own next g))),
                  second (at (set_in own next g)) (at j) (itself (at (set_in own next g))) (itself (at j)),
                  (tt, last, bound, itself m),
                ),
                plain-wider env (set_in (own + 1) last j) l.head None begins,
                looped (OverRange Excluded slot own []) body.items l l.head (set_in own next (set_in slot item l.head)) i (below-tries slot own l.head a b)
                    (below-prepares slot own item next l.head declared held a x) turn again out,
                wider l.exit h q behind d,
              );
          through_end = λ slot own from to body next last left item f g j u i h l is first second held bound kept declared n m begins o a b k x y raises-below under turn again out behind p q c d.
              let z : Flow = set_in (own + 1) last j in let w : Flow = set_in (own + 2) left z in
              view s (layer.Foreach slot (source.Range own Included from to) body here) is p q (
                at w,
                turns_of l,
                (
                  at g,
                  at (set_in own next g),
                  at j,
                  at z,
                  first p (at g) c (itself (at g)),
                  (tt, next, held, itself (at (set_in own next g))),
                  second (at (set_in own next g)) (at j) (itself (at (set_in own next g))) (itself (at j)),
                  (tt, last, bound, itself (at z)),
                  ops-load own (Load (own + 1) ∷ LessEqual ∷ Store (own + 2) ∷ []) z w n
                      (ops-load (own + 1) (LessEqual ∷ Store (own + 2) ∷ []) z w m
                      (ops-keep LessEqual (Store (own + 2) ∷ []) z w (itself (at z)) (ops-store (own + 2) left [] z w kept (ops-end w)))) (at w) (itself (at w)),
                ),
                plain-wider env w l.head None begins,
                looped (OverRange Included slot own []) body.items l l.head u i (through-tries slot own l.head o)
                    (through-prepares slot own item next left l.head u declared held kept a b k x y raises-below under) turn again out,
                wider l.exit h q behind d,
              );
        }

    pub made-update-keeps-flow : (s : TypedStmt) (here : Place) → MadeUpdateKeepsFlow env around loop s here
    made-update-keeps-flow s here =
        record {
          of_local = λ slot narrow t op value declared f g h is known leaves held under p q c d.
              view s (layer.Update (target.Local slot narrow t) op value here) is p q (
                at f,
                at g,
                at g,
                gets env around slot narrow t p (at f) f None c known (loaded-plain env slot p f None c),
                leaves (at f) (at g) (itself (at f)) (itself (at g)),
                operated op g,
                (tt, declared, held, wider (set_in slot declared g) h q under d),
              );
          of_variable = λ x op value f g h is leaves under p q c d.
              view s (layer.Update (target.Variable x) op value here) is p q (
                at f,
                at g,
                at g,
                keeps-plain f p (at f) c (itself (at f)),
                leaves (at f) (at g) (itself (at f)) (itself (at g)),
                operated op g,
                wider g h q under d,
              );
          of_member = λ own how container key t op value held named f g j k h is first second keeps index a b third under p q c d.
              let o : Flow = set_in own held g in let e : Flow = set_in (own + 1) named j in
              view s (layer.Update (target.Member own how container key t) op value here) is p q (
                at g,
                at o,
                at j,
                at e,
                at e,
                at k,
                at k,
                first p (at g) c (itself (at g)),
                (tt, held, keeps, itself (at o)),
                second (at o) (at j) (itself (at o)) (itself (at j)),
                (tt, named, index, itself (at e)),
                ops-load own (Load (own + 1) ∷ reads_member how own) e e a (ops-load (own + 1) (reads_member how own) e e b (member-read how own e a b)) (at e) (itself (at e)),
                third (at e) (at k) (itself (at e)) (itself (at k)),
                operated op k,
                member-set how k q (wider k h q under d),
              );
        }
