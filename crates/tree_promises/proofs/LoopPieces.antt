-- Typed loops and updates of members, of typed parts.
use Rattle.std.proofs.Common.{◌≡◌, ◌++◌, ◌+◌, inl, ℕ, Bool, true, List, [], ◌∷◌, None, Some, pos, negsuc, refl, sym, subst}
use Rattle.std.specs.Prelude.{ℤ}
use Rattle.std.specs.Global.{Box, Vec}
use Rattle.bal_base.specs.declared.place.Place.{Place}
use Rattle.type_model.specs.declared.atoms.AtomDef.{AtomDef}
use Rattle.type_model.specs.declared.basic.SemType.{SemType}
use Rattle.type_model.specs.Inclusion.{HasExactly, Sub}
use Rattle.operations.specs.declared.library.LibraryCall.TheVariants.{ListLength}
use Rattle.operations.specs.declared.operation.Constant.TheVariants as constant
use Rattle.operations.specs.declared.operation.Operation.{Operation}
use Rattle.operations.specs.declared.operation.Operation.TheVariants.{Add, Const, GetItem, Less, LessEqual, Library, Load, Store}
use Rattle.operations.specs.Kinds.{IsBoolean, IsInteger}
use Rattle.operations.specs.Rows.{IsWithin, ResultHas, Surroundings}
use Rattle.operations.specs.Typing.{OpTyped}
use Rattle.typed_tree.specs.declared.expr.TypedExpr.{TypedExpr}
use Rattle.typed_tree.specs.declared.stmt.RangeEnd.TheVariants.{Excluded, Included}
use Rattle.typed_tree.specs.declared.stmt.Source.{Source}
use Rattle.typed_tree.specs.declared.stmt.Source.TheVariants as source
use Rattle.typed_tree.specs.declared.stmt.TypedClause.{TypedClause}
use Rattle.typed_tree.specs.declared.stmt.TypedStmt.{TypedStmt, TypedStmt-F, out-TypedStmt}
use Rattle.typed_tree.specs.declared.stmt.TypedStmt.TheOpen as layer
use Rattle.typed_tree.specs.declared.stmt.UpdateTarget.TheVariants as target
use Rattle.eval_model.specs.Loops.{raises}
use Rattle.eval_model.specs.Tasks.{Loop, OverList, OverRange}
use Rattle.eval_model.specs.Walk.{BeginsOver, BlockOver, LoopOver, OpsOver, PreparesOver, TriesOver, loop_of}
use Rattle.eval_model.specs.Ways.{Turns, Ways}
use Rattle.tree_promises.specs.Layers.{StmtLayerOver}
use Rattle.tree_promises.specs.Made.{sem}
use Rattle.tree_promises.specs.MadeLoops.{Keeps, KeepsInt, MadeLoopIsTyped, Takes}
use Rattle.tree_promises.specs.MadeStmts.{AreTypedStmts, IsTypedStmt, around_stmt}
use Rattle.tree_promises.specs.Types.{DoesTypes, IsTypedExpr, Stack, type_ways}
use Rattle.tree_promises.proofs.Layered.{stmt-by-layer}
use Rattle.tree_promises.proofs.Rows.{const-given, does-row, load-given, store-taken, takes-last, truth-has, truth-is}
use Rattle.tree_promises.proofs.StmtPieces.{ticks}

module _ (env : List AtomDef) (place : Surroundings) where
  abbrev W : Ways Stack
  W = type_ways env place

  abbrev turns : Turns Stack
  turns = record { head = []; exit = [] }

  same : (t : SemType) → Sub env t t
  same t x valid i = i

  -- ---- ints that are kept

  has-int : (t : SemType) → HasExactly env t IsInteger → ResultHas env (Some t) IsInteger
  has-int t h x valid i = (h x valid).1 i

  is-int : (t : SemType) → HasExactly env t IsInteger → IsWithin env IsInteger t
  is-int t h x i = (h x i.0).0 i.1

  int-given : (i : ℤ) (below : Stack) (t : SemType) → HasExactly env t IsInteger → DoesTypes env place (Const (constant.Int i)) below (below ++ t ∷ [])
  int-given i below t h = const-given env place (constant.Int i) below t (λ x valid e. (h x valid).1 (i, e))

  kept : (slot : ℕ) (below : Stack) (t : SemType) → Keeps env place slot t → DoesTypes env place (Load slot) below (below ++ t ∷ [])
  kept slot below t held = load-given env place slot below t t held (same t)

  -- one more, and then what is behind it
  raised : (slot : ℕ) (t : SemType) (ops : List Operation) (q : Stack) → KeepsInt env place slot t → OpsOver W ops [] q → OpsOver W (raises slot ++ ops) [] q
  raised slot t ops q (held, int) rest = (
    t ∷ [],
    kept slot [] t held,
    (
      t ∷ t ∷ [],
      int-given (pos 1) (t ∷ []) t int,
      (
        t ∷ [],
        does-row env place Add [] (t ∷ t ∷ []) t (is-int t int, is-int t int, has-int t int),
        ([], store-taken env place slot [] t t held (same t), rest),
      ),
    ),
  )

  -- both are loaded, and compared
  module _ (truth : SemType) (boolean : HasExactly env truth IsBoolean) (own : ℕ) (next last : SemType) (first : KeepsInt env place own next)
      (second : KeepsInt env place (own + 1) last) where
    less : (ops : List Operation) (q : Stack) → OpsOver W ops (truth ∷ []) q → OpsOver W (Load own ∷ Load (own + 1) ∷ Less ∷ ops) [] q
    less ops q rest = (
      next ∷ [],
      kept own [] next first.0,
      (
        next ∷ last ∷ [],
        kept (own + 1) (next ∷ []) last second.0,
        (truth ∷ [], does-row env place Less [] (next ∷ last ∷ []) truth (inl (is-int next first.1, is-int last second.1, truth-has env place truth boolean)), rest),
      ),
    )

    less-or-same : (ops : List Operation) (q : Stack) → OpsOver W ops (truth ∷ []) q → OpsOver W (Load own ∷ Load (own + 1) ∷ LessEqual ∷ ops) [] q
    less-or-same ops q rest = (
      next ∷ [],
      kept own [] next first.0,
      (
        next ∷ last ∷ [],
        kept (own + 1) (next ∷ []) last second.0,
        (truth ∷ [], does-row env place LessEqual [] (next ∷ last ∷ []) truth (inl (is-int next first.1, is-int last second.1, truth-has env place truth boolean)), rest),
      ),
    )

  -- ---- loops

  looped : (truth : SemType) → HasExactly env truth IsBoolean → (loop : Loop) (body : List TypedStmt) → TriesOver W loop [] (truth ∷ [])
      → PreparesOver W loop [] [] → AreTypedStmts env place true body → LoopOver W loop (λ l. BlockOver W body (Some l)) turns
  looped truth boolean loop body tries prepares typed =
      let taken = takes-last env place [] truth (truth-is env place truth boolean) in
      ([], truth ∷ [], [], [], [], [], ticks env place true, tries, taken, taken, tt, prepares, typed, tt)

  -- the variable takes what is there
  takes-item : (slot : ℕ) (t : SemType) → Takes env place slot t → DoesTypes env place (Store slot) (t ∷ []) []
  takes-item slot t (declared, held, under) = store-taken env place slot [] t declared held under

  module _ (slot own : ℕ) (truth : SemType) (boolean : HasExactly env truth IsBoolean) where
    list-begins : (list : Box TypedExpr) (t int : SemType) → IsTypedExpr env place list.value → Keeps env place own t → Sub env (sem list.value) t
        → KeepsInt env place (own + 1) int → BeginsOver W (source.List own list) [] []
    list-begins list t int typed held under (index, is) = (
      sem list.value ∷ [],
      typed [],
      (
        [],
        store-taken env place own [] (sem list.value) t held under,
        (int ∷ [], int-given (negsuc 0) [] int is, ([], store-taken env place (own + 1) [] int int index (same int), tt)),
      ),
    )

    list-tries : (t int : SemType) → Keeps env place own t → KeepsInt env place (own + 1) int → OpTyped env place (Library ListLength None 1) (t ∷ []) (Some int)
        → TriesOver W (OverList slot own []) [] (truth ∷ [])
    list-tries t int held (index, is) row =
        raised (own + 1) int (Load (own + 1) ∷ Load own ∷ Library ListLength None 1 ∷ Less ∷ []) (truth ∷ []) (index, is) (
          int ∷ [],
          kept (own + 1) [] int index,
          (
            int ∷ t ∷ [],
            kept own (int ∷ []) t held,
            (
              int ∷ int ∷ [],
              does-row env place (Library ListLength None 1) (int ∷ []) (t ∷ []) int row,
              (
                truth ∷ [],
                does-row env place Less [] (int ∷ int ∷ []) truth (inl (is-int int is, is-int int is, truth-has env place truth boolean)),
                ((λ x i. i.1), tt),
              ),
            ),
          ),
        )

    list-prepares : (t int item : SemType) → Keeps env place own t → KeepsInt env place (own + 1) int → OpTyped env place GetItem (t ∷ int ∷ []) (Some item)
        → Takes env place slot item → PreparesOver W (OverList slot own []) [] []
    list-prepares t int item held (index, is) row takes = (
      t ∷ [],
      kept own [] t held,
      (
        t ∷ int ∷ [],
        kept (own + 1) (t ∷ []) int index,
        (item ∷ [], does-row env place GetItem [] (t ∷ int ∷ []) item row, ([], takes-item slot item takes, tt)),
      ),
    )

    module _ (from to : Box TypedExpr) (next last : SemType) (first : KeepsInt env place own next) (second : KeepsInt env place (own + 1) last)
        (typed : IsTypedExpr env place from.value) (ended : IsTypedExpr env place to.value) (under : Sub env (sem from.value) next) (over : Sub env (sem to.value) last)
        (takes : Takes env place slot next) where
      below-begins : BeginsOver W (source.Range own Excluded from to) [] []
      below-begins = (
        sem from.value ∷ [],
        [],
        sem to.value ∷ [],
        typed [],
        store-taken env place own [] (sem from.value) next first.0 under,
        ended [],
        store-taken env place (own + 1) [] (sem to.value) last second.0 over,
      )

      below-tries : TriesOver W (OverRange Excluded slot own []) [] (truth ∷ [])
      below-tries = less truth boolean own next last first second [] (truth ∷ []) ((λ x i. i.1), tt)

      below-prepares : PreparesOver W (OverRange Excluded slot own []) [] []
      below-prepares = (next ∷ [], kept own [] next first.0, ([], takes-item slot next takes, raised own next [] [] first tt))

      module _ (left : Keeps env place (own + 2) truth) where
        -- whether one is left is kept
        keeps-left : DoesTypes env place (Store (own + 2)) (truth ∷ []) []
        keeps-left = store-taken env place (own + 2) [] truth truth left (same truth)

        through-begins : BeginsOver W (source.Range own Included from to) [] []
        through-begins = (
          sem from.value ∷ [],
          [],
          sem to.value ∷ [],
          [],
          typed [],
          store-taken env place own [] (sem from.value) next first.0 under,
          ended [],
          store-taken env place (own + 1) [] (sem to.value) last second.0 over,
          less-or-same truth boolean own next last first second (Store (own + 2) ∷ []) [] ([], keeps-left, tt),
        )

        through-tries : TriesOver W (OverRange Included slot own []) [] (truth ∷ [])
        through-tries = (truth ∷ [], kept (own + 2) [] truth left, ((λ x i. i.1), tt))

        through-prepares : PreparesOver W (OverRange Included slot own []) [] []
        through-prepares =
            let taken = takes-last env place [] truth (truth-is env place truth boolean) in (
              truth ∷ [],
              (
                next ∷ [],
                kept own [] next first.0,
                (
                  [],
                  takes-item slot next takes,
                  less truth boolean own next last first second (Store (own + 2) ∷ Load (own + 2) ∷ []) (truth ∷ [])
                      ([], keeps-left, (truth ∷ [], kept (own + 2) [] truth left, ((λ x i. i.1), tt))),
                ),
              ),
              ([], [], [], [], taken, raised own next [] [] first tt, tt, taken, tt, tt),
            )

  -- ---- statements

  module _ (inside : Bool) where
    foreach : (slot : ℕ) (over : Source) (body : Vec TypedStmt) (at : Place) → BeginsOver W over [] []
        → LoopOver W (loop_of W slot over) (λ l. BlockOver W body.items (Some l)) turns → StmtLayerOver W (layer.Foreach slot over body at) (around_stmt inside) [] []
    foreach slot over body at begins loop = ([], turns, begins, tt, loop, tt)

    pub made-loop-is-typed : (truth : SemType) (s : TypedStmt) (at : Place) → MadeLoopIsTyped env place truth inside s at
    made-loop-is-typed truth s at =
        record {
          over_list = λ slot own list body t int item boolean is typed held under index row get takes stmts.
              view (layer.Foreach slot (source.List own list) body at) is
              (foreach slot (source.List own list) body at (list-begins slot own truth boolean list t int typed held under index)
              (looped truth boolean (OverList slot own []) body.items (list-tries slot own truth boolean t int held index row) (list-prepares slot own truth boolean t int item held index get takes) stmts));
          below_end = λ slot own from to body next last boolean is typed ended first under second over takes stmts.
              view (layer.Foreach slot (source.Range own Excluded from to) body at) is
              (foreach slot (source.Range own Excluded from to) body at
              (below-begins slot own truth boolean from to next last first second typed ended under over takes)
              (looped truth boolean (OverRange Excluded slot own []) body.items
              (below-tries slot own truth boolean from to next last first second typed ended under over takes)
              (below-prepares slot own truth boolean from to next last first second typed ended under over takes) stmts));
          through_end = λ slot own from to body next last boolean is typed ended first under second over left takes stmts.
              view (layer.Foreach slot (source.Range own Included from to) body at) is
              (foreach slot (source.Range own Included from to) body at
              (through-begins slot own truth boolean from to next last first second typed ended under over takes left)
              (looped truth boolean (OverRange Included slot own []) body.items
              (through-tries slot own truth boolean from to next last first second typed ended under over takes left)
              (through-prepares slot own truth boolean from to next last first second typed ended under over takes left) stmts));
          member_updated = λ own how container key t op value held named read r is first second third keeps under index over reads leads sets.
              view (layer.Update (target.Member own how container key t) op value at) is (
                sem container.value ∷ [],
                [],
                sem key.value ∷ [],
                [],
                held ∷ named ∷ read ∷ [],
                held ∷ named ∷ read ∷ sem value.value ∷ [],
                held ∷ named ∷ r ∷ [],
                first [],
                store-taken env place own [] (sem container.value) held keeps under,
                second [],
                store-taken env place (own + 1) [] (sem key.value) named index over,
                (held ∷ [], kept own [] held keeps, (held ∷ named ∷ [], kept (own + 1) (held ∷ []) named index, reads (held ∷ named ∷ []))),
                third (held ∷ named ∷ read ∷ []),
                leads (held ∷ named ∷ []),
                record { below = []; operands = held ∷ named ∷ r ∷ []; result = None; are = refl; row = sets; behind = λ goes. tt },
              );
        }
      where
        view : (l : TypedStmt-F TypedStmt TypedClause) → out-TypedStmt s ≡ l → StmtLayerOver W l (around_stmt inside) [] [] → IsTypedStmt env place inside s
        view l is way = stmt-by-layer W s (around_stmt inside) [] [] (subst (λ k. StmtLayerOver W k (around_stmt inside) [] []) (sym is) way)
