-- Each line of the table of statements leaves one statement, where those of its parts leave what they do.
use Rattle.std.proofs.Common.{◌≤◌, ◌+◌, ℕ, Bool, false, List, Option, None, Some, arith, refl}
use Rattle.std.specs.Global.{Box}
use Rattle.bal_base.specs.declared.place.Place.{Place}
use Rattle.bal_base.specs.declared.text.Name.{Name}
use Rattle.bal_tree.specs.declared.expr.Expr.{Expr}
use Rattle.bal_tree.specs.declared.expr.Postfix.{Postfix}
use Rattle.bal_tree.specs.declared.name.Word.{Word}
use Rattle.bal_tree.specs.declared.stmt.AssignOp.{AssignOp}
use Rattle.bal_tree.specs.declared.stmt.AssignOp.TheVariants as assign
use Rattle.bal_tree.specs.declared.stmt.LocalType.{LocalType}
use Rattle.bal_tree.specs.declared.stmt.LocalType.TheVariants as local
use Rattle.bal_tree.specs.declared.stmt.Pattern.{Pattern}
use Rattle.bal_tree.specs.declared.stmt.Range.{Range}
use Rattle.bal_tree.specs.declared.stmt.Target.{Target}
use Rattle.bal_tree.specs.declared.stmt.Target.TheVariants as target
use Rattle.typed_tree.specs.Listed.{Listed, nothing, one, ◌&◌}
use Rattle.expr_needs.specs.declared.expected.Expected.TheVariants.{Wanted}
use Rattle.expr_needs.specs.declared.kind.Kind.TheVariants as kind
use Rattle.expr_needs.specs.ExprTable.{Reading, against, as_wanted, condition_needs, freely, read_expr, read_postfix}
use Rattle.expr_needs.specs.Needs.{Need, BeginsBlock, EndsBlock, IsNew, MakesIf, Stores, Switches}
use Rattle.stmt_needs.specs.StmtTable.{StmtReading, Within, assignment_needs, clause_needs, declaration_needs, foreach_needs, loop_body_needs, loop_made, loop_type_needs, otherwise_needs, pattern_needs, return_needs, set_needs, stored_needs, through_needs, update_needs, while_needs}
use Rattle.check_laws.specs.Heights.{Heights, ◌⊕◌, parts, wants, sorts, accesses, choices, matches, blocks, with_stmt}
use Rattle.check_laws.proofs.Leading.{Base, Leads, in-turn}
use Rattle.check_laws.proofs.Lines.{One, condition, element, of-any, of-kind}
use Rattle.check_laws.proofs.Trees.{expr-one, postfix-one}

module _ (workers : List Name) (base : Base) where
  abbrev Lead : Heights → Listed Need → Heights → Type 0
  Lead = Leads workers base

  -- ---- what is claimed of readings

  -- there is a block at hand
  abbrev pub IsInBlock : Heights → Type 0
  IsInBlock h = 1 ≤ base.blocks + h.blocks

  -- a statement more in the block at hand
  abbrev pub OneStmt : (Within → Listed Need) → Type 0
  OneStmt needs = (w : Within) (h : Heights) → IsInBlock h → Lead h (needs w) (with_stmt h)

  -- a block more
  abbrev pub OneBlock : (Within → Listed Need) → Type 0
  OneBlock needs = (w : Within) (h : Heights) → Lead h (needs w) (h ⊕ blocks 1)

  -- a clause of the match at hand
  abbrev pub OneClause : (Within → Listed Need) → Type 0
  OneClause needs = (w : Within) (h : Heights) → Lead (h ⊕ matches 1) (needs w) (h ⊕ matches 1)

  -- ---- values

  pub wanted : (a : Reading) → One workers base a → (h : Heights) → Lead (h ⊕ wants 1) (as_wanted a) (h ⊕ (wants 1 ⊕ parts 1))
  wanted a c h = (h ⊕ (wants 1 ⊕ parts 1), c Wanted (h ⊕ wants 1) (omega arith), (h, refl, refl))

  any : (a : Reading) → One workers base a → (h : Heights) → Lead h (freely a) (h ⊕ parts 1)
  any a c h = of-any workers base a c h

  -- ---- declarations and assignments

  pub declaration : (final : Bool) (t : LocalType) (name : Word) (a : Reading) (at : Place) → One workers base a
      → OneStmt (declaration_needs final t name a at)
  declaration final (local.«Type» t) name a at c w h b =
      let k : Heights = h ⊕ wants 1 in
      (h ⊕ (wants 1 ⊕ parts 1), (k, (k, (h, refl, refl), (k, refl, refl)), wanted a c h), (h, refl, refl, b))
  declaration final (local.Var here) name a at c w h b =
      (h ⊕ (wants 1 ⊕ parts 1), (h, (h, refl, refl), (h ⊕ parts 1, any a c h, (h, refl, refl))), (h, refl, refl, b))

  -- a container and what names a member of it, and the type of that
  abbrev Stored : Heights → Heights
  Stored h = h ⊕ (parts 2 ⊕ (accesses 1 ⊕ wants 1))

  stored-index : (a : Box Postfix) (i : Box Expr) (at : Place) (h : Heights) → Lead h (stored_needs (target.Index a i at)) (Stored h)
  stored-index a i at h = (
    h ⊕ (parts 2 ⊕ accesses 1),
    element workers base false (read_postfix a.value) (read_expr i.value) (postfix-one workers base a.value) (expr-one workers base i.value) h,
    (h, refl, refl),
  )

  stored-field : (a : Box Postfix) (field : Word) (at : Place) (h : Heights) → Lead h (stored_needs (target.Field a field at)) (Stored h)
  stored-field a field at h = (
    h ⊕ (parts 2 ⊕ accesses 1),
    (h ⊕ parts 1, of-kind workers base kind.AnyMapping (read_postfix a.value) (postfix-one workers base a.value) h, (h ⊕ parts 1, refl, refl)),
    (h, refl, refl),
  )

  -- a value that is stored
  store : (a : Reading) (at : Place) → One workers base a → (h : Heights) → IsInBlock h → Lead (Stored h) (as_wanted a & one (Stores at)) (with_stmt h)
  store a at c h b = (Stored h ⊕ parts 1, wanted a c (h ⊕ (parts 2 ⊕ accesses 1)), (h, refl, refl, b))

  setting : (t : Target) (a : Reading) (at : Place) → One workers base a → (h : Heights) → IsInBlock h → Lead h (set_needs t a at) (with_stmt h)
  setting (target.Name q) a at c h b = (h ⊕ wants 1, (h, refl, refl), (h ⊕ (wants 1 ⊕ parts 1), wanted a c h, (h, refl, refl, b)))
  setting (target.Index e i there) a at c h b = (Stored h, stored-index e i there h, store a at c h b)
  setting (target.Field e field there) a at c h b = (Stored h, stored-field e field there h, store a at c h b)

  updating : (t : Target) (o : AssignOp) (a : Reading) (at : Place) → One workers base a → (h : Heights) → IsInBlock h
      → Lead h (update_needs t o a at) (with_stmt h)
  updating (target.Name q) o a at c h b =
      let l : Heights = h ⊕ (wants 3 ⊕ sorts 1) in (
        h ⊕ wants 2,
        (h ⊕ wants 1, (h, refl, refl), (h, refl, refl)),
        (l ⊕ parts 1, (l, (h, refl, refl), wanted a c (h ⊕ (wants 2 ⊕ sorts 1))), (h, refl, refl, b)),
      )
  updating (target.Index e i there) o a at c h b =
      let g : Heights = h ⊕ (parts 2 ⊕ accesses 1) in let l : Heights = g ⊕ (wants 3 ⊕ sorts 1) in (
        g ⊕ wants 2,
        (Stored h, stored-index e i there h, (h, refl, refl)),
        (l ⊕ parts 1, (l, (g, refl, refl), wanted a c (g ⊕ (wants 2 ⊕ sorts 1))), (h, refl, refl, b)),
      )
  updating (target.Field e field there) o a at c h b =
      let g : Heights = h ⊕ (parts 2 ⊕ accesses 1) in let l : Heights = g ⊕ (wants 3 ⊕ sorts 1) in (
        g ⊕ wants 2,
        (Stored h, stored-field e field there h, (h, refl, refl)),
        (l ⊕ parts 1, (l, (g, refl, refl), wanted a c (g ⊕ (wants 2 ⊕ sorts 1))), (h, refl, refl, b)),
      )

  pub assignment : (o : AssignOp) (t : Target) (a : Reading) (at : Place) → One workers base a → OneStmt (λ w. assignment_needs o t a at)
  assignment assign.Set t a at c w h b = setting t a at c h b
  assignment assign.Add t a at c w h b = updating t assign.Add a at c h b
  assignment assign.Subtract t a at c w h b = updating t assign.Subtract a at c h b
  assignment assign.Multiply t a at c w h b = updating t assign.Multiply a at c h b
  assignment assign.Divide t a at c w h b = updating t assign.Divide a at c h b

  -- ---- loops

  pub while : (c : Reading) (body : StmtReading) (at : Place) → One workers base c → OneBlock body.needs → OneStmt (λ w. while_needs c body at)
  while c body at cc cb w h b =
      let k : Heights = h ⊕ (parts 1 ⊕ choices 1) in
      (k, (h, (h, refl, refl), condition workers base c cc h), (k ⊕ blocks 1, cb _ k, (h, refl, refl, b)))

  -- the type of the variable, where it is written
  abbrev typed : LocalType → Heights → Heights
  typed (local.«Type» t) h = h ⊕ wants 1
  typed (local.Var at) h = h

  -- a list, or both ends of a range
  abbrev many : Option Range → ℕ
  many None = 1
  many (Some r) = 2

  loop-type : (t : LocalType) (name : Word) (h : Heights) → Lead h (loop_type_needs t & one (IsNew name)) (typed t h)
  loop-type (local.«Type» t) name h = (h ⊕ wants 1, (h, refl, refl), (h ⊕ wants 1, refl, refl))
  loop-type (local.Var at) name h = (h, refl, (h, refl, refl))

  ints : (from : Reading) (r : Range) → One workers base from → (h : Heights)
      → Lead h (against kind.Integer from & against kind.Integer (read_expr r.end.value)) (h ⊕ parts 2)
  ints from r c h = (
    h ⊕ parts 1,
    of-kind workers base kind.Integer from c h,
    of-kind workers base kind.Integer (read_expr r.end.value) (expr-one workers base r.end.value) (h ⊕ parts 1),
  )

  through : (t : LocalType) (from : Reading) (range : Option Range) → One workers base from → (h : Heights)
      → Lead (typed t h) (through_needs t from range) ((h ⊕ parts (many range)) ⊕ wants 1)
  through (local.«Type» t) from None c h = (h ⊕ (parts 1 ⊕ wants 1), of-kind workers base kind.AnyList from c (h ⊕ wants 1), (h, refl, refl))
  through (local.Var at) from None c h = (h ⊕ parts 1, of-kind workers base kind.AnyList from c h, (h, refl, refl))
  through (local.«Type» t) from (Some r) c h = (h ⊕ (parts 2 ⊕ wants 1), ints from r c (h ⊕ wants 1), (h, refl, refl))
  through (local.Var at) from (Some r) c h = (h ⊕ parts 2, ints from r c h, (h, refl, refl))

  loop-body : (name : Word) (body : StmtReading) → OneBlock body.needs → (g : Heights)
      → Lead (g ⊕ wants 1) (loop_body_needs name body) (g ⊕ (choices 1 ⊕ blocks 1))
  loop-body name body c g =
      let k : Heights = g ⊕ wants 1 in
      (g ⊕ (wants 1 ⊕ choices 1), (k, (k, refl, refl), (k, refl, refl)), (g ⊕ choices 1, (g ⊕ choices 1, refl, refl), c _ (g ⊕ choices 1)))

  looped : (range : Option Range) (at : Place) (h : Heights) → IsInBlock h
      → Lead ((h ⊕ parts (many range)) ⊕ (choices 1 ⊕ blocks 1)) (one (loop_made range at)) (with_stmt h)
  looped None at h b = (h, refl, refl, b)
  looped (Some r) at h b = (h, refl, refl, b)

  pub foreach : (t : LocalType) (name : Word) (from : Reading) (range : Option Range) (body : StmtReading) (at : Place) → One workers base from
      → OneBlock body.needs → OneStmt (λ w. foreach_needs t name from range body at)
  foreach t name from range body at cf cb w h b =
      let g : Heights = h ⊕ parts (many range) in
      (g ⊕ wants 1, (typed t h, loop-type t name h, through t from range cf h), (g ⊕ (choices 1 ⊕ blocks 1), loop-body name body cb g, looped range at h b))

  -- ---- branches

  -- where nothing is done, and behind `else if`
  pub no-else : (w : Within) (g : Heights) → Lead g (otherwise_needs None w) (g ⊕ blocks 1)
  no-else w g = (g ⊕ blocks 1, (g, refl, refl), (g, refl, refl))

  pub inner : (needs : Within → Listed Need) → OneStmt needs → OneBlock (λ w. one BeginsBlock & needs w & one EndsBlock)
  inner needs c w h = (h ⊕ blocks 1, (h, refl, refl), (h ⊕ blocks 1, c w (h ⊕ blocks 1) (omega arith), (h, refl, refl)))

  pub choice : (c : Reading) (first : StmtReading) (second : Within → Listed Need) (at : Place) → One workers base c → OneBlock first.needs → OneBlock second
      → OneStmt (λ w. (condition_needs c & first.needs w & one Switches) & (second w & one (MakesIf at)))
  choice c first second at cc cf cs w h b =
      let k : Heights = h ⊕ (parts 1 ⊕ choices 1) in (
        k ⊕ blocks 1,
        (k, condition workers base c cc h, (k ⊕ blocks 1, cf w k, (h ⊕ blocks 1, refl, refl))),
        (k ⊕ blocks 2, cs w (k ⊕ blocks 1), (h, refl, refl, b)),
      )

  -- ---- matches

  pub clause : (ps : List Pattern) (body : StmtReading) (at : Place) → OneBlock body.needs → OneClause (clause_needs ps body at)
  clause ps body at c w h =
      let k : Heights = h ⊕ matches 1 in
      (k, (k, in-turn workers base pattern_needs k (λ p. (h, refl, refl)) ps k nothing refl, (h, refl, refl)), (k ⊕ blocks 1, c w k, (h, refl, refl)))

  -- ---- other statements

  pub returning : (a : Reading) (at : Place) → One workers base a → OneStmt (λ w. return_needs (Some a) at)
  returning a at c w h b = (h ⊕ wants 1, (h, refl, refl), (h ⊕ (wants 1 ⊕ parts 1), wanted a c h, (h, refl, refl, b)))
