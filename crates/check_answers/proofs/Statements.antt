-- Statements: two runs of each need agree, but for branches and loops.
use Rattle.std.proofs.Common.{◌≡◌, ◌++◌, ℕ, Bool, List, [], ◌∷◌, length, Some, None, refl, sym, subst, ap, ◌∙◌}
use Rattle.std.specs.List.{AllZip}
use Rattle.bal_base.specs.declared.fault.FaultCode.TheVariants.{AssignFinal, Ignored, NameAsValue, Unknown}
use Rattle.bal_base.specs.declared.place.Place.{Place}
use Rattle.bal_base.specs.declared.text.Name.{Name}
use Rattle.bal_tree.specs.declared.name.QualifiedName.{QualifiedName}
use Rattle.checks.specs.Checks.{gives_some}
use Rattle.descriptors.specs.declared.names.Meaning.{Meaning}
use Rattle.descriptors.specs.declared.names.Meaning.TheVariants as meaning
use Rattle.descriptors.specs.declared.names.Names.{Names}
use Rattle.descriptors.specs.Described.{IsCopy}
use Rattle.flow_narrowing.specs.declared.flow.Flow.{Flow}
use Rattle.flow_narrowing.specs.declared.flow.Variable.{Variable}
use Rattle.type_model.specs.declared.answers.TypeLimit.{TypeLimit}
use Rattle.type_model.specs.declared.atoms.AtomDef.{AtomDef}
use Rattle.type_model.specs.declared.basic.Ty.{Ty}
use Rattle.type_model.specs.Calls.{Asked}
use Rattle.typed_tree.specs.declared.expr.TypedExpr.{TypedExpr}
use Rattle.typed_tree.specs.declared.stmt.PerformForm.{PerformForm}
use Rattle.typed_tree.specs.declared.stmt.PerformForm.TheVariants as perform
use Rattle.typed_tree.specs.declared.stmt.TypedStmt.{TypedStmt}
use Rattle.typed_tree.specs.Listed.{Listed}
use Rattle.typed_tree.specs.SharedTypes.{Shared}
use Rattle.expr_needs.specs.declared.kind.Kind.TheVariants as kind
use Rattle.check_words.specs.declared.access.Access.{Access}
use Rattle.check_words.specs.declared.access.Access.TheVariants.{Char, Item, Key}
use Rattle.check_words.specs.Seen.{Seen, SeenMeaning}
use Rattle.check_words.specs.State.{BlockAtWork, outside, shared_now, with_variable}
use Rattle.check_words.specs.Statements.{Assigned, AssignsModule, AssignsVariable, IsAssigned, adds_stmt, assigned_by, assigns, assigns_to, begins_block, breaks, closes_block, continues, declares, ends_block, is_assignable, is_ignorable, last_block, local_variable, makes_block, meaning_assignable, nil_is_result, performs, reads_assigned, reads_name, returns, returns_nil, seen_assignable, stops, store_form, stores, takes_part, takes_want, variable_assignable}
use Rattle.check_words.specs.StmtViews.{IsBlock, IsPerform, IsSet}
use Rattle.check_words.specs.Words.{Atoms, changes_flow, sem, wants_some}
use Rattle.check_answers.specs.Pieces as say
use Rattle.check_answers.specs.Pieces.{Piece, SamePieces, expr_pieces, stmt_pieces, stmts_pieces}
use Rattle.check_answers.specs.TwinStates.{BlockTwins, FlowTwins, PartTwins, SharedTwins, StmtTwins, VariableTwins}
use Rattle.check_answers.specs.TwinTypes.{TwinAtoms, TwinTypes}
use Rattle.check_answers.proofs.Leading.{Any2, Leads, Pairs, leads-becomes, leads-either, leads-fails, leads-gives, leads-nothing, leads-over, leads-some, leads-then, leads-unless}
use Rattle.check_answers.proofs.Meanings.{copies-twin, itself-twin, kinds-twin}
use Rattle.check_answers.proofs.MemberReads.{takes-access-leads}
use Rattle.check_answers.proofs.Narrowing.{flow-retyped-at}
use Rattle.check_answers.proofs.Questions.{Before, Behind, D, Equal, before-atoms, below-leads, whether-kind-leads}
use Rattle.check_answers.proofs.SameTrees.{joined-same, whole-same}
use Rattle.check_answers.proofs.Seeing.{SeenTwins, by-seen, looks-up-leads, now-twins}
use Rattle.check_answers.proofs.Setting.{with-blocks}
use Rattle.check_answers.proofs.StmtWriting.{block-written, break-written, continue-written, nil-written, perform-written, return-written, set-written}
use Rattle.check_answers.proofs.Values.{drops-want-leads, uses-leads, wants-some-weak, wants-weak}
use Rattle.check_answers.proofs.Words.{At, changes-flow-leads, flow-leads, new-slot-leads, no-more-leads, part-leads, takes-leads, unit-leads, wanted-leads}
use Rattle.check_answers.proofs.Zips.{zip-but, zip-last, zip-long, zip-map, zip-one, zip-other, zip-take}

-- what is written alike by what is written of each
pub pieces-equal : (D : Ty → Ty → Type 0) (p q r s : Listed Piece) → r ≡ p → s ≡ q → SamePieces D p q → SamePieces D r s
pieces-equal D p q r s e f h = subst (λ k. SamePieces D k s) (sym e) (subst (SamePieces D p) (sym f) h)

module _ (m n : Atoms) where
  abbrev B : Pairs
  B = Before m n

  abbrev A : Pairs
  A = Behind m n

  abbrev E : Ty → Ty → Type 0
  E = D m n

  -- ---- blocks

  module _ (R : Ty → Ty → Type 0) where
    abbrev F : Pairs
    F = At m n E R

    pub block-leads : Leads F F (BlockTwins E) last_block last_block
    block-leads = leads-some F _ _ _ (λ s t a b p x y. zip-last (BlockTwins E) s.blocks t.blocks a b p.states.blocks x y)

    pub closes-block-leads : Leads F F (BlockTwins E) closes_block closes_block
    closes-block-leads =
        leads-then F F F _ _ _ _ _ _ block-leads
        (λ b c h. leads-then F F F Any2 _ _ _ _ _
        (leads-becomes F F _ _ (λ s t p. record {
          first = p.first;
          second = p.second;
          states = with-blocks E R s t p.states _ _ (zip-but (BlockTwins E) 1 s.blocks t.blocks p.states.blocks);
        }))
        (λ x y k. leads-gives F _ b c h))

    with-stmt : (b c : BlockAtWork) (s t : TypedStmt) → BlockTwins E b c → StmtTwins E s t
        → BlockTwins E (record b { stmts = b.stmts ++ s ∷ [] }) (record c { stmts = c.stmts ++ t ∷ [] })
    with-stmt b c s t h k = record { stmts = zip-one (StmtTwins E) b.stmts c.stmts s t h.stmts k; scope = h.scope }

    pub adds-stmt-leads : (P Q : TypedStmt → Type 0) → ((s t : TypedStmt) → P s → Q t → StmtTwins E s t) → Leads F F Any2 (adds_stmt P) (adds_stmt Q)
    adds-stmt-leads P Q f =
        leads-then F F F _ Any2 _ _ _ _ block-leads
        (λ b c h. leads-then F F F (StmtTwins E) Any2 _ _ _ _ (leads-some F _ _ _ (λ s t x y p i j. f x y i j))
        (λ x y k. leads-becomes F F _ _ (λ s t p. record {
          first = p.first;
          second = p.second;
          states = with-blocks E R s t p.states _ _ (zip-other (BlockTwins E) s.blocks t.blocks _ _ p.states.blocks (with-stmt b c x y h k));
        })))

  begun : (k l : ℕ) → l ≡ k → BlockTwins E (record { stmts = []; scope = k }) (record { stmts = []; scope = l })
  begun k l e = record { stmts = tt; scope = e }

  pub begins-block-leads : Leads B B Any2 begins_block begins_block
  begins-block-leads =
      leads-then B B B _ Any2 _ _ _ _ (flow-leads m n E E)
      (λ f g h. leads-becomes B B _ _ (λ s t p. record {
        first = p.first;
        second = p.second;
        states = with-blocks E E s t p.states _ _ (zip-one (BlockTwins E) s.blocks t.blocks _ _ p.states.blocks
            (begun (length f.variables) (length g.variables) (sym (zip-long (VariableTwins E E) f.variables g.variables h.variables))));
      }))

  outside-same : (k l : ℕ) (f g : Flow) → l ≡ k → FlowTwins E E f g → FlowTwins E E (outside k f) (outside l g)
  outside-same k l f g e h =
      subst (λ i. FlowTwins E E (outside k f) (outside i g)) (sym e)
      (record { variables = zip-take (VariableTwins E E) k f.variables g.variables h.variables; reached = h.reached })

  pub ends-block-leads : Leads B B Any2 ends_block ends_block
  ends-block-leads =
      leads-then B B B _ Any2 _ _ _ _ (block-leads E)
      (λ b c h. changes-flow-leads m n E E _ _ (λ f g k. outside-same b.scope c.scope f g h.scope k))

  pub stmts-same : (ss ts : List TypedStmt) → AllZip (StmtTwins E) ss ts → SamePieces E (stmts_pieces ss) (stmts_pieces ts)
  stmts-same ss ts h = joined-same E stmt_pieces ss ts h

  block-same : (ss ts : List TypedStmt) (at : Place) (s t : TypedStmt) → AllZip (StmtTwins E) ss ts → IsBlock ss at s → IsBlock ts at t → StmtTwins E s t
  block-same ss ts at s t h x y = pieces-equal E _ _ _ _ (block-written ss at s x) (block-written ts at t y) (refl, stmts-same ss ts h)

  pub makes-block-leads : (at : Place) → Leads B B Any2 (makes_block at) (makes_block at)
  makes-block-leads at =
      leads-then B B B _ Any2 _ _ _ _ (closes-block-leads E)
      (λ b c h. adds-stmt-leads E _ _ (λ s t x y. block-same b.stmts c.stmts at s t h.stmts x y))

  -- ---- declarations

  abbrev PartsD : TypedExpr → TypedExpr → Type 0
  PartsD = PartTwins E E

  pub takes-part-leads : Leads B B PartsD takes_part takes_part
  takes-part-leads =
      leads-then B B B _ PartsD _ _ _ _ (part-leads m n E E)
      (λ e f h. leads-then B B B _ PartsD _ _ _ _ (takes-leads m n E E 1) (λ es fs k. leads-gives B PartsD e f h))

  pub takes-want-leads : Leads B B (SharedTwins E E) takes_want takes_want
  takes-want-leads =
      leads-then B B B _ _ _ _ _ _ (wanted-leads m n E E)
      (λ t u h. leads-then B B B Any2 _ _ _ _ _ (no-more-leads m n E E 1) (λ x y k. leads-gives B _ t u h))

  pub set-same : (k l : ℕ) (e f : TypedExpr) (at : Place) (s t : TypedStmt) → l ≡ k → PartsD e f → IsSet k e at s → IsSet l f at t → StmtTwins E s t
  set-same k l e f at s t i h x y =
      pieces-equal E _ _ _ _ (set-written k e at s x) (set-written l f at t y) (ap (λ j. say.IsSet j at) i, whole-same E e f h)

  local-same : (name : Name) (k l : ℕ) (t u : Shared) (fixed assigned : Bool) → l ≡ k → SharedTwins E E t u
      → VariableTwins E E (local_variable name k t fixed assigned) (local_variable name l u fixed assigned)
  local-same name k l t u fixed assigned e h =
      record { name = refl; slot = e; declared = h; narrowed = tt; fixed = refl; assigned = refl; captured = refl }

  pub with-variable-same : (v u : Variable) (f g : Flow) → VariableTwins E E v u → FlowTwins E E f g → FlowTwins E E (with_variable v f) (with_variable u g)
  with-variable-same v u f g h k =
      record { variables = zip-one (VariableTwins E E) f.variables g.variables v u k.variables h; reached = k.reached }

  pub has-local-leads : (name : Name) (k l : ℕ) (t u : Shared) (fixed assigned : Bool) → l ≡ k → SharedTwins E E t u
      → Leads B B Any2 (changes_flow (with_variable (local_variable name k t fixed assigned))) (changes_flow (with_variable (local_variable name l u fixed assigned)))
  has-local-leads name k l t u fixed assigned e h =
      changes-flow-leads m n E E _ _ (λ f g i. with-variable-same _ _ f g (local-same name k l t u fixed assigned e h) i)

  pub declares-leads : (name : Name) (final assigned : Bool) (at : Place) → Leads B B Any2 (declares name final assigned at) (declares name final assigned at)
  declares-leads name final assigned at =
      leads-then B B B PartsD Any2 _ _ _ _ takes-part-leads
      (λ e f h. leads-then B B B _ Any2 _ _ _ _ takes-want-leads
      (λ t u i. leads-then B B B _ Any2 _ _ _ _ (new-slot-leads m n E E t u i)
      (λ k l j. leads-then B B B Any2 Any2 _ _ _ _ (has-local-leads name k l t u final assigned j i)
      (λ x y o. adds-stmt-leads E _ _ (λ s r p q. set-same k l e f at s r j h p q)))))

  -- ---- assignments

  pub variable-assignable-leads : (v u : Variable) (at : Place) → VariableTwins E E v u → Leads B A Any2 (variable_assignable v at) (variable_assignable u at)
  variable-assignable-leads v u at h =
      leads-then B B A Any2 Any2 _ _ _ _ (leads-either B B Any2 v.fixed u.fixed _ _ _ _ h.fixed (leads-fails B B Any2 AssignFinal at) (uses-leads m n v u at h))
      (λ x y k. wants-weak m n (Some v.declared) (Some u.declared) h.declared.twins)

  module _ (twins : TwinAtoms m n) where
    wants-copy-leads : (t : Ty) → Leads B A Any2 (wants_some (λ env. IsCopy t)) (wants_some (λ env. IsCopy t))
    wants-copy-leads t = wants-some-weak m n _ _ (λ a b x y. copies-twin m n t t a b (itself-twin m n twins t) x y)

    meaning-assignable-leads : (k : Meaning) (at : Place) → Leads B A Any2 (meaning_assignable k at) (meaning_assignable k at)
    meaning-assignable-leads (meaning.TypeName t) at = leads-fails B A Any2 Unknown at
    meaning-assignable-leads (meaning.Constant t) at = leads-fails B A Any2 AssignFinal at
    meaning-assignable-leads (meaning.Variable number final t) at =
        leads-either B A Any2 final final _ _ _ _ refl (leads-fails B A Any2 AssignFinal at) (wants-copy-leads t)
    meaning-assignable-leads (meaning.Function f) at = leads-fails B A Any2 AssignFinal at

    pub assignable-leads : (names : Names) (q : QualifiedName) → Leads B A Any2 (is_assignable names q) (is_assignable names q)
    assignable-leads names q =
        leads-then B B A _ Any2 _ _ _ _ (looks-up-leads E E m n names q)
        (by-seen E E B A Any2 (λ seen. seen_assignable seen q.at) (λ seen. seen_assignable seen q.at)
        (λ v u h. variable-assignable-leads v u q.at h)
        (λ w. leads-fails B A Any2 NameAsValue q.at) (λ c. leads-fails B A Any2 AssignFinal q.at) (λ r. leads-fails B A Any2 Unknown q.at)
        (λ k. meaning-assignable-leads k q.at) (λ code. leads-fails B A Any2 code q.at))

  -- what a name that may be assigned stands for
  abbrev pub AssignedTwins : Assigned → Assigned → Type 0
  AssignedTwins (AssignsVariable v) (AssignsVariable u) = VariableTwins E E v u
  AssignedTwins (AssignsModule k t) (AssignsModule l u) = (l ≡ k) × (u ≡ t)
  AssignedTwins (AssignsVariable v) (AssignsModule l u) = ⊥
  AssignedTwins (AssignsModule k t) (AssignsVariable u) = ⊥

  assigned-is : (a b c d : Assigned) → c ≡ a → d ≡ b → AssignedTwins a b → AssignedTwins c d
  assigned-is a b c d e f h = subst (λ k. AssignedTwins k d) (sym e) (subst (AssignedTwins a) (sym f) h)

  meaning-assigned : (k : Meaning) (a b : Assigned) → IsAssigned (SeenMeaning k) a → IsAssigned (SeenMeaning k) b → AssignedTwins a b
  meaning-assigned (meaning.Variable number final t) a b x y = assigned-is (AssignsModule number t) (AssignsModule number t) a b x y (refl, refl)
  meaning-assigned (meaning.TypeName t) a b x y = absurd x
  meaning-assigned (meaning.Constant t) a b x y = absurd x
  meaning-assigned (meaning.Function f) a b x y = absurd x

  some-assigned : (s t : Seen) → SeenTwins E E s t → Leads B B AssignedTwins (gives_some (λ i a. IsAssigned s a)) (gives_some (λ i a. IsAssigned t a))
  some-assigned =
      by-seen E E B B AssignedTwins (λ seen. gives_some (λ i a. IsAssigned seen a)) (λ seen. gives_some (λ i a. IsAssigned seen a))
      (λ v u h. leads-some B _ _ _ (λ i j a b p x y. assigned-is (AssignsVariable v) (AssignsVariable u) a b x y h))
      (λ w. leads-nothing B B AssignedTwins _) (λ c. leads-nothing B B AssignedTwins _) (λ r. leads-nothing B B AssignedTwins _)
      (λ k. leads-some B _ _ _ (λ i j a b p x y. meaning-assigned k a b x y)) (λ code. leads-nothing B B AssignedTwins _)

  pub assigned-leads : (names : Names) (q : QualifiedName) → Leads B B AssignedTwins (assigned_by names q) (assigned_by names q)
  assigned-leads names q = leads-then B B B _ AssignedTwins _ _ _ _ (looks-up-leads E E m n names q) some-assigned

  perform-same : (form other : PerformForm) (es fs : List TypedExpr) (at : Place) (s t : TypedStmt) → other ≡ form → AllZip PartsD es fs → IsPerform form es at s
      → IsPerform other fs at t → StmtTwins E s t
  perform-same form other es fs at s t e h x y =
      pieces-equal E _ _ _ _ (perform-written form es at s x) (perform-written other fs at t y)
      (ap (λ k. say.IsPerform k at) e, joined-same E expr_pieces es fs (zip-map PartsD (λ e f. SamePieces E (expr_pieces e) (expr_pieces f)) (whole-same E) es fs h))

  assigns-to-leads : (a b : Assigned) (e f : TypedExpr) (at : Place) → AssignedTwins a b → PartsD e f → Leads B B Any2 (assigns_to a e at) (assigns_to b f at)
  assigns-to-leads (AssignsVariable v) (AssignsVariable u) e f at h k =
      leads-then B B B Any2 Any2 _ _ _ _ (changes-flow-leads m n E E _ _ (λ g i j. flow-retyped-at E E v.name u.name None None g i h.name j tt))
      (λ x y i. adds-stmt-leads E _ _ (λ s t p q. set-same v.slot u.slot e f at s t h.slot k p q))
  assigns-to-leads (AssignsModule k t) (AssignsModule l u) e f at h i =
      adds-stmt-leads E _ _ (λ s r p q. perform-same (perform.SetVariable k) (perform.SetVariable l) (e ∷ []) (f ∷ []) at s r (ap perform.SetVariable h.0) (i, tt) p q)
  assigns-to-leads (AssignsVariable v) (AssignsModule l u) e f at h k = absurd h
  assigns-to-leads (AssignsModule k t) (AssignsVariable u) e f at h i = absurd h

  pub assigns-leads : (names : Names) (q : QualifiedName) (at : Place) → Leads B B Any2 (assigns names q at) (assigns names q at)
  assigns-leads names q at =
      leads-then B B B PartsD Any2 _ _ _ _ takes-part-leads
      (λ e f h. leads-then B B B Any2 Any2 _ _ _ _ (drops-want-leads m n)
      (λ x y k. leads-then B B B AssignedTwins Any2 _ _ _ _ (assigned-leads names q) (λ a b i. assigns-to-leads a b e f at i h)))

  reads-assigned-leads : TwinAtoms m n → (a b : Assigned) → AssignedTwins a b → Leads B A Any2 (reads_assigned a) (reads_assigned b)
  reads-assigned-leads twins (AssignsVariable v) (AssignsVariable u) h = wants-weak m n (Some (shared_now v)) (Some (shared_now u)) (now-twins E E v u h).twins
  reads-assigned-leads twins (AssignsModule k t) (AssignsModule l u) h =
      subst (λ i. Leads B A Any2 (reads_assigned (AssignsModule k t)) (reads_assigned (AssignsModule l i))) (sym h.1) (wants-copy-leads twins t)
  reads-assigned-leads twins (AssignsVariable v) (AssignsModule l u) h = absurd h
  reads-assigned-leads twins (AssignsModule k t) (AssignsVariable u) h = absurd h

  pub reads-name-leads : TwinAtoms m n → (names : Names) (q : QualifiedName) → Leads B A Any2 (reads_name names q) (reads_name names q)
  reads-name-leads twins names q = leads-then B B A AssignedTwins Any2 _ _ _ _ (assigned-leads names q) (reads-assigned-leads twins)

  -- ---- stores

  stored-form : (a b : Access) (f g : PerformForm) → b ≡ a → store_form a f → store_form b g → g ≡ f
  stored-form Char b f g e x y = absurd x
  stored-form Item Item f g e x y = y ∙ sym x
  stored-form Key Key f g e x y = y ∙ sym x
  stored-form Item Char f g e x y = absurd y
  stored-form Item Key f g e x y = absurd (cc)
  stored-form Key Char f g e x y = absurd y
  stored-form Key Item f g e x y = absurd (cc)

  pub stores-leads : (at : Place) → Leads B B Any2 (stores at) (stores at)
  stores-leads at =
      leads-then B B B Any2 Any2 _ _ _ _ (no-more-leads m n E E 1)
      (λ x y k. leads-then B B B Equal Any2 _ _ _ _ (takes-access-leads m n)
      (λ a b e. leads-then B B B _ Any2 _ _ _ _ (takes-leads m n E E 3)
      (λ es fs h. leads-then B B B Equal Any2 _ _ _ _ (leads-some B _ _ _ (λ s t f g p i j. stored-form a b f g e i j))
      (λ f g o. adds-stmt-leads E _ _ (λ s t p q. perform-same f g es fs at s t o h p q)))))

  -- ---- other statements

  pub performs-leads : (form : PerformForm) (count : ℕ) (at : Place) → Leads B B Any2 (performs form count at) (performs form count at)
  performs-leads form count at =
      leads-then B B B _ Any2 _ _ _ _ (takes-leads m n E E count)
      (λ es fs h. adds-stmt-leads E _ _ (λ s t p q. perform-same form form es fs at s t refl h p q))

  pub stops-leads : Leads B B Any2 stops stops
  stops-leads = changes-flow-leads m n E E _ _ (λ f g h. record { variables = h.variables; reached = refl })

  pub returns-leads : (at : Place) → Leads B B Any2 (returns at) (returns at)
  returns-leads at =
      leads-then B B B PartsD Any2 _ _ _ _ takes-part-leads
      (λ e f h. leads-then B B B Any2 Any2 _ _ _ _ (drops-want-leads m n)
      (λ x y k. leads-then B B B Any2 Any2 _ _ _ _
      (adds-stmt-leads E _ _ (λ s t p q. pieces-equal E _ _ _ _ (return-written e at s p) (return-written f at t q) (refl, whole-same E e f h)))
      (λ a b i. stops-leads)))

  pub breaks-leads : (at : Place) → Leads B B Any2 (breaks at) (breaks at)
  breaks-leads at =
      leads-then B B B Any2 Any2 _ _ _ _ (adds-stmt-leads E _ _ (λ s t p q. pieces-equal E _ _ _ _ (break-written at s p) (break-written at t q) refl))
      (λ a b i. stops-leads)

  pub continues-leads : (at : Place) → Leads B B Any2 (continues at) (continues at)
  continues-leads at =
      leads-then B B B Any2 Any2 _ _ _ _ (adds-stmt-leads E _ _ (λ s t p q. pieces-equal E _ _ _ _ (continue-written at s p) (continue-written at t q) refl))
      (λ a b i. stops-leads)

  module _ (passes : List AtomDef → Asked → TypeLimit → Type 0) where
    pub ignorable-leads : (at : Place) → Leads B B Any2 (is_ignorable passes at) (is_ignorable passes at)
    ignorable-leads at =
        leads-then B B B PartsD Any2 _ _ _ _ (part-leads m n E E)
        (λ e f h. leads-then B B B Equal Any2 _ _ _ _ (whether-kind-leads passes m n B (before-atoms m n) kind.Nothing (sem e) (sem f) at h.ty.twins.shapes)
        (λ b c k. leads-unless B b c Ignored at k))

    pub nil-leads : (at : Place) → Leads B B Any2 (nil_is_result passes at) (nil_is_result passes at)
    nil-leads at =
        leads-then B B B _ Any2 _ _ _ _ (unit-leads m n E E)
        (λ u v h. leads-then B B B (TwinTypes m n) Any2 _ _ _ _ (leads-over m n B _ _ _ (before-atoms m n) (kinds-twin m n kind.Nothing))
        (λ a b k. below-leads passes m n B (before-atoms m n) _ _ _ _ (Some at) k.shapes h.result.twins.shapes))

    pub returns-nil-leads : (at : Place) → Leads B B Any2 (returns_nil passes at) (returns_nil passes at)
    returns-nil-leads at =
        leads-then B B B Any2 Any2 _ _ _ _ (nil-leads at)
        (λ x y k. leads-then B B B Any2 Any2 _ _ _ _
        (adds-stmt-leads E _ _ (λ s t p q. pieces-equal E _ _ _ _ (nil-written at s p) (nil-written at t q) (refl, refl))) (λ a b i. stops-leads))
