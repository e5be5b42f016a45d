-- Behind each value the same is known of variables as before it, by induction on trees.
use Rattle.std.proofs.Common.{All, Bool, List, None, Option, Some, [], false, length, map, subst, sym, true, ℕ, ◌∷◌, ◌≡◌}
use Rattle.std.proofs.lemmas.List.Elements.{All-cons, All-nil}
use Rattle.std.specs.Global.{Box}
use Rattle.std.specs.Prelude.{IfSome, ⊤}
use Rattle.bal_base.specs.declared.place.Place.{Place}
use Rattle.bal_tree.specs.ExprLayers.{CallOf, DetailOf, ExprOf, KeyOf, MemberOf, PostfixOf, PrimaryOf}
use Rattle.bal_tree.specs.declared.action.Action.{Action, Flush, Prefix', Receive, Send, Start, SyncSend, WaitAll, WaitAny}
use Rattle.bal_tree.specs.declared.action.ActionOp.TheVariants.{Check, CheckPanic, Trap}
use Rattle.bal_tree.specs.declared.action.ActionOp.{ActionOp}
use Rattle.bal_tree.specs.declared.action.Rhs.TheVariants.{Action as ActionRhs, Expr as ExprRhs}
use Rattle.bal_tree.specs.declared.action.Rhs.{Rhs}
use Rattle.bal_tree.specs.declared.action.WaitMember.{WaitMember}
use Rattle.bal_tree.specs.declared.expr.Call.TheOpen as layer
use Rattle.bal_tree.specs.declared.expr.Call.{Call, Call-F, fold-roll-Call, ind-Call, map-Call, roll-Call}
use Rattle.bal_tree.specs.declared.expr.Detail.{Detail, Detail-F, fold-roll-Detail, map-Detail, roll-Detail}
use Rattle.bal_tree.specs.declared.expr.Expr.{Expr, Expr-F, ind-Expr, map-Expr, roll-Expr}
use Rattle.bal_tree.specs.declared.expr.Key.{Key, Key-F, fold-roll-Key, map-Key, roll-Key}
use Rattle.bal_tree.specs.declared.expr.Member.{Member, Member-F, fold-roll-Member, map-Member, roll-Member}
use Rattle.bal_tree.specs.declared.expr.Postfix.{Postfix, Postfix-F, fold-roll-Postfix, ind-Postfix, map-Postfix, roll-Postfix}
use Rattle.bal_tree.specs.declared.expr.PrefixOp.TheVariants as prefix
use Rattle.bal_tree.specs.declared.expr.PrefixOp.{PrefixOp}
use Rattle.bal_tree.specs.declared.expr.Primary.{Primary, Primary-F, fold-roll-Primary, map-Primary, roll-Primary}
use Rattle.bal_tree.specs.declared.name.QualifiedName.{QualifiedName}
use Rattle.calm_needs.specs.Calm.{IsCalm, NeedsAreCalm}
use Rattle.check_words.specs.State.{State}
use Rattle.descriptors.specs.declared.names.Names.{Names}
use Rattle.expr_needs.specs.ActionTable.{action_needs, await_member_needs, await_needs, behind_word, checked_needs, read_rhs}
use Rattle.expr_needs.specs.ExprTable.{Reading, accessed_needs, against, argument_needs, binary_needs, call_step, called_needs, callee_needs, cause_needs, detail_step, expr_step, freely, index_needs, item_needs, key_step, member_step, postfix_step, primary_step, read_call, read_detail, read_expr, read_key, read_member, read_postfix, read_primary, reading, seen_of}
use Rattle.expr_needs.specs.Needs.{Adds, Awaits, BeginsKeys, CallsMethod, CallsNamed, CallsValue, Casts, Checks, ChecksPanicking, ChoosesList, ChoosesMapping, Compares, ComputesKey, Decides, Describes, DropsWant, Encloses, ExpectsArgument, ExpectsItem, ExpectsMember, Fails, FillsNil, Flushes, Forms, GivesKey, GivesLiteral, GivesNamed, IsAccessed, IsArgument, IsDetail, IsIndex, IsItem, IsMember, IsOf, IsSort, LacksCause, MakesCall, MakesError, MakesList, MakesMapping, Need, ReadsElement, ReadsField, ReadsOptional, Receives, Sends, SendsAndWaits, Splits, Starts, TakesKey, Tests, Traps, Turns, WaitsForAll, WaitsForAny, WantsErrorToo}
use Rattle.expr_needs.specs.Operators.{family_of, left_expects, left_needs, made_of, prefix_expects, prefix_needs, right_expects, right_needs}
use Rattle.expr_needs.specs.declared.operators.Family.TheVariants.{Arithmetic, Condition, Elvis, Equality, Identity, Order, Sum}
use Rattle.expr_needs.specs.declared.operators.Family.{Family}
use Rattle.typed_tree.specs.declared.form.Operator.TheVariants as operator
use Rattle.expr_needs.specs.declared.expected.Expected.TheVariants as expected
use Rattle.expr_needs.specs.declared.expected.Expected.{Expected}
use Rattle.expr_needs.specs.declared.kind.Kind.TheVariants as kind
use Rattle.expr_needs.specs.declared.kind.Kind.{Kind}
use Rattle.kept_flows.proofs.Clearing.{all-clears, any-clears, call-clears, flushes-clears, list-clears, literal-clears, mapping-clears, named-clears, receives-clears, starts-clears}
use Rattle.kept_flows.proofs.Keeping.{Fresh, FreshReading, Quiet, against-fresh, both-ways, by-calm, clearing, conditional, fresh-on, fresh-then, function, quiet-all, quiet-both, quiet-fresh, quiet-nothing, quiet-turns, then-fresh}
use Rattle.needs.specs.Needs.{in_turn, in_turn_from}
use Rattle.type_model.specs.Calls.{Asked}
use Rattle.type_model.specs.declared.answers.TypeLimit.{TypeLimit}
use Rattle.type_model.specs.declared.atoms.AtomDef.{AtomDef}
use Rattle.bal_base.specs.declared.fault.FaultCode.TheVariants.{Unknown}
use Rattle.checks.specs.Checks.{refuses}
use Rattle.typed_exprs.proofs.Steps.{parted}
use Rattle.typed_exprs.specs.Lines.{Run}
use Rattle.typed_tree.specs.Listed.{Listed, nothing, one, ◌&◌}
use Rattle.typed_trees.proofs.Leaving.{rolled-expr}

module _ (passes : List AtomDef → Asked → TypeLimit → Type 0) (names : Names) (env : List AtomDef) (calm : NeedsAreCalm passes names) where
  abbrev FreshNeeds : Listed Need → Type 0
  FreshNeeds = Fresh passes names env calm

  abbrev QuietNeeds : Listed Need → Type 0
  QuietNeeds = Quiet passes names env calm

  abbrev FreshOne : Reading → Type 0
  FreshOne = FreshReading passes names env calm

  abbrev QuietOne : Reading → Type 0
  QuietOne a = (e : Expected) → QuietNeeds (a.needs e)

  -- a call as it is made, and as it is started
  record FreshCall (a : Reading) : Type 0 where
    pub made : FreshOne a
    pub started : (here behind : Place) → FreshNeeds (a.starts & one (Starts here behind))

  -- ---- words

  goes-first : (p q : Listed Need) → FreshNeeds p → QuietNeeds q → FreshNeeds (p & q)
  goes-first = fresh-then passes names env calm

  ends : (p q : Listed Need) → QuietNeeds p → FreshNeeds q → FreshNeeds (p & q)
  ends = then-fresh passes names env calm

  both : (p q : Listed Need) → QuietNeeds p → QuietNeeds q → QuietNeeds (p & q)
  both = quiet-both passes names env calm

  quiet : (p : Listed Need) → FreshNeeds p → QuietNeeds p
  quiet = quiet-fresh passes names env calm

  empty : QuietNeeds nothing
  empty = quiet-nothing passes names env calm

  turns-quiet : (at : Place) → QuietNeeds (one (Turns at))
  turns-quiet at old new run = let c : IsCalm old new = calm.turns at old new run.0 in c.keeps

  encloses-quiet : (at : Place) → QuietNeeds (one (Encloses at))
  encloses-quiet at old new run = let c : IsCalm old new = calm.encloses at old new run.0 in c.keeps

  tests-quiet : (name : Option QualifiedName) (at : Place) → QuietNeeds (one (Tests name at))
  tests-quiet name at old new run = let c : IsCalm old new = calm.tests name at old new run.0 in c.keeps

  against-so : (k : Kind) (a : Reading) → FreshOne a → FreshNeeds (against k a)
  against-so = against-fresh passes names env calm

  -- ---- expressions

  prefix-quiet : (o : PrefixOp) (a at : Place) → QuietNeeds (prefix_needs o a at)
  prefix-quiet prefix.Negate a at =
      both (one (IsOf kind.Integer a)) (one (Forms operator.Negate 1 kind.Integer at)) (by-calm passes names env calm (IsOf kind.Integer a) tt)
      (by-calm passes names env calm (Forms operator.Negate 1 kind.Integer at) tt)
  prefix-quiet prefix.Not a at = both (one (IsOf kind.Truth a)) (one (Turns at)) (by-calm passes names env calm (IsOf kind.Truth a) tt) (turns-quiet at)
  prefix-quiet prefix.Check a at = by-calm passes names env calm (Checks at) tt
  prefix-quiet prefix.CheckPanic a at = by-calm passes names env calm (ChecksPanicking at) tt

  -- all families but conditions
  plain : (f : Family) (a b : Reading) (at : Place) (e : Expected) → FreshOne a → FreshOne b → QuietNeeds (left_needs f a.at) → QuietNeeds (right_needs f b.at) → QuietNeeds (one (made_of f at))
      → FreshNeeds (binary_needs f a b at e)
  plain f a b at e fa fb left right made =
      goes-first (a.needs (left_expects f) & left_needs f a.at) ((b.needs (right_expects f e) & right_needs f b.at) & one (made_of f at))
      (goes-first (a.needs (left_expects f)) (left_needs f a.at) (fa (left_expects f)) left)
      (both (b.needs (right_expects f e) & right_needs f b.at) (one (made_of f at))
      (both (b.needs (right_expects f e)) (right_needs f b.at) (quiet (b.needs (right_expects f e)) (fb (right_expects f e))) right) made)

  is-of : (k : Kind) (at : Place) → QuietNeeds (one (IsOf k at))
  is-of k at = by-calm passes names env calm (IsOf k at) tt

  decides : (k : Kind) (at : Place) → QuietNeeds (one (IsOf k at) & one (Decides at))
  decides k at = both (one (IsOf k at)) (one (Decides at)) (is-of k at) (by-calm passes names env calm (Decides at) tt)

  condition : (holds : Bool) (a b : Reading) (at : Place) (e : Expected) → FreshOne a → FreshOne b → FreshNeeds (binary_needs (Condition holds) a b at e)
  condition holds a b at e fa fb old new run =
      let f : Family = Condition holds in
      let right : Listed Need = b.needs (right_expects f e) & right_needs f b.at in
      let (s3, front, rest) = parted passes names env (a.needs (left_expects f) & left_needs f a.at) (right & one (made_of f at)) old new run in
      let (s4, middle, made) = parted passes names env right (one (made_of f at)) s3 new rest in
      let (s1, ra, more) = parted passes names env (a.needs (left_expects f)) (left_needs f a.at) old s3 front in
      let (s2, ri, rs) = parted passes names env (one (IsOf kind.Truth a.at)) (one (Splits holds)) s1 s3 more in
      both-ways passes names env calm holds at old s2 s3 s4 new (fresh-on old s1 s2 (fa (left_expects f) old s1 ra) (is-of kind.Truth a.at s1 s2 ri)) rs
      (goes-first (b.needs (right_expects f e)) (right_needs f b.at) (fb (right_expects f e)) (is-of kind.Truth b.at) s3 s4 middle) made

  family : (f : Family) (a b : Reading) (at : Place) (e : Expected) → FreshOne a → FreshOne b → FreshNeeds (binary_needs f a b at e)
  family (Arithmetic o) a b at e fa fb =
      plain (Arithmetic o) a b at e fa fb (is-of kind.Integer a.at) (is-of kind.Integer b.at) (by-calm passes names env calm (Forms o 2 kind.Integer at) tt)
  family Sum a b at e fa fb = plain Sum a b at e fa fb (decides kind.IntOrText a.at) (by-calm passes names env calm (IsSort b.at) tt) (by-calm passes names env calm (Adds at) tt)
  family (Order o) a b at e fa fb =
      plain (Order o) a b at e fa fb (decides kind.IntOrText a.at) (by-calm passes names env calm (IsSort b.at) tt) (by-calm passes names env calm (Compares o at) tt)
  family (Equality o) a b at e fa fb =
      plain (Equality o) a b at e fa fb (is-of kind.Anydata a.at) (is-of kind.Anydata b.at) (by-calm passes names env calm (Forms o 2 kind.Truth at) tt)
  family (Identity o) a b at e fa fb = plain (Identity o) a b at e fa fb empty empty (by-calm passes names env calm (Forms o 2 kind.Truth at) tt)
  family (Condition holds) a b at e fa fb = condition holds a b at e fa fb
  family Elvis a b at e fa fb = plain Elvis a b at e fa fb empty empty (by-calm passes names env calm (FillsNil at) tt)

  -- ---- one layer of a reading, of whose parts it is known

  abbrev GoodExpr : ExprOf Reading → Type 0
  GoodExpr (layer.Postfix a) = FreshOne a
  GoodExpr (layer.Prefix o a at) = FreshOne a.value
  GoodExpr (layer.Cast type a at) = FreshOne a.value
  GoodExpr (layer.Binary a o b at) = FreshOne a.value × FreshOne b.value
  GoodExpr (layer.TypeTest a type at) = FreshOne a.value
  GoodExpr (layer.Conditional c a b at) = FreshOne c.value × FreshOne a.value × FreshOne b.value
  GoodExpr (layer.Trap a at) = FreshOne a.value
  GoodExpr (layer.«Expr::Function» isolated ps result v at) = FreshOne v.value

  expr-of : (z : ExprOf Reading) → GoodExpr z → FreshOne (expr_step z)
  expr-of (layer.Postfix a) k e = k e
  expr-of (layer.Prefix o a at) k e = goes-first (a.value.needs (prefix_expects o)) (prefix_needs o a.value.at at) (k (prefix_expects o)) (prefix-quiet o a.value.at at)
  expr-of (layer.Cast type a at) k e =
      ends (one (Describes type.value)) (freely a.value & one (Casts at)) (by-calm passes names env calm (Describes type.value) tt)
      (goes-first (freely a.value) (one (Casts at)) (k expected.Nothing) (by-calm passes names env calm (Casts at) tt))
  expr-of (layer.Binary a o b at) k e = family (family_of o) a.value b.value at e k.0 k.1
  expr-of (layer.TypeTest a type at) k e =
      goes-first (freely a.value) (one (Describes type.value) & one (Tests a.value.name at)) (k expected.Nothing)
      (both (one (Describes type.value)) (one (Tests a.value.name at)) (by-calm passes names env calm (Describes type.value) tt) (tests-quiet a.value.name at))
  expr-of (layer.Conditional c a b at) k e = conditional passes names env calm c.value a.value b.value at k.0 k.1 k.2
  expr-of (layer.Trap a at) k e = goes-first (freely a.value) (one (Traps at)) (k expected.Nothing) (by-calm passes names env calm (Traps at) tt)
  expr-of (layer.«Expr::Function» isolated ps result v at) k e = function passes names env calm isolated ps result.value v.value at k

  -- ---- members and calls

  pub accessed : (texts : Bool) (a : Reading) → FreshOne a → FreshNeeds (accessed_needs texts a)
  accessed texts a k = goes-first (freely a) (one (IsAccessed texts a.at)) (k expected.Nothing) (by-calm passes names env calm (IsAccessed texts a.at) tt)

  pub index : (i : Reading) → FreshOne i → QuietNeeds (index_needs i)
  index i k = both (i.needs expected.Immutable) (one (IsIndex i.at)) (quiet (i.needs expected.Immutable) (k expected.Immutable)) (by-calm passes names env calm (IsIndex i.at) tt)

  abbrev GoodPostfix : PostfixOf Reading → Type 0
  GoodPostfix (layer.Primary a) = FreshOne a
  GoodPostfix (layer.Call a) = FreshOne a
  GoodPostfix (layer.Field a field at) = FreshOne a.value
  GoodPostfix (layer.OptionalField a field at) = FreshOne a.value
  GoodPostfix (layer.Index a i at) = FreshOne a.value × FreshOne i.value

  postfix-of : (z : PostfixOf Reading) → GoodPostfix z → FreshOne (postfix_step z)
  postfix-of (layer.Primary a) k e = k e
  postfix-of (layer.Call a) k e = k e
  postfix-of (layer.Field a field at) k e =
      goes-first (against kind.AnyMapping a.value) (one (ReadsField field at)) (against-so kind.AnyMapping a.value k) (by-calm passes names env calm (ReadsField field at) tt)
  postfix-of (layer.OptionalField a field at) k e =
      goes-first (against kind.MappingOrNil a.value) (one (ReadsOptional field at)) (against-so kind.MappingOrNil a.value k) (by-calm passes names env calm (ReadsOptional field at) tt)
  postfix-of (layer.Index a i at) k e =
      goes-first (accessed_needs true a.value & index_needs i.value) (one (ReadsElement at))
      (goes-first (accessed_needs true a.value) (index_needs i.value) (accessed true a.value k.0) (index i.value k.1)) (by-calm passes names env calm (ReadsElement at) tt)

  argument : (at : Place) (a : Reading) → FreshOne a → QuietNeeds (argument_needs at a)
  argument at a k =
      both (one (ExpectsArgument at)) (a.needs expected.Wanted & one (IsArgument a.at)) (by-calm passes names env calm (ExpectsArgument at) tt)
      (both (a.needs expected.Wanted) (one (IsArgument a.at)) (quiet (a.needs expected.Wanted) (k expected.Wanted)) (by-calm passes names env calm (IsArgument a.at) tt))

  arguments : (at : Place) (args : List Reading) → All FreshOne args → QuietNeeds (in_turn (argument_needs at) args)
  arguments at args k = quiet-all passes names env calm FreshOne (argument_needs at) (argument at) args k nothing empty

  callee : (started : Bool) (name : Option QualifiedName) (f : Reading) (count : ℕ) (at : Place) → FreshOne f → QuietNeeds (callee_needs started name f count at)
  callee started (Some q) f count at k = by-calm passes names env calm (CallsNamed started q count at) tt
  callee started None f count at k =
      both (against kind.AnyFunction f) (one CallsValue) (quiet (against kind.AnyFunction f) (against-so kind.AnyFunction f k)) (by-calm passes names env calm CallsValue tt)

  called : (started : Bool) (f : Reading) (args : List Reading) (at : Place) → FreshOne f → All FreshOne args → QuietNeeds (called_needs started f args at)
  called started f args at k ks =
      both (callee_needs started f.name f (length args) at) (in_turn (argument_needs at) args) (callee started f.name f (length args) at k) (arguments at args ks)

  refused : {P : Type 0} (at : Place) (old new : State) → Run passes names env (one (Fails Unknown at)) old new → P
  unfolding refuses
  refused at old new run = absurd run.0

  abbrev GoodCall : CallOf Reading → Type 0
  GoodCall (layer.«Call::Function» f args at) = FreshOne f.value × All FreshOne args.items
  GoodCall (layer.Method a m args at) = FreshOne a.value × All FreshOne args.items

  call-of : (z : CallOf Reading) → GoodCall z → FreshCall (call_step z)
  call-of (layer.«Call::Function» f args at) k =
      record {
        made = λ e. ends (called_needs false f.value args.items at) (one (MakesCall at)) (called false f.value args.items at k.0 k.1)
            (clearing passes names env calm (MakesCall at) (by-calm passes names env calm (MakesCall at) tt) (call-clears passes names at));
        started = λ here behind. ends (called_needs true f.value args.items at) (one (Starts here behind)) (called true f.value args.items at k.0 k.1)
            (clearing passes names env calm (Starts here behind) (by-calm passes names env calm (Starts here behind) tt) (starts-clears passes names here behind));
      }
  call-of (layer.Method a m args at) k =
      let receiver : Listed Need = freely a.value & one (CallsMethod m (length args.items) at) in
      record {
        made = λ e. goes-first (receiver & in_turn (argument_needs at) args.items) (one (MakesCall at))
            (goes-first receiver (in_turn (argument_needs at) args.items)
            (goes-first (freely a.value) (one (CallsMethod m (length args.items) at)) (k.0 expected.Nothing) (by-calm passes names env calm (CallsMethod m (length args.items) at) tt))
            (arguments at args.items k.1))
            (by-calm passes names env calm (MakesCall at) tt);
        started = λ here behind old new run.
            let (s2, front, rest) = parted passes names env (freely a.value & one (Fails Unknown m.at)) (one (Starts here behind)) old new run in
            let (s1, first, fails) = parted passes names env (freely a.value) (one (Fails Unknown m.at)) old s2 front in
            refused m.at s1 s2 fails;
      }

  -- ---- literals, names and constructors

  item : (a : Reading) → FreshOne a → QuietNeeds (item_needs a)
  item a k =
      both (one ExpectsItem) (a.needs expected.Wanted & one (IsItem a.at)) (by-calm passes names env calm ExpectsItem tt)
      (both (a.needs expected.Wanted) (one (IsItem a.at)) (quiet (a.needs expected.Wanted) (k expected.Wanted)) (by-calm passes names env calm (IsItem a.at) tt))

  abbrev GoodKey : KeyOf Reading → Type 0
  GoodKey (layer.Word w) = ⊤
  GoodKey (layer.Str text at) = ⊤
  GoodKey (layer.Computed a at) = FreshOne a.value

  key-of : (z : KeyOf Reading) → GoodKey z → QuietOne (key_step z)
  key-of (layer.Word w) k e = by-calm passes names env calm (GivesKey w.name w.at) tt
  key-of (layer.Str text at) k e = by-calm passes names env calm (GivesKey text at) tt
  key-of (layer.Computed a at) k e =
      both (against kind.Text a.value) (one ComputesKey) (quiet (against kind.Text a.value) (against-so kind.Text a.value k)) (by-calm passes names env calm ComputesKey tt)

  cause : (c : Option (Box Reading)) (at : Place) → IfSome c (λ x. FreshOne x.value) → QuietNeeds (cause_needs c at)
  cause None at k = by-calm passes names env calm (LacksCause at) tt
  cause (Some c) at k = quiet (against kind.ErrorOrNil c.value) (against-so kind.ErrorOrNil c.value k)

  abbrev GoodPrimary : PrimaryOf Reading → Type 0
  GoodPrimary (layer.Literal x) = ⊤
  GoodPrimary (layer.Name q) = ⊤
  GoodPrimary (layer.Parens a at) = FreshOne a.value
  GoodPrimary (layer.List items at) = All FreshOne items.items
  GoodPrimary (layer.Mapping ms at) = All QuietOne ms.items
  GoodPrimary (layer.Error m c ds at) = FreshOne m.value × IfSome c (λ x. FreshOne x.value) × All QuietOne ds.items

  freely-all : (ms : List Reading) → All QuietOne ms → (before : Listed Need) → QuietNeeds before → QuietNeeds (in_turn_from before freely ms)
  freely-all ms k before h = quiet-all passes names env calm QuietOne freely (λ a q. q expected.Nothing) ms k before h

  primary-of : (z : PrimaryOf Reading) → GoodPrimary z → FreshOne (primary_step z)
  primary-of (layer.Literal x) k e = clearing passes names env calm (GivesLiteral x) (by-calm passes names env calm (GivesLiteral x) tt) (literal-clears passes names x)
  primary-of (layer.Name q) k e = clearing passes names env calm (GivesNamed q) (by-calm passes names env calm (GivesNamed q) tt) (named-clears passes names q)
  primary-of (layer.Parens a at) k e = goes-first (a.value.needs e) (one (Encloses at)) (k e) (encloses-quiet at)
  primary-of (layer.List items at) k e =
      let begins : Listed Need = one (ChoosesList e (map (λ (i : Reading). i.literal) items.items) at) & in_turn item_needs items.items in
      ends begins (one (MakesList (length items.items) at))
      (both (one (ChoosesList e (map (λ (i : Reading). i.literal) items.items) at)) (in_turn item_needs items.items) (by-calm passes names env calm (ChoosesList e (map (λ (i : Reading). i.literal) items.items) at) tt)
      (quiet-all passes names env calm FreshOne item_needs item items.items k nothing empty))
      (clearing passes names env calm (MakesList (length items.items) at) (by-calm passes names env calm (MakesList (length items.items) at) tt) (list-clears passes names (length items.items) at))
  primary-of (layer.Mapping ms at) k e =
      let begins : Listed Need = one (ChoosesMapping e (map seen_of ms.items) at) & in_turn freely ms.items in
      ends begins (one (MakesMapping (length ms.items) at))
      (both (one (ChoosesMapping e (map seen_of ms.items) at)) (in_turn freely ms.items) (by-calm passes names env calm (ChoosesMapping e (map seen_of ms.items) at) tt) (freely-all ms.items k nothing empty))
      (clearing passes names env calm (MakesMapping (length ms.items) at) (by-calm passes names env calm (MakesMapping (length ms.items) at) tt) (mapping-clears passes names (length ms.items) at))
  primary-of (layer.Error m c ds at) k e =
      let front : Listed Need = against kind.Text m.value & cause_needs c at in
      let keys : Listed Need = one BeginsKeys & in_turn freely ds.items in
      goes-first front (keys & one (MakesError (length ds.items) at))
      (goes-first (against kind.Text m.value) (cause_needs c at) (against-so kind.Text m.value k.0) (cause c at k.1))
      (both keys (one (MakesError (length ds.items) at))
      (both (one BeginsKeys) (in_turn freely ds.items) (by-calm passes names env calm BeginsKeys tt) (freely-all ds.items k.2 nothing empty))
      (by-calm passes names env calm (MakesError (length ds.items) at) tt))

  member-of : (z : MemberOf Reading) → QuietOne z.key → FreshOne z.value.value → QuietOne (member_step z)
  member-of z kk kv e =
      let v : Reading = z.value.value in
      both (freely z.key) (one ExpectsMember & v.needs expected.Wanted & one (IsMember v.at)) (kk expected.Nothing)
      (both (one ExpectsMember) (v.needs expected.Wanted & one (IsMember v.at)) (by-calm passes names env calm ExpectsMember tt)
      (both (v.needs expected.Wanted) (one (IsMember v.at)) (quiet (v.needs expected.Wanted) (kv expected.Wanted)) (by-calm passes names env calm (IsMember v.at) tt)))

  detail-of : (z : DetailOf Reading) → FreshOne z.value.value → QuietOne (detail_step z)
  detail-of z k e =
      let v : Reading = z.value.value in
      both (one (GivesKey z.name.name z.name.at)) (freely v & one (IsDetail v.at)) (by-calm passes names env calm (GivesKey z.name.name z.name.at) tt)
      (both (freely v) (one (IsDetail v.at)) (quiet (freely v) (k expected.Nothing)) (by-calm passes names env calm (IsDetail v.at) tt))

  -- ---- the claims

  abbrev ClaimCall : Call → Type 0
  ClaimCall e = FreshCall (read_call e)

  abbrev ACall : Type 0
  ACall = (e : Call) × ClaimCall e

  abbrev ClaimExpr : Expr → Type 0
  ClaimExpr e = FreshOne (read_expr e)

  abbrev AnExpr : Type 0
  AnExpr = (e : Expr) × ClaimExpr e

  abbrev ClaimKey : Key → Type 0
  ClaimKey e = QuietOne (read_key e)

  abbrev AKey : Type 0
  AKey = (e : Key) × ClaimKey e

  abbrev ClaimPostfix : Postfix → Type 0
  ClaimPostfix e = FreshOne (read_postfix e)

  abbrev APostfix : Type 0
  APostfix = (e : Postfix) × ClaimPostfix e

  abbrev ClaimPrimary : Primary → Type 0
  ClaimPrimary e = FreshOne (read_primary e)

  abbrev APrimary : Type 0
  APrimary = (e : Primary) × ClaimPrimary e

  abbrev ClaimDetail : Detail → Type 0
  ClaimDetail e = QuietOne (read_detail e)

  abbrev ADetail : Type 0
  ADetail = (e : Detail) × ClaimDetail e

  abbrev ClaimMember : Member → Type 0
  ClaimMember e = QuietOne (read_member e)

  abbrev AMember : Type 0
  AMember = (e : Member) × ClaimMember e

  fresh-exprs : (es : List AnExpr) → All FreshOne (map read_expr (map (λ e. e.0) es))
  fresh-exprs [] = All-nil _
  fresh-exprs (e ∷ es) = All-cons FreshOne (read_expr e.0) (map read_expr (map (λ e. e.0) es)) e.1 (fresh-exprs es)

  quiet-members : (ms : List AMember) → All QuietOne (map read_member (map (λ m. m.0) ms))
  quiet-members [] = All-nil _
  quiet-members (m ∷ ms) = All-cons QuietOne (read_member m.0) (map read_member (map (λ m. m.0) ms)) m.1 (quiet-members ms)

  quiet-details : (ds : List ADetail) → All QuietOne (map read_detail (map (λ d. d.0) ds))
  quiet-details [] = All-nil _
  quiet-details (d ∷ ds) = All-cons QuietOne (read_detail d.0) (map read_detail (map (λ d. d.0) ds)) d.1 (quiet-details ds)

  abbrev firsts_of_call : Call-F ACall AnExpr AKey APostfix APrimary ADetail AMember → Call-F Call Expr Key Postfix Primary Detail Member
  firsts_of_call = map-Call ACall AnExpr AKey APostfix APrimary ADetail AMember Call Expr Key Postfix Primary Detail Member (λ e. e.0) (λ e. e.0) (λ e. e.0) (λ e. e.0) (λ e. e.0) (λ e. e.0) (λ e. e.0)

  abbrev parts_of_call : Call-F Call Expr Key Postfix Primary Detail Member → CallOf Reading
  parts_of_call = map-Call Call Expr Key Postfix Primary Detail Member Reading Reading Reading Reading Reading Reading Reading read_call read_expr read_key read_postfix read_primary read_detail read_member

  rolled-call : (x : Call-F Call Expr Key Postfix Primary Detail Member) → read_call (roll-Call x) ≡ reading.call (parts_of_call x)
  rolled-call x = fold-roll-Call Reading Reading Reading Reading Reading Reading Reading reading.call reading.expr reading.key reading.postfix reading.primary reading.detail reading.member x

  abbrev firsts_of_expr : Expr-F ACall AnExpr AKey APostfix APrimary ADetail AMember → Expr-F Call Expr Key Postfix Primary Detail Member
  firsts_of_expr = map-Expr ACall AnExpr AKey APostfix APrimary ADetail AMember Call Expr Key Postfix Primary Detail Member (λ e. e.0) (λ e. e.0) (λ e. e.0) (λ e. e.0) (λ e. e.0) (λ e. e.0) (λ e. e.0)

  abbrev parts_of_expr : Expr-F Call Expr Key Postfix Primary Detail Member → ExprOf Reading
  parts_of_expr = map-Expr Call Expr Key Postfix Primary Detail Member Reading Reading Reading Reading Reading Reading Reading read_call read_expr read_key read_postfix read_primary read_detail read_member

  abbrev firsts_of_key : Key-F ACall AnExpr AKey APostfix APrimary ADetail AMember → Key-F Call Expr Key Postfix Primary Detail Member
  firsts_of_key = map-Key ACall AnExpr AKey APostfix APrimary ADetail AMember Call Expr Key Postfix Primary Detail Member (λ e. e.0) (λ e. e.0) (λ e. e.0) (λ e. e.0) (λ e. e.0) (λ e. e.0) (λ e. e.0)

  abbrev parts_of_key : Key-F Call Expr Key Postfix Primary Detail Member → KeyOf Reading
  parts_of_key = map-Key Call Expr Key Postfix Primary Detail Member Reading Reading Reading Reading Reading Reading Reading read_call read_expr read_key read_postfix read_primary read_detail read_member

  rolled-key : (x : Key-F Call Expr Key Postfix Primary Detail Member) → read_key (roll-Key x) ≡ reading.key (parts_of_key x)
  rolled-key x = fold-roll-Key Reading Reading Reading Reading Reading Reading Reading reading.call reading.expr reading.key reading.postfix reading.primary reading.detail reading.member x

  abbrev firsts_of_postfix : Postfix-F ACall AnExpr AKey APostfix APrimary ADetail AMember → Postfix-F Call Expr Key Postfix Primary Detail Member
  firsts_of_postfix = map-Postfix ACall AnExpr AKey APostfix APrimary ADetail AMember Call Expr Key Postfix Primary Detail Member (λ e. e.0) (λ e. e.0) (λ e. e.0) (λ e. e.0) (λ e. e.0) (λ e. e.0) (λ e. e.0)

  abbrev parts_of_postfix : Postfix-F Call Expr Key Postfix Primary Detail Member → PostfixOf Reading
  parts_of_postfix = map-Postfix Call Expr Key Postfix Primary Detail Member Reading Reading Reading Reading Reading Reading Reading read_call read_expr read_key read_postfix read_primary read_detail read_member

  rolled-postfix : (x : Postfix-F Call Expr Key Postfix Primary Detail Member) → read_postfix (roll-Postfix x) ≡ reading.postfix (parts_of_postfix x)
  rolled-postfix x = fold-roll-Postfix Reading Reading Reading Reading Reading Reading Reading reading.call reading.expr reading.key reading.postfix reading.primary reading.detail reading.member x

  abbrev firsts_of_primary : Primary-F ACall AnExpr AKey APostfix APrimary ADetail AMember → Primary-F Call Expr Key Postfix Primary Detail Member
  firsts_of_primary = map-Primary ACall AnExpr AKey APostfix APrimary ADetail AMember Call Expr Key Postfix Primary Detail Member (λ e. e.0) (λ e. e.0) (λ e. e.0) (λ e. e.0) (λ e. e.0) (λ e. e.0) (λ e. e.0)

  abbrev parts_of_primary : Primary-F Call Expr Key Postfix Primary Detail Member → PrimaryOf Reading
  parts_of_primary = map-Primary Call Expr Key Postfix Primary Detail Member Reading Reading Reading Reading Reading Reading Reading read_call read_expr read_key read_postfix read_primary read_detail read_member

  rolled-primary : (x : Primary-F Call Expr Key Postfix Primary Detail Member) → read_primary (roll-Primary x) ≡ reading.primary (parts_of_primary x)
  rolled-primary x = fold-roll-Primary Reading Reading Reading Reading Reading Reading Reading reading.call reading.expr reading.key reading.postfix reading.primary reading.detail reading.member x

  abbrev firsts_of_detail : Detail-F ACall AnExpr AKey APostfix APrimary ADetail AMember → Detail-F Call Expr Key Postfix Primary Detail Member
  firsts_of_detail = map-Detail ACall AnExpr AKey APostfix APrimary ADetail AMember Call Expr Key Postfix Primary Detail Member (λ e. e.0) (λ e. e.0) (λ e. e.0) (λ e. e.0) (λ e. e.0) (λ e. e.0) (λ e. e.0)

  abbrev parts_of_detail : Detail-F Call Expr Key Postfix Primary Detail Member → DetailOf Reading
  parts_of_detail = map-Detail Call Expr Key Postfix Primary Detail Member Reading Reading Reading Reading Reading Reading Reading read_call read_expr read_key read_postfix read_primary read_detail read_member

  rolled-detail : (x : Detail-F Call Expr Key Postfix Primary Detail Member) → read_detail (roll-Detail x) ≡ reading.detail (parts_of_detail x)
  rolled-detail x = fold-roll-Detail Reading Reading Reading Reading Reading Reading Reading reading.call reading.expr reading.key reading.postfix reading.primary reading.detail reading.member x

  abbrev firsts_of_member : Member-F ACall AnExpr AKey APostfix APrimary ADetail AMember → Member-F Call Expr Key Postfix Primary Detail Member
  firsts_of_member = map-Member ACall AnExpr AKey APostfix APrimary ADetail AMember Call Expr Key Postfix Primary Detail Member (λ e. e.0) (λ e. e.0) (λ e. e.0) (λ e. e.0) (λ e. e.0) (λ e. e.0) (λ e. e.0)

  abbrev parts_of_member : Member-F Call Expr Key Postfix Primary Detail Member → MemberOf Reading
  parts_of_member = map-Member Call Expr Key Postfix Primary Detail Member Reading Reading Reading Reading Reading Reading Reading read_call read_expr read_key read_postfix read_primary read_detail read_member

  rolled-member : (x : Member-F Call Expr Key Postfix Primary Detail Member) → read_member (roll-Member x) ≡ reading.member (parts_of_member x)
  rolled-member x = fold-roll-Member Reading Reading Reading Reading Reading Reading Reading reading.call reading.expr reading.key reading.postfix reading.primary reading.detail reading.member x

  -- ---- one layer of a tree

  good-expr : (y : Expr-F ACall AnExpr AKey APostfix APrimary ADetail AMember) → GoodExpr (parts_of_expr (firsts_of_expr y))
  good-expr (layer.Postfix a) = a.1
  good-expr (layer.Prefix o a at) = a.value.1
  good-expr (layer.Cast type a at) = a.value.1
  good-expr (layer.Binary a o b at) = (a.value.1, b.value.1)
  good-expr (layer.TypeTest a type at) = a.value.1
  good-expr (layer.Conditional c a b at) = (c.value.1, a.value.1, b.value.1)
  good-expr (layer.Trap a at) = a.value.1
  good-expr (layer.«Expr::Function» isolated ps result v at) = v.value.1

  good-postfix : (y : Postfix-F ACall AnExpr AKey APostfix APrimary ADetail AMember) → GoodPostfix (parts_of_postfix (firsts_of_postfix y))
  good-postfix (layer.Primary a) = a.1
  good-postfix (layer.Call a) = a.1.made
  good-postfix (layer.Field a field at) = a.value.1
  good-postfix (layer.OptionalField a field at) = a.value.1
  good-postfix (layer.Index a i at) = (a.value.1, i.value.1)

  good-call : (y : Call-F ACall AnExpr AKey APostfix APrimary ADetail AMember) → GoodCall (parts_of_call (firsts_of_call y))
  good-call (layer.«Call::Function» f args at) = (f.value.1, fresh-exprs args.items)
  good-call (layer.Method a m args at) = (a.value.1, fresh-exprs args.items)

  good-key : (y : Key-F ACall AnExpr AKey APostfix APrimary ADetail AMember) → GoodKey (parts_of_key (firsts_of_key y))
  good-key (layer.Word w) = tt
  good-key (layer.Str text at) = tt
  good-key (layer.Computed a at) = a.value.1

  good-primary : (y : Primary-F ACall AnExpr AKey APostfix APrimary ADetail AMember) → GoodPrimary (parts_of_primary (firsts_of_primary y))
  good-primary (layer.Literal x) = tt
  good-primary (layer.Name q) = tt
  good-primary (layer.Parens a at) = a.value.1
  good-primary (layer.List items at) = fresh-exprs items.items
  good-primary (layer.Mapping ms at) = quiet-members ms.items
  good-primary (layer.Error m None ds at) = (m.value.1, tt, quiet-details ds.items)
  good-primary (layer.Error m (Some c) ds at) = (m.value.1, c.value.1, quiet-details ds.items)

  -- ---- the whole

  call-step : (x : Call-F Call Expr Key Postfix Primary Detail Member) (y : Call-F ACall AnExpr AKey APostfix APrimary ADetail AMember) → firsts_of_call y ≡ x → ClaimCall (roll-Call x)
  call-step x y is =
      subst (λ z. ClaimCall (roll-Call z)) is (subst (FreshCall) (sym (rolled-call (firsts_of_call y)))
      (call-of (parts_of_call (firsts_of_call y)) (good-call y)))

  expr-step : (x : Expr-F Call Expr Key Postfix Primary Detail Member) (y : Expr-F ACall AnExpr AKey APostfix APrimary ADetail AMember) → firsts_of_expr y ≡ x → ClaimExpr (roll-Expr x)
  expr-step x y is =
      subst (λ z. ClaimExpr (roll-Expr z)) is (subst (FreshOne) (sym (rolled-expr (firsts_of_expr y)))
      (expr-of (parts_of_expr (firsts_of_expr y)) (good-expr y)))

  key-step : (x : Key-F Call Expr Key Postfix Primary Detail Member) (y : Key-F ACall AnExpr AKey APostfix APrimary ADetail AMember) → firsts_of_key y ≡ x → ClaimKey (roll-Key x)
  key-step x y is =
      subst (λ z. ClaimKey (roll-Key z)) is (subst (QuietOne) (sym (rolled-key (firsts_of_key y)))
      (key-of (parts_of_key (firsts_of_key y)) (good-key y)))

  postfix-step : (x : Postfix-F Call Expr Key Postfix Primary Detail Member) (y : Postfix-F ACall AnExpr AKey APostfix APrimary ADetail AMember) → firsts_of_postfix y ≡ x → ClaimPostfix (roll-Postfix x)
  postfix-step x y is =
      subst (λ z. ClaimPostfix (roll-Postfix z)) is (subst (FreshOne) (sym (rolled-postfix (firsts_of_postfix y)))
      (postfix-of (parts_of_postfix (firsts_of_postfix y)) (good-postfix y)))

  primary-step : (x : Primary-F Call Expr Key Postfix Primary Detail Member) (y : Primary-F ACall AnExpr AKey APostfix APrimary ADetail AMember) → firsts_of_primary y ≡ x → ClaimPrimary (roll-Primary x)
  primary-step x y is =
      subst (λ z. ClaimPrimary (roll-Primary z)) is (subst (FreshOne) (sym (rolled-primary (firsts_of_primary y)))
      (primary-of (parts_of_primary (firsts_of_primary y)) (good-primary y)))

  detail-step : (x : Detail-F Call Expr Key Postfix Primary Detail Member) (y : Detail-F ACall AnExpr AKey APostfix APrimary ADetail AMember) → firsts_of_detail y ≡ x → ClaimDetail (roll-Detail x)
  detail-step x y is =
      subst (λ z. ClaimDetail (roll-Detail z)) is (subst (QuietOne) (sym (rolled-detail (firsts_of_detail y)))
      (detail-of (parts_of_detail (firsts_of_detail y)) (y.value.value.1)))

  member-step : (x : Member-F Call Expr Key Postfix Primary Detail Member) (y : Member-F ACall AnExpr AKey APostfix APrimary ADetail AMember) → firsts_of_member y ≡ x → ClaimMember (roll-Member x)
  member-step x y is =
      subst (λ z. ClaimMember (roll-Member z)) is (subst (QuietOne) (sym (rolled-member (firsts_of_member y)))
      (member-of (parts_of_member (firsts_of_member y)) y.key.1 (y.value.value.1)))

  pub expr-fresh : (e : Expr) → FreshOne (read_expr e)
  expr-fresh = ind-Expr ClaimCall ClaimExpr ClaimKey ClaimPostfix ClaimPrimary ClaimDetail ClaimMember call-step expr-step key-step postfix-step primary-step detail-step member-step

  pub postfix-fresh : (e : Postfix) → FreshOne (read_postfix e)
  postfix-fresh = ind-Postfix ClaimCall ClaimExpr ClaimKey ClaimPostfix ClaimPrimary ClaimDetail ClaimMember call-step expr-step key-step postfix-step primary-step detail-step member-step

  call-fresh : (e : Call) → FreshCall (read_call e)
  call-fresh = ind-Call ClaimCall ClaimExpr ClaimKey ClaimPostfix ClaimPrimary ClaimDetail ClaimMember call-step expr-step key-step postfix-step primary-step detail-step member-step

  -- ---- actions

  checked : (needs : Expected → Listed Need) → ((e : Expected) → FreshNeeds (needs e)) → (e : Expected) (at : Place) → FreshNeeds (checked_needs needs e at)
  checked needs f expected.Wanted at =
      goes-first (one WantsErrorToo & needs expected.Wanted & one DropsWant) (one (Checks at))
      (ends (one WantsErrorToo) (needs expected.Wanted & one DropsWant) (by-calm passes names env calm WantsErrorToo tt)
      (goes-first (needs expected.Wanted) (one DropsWant) (f expected.Wanted) (by-calm passes names env calm DropsWant tt)))
      (by-calm passes names env calm (Checks at) tt)
  checked needs f expected.Nothing at = goes-first (needs expected.Nothing) (one (Checks at)) (f expected.Nothing) (by-calm passes names env calm (Checks at) tt)
  checked needs f expected.Immutable at = goes-first (needs expected.Nothing) (one (Checks at)) (f expected.Nothing) (by-calm passes names env calm (Checks at) tt)

  behind : (op : ActionOp) (needs : Expected → Listed Need) → ((e : Expected) → FreshNeeds (needs e)) → (e : Expected) (at : Place) → FreshNeeds (behind_word op needs e at)
  behind Check needs f e at = checked needs f e at
  behind CheckPanic needs f e at = goes-first (needs expected.Nothing) (one (ChecksPanicking at)) (f expected.Nothing) (by-calm passes names env calm (ChecksPanicking at) tt)
  behind Trap needs f e at = goes-first (needs expected.Nothing) (one (Traps at)) (f expected.Nothing) (by-calm passes names env calm (Traps at) tt)

  awaits : (q : QualifiedName) → QuietNeeds (await_needs q)
  awaits q = by-calm passes names env calm (Awaits q) tt

  awaits-member : (m : WaitMember) → QuietNeeds (await_member_needs m)
  awaits-member m = both (one (TakesKey m.key.name m.key.at)) (one (Awaits m.name)) (by-calm passes names env calm (TakesKey m.key.name m.key.at) tt) (awaits m.name)

  action-fresh : (a : Action) (e : Expected) → FreshNeeds (action_needs a e)
  action-fresh (Prefix' op _ a at) e = behind op (action_needs a) (action-fresh a) e at
  action-fresh (Start call at) e = (call-fresh call).started (read_call call).at at
  action-fresh (WaitAny qs at) e =
      ends (in_turn await_needs qs.items) (one (WaitsForAny qs.items at)) (quiet-turns passes names env calm await_needs awaits qs.items nothing empty)
      (clearing passes names env calm (WaitsForAny qs.items at) (by-calm passes names env calm (WaitsForAny qs.items at) tt) (any-clears passes names qs.items at))
  action-fresh (WaitAll ms at) e =
      let last : Need = WaitsForAll (map (λ (m : WaitMember). m.name) ms.items) at in
      ends (one BeginsKeys) (in_turn await_member_needs ms.items & one last) (by-calm passes names env calm BeginsKeys tt)
      (ends (in_turn await_member_needs ms.items) (one last) (quiet-turns passes names env calm await_member_needs awaits-member ms.items nothing empty)
      (clearing passes names env calm last (by-calm passes names env calm last tt) (all-clears passes names (map (λ (m : WaitMember). m.name) ms.items) at)))
  action-fresh (Flush peer at) e = clearing passes names env calm (Flushes peer at) (by-calm passes names env calm (Flushes peer at) tt) (flushes-clears passes names peer at)
  action-fresh (Receive peer at) e = clearing passes names env calm (Receives e peer at) (by-calm passes names env calm (Receives e peer at) tt) (receives-clears passes names e peer at)
  action-fresh (Send value peer at) e =
      goes-first (against kind.Sendable (read_expr value.value)) (one (Sends peer at)) (against-so kind.Sendable (read_expr value.value) (expr-fresh value.value))
      (by-calm passes names env calm (Sends peer at) tt)
  action-fresh (SyncSend value peer at) e =
      goes-first (against kind.Sendable (read_expr value.value)) (one (SendsAndWaits peer at)) (against-so kind.Sendable (read_expr value.value) (expr-fresh value.value))
      (by-calm passes names env calm (SendsAndWaits peer at) tt)

  pub rhs-fresh : (x : Rhs) → FreshOne (read_rhs x)
  rhs-fresh (ExprRhs x) = expr-fresh x.value
  rhs-fresh (ActionRhs a) = action-fresh a.value
