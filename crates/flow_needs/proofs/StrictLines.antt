-- Lines that evaluate all their operands and make one part of them.
use Rattle.std.proofs.Common.{◌≡◌, Bool, true, List, [], ◌∷◌, length, map, All, Option}
use Rattle.std.proofs.lemmas.List.Elements.{All-cons, All-head, All-nil, All-tail}
use Rattle.bal_base.specs.declared.place.Place.{Place}
use Rattle.bal_tree.specs.declared.name.Literal.{Literal}
use Rattle.bal_tree.specs.declared.name.Word.{Word}
use Rattle.bal_tree.specs.declared.types.TypeTree.{TypeTree}
use Rattle.descriptors.specs.declared.names.Names.{Names}
use Rattle.needs.specs.Needs.{in_turn}
use Rattle.operations.specs.Rows.{Surroundings}
use Rattle.type_model.specs.declared.answers.TypeLimit.{TypeLimit}
use Rattle.type_model.specs.declared.atoms.AtomDef.{AtomDef}
use Rattle.type_model.specs.Calls.{Asked}
use Rattle.typed_tree.specs.Listed.{Listed, nothing, one, ◌&◌}
use Rattle.expr_needs.specs.declared.expected.Expected.{Expected}
use Rattle.expr_needs.specs.declared.expected.Expected.TheVariants as expected
use Rattle.expr_needs.specs.declared.kind.Kind.{Kind}
use Rattle.expr_needs.specs.declared.kind.Kind.TheVariants as kind
use Rattle.expr_needs.specs.declared.operators.Family.{Family}
use Rattle.expr_needs.specs.declared.operators.Family.TheVariants.{Arithmetic, Sum, Order, Equality, Identity, Condition, Elvis}
use Rattle.expr_needs.specs.ExprTable.{Reading, against, argument_needs, binary_needs, element_needs, freely, item_needs, list_needs, method_needs}
use Rattle.expr_needs.specs.Needs.{Need, Adds, CallsMethod, Casts, ChoosesList, Compares, Decides, Describes, ExpectsArgument, ExpectsItem, Forms, GivesLiteral, IsAccessed, IsArgument, IsIndex, IsItem, IsOf, IsSort, MakesCall, MakesList, ReadsElement, ReadsField, ReadsOptional}
use Rattle.expr_needs.specs.Operators.{expectation, left_expects, left_needs, made_of, right_expects, right_needs}
use Rattle.check_words.specs.Meets.{meets}
use Rattle.tree_promises.specs.Flows.{Around}
use Rattle.tree_promises.specs.Laws.{MadeExprsKeepFlows}
use Rattle.calm_needs.specs.Calm.{IsCalmNeed, NeedsAreCalm}
use Rattle.typed_exprs.proofs.Operands.{none-expected}
use Rattle.flow_needs.specs.Runs.{KnowsFlow}
use Rattle.flow_needs.proofs.Growing.{Weaving}
use Rattle.flow_needs.proofs.Needs.{quiet-calls-method, quiet-chooses-list, quiet-decides, quiet-describes, quiet-expects-argument, quiet-expects-item, quiet-index, quiet-is-accessed, quiet-is-argument, quiet-is-item, quiet-kind, quiet-sort, weave-adds, weave-call, weave-casts, weave-compares, weave-element, weave-field, weave-forms, weave-list, weave-literal, weave-optional}
use Rattle.flow_needs.proofs.Quieting.{Quiet}
use Rattle.flow_needs.proofs.Stepping.{Growing, LeadsTo, grow-nothing, grow-operand, grow-quiet, grow-then, grow-turn, grow-wanted, FlowLine, lead-calm, lead-then, strict-line}
use Rattle.flow_needs.proofs.Wanting.{argument-wanted, item-wanted}

-- operators that evaluate both operands and make one value of them
abbrev pub EntersNoWay : Family → Type 0
EntersNoWay (Arithmetic o) = Unit {0}
EntersNoWay Sum = Unit {0}
EntersNoWay (Order o) = Unit {0}
EntersNoWay (Equality o) = Unit {0}
EntersNoWay (Identity o) = Unit {0}
EntersNoWay (Condition holds) = ⊥
EntersNoWay Elvis = ⊥

module _ (passes : List AtomDef → Asked → TypeLimit → Type 0) (names : Names) (env : List AtomDef) (calm : NeedsAreCalm passes names) (flows : MadeExprsKeepFlows) where
  abbrev pub K : Reading → Type 0
  K = KnowsFlow passes names env

  -- ---- what the parts of lines grow

  module _ (place : Surroundings) (around : Around) (live : Bool) (slots : around.slots ≡ place.slots) where
    abbrev pub G : Listed Need → Type 0
    G = Growing passes names env calm flows place around live slots

    abbrev pub L : Need → Listed Need → Type 0
    L = LeadsTo passes names env calm flows place around live slots

    pub both : (p q : Listed Need) → G p → G q → G (p & q)
    both p q f g = grow-then passes names env calm flows place around live slots p q f g

    pub leads : (need : Need) (p q : Listed Need) → G p → L need q → L need (p & q)
    leads need p q f g = lead-then passes names env calm flows place around live slots need p q f g

    pub quietly : (need : Need) → IsCalmNeed need → Quiet (meets passes names need) → G (one need)
    quietly need is quiet = grow-quiet passes names env calm flows place around live slots need is quiet

    pub last : (need : Need) → IsCalmNeed need → L need (one need)
    last need is = lead-calm passes names env calm flows place around live slots need is

    pub free-operand : (a : Reading) → K a → G (freely a)
    free-operand a k = grow-operand passes names env calm flows place around live slots a k expected.Nothing (λ many. tt)

    pub of-kind : (kd : Kind) (a : Reading) → K a → G (a.needs (expectation kd))
    of-kind kd a k = grow-operand passes names env calm flows place around live slots a k (expectation kd) (none-expected passes names env kd)

    pub is-kind : (kd : Kind) (at : Place) → G (one (IsOf kd at))
    is-kind kd at = quietly (IsOf kd at) tt (quiet-kind passes names kd at)

    pub operand : (kd : Kind) (a : Reading) → K a → G (against kd a)
    operand kd a k = both (a.needs (expectation kd)) (one (IsOf kd a.at)) (of-kind kd a k) (is-kind kd a.at)

    pub nothing-more : G nothing
    nothing-more = grow-nothing passes names env calm flows place around live slots

    -- ---- operators

    left : (f : Family) → EntersNoWay f → (a : Reading) → K a → G (a.needs (left_expects f) & left_needs f a.at)
    left (Arithmetic o) is a k = operand kind.Integer a k
    left Sum is a k =
        both (a.needs (expectation kind.IntOrText)) (one (IsOf kind.IntOrText a.at) & one (Decides a.at)) (of-kind kind.IntOrText a k)
        (both (one (IsOf kind.IntOrText a.at)) (one (Decides a.at)) (is-kind kind.IntOrText a.at) (quietly (Decides a.at) tt (quiet-decides passes names a.at)))
    left (Order o) is a k =
        both (a.needs (expectation kind.IntOrText)) (one (IsOf kind.IntOrText a.at) & one (Decides a.at)) (of-kind kind.IntOrText a k)
        (both (one (IsOf kind.IntOrText a.at)) (one (Decides a.at)) (is-kind kind.IntOrText a.at) (quietly (Decides a.at) tt (quiet-decides passes names a.at)))
    left (Equality o) is a k = operand kind.Anydata a k
    left (Identity o) is a k = both (a.needs expected.Nothing) nothing (free-operand a k) nothing-more
    left (Condition holds) is a k = absurd is
    left Elvis is a k = absurd is

    right : (f : Family) → EntersNoWay f → (e : Expected) (b : Reading) → K b → G (b.needs (right_expects f e) & right_needs f b.at)
    right (Arithmetic o) is e b k = operand kind.Integer b k
    right Sum is e b k =
        both (b.needs (expectation kind.IntOrText)) (one (IsSort b.at)) (of-kind kind.IntOrText b k) (quietly (IsSort b.at) tt (quiet-sort passes names b.at))
    right (Order o) is e b k =
        both (b.needs (expectation kind.IntOrText)) (one (IsSort b.at)) (of-kind kind.IntOrText b k) (quietly (IsSort b.at) tt (quiet-sort passes names b.at))
    right (Equality o) is e b k = operand kind.Anydata b k
    right (Identity o) is e b k = both (b.needs expected.Nothing) nothing (free-operand b k) nothing-more
    right (Condition holds) is e b k = absurd is
    right Elvis is e b k = absurd is

    made : (f : Family) → EntersNoWay f → (at : Place) → L (made_of f at) (one (made_of f at))
    made (Arithmetic o) is at = last (Forms o 2 kind.Integer at) tt
    made Sum is at = last (Adds at) tt
    made (Order o) is at = last (Compares o at) tt
    made (Equality o) is at = last (Forms o 2 kind.Truth at) tt
    made (Identity o) is at = last (Forms o 2 kind.Truth at) tt
    made (Condition holds) is at = absurd is
    made Elvis is at = absurd is

    -- ---- members

    accessed : (texts : Bool) (a i : Reading) → K a → K i → G (element_needs texts a i)
    accessed texts a i ka ki =
        both (freely a & one (IsAccessed texts a.at)) (i.needs expected.Immutable & one (IsIndex i.at))
        (both (freely a) (one (IsAccessed texts a.at)) (free-operand a ka) (quietly (IsAccessed texts a.at) tt (quiet-is-accessed passes names texts a.at)))
        (both (i.needs expected.Immutable) (one (IsIndex i.at)) (grow-operand passes names env calm flows place around live slots i ki expected.Immutable (λ many. tt))
        (quietly (IsIndex i.at) tt (quiet-index passes names i.at)))

    -- ---- items and arguments

    item : (x : Reading) → K x → G (item_needs x)
    item x k =
        grow-wanted passes names env calm flows place around live slots ExpectsItem tt (quiet-expects-item passes names) item-wanted x k (one (IsItem x.at))
        (quietly (IsItem x.at) tt (quiet-is-item passes names x.at))

    pub argument : (at : Place) (x : Reading) → K x → G (argument_needs at x)
    argument at x k =
        grow-wanted passes names env calm flows place around live slots (ExpectsArgument at) tt (quiet-expects-argument passes names at) (argument-wanted passes at) x k
        (one (IsArgument x.at)) (quietly (IsArgument x.at) tt (quiet-is-argument passes names x.at))

    each : (f : Reading → Listed Need) → ((x : Reading) → K x → G (f x)) → (xs : List Reading) → All K xs → All (λ x. G (f x)) xs
    each f g [] all = All-nil (λ x. G (f x))
    each f g (x ∷ xs) all = All-cons (λ x. G (f x)) x xs (g x (All-head K x xs all)) (each f g xs (All-tail K x xs all))

    each-of : {X : Type 0} (f : X → Listed Need) → ((x : X) → G (f x)) → (xs : List X) → All (λ x. G (f x)) xs
    each-of f g [] = All-nil (λ x. G (f x))
    each-of f g (x ∷ xs) = All-cons (λ x. G (f x)) x xs (g x) (each-of f g xs)

    -- one behind another
    pub turns-of : {X : Type 0} (f : X → Listed Need) → ((x : X) → G (f x)) → (xs : List X) → G (in_turn f xs)
    turns-of f g xs = grow-turn passes names env calm flows place around live slots f xs (each-of f g xs)

    pub turns : (f : Reading → Listed Need) → ((x : Reading) → K x → G (f x)) → (xs : List Reading) → All K xs → G (in_turn f xs)
    turns f g xs all = grow-turn passes names env calm flows place around live slots f xs (each f g xs all)

    pub arguments : (at : Place) (args : List Reading) → All K args → G (in_turn (argument_needs at) args)
    arguments at args all = turns (argument_needs at) (argument at) args all

  -- ---- the lines

  abbrev pub Line : (Expected → Listed Need) → Type 0
  Line = FlowLine passes names env

  pub literal : (l : Literal) → Line (λ e. one (GivesLiteral l))
  literal l =
      strict-line passes names env calm flows (λ e. GivesLiteral l) (λ e. one (GivesLiteral l)) (λ e. weave-literal passes names l)
      (λ place around live slots e. last place around live slots (GivesLiteral l) tt)

  weave-binary : (f : Family) → EntersNoWay f → (at : Place) → Weaving (meets passes names (made_of f at))
  weave-binary (Arithmetic o) is at = weave-forms passes names o 2 kind.Integer at
  weave-binary Sum is at = weave-adds passes names at
  weave-binary (Order o) is at = weave-compares passes names o at
  weave-binary (Equality o) is at = weave-forms passes names o 2 kind.Truth at
  weave-binary (Identity o) is at = weave-forms passes names o 2 kind.Truth at
  weave-binary (Condition holds) is at = absurd is
  weave-binary Elvis is at = absurd is

  pub binary : (f : Family) → EntersNoWay f → (a b : Reading) (at : Place) → K a → K b → Line (λ e. binary_needs f a b at e)
  binary f is a b at ka kb =
      strict-line passes names env calm flows (λ e. made_of f at) (λ e. binary_needs f a b at e) (λ e. weave-binary f is at)
      (λ place around live slots e.
      leads place around live slots (made_of f at) (a.needs (left_expects f) & left_needs f a.at) ((b.needs (right_expects f e) & right_needs f b.at) & one (made_of f at))
      (left place around live slots f is a ka)
      (leads place around live slots (made_of f at) (b.needs (right_expects f e) & right_needs f b.at) (one (made_of f at)) (right place around live slots f is e b kb) (made place around live slots f is at)))

  pub cast : (type : TypeTree) (a : Reading) (at : Place) → K a → Line (λ e. one (Describes type) & freely a & one (Casts at))
  cast type a at k =
      strict-line passes names env calm flows (λ e. Casts at) (λ e. one (Describes type) & freely a & one (Casts at)) (λ e. weave-casts passes names at)
      (λ place around live slots e.
      leads place around live slots (Casts at) (one (Describes type)) (freely a & one (Casts at)) (quietly place around live slots (Describes type) tt (quiet-describes passes names type))
      (leads place around live slots (Casts at) (freely a) (one (Casts at)) (free-operand place around live slots a k) (last place around live slots (Casts at) tt)))

  pub field : (a : Reading) (w : Word) (at : Place) → K a → Line (λ e. against kind.AnyMapping a & one (ReadsField w at))
  field a w at k =
      strict-line passes names env calm flows (λ e. ReadsField w at) (λ e. against kind.AnyMapping a & one (ReadsField w at)) (λ e. weave-field passes names w at)
      (λ place around live slots e.
      leads place around live slots (ReadsField w at) (against kind.AnyMapping a) (one (ReadsField w at)) (operand place around live slots kind.AnyMapping a k) (last place around live slots (ReadsField w at) tt))

  pub optional : (a : Reading) (w : Word) (at : Place) → K a → Line (λ e. against kind.MappingOrNil a & one (ReadsOptional w at))
  optional a w at k =
      strict-line passes names env calm flows (λ e. ReadsOptional w at) (λ e. against kind.MappingOrNil a & one (ReadsOptional w at)) (λ e. weave-optional passes names w at)
      (λ place around live slots e.
      leads place around live slots (ReadsOptional w at) (against kind.MappingOrNil a) (one (ReadsOptional w at)) (operand place around live slots kind.MappingOrNil a k)
      (last place around live slots (ReadsOptional w at) tt))

  pub element : (a i : Reading) (at : Place) → K a → K i → Line (λ e. element_needs true a i & one (ReadsElement at))
  element a i at ka ki =
      strict-line passes names env calm flows (λ e. ReadsElement at) (λ e. element_needs true a i & one (ReadsElement at)) (λ e. weave-element passes names at)
      (λ place around live slots e.
      leads place around live slots (ReadsElement at) (element_needs true a i) (one (ReadsElement at)) (accessed place around live slots true a i ka ki) (last place around live slots (ReadsElement at) tt))

  pub method : (a : Reading) (m : Word) (args : List Reading) (at : Place) → K a → All K args → Line (λ e. method_needs a m args at & one (MakesCall at))
  method a m args at ka all =
      strict-line passes names env calm flows (λ e. MakesCall at) (λ e. method_needs a m args at & one (MakesCall at)) (λ e. weave-call passes names at)
      (λ place around live slots e.
      leads place around live slots (MakesCall at) (method_needs a m args at) (one (MakesCall at))
      (both place around live slots (freely a & one (CallsMethod m (length args) at)) (in_turn (argument_needs at) args)
      (both place around live slots (freely a) (one (CallsMethod m (length args) at)) (free-operand place around live slots a ka)
      (quietly place around live slots (CallsMethod m (length args) at) tt (quiet-calls-method passes names m (length args) at)))
      (arguments place around live slots at args all))
      (last place around live slots (MakesCall at) tt))

  pub list : (items : List Reading) (at : Place) → All K items → Line (λ e. list_needs items at e)
  list items at all =
      strict-line passes names env calm flows (λ e. MakesList (length items) at) (λ e. list_needs items at e) (λ e. weave-list passes names (length items) at)
      (λ place around live slots e.
      let literals : List (Option Literal) = map (λ (i : Reading). i.literal) items in
      leads place around live slots (MakesList (length items) at) (one (ChoosesList e literals at) & in_turn item_needs items) (one (MakesList (length items) at))
      (both place around live slots (one (ChoosesList e literals at)) (in_turn item_needs items)
      (quietly place around live slots (ChoosesList e literals at) tt (quiet-chooses-list passes names e literals at)) (turns place around live slots item_needs (item place around live slots) items all))
      (last place around live slots (MakesList (length items) at) tt))
