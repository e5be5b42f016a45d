-- List constructors, item by item.
use Rattle.std.proofs.Common.{◌≡◌, ◌≤◌, ◌∙◌, ◌++◌, ℕ, List, [], ◌∷◌, length, map, All, Option, append-nil, append_assoc, arith, length-append, refl, sym, subst, ap}
use Rattle.std.proofs.lemmas.List.{length-map}
use Rattle.std.proofs.lemmas.List.Elements.{All-nil}
use Rattle.bal_base.specs.declared.place.Place.{Place}
use Rattle.bal_tree.specs.declared.name.Literal.{Literal}
use Rattle.descriptors.specs.declared.names.Names.{Names}
use Rattle.needs.specs.Needs.{in_turn}
use Rattle.operations.specs.Rows.{Surroundings}
use Rattle.type_model.specs.declared.answers.TypeLimit.{TypeLimit}
use Rattle.type_model.specs.declared.atoms.AtomDef.{AtomDef}
use Rattle.type_model.specs.Calls.{Asked}
use Rattle.typed_tree.specs.declared.expr.TypedExpr.{TypedExpr}
use Rattle.typed_tree.specs.Listed.{one, ◌&◌}
use Rattle.expr_needs.specs.declared.expected.Expected.TheVariants as expected
use Rattle.expr_needs.specs.ExprTable.{Reading, item_needs, list_needs}
use Rattle.expr_needs.specs.Needs.{ChoosesList, ExpectsItem, IsItem, MakesList}
use Rattle.check_words.specs.State.{ConstructorAtWork, IsLast, State}
use Rattle.check_laws.specs.Laws.{IsReady}
use Rattle.tree_promises.specs.Made.{AreTypedExprs}
use Rattle.typed_needs.specs.Between.{IsKept, IsSoFar, IsTypedUnit, units_in}
use Rattle.typed_needs.specs.Items.{HoldsItems, ListsAreTyped}
use Rattle.typed_needs.specs.Placing.{AreNamed}
use Rattle.typed_needs.proofs.Items.{lists-are-typed}
use Rattle.calm_needs.specs.Calm.{NeedsAreCalm}
use Rattle.typed_exprs.specs.Lines.{Claim, Knows, Path, Run}
use Rattle.typed_exprs.proofs.Loops.{chain-path, chained, go, item-wanted, more-units, replaced-last, typed-more, units-more}
use Rattle.typed_exprs.proofs.Operators.{calm-so, lasts, made-step, step-path}
use Rattle.typed_exprs.proofs.Steps.{before, calm-keeps, parted, path-on, so-far}

module _ (passes : List AtomDef → Asked → TypeLimit → Type 0) (names : Names) (env : List AtomDef) (calm : NeedsAreCalm passes names) where
  -- a list constructor that is open, whose items so far stand behind what there was
  record HoldsList (place : Surroundings) (base : State) (count : ℕ) (done : List Reading) (s : State) : Type 0 where
    pub c : ConstructorAtWork
    pub constructors : s.constructors ≡ base.constructors ++ c ∷ []
    pub parts : List TypedExpr
    pub found : s.found ≡ base.found ++ parts
    pub many : length parts ≡ length done
    pub typed : AreTypedExprs env place parts
    pub units : All (IsTypedUnit env place) (units_in parts)
    pub kept : IsKept place s
    pub holds : HoldsItems env c count parts

  wanted-ready : (old a : State) → Path old a → 1 ≤ length old.units → 1 ≤ length a.wants → IsReady expected.Wanted a
  wanted-ready old a path unit wants = record { unit = more-units old a path unit; wants = wants }

  item-path : (x : Reading) → Knows passes names env x → (old new : State) → 1 ≤ length old.units → Run passes names env (item_needs x) old new → Path old new
  item-path x kx old new unit run =
      let (a, se, rest) = parted passes names env (one ExpectsItem) (x.needs expected.Wanted & one (IsItem x.at)) old new run in
      let (b, rx, si) = parted passes names env (x.needs expected.Wanted) (one (IsItem x.at)) a new rest in
      let first = step-path passes names env calm ExpectsItem tt old a se in
      let left = kx.leaves expected.Wanted a b (wanted-ready old a first unit (item-wanted old a se.0)) rx in
      path-on old a new first (path-on a b new left.path (step-path passes names env calm (IsItem x.at) tt b new si))

  item-taken : (place : Surroundings) → AreNamed env names place → (base : State) (count : ℕ) (done : List Reading) (x : Reading) → Knows passes names env x → (old new : State)
      → 1 ≤ length old.units → Run passes names env (item_needs x) old new → IsSoFar env place new → HoldsList place base count done old → HoldsList place base count (done ++ x ∷ []) new
  item-taken place named base count done x kx old new unit run far h =
      let (a, se, rest) = parted passes names env (one ExpectsItem) (x.needs expected.Wanted & one (IsItem x.at)) old new run in
      let (b, rx, si) = parted passes names env (x.needs expected.Wanted) (one (IsItem x.at)) a new rest in
      let first = step-path passes names env calm ExpectsItem tt old a se in
      let ready = wanted-ready old a first unit (item-wanted old a se.0) in
      let left = kx.leaves expected.Wanted a b ready rx in
      let far-b = so-far env place b new (step-path passes names env calm (IsItem x.at) tt b new si) far in
      let far-a = so-far env place a b left.path far-b in
      let far-old = so-far env place old a first far-a in
      let lists : ListsAreTyped passes names env place = lists-are-typed passes names env place in
      let (w, is, awaits) = lists.expected old a h.c far-old.first se.0 (record { kept = base.constructors; is = h.constructors }) in
      let y = kx.claim expected.Wanted place a b ready rx (calm-keeps place old a (calm-so passes names env calm ExpectsItem tt old a se) se.1 h.kept) far-b named in
      let constructors-b : b.constructors ≡ base.constructors ++ h.c ∷ [] = left.more.same.constructors ∙ ap (λ (s : State). s.constructors) is ∙ h.constructors in
      let last-w : IsLast b.wants w = record { kept = old.wants; is = left.more.same.wants ∙ ap (λ (s : State). s.wants) is } in
      let kept-new = calm-keeps place b new (calm-so passes names env calm (IsItem x.at) tt b new si) si.1 y.kept in
      let taken = lists.taken x.at b new h.c y.part w count h.parts (before env place b y.kept far-b) (before env place new kept-new far) si.0
      (record { kept = base.constructors; is = constructors-b }) (record { kept = a.found; is = y.found }) last-w awaits h.holds in
      record {
        c = taken.now;
        constructors = taken.constructors ∙ replaced-last b.constructors base.constructors h.c taken.now constructors-b;
        parts = h.parts ++ y.part ∷ [];
        found = taken.found ∙ y.found ∙ ap (λ (s : State). s.found ++ y.part ∷ []) is ∙ ap (λ xs. xs ++ y.part ∷ []) h.found ∙ append_assoc base.found h.parts (y.part ∷ []);
        many = (let l = length-append h.parts (y.part ∷ []) in let d = length-append done (x ∷ []) in let m = h.many in omega (arith, l, d, m));
        typed = typed-more env place h.parts (y.part ∷ []) h.typed (y.typed, tt);
        units = units-more env place h.parts (y.part ∷ []) h.units y.units;
        kept = kept-new;
        holds = taken.holds;
      }

  pub list : (items : List Reading) (at : Place) → All (Knows passes names env) items → Claim passes names env (λ e. list_needs items at e)
  list items at known e place old new ready run kept far named =
      let literals : List (Option Literal) = map (λ (i : Reading). i.literal) items in
      let (b, rb, sm) = parted passes names env (one (ChoosesList e literals at) & in_turn item_needs items) (one (MakesList (length items) at)) old new run in
      let (a, sa, ri) = parted passes names env (one (ChoosesList e literals at)) (in_turn item_needs items) old b rb in
      let chain = chained passes names env item_needs items a b ri in
      let path-a = step-path passes names env calm (ChoosesList e literals at) tt old a sa in
      let unit-a = more-units old a path-a ready.unit in
      let path-b = chain-path passes names env item_needs place (Knows passes names env) item-path items known a b unit-a chain in
      let far-b = so-far env place b new (step-path passes names env calm (MakesList (length items) at) tt b new sm) far in
      let far-a = so-far env place a b path-b far-b in
      let far-old = so-far env place old a path-a far-a in
      let lists : ListsAreTyped passes names env place = lists-are-typed passes names env place in
      let (c, is, holds) = lists.chosen e literals at old a far-old.first sa.0 in
      let begun : HoldsList place old (length literals) [] a = record {
        c = c;
        constructors = ap (λ (s : State). s.constructors) is;
        parts = [];
        found = ap (λ (s : State). s.found) is ∙ sym (append-nil old.found);
        many = refl;
        typed = tt;
        units = All-nil (IsTypedUnit env place);
        kept = calm-keeps place old a (calm-so passes names env calm (ChoosesList e literals at) tt old a sa) sa.1 kept;
        holds = holds;
      } in
      let h : HoldsList place old (length literals) items b =
      go passes names env item_needs place (Knows passes names env) item-path (HoldsList place old (length literals)) (item-taken place named old (length literals)) items [] known a b unit-a chain far-b begun in
      let kept-new = calm-keeps place b new (calm-so passes names env calm (MakesList (length items) at) tt b new sm) sm.1 h.kept in
      let holds-all : HoldsItems env h.c (length items) h.parts = subst (λ n. HoldsItems env h.c n h.parts) (length-map items (λ (i : Reading). i.literal)) h.holds in
      made-step passes names env calm (MakesList (length items) at) tt place (length items) h.parts old b new h.found h.many h.units h.kept sm
      (lists.made at b new h.c (length items) h.parts (before env place b h.kept far-b) (before env place new kept-new far) far.first sm.0
      (record { kept = old.constructors; is = h.constructors }) (lasts passes names env calm old b h.parts (length items) h.found h.many) h.typed holds-all)
