-- What is read in turn: a step a member, from the first one to the last.
use Rattle.std.proofs.Common.{◌≡◌, ◌≤◌, ◌∙◌, ◌++◌, List, [], ◌∷◌, length, All, Option, append-nil, append_assoc, arith, length-append, refl, sym, subst, ap}
use Rattle.std.proofs.lemmas.List.Elements.{All-append, All-head, All-nil, All-tail}
use Rattle.checks.specs.Checks.{Gives, ◌▷◌, gives_some}
use Rattle.descriptors.specs.declared.names.Names.{Names}
use Rattle.needs.specs.Needs.{in_turn, in_turn_from}
use Rattle.operations.specs.Rows.{Surroundings}
use Rattle.type_model.specs.declared.answers.TypeLimit.{TypeLimit}
use Rattle.type_model.specs.declared.atoms.AtomDef.{AtomDef}
use Rattle.type_model.specs.Calls.{Asked}
use Rattle.typed_tree.specs.declared.expr.TypedExpr.{TypedExpr}
use Rattle.typed_tree.specs.Listed.{Listed, nothing, ◌&◌}
use Rattle.typed_tree.specs.SharedTypes.{Shared}
use Rattle.expr_needs.specs.Needs.{Need}
use Rattle.check_words.specs.Constructors.{expects_item, expects_member}
use Rattle.check_words.specs.State.{State, replaced}
use Rattle.tree_promises.specs.Made.{AreTypedExprs}
use Rattle.typed_needs.specs.Between.{IsSoFar, IsTypedUnit, units_in}
use Rattle.typed_needs.proofs.Going.{each-itself}
use Rattle.typed_needs.proofs.Items.{want-put}
use Rattle.typed_needs.proofs.Placed.{all-but-last}
use Rattle.calm_needs.proofs.PlacedParts.{units-append}
use Rattle.typed_exprs.specs.Lines.{Path, Run}
use Rattle.typed_exprs.proofs.Steps.{calm-path, parted, path-on, same-front, so-far}

pub path-itself : (s : State) → Path s s
path-itself s = calm-path s s (record { more = []; atoms = sym (append-nil s.atoms); each = each-itself s.units }) refl

pub more-units : (s t : State) → Path s t → 1 ≤ length s.units → 1 ≤ length t.units
more-units s t path unit = let q = path.many in omega (arith, unit, q)

-- ---- parts and what is open

-- the last one is another one then
pub replaced-last : {A : Type 0} (xs kept : List A) (x y : A) → xs ≡ kept ++ x ∷ [] → replaced xs y ≡ kept ++ y ∷ []
replaced-last xs kept x y is = ap (λ zs. replaced zs y) is ∙ ap (λ zs. zs ++ y ∷ []) (all-but-last kept x)

pub typed-more : (env : List AtomDef) (place : Surroundings) (es fs : List TypedExpr) → AreTypedExprs env place es → AreTypedExprs env place fs → AreTypedExprs env place (es ++ fs)
typed-more env place [] fs h more = more
typed-more env place (e ∷ es) fs h more = (h.0, typed-more env place es fs h.1 more)

pub units-more : (env : List AtomDef) (place : Surroundings) (es fs : List TypedExpr) → All (IsTypedUnit env place) (units_in es) → All (IsTypedUnit env place) (units_in fs)
    → All (IsTypedUnit env place) (units_in (es ++ fs))
units-more env place es fs h k = subst (All (IsTypedUnit env place)) (sym (units-append es fs)) (All-append (IsTypedUnit env place) (units_in es) (units_in fs) h k)

-- parts that come with a step that makes no units have none
pub no-units : (old new : State) (parts : List TypedExpr) → new.found ≡ old.found ++ parts → units_in new.found ≡ units_in old.found → units_in parts ≡ []
no-units old new parts found units =
    same-front (units_in old.found) (units_in parts) []
    (sym (units-append old.found parts) ∙ ap (λ (xs : List TypedExpr). units_in xs) (sym found) ∙ units ∙ sym (append-nil (units_in old.found)))

-- so they are all typed
pub none-made : (env : List AtomDef) (place : Surroundings) (parts : List TypedExpr) → units_in parts ≡ [] → All (IsTypedUnit env place) (units_in parts)
none-made env place parts none = subst (All (IsTypedUnit env place)) (sym none) (All-nil (IsTypedUnit env place))

-- one want more
pub want-more : (w : Option Shared) (s t : State) → t ≡ record s { wants = s.wants ++ w ∷ [] } → 1 ≤ length t.wants
want-more w s t is = let long = ap (λ (x : State). length x.wants) is in let more = length-append s.wants (w ∷ []) in omega (arith, long, more)

pub item-wanted : (old new : State) → expects_item old (Gives tt) new → 1 ≤ length new.wants
unfolding ◌▷◌ gives_some
item-wanted old new (c, s1, first, (w, s2, second, put)) = let (x, same, is) = want-put w tt s2 new put in want-more x s2 new is

pub member-wanted : (old new : State) → expects_member old (Gives tt) new → 1 ≤ length new.wants
unfolding ◌▷◌ gives_some
member-wanted old new (c, s1, first, (w, s2, second, put)) = let (x, same, is) = want-put w tt s2 new put in want-more x s2 new is

module _ (passes : List AtomDef → Asked → TypeLimit → Type 0) (names : Names) (env : List AtomDef) where
  -- ---- one behind another

  abbrev pub Chain : {X : Type 0} → (X → Listed Need) → List X → State → State → Type 0
  Chain f [] old new = new ≡ old
  Chain f (x ∷ xs) old new = (mid : State) × Run passes names env (f x) old mid × Chain f xs mid new

  chained-from : {X : Type 0} (f : X → Listed Need) (xs : List X) (start : Listed Need) (old new : State) → Run passes names env (in_turn_from start f xs) old new
      → (mid : State) × Run passes names env start old mid × Chain f xs mid new
  chained-from f [] start old new run = (new, run, refl)
  chained-from f (x ∷ xs) start old new run =
      let (m, both, rest) = chained-from f xs (start & f x) old new run in
      let (k, first, second) = parted passes names env start (f x) old m both in
      (k, first, (m, second, rest))

  nothing-run : (old new : State) → Run passes names env nothing old new → new ≡ old
  unfolding gives_some
  nothing-run old new (is, same) = same

  pub chained : {X : Type 0} (f : X → Listed Need) (xs : List X) (old new : State) → Run passes names env (in_turn f xs) old new → Chain f xs old new
  chained f xs old new run =
      let (m, none, chain) = chained-from f xs nothing old new run in subst (λ (s : State). Chain f xs s new) (nothing-run old m none) chain

  -- what is so of each member goes forth, and what is known of the end goes back
  module _ {X : Type 0} (f : X → Listed Need) (place : Surroundings) (Good : X → Type 0)
      (moves : (x : X) → Good x → (old new : State) → 1 ≤ length old.units → Run passes names env (f x) old new → Path old new) where
    pub chain-path : (xs : List X) → All Good xs → (old new : State) → 1 ≤ length old.units → Chain f xs old new → Path old new
    chain-path [] good old new unit same = subst (λ (s : State). Path old s) (sym same) (path-itself old)
    chain-path (x ∷ xs) good old new unit (mid, run, rest) =
        let first = moves x (All-head Good x xs good) old mid unit run in
        path-on old mid new first (chain-path xs (All-tail Good x xs good) mid new (more-units old mid first unit) rest)

    pub go : (Inv : List X → State → Type 0)
        → ((done : List X) (x : X) → Good x → (old new : State) → 1 ≤ length old.units → Run passes names env (f x) old new → IsSoFar env place new → Inv done old → Inv (done ++ x ∷ []) new)
        → (xs done : List X) → All Good xs → (old new : State) → 1 ≤ length old.units → Chain f xs old new → IsSoFar env place new → Inv done old → Inv (done ++ xs) new
    go Inv step [] done good old new unit same far inv = subst (λ (s : State). Inv (done ++ []) s) (sym same) (subst (λ ys. Inv ys old) (sym (append-nil done)) inv)
    go Inv step (x ∷ xs) done good old new unit (mid, run, rest) far inv =
        let first = moves x (All-head Good x xs good) old mid unit run in
        let unit-mid = more-units old mid first unit in
        let far-mid = so-far env place mid new (chain-path xs (All-tail Good x xs good) mid new unit-mid rest) far in
        subst (λ ys. Inv ys new) (append_assoc done (x ∷ []) xs)
        (go Inv step xs (done ++ x ∷ []) (All-tail Good x xs good) mid new unit-mid rest far (step done x (All-head Good x xs good) old mid unit run far-mid inv))
