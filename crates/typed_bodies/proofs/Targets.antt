-- Members that are stored to: a container, what names a member of it, and what is stored there.
use Rattle.std.proofs.Common.{All, Bool, List, None, [], ap, append_assoc, arith, false, inr, refl, subst, sym, true, ◌++◌, ◌∙◌, ◌∷◌, ◌≡◌}
use Rattle.std.proofs.lemmas.List.Elements.{All-append, All-nil}
use Rattle.bal_base.specs.declared.place.Place.{Place}
use Rattle.bal_tree.specs.declared.name.Word.{Word}
use Rattle.calm_needs.proofs.PlacedParts.{implied-units, one-units, units-append}
use Rattle.check_laws.specs.Laws.{IsReady}
use Rattle.check_laws.specs.StmtLaws.{HasUnit}
use Rattle.check_words.proofs.Standing.{front-have}
use Rattle.check_words.specs.Members.{container_kind, has_field, index_kind, is_accessed_as, is_structure, last_access}
use Rattle.check_words.specs.State.{IsLast, State}
use Rattle.check_words.specs.declared.access.Access.TheVariants.{Item, Key}
use Rattle.check_words.specs.declared.access.Access.{Access}
use Rattle.check_words.specs.Words.{is_of}
use Rattle.checks.specs.Checks.{Check, Gives, either, ◌▷◌}
use Rattle.descriptors.specs.declared.names.Names.{Names}
use Rattle.expr_needs.specs.ExprTable.{Reading, accessed_needs, against, element_needs, freely, index_needs}
use Rattle.expr_needs.specs.Needs.{HasField, IsAccessed, IsIndex, Need}
use Rattle.expr_needs.specs.declared.expected.Expected.TheVariants as expected
use Rattle.expr_needs.specs.declared.kind.Kind.TheVariants as kind
use Rattle.needs.specs.Needs.{does}
use Rattle.operations.specs.Kinds.{IsList}
use Rattle.operations.specs.Rows.{Surroundings}
use Rattle.tree_promises.specs.Types.{IsTypedExpr}
use Rattle.type_model.specs.Calls.{Asked}
use Rattle.type_model.specs.declared.answers.TypeLimit.{TypeLimit}
use Rattle.type_model.specs.declared.atoms.AtomDef.{AtomDef}
use Rattle.typed_bodies.proofs.Aside.{IsAside, aside-structure}
use Rattle.typed_bodies.proofs.Onward.{IsOnward, onward-beside}
use Rattle.typed_bodies.proofs.Trails.{BlockAt, MatchAt, OnWay, aside-keeps, back, back-aside, back-value, in-on, in-run, in-stays, in-units}
use Rattle.typed_bodies.proofs.Values.{Knows, kind-given, kind-left, nothing-ready}
use Rattle.typed_bodies.specs.Claims.{StaysIn}
use Rattle.typed_exprs.proofs.Steps.{Step, before, keeps, parted, stored-here}
use Rattle.typed_exprs.specs.Lines.{Left, Run}
use Rattle.typed_needs.proofs.Asking.{all-is-asked, has-part-leaves, is-of-leaves}
use Rattle.typed_needs.proofs.Leaving.{all-some, all-then}
use Rattle.typed_needs.proofs.Placed.{last-same}
use Rattle.typed_needs.specs.Asked.{AllIsAsked, IsOfIt}
use Rattle.typed_needs.specs.Between.{IsKept, IsTypedUnit, IsUnitAt, units_in}
use Rattle.typed_stmts.proofs.ElementReads.{structure-chosen}
use Rattle.typed_stmts.proofs.Storing.{all-stay, field-named, key-given}
use Rattle.typed_stmts.specs.Elements.{IsStructure}
use Rattle.typed_tree.specs.Listed.{Listed, one, ◌&◌}
use Rattle.typed_tree.specs.declared.expr.TypedExpr.{TypedExpr}

-- ---- which structure is accessed, whatever the parts are

either-so : {A : Type 0} (b : Bool) (m n : Check State A) (old new : State) (a : A) (Q : Type 0) → either b m n old (Gives a) new → (m old (Gives a) new → Q) → (n old (Gives a) new → Q) → Q
either-so true m n old new a Q met f g = f met
either-so false m n old new a Q met f g = g met

module _ (passes : List AtomDef → Asked → TypeLimit → Type 0) where
  abbrev Accessed : State → State → Type 0
  Accessed old new = (a : Access) × IsStructure a × (new ≡ record old { accesses = old.accesses ++ a ∷ [] })

  accessed-as : (a : Access) (at : Place) (old new : State) → IsStructure a → is_accessed_as passes a at old (Gives tt) new → Accessed old new
  unfolding ◌▷◌ does
  accessed-as a at old new is (u, mid, met, e) =
      (a, is, e ∙ ap (λ (s : State). record s { accesses = s.accesses ++ a ∷ [] }) (is-of-leaves passes (container_kind a) at old mid u met))

  pub structure-accessed : (at : Place) (old new : State) → is_structure passes at old (Gives tt) new → Accessed old new
  unfolding ◌▷◌
  structure-accessed at old new (b, mid, asked, met) =
      let same : mid ≡ old = has-part-leaves passes IsList at old mid b asked in
      either-so b (is_accessed_as passes Item at) (is_accessed_as passes Key at) old new tt (Accessed old new)
      (subst (λ (s : State). either b (is_accessed_as passes Item at) (is_accessed_as passes Key at) s (Gives tt) new) same met)
      (λ m. accessed-as Item at old new tt m) (λ m. accessed-as Key at old new tt m)

-- ---- the name of a field

-- a key that stands for no expression, of which there are no units
pub record FieldPut (old new : State) : Type 0 where
  pub part : TypedExpr
  pub none : units_in (part ∷ []) ≡ []
  pub all : new ≡ record old { found = old.found ++ part ∷ []; ways = None; accesses = old.accesses ++ Key ∷ [] }

pub field-put : (w : Word) (old new : State) → has_field w old (Gives tt) new → FieldPut old new
unfolding ◌▷◌ does
field-put w old new (u, a, given, e2) =
    let (e, t, single, view, e1) = key-given w.name w.at u old a given in
    record {
      part = e;
      none = one-units e ∙ implied-units e view;
      all = e2 ∙ ap (λ (s : State). record s { accesses = s.accesses ++ Key ∷ [] }) e1
          ∙ ap (λ xs. record old { found = xs ++ e ∷ []; ways = None; accesses = old.accesses ++ Key ∷ [] }) (all-stay old.found);
    }

pub field-onward : (old new : State) → FieldPut old new → IsOnward old new
field-onward old new p = subst (λ (s : State). IsOnward old s) (sym p.all) (onward-beside old _ refl refl refl (inr refl))

module _ (passes : List AtomDef → Asked → TypeLimit → Type 0) (names : Names) (env : List AtomDef) (place : Surroundings) (Can : State → Type 0) (can : (s t : State) → StaysIn s t → Can s → Can t) where
  -- two parts more: a container, and what names a member of it
  pub record Target (old new : State) : Type 0 where
    pub container : TypedExpr
    pub key : TypedExpr
    pub access : Access
    pub structure : IsStructure access
    pub found : new.found ≡ old.found ++ container ∷ key ∷ []
    pub accesses : new.accesses ≡ old.accesses ++ access ∷ []
    pub wants : new.wants ≡ old.wants
    pub sorts : new.sorts ≡ old.sorts
    pub blocks : new.blocks ≡ old.blocks
    pub matches : new.matches ≡ old.matches
    pub stays : StaysIn old new
    pub back : OnWay env place new → OnWay env place old

  -- what they are
  pub record TargetIs (old new : State) (t : Target old new) : Type 0 where
    pub container_typed : IsTypedExpr env place t.container
    pub key_typed : IsTypedExpr env place t.key
    pub units : All (IsTypedUnit env place) (units_in (t.container ∷ t.key ∷ []))
    pub container_is : IsOfIt passes names env (container_kind t.access) t.container
    pub key_is : IsOfIt passes names env (index_kind t.access) t.key
    pub kept : IsKept place new

  -- what is known of the needs of a target
  pub record KnowsTarget (needs : Listed Need) : Type 0 where
    pub target : (old new : State) → HasUnit old → Run passes names env needs old new → Target old new
    pub claim : (old new : State) (unit : HasUnit old) (run : Run passes names env needs old new) → Can old → IsKept place old → OnWay env place new
        → TargetIs old new (target old new unit run)

  two-units : (a b : TypedExpr) → All (IsTypedUnit env place) (units_in (a ∷ [])) → All (IsTypedUnit env place) (units_in (b ∷ [])) → All (IsTypedUnit env place) (units_in (a ∷ b ∷ []))
  two-units a b h k =
      subst (All (IsTypedUnit env place)) (sym (units-append (a ∷ []) (b ∷ []))) (All-append (IsTypedUnit env place) (units_in (a ∷ [])) (units_in (b ∷ [])) h k)

  -- ---- `a[i]`

  record Element (a i : Reading) (old new : State) : Type 0 where
    pub k : State
    pub l : State
    pub m : State
    pub run_a : Run passes names env (freely a) old k
    pub accessed : Step passes names env (IsAccessed false a.at) k l
    pub run_i : Run passes names env (i.needs expected.Immutable) l m
    pub asked : Step passes names env (IsIndex i.at) m new
    pub left_a : Left old k
    pub chosen : Accessed passes k l
    pub aside : IsAside k l
    pub left_i : Left l m
    pub ready_i : IsReady expected.Immutable l
    pub same : new ≡ m

  element : (a i : Reading) → Knows passes names env place Can a → Knows passes names env place Can i → (old new : State) → HasUnit old
      → Run passes names env (element_needs false a i) old new → Element a i old new
  element a i ka ki old new unit run =
      let (l, rx, ry) = parted passes names env (accessed_needs false a) (index_needs i) old new run in
      let (k, ra, sa) = parted passes names env (freely a) (one (IsAccessed false a.at)) old l rx in
      let (m, ri, si) = parted passes names env (i.needs expected.Immutable) (one (IsIndex i.at)) l new ry in
      let left = ka.leaves expected.Nothing old k (nothing-ready old unit) ra in
      let aside = aside-structure passes a.at k l tt sa.0 in
      let in-k = in-run old k left.path.goes left.more.same in
      let in-l = in-stays k l aside.stays in
      let ready : IsReady expected.Immutable l = record { unit = (let u = unit in let p = in-k.many in let q = in-l.many in omega (arith, u, p, q)); wants = tt } in
      record {
        k = k;
        l = l;
        m = m;
        run_a = ra;
        accessed = sa;
        run_i = ri;
        asked = si;
        left_a = left;
        chosen = structure-accessed passes a.at k l sa.0;
        aside = aside;
        left_i = ki.leaves expected.Immutable l m ready ri;
        ready_i = ready;
        same = all-then (last_access) (λ x. is_of passes (index_kind x) i.at) (all-some (λ s x. IsLast s.accesses x)) (λ x. is-of-leaves passes (index_kind x) i.at) m new tt si.0;
      }

  element-target : (a i : Reading) (old new : State) → Element a i old new → Target old new
  element-target a i old new e =
      let (access, structure, all) = e.chosen in
      let same = e.same in
      let x = e.left_a.more.part in let y = e.left_i.more.part in
      let in-k = in-run old e.k e.left_a.path.goes e.left_a.more.same in
      let in-m = in-run e.l e.m e.left_i.path.goes e.left_i.more.same in
      let in-new = in-on old e.l e.m (in-on old e.k e.l in-k (in-stays e.k e.l e.aside.stays)) in-m in
      record {
        container = x;
        key = y;
        access = access;
        structure = structure;
        found = ap (λ (s : State). s.found) same ∙ e.left_i.more.found ∙ ap (λ xs. xs ++ y ∷ []) (e.aside.stays.found ∙ e.left_a.more.found) ∙ append_assoc old.found (x ∷ []) (y ∷ []);
        accesses = ap (λ (s : State). s.accesses) same ∙ e.left_i.more.same.accesses ∙ ap (λ (s : State). s.accesses) all ∙ ap (λ xs. xs ++ access ∷ []) e.left_a.more.same.accesses;
        wants = ap (λ (s : State). s.wants) same ∙ e.left_i.more.same.wants ∙ ap (λ (s : State). s.wants) all ∙ e.left_a.more.same.wants;
        sorts = ap (λ (s : State). s.sorts) same ∙ e.left_i.more.same.sorts ∙ ap (λ (s : State). s.sorts) all ∙ e.left_a.more.same.sorts;
        blocks = ap (λ (s : State). s.blocks) same ∙ e.left_i.more.blocks ∙ e.aside.stays.blocks ∙ e.left_a.more.blocks;
        matches = ap (λ (s : State). s.matches) same ∙ e.left_i.more.same.matches ∙ e.aside.stays.matches ∙ e.left_a.more.same.matches;
        stays = subst (λ (s : State). StaysIn old s) (sym same) in-new;
        back = λ way. back-value env place old e.k e.left_a (back-aside env place e.k e.l e.aside.stays (back-value env place e.l e.m e.left_i (subst (λ (s : State). OnWay env place s) same way)));
      }

  element-is : (a i : Reading) → Knows passes names env place Can a → Knows passes names env place Can i → (old new : State) → HasUnit old → (e : Element a i old new) → Can old
      → IsKept place old → OnWay env place new → TargetIs old new (element-target a i old new e)
  unfolding element-target
  element-is a i ka ki old new unit e c kept way =
      let (access, structure, all) = e.chosen in
      let way-m = subst (λ (s : State). OnWay env place s) e.same way in
      let way-l = back-value env place e.l e.m e.left_i way-m in
      let way-k = back-aside env place e.k e.l e.aside.stays way-l in
      let x = ka.claim expected.Nothing old e.k c (nothing-ready old unit) e.run_a kept way-k.parts in
      let last-x : IsLast e.k.found x.part = record { kept = old.found; is = x.found } in
      let (b, is, of-x, some) = structure-chosen passes names env a.at e.k e.l x.part (before env place e.k x.kept way-k.parts) e.accessed.0 last-x in
      let last-b : IsLast e.l.accesses b = record { kept = e.k.accesses; is = ap (λ (s : State). s.accesses) is } in
      let last-access : IsLast e.l.accesses access = record { kept = e.k.accesses; is = ap (λ (s : State). s.accesses) all } in
      let one-access : b ≡ access = last-same e.l.accesses b access last-b last-access in
      let kept-l = aside-keeps env place e.k e.l e.aside e.accessed.1 x.kept in
      let in-k = in-run old e.k e.left_a.path.goes e.left_a.more.same in
      let can-l = can old e.l (in-on old e.k e.l in-k (in-stays e.k e.l e.aside.stays)) c in
      let y = ki.claim expected.Immutable e.l e.m can-l e.ready_i e.run_i kept-l way-m.parts in
      let here : IsLast e.m.accesses access = subst (λ xs. IsLast xs access) (sym e.left_i.more.same.accesses) last-access in
      let asks : AllIsAsked passes names env = all-is-asked passes names env in
      let (of-y, still) = asks.indexes i.at e.m new y.part access (before env place e.m y.kept way-m.parts) e.asked.0 here (record { kept = e.l.found; is = y.found }) in
      let ex : x.part ≡ e.left_a.more.part = last-same e.k.found x.part e.left_a.more.part last-x (record { kept = old.found; is = e.left_a.more.found }) in
      let ey : y.part ≡ e.left_i.more.part =
      last-same e.m.found y.part e.left_i.more.part (record { kept = e.l.found; is = y.found }) (record { kept = e.l.found; is = e.left_i.more.found }) in
      record {
        container_typed = subst (λ (z : TypedExpr). IsTypedExpr env place z) ex x.typed;
        key_typed = subst (λ (z : TypedExpr). IsTypedExpr env place z) ey y.typed;
        units = two-units e.left_a.more.part e.left_i.more.part (subst (λ (z : TypedExpr). All (IsTypedUnit env place) (units_in (z ∷ []))) ex x.units)
            (subst (λ (z : TypedExpr). All (IsTypedUnit env place) (units_in (z ∷ []))) ey y.units);
        container_is = subst (λ (z : TypedExpr). IsOfIt passes names env (container_kind access) z) ex (subst (λ (q : Access). IsOfIt passes names env (container_kind q) x.part) one-access of-x);
        key_is = subst (λ (z : TypedExpr). IsOfIt passes names env (index_kind access) z) ey of-y;
        kept = subst (λ (s : State). IsKept place s) (sym e.same) y.kept;
      }

  pub elements : (a i : Reading) → Knows passes names env place Can a → Knows passes names env place Can i → KnowsTarget (element_needs false a i)
  elements a i ka ki =
      record {
        target = λ old new unit run. element-target a i old new (element a i ka ki old new unit run);
        claim = λ old new unit run c kept way. element-is a i ka ki old new unit (element a i ka ki old new unit run) c kept way;
      }

  -- ---- `a.f`

  record FieldTarget (a : Reading) (w : Word) (old new : State) : Type 0 where
    pub k : State
    pub run_a : Run passes names env (against kind.AnyMapping a) old k
    pub step : Step passes names env (HasField w) k new
    pub left : Left old k
    pub put : FieldPut k new

  field : (a : Reading) (w : Word) → Knows passes names env place Can a → (old new : State) → HasUnit old → Run passes names env (against kind.AnyMapping a & one (HasField w)) old new
      → FieldTarget a w old new
  field a w ka old new unit run =
      let (k, ra, s) = parted passes names env (against kind.AnyMapping a) (one (HasField w)) old new run in
      record { k = k; run_a = ra; step = s; left = kind-left passes names env place Can kind.AnyMapping a ka old k unit ra; put = field-put w k new s.0 }

  field-back : (k new : State) → FieldPut k new → OnWay env place new → OnWay env place k
  field-back k new p way =
      let h = field-onward k new p in
      back env place k new (in-units k new h.moved.on h.moved.site)
      (λ q all. front-have (IsUnitAt q) (units_in k.found) (units_in (p.part ∷ []))
      (subst (All (IsUnitAt q)) (ap (λ (xs : List TypedExpr). units_in xs) (ap (λ (s : State). s.found) p.all) ∙ units-append k.found (p.part ∷ [])) all))
      (λ all. subst (All (BlockAt env place)) (ap (λ (s : State). s.blocks) p.all) all) (λ all. subst (All (MatchAt env place)) (ap (λ (s : State). s.matches) p.all) all) way

  field-target : (a : Reading) (w : Word) (old new : State) → FieldTarget a w old new → Target old new
  field-target a w old new e =
      let x = e.left.more.part in let y = e.put.part in
      let h = field-onward e.k new e.put in
      let all = e.put.all in
      record {
        container = x;
        key = y;
        access = Key;
        structure = tt;
        found = ap (λ (s : State). s.found) all ∙ ap (λ xs. xs ++ y ∷ []) e.left.more.found ∙ append_assoc old.found (x ∷ []) (y ∷ []);
        accesses = ap (λ (s : State). s.accesses) all ∙ ap (λ xs. xs ++ Key ∷ []) e.left.more.same.accesses;
        wants = ap (λ (s : State). s.wants) all ∙ e.left.more.same.wants;
        sorts = ap (λ (s : State). s.sorts) all ∙ e.left.more.same.sorts;
        blocks = ap (λ (s : State). s.blocks) all ∙ e.left.more.blocks;
        matches = ap (λ (s : State). s.matches) all ∙ e.left.more.same.matches;
        stays = in-on old e.k new (in-run old e.k e.left.path.goes e.left.more.same) (in-units e.k new h.moved.on h.moved.site);
        back = λ way. back-value env place old e.k e.left (field-back e.k new e.put way);
      }

  field-is : (a : Reading) (w : Word) → Knows passes names env place Can a → (old new : State) → HasUnit old → (e : FieldTarget a w old new) → Can old → IsKept place old
      → OnWay env place new → TargetIs old new (field-target a w old new e)
  unfolding field-target
  field-is a w ka old new unit e c kept way =
      let way-k = field-back e.k new e.put way in
      let x = kind-given passes names env place Can kind.AnyMapping a ka old e.k c unit e.run_a kept way-k.parts in
      let h = field-onward e.k new e.put in
      let kept-new = keeps place new e.step.1 (h.stored place (stored-here place e.k x.kept)) in
      let f = field-named passes names env place w e.k new (before env place new kept-new way.parts) e.step.0 in
      let ex : x.part ≡ e.left.more.part =
      last-same e.k.found x.part e.left.more.part (record { kept = old.found; is = x.found }) (record { kept = old.found; is = e.left.more.found }) in
      let ey : f.part ≡ e.put.part =
      last-same new.found f.part e.put.part (record { kept = e.k.found; is = f.found }) (record { kept = e.k.found; is = ap (λ (s : State). s.found) e.put.all }) in
      record {
        container_typed = subst (λ (z : TypedExpr). IsTypedExpr env place z) ex x.typed;
        key_typed = subst (λ (z : TypedExpr). IsTypedExpr env place z) ey f.typed;
        units = two-units e.left.more.part e.put.part (subst (λ (z : TypedExpr). All (IsTypedUnit env place) (units_in (z ∷ []))) ex x.units)
            (subst (All (IsTypedUnit env place)) (sym e.put.none) (All-nil (IsTypedUnit env place)));
        container_is = subst (λ (z : TypedExpr). IsOfIt passes names env kind.AnyMapping z) ex x.holds;
        key_is = subst (λ (z : TypedExpr). IsOfIt passes names env kind.Text z) ey f.text;
        kept = kept-new;
      }

  pub fields : (a : Reading) (w : Word) → Knows passes names env place Can a → KnowsTarget (against kind.AnyMapping a & one (HasField w))
  fields a w ka =
      record {
        target = λ old new unit run. field-target a w old new (field a w ka old new unit run);
        claim = λ old new unit run c kept way. field-is a w ka old new unit (field a w ka old new unit run) c kept way;
      }

  -- and it is accessed by a key
  pub field-by-key : (a : Reading) (w : Word) (ka : Knows passes names env place Can a) (k : KnowsTarget (against kind.AnyMapping a & one (HasField w))) → k ≡ fields a w ka
      → (old new : State) (unit : HasUnit old) (run : Run passes names env (against kind.AnyMapping a & one (HasField w)) old new) → (k.target old new unit run).access ≡ Key
  unfolding fields field-target
  field-by-key a w ka k same old new unit run =
      subst (λ (z : KnowsTarget (against kind.AnyMapping a & one (HasField w))). (z.target old new unit run).access ≡ Key) (sym same) refl
