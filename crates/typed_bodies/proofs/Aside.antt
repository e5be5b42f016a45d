-- Checks that leave the parts, the blocks, the matches and what is open: atoms come, units go on, and variables that are seen stay in slots of their declared types.
use Rattle.std.proofs.Common.{Bool, IfSome, List, None, Option, Some, [], ap, append-nil, false, refl, subst, sym, true, ℕ, ◌++◌, ◌∙◌, ◌∷◌, ◌≡◌}
use Rattle.bal_base.specs.declared.fault.FaultCode.{FaultCode}
use Rattle.bal_base.specs.declared.place.Place.{Place}
use Rattle.bal_base.specs.declared.shape.Shape.{Shape}
use Rattle.bal_base.specs.declared.text.Text.{Text}
use Rattle.bal_tree.specs.declared.name.QualifiedName.{QualifiedName}
use Rattle.bal_tree.specs.declared.name.Word.{Word}
use Rattle.bal_tree.specs.declared.stmt.AssignOp.TheVariants.{Add, Divide, Multiply, Set, Subtract}
use Rattle.bal_tree.specs.declared.stmt.AssignOp.{AssignOp}
use Rattle.calm_needs.proofs.Calming.{calm-asking, on-beside, on-itself, on-on, stored-by}
use Rattle.calm_needs.proofs.Flows.{hand-on, of-handles, of-narrowed}
use Rattle.calm_needs.specs.Calm.{HandSees, IsCalm, IsFlowOf, IsStoredAt, StaysOn}
use Rattle.check_words.specs.Calls.{is_new}
use Rattle.check_words.specs.Members.{accesses, expects_stored, field_type, has_part, is_accessed_as, is_index, reads_stored, reads_stored_field, is_structure, member_at, some_member_at, stored_type}
use Rattle.check_words.specs.Seen.{Seen, SeenConstant, SeenLibrary, SeenMeaning, SeenNothing, SeenVariable, SeenWorker, looks_up}
use Rattle.check_words.specs.State.{IsLast, State, UnitAtWork, all_but, outside, replaced, stopped, with_type}
use Rattle.check_words.specs.Statements.{ends_block, is_ignorable, is_operand, stops, Assigned, AssignsModule, AssignsVariable, assigned_by, meaning_assignable, operand_sort, reads_assigned, seen_assignable, variable_assignable}
use Rattle.bal_tree.specs.declared.types.TypeTree.{TypeTree}
use Rattle.check_words.specs.Branches.{at_head, heads, is_counter, is_item_of_loop, item_type_at, wants_counter, widens_item}
use Rattle.check_words.specs.Values.{describes, sorts, wants_result, widened, widens, widens_to}
use Rattle.check_words.specs.Words.{Atoms, asking, becomes, below_if, by_handles, changes_flow, fails, flow_now, is_of, is_wanted, is_within, unless, wants as wanting, wants_no_more, wants_some, whether_some, whether_within}
use Rattle.check_words.specs.declared.access.Access.TheVariants.{Char, Item, Key}
use Rattle.check_words.specs.declared.access.Access.{Access}
use Rattle.checks.specs.Checks.{Check, Gives, either, gives_some, refuses, ◌▷◌}
use Rattle.descriptors.specs.declared.names.Meaning.TheVariants as meaning
use Rattle.descriptors.specs.declared.names.Meaning.{Meaning}
use Rattle.descriptors.specs.declared.names.Names.{Names}
use Rattle.expr_needs.specs.declared.kind.Kind.TheVariants as kind
use Rattle.expr_needs.specs.declared.kind.Kind.{Kind}
use Rattle.flow_narrowing.specs.declared.flow.Flow.{Flow}
use Rattle.flow_narrowing.specs.declared.flow.Variable.{Variable}
use Rattle.needs.specs.Needs.{asks, does}
use Rattle.operations.specs.Rows.{Surroundings}
use Rattle.type_model.specs.Calls.{Asked}
use Rattle.type_model.specs.declared.answers.Keys.{Keys as MemberKeys}
use Rattle.type_model.specs.declared.answers.TypeLimit.{TypeLimit}
use Rattle.type_model.specs.declared.atoms.AtomDef.{AtomDef}
use Rattle.type_model.specs.declared.basic.SemType.{SemType}
use Rattle.type_model.specs.declared.basic.Ty.{Ty}
use Rattle.typed_needs.proofs.Questions.{AddsBehind, adds-behind, below-behind, has-some-behind, is-below-behind, member-behind, names-behind, whole-behind}
use Rattle.typed_needs.specs.Between.{FlowIsStored, WaysAreStored}
use Rattle.typed_stmts.proofs.Keeping.{changed-stored, first-ones, heads-stored}
use Rattle.typed_needs.proofs.Going.{each-last, unit-by-handles, with-flow, with-slot}
use Rattle.typed_needs.proofs.Placed.{all-but-last, last-same}
use Rattle.typed_needs.specs.Going.{IsSameUnit}
use Rattle.std.specs.List.{AllZip}
use Rattle.typed_stmts.proofs.Words.{UnitSet, flow-changed, last-replaced, with_flows, with_units}
use Rattle.typed_tree.specs.SharedTypes.{Shared}
use Rattle.typed_tree.specs.declared.expr.TypedExpr.{TypedExpr}

-- what stays beside atoms and units
pub record Stays (old new : State) : Type 0 where
  pub on : StaysOn old new
  pub site : new.site ≡ old.site
  pub found : new.found ≡ old.found
  pub blocks : new.blocks ≡ old.blocks
  pub matches : new.matches ≡ old.matches
  pub choices : new.choices ≡ old.choices

pub record IsAside (old new : State) : Type 0 where
  pub stays : Stays old new
  pub stored : (place : Surroundings) → IsStoredAt place old → IsStoredAt place new
  -- the same variables are seen in the unit at hand
  pub sees : (vs : List Variable) → HandSees vs old → HandSees vs new

-- or fewer are seen
pub record IsEnd (old new : State) : Type 0 where
  pub stays : Stays old new
  pub stored : (place : Surroundings) → IsStoredAt place old → IsStoredAt place new

pub stays-itself : (s : State) → Stays s s
stays-itself s = record { on = on-itself s; site = refl; found = refl; blocks = refl; matches = refl; choices = refl }

pub stays-on : (r s t : State) → Stays r s → Stays s t → Stays r t
stays-on r s t f g =
    record {
      on = on-on r s t f.on g.on;
      site = g.site ∙ f.site;
      found = g.found ∙ f.found;
      blocks = g.blocks ∙ f.blocks;
      matches = g.matches ∙ f.matches;
      choices = g.choices ∙ f.choices;
    }

pub aside-itself : (s : State) → IsAside s s
aside-itself s = record { stays = stays-itself s; stored = λ place h. h; sees = λ vs h. h }

aside-same : (s t : State) → t ≡ s → IsAside s t
aside-same s t e = subst (λ (x : State). IsAside s x) (sym e) (aside-itself s)

-- ---- checks

abbrev pub Aside : {A : Type 0} → Check State A → Type 0
Aside {A} m = (old new : State) (a : A) → m old (Gives a) new → IsAside old new

pub aside-then : {A B : Type 0} (m : Check State A) (next : A → Check State B) → Aside m → ((a : A) → Aside (next a)) → Aside (m ▷ next)
unfolding ◌▷◌
aside-then m next f g old new b (a, mid, x, y) =
    let p = f old mid a x in let q = g a mid new b y in
    record { stays = stays-on old mid new p.stays q.stays; stored = λ place h. q.stored place (p.stored place h); sees = λ vs h. q.sees vs (p.sees vs h) }

pub aside-some : {A : Type 0} (P : State → A → Type 0) → Aside (gives_some P)
unfolding gives_some
aside-some P old new a (x, e) = aside-same old new e

pub aside-fails : {A : Type 0} (code : FaultCode) (at : Place) → Aside (fails {A = A} code at)
unfolding refuses
aside-fails code at old new a x = absurd x

pub aside-unless : (b : Bool) (code : FaultCode) (at : Place) → Aside (unless b code at)
aside-unless true code at = aside-some _
aside-unless false code at = aside-fails code at

pub aside-either : {A : Type 0} (b : Bool) (m n : Check State A) → Aside m → Aside n → Aside (either b m n)
aside-either true m n f g = f
aside-either false m n f g = g

-- what is wanted and what operators work on is not looked at
aside-beside : (s t : State) → t.atoms ≡ s.atoms → t.units ≡ s.units → t.ways ≡ s.ways → t.site ≡ s.site → t.found ≡ s.found → t.blocks ≡ s.blocks → t.matches ≡ s.matches
    → t.choices ≡ s.choices → IsAside s t
aside-beside s t atoms units ways site found blocks matches choices =
    record {
      stays = record { on = on-beside s t atoms units; site = site; found = found; blocks = blocks; matches = matches; choices = choices };
      stored = λ place h. record { stored = stored-by place s t units h.stored; ways = subst (λ w. IfSome w (WaysAreStored place)) (sym ways) h.ways };
      sees = λ vs h u last. h u (subst (λ us. IsLast us u) units last);
    }

pub aside-becomes : (change : State → State) → ((s : State) → IsAside s (change s)) → Aside (becomes change)
unfolding does
aside-becomes change f old new a e = subst (λ (x : State). IsAside old x) (sym e) (f old)

pub aside-handles : {A : Type 0} (Same : A → A → Type 0) (a : A) → Aside (by_handles Same a)
unfolding by_handles
aside-handles Same a old new b (x, e) = aside-same old new e

pub aside-asking : {A : Type 0} (q : Check Atoms A) → AddsBehind q → Aside (asking q)
unfolding asks
aside-asking q behind old new a (asked, e) =
    let c : IsCalm old new = calm-asking q behind old new a (asked, e) in
    record {
      stays = record {
        on = c.on;
        site = ap (λ (s : State). s.site) e;
        found = ap (λ (s : State). s.found) e;
        blocks = ap (λ (s : State). s.blocks) e;
        matches = ap (λ (s : State). s.matches) e;
        choices = ap (λ (s : State). s.choices) e;
      };
      stored = c.stored;
      sees = λ vs h. hand-on vs old new c.keeps.flows h;
    }

pub aside-wants : (w : Option Shared) → Aside (wanting w)
aside-wants w = aside-then _ _ (aside-handles _ _) (λ x. aside-becomes _ (λ s. aside-beside s _ refl refl refl refl refl refl refl refl))

pub aside-wants-some : (P : Atoms → Ty → Type 0) → Aside (wants_some P)
aside-wants-some P = aside-then _ _ (aside-some _) (λ t. aside-wants (Some t))

aside-no-more : (count : ℕ) → Aside (wants_no_more count)
aside-no-more count = aside-becomes _ (λ s. aside-beside s _ refl refl refl refl refl refl refl refl)

aside-sorts : (ints : Bool) → Aside (sorts ints)
aside-sorts ints = aside-becomes _ (λ s. aside-beside s _ refl refl refl refl refl refl refl refl)

aside-accesses : (a : Access) → Aside (accesses a)
aside-accesses a = aside-becomes _ (λ s. aside-beside s _ refl refl refl refl refl refl refl refl)

pub aside-flow-now : Aside flow_now
aside-flow-now = aside-then _ _ (aside-some _) (λ u. aside-some _)

-- the unit at hand is another form of itself
pub set-on : (next : UnitAtWork → UnitAtWork) (change : State → List UnitAtWork → State) (old new : State) (s : UnitSet old new next change)
    → new.units ≡ replaced old.units s.now → new.atoms ≡ old.atoms → IsSameUnit s.was (next s.was) → StaysOn old new
set-on next change old new s units atoms same =
    let now : new.units ≡ s.before.kept ++ s.now ∷ [] =
    units ∙ ap (λ us. all_but 1 us ++ s.now ∷ []) s.before.is ∙ ap (λ us. us ++ s.now ∷ []) (all-but-last s.before.kept s.was) in
    record {
      more = [];
      atoms = atoms ∙ sym (append-nil old.atoms);
      each = subst (λ us. AllZip IsSameUnit us new.units) (sym s.before.is)
          (subst (λ vs. AllZip IsSameUnit (s.before.kept ++ s.was ∷ []) vs) (sym now)
          (each-last s.before.kept s.was s.now (unit-by-handles s.was (next s.was) s.now same s.same)));
    }

-- and only its flow is another one
pub flow-stays : (next : UnitAtWork → Flow) (old new : State) → UnitSet old new (λ w. record w { flow = next w }) with_flows → Stays old new
flow-stays next old new s =
    record {
      on = set-on (λ w. record w { flow = next w }) with_flows old new s (ap (λ (x : State). x.units) s.all) (ap (λ (x : State). x.atoms) s.all) (with-flow s.was (next s.was));
      site = ap (λ (x : State). x.site) s.all;
      found = ap (λ (x : State). x.found) s.all;
      blocks = ap (λ (x : State). x.blocks) s.all;
      matches = ap (λ (x : State). x.matches) s.all;
      choices = ap (λ (x : State). x.choices) s.all;
    }

-- or it has one slot more
pub slot-stays : (t : Shared) (old new : State) → UnitSet old new (λ w. record w { slots = w.slots ++ t ∷ [] }) with_units → Stays old new
slot-stays t old new s =
    record {
      on = set-on (λ w. record w { slots = w.slots ++ t ∷ [] }) with_units old new s (ap (λ (x : State). x.units) s.all) (ap (λ (x : State). x.atoms) s.all) (with-slot s.was t);
      site = ap (λ (x : State). x.site) s.all;
      found = ap (λ (x : State). x.found) s.all;
      blocks = ap (λ (x : State). x.blocks) s.all;
      matches = ap (λ (x : State). x.matches) s.all;
      choices = ap (λ (x : State). x.choices) s.all;
    }

pub changed-stays : (change : Flow → Flow) (u : Unit {0}) (old new : State) → changes_flow change old (Gives u) new → Stays old new
changed-stays change u old new met = flow-stays (λ w. change w.flow) old new (flow-changed change u old new met)

-- where the flow is set to one of these variables they are seen
pub set-sees : (vs : List Variable) (f : Flow) (old new : State) → UnitSet old new (λ w. record w { flow = f }) with_flows → IsFlowOf vs f → HandSees vs new
set-sees vs f old new s of u last =
    let units : new.units ≡ replaced old.units s.now = ap (λ (x : State). x.units) s.all in
    let one : u ≡ s.now = last-same new.units u s.now last (subst (λ us. IsLast us s.now) (sym units) (last-replaced old.units s.now)) in
    let now : IsFlowOf vs s.now.flow = of-handles vs f s.now.flow s.same.flow of in
    subst (λ (w : UnitAtWork). IsFlowOf vs w.flow) (sym one) now

changed-sees : (vs : List Variable) (change : Flow → Flow) (old new : State) (s : UnitSet old new (λ w. record w { flow = change w.flow }) with_flows)
    → ((f : Flow) → IsFlowOf vs f → IsFlowOf vs (change f)) → HandSees vs old → HandSees vs new
changed-sees vs change old new s keeps h =
    set-sees vs (change s.was.flow) old new (record { was = s.was; now = s.now; before = s.before; same = s.same; all = s.all }) (keeps s.was.flow (h s.was s.before))

-- the flow at hand is another one, by a change that keeps variables where they are
pub aside-changes : (change : Flow → Flow) → ((place : Surroundings) (f : Flow) → FlowIsStored place f → FlowIsStored place (change f))
    → ((vs : List Variable) (f : Flow) → IsFlowOf vs f → IsFlowOf vs (change f)) → Aside (changes_flow change)
aside-changes change keeps same old new u met =
    record {
      stays = changed-stays change u old new met;
      stored = λ place h. changed-stored place change u old new met (keeps place) h;
      sees = λ vs h. changed-sees vs change old new (flow-changed change u old new met) (same vs) h;
    }

-- a block ends: of its variables none is seen any more
pub block-ends : (old new : State) → ends_block old (Gives tt) new → IsEnd old new
unfolding ◌▷◌ gives_some
block-ends old new (b, mid, (last, e), met) =
    subst (λ (s : State). IsEnd s new) e
    (record {
      stays = changed-stays (outside b.scope) tt mid new met;
      stored = λ place h. changed-stored place (outside b.scope) tt mid new met (λ f k. first-ones place b.scope f.variables k) h;
    })

-- variables that are narrowed, or not any more
of-heads : (vs : List Variable) (words : List Word) (f : Flow) → IsFlowOf vs f → IsFlowOf vs (at_head words f)
of-heads vs [] f h = h
of-heads vs (w ∷ words) f h = of-heads vs words (with_type w.name None f) (of-narrowed vs f.variables w.name None h)

-- ---- words

pub aside-new : (w : Word) → Aside (is_new w)
aside-new w = aside-then _ _ (aside-some _) (λ b. aside-either b _ _ (aside-fails _ _) (aside-some _))

pub aside-looks-up : (names : Names) (q : QualifiedName) → Aside (looks_up names q)
aside-looks-up names q = aside-then _ _ (aside-some _) (λ u. aside-some _)

aside-variable : (v : Variable) (at : Place) → Aside (variable_assignable v at)
aside-variable v at = aside-then _ _ (aside-either v.fixed _ _ (aside-fails _ at) (aside-unless _ _ at)) (λ u. aside-wants _)

aside-meaning : (m : Meaning) (at : Place) → Aside (meaning_assignable m at)
aside-meaning (meaning.TypeName t) at = aside-fails _ at
aside-meaning (meaning.Constant t) at = aside-fails _ at
aside-meaning (meaning.Variable number final t) at = aside-either final _ _ (aside-fails _ at) (aside-wants-some _)
aside-meaning (meaning.Function f) at = aside-fails _ at

pub aside-assignable : (seen : Seen) (at : Place) → Aside (seen_assignable seen at)
aside-assignable (SeenVariable v) at = aside-variable v at
aside-assignable (SeenWorker w) at = aside-fails _ at
aside-assignable (SeenConstant c) at = aside-fails _ at
aside-assignable (SeenLibrary r) at = aside-fails _ at
aside-assignable (SeenMeaning m) at = aside-meaning m at
aside-assignable (SeenNothing code) at = aside-fails code at

aside-reads-assigned : (a : Assigned) → Aside (reads_assigned a)
aside-reads-assigned (AssignsVariable v) = aside-wants _
aside-reads-assigned (AssignsModule number t) = aside-wants-some _

pub aside-is-assignable : (names : Names) (q : QualifiedName) → Aside (looks_up names q ▷ λ seen. seen_assignable seen q.at)
aside-is-assignable names q = aside-then _ _ (aside-looks-up names q) (λ seen. aside-assignable seen q.at)

pub aside-reads-name : (names : Names) (q : QualifiedName) → Aside (assigned_by names q ▷ λ a. reads_assigned a)
aside-reads-name names q = aside-then _ _ (aside-then _ _ (aside-looks-up names q) (λ seen. aside-some _)) (λ a. aside-reads-assigned a)

module _ (passes : List AtomDef → Asked → TypeLimit → Type 0) where
  pub aside-within : (P : Atoms → Ty → Type 0) (s : SemType) (at : Place) → Aside (is_within passes P s at)
  aside-within P s at = aside-then _ _ (aside-some _) (λ t. aside-asking _ (below-behind passes s t.sem (Some at)))

  pub aside-whether : (P : Atoms → Ty → Type 0) (s : SemType) (at : Place) → Aside (whether_within passes P s at)
  aside-whether P s at = aside-then _ _ (aside-some _) (λ t. aside-asking _ (is-below-behind passes s t.sem (Some at)))

  aside-whether-some : (P : Atoms → Ty → Type 0) (at : Place) → Aside (whether_some passes P at)
  aside-whether-some P at = aside-then _ _ (aside-some _) (λ t. aside-asking _ (has-some-behind passes t.sem (Some at)))

  pub aside-is-of : (k : Kind) (at : Place) → Aside (is_of passes k at)
  aside-is-of k at = aside-then _ _ (aside-some _) (λ e. aside-within _ _ at)

  pub aside-below-if : (w : Option Shared) (e : TypedExpr) (at : Place) → Aside (below_if passes w e at)
  aside-below-if None e at = aside-some _
  aside-below-if (Some t) e at = aside-asking _ (below-behind passes _ _ (Some at))

  aside-widens-to : (kinds : List Kind) (t : Shared) (at : Place) → Aside (widens_to passes kinds t at)
  aside-widens-to [] t at = aside-some _
  aside-widens-to (k ∷ kinds) t at = aside-then _ _ (aside-whether _ _ at) (λ b. aside-either b _ _ (aside-some _) (aside-widens-to kinds t at))

  pub aside-widened : (t : Shared) (at : Place) → Aside (widened passes t at)
  aside-widened t at = aside-widens-to (kind.Integer ∷ kind.Text ∷ kind.Truth ∷ []) t at

  aside-accessed-as : (a : Access) (at : Place) → Aside (is_accessed_as passes a at)
  aside-accessed-as a at = aside-then _ _ (aside-is-of _ at) (λ u. aside-accesses a)

  aside-has-part : (P : Shape → Type 0) (at : Place) → Aside (has_part passes P at)
  aside-has-part P at = aside-then _ _ (aside-some _) (λ e. aside-whether-some _ at)

  pub aside-structure : (at : Place) → Aside (is_structure passes at)
  aside-structure at = aside-then _ _ (aside-has-part _ at) (λ b. aside-either b _ _ (aside-accessed-as Item at) (aside-accessed-as Key at))

  pub aside-member-at : (t : SemType) (keys : MemberKeys) (at : Place) → Aside (member_at passes t keys at)
  aside-member-at t keys at = aside-asking _ (member-behind passes t keys (Some at))

  pub aside-some-member : (t : SemType) (keys : MemberKeys) (at : Place) → Aside (some_member_at passes t keys at)
  aside-some-member t keys at =
      aside-then _ _ (aside-member-at t keys at) (λ m. aside-then _ _ (aside-asking _ (has-some-behind passes m (Some at))) (λ b. aside-then _ _ (aside-unless b _ at) (λ u. aside-some _)))

  pub aside-field-type : (name : Text) (t : SemType) (at : Place) → Aside (field_type passes name t at)
  aside-field-type name t at =
      aside-then _ _ (aside-then _ _ (aside-asking _ (adds-behind _ _)) (λ atom. aside-then _ _ (aside-asking _ (is-below-behind passes t _ (Some at))) (λ b. aside-unless b _ at)))
      (λ u. aside-member-at t _ at)

  pub aside-stored-type : (a : Access) (container key : SemType) (at : Place) → Aside (stored_type passes a container key at)
  aside-stored-type Char container key at = aside-some _
  aside-stored-type Item container key at =
      aside-then _ _ (aside-asking _ (names-behind passes Item key at)) (λ keys. aside-then _ _ (aside-member-at container keys at) (λ m. aside-some _))
  aside-stored-type Key container key at =
      aside-then _ _ (aside-asking _ (names-behind passes Key key at)) (λ keys. aside-then _ _ (aside-member-at container keys at) (λ m. aside-some _))

  pub aside-operand-sort : (assign : AssignOp) (t : Shared) (at : Place) → Aside (operand_sort passes assign t at)
  aside-operand-sort Set t at = aside-some _
  aside-operand-sort Add t at =
      aside-then _ _ (aside-whether _ _ at) (λ ints. aside-then _ _ (aside-either ints _ _ (aside-some _) (aside-within _ _ at)) (λ u. aside-some _))
  aside-operand-sort Subtract t at = aside-some _
  aside-operand-sort Multiply t at = aside-some _
  aside-operand-sort Divide t at = aside-some _

  -- ---- needs that ask or want something

  pub aside-widens : (at : Place) → Aside (widens passes at)
  aside-widens at = aside-then _ _ (aside-some _) (λ e. aside-then _ _ (aside-widened _ at) (λ t. aside-wants (Some t)))

  pub aside-expects : (at : Place) → Aside (expects_stored passes at)
  aside-expects at =
      aside-then _ _ (aside-some _) (λ p. aside-then _ _ (aside-some _) (λ a. aside-then _ _ (aside-asking _ (names-behind passes a _ at)) (λ keys.
      aside-then _ _ (aside-some-member _ _ at) (λ m. aside-wants-some _))))

  pub aside-reads-stored : (at : Place) → Aside (reads_stored passes at)
  aside-reads-stored at =
      aside-then _ _ (aside-some _) (λ p. aside-then _ _ (aside-some _) (λ a. aside-then _ _ (aside-stored-type a _ _ at) (λ t. aside-wants-some _)))

  pub aside-reads-field : (w : Word) (at : Place) → Aside (reads_stored_field passes w at)
  aside-reads-field w at = aside-then _ _ (aside-some _) (λ p. aside-then _ _ (aside-field-type _ _ at) (λ m. aside-wants-some _))

  pub aside-operand : (op : AssignOp) (at : Place) → Aside (is_operand passes op at)
  aside-operand op at =
      aside-then _ _ (aside-some _) (λ t. aside-then _ _ (aside-within _ _ at) (λ u. aside-then _ _ (aside-operand-sort op t at) (λ ints.
      aside-then _ _ (aside-sorts ints) (λ v. aside-wants-some _))))

  pub aside-ignorable : (at : Place) → Aside (is_ignorable passes at)
  aside-ignorable at = aside-then _ _ (aside-some _) (λ e. aside-then _ _ (aside-whether _ _ at) (λ b. aside-unless b _ at))

  pub aside-wanted : (at : Place) → Aside (is_wanted passes at)
  aside-wanted at = aside-then _ _ (aside-some _) (λ w. aside-then _ _ (aside-some _) (λ e. aside-below-if w e at))

  pub aside-index : (at : Place) → Aside (is_index passes at)
  aside-index at = aside-then _ _ (aside-some _) (λ a. aside-is-of _ at)

  pub aside-item-type : (at : Place) → Aside (item_type_at passes at)
  aside-item-type at = aside-then _ _ (aside-some _) (λ e. aside-member-at _ _ at)

  pub aside-item : (at : Place) → Aside (is_item_of_loop passes at)
  aside-item at = aside-then _ _ (aside-item-type at) (λ m. aside-then _ _ (aside-some _) (λ t. aside-asking _ (below-behind passes m _ (Some at))))

  pub aside-widens-item : (at : Place) → Aside (widens_item passes at)
  aside-widens-item at =
      aside-then _ _ (aside-item-type at) (λ m. aside-then _ _ (aside-some _) (λ t. aside-then _ _ (aside-widened t at) (λ u. aside-wants _)))

  pub aside-counter : (at : Place) → Aside (is_counter passes at)
  aside-counter at = aside-then _ _ (aside-some _) (λ t. aside-then _ _ (aside-some _) (λ int. aside-asking _ (below-behind passes int.sem _ (Some at))))

pub aside-wants-counter : Aside wants_counter
aside-wants-counter = aside-wants-some _

pub aside-result : Aside wants_result
aside-result = aside-then _ _ (aside-some _) (λ u. aside-wants _)

pub aside-describes : (names : Names) (tree : TypeTree) → Aside (describes names tree)
aside-describes names tree = aside-then _ _ (aside-some _) (λ scope. aside-then _ _ (aside-asking _ (whole-behind names scope _)) (λ t. aside-wants-some _))

pub aside-heads : (words : List Word) → Aside (heads words)
aside-heads words = aside-changes (at_head words) (λ place f h. heads-stored place words f h) (λ vs f h. of-heads vs words f h)

pub aside-stops : Aside stops
aside-stops = aside-changes stopped (λ place f h. h) (λ vs f h. h)
