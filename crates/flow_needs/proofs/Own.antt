-- Constructs that keep the value of an operand in a slot of their own: `a ?: b`, `check a` and `checkpanic a`; and `trap a`.
use Rattle.std.proofs.Common.{◌≡◌, ◌≤◌, ◌<◌, ◌∙◌, ◌++◌, inl, ℕ, zero, suc, Bool, false, List, [], ◌∷◌, length, All, IfSome, Option, None, Some, arith, rules, sym, subst, ap}
use Rattle.std.specs.Prelude.{◌⊎◌, slice_get}
use Rattle.std.proofs.lemmas.List.Elements.{All-head}
use Rattle.bal_base.specs.declared.place.Place.{Place}
use Rattle.bal_base.specs.declared.shape.Shape.{Shape}
use Rattle.checks.specs.Checks.{Gives, ◌▷◌, gives_some}
use Rattle.checks.specs.Questions.{below}
use Rattle.descriptors.specs.Described.{IsPlain}
use Rattle.needs.specs.Needs.{asks, does}
use Rattle.operations.specs.Kinds.{IsError, IsNil}
use Rattle.operations.specs.Rows.{Surroundings}
use Rattle.type_model.specs.declared.answers.TypeLimit.{TypeLimit}
use Rattle.type_model.specs.declared.atoms.AtomDef.{AtomDef}
use Rattle.type_model.specs.declared.basic.SemType.{SemType}
use Rattle.type_model.specs.Calls.{Asked, KeepsTypes}
use Rattle.type_model.specs.Defined.{IsDefined}
use Rattle.type_model.specs.Inclusion.{Sub}
use Rattle.type_model.specs.Membership.{In}
use Rattle.type_model.proofs.Kept.{KeepsTypes-append}
use Rattle.typed_tree.proofs.ExprLayers.{expr_layers}
use Rattle.typed_tree.specs.declared.expr.TypedExpr.{TypedExpr}
use Rattle.typed_tree.specs.Exprs.{type_of}
use Rattle.typed_tree.specs.SharedTypes.{Shared, sem_of}
use Rattle.typed_tree.specs.Views.{IsCheck, IsElvis}
use Rattle.check_words.specs.Stands.{PartBelow}
use Rattle.check_words.specs.State.{AreLast, IsLast, State, UnitAtWork, all_but}
use Rattle.check_words.specs.Values.{checked, checks, fills_nil, traps}
use Rattle.check_words.specs.Words.{Atoms, One, PartOf, Two, by_handles, makes, new_slot, sem}
use Rattle.check_words.proofs.LastOnes.{kept-is}
use Rattle.check_words.proofs.Standing.{last-have}
use Rattle.flow_narrowing.specs.Narrowed.{Plain, part_of}
use Rattle.eval_model.specs.Expressions.{error_type, nil_type}
use Rattle.tree_promises.specs.Flows.{Around}
use Rattle.tree_promises.specs.Known.{BaseBelow, Flow, FlowBelow}
use Rattle.tree_promises.specs.Laws.{MadeExprsKeepFlows}
use Rattle.tree_promises.specs.MadeFlows.{AllKeep, MadeKeepsFlow, OwnTested}
use Rattle.tree_promises.proofs.Order.{flow-itself}
use Rattle.typed_needs.specs.Between.{IsStanding, units_in}
use Rattle.typed_needs.specs.Items.{AreFirst}
use Rattle.typed_needs.specs.Pieces.{IsBefore}
use Rattle.typed_needs.specs.Placing.{IsPlaced}
use Rattle.typed_needs.proofs.Opened.{as-lasts, same-lasts}
use Rattle.typed_needs.proofs.Strict.{made-defined}
use Rattle.typed_needs.proofs.Placed.{SlotMade, all-but-last, last-same, placed-slot, slot-made}
use Rattle.calm_needs.proofs.PlacedParts.{check-units, elvis-units, trap-units}
use Rattle.typed_exprs.proofs.Steps.{same-front}
use Rattle.flow_needs.specs.Quiet.{IsQuiet, KnowsOn}
use Rattle.flow_needs.specs.Runs.{ComesToFlow, IsBaseAt, IsFlowingUnit}
use Rattle.flow_needs.specs.Slots.{HaveSlots}
use Rattle.flow_needs.proofs.Growing.{GrowsBy, as_live, comes-plain, known, units-from}
use Rattle.flow_needs.proofs.Known.{all-variables-are-known}
use Rattle.flow_needs.proofs.Leaving.{both_of, error-in, error-single, leaves-false, leaves-true, nil-in, nil-single, rest_of}
use Rattle.flow_needs.proofs.Quieting.{knows-at-hand, on-beside, on-then, quiet-new-slot}

-- ---- states on the way, as they are known from the end

-- its types have the same shapes over the atoms at the end
pub state-before : (env : List AtomDef) (s : State) → IsStanding s → AreFirst env s.atoms → IsBefore env s
state-before env s standing (more, is) =
    record { stands = standing.stands; keeps = subst (λ xs. KeepsTypes s.atoms xs) (sym is) (KeepsTypes-append s.atoms more standing.env) }

-- a slot of which something is known is there
slot-there : (xs : List SemType) (i : ℕ) (t : SemType) → slice_get xs i ≡ Some t → i < length xs
slot-there [] i t e = absurd (let bad : ⊥ = cc in bad)
slot-there (x ∷ xs) zero t e = omega arith
slot-there (x ∷ xs) (suc i) t e = let lt = slot-there xs i t e in omega (arith, lt)

-- ---- a slot more, and a part that keeps a value there

-- a slot of the construct's own, behind those that the unit had, of this type; and in place of so many parts one of which this holds
pub record KeepsOwn (count : ℕ) (t : Shared) (P : ℕ → Atoms → List TypedExpr → TypedExpr → Type 0) (place : Surroundings) (old new : State) : Type 0 where
  pub own : ℕ
  pub unit : UnitAtWork
  pub at_hand : IsLast old.units unit
  pub behind : own ≡ length unit.slots
  pub slot : slice_get place.slots own ≡ Some (sem_of t)
  pub parts : List TypedExpr
  pub last : AreLast old.found count parts
  pub part : TypedExpr
  pub is : P own old.atoms parts part
  pub found : new.found ≡ all_but count old.found ++ part ∷ []
  pub ways : new.ways ≡ None
  pub atoms : new.atoms ≡ old.atoms
  pub on : KnowsOn old new

new-slot-there : (t : Shared) (own : ℕ) (old new : State) → new_slot t old (Gives own) new → (u : UnitAtWork) × IsLast old.units u × (own ≡ length u.slots) × (new.atoms ≡ old.atoms)
unfolding ◌▷◌ gives_some by_handles does
new-slot-there t own old new (u, a, (last, first), (v, b, (w, c, (same, third), fourth), (is, second))) = (
  u,
  last,
  is,
  ap (λ (s : State). s.atoms) second ∙ ap (λ (s : State). s.atoms) fourth ∙ ap (λ (s : State). s.atoms) third ∙ ap (λ (s : State). s.atoms) first,
)

keeps-own : (count : ℕ) (t : Shared) (own : ℕ) (P : Atoms → List TypedExpr → TypedExpr → Type 0) (Q : ℕ → Atoms → List TypedExpr → TypedExpr → Type 0) (place : Surroundings)
    (old mid new : State) (a : Unit {0}) → ((env : Atoms) (parts : List TypedExpr) (e : TypedExpr) → P env parts e → Q own env parts e) → new_slot t old (Gives own) mid
    → makes count P mid (Gives a) new → IsPlaced place new → KeepsOwn count t Q place old new
unfolding does
keeps-own count t own P Q place old mid new a view slot (parts, last, e, x, is) placed =
    let (u, hand, behind, atoms) = new-slot-there t own old mid slot in
    let quiet : IsQuiet old mid = quiet-new-slot t old mid own slot in
    let made : SlotMade t own old mid = slot-made t own old mid slot in
    let units : new.units ≡ mid.units = ap (λ (s : State). s.units) is in
    record {
      own = own;
      unit = u;
      at_hand = hand;
      behind = behind;
      slot = placed-slot place t own old mid new made units placed;
      parts = parts;
      last = subst (λ xs. AreLast xs count parts) quiet.found last;
      part = e;
      is = view old.atoms parts e (subst (λ xs. P xs parts e) atoms x);
      found = ap (λ (s : State). s.found) is ∙ ap (λ xs. all_but count xs ++ e ∷ []) quiet.found;
      ways = ap (λ (s : State). s.ways) is;
      atoms = ap (λ (s : State). s.atoms) is ∙ atoms;
      on = on-then old mid new quiet.on (on-beside mid new units);
    }

-- ---- parts that are all of those that came

pub all-found : (count : ℕ) (old mid new : State) (parts : List TypedExpr) (part x : TypedExpr) (came : List TypedExpr) → mid.found ≡ old.found ++ came → AreLast mid.found count parts
    → new.found ≡ all_but count mid.found ++ part ∷ [] → new.found ≡ old.found ++ x ∷ [] → (parts ≡ came) × (new.found ≡ old.found ++ part ∷ [])
all-found count old mid new parts part x came is last found more =
    let kept-of : all_but count mid.found ≡ last.kept = kept-is count mid.found last.kept parts last.is last.many in
    let now : new.found ≡ last.kept ++ part ∷ [] = found ∙ ap (λ xs. xs ++ part ∷ []) kept-of in
    let kept : last.kept ≡ old.found = sym (all-but-last last.kept part) ∙ ap (λ xs. all_but 1 xs) (sym now ∙ more) ∙ all-but-last old.found x in (
      same-front old.found parts came (ap (λ xs. xs ++ parts) (sym kept) ∙ sym last.is ∙ is),
      now ∙ ap (λ xs. xs ++ part ∷ []) kept,
    )

all-of : (env : List AtomDef) (around : Around) (live : Bool) (count : ℕ) (old mid new : State) (parts : List TypedExpr) (part x : TypedExpr) (g : GrowsBy env around live old mid) → AreLast mid.found count parts
    → new.found ≡ all_but count mid.found ++ part ∷ [] → new.found ≡ old.found ++ x ∷ [] → (parts ≡ g.parts) × (new.found ≡ old.found ++ part ∷ [])
all-of env around live count old mid new parts part x g last found more = all-found count old mid new parts part x g.parts g.found last found more

pub cons-of : {A : Type 0} (x y : A) (xs ys : List A) → x ∷ xs ≡ y ∷ ys → (x ≡ y) × (xs ≡ ys)
cons-of x y xs ys e = (let q : x ≡ y = cc in q, let q : xs ≡ ys = cc in q)

filled-type : (own : ℕ) (a b : TypedExpr) (t : Shared) (at : Place) (e : TypedExpr) → IsElvis own a b t at e → type_of e ≡ t
filled-type own a b t at e (l, r, is, left, right) = search (rules, expr_layers)

checked-type : (panics : Bool) (own : ℕ) (a : TypedExpr) (t : Shared) (at : Place) (e : TypedExpr) → IsCheck panics own a t at e → type_of e ≡ t
checked-type panics own a t at e (o, is, same) = search (rules, expr_layers)

abbrev pub FilledOf : Place → ℕ → Atoms → List TypedExpr → TypedExpr → Type 0
FilledOf at own env parts e =
    Two parts (λ a b. (t : Shared) × IsPlain (λ x. (In env x (sem a) × ¬ IsNil x) ⊎ In env x (sem b)) env t.value × IsElvis own a b t at e)

abbrev pub CheckedOf : Bool → Place → ℕ → Atoms → List TypedExpr → TypedExpr → Type 0
CheckedOf panics at own env parts e = One parts (λ b. (t : Shared) × PartOf (sem b) (λ x. ¬ IsError x) env t.value × IsCheck panics own b t at e)

-- `a ?: b` keeps what is the last part but one
filled-opened : (at : Place) (place : Surroundings) (old new : State) → fills_nil at old (Gives tt) new → IsPlaced place new
    → (a : TypedExpr) × (b : TypedExpr) × AreLast old.found 2 (a ∷ b ∷ []) × KeepsOwn 2 (type_of a) (FilledOf at) place old new
unfolding ◌▷◌ gives_some
filled-opened at place old new (p, s, (last, first), (own, mid, slot, made)) placed = (
  p.0,
  p.1,
  last,
  subst (λ (x : State). KeepsOwn 2 (type_of p.0) (FilledOf at) place x new) first
      (keeps-own 2 (type_of p.0) own (FilledOf at own) (FilledOf at) place s mid new tt (λ env parts e x. x) slot made placed),
)

checked-opened : (panics : Bool) (at : Place) (place : Surroundings) (old new : State) → checked panics at old (Gives tt) new → IsPlaced place new
    → (a : TypedExpr) × IsLast old.found a × KeepsOwn 1 (type_of a) (CheckedOf panics at) place old new
unfolding ◌▷◌ gives_some
checked-opened panics at place old new (p, s, (last, first), (own, mid, slot, made)) placed = (
  p,
  last,
  subst (λ (x : State). KeepsOwn 1 (type_of p) (CheckedOf panics at) place x new) first
      (keeps-own 1 (type_of p) own (CheckedOf panics at own) (CheckedOf panics at) place s mid new tt (λ env parts e x. x) slot made placed),
)

-- the errors of the part are asked about before
pub checks-opened : (passes : List AtomDef → Asked → TypeLimit → Type 0) (at : Place) (old new : State) → checks passes at old (Gives tt) new → checked false at old (Gives tt) new
unfolding ◌▷◌ gives_some asks below
checks-opened passes at old new (a, s, (last, first), (u, t, (hand, second), (errors, v, (part, third), (x, w, ((under, atoms), over), rest)))) =
    let three : v ≡ old = third ∙ second ∙ first in
    let four : w ≡ old = over ∙ ap (λ (env : Atoms). record v { atoms = env }) atoms ∙ three in
    subst (λ (s : State). checked false at s (Gives tt) new) four rest

module _ (env : List AtomDef) (around : Around) (live : Bool) where
  -- nothing is known of the own slot before
  own-tested : (u : UnitAtWork) (base : Option Flow) → IsBaseAt env around live u base → HaveSlots (length u.slots) u.flow.variables → (own : ℕ) → length u.slots ≤ own → (s t : SemType)
      → slice_get around.slots own ≡ Some s → ((x : Shape) → In env x t → part_of x ≡ Plain) → OwnTested env around base (known env around live u.flow) own t (both_of s t) (rest_of s t)
  own-tested u base b slots own le s t slot single =
      let lt = slot-there around.slots own s slot in
      record {
        declared = s;
        slot = slot;
        free = b.free own le lt;
        unknown = (all-variables-are-known env around (length around.slots)).free (length u.slots) (as_live env around live u.flow) own slots le lt;
        on_true = leaves-true env s t;
        on_false = leaves-false env s t single;
      }

  module _ (flows : MadeExprsKeepFlows) (place : Surroundings) (same-slots : around.slots ≡ place.slots) where
    placed-here : (own : ℕ) (t : SemType) → slice_get place.slots own ≡ Some t → slice_get around.slots own ≡ Some t
    placed-here own t e = subst (λ xs. slice_get xs own ≡ Some t) (sym same-slots) e

    -- the own slot stands behind the slots that there were
    own-behind : (old mid : State) (u v : UnitAtWork) → KnowsOn old mid → IsLast old.units u → IsLast mid.units v → (own : ℕ) → own ≡ length v.slots → length u.slots ≤ own
    own-behind old mid u v on last hand own is =
        let (w, here, same) = knows-at-hand old.units mid.units u on.units last in
        let one : w ≡ v = last-same mid.units w v here hand in
        let more : length u.slots ≤ length v.slots = subst (λ (x : UnitAtWork). length u.slots ≤ length x.slots) one same.slots in omega (arith, more, is)

    pub comes-filled : (at : Place) (old mid new : State) (x : TypedExpr) (u : UnitAtWork) → IsLast old.units u → HaveSlots (length u.slots) u.flow.variables → GrowsBy env around live old mid
        → IsBefore env mid → IsBefore env new → IsPlaced place new → fills_nil at mid (Gives tt) new → new.found ≡ old.found ++ x ∷ [] → ComesToFlow env around live old new
    comes-filled at old mid new x u last slots g before after placed met more =
        let (p, r, lasts, k) = filled-opened at place mid new met placed in
        let (a, b, is, (t, union, view)) = k.is in
        let (same, found) = all-of env around live 2 old mid new k.parts k.part x g k.last k.found more in
        let both : a ∷ b ∷ [] ≡ p ∷ r ∷ [] = sym is ∙ same-lasts mid.found 2 k.parts (p ∷ r ∷ []) k.last lasts in
        let kept : a ≡ p = (cons-of a p (b ∷ []) (r ∷ []) both).0 in
        let below : All (PartBelow (length mid.atoms)) (a ∷ b ∷ []) = last-have (PartBelow (length mid.atoms)) 2 mid.found (a ∷ b ∷ []) (subst (AreLast mid.found 2) is k.last) before.stands.found in
        let first : IsDefined mid.atoms (sem a) = (All-head (PartBelow (length mid.atoms)) a (b ∷ []) below).0 in
        let defined : IsDefined mid.atoms (sem_of t) = made-defined env 2 mid new k.part t after (filled-type k.own a b t at k.part view) k.found k.atoms in
        let under : Sub env (rest_of (sem a) nil_type) (sem_of t) = λ y valid i.
        (before.keeps.shapes (sem_of t) defined y).0 ((union.shapes y valid).1 (inl ((before.keeps.shapes (sem a) first y).1 i.0, (λ nil. i.1 (nil-in env y nil))))) in
        let slot : slice_get around.slots k.own ≡ Some (sem a) = placed-here k.own (sem a) (subst (λ (q : TypedExpr). slice_get place.slots k.own ≡ Some (sem q)) (sym kept) k.slot) in
        let le : length u.slots ≤ k.own = own-behind old mid u k.unit g.on last k.at_hand k.own k.behind in
        comes-plain env around live old new k.part u last found (on-then old mid new g.on k.on) k.ways
        (λ base at-base.
        let keep : AllKeep env around base (a ∷ b ∷ []) (known env around live u.flow) =
        subst (λ xs. AllKeep env around base xs (known env around live u.flow)) (sym same ∙ is) (g.keep u last base at-base) in
        let made : MadeKeepsFlow env around base = flows env around base in
        made.filled k.own a b k.part t at (known env around live u.flow) (both_of (sem a) nil_type) (rest_of (sem a) nil_type) view keep.0 keep.1.0
        (own-tested u base at-base slots k.own le (sem a) nil_type slot (nil-single env)) under)
        (units-from env around live k.part (a ∷ b ∷ []) (elvis-units k.part view) (subst (λ xs. All (IsFlowingUnit env) (units_in xs)) (sym same ∙ is) g.units))

    pub comes-checked : (panics : Bool) (at : Place) (old mid new : State) (x : TypedExpr) (u : UnitAtWork) → IsLast old.units u → HaveSlots (length u.slots) u.flow.variables
        → GrowsBy env around live old mid → IsBefore env mid → IsBefore env new → IsPlaced place new → checked panics at mid (Gives tt) new → new.found ≡ old.found ++ x ∷ []
        → ComesToFlow env around live old new
    comes-checked panics at old mid new x u last slots g before after placed met more =
        let (p, lasts, k) = checked-opened panics at place mid new met placed in
        let (a, is, (t, part, view)) = k.is in
        let (same, found) = all-of env around live 1 old mid new k.parts k.part x g k.last k.found more in
        let kept : a ≡ p = (cons-of a p [] [] (sym is ∙ same-lasts mid.found 1 k.parts (p ∷ []) k.last (as-lasts mid.found p lasts))).0 in
        let below : All (PartBelow (length mid.atoms)) (a ∷ []) = last-have (PartBelow (length mid.atoms)) 1 mid.found (a ∷ []) (subst (AreLast mid.found 1) is k.last) before.stands.found in
        let first : IsDefined mid.atoms (sem a) = (All-head (PartBelow (length mid.atoms)) a [] below).0 in
        let defined : IsDefined mid.atoms (sem_of t) = made-defined env 1 mid new k.part t after (checked-type panics k.own a t at k.part view) k.found k.atoms in
        let under : Sub env (rest_of (sem a) error_type) (sem_of t) = λ y valid i.
        (before.keeps.shapes (sem_of t) defined y).0 ((part.shapes y valid).1 ((before.keeps.shapes (sem a) first y).1 i.0, (λ error. i.1 (error-in env y error)))) in
        let slot : slice_get around.slots k.own ≡ Some (sem a) = placed-here k.own (sem a) (subst (λ (q : TypedExpr). slice_get place.slots k.own ≡ Some (sem q)) (sym kept) k.slot) in
        let le : length u.slots ≤ k.own = own-behind old mid u k.unit g.on last k.at_hand k.own k.behind in
        comes-plain env around live old new k.part u last found (on-then old mid new g.on k.on) k.ways
        (λ base at-base.
        let keep : AllKeep env around base (a ∷ []) (known env around live u.flow) =
        subst (λ xs. AllKeep env around base xs (known env around live u.flow)) (sym same ∙ is) (g.keep u last base at-base) in
        let made : MadeKeepsFlow env around base = flows env around base in
        made.checked panics k.own a k.part t at (known env around live u.flow) (both_of (sem a) error_type) (rest_of (sem a) error_type) view keep.0
        (own-tested u base at-base slots k.own le (sem a) error_type slot (error-single env)) under)
        (units-from env around live k.part (a ∷ []) (check-units k.part view) (subst (λ xs. All (IsFlowingUnit env) (units_in xs)) (sym same ∙ is) g.units))

    -- ---- traps

    -- where a panic lands is known what is known here
    trap-base : (u : UnitAtWork) → HaveSlots (length u.slots) u.flow.variables → IsBaseAt env around live u (Some (known env around live u.flow))
    trap-base u slots =
        record {
          free = λ slot le lt. (all-variables-are-known env around (length around.slots)).free (length u.slots) (as_live env around live u.flow) slot slots le lt;
          below = flow-itself env (known env around live u.flow);
        }

    outer-base : (base : Option Flow) (f : Flow) → IfSome base (FlowBelow env f) → BaseBelow env f base
    outer-base None f h = tt
    outer-base (Some g) f h = h

    pub comes-trapped : (at : Place) (old mid new : State) (x : TypedExpr) (u : UnitAtWork) → IsLast old.units u → HaveSlots (length u.slots) u.flow.variables → GrowsBy env around live old mid
        → traps at mid (Gives tt) new → new.found ≡ old.found ++ x ∷ [] → ComesToFlow env around live old new
    unfolding does
    comes-trapped at old mid new x u last slots g (parts, lasts, e, (a, is, (t, either, view)), now) more =
        let (same, found) = all-of env around live 1 old mid new parts e x g lasts (ap (λ (s : State). s.found) now) more in
        comes-plain env around live old new e u last found (on-then old mid new g.on (on-beside mid new (ap (λ (s : State). s.units) now))) (ap (λ (s : State). s.ways) now)
        (λ base at-base.
        let keep : AllKeep env around (Some (known env around live u.flow)) (a ∷ []) (known env around live u.flow) =
        subst (λ xs. AllKeep env around (Some (known env around live u.flow)) xs (known env around live u.flow)) (sym same ∙ is)
        (g.keep u last (Some (known env around live u.flow)) (trap-base u slots)) in
        let made : MadeKeepsFlow env around base = flows env around base in
        made.trapped a e t at (known env around live u.flow) view keep.0 (outer-base base (known env around live u.flow) at-base.below))
        (units-from env around live e (a ∷ []) (trap-units e view) (subst (λ xs. All (IsFlowingUnit env) (units_in xs)) (sym same ∙ is) g.units))
