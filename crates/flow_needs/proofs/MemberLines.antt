-- Lines with keys, members and details, and calls of names.
use Rattle.std.proofs.Common.{◌≡◌, ◌⊎◌, inl, inr, ℕ, Bool, true, false, List, [], ◌∷◌, length, map, All, IfSome, Option, None, Some, subst}
use Rattle.std.specs.Global.{Box}
use Rattle.std.proofs.lemmas.List.Elements.{All-cons, All-head, All-nil, All-tail}
use Rattle.bal_base.specs.declared.fault.FaultCode.{FaultCode}
use Rattle.bal_base.specs.declared.fault.FaultCode.TheVariants.{Unknown}
use Rattle.bal_base.specs.declared.place.Place.{Place}
use Rattle.bal_base.specs.declared.text.Text.{Text}
use Rattle.bal_tree.specs.declared.name.QualifiedName.{QualifiedName}
use Rattle.bal_tree.specs.declared.name.Word.{Word}
use Rattle.checks.specs.Checks.{Gives, ◌▷◌, refuses}
use Rattle.descriptors.specs.declared.names.Meaning.{Meaning}
use Rattle.descriptors.specs.declared.names.Meaning.TheVariants as meaning
use Rattle.descriptors.specs.declared.names.Names.{Names}
use Rattle.needs.specs.Needs.{in_turn}
use Rattle.operations.specs.declared.operation.Constant.{Constant}
use Rattle.operations.specs.Rows.{Surroundings}
use Rattle.type_model.specs.declared.answers.TypeLimit.{TypeLimit}
use Rattle.type_model.specs.declared.atoms.AtomDef.{AtomDef}
use Rattle.type_model.specs.Calls.{Asked}
use Rattle.typed_tree.specs.declared.expr.TypedExpr.{TypedExpr}
use Rattle.typed_tree.specs.Listed.{Listed, one, ◌&◌}
use Rattle.typed_tree.specs.SharedTypes.{Shared}
use Rattle.typed_tree.specs.Views.{IsImplied}
use Rattle.expr_needs.specs.declared.expected.Expected.{Expected}
use Rattle.expr_needs.specs.declared.expected.Expected.TheVariants as expected
use Rattle.expr_needs.specs.declared.kind.Kind.TheVariants as kind
use Rattle.expr_needs.specs.ExprTable.{Reading, against, argument_needs, callee_needs, called_needs, cause_needs, details_needs, error_needs, freely, mapping_needs, member_needs, seen_of}
use Rattle.expr_needs.specs.Needs.{MemberSeen, Need, BeginsKeys, CallsNamed, CallsValue, ChoosesMapping, ComputesKey, ExpectsMember, Fails, GivesKey, IsDetail, IsMember, LacksCause, MakesCall, MakesError, MakesMapping, Starts}
use Rattle.check_words.specs.Calls.{calls_meaning, calls_named, calls_seen, calls_seen_value}
use Rattle.check_words.specs.Constructors.{gives_new_key, lacks_cause}
use Rattle.check_words.specs.Seen.{Seen, SeenVariable, SeenWorker, SeenConstant, SeenLibrary, SeenMeaning, SeenNothing}
use Rattle.check_words.specs.State.{IsLast, State, UnitAtWork}
use Rattle.check_words.specs.Words.{fails}
use Rattle.tree_promises.specs.Flows.{Around}
use Rattle.tree_promises.specs.Known.{Flow}
use Rattle.tree_promises.specs.Laws.{MadeExprsKeepFlows}
use Rattle.tree_promises.specs.MadeFlows.{KeepsFlow}
use Rattle.typed_needs.specs.Between.{IsSoFar}
use Rattle.typed_needs.proofs.Placed.{last-same}
use Rattle.calm_needs.specs.Calm.{IsCalmNeed, NeedsAreCalm}
use Rattle.calm_needs.proofs.PlacedParts.{implied-units, units_of}
use Rattle.typed_exprs.proofs.Steps.{Step, parted, so-far}
use Rattle.flow_needs.specs.Quiet.{IsQuiet}
use Rattle.flow_needs.specs.Runs.{IsFlowingUnit, KnowsFlow}
use Rattle.flow_needs.specs.Slots.{HaveSlots}
use Rattle.flow_needs.proofs.Forms.{implied-keeps}
use Rattle.flow_needs.proofs.Growing.{GrowsBy, grows-quiet, known, units-from}
use Rattle.flow_needs.proofs.Needs.{quiet-begins-keys, quiet-calls-value, quiet-chooses-mapping, quiet-computes-key, quiet-expects-member, quiet-is-detail, quiet-is-member, weave-call, weave-error, weave-mapping, weave-starts}
use Rattle.flow_needs.proofs.Quieting.{quiet-fails, quiet-on}
use Rattle.flow_needs.proofs.QuietWords.{quiet-function, quiet-is-of, quiet-library, quiet-opens-call, quiet-takes-key}
use Rattle.flow_needs.proofs.Reading.{AddsOne, GivenBy, IsSeenHere, adds-before, adds-behind, adds-makes, given-keeps, given-units, looked-up, seen-given}
use Rattle.flow_needs.proofs.Stepping.{AtHand, FlowLine, Growing, grow-turn, grow-wanted, slots-within, step-path, strict-line}
use Rattle.flow_needs.proofs.StrictLines.{arguments, both, free-operand, last, leads, operand, quietly}
use Rattle.flow_needs.proofs.Wanting.{member-wanted}

-- ---- what stands where the text has nothing

abbrev ImpliedPart : TypedExpr → Type 0
ImpliedPart e = (c : Constant) × (t : Shared) × (at : Place) × IsImplied c t at e

key-given : (text : Text) (at : Place) (old new : State) (a : Unit {0}) → gives_new_key text at old (Gives a) new → AddsOne ImpliedPart old new
unfolding ◌▷◌
key-given text at old new a (u, mid, first, made) =
    adds-behind ImpliedPart old mid new (quiet-takes-key text at old mid u first) (adds-makes _ ImpliedPart (λ env e (t, single, view). (_, t, _, view)) mid new a made)

cause-given : (at : Place) (old new : State) (a : Unit {0}) → lacks_cause at old (Gives a) new → AddsOne ImpliedPart old new
cause-given at old new a made = adds-makes _ ImpliedPart (λ env e (t, single, view). (_, t, _, view)) old new a made

-- ---- names that are called

-- a value that a name stands for is a part, and nothing else is
module _ (passes : List AtomDef → Asked → TypeLimit → Type 0) where
  abbrev Called : Seen → State → State → Type 0
  Called seen old new = AddsOne (GivenBy seen) old new ⊎ IsQuiet old new

  value-called : (seen : Seen) (at : Place) (old new : State) (a : Unit {0}) → calls_seen_value passes seen at old (Gives a) new → AddsOne (GivenBy seen) old new
  unfolding ◌▷◌
  value-called seen at old new a (u, s, given, (v, t, asked, opened)) =
      adds-before (GivenBy seen) old s new (seen-given seen at old s u given)
      (quiet-on s t new (quiet-is-of passes kind.AnyFunction at s t v asked) (quiet-opens-call _ t new a opened))

  meaning-called : (m : Meaning) (count : ℕ) (name at : Place) (old new : State) (a : Unit {0}) → calls_meaning passes m count name at old (Gives a) new → Called (SeenMeaning m) old new
  meaning-called (meaning.Function f) count name at old new a met = inr (quiet-function f count at old new a met)
  meaning-called (meaning.TypeName t) count name at old new a met = inr (quiet-fails _ name old new a met)
  meaning-called (meaning.Constant t) count name at old new a met = inl (value-called (SeenMeaning (meaning.Constant t)) name old new a met)
  meaning-called (meaning.Variable number final t) count name at old new a met = inl (value-called (SeenMeaning (meaning.Variable number final t)) name old new a met)

  library-called : (started : Bool) (row : _) (count : ℕ) (name at : Place) (old new : State) (a : Unit {0}) → calls_seen passes started (SeenLibrary row) count name at old (Gives a) new
      → IsQuiet old new
  library-called true row count name at old new a met = quiet-fails _ name old new a met
  library-called false row count name at old new a met = quiet-library row None count at old new a met

  seen-called : (started : Bool) (seen : Seen) (count : ℕ) (name at : Place) (old new : State) (a : Unit {0}) → calls_seen passes started seen count name at old (Gives a) new
      → Called seen old new
  seen-called started (SeenVariable v) count name at old new a met = inl (value-called (SeenVariable v) name old new a met)
  seen-called started (SeenWorker w) count name at old new a met = inr (quiet-fails _ name old new a met)
  seen-called started (SeenConstant c) count name at old new a met = inl (value-called (SeenConstant c) name old new a met)
  seen-called started (SeenLibrary row) count name at old new a met = inr (library-called started row count name at old new a met)
  seen-called started (SeenMeaning m) count name at old new a met = meaning-called m count name at old new a met
  seen-called started (SeenNothing code) count name at old new a met = inr (quiet-fails code name old new a met)

  module _ (names : Names) (env : List AtomDef) (calm : NeedsAreCalm passes names) (flows : MadeExprsKeepFlows) where
    abbrev Reads : Reading → Type 0
    Reads = KnowsFlow passes names env

    abbrev Says : (Expected → Listed Need) → Type 0
    Says = FlowLine passes names env

    module _ (place : Surroundings) (around : Around) (live : Bool) (slots : around.slots ≡ place.slots) where
      abbrev H : Listed Need → Type 0
      H = Growing passes names env calm flows place around live slots

      pub grow-one : (need : Need) → IsCalmNeed need
          → ((old new : State) → AtHand old → Step passes names env need old new → IsSoFar env place new → GrowsBy env around live old new) → H (one need)
      grow-one need is grows =
          record { path = λ old new unit run. step-path passes names env calm flows place around live slots need is old new run; grows = λ old new h run far. grows old new h run far }

      pub grows-added : (P : TypedExpr → Type 0) (old new : State) → AddsOne P old new
          → ((u : UnitAtWork) → IsLast old.units u → (base : Option Flow) → (e : TypedExpr) → P e → KeepsFlow env around base e (known env around live u.flow))
          → ((e : TypedExpr) → P e → units_of e ≡ []) → GrowsBy env around live old new
      grows-added P old new a keeps none =
          record {
            parts = a.part ∷ [];
            found = a.found;
            on = a.on;
            keep = λ u last base at-base. (keeps u last base a.part a.is, tt);
            units = units-from env around live a.part [] (none a.part a.is) (All-nil (IsFlowingUnit env));
          }

      implied-grows : (old new : State) → AddsOne ImpliedPart old new → GrowsBy env around live old new
      implied-grows old new a =
          grows-added ImpliedPart old new a (λ u last base e (c, t, at, view). implied-keeps env around base (known env around live u.flow) c t at e view)
          (λ e (c, t, at, view). implied-units e view)

      key : (text : Text) (at : Place) → H (one (GivesKey text at))
      key text at = grow-one (GivesKey text at) tt (λ old new h s far. implied-grows old new (key-given text at old new tt s.0))

      lacks : (at : Place) → H (one (LacksCause at))
      lacks at = grow-one (LacksCause at) tt (λ old new h s far. implied-grows old new (cause-given at old new tt s.0))

      called-grows : (q : QualifiedName) (old new : State) → AtHand old → IsSoFar env place old → (u : UnitAtWork) → IsLast old.units u → (seen : Seen)
          → IsSeenHere names old.site u.flow.variables q seen → Called seen old new → GrowsBy env around live old new
      called-grows q old new h far u last seen here (inl a) =
          grows-added (GivenBy seen) old new a (λ v last-v base e is.
          let one : u ≡ v = last-same old.units u v last last-v in
          let two : h.slots.unit ≡ v = last-same old.units h.slots.unit v h.slots.at_hand last-v in
          given-keeps env around live flows v old.site names q seen e base (subst (λ (z : UnitAtWork). HaveSlots (length z.slots) z.flow.variables) two h.slots.slots)
          (slots-within place around live env old v slots last-v far) (subst (λ (z : UnitAtWork). IsSeenHere names old.site z.flow.variables q seen) one here) is) (given-units seen)
      called-grows q old new h far u last seen here (inr quiet) = grows-quiet env around live old new quiet

      named-grows : (started : Bool) (q : QualifiedName) (count : ℕ) (at : Place) (old new : State) → AtHand old → IsSoFar env place old
          → calls_named passes names started q count at old (Gives tt) new → GrowsBy env around live old new
      unfolding ◌▷◌
      named-grows started q count at old new h far (seen, mid, looked, met) =
          let (u, last, is, here, same) = looked-up names q old mid seen looked in
          called-grows q old new h far u last seen here (seen-called started seen count q.at at old new tt (subst (λ (z : State). calls_seen passes started seen count q.at at z (Gives tt) new) same met))

      named : (started : Bool) (q : QualifiedName) (count : ℕ) (at : Place) → H (one (CallsNamed started q count at))
      named started q count at =
          grow-one (CallsNamed started q count at) tt
          (λ old new h s far.
          named-grows started q count at old new h (so-far env place old new (step-path passes names env calm flows place around live slots (CallsNamed started q count at) tt old new s) far) s.0)

      -- ---- what is called

      callee : (started : Bool) (n : Option QualifiedName) (f : Reading) (count : ℕ) (at : Place) → Reads f → H (callee_needs started n f count at)
      callee started (Some q) f count at k = named started q count at
      callee started None f count at k =
          both passes names env calm flows place around live slots (against kind.AnyFunction f) (one CallsValue) (operand passes names env calm flows place around live slots kind.AnyFunction f k)
          (quietly passes names env calm flows place around live slots CallsValue tt (quiet-calls-value passes names))

      called : (started : Bool) (f : Reading) (args : List Reading) (at : Place) → Reads f → All Reads args → H (called_needs started f args at)
      called started f args at k all =
          both passes names env calm flows place around live slots (callee_needs started f.name f (length args) at) (in_turn (argument_needs at) args) (callee started f.name f (length args) at k)
          (arguments passes names env calm flows place around live slots at args all)

      -- ---- members and details

      pub keyed : (text : Text) (at : Place) → H (one (GivesKey text at))
      keyed = key

      pub computed : (a : Reading) → Reads a → H (against kind.Text a & one ComputesKey)
      computed a k =
          both passes names env calm flows place around live slots (against kind.Text a) (one ComputesKey) (operand passes names env calm flows place around live slots kind.Text a k)
          (quietly passes names env calm flows place around live slots ComputesKey tt (quiet-computes-key passes names))

      pub member : (k v : Reading) → H (freely k) → Reads v → H (member_needs k v)
      member k v gk kv =
          both passes names env calm flows place around live slots (freely k) (one ExpectsMember & v.needs expected.Wanted & one (IsMember v.at)) gk
          (grow-wanted passes names env calm flows place around live slots ExpectsMember tt (quiet-expects-member passes names) member-wanted v kv (one (IsMember v.at))
          (quietly passes names env calm flows place around live slots (IsMember v.at) tt (quiet-is-member passes names v.at)))

      pub detail : (name : Text) (at : Place) (v : Reading) → Reads v → H (one (GivesKey name at) & freely v & one (IsDetail v.at))
      detail name at v kv =
          both passes names env calm flows place around live slots (one (GivesKey name at)) (freely v & one (IsDetail v.at)) (key name at)
          (both passes names env calm flows place around live slots (freely v) (one (IsDetail v.at)) (free-operand passes names env calm flows place around live slots v kv)
          (quietly passes names env calm flows place around live slots (IsDetail v.at) tt (quiet-is-detail passes names v.at)))

      cause : (c : Option (Box Reading)) (at : Place) → IfSome c (λ b. Reads b.value) → H (cause_needs c at)
      cause None at k = lacks at
      cause (Some c) at k = operand passes names env calm flows place around live slots kind.ErrorOrNil c.value k

    -- ---- the lines

    -- what is read of a member, of a key or of a detail
    abbrev pub GrowsFreely : Reading → Type 0
    GrowsFreely r = (place : Surroundings) (around : Around) (live : Bool) (slots : around.slots ≡ place.slots) → H place around live slots (freely r)

    all-grow : (place : Surroundings) (around : Around) (live : Bool) (slots : around.slots ≡ place.slots) (rs : List Reading) → All GrowsFreely rs → All (λ r. H place around live slots (freely r)) rs
    all-grow place around live slots [] all = All-nil (λ r. H place around live slots (freely r))
    all-grow place around live slots (r ∷ rs) all =
        All-cons (λ z. H place around live slots (freely z)) r rs (let g = All-head GrowsFreely r rs all in g place around live slots) (all-grow place around live slots rs (All-tail GrowsFreely r rs all))

    in-turn : (place : Surroundings) (around : Around) (live : Bool) (slots : around.slots ≡ place.slots) (rs : List Reading) → All GrowsFreely rs → H place around live slots (in_turn freely rs)
    in-turn place around live slots rs all = grow-turn passes names env calm flows place around live slots freely rs (all-grow place around live slots rs all)

    pub function : (f : Reading) (args : List Reading) (at : Place) → Reads f → All Reads args → Says (λ e. called_needs false f args at & one (MakesCall at))
    function f args at k all =
        strict-line passes names env calm flows (λ e. MakesCall at) (λ e. called_needs false f args at & one (MakesCall at)) (λ e. weave-call passes names at)
        (λ place around live slots e.
        leads passes names env calm flows place around live slots (MakesCall at) (called_needs false f args at) (one (MakesCall at)) (called place around live slots false f args at k all)
        (last passes names env calm flows place around live slots (MakesCall at) tt))

    pub started : (f : Reading) (args : List Reading) (at here behind : Place) → Reads f → All Reads args → Says (λ e. called_needs true f args at & one (Starts here behind))
    started f args at here behind k all =
        strict-line passes names env calm flows (λ e. Starts here behind) (λ e. called_needs true f args at & one (Starts here behind)) (λ e. weave-starts passes names here behind)
        (λ place around live slots e.
        leads passes names env calm flows place around live slots (Starts here behind) (called_needs true f args at) (one (Starts here behind)) (called place around live slots true f args at k all)
        (last passes names env calm flows place around live slots (Starts here behind) tt))

    -- a method is never started
    never-met : (code : FaultCode) (at : Place) (old new : State) → fails {A = Unit {0}} code at old (Gives tt) new → ⊥
    unfolding refuses
    never-met code at old new met = met

    pub no-method : (a : Reading) (m : Word) (here behind : Place) → Says (λ e. (freely a & one (Fails Unknown m.at)) & one (Starts here behind))
    no-method a m here behind leaves e place around live old new slots ready run standing own far =
        let (k, first, s) = parted passes names env (freely a & one (Fails Unknown m.at)) (one (Starts here behind)) old new run in
        let (j, ra, f) = parted passes names env (freely a) (one (Fails Unknown m.at)) old k first in absurd (never-met Unknown m.at j k f.0)

    pub mapping : (ms : List Reading) (at : Place) → All GrowsFreely ms → Says (λ e. mapping_needs ms at e)
    mapping ms at all =
        strict-line passes names env calm flows (λ e. MakesMapping (length ms) at) (λ e. mapping_needs ms at e) (λ e. weave-mapping passes names (length ms) at)
        (λ place around live slots e.
        let seen : List MemberSeen = map seen_of ms in
        leads passes names env calm flows place around live slots (MakesMapping (length ms) at) (one (ChoosesMapping e seen at) & in_turn freely ms) (one (MakesMapping (length ms) at))
        (both passes names env calm flows place around live slots (one (ChoosesMapping e seen at)) (in_turn freely ms)
        (quietly passes names env calm flows place around live slots (ChoosesMapping e seen at) tt (quiet-chooses-mapping passes names e seen at)) (in-turn place around live slots ms all))
        (last passes names env calm flows place around live slots (MakesMapping (length ms) at) tt))

    pub error : (m : Reading) (c : Option (Box Reading)) (ds : List Reading) (at : Place) → Reads m → IfSome c (λ b. Reads b.value) → All GrowsFreely ds
        → Says (λ e. error_needs m c ds at)
    error m c ds at km kc all =
        strict-line passes names env calm flows (λ e. MakesError (length ds) at) (λ e. error_needs m c ds at) (λ e. weave-error passes names (length ds) at)
        (λ place around live slots e.
        leads passes names env calm flows place around live slots (MakesError (length ds) at) (against kind.Text m & cause_needs c at) (details_needs ds at)
        (both passes names env calm flows place around live slots (against kind.Text m) (cause_needs c at) (operand passes names env calm flows place around live slots kind.Text m km)
        (cause place around live slots c at kc))
        (leads passes names env calm flows place around live slots (MakesError (length ds) at) (one BeginsKeys & in_turn freely ds) (one (MakesError (length ds) at))
        (both passes names env calm flows place around live slots (one BeginsKeys) (in_turn freely ds)
        (quietly passes names env calm flows place around live slots BeginsKeys tt (quiet-begins-keys passes names)) (in-turn place around live slots ds all))
        (last passes names env calm flows place around live slots (MakesError (length ds) at) tt)))
