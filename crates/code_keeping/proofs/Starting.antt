-- What code asks for is what its command says, so named workers are started once and an alternate wait is for something; and what
-- machines keep holds of code.
use Rattle.std.proofs.Common.{◌≡◌, ◌≢◌, ◌∙◌, ◌+◌, ℕ, zero, suc, true, false, List, [], ◌∷◌, ◌++◌, Option, Some, None, inl, inr, refl, sym, ap, subst}
use Rattle.std.proofs.lemmas.Option.{unwrap_or-slice_get}
use Rattle.std.specs.Prelude.{IsSomeAnd, IsTrue, ◌⊎◌, get_or, is_some, slice_get, unwrap_or}
use Rattle.bal_base.specs.declared.text.Text.{Text}
use Rattle.operations.specs.declared.operation.Operation.{Operation}
use Rattle.operations.specs.declared.operation.Operation.TheVariants as op
use Rattle.operations.specs.Structures.{AwaitsAny}
use Rattle.value_model.specs.declared.value.Value.{Value}
use Rattle.value_model.specs.declared.value.Value.TheVariants.{Nil, Bool as Truth, Int, Str, Struct, Error, Function, Future}
use Rattle.value_model.specs.Meaning.{Answers}
use Rattle.op_model.specs.Common.{Common, End, Role, Strand}
use Rattle.op_model.specs.Local.{Local, acts, captured_from, captures, futures_in, loaded, stored, dropped, taken, twice}
use Rattle.op_model.specs.Strands.{end_in, has_ended, no_strand, strand_at}
use Rattle.machine_model.specs.Keeping.{FramesFit, IsIdle}
use Rattle.machine_model.specs.Machine.{Does, Frame, State, asks, captured_slots}
use Rattle.machine_model.specs.Runs.{AreWords, IsReached, Phase, Picking, Running}
use Rattle.machine_model.specs.Strands.{StartsOnce, WaitsForSome, frames_in}
use Rattle.machine_model.proofs.HoldOfStrands.{hold-of-strands}
use Rattle.machine_model.proofs.Keeping.{kept-holds}
use Rattle.machine_model.proofs.Places.{if-other}
use Rattle.stack_code.specs.declared.code.Code.{Code}
use Rattle.stack_code.specs.CodeMachine.{OpenedTrap, Standing, branches, closes, code_facts, codes, obeys, standing}
use Rattle.stack_code.specs.Commands.{Command, CloseTrap, Do, GoTo, GoToIfNot, OpenTrap, command_at}
use Rattle.stack_code.specs.Flow.{DoesTyped}
use Rattle.stack_code.specs.Frames.{TallyIs, TopFits}
use Rattle.stack_code.specs.Good.{code_invariant}
use Rattle.stack_code.specs.Places.{surroundings, tally_at}
use Rattle.stack_code.specs.WellTyped.{WellTyped}
use Rattle.code_keeping.specs.Laws.{ReachedAreGood, StrandsOfCodeHold}
use Rattle.code_keeping.proofs.Lists.{some-there}
use Rattle.code_keeping.proofs.Places.{at-place, typed-by, typed-in}

-- ---- an operation asks for itself, or for the load of a slot that has nothing

abbrev AsksFor : Operation → Operation → Type 0
AsksFor o other = (o ≡ other) ⊎ ((slot : ℕ) × (op.Load slot ≡ other))

takes-own : (go : Local → Standing) (o : Operation) (l : Local) (n : ℕ) (args stack : List Value) (other : Operation) (vs : List Value) (k : Standing) → asks go (taken o l n args stack) ≡ Does other vs k → o ≡ other
takes-own go o l zero args stack other vs k e = let q : o ≡ other = cc in q
takes-own go o l (suc n) args [] other vs k e = absurd (let q : ⊥ = cc in q)
takes-own go o l (suc n) args (v ∷ stack) other vs k e = takes-own go o l n (v ∷ args) stack other vs k e

loads-own : (go : Local → Standing) (l : Local) (slot : ℕ) (r : Option (Option Value)) (other : Operation) (vs : List Value) (k : Standing) → asks go (loaded l slot r) ≡ Does other vs k → op.Load slot ≡ other
loads-own go l slot (Some (Some v)) other vs k e = absurd (let q : ⊥ = cc in q)
loads-own go l slot (Some None) other vs k e = let q : op.Load slot ≡ other = cc in q
loads-own go l slot None other vs k e = absurd (let q : ⊥ = cc in q)

captures-own : (go : Local → Standing) (l : Local) (slots : List ℕ) (args : List Value) (other : Operation) (vs : List Value) (k : Standing) → asks go (captures op.Workers l slots args) ≡ Does other vs k → AsksFor op.Workers other
captures-own go l [] args other vs k e = inl (let q : op.Workers ≡ other = cc in q)
captures-own go l (s ∷ slots) args other vs k e = by (λ v h. captures-own go l slots (args ++ v ∷ []) other vs k h) (slice_get l.slots s) e
  where
    by : ((v : Value) → asks go (captures op.Workers l slots (args ++ v ∷ [])) ≡ Does other vs k → AsksFor op.Workers other) → (r : Option (Option Value)) → asks go (captured_from l s r (λ v. captures op.Workers l slots (args ++ v ∷ []))) ≡ Does other vs k → AsksFor op.Workers other
    by more (Some (Some v)) e = more v e
    by more (Some None) e = inr (s, (let q : op.Load s ≡ other = cc in q))
    by more None e = absurd (let q : ⊥ = cc in q)

stores-none : (go : Local → Standing) (l : Local) (slot : ℕ) (stack : List Value) (other : Operation) (vs : List Value) (k : Standing) → asks go (stored l slot stack) ≡ Does other vs k → ⊥
stores-none go l slot [] other vs k e = let q : ⊥ = cc in q
stores-none go l slot (v ∷ stack) other vs k e = let q : ⊥ = cc in q

drops-none : (go : Local → Standing) (l : Local) (stack : List Value) (other : Operation) (vs : List Value) (k : Standing) → asks go (dropped l stack) ≡ Does other vs k → ⊥
drops-none go l [] other vs k e = let q : ⊥ = cc in q
drops-none go l (v ∷ stack) other vs k e = let q : ⊥ = cc in q

asks-own : (captured : List ℕ) (o : Operation) (l : Local) (go : Local → Standing) (other : Operation) (vs : List Value) (k : Standing) → asks go (acts captured o l) ≡ Does other vs k → AsksFor o other
asks-own captured (op.Const c) l go other vs k e = absurd (let q : ⊥ = cc in q)
asks-own captured (op.Load s) l go other vs k e = inl (loads-own go l s (slice_get l.slots s) other vs k e)
asks-own captured (op.Store s) l go other vs k e = absurd (stores-none go l s l.stack other vs k e)
asks-own captured op.Pop l go other vs k e = absurd (drops-none go l l.stack other vs k e)
asks-own captured op.Workers l go other vs k e = captures-own go l captured [] other vs k e
asks-own captured (op.LoadModule m) l go other vs k e = inl (takes-own go (op.LoadModule m) l 0 [] l.stack other vs k e)
asks-own captured (op.StoreModule m) l go other vs k e = inl (takes-own go (op.StoreModule m) l 1 [] l.stack other vs k e)
asks-own captured op.Tick l go other vs k e = inl (takes-own go op.Tick l 0 [] l.stack other vs k e)
asks-own captured op.Add l go other vs k e = inl (takes-own go op.Add l 2 [] l.stack other vs k e)
asks-own captured op.Subtract l go other vs k e = inl (takes-own go op.Subtract l 2 [] l.stack other vs k e)
asks-own captured op.Multiply l go other vs k e = inl (takes-own go op.Multiply l 2 [] l.stack other vs k e)
asks-own captured op.Divide l go other vs k e = inl (takes-own go op.Divide l 2 [] l.stack other vs k e)
asks-own captured op.Remainder l go other vs k e = inl (takes-own go op.Remainder l 2 [] l.stack other vs k e)
asks-own captured op.Negate l go other vs k e = inl (takes-own go op.Negate l 1 [] l.stack other vs k e)
asks-own captured op.Concat l go other vs k e = inl (takes-own go op.Concat l 2 [] l.stack other vs k e)
asks-own captured op.Less l go other vs k e = inl (takes-own go op.Less l 2 [] l.stack other vs k e)
asks-own captured op.LessEqual l go other vs k e = inl (takes-own go op.LessEqual l 2 [] l.stack other vs k e)
asks-own captured op.Not l go other vs k e = inl (takes-own go op.Not l 1 [] l.stack other vs k e)
asks-own captured op.Equal l go other vs k e = inl (takes-own go op.Equal l 2 [] l.stack other vs k e)
asks-own captured op.Same l go other vs k e = inl (takes-own go op.Same l 2 [] l.stack other vs k e)
asks-own captured (op.MakeList atom immutable count) l go other vs k e = inl (takes-own go (op.MakeList atom immutable count) l count [] l.stack other vs k e)
asks-own captured (op.MakeMapping atom immutable count) l go other vs k e = inl (takes-own go (op.MakeMapping atom immutable count) l (twice count) [] l.stack other vs k e)
asks-own captured (op.MakeError count) l go other vs k e = inl (takes-own go (op.MakeError count) l (suc (suc (twice count))) [] l.stack other vs k e)
asks-own captured (op.MakeFunction unit count) l go other vs k e = inl (takes-own go (op.MakeFunction unit count) l count [] l.stack other vs k e)
asks-own captured op.GetItem l go other vs k e = inl (takes-own go op.GetItem l 2 [] l.stack other vs k e)
asks-own captured op.GetKey l go other vs k e = inl (takes-own go op.GetKey l 2 [] l.stack other vs k e)
asks-own captured op.GetChar l go other vs k e = inl (takes-own go op.GetChar l 2 [] l.stack other vs k e)
asks-own captured (op.GetField name) l go other vs k e = inl (takes-own go (op.GetField name) l 1 [] l.stack other vs k e)
asks-own captured (op.GetOptional name) l go other vs k e = inl (takes-own go (op.GetOptional name) l 1 [] l.stack other vs k e)
asks-own captured op.SetItem l go other vs k e = inl (takes-own go op.SetItem l 3 [] l.stack other vs k e)
asks-own captured op.SetKey l go other vs k e = inl (takes-own go op.SetKey l 3 [] l.stack other vs k e)
asks-own captured (op.Test x) l go other vs k e = inl (takes-own go (op.Test x) l 1 [] l.stack other vs k e)
asks-own captured (op.Cast x) l go other vs k e = inl (takes-own go (op.Cast x) l 1 [] l.stack other vs k e)
asks-own captured (op.Call unit count) l go other vs k e = inl (takes-own go (op.Call unit count) l count [] l.stack other vs k e)
asks-own captured (op.CallValue count) l go other vs k e = inl (takes-own go (op.CallValue count) l (suc count) [] l.stack other vs k e)
asks-own captured (op.Library call atom count) l go other vs k e = inl (takes-own go (op.Library call atom count) l count [] l.stack other vs k e)
asks-own captured op.Return l go other vs k e = inl (takes-own go op.Return l 1 [] l.stack other vs k e)
asks-own captured op.Panic l go other vs k e = inl (takes-own go op.Panic l 1 [] l.stack other vs k e)
asks-own captured (op.Start unit count) l go other vs k e = inl (takes-own go (op.Start unit count) l count [] l.stack other vs k e)
asks-own captured (op.StartValue count) l go other vs k e = inl (takes-own go (op.StartValue count) l (suc count) [] l.stack other vs k e)
asks-own captured (op.Send w) l go other vs k e = inl (takes-own go (op.Send w) l 1 [] l.stack other vs k e)
asks-own captured (op.Post w) l go other vs k e = inl (takes-own go (op.Post w) l 1 [] l.stack other vs k e)
asks-own captured (op.Done w) l go other vs k e = inl (takes-own go (op.Done w) l 0 [] l.stack other vs k e)
asks-own captured (op.Receive w) l go other vs k e = inl (takes-own go (op.Receive w) l 0 [] l.stack other vs k e)
asks-own captured (op.Flush w) l go other vs k e = inl (takes-own go (op.Flush w) l 0 [] l.stack other vs k e)
asks-own captured (op.WaitWorker w) l go other vs k e = inl (takes-own go (op.WaitWorker w) l 0 [] l.stack other vs k e)
asks-own captured op.WaitFuture l go other vs k e = inl (takes-own go op.WaitFuture l 1 [] l.stack other vs k e)
asks-own captured (op.WaitAny names) l go other vs k e = inl (takes-own go (op.WaitAny names) l (futures_in names) [] l.stack other vs k e)
asks-own captured (op.WaitAll atom names) l go other vs k e = inl (takes-own go (op.WaitAll atom names) l (futures_in names) [] l.stack other vs k e)

-- ---- and a command asks for its operation

branches-none : (next to : ℕ) (traps : List OpenedTrap) (l : Local) (stack : List Value) (other : Operation) (vs : List Value) (k : Standing) → branches next to traps l stack ≡ Does other vs k → ⊥
branches-none next to traps l (Truth true ∷ stack) other vs k e = let q : ⊥ = cc in q
branches-none next to traps l (Truth false ∷ stack) other vs k e = let q : ⊥ = cc in q
branches-none next to traps l [] other vs k e = let q : ⊥ = cc in q
branches-none next to traps l (Nil ∷ stack) other vs k e = let q : ⊥ = cc in q
branches-none next to traps l (Int i ∷ stack) other vs k e = let q : ⊥ = cc in q
branches-none next to traps l (Str s ∷ stack) other vs k e = let q : ⊥ = cc in q
branches-none next to traps l (Struct n ∷ stack) other vs k e = let q : ⊥ = cc in q
branches-none next to traps l (Error n ∷ stack) other vs k e = let q : ⊥ = cc in q
branches-none next to traps l (Function n ∷ stack) other vs k e = let q : ⊥ = cc in q
branches-none next to traps l (Future n unit ∷ stack) other vs k e = let q : ⊥ = cc in q

closes-none : (next : ℕ) (traps : List OpenedTrap) (l : Local) (other : Operation) (vs : List Value) (k : Standing) → closes next traps l ≡ Does other vs k → ⊥
closes-none next [] l other vs k e = let q : ⊥ = cc in q
closes-none next (t ∷ traps) l other vs k e = let q : ⊥ = cc in q

does-asked : (captured : List ℕ) (s : Standing) (command : Option Command) (other : Operation) (vs : List Value) (k : Standing) → obeys captured s command ≡ Does other vs k → (o : Operation) × (command ≡ Some (Do o)) × AsksFor o other
does-asked captured s (Some (Do o)) other vs k e = (o, refl, asks-own captured o s.local (standing (s.place + 1) s.traps) other vs k e)
does-asked captured s (Some (GoTo to)) other vs k e = absurd (let q : ⊥ = cc in q)
does-asked captured s (Some (GoToIfNot to)) other vs k e = absurd (branches-none (s.place + 1) to s.traps s.local s.local.stack other vs k e)
does-asked captured s (Some (OpenTrap to)) other vs k e = absurd (let q : ⊥ = cc in q)
does-asked captured s (Some CloseTrap) other vs k e = absurd (closes-none (s.place + 1) s.traps s.local other vs k e)
does-asked captured s None other vs k e = absurd (let q : ⊥ = cc in q)

-- of an operation that is no load
pub at-command : (code : Code) (s : Standing) (captured : List ℕ) (other : Operation) (vs : List Value) (k : Standing) → ((slot : ℕ) → op.Load slot ≡ other → ⊥) → obeys captured s (command_at code s.place) ≡ Does other vs k → command_at code s.place ≡ Some (Do other)
at-command code s captured other vs k no-load e = by (does-asked captured s (command_at code s.place) other vs k e)
  where
    by : (o : Operation) × (command_at code s.place ≡ Some (Do o)) × AsksFor o other → command_at code s.place ≡ Some (Do other)
    by (o, is, inl same) = subst (λ o. command_at code s.place ≡ Some (Do o)) same is
    by (o, is, inr (slot, load)) = absurd (no-load slot load)

-- ---- what holds of the code

pub no-role : (code : Code) (c : Common) (role : Option Role) → TallyIs code c role None → role ≡ None
no-role code c None h = refl
no-role code c (Some r) h = absurd h

pub typed-at : (code : Code) (c : Common) (f : Frame Standing) (t : WellTyped code) (fits : TopFits code c f) (o : Operation) → command_at code f.control.place ≡ Some (Do o) →
    let at = at-place code c f fits.0 in DoesTyped code at.u at.station f.control.place o
typed-at code c f t fits o ec =
    let at = at-place code c f fits.0 in
    typed-by code at.u at.station f.control.place (Do o) ec (typed-in code t f.unit at.u at.is at.station at.stationed f.control.place at.here.0)

pub strands-of-code-hold : (natives : Answers) → StrandsOfCodeHold natives
strands-of-code-hold natives code fillers t kept = hold-of-strands natives (codes fillers code) starts waits
  where
    top-fits : (words : List Text) (input : List ℕ) (ticks : ℕ) (s : State Standing) (f : Frame Standing) (fs : List (Frame Standing)) → AreWords words → IsReached natives (codes fillers code) words input ticks Running s → s.frames ≡ f ∷ fs → TopFits code s.common f
    top-fits words input ticks s f fs texts reached frames =
        let state = kept-holds natives (codes fillers code) (code_invariant code) kept words input ticks Running s texts reached in
        (subst (λ l. FramesFit (code_invariant code) s.common s.common.running l) frames state.frames.0).0

    starts : StartsOnce natives (codes fillers code)
    starts words input ticks s f fs vs k texts reached frames looks =
        let fits = top-fits words input ticks s f fs texts reached frames in
        let ec = at-command code f.control (captured_slots (code_facts fillers code) f.unit) op.Workers vs k (λ slot e. let q : ⊥ = cc in q) looks in
        let none : tally_at code f.control.place ≡ None = (typed-at code s.common f t fits op.Workers ec).unstarted refl in
        no-role code s.common f.role (subst (λ r. TallyIs code s.common f.role r) none fits.0.1)

    waits : WaitsForSome natives (codes fillers code)
    waits words input ticks s f fs names vs k texts reached frames looks empty =
        let fits = top-fits words input ticks s f fs texts reached frames in
        let ec = at-command code f.control (captured_slots (code_facts fillers code) f.unit) (op.WaitAny names) vs k (λ slot e. let q : ⊥ = cc in q) looks in
        let d = typed-at code s.common f t fits (op.WaitAny names) ec in
        let at = at-place code s.common f fits.0 in
        subst (λ ns. AwaitsAny code.atoms (surroundings code at.u at.station) ns d.operands d.result) empty d.typed

-- ---- and each reached state is good

pub idle-frames : (phase : Phase) (s : State Standing) (n : ℕ) → IsIdle phase s.common n → frames_in phase s n ≡ get_or s.others n []
idle-frames Running s n idle = if-other n s.common.running s.frames (get_or s.others n []) idle
idle-frames Picking s n idle = refl

-- a strand that has ended is there, and has its end
pub ends-with : (c : Common) (n : ℕ) (o : Option Strand) → slice_get c.strands n ≡ o → IsTrue (has_ended c n) → IsSomeAnd o (λ x. end_in x.status ≢ None)
ends-with c n o e h = by o (sym (unwrap_or-slice_get c.strands n no_strand) ∙ ap (λ o. unwrap_or o no_strand) e)
  where
    by : (o : Option Strand) → strand_at c n ≡ unwrap_or o no_strand → IsSomeAnd o (λ x. end_in x.status ≢ None)
    by (Some x) is = λ none. let k : IsTrue (is_some {T = End} None) = subst (λ y. IsTrue (is_some y)) (ap (λ (x : Strand). end_in x.status) is ∙ none) h in let q : ⊥ = cc in q
    by None is = absurd (let k : IsTrue (is_some {T = End} None) = subst (λ y. IsTrue (is_some y)) (ap (λ (x : Strand). end_in x.status) is) h in let q : ⊥ = cc in q)

pub reached-are-good : (natives : Answers) → ReachedAreGood natives
reached-are-good natives code fillers t kept words input ticks phase s texts reached =
    record {
      fits = kept-holds natives (codes fillers code) (code_invariant code) kept words input ticks phase s texts reached;
      ended = λ n idle h. by n idle (some-there (λ (x : Strand). end_in x.status ≢ None) (slice_get s.common.strands n) (ends-with s.common n (slice_get s.common.strands n) refl h));
    }
  where
    by : (n : ℕ) → IsIdle phase s.common n → (x : Strand) × (slice_get s.common.strands n ≡ Some x) × (end_in x.status ≢ None) → get_or s.others n [] ≡ []
    by n idle (x, e, ended) = sym (idle-frames phase s n idle) ∙ ((strands-of-code-hold natives code fillers t kept words input ticks phase s texts reached).strands n x e).ended ended
