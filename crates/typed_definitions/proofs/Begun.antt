-- Functions where they begin: a unit stands on those that were there, whose slots are those of the parameters, and results of workers are told.
use Rattle.std.proofs.Common.{Err, List, None, Ok, Option, Result, Some, [], ap, append-nil, append_assoc, length, map, subst, suc, sym, ℕ, ◌++◌, ◌∙◌, ◌∷◌, ◌≡◌}
use Rattle.std.specs.Global.{Box}
use Rattle.bal_base.specs.declared.fault.Fault.{Fault}
use Rattle.bal_tree.specs.declared.def.FunctionDef.{FunctionDef}
use Rattle.bal_tree.specs.declared.def.Worker.{Worker}
use Rattle.bal_tree.specs.declared.types.TypeTree.{TypeTree}
use Rattle.check_laws.proofs.Still.{still-results}
use Rattle.check_words.specs.Sharing.{SameUnit}
use Rattle.check_words.specs.State.{Site, State, UnitAtWork}
use Rattle.check_words.specs.Units.{AreSlots, begins_function, descriptor_type, function_unit, result_or_fault, signature_in, worker_results, workers_of}
use Rattle.check_words.specs.Words.{by_handles}
use Rattle.checks.specs.Checks.{Gives, gives_some, ◌▷◌}
use Rattle.descriptors.specs.Described.{IsCopy}
use Rattle.descriptors.specs.Naming.{entry_in}
use Rattle.descriptors.specs.declared.names.Names.{Names}
use Rattle.descriptors.specs.declared.names.Signature.{Signature}
use Rattle.needs.specs.Needs.{does}
use Rattle.type_model.specs.declared.atoms.AtomDef.{AtomDef}
use Rattle.typed_needs.proofs.Going.{Goes, goes-asking, goes-some, goes-then}
use Rattle.typed_needs.proofs.Questions.{whole-behind}
use Rattle.typed_tree.specs.SharedTypes.{Shared}
use Rattle.typed_tree.specs.Skeleton.{events_of_body}

-- atoms came behind those that were there
pub record MoreAtoms (old new : State) : Type 0 where
  pub more : List AtomDef
  pub is : new.atoms ≡ old.atoms ++ more

pub atoms-on : (r s t : State) → MoreAtoms r s → MoreAtoms s t → MoreAtoms r t
atoms-on r s t f g =
    record { more = f.more ++ g.more; is = g.is ∙ ap (λ xs. xs ++ g.more) f.is ∙ append_assoc r.atoms f.more g.more }

pub atoms-same : (s t : State) → t.atoms ≡ s.atoms → MoreAtoms s t
atoms-same s t e = record { more = []; is = e ∙ sym (append-nil s.atoms) }

-- ---- results of workers

descriptor-goes : (names : Names) (tree : Option (Box TypeTree)) → Goes (descriptor_type names tree)
descriptor-goes names None = goes-some _
descriptor-goes names (Some tree) = goes-then _ _ (goes-some _) (λ site. goes-then _ _ (goes-asking _ (whole-behind names site.scope _)) (λ t. goes-some _))

-- none of them is a fault
abbrev pub AllTold : List (Result Shared Fault) → Type 0
AllTold [] = Unit {0}
AllTold (Ok t ∷ rs) = AllTold rs
AllTold (Err fault ∷ rs) = ⊥

-- there is one for each worker
pub results-long : (names : Names) (ws : List Worker) (old new : State) (rs : List (Result Shared Fault)) → worker_results names ws old (Gives rs) new → length rs ≡ length ws
unfolding ◌▷◌ gives_some
results-long names [] old new rs (is, e) = ap length is
results-long names (w ∷ ws) old new rs (r, a, first, (more, b, next, (is, e))) =
    ap length is ∙ ap (λ n. suc n) (results-long names ws a b more next)

-- where none is a fault, atoms came behind those that were there
pub results-atoms : (names : Names) (ws : List Worker) (old new : State) (rs : List (Result Shared Fault)) → worker_results names ws old (Gives rs) new → AllTold rs
    → MoreAtoms old new
unfolding ◌▷◌ gives_some result_or_fault
results-atoms names [] old new rs (is, e) told = atoms-same old new (ap (λ (s : State). s.atoms) e)
results-atoms names (w ∷ ws) old new rs (Err fault, a, first, (more, b, next, (is, e))) told =
    let these : AllTold (Err fault ∷ more) = subst AllTold is told in absurd these
results-atoms names (w ∷ ws) old new rs (Ok t, a, first, (more, b, next, (is, e))) told =
    let these : AllTold (Ok t ∷ more) = subst AllTold is told in
    let g = descriptor-goes names w.result old a t first in
    atoms-on old a new (record { more = g.more; is = g.atoms })
    (atoms-on a b new (results-atoms names ws a b more next these) (atoms-same b new (ap (λ (s : State). s.atoms) e)))

-- ---- the beginning

pub record FunctionBegun (names : Names) (d : FunctionDef) (old new : State) : Type 0 where
  pub signature : Signature
  pub named : signature_in (entry_in names d.name.name old.site.scope.«module») ≡ signature ∷ []
  pub slots : List Shared
  pub are_slots : AreSlots signature slots
  pub result : Shared
  pub copied : IsCopy signature.result result.value
  pub unit : UnitAtWork
  pub same : SameUnit (function_unit signature slots result) unit
  pub units : new.units ≡ old.units ++ unit ∷ []
  pub results : List (Result Shared Fault)
  pub many : length results ≡ length (workers_of d.body)
  pub told : AllTold results → MoreAtoms old new
  pub site : new.site ≡ record old.site { workers = map (λ (w : Worker). w.name.name) (workers_of d.body); results = Ok result ∷ results; events = events_of_body d.body }
  pub ways : new.ways ≡ None
  pub found : new.found ≡ old.found
  pub blocks : new.blocks ≡ old.blocks
  pub matches : new.matches ≡ old.matches
  pub workers : new.done.workers ≡ old.done.workers
  pub functions : new.done.functions ≡ old.done.functions
  pub initialisers : new.done.initialisers ≡ old.done.initialisers
  pub variables : new.done.variables ≡ old.done.variables

pub function-begun : (names : Names) (d : FunctionDef) (old new : State) → begins_function names d old (Gives tt) new → FunctionBegun names d old new
unfolding ◌▷◌ gives_some does by_handles
function-begun names d old new (f, m1, (s, m0, (es, e0), (named, e1)), (result, m2, (copied, e2), (slots, m3, (are, e3), (results, m4, x4, (u, m5, e5, (v, m6, (same, e6), e7)))))) =
    let first : m3 ≡ old = e3 ∙ e2 ∙ e1 ∙ e0 in
    let still : m4 ≡ record m3 { atoms = m4.atoms } = still-results names (workers_of d.body) m3 m4 (Gives results) x4 in
    let to-4 : m4 ≡ record old { atoms = m4.atoms } = still ∙ ap (λ (x : State). record x { atoms = m4.atoms }) first in
    let last : new ≡ record m5 { units = m5.units ++ v ∷ []; ways = None } = e7 ∙ ap (λ (x : State). record x { units = x.units ++ v ∷ []; ways = None }) e6 in
    let now : Site → Site = λ site. record site { workers = map (λ (w : Worker). w.name.name) (workers_of d.body); results = Ok result ∷ results; events = events_of_body d.body } in
    let atoms : new.atoms ≡ m4.atoms = ap (λ (x : State). x.atoms) last ∙ ap (λ (x : State). x.atoms) e5 in
    record {
      signature = f;
      named = ap (λ (x : Site). signature_in (entry_in names d.name.name x.scope.«module»)) (sym es) ∙ named;
      slots = slots;
      are_slots = are;
      result = result;
      copied = copied;
      unit = v;
      same = same;
      units = ap (λ (x : State). x.units) last ∙ ap (λ (x : State). x.units ++ v ∷ []) e5 ∙ ap (λ (x : State). x.units ++ v ∷ []) to-4;
      results = results;
      many = results-long names (workers_of d.body) m3 m4 results x4;
      told = λ h. atoms-on old m4 new (atoms-on old m3 m4 (atoms-same old m3 (ap (λ (x : State). x.atoms) first)) (results-atoms names (workers_of d.body) m3 m4 results x4 h)) (atoms-same m4 new atoms);
      site = ap (λ (x : State). x.site) last ∙ ap (λ (x : State). x.site) e5 ∙ ap (λ (x : State). now x.site) to-4;
      ways = ap (λ (x : State). x.ways) last;
      found = ap (λ (x : State). x.found) last ∙ ap (λ (x : State). x.found) e5 ∙ ap (λ (x : State). x.found) to-4;
      blocks = ap (λ (x : State). x.blocks) last ∙ ap (λ (x : State). x.blocks) e5 ∙ ap (λ (x : State). x.blocks) to-4;
      matches = ap (λ (x : State). x.matches) last ∙ ap (λ (x : State). x.matches) e5 ∙ ap (λ (x : State). x.matches) to-4;
      workers = ap (λ (x : State). x.done.workers) last ∙ ap (λ (x : State). x.done.workers) e5 ∙ ap (λ (x : State). x.done.workers) to-4;
      functions = ap (λ (x : State). x.done.functions) last ∙ ap (λ (x : State). x.done.functions) e5 ∙ ap (λ (x : State). x.done.functions) to-4;
      initialisers = ap (λ (x : State). x.done.initialisers) last ∙ ap (λ (x : State). x.done.initialisers) e5 ∙ ap (λ (x : State). x.done.initialisers) to-4;
      variables = ap (λ (x : State). x.done.variables) last ∙ ap (λ (x : State). x.done.variables) e5 ∙ ap (λ (x : State). x.done.variables) to-4;
    }
