-- Functions where they end.
use Rattle.std.proofs.Common.{List, None, [], ap, sym, ◌++◌, ◌∙◌, ◌∷◌, ◌≡◌}
use Rattle.bal_base.specs.declared.place.Place.{Place}
use Rattle.bal_tree.specs.declared.def.FunctionDef.{FunctionDef}
use Rattle.check_words.specs.Calls.{typed_unit}
use Rattle.check_words.specs.State.{BlockAtWork, IsLast, State, UnitAtWork, all_but}
use Rattle.check_words.specs.Units.{IsBlockBody, ends_by, ends_function, outside_functions}
use Rattle.checks.specs.Checks.{Gives, gives_some, ◌▷◌}
use Rattle.needs.specs.Needs.{does}
use Rattle.type_model.specs.Calls.{Asked}
use Rattle.type_model.specs.declared.answers.TypeLimit.{TypeLimit}
use Rattle.type_model.specs.declared.atoms.AtomDef.{AtomDef}
use Rattle.typed_needs.proofs.Placed.{all-but-last}
use Rattle.typed_stmts.proofs.Words.{block-closed}
use Rattle.typed_tree.specs.declared.unit.TypedFunction.{TypedFunction}
use Rattle.typed_tree.specs.declared.unit.TypedWorker.{TypedWorker}
use Rattle.typed_units.proofs.Beginning.{ends-leaves, unit-gone}

-- the unit and two blocks are gone, and a function is made of them and of the workers
pub record FunctionEnded (passes : List AtomDef → Asked → TypeLimit → Type 0) (d : FunctionDef) (close : Place) (old new : State) : Type 0 where
  pub unit : UnitAtWork
  pub at_hand : IsLast old.units unit
  pub kept : List BlockAtWork
  pub initial : BlockAtWork
  pub rest : BlockAtWork
  pub blocks : old.blocks ≡ (kept ++ initial ∷ []) ++ rest ∷ []
  pub workers : List TypedWorker
  pub workers_are : workers ≡ old.done.workers
  pub none_left : new.done.workers ≡ []
  pub initialisers : new.done.initialisers ≡ old.done.initialisers
  pub variables : new.done.variables ≡ old.done.variables
  pub site : new.site ≡ outside_functions old.site
  pub units_left : new.units ≡ all_but 1 old.units
  pub function : TypedFunction
  pub unit_is : function.unit ≡ typed_unit unit unit.arrow unit.future
  pub body : IsBlockBody passes workers unit.flow.reached close initial.stmts rest.stmts function.body
  pub functions : new.done.functions ≡ old.done.functions ++ function ∷ []
  pub atoms : new.atoms ≡ old.atoms
  pub found : new.found ≡ old.found
  pub left : new.blocks ≡ kept
  pub matches : new.matches ≡ old.matches
  pub between : State
  pub same_atoms : between.atoms ≡ old.atoms
  pub behind : State
  pub ends : ends_by passes unit.flow.reached unit close between (Gives tt) behind

pub function-ended : (passes : List AtomDef → Asked → TypeLimit → Type 0) (d : FunctionDef) (close : Place) (old new : State) → ends_function passes d close old (Gives tt) new
    → FunctionEnded passes d close old new
unfolding ◌▷◌ gives_some does
function-ended passes d close old new
    (u, s1, closed, (v, s2, ended, (rest, s3, second, (initial, s4, first, (workers, s5, (wis, e5), (site, s6, (sis, e6), (f, s7, ((fis, body), e7), (x, s8, e8, e9)))))))) =
    let (last, e1) = unit-gone u old s1 closed in
    let e2 : s2 ≡ s1 = ends-leaves passes u.flow.reached u close s1 s2 v ended in
    let (lr, e3) = block-closed rest s2 s3 second in
    let (li, e4) = block-closed initial s3 s4 first in
    let to-2 : s2 ≡ record old { units = all_but 1 old.units; ways = None } = e2 ∙ e1 in
    let blocks-2 : s2.blocks ≡ old.blocks = ap (λ (s : State). s.blocks) to-2 in
    let inner : all_but 1 old.blocks ≡ li.kept ++ initial ∷ [] =
    ap (λ bs. all_but 1 bs) (sym blocks-2) ∙ sym (ap (λ (s : State). s.blocks) e3) ∙ li.is in
    let outer : old.blocks ≡ lr.kept ++ rest ∷ [] = sym blocks-2 ∙ lr.is in
    let front : lr.kept ≡ li.kept ++ initial ∷ [] = sym (all-but-last lr.kept rest) ∙ ap (λ bs. all_but 1 bs) (sym outer) ∙ inner in
    let to-7 : s7 ≡ s4 = e7 ∙ e6 ∙ e5 in
    let to-4 : s4 ≡ record old { units = all_but 1 old.units; ways = None; blocks = all_but 1 (all_but 1 old.blocks) } =
    e4 ∙ ap (λ (s : State). record s { blocks = all_but 1 s.blocks }) e3 ∙ ap (λ (s : State). record s { blocks = all_but 1 (all_but 1 s.blocks) }) to-2 in
    record {
      unit = u;
      at_hand = last;
      kept = li.kept;
      initial = initial;
      rest = rest;
      blocks = outer ∙ ap (λ bs. bs ++ rest ∷ []) front;
      workers = workers;
      workers_are = wis ∙ ap (λ (s : State). s.done.workers) to-4;
      initialisers = ap (λ (s : State). s.done.initialisers) e9 ∙ ap (λ (s : State). s.done.initialisers) e8 ∙ ap (λ (s : State). s.done.initialisers) (to-7 ∙ to-4);
      variables = ap (λ (s : State). s.done.variables) e9 ∙ ap (λ (s : State). s.done.variables) e8 ∙ ap (λ (s : State). s.done.variables) (to-7 ∙ to-4);
      site = ap (λ (s : State). s.site) e9 ∙ ap (λ (s : State). outside_functions s.site) e8 ∙ ap (λ (s : State). outside_functions s.site) (to-7 ∙ to-4);
      none_left = ap (λ (s : State). s.done.workers) e9 ∙ ap (λ (s : State). s.done.workers) e8;
      units_left = ap (λ (s : State). s.units) e9 ∙ ap (λ (s : State). s.units) e8 ∙ ap (λ (s : State). s.units) (to-7 ∙ to-4);
      function = f;
      unit_is = fis.unit;
      body = body;
      functions = ap (λ (s : State). s.done.functions) e9 ∙ ap (λ (s : State). s.done.functions) e8 ∙ ap (λ (s : State). s.done.functions ++ f ∷ []) (to-7 ∙ to-4);
      atoms = ap (λ (s : State). s.atoms) e9 ∙ ap (λ (s : State). s.atoms) e8 ∙ ap (λ (s : State). s.atoms) (to-7 ∙ to-4);
      found = ap (λ (s : State). s.found) e9 ∙ ap (λ (s : State). s.found) e8 ∙ ap (λ (s : State). s.found) (to-7 ∙ to-4);
      left = ap (λ (s : State). s.blocks) e9 ∙ ap (λ (s : State). s.blocks) e8 ∙ ap (λ (s : State). s.blocks) (to-7 ∙ to-4) ∙ ap (λ bs. all_but 1 bs) inner ∙ all-but-last li.kept initial;
      matches = ap (λ (s : State). s.matches) e9 ∙ ap (λ (s : State). s.matches) e8 ∙ ap (λ (s : State). s.matches) (to-7 ∙ to-4);
      between = s1;
      same_atoms = ap (λ (s : State). s.atoms) e1;
      behind = s2;
      ends = ended;
    }
