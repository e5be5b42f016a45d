-- One of the lists of a state in another form, on which so many stand.
use Rattle.std.proofs.Common.{◌+◌, ℕ, Bool, List, Option}
use Rattle.typed_tree.specs.declared.expr.TypedExpr.{TypedExpr}
use Rattle.typed_tree.specs.SharedTypes.{Shared}
use Rattle.check_words.specs.declared.access.Access.{Access}
use Rattle.check_words.specs.State.{BlockAtWork, CallAtWork, ChoiceAtWork, ConstructorAtWork, Done, MatchAtWork, State, UnitAtWork, Ways}
use Rattle.check_words.specs.Words.{Atoms}
use Rattle.check_laws.specs.Heights.{Heights}
use Rattle.check_laws.specs.Positions.{Above, OnBlocks, OnTop, OnUnits, parts_of_calls}

module _ (s : State) {h : Heights} where
  -- atoms, ways and what is done of the package are of no account
  pub apart-from : (old : State) (env : Atoms) (w : Option Ways) (d : Done) → Above s h old → Above s h (record old { atoms = env; ways = w; done = d })
  apart-from old env w d p =
      record {
        calls = p.calls;
        found = p.found;
        wants = p.wants;
        sorts = p.sorts;
        accesses = p.accesses;
        constructors = p.constructors;
        choices = p.choices;
        matches = p.matches;
        blocks = p.blocks;
        units = p.units;
        site = p.site;
        initialiser = p.initialiser;
      }

  pub with-parts : (old : State) (n : ℕ) (es : List TypedExpr) (w : Option Ways) (p : Above s h old) → OnTop s.found (n + parts_of_calls p.calls.more) es
      → Above s (record h { parts = n }) (record old { found = es; ways = w })
  with-parts old n es w p o =
      record {
        calls = p.calls;
        found = o;
        wants = p.wants;
        sorts = p.sorts;
        accesses = p.accesses;
        constructors = p.constructors;
        choices = p.choices;
        matches = p.matches;
        blocks = p.blocks;
        units = p.units;
        site = p.site;
        initialiser = p.initialiser;
      }

  -- calls, and with them the parts that belong to them
  pub with-calls : (old : State) (m n : ℕ) (cs : List CallAtWork) (p : Above s h old) (o : OnTop s.calls n cs) → OnTop s.found (m + parts_of_calls o.more) old.found
      → Above s (record h { parts = m; calls = n }) (record old { calls = cs })
  with-calls old m n cs p o found =
      record {
        calls = o;
        found = found;
        wants = p.wants;
        sorts = p.sorts;
        accesses = p.accesses;
        constructors = p.constructors;
        choices = p.choices;
        matches = p.matches;
        blocks = p.blocks;
        units = p.units;
        site = p.site;
        initialiser = p.initialiser;
      }

  pub with-units : (old : State) (n : ℕ) (us : List UnitAtWork) → Above s h old → OnUnits s.units n us → Above s (record h { units = n }) (record old { units = us })
  with-units old n us p o =
      record {
        calls = p.calls;
        found = p.found;
        wants = p.wants;
        sorts = p.sorts;
        accesses = p.accesses;
        constructors = p.constructors;
        choices = p.choices;
        matches = p.matches;
        blocks = p.blocks;
        units = o;
        site = p.site;
        initialiser = p.initialiser;
      }

  pub with-blocks : (old : State) (k n : ℕ) (bs : List BlockAtWork) → Above s h old → OnBlocks s.blocks k n bs
      → Above s (record h { blocks = k; stmts = n }) (record old { blocks = bs })
  with-blocks old k n bs p o =
      record {
        calls = p.calls;
        found = p.found;
        wants = p.wants;
        sorts = p.sorts;
        accesses = p.accesses;
        constructors = p.constructors;
        choices = p.choices;
        matches = p.matches;
        blocks = o;
        units = p.units;
        site = p.site;
        initialiser = p.initialiser;
      }

  pub with-wants : (old : State) (n : ℕ) (xs : List (Option Shared)) → Above s h old → OnTop s.wants n xs → Above s (record h { wants = n }) (record old { wants = xs })
  with-wants old n xs p o =
      record {
        calls = p.calls;
        found = p.found;
        wants = o;
        sorts = p.sorts;
        accesses = p.accesses;
        constructors = p.constructors;
        choices = p.choices;
        matches = p.matches;
        blocks = p.blocks;
        units = p.units;
        site = p.site;
        initialiser = p.initialiser;
      }

  pub with-sorts : (old : State) (n : ℕ) (xs : List Bool) → Above s h old → OnTop s.sorts n xs → Above s (record h { sorts = n }) (record old { sorts = xs })
  with-sorts old n xs p o =
      record {
        calls = p.calls;
        found = p.found;
        wants = p.wants;
        sorts = o;
        accesses = p.accesses;
        constructors = p.constructors;
        choices = p.choices;
        matches = p.matches;
        blocks = p.blocks;
        units = p.units;
        site = p.site;
        initialiser = p.initialiser;
      }

  pub with-accesses : (old : State) (n : ℕ) (xs : List Access) → Above s h old → OnTop s.accesses n xs → Above s (record h { accesses = n }) (record old { accesses = xs })
  with-accesses old n xs p o =
      record {
        calls = p.calls;
        found = p.found;
        wants = p.wants;
        sorts = p.sorts;
        accesses = o;
        constructors = p.constructors;
        choices = p.choices;
        matches = p.matches;
        blocks = p.blocks;
        units = p.units;
        site = p.site;
        initialiser = p.initialiser;
      }

  pub with-constructors : (old : State) (n : ℕ) (xs : List ConstructorAtWork) → Above s h old → OnTop s.constructors n xs → Above s (record h { constructors = n }) (record old { constructors = xs })
  with-constructors old n xs p o =
      record {
        calls = p.calls;
        found = p.found;
        wants = p.wants;
        sorts = p.sorts;
        accesses = p.accesses;
        constructors = o;
        choices = p.choices;
        matches = p.matches;
        blocks = p.blocks;
        units = p.units;
        site = p.site;
        initialiser = p.initialiser;
      }

  pub with-choices : (old : State) (n : ℕ) (xs : List ChoiceAtWork) → Above s h old → OnTop s.choices n xs → Above s (record h { choices = n }) (record old { choices = xs })
  with-choices old n xs p o =
      record {
        calls = p.calls;
        found = p.found;
        wants = p.wants;
        sorts = p.sorts;
        accesses = p.accesses;
        constructors = p.constructors;
        choices = o;
        matches = p.matches;
        blocks = p.blocks;
        units = p.units;
        site = p.site;
        initialiser = p.initialiser;
      }

  pub with-matches : (old : State) (n : ℕ) (xs : List MatchAtWork) → Above s h old → OnTop s.matches n xs → Above s (record h { matches = n }) (record old { matches = xs })
  with-matches old n xs p o =
      record {
        calls = p.calls;
        found = p.found;
        wants = p.wants;
        sorts = p.sorts;
        accesses = p.accesses;
        constructors = p.constructors;
        choices = p.choices;
        matches = o;
        blocks = p.blocks;
        units = p.units;
        site = p.site;
        initialiser = p.initialiser;
      }
