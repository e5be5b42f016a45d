-- States that correspond still do where one of their parts becomes another one in both.
use Rattle.std.proofs.Common.{◌≡◌, Bool, List, Option}
use Rattle.std.specs.List.{AllZip}
use Rattle.type_model.specs.declared.basic.Ty.{Ty}
use Rattle.typed_tree.specs.declared.expr.TypedExpr.{TypedExpr}
use Rattle.typed_tree.specs.SharedTypes.{Shared}
use Rattle.check_words.specs.declared.access.Access.{Access}
use Rattle.check_words.specs.Sharing.{SameOption}
use Rattle.check_words.specs.State.{BlockAtWork, CallAtWork, ChoiceAtWork, ConstructorAtWork, Done, InitialiserAtWork, MatchAtWork, Site, State, UnitAtWork, Ways}
use Rattle.check_words.specs.Words.{Atoms}
use Rattle.check_answers.specs.TwinStates.{BlockTwins, CallTwins, ChoiceTwins, ConstructorTwins, DoneTwins, InitialiserTwins, MatchTwins, PartTwins, SharedTwins, SiteTwins, StateTwins, UnitTwins, WaysTwins}

module _ (D R : Ty → Ty → Type 0) (s t : State) (p : StateTwins D R s t) where
  pub with-found : (es fs : List TypedExpr) (w x : Option Ways) → AllZip (PartTwins D R) es fs → SameOption (WaysTwins D R) w x
      → StateTwins D R (record s { found = es; ways = w }) (record t { found = fs; ways = x })
  with-found es fs w x h0 h1 =
      record {
        site = p.site;
        found = h0;
        ways = h1;
        wants = p.wants;
        sorts = p.sorts;
        accesses = p.accesses;
        constructors = p.constructors;
        calls = p.calls;
        choices = p.choices;
        matches = p.matches;
        blocks = p.blocks;
        units = p.units;
        initialiser = p.initialiser;
        done = p.done;
      }

  pub with-ways : (w x : Option Ways) → SameOption (WaysTwins D R) w x
      → StateTwins D R (record s { ways = w }) (record t { ways = x })
  with-ways w x h =
      record {
        site = p.site;
        found = p.found;
        ways = h;
        wants = p.wants;
        sorts = p.sorts;
        accesses = p.accesses;
        constructors = p.constructors;
        calls = p.calls;
        choices = p.choices;
        matches = p.matches;
        blocks = p.blocks;
        units = p.units;
        initialiser = p.initialiser;
        done = p.done;
      }

  pub with-wants : (ws xs : List (Option Shared)) → AllZip (SameOption (SharedTwins D R)) ws xs
      → StateTwins D R (record s { wants = ws }) (record t { wants = xs })
  with-wants ws xs h =
      record {
        site = p.site;
        found = p.found;
        ways = p.ways;
        wants = h;
        sorts = p.sorts;
        accesses = p.accesses;
        constructors = p.constructors;
        calls = p.calls;
        choices = p.choices;
        matches = p.matches;
        blocks = p.blocks;
        units = p.units;
        initialiser = p.initialiser;
        done = p.done;
      }

  pub with-sorts : (bs cs : List Bool) → cs ≡ bs
      → StateTwins D R (record s { sorts = bs }) (record t { sorts = cs })
  with-sorts bs cs h =
      record {
        site = p.site;
        found = p.found;
        ways = p.ways;
        wants = p.wants;
        sorts = h;
        accesses = p.accesses;
        constructors = p.constructors;
        calls = p.calls;
        choices = p.choices;
        matches = p.matches;
        blocks = p.blocks;
        units = p.units;
        initialiser = p.initialiser;
        done = p.done;
      }

  pub with-accesses : (bs cs : List Access) → cs ≡ bs
      → StateTwins D R (record s { accesses = bs }) (record t { accesses = cs })
  with-accesses bs cs h =
      record {
        site = p.site;
        found = p.found;
        ways = p.ways;
        wants = p.wants;
        sorts = p.sorts;
        accesses = h;
        constructors = p.constructors;
        calls = p.calls;
        choices = p.choices;
        matches = p.matches;
        blocks = p.blocks;
        units = p.units;
        initialiser = p.initialiser;
        done = p.done;
      }

  pub with-constructors : (cs ds : List ConstructorAtWork) → AllZip (ConstructorTwins D R) cs ds
      → StateTwins D R (record s { constructors = cs }) (record t { constructors = ds })
  with-constructors cs ds h =
      record {
        site = p.site;
        found = p.found;
        ways = p.ways;
        wants = p.wants;
        sorts = p.sorts;
        accesses = p.accesses;
        constructors = h;
        calls = p.calls;
        choices = p.choices;
        matches = p.matches;
        blocks = p.blocks;
        units = p.units;
        initialiser = p.initialiser;
        done = p.done;
      }

  pub with-calls : (cs ds : List CallAtWork) → AllZip (CallTwins D R) cs ds
      → StateTwins D R (record s { calls = cs }) (record t { calls = ds })
  with-calls cs ds h =
      record {
        site = p.site;
        found = p.found;
        ways = p.ways;
        wants = p.wants;
        sorts = p.sorts;
        accesses = p.accesses;
        constructors = p.constructors;
        calls = h;
        choices = p.choices;
        matches = p.matches;
        blocks = p.blocks;
        units = p.units;
        initialiser = p.initialiser;
        done = p.done;
      }

  pub with-choices : (cs ds : List ChoiceAtWork) → AllZip (ChoiceTwins D R) cs ds
      → StateTwins D R (record s { choices = cs }) (record t { choices = ds })
  with-choices cs ds h =
      record {
        site = p.site;
        found = p.found;
        ways = p.ways;
        wants = p.wants;
        sorts = p.sorts;
        accesses = p.accesses;
        constructors = p.constructors;
        calls = p.calls;
        choices = h;
        matches = p.matches;
        blocks = p.blocks;
        units = p.units;
        initialiser = p.initialiser;
        done = p.done;
      }

  pub with-matches : (ms ns : List MatchAtWork) → AllZip (MatchTwins D R) ms ns
      → StateTwins D R (record s { matches = ms }) (record t { matches = ns })
  with-matches ms ns h =
      record {
        site = p.site;
        found = p.found;
        ways = p.ways;
        wants = p.wants;
        sorts = p.sorts;
        accesses = p.accesses;
        constructors = p.constructors;
        calls = p.calls;
        choices = p.choices;
        matches = h;
        blocks = p.blocks;
        units = p.units;
        initialiser = p.initialiser;
        done = p.done;
      }

  pub with-blocks : (bs cs : List BlockAtWork) → AllZip (BlockTwins D) bs cs
      → StateTwins D R (record s { blocks = bs }) (record t { blocks = cs })
  with-blocks bs cs h =
      record {
        site = p.site;
        found = p.found;
        ways = p.ways;
        wants = p.wants;
        sorts = p.sorts;
        accesses = p.accesses;
        constructors = p.constructors;
        calls = p.calls;
        choices = p.choices;
        matches = p.matches;
        blocks = h;
        units = p.units;
        initialiser = p.initialiser;
        done = p.done;
      }

  pub with-units : (us vs : List UnitAtWork) → AllZip (UnitTwins D R) us vs
      → StateTwins D R (record s { units = us }) (record t { units = vs })
  with-units us vs h =
      record {
        site = p.site;
        found = p.found;
        ways = p.ways;
        wants = p.wants;
        sorts = p.sorts;
        accesses = p.accesses;
        constructors = p.constructors;
        calls = p.calls;
        choices = p.choices;
        matches = p.matches;
        blocks = p.blocks;
        units = h;
        initialiser = p.initialiser;
        done = p.done;
      }

  pub with-initialiser : (i j : Option InitialiserAtWork) → SameOption (InitialiserTwins D R) i j
      → StateTwins D R (record s { initialiser = i }) (record t { initialiser = j })
  with-initialiser i j h =
      record {
        site = p.site;
        found = p.found;
        ways = p.ways;
        wants = p.wants;
        sorts = p.sorts;
        accesses = p.accesses;
        constructors = p.constructors;
        calls = p.calls;
        choices = p.choices;
        matches = p.matches;
        blocks = p.blocks;
        units = p.units;
        initialiser = h;
        done = p.done;
      }

  pub with-done : (d e : Done) → DoneTwins D d e
      → StateTwins D R (record s { done = d }) (record t { done = e })
  with-done d e h =
      record {
        site = p.site;
        found = p.found;
        ways = p.ways;
        wants = p.wants;
        sorts = p.sorts;
        accesses = p.accesses;
        constructors = p.constructors;
        calls = p.calls;
        choices = p.choices;
        matches = p.matches;
        blocks = p.blocks;
        units = p.units;
        initialiser = p.initialiser;
        done = h;
      }

  pub with-site : (a b : Site) → SiteTwins D R a b
      → StateTwins D R (record s { site = a }) (record t { site = b })
  with-site a b h =
      record {
        site = h;
        found = p.found;
        ways = p.ways;
        wants = p.wants;
        sorts = p.sorts;
        accesses = p.accesses;
        constructors = p.constructors;
        calls = p.calls;
        choices = p.choices;
        matches = p.matches;
        blocks = p.blocks;
        units = p.units;
        initialiser = p.initialiser;
        done = p.done;
      }

  pub with-atoms : (m n : Atoms) → StateTwins D R (record s { atoms = m }) (record t { atoms = n })
  with-atoms m n =
      record {
        site = p.site;
        found = p.found;
        ways = p.ways;
        wants = p.wants;
        sorts = p.sorts;
        accesses = p.accesses;
        constructors = p.constructors;
        calls = p.calls;
        choices = p.choices;
        matches = p.matches;
        blocks = p.blocks;
        units = p.units;
        initialiser = p.initialiser;
        done = p.done;
      }
