-- Ways on which more is known of the same variables, and what is known where they meet.
use Rattle.std.specs.Prelude.{◌≡◌, List}
use Rattle.std.specs.List.{AllZip}
use Rattle.type_model.specs.declared.atoms.AtomDef.{AtomDef}
use Rattle.type_model.specs.Inclusion.{Sub}
use Rattle.flow_narrowing.specs.declared.flow.Flow.{Flow}
use Rattle.flow_narrowing.specs.declared.flow.Variable.{Variable}
use Rattle.flow_narrowing.specs.Flows.{IsSameVariable, now}
use Rattle.check_words.specs.State.{Ways}

module _ (env : List AtomDef) where
  -- the same variable, whose type on the second way is below that on the first
  pub record IsNarrowerVariable (v u : Variable) : Type 0 where
    pub same : IsSameVariable v u
    pub below : Sub env (now u).sem (now v).sem

  -- the second way knows of the same variables what the first does, or more, and is reached where that is
  pub record IsNarrower (f g : Flow) : Type 0 where
    pub variables : AllZip IsNarrowerVariable f.variables g.variables
    pub reached : g.reached ≡ f.reached

  -- both ways of a condition
  pub record AreNarrower (f : Flow) (w : Ways) : Type 0 where
    pub yes : IsNarrower f w.yes
    pub no : IsNarrower f w.no
