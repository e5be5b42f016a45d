-- Where a unit begins no trap is open.
use Rattle.std.proofs.Common.{◌≡◌, ◌∙◌, List, [], ◌∷◌, refl, true, false}
use Rattle.std.specs.Prelude.{Bool}
use Rattle.typed_tree.specs.declared.package.Initial.{Initial}
use Rattle.typed_tree.specs.declared.unit.TypedBody.TheVariants.{Block as BlockBody, Expr as ValueBody}
use Rattle.typed_tree.specs.declared.unit.TypedWorker.{TypedWorker}
use Rattle.typed_tree.specs.Units.{UnitBody, OfFunction, OfWorker, OfAnonymous, OfInitialiser}
use Rattle.eval_model.specs.Tasks.{Task}
use Rattle.eval_model.specs.Trees.{at_end, body_tasks, initialises, starts_named}
use Rattle.lower_model.specs.Following.{waiting}
use Rattle.lower_model.proofs.Guarded.{execs-leave}

end-waits : (ends : Bool) → waiting (at_end ends) ≡ []
end-waits true = refl
end-waits false = refl

named-leave : (ws : List TypedWorker) (ts : List Task) → waiting (starts_named ws ts) ≡ waiting ts
named-leave [] ts = refl
named-leave (w ∷ ws) ts = refl

initials-leave : (is : List Initial) (ts : List Task) → waiting (initialises is ts) ≡ waiting ts
initials-leave [] ts = refl
initials-leave (i ∷ is) ts = initials-leave is ts

pub body-waits : (body : UnitBody) → waiting (body_tasks body) ≡ []
body-waits (OfFunction (BlockBody initial workers rest ends close)) = execs-leave initial.items _ ∙ named-leave workers.items _ ∙ execs-leave rest.items _ ∙ end-waits ends
body-waits (OfFunction (ValueBody value)) = refl
body-waits (OfWorker stmts ends) = execs-leave stmts _ ∙ end-waits ends
body-waits (OfAnonymous value) = refl
body-waits (OfInitialiser values) = initials-leave values (at_end true)
