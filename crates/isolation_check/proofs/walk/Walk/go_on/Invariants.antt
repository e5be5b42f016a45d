use Rattle.std.proofs.Common.{◌≡◌, ◌++◌, ◌∷◌, [], drop, map}
use Rattle.std.specs.Prelude.{option_map}
use Rattle.isolation_check.specs.inner.Opened.{Resumes, open_of}
use Rattle.isolation_check.specs.inner.Views.{parts_of}
use Rattle.isolation_check.specs.Walk.{body}
use Rattle.isolation_check.proofs.walk.Walk.go_on.Given as goal

-- whatever comes of the parts that are left comes of all
abbrev pub invariant-loop-i : goal.invariant-loop-i
invariant-loop-i g l =
    (g.T.Types.atoms l.types ≡ g.T.Types.atoms l.fn.types) × (l.self ≡ l.fn.self)
    × Resumes g.T.Types.passes l.bodies (g.T.Types.atoms l.fn.types) (map open_of (l.fn.self.stack.items ++ l.body ∷ [])) l.fn.self.entered.items
    (map open_of l.fn.self.stack.items ++ body (option_map (λ n. n.now) l.body.name) (parts_of (drop l.i l.body.parts.now)) ∷ []) l.fn.self.entered.items
