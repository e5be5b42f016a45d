use Rattle.std.proofs.Common.{◌≡◌, ◌≤◌, ◌+◌, ◌*◌, length, map}
use Rattle.isolation_check.specs.inner.Opened.{AreBelow, Resumes, left, open_of}
use Rattle.isolation_check.proofs.walk.Walk.run.Given as goal

-- each round makes what is left less by one
abbrev pub invariant-loop : goal.invariant-loop
invariant-loop g l =
    (g.T.Types.atoms l.types ≡ g.T.Types.atoms l.initial.types) × AreBelow (length (g.T.Types.atoms l.initial.types)) l.self.stack.items
    × Resumes g.T.Types.passes l.bodies (g.T.Types.atoms l.initial.types) (map open_of l.initial.self.stack.items) l.initial.self.entered.items (map open_of l.self.stack.items) l.self.entered.items
    × (left l.self.entered.items (length l.self.stack.items) + l.counter ≤ 2 * length l.initial.self.entered.items + 1)
