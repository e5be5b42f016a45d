use Rattle.std.proofs.Common.{◌≡◌, ◌∙◌, ◌-◌, ap, arith, length, map, refl, take}
use Rattle.lower_expr.specs.Drafts.{step_of}
use Rattle.code_maps.proofs.Playing.{drops-goes}
use Rattle.code_maps.proofs.player.Player.take.Goals as goal

pub returns : goal.returns
returns c =
    let left : c.fewer-left.result ≡ length c.args.self.now.waiting.items - c.args.count = grind (arith, c.fewer-left.ensures, c.len.ensures) in
    drops-goes c.args.workers (map step_of c.args.steps.now) _ _ c.args.count (c.truncate.ensures.items ∙ ap (λ n. take n c.args.self.now.waiting.items) left) refl refl refl
