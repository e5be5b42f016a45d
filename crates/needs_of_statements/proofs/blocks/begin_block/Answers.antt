use Rattle.std.proofs.Common.{◌≡◌, ◌++◌, ◌∷◌, ◌∙◌, [], ap, length, map, rules}
use Rattle.check_words.proofs.Blocks.{begins-block-comes}
use Rattle.check_words.proofs.Standing.{stands-beside}
use Rattle.check_work.specs.Views.{block_of, state_of, unit_of}
use Rattle.check_work.proofs.Noting.{at-hand, mapped-last}
use Rattle.needs_of_statements.proofs.Adding.{opened}
use Rattle.needs_of_statements.proofs.blocks.begin_block.Goals as goal

pub returns-clause-stands : goal.returns-clause-stands
returns-clause-stands c = λ env h. stands-beside (state_of env c.args.work.now) h _ _ _ _

pub returns-clause-comes : goal.returns-clause-comes
returns-clause-comes c = λ env.
    let empty : c.new.result.items ≡ [] = search rules in
    let seen : c.len-scope.result ≡ length c.in_ok-at_hand.field-0.now.here.variables.items = search rules in
    begins-block-comes (state_of env c.args.work.now) (map unit_of c.args.work.now.around.items) (unit_of c.in_ok-at_hand.field-0.now) (at-hand _ _ _ c.in_ok-at_hand.ensures) _
    (mapped-last block_of _ _ _ c.in_ok-push.ensures.items ∙ ap (λ b. map block_of c.args.work.now.blocks.items ++ b ∷ []) (opened _ _ _ empty seen))
