use Rattle.std.proofs.Common.{sym, ◌∙◌}
use Rattle.std.proofs.lemmas.Bool.{false≢true}
use Rattle.std.proofs.lemmas.List.Elements.{All-head, All-tail}
use Rattle.type_diagrams.specs.Members.{AllowsLength}
use Rattle.empty_product.proofs.ListAtoms.{common_length, least_common}
use Rattle.empty_product.proofs.list_atoms.has_common_length.Goals as goal

pub returns-then-allows_length-clause-none : goal.returns-then-allows_length-clause-none
returns-then-allows_length-clause-none c = λ e n all.
    let env = c.args.defs.now in
    let m = c.max-length.result in
    let common = common_length env c.args.wanted.now c.args.atom m (least_common env c.args.wanted.now c.args.atom c.longest_prefix.result m _ _ c.longest_prefix.ensures c.list_parts.ensures c.max-length.ensures) n all in
    false≢true (sym e ∙ c.all_allow_length.ensures.1 (All-tail (AllowsLength env m) c.args.atom c.args.wanted.now common))

pub returns-else-allows_length-clause-none : goal.returns-else-allows_length-clause-none
returns-else-allows_length-clause-none c = λ e n all.
    let env = c.args.defs.now in
    let m = c.max-length.result in
    let common = common_length env c.args.wanted.now c.args.atom m (least_common env c.args.wanted.now c.args.atom c.longest_prefix.result m _ _ c.longest_prefix.ensures c.list_parts.ensures c.max-length.ensures) n all in
    false≢true (sym e ∙ c.allows_length.ensures.1 (All-head (AllowsLength env m) c.args.atom c.args.wanted.now common))
