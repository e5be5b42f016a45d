use Rattle.std.proofs.Common.{take, get_or, sym, subst, arith}
use Rattle.std.proofs.lemmas.List.{take_more}
use Rattle.empty_product.specs.Keys.{HasNamedKeys}
use Rattle.empty_product.proofs.MappingQuestions.{atom-added, more-named}
use Rattle.empty_product.proofs.mapping_atoms.named_keys.Goals as goal

pub loop-atom-preserved : goal.loop-atom-preserved
loop-atom-preserved c =
    let i = c.loop-atom.atom-index in
    let atoms = c.args.atoms.now in
    let defs = c.args.defs.now in
    let a = get_or atoms i 0 in
    subst (λ ns. HasNamedKeys defs ns c.add_keys.new.keys.items) (sym (take_more atoms i 0 (omega arith)))
    (more-named defs (take i atoms) a c.loop-atom.keys.items c.add_keys.new.keys.items c.loop-atom.invariant c.in_ok-add_keys.ensures.ordered
    (atom-added defs a c.mapping_parts.result.fields.now _ c.mapping_parts.ensures c.loop-atom.keys.items c.add_keys.new.keys.items c.in_ok-add_keys.ensures.added))
