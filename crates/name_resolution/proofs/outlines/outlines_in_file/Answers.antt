use Rattle.std.proofs.Common.{arith, length, ap, ◌∙◌, ◌++◌, ◌≤◌, map, take, subst}
use Rattle.std.proofs.lemmas.List.{take_all}
use Rattle.name_resolution.specs.Outlines.{import_source, outline_of}
use Rattle.name_resolution.proofs.outlines.outlines_in_file.Goals as goal

pub returns : goal.returns
returns c =
    let defs = c.args.file.now.tree.defs.items in
    let end : length defs ≤ c.loop-def.def-index = subst (λ xs. length xs ≤ c.loop-def.def-index) c.deref-def-items.ensures.value (omega (arith, c.loop-def-test.false)) in
    c.loop-def.invariant
    ∙ ap (λ source. c.args.out.now.items ++ map (outline_of c.args.number source) (take c.loop-def.def-index defs)) (λ i q. c.in_ok-prefixes.ensures q i)
    ∙ ap (λ imports. c.args.out.now.items ++ map (outline_of c.args.number (import_source c.args.home.now imports)) (take c.loop-def.def-index defs)) c.deref.ensures.value
    ∙ ap (λ ds. c.args.out.now.items ++ map (outline_of c.args.number (import_source c.args.home.now c.args.file.now.tree.imports.items)) ds) (take_all c.loop-def.def-index defs end)
