use Rattle.std.proofs.Common.{◌++◌, ◌∙◌, ap, sym}
use Rattle.type_builder.specs.Flat.{members_of}
use Rattle.type_builder.proofs.FoundMembers.{gathers-parts}
use Rattle.type_builder.proofs.flat.+gather.Goals as goal

pub returns-in_ok-gather-in-Or : goal.returns-in_ok-gather-in-Or
returns-in_ok-gather-in-Or n c =
    gathers-parts c.gather-in-Or.result c.args.t.now c.deref.result.now c.deref-in-Or.result.now c.args.found.now c.gather.new.found c.gather-in-Or.new.found
    (ap members_of c.in-Or.is ∙ ap (λ x. members_of x ++ members_of c.in-Or.u.value) (sym c.deref.ensures) ∙ ap (λ x. members_of c.deref.result.now ++ members_of x) (sym c.deref-in-Or.ensures))
    c.in_ok-gather-in-Or.ensures c.gather-in-Or.ensures
