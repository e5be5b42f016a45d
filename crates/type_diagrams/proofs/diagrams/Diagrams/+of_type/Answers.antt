use Rattle.std.proofs.Common.{length}
use Rattle.type_diagrams.proofs.Keeping.{extends-more, extends-within}
use Rattle.type_diagrams.proofs.diagrams.Diagrams.+of_type.Goals as goal

pub returns-in_err-b-in-Or-clause-extends : goal.returns-in_err-b-in-Or-clause-extends
returns-in_err-b-in-Or-clause-extends t c =
    let most = length c.args.defs.now in
    extends-within most c.args.self.now c.of_type.new.self c.of_type-in-Or.new.self c.of_type.ensures.extends c.of_type-in-Or.ensures.extends

pub returns-in_err-b-in-And-clause-extends : goal.returns-in_err-b-in-And-clause-extends
returns-in_err-b-in-And-clause-extends t c =
    let most = length c.args.defs.now in
    extends-within most c.args.self.now c.of_type-in-And.new.self c.of_type-in-And-2.new.self c.of_type-in-And.ensures.extends c.of_type-in-And-2.ensures.extends

pub returns-in_err-every-in-Not-clause-extends : goal.returns-in_err-every-in-Not-clause-extends
returns-in_err-every-in-Not-clause-extends t c =
    let most = length c.args.defs.now in
    extends-within most c.args.self.now c.of_type-in-Not.new.self c.every.new.self c.of_type-in-Not.ensures.extends (extends-more most c.of_type-in-Not.new.self c.every.new.self c.every.ensures.extends)

pub returns-in-Basic-clause-extends : goal.returns-in-Basic-clause-extends
returns-in-Basic-clause-extends t c =
    extends-more (length c.args.defs.now) c.args.self.now c.of_basic.new.self c.of_basic.ensures.extends

pub returns-in_ok-b-in-Or-clause-extends : goal.returns-in_ok-b-in-Or-clause-extends
returns-in_ok-b-in-Or-clause-extends t c =
    let most = length c.args.defs.now in
    extends-within most c.args.self.now c.of_type-in-Or.new.self c.union.new.self
    (extends-within most c.args.self.now c.of_type.new.self c.of_type-in-Or.new.self c.of_type.ensures.extends c.of_type-in-Or.ensures.extends)
    (extends-more most c.of_type-in-Or.new.self c.union.new.self c.union.ensures.extends)

pub returns-in_ok-b-in-And-clause-extends : goal.returns-in_ok-b-in-And-clause-extends
returns-in_ok-b-in-And-clause-extends t c =
    let most = length c.args.defs.now in
    extends-within most c.args.self.now c.of_type-in-And-2.new.self c.inter.new.self
    (extends-within most c.args.self.now c.of_type-in-And.new.self c.of_type-in-And-2.new.self c.of_type-in-And.ensures.extends c.of_type-in-And-2.ensures.extends)
    (extends-more most c.of_type-in-And-2.new.self c.inter.new.self c.inter.ensures.extends)

pub returns-in_ok-every-in-Not-clause-extends : goal.returns-in_ok-every-in-Not-clause-extends
returns-in_ok-every-in-Not-clause-extends t c =
    let most = length c.args.defs.now in
    extends-within most c.args.self.now c.every.new.self c.diff.new.self
    (extends-within most c.args.self.now c.of_type-in-Not.new.self c.every.new.self c.of_type-in-Not.ensures.extends (extends-more most c.of_type-in-Not.new.self c.every.new.self c.every.ensures.extends))
    (extends-more most c.every.new.self c.diff.new.self c.diff.ensures.extends)
