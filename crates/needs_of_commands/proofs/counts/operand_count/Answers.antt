use Rattle.std.proofs.Common.{◌∙◌, ◌+◌, ap}
use Rattle.code_needs.specs.Stacks.{futures_in}
use Rattle.needs_of_commands.specs.inner.Counted.{params_in}
use Rattle.needs_of_commands.proofs.Numbered.{of-all, of-any, of-call, of-error, of-function, of-list, of-mapping, of-native, of-start, of-start_value, of-value, plain-is}
use Rattle.needs_of_commands.proofs.counts.operand_count.Goals as goal

pub returns-in-MakeList : goal.returns-in-MakeList
returns-in-MakeList c = λ o e. of-list c.args.code.now o c.args.instr.now _ _ _ c.in-MakeList.is e

pub returns-in-MakeMap : goal.returns-in-MakeMap
returns-in-MakeMap c = λ o e. c.twice.ensures ∙ of-mapping c.args.code.now o c.args.instr.now _ _ _ c.in-MakeMap.is e

pub returns-in-MakeError : goal.returns-in-MakeError
returns-in-MakeError c = λ o e. ap (λ n. 2 + n) c.twice-in-MakeError.ensures ∙ of-error c.args.code.now o c.args.instr.now _ c.in-MakeError.is e

pub returns-in-MakeFunction : goal.returns-in-MakeFunction
returns-in-MakeFunction c = λ o e. of-function c.args.code.now o c.args.instr.now _ _ c.in-MakeFunction.is e

pub returns-in-Call : goal.returns-in-Call
returns-in-Call c = λ o e. c.params.ensures ∙ ap params_in c.unit_at.ensures ∙ of-call c.args.code.now o c.args.instr.now _ c.in-Call.is e

pub returns-in-CallValue : goal.returns-in-CallValue
returns-in-CallValue c = λ o e. of-value c.args.code.now o c.args.instr.now _ c.in-CallValue.is e

pub returns-in-Native : goal.returns-in-Native
returns-in-Native c = λ o e. of-native c.args.code.now o c.args.instr.now _ _ _ c.in-Native.is e

pub returns-in-StartCall : goal.returns-in-StartCall
returns-in-StartCall c = λ o e. c.params-in-StartCall.ensures ∙ ap params_in c.unit_at-in-StartCall.ensures ∙ of-start c.args.code.now o c.args.instr.now _ c.in-StartCall.is e

pub returns-in-StartValue : goal.returns-in-StartValue
returns-in-StartValue c = λ o e. of-start_value c.args.code.now o c.args.instr.now _ c.in-StartValue.is e

pub returns-in-WaitAny : goal.returns-in-WaitAny
returns-in-WaitAny c = λ o e. c.futures.ensures ∙ ap futures_in c.as_slice.ensures ∙ of-any c.args.code.now o c.args.instr.now _ c.in-WaitAny.is e

pub returns-in-WaitAll : goal.returns-in-WaitAll
returns-in-WaitAll c = λ o e. c.futures-in-WaitAll.ensures ∙ ap futures_in c.as_slice-in-WaitAll.ensures ∙ of-all c.args.code.now o c.args.instr.now _ _ c.in-WaitAll.is e

pub returns-in_default : goal.returns-in_default
returns-in_default c = λ o e.
    let d = c.in_default in
    c.plain.ensures ∙ plain-is c.args.code.now o c.args.instr.now d.not-MakeList d.not-MakeMap d.not-MakeError d.not-MakeFunction d.not-Call d.not-CallValue d.not-Native d.not-StartCall d.not-StartValue d.not-WaitAny d.not-WaitAll e
