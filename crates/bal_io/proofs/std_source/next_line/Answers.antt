use Rattle.std.proofs.Common.{◌≡◌, ◌≤◌, ℕ, List, true, Some, length, take, sym, ◌∙◌, ap, subst, arith, vec_len}
use Rattle.bal_io.specs.Content.{ReadsLine, without_return}
use Rattle.bal_io.specs.Fronts.{ReadsMore}
use Rattle.bal_io.specs.Streams.{IfKnown}
use Rattle.bal_io.specs.declared.outside.Line.{Line}
use Rattle.bal_io.specs.declared.std_source.Progress.{Progress}
use Rattle.bal_io.proofs.LineReads.{known-ended, known-cut, known-last, known-more, is_some, without_return-take}
use Rattle.bal_io.proofs.std_source.next_line.Goals as goal

pub returns-in-Ended-clause-line : goal.returns-in-Ended-clause-line
returns-in-Ended-clause-line g c =
    let max = c.args.max in
    let line = c.loop.bytes.items in
    let more = c.read_more.new.line.items in
    let all = g.B.Read.remaining c.args.reader.now in
    let here = g.B.Read.remaining c.loop.reader in
    let rest = g.B.Read.remaining c.read_more.new.reader in
    let Step : Progress → Type 0 = λ p. IfKnown (ReadsMore max p line more) here rest in
    let bound : length line ≤ max = omega (arith, c.loop.bytes.ok.0, c.loop.invariant.0) in
    let read = known-ended max line more all here rest c.loop.invariant.1 bound (subst Step c.in-Ended.is c.in_ok-read_more.ensures.ok) in
    let text : c.truncate.new.self.items ≡ without_return more =
    c.truncate.ensures.items ∙ ap (λ l. take (length l) more) (c.without_return-size.ensures ∙ ap (λ l. without_return l) c.as_slice.ensures.value) ∙ without_return-take more in
    let whole : List ℕ → Line = λ l. record { bytes = l; whole = true } in
    let Gives : Line → Type 0 = λ l. IfKnown (ReadsLine max (Some l)) all rest in
    subst Gives (sym (c.line_of.ensures ∙ ap whole text)) read

pub returns-in-Cut-clause-line : goal.returns-in-Cut-clause-line
returns-in-Cut-clause-line g c =
    let max = c.args.max in
    let line = c.loop.bytes.items in
    let more = c.read_more.new.line.items in
    let all = g.B.Read.remaining c.args.reader.now in
    let here = g.B.Read.remaining c.loop.reader in
    let rest = g.B.Read.remaining c.read_more.new.reader in
    let Step : Progress → Type 0 = λ p. IfKnown (ReadsMore max p line more) here rest in
    let bound : length line ≤ max = omega (arith, c.loop.bytes.ok.0, c.loop.invariant.0) in
    let read = known-cut max line more all here rest c.loop.invariant.1 bound (subst Step c.in-Cut.is c.in_ok-read_more.ensures.ok) in
    let Gives : Line → Type 0 = λ l. IfKnown (ReadsLine max (Some l)) all rest in
    subst Gives (sym c.line_of-in-Cut.ensures) read

pub returns-in-AtEnd-2-clause-line : goal.returns-in-AtEnd-2-clause-line
returns-in-AtEnd-2-clause-line g c =
    let max = c.args.max in
    let line = c.loop.bytes.items in
    let more = c.read_more.new.line.items in
    let all = g.B.Read.remaining c.args.reader.now in
    let here = g.B.Read.remaining c.loop.reader in
    let rest = g.B.Read.remaining c.read_more.new.reader in
    let Step : Progress → Type 0 = λ p. IfKnown (ReadsMore max p line more) here rest in
    let bound : length line ≤ max = omega (arith, c.loop.bytes.ok.0, c.loop.invariant.0) in
    let some = is_some (vec_len c.read_more.new.line) (length more) c.read_more.new.line.ok.0 c.if-is_empty.ensures in
    let read = known-last max line more all here rest c.loop.invariant.1 bound some (subst Step c.in-AtEnd-2.is c.in_ok-read_more.ensures.ok) in
    let Gives : Line → Type 0 = λ l. IfKnown (ReadsLine max (Some l)) all rest in
    subst Gives (sym c.line_of-in-AtEnd-2.ensures) read

pub loop-preserved : goal.loop-preserved
loop-preserved g c =
    let max = c.args.max in
    let line = c.loop.bytes.items in
    let more = c.read_more.new.line.items in
    let all = g.B.Read.remaining c.args.reader.now in
    let here = g.B.Read.remaining c.loop.reader in
    let rest = g.B.Read.remaining c.read_more.new.reader in
    let Step : Progress → Type 0 = λ p. IfKnown (ReadsMore max p line more) here rest in
    (c.in_ok-read_more.ensures.bound, known-more max line more all here rest c.loop.invariant.1 (subst Step c.in-GoesOn.is c.in_ok-read_more.ensures.ok))
