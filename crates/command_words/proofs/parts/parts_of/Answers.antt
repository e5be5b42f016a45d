use Rattle.std.proofs.Common.{[], ◌∷◌, arith, codes, map, refl, string_bytes, subst, sym}
use Rattle.command_words.specs.Words.{nothing, only}
use Rattle.command_words.specs.inner.Reading.{GoesOn, IsAlike, awaited, bytes_of, said_by}
use Rattle.command_words.proofs.Alike.{alike-same}
use Rattle.command_words.proofs.Reading.{IsReadTo, read-end, read-lacks, read-more, read-stop, says-rest}
use Rattle.command_words.proofs.WordLists.{word-at, words-end}
use Rattle.command_words.proofs.parts.parts_of.Goals as goal

pub loop-word-init : goal.loop-word-init
loop-word-init c =
    let words = map string_bytes c.args.words.now in
    subst (λ items. IsAlike (only []) words (only (bytes_of items)) words) (sym c.new.ensures.items) (alike-same (only []) words words refl)

pub loop-word-preserved : goal.loop-word-preserved
loop-word-preserved c =
    let all = c.args.words.now in
    let i = c.loop-word.word-index in
    let word = c.as_str.result.now in
    let before = said_by c.loop-word.parts in
    let after = said_by c.read.new.self in
    read-more (map string_bytes all) i word before after (awaited c.loop-word.awaits) (awaited c.in-Some.next) c.loop-word.invariant
    (word-at all i c.word-item.result word (omega arith) c.word-item.is c.as_str.ensures.value)
    (subst (λ o. GoesOn before (awaited c.loop-word.awaits) word after o) c.in-Some.is c.in_ok-next.ensures)

pub returns-in-None : goal.returns-in-None
returns-in-None c =
    let all = c.args.words.now in
    let i = c.loop-word.word-index in
    let word = c.as_str.result.now in
    let before = said_by c.loop-word.parts in
    read-stop (map string_bytes all) i word before (awaited c.loop-word.awaits) c.loop-word.invariant
    (word-at all i c.word-item.result word (omega arith) c.word-item.is c.as_str.ensures.value)
    (subst (λ o. GoesOn before (awaited c.loop-word.awaits) word (said_by c.read.new.self) o) c.in-None.is c.in_ok-next.ensures)

pub returns-in-Value : goal.returns-in-Value
returns-in-Value c =
    let all = c.args.words.now in
    let i = c.loop-word.word-index in
    let said = said_by c.loop-word.parts in
    read-lacks (map string_bytes all) i said c.in-Value.field-0
    (subst (λ a. IsReadTo (map string_bytes all) i said (awaited a)) c.in-Value.is c.loop-word.invariant) (words-end all i (omega arith))

pub returns-in-Word : goal.returns-in-Word
returns-in-Word c =
    let all = c.args.words.now in
    let i = c.loop-word.word-index in
    let said = said_by c.loop-word.parts in
    read-end (map string_bytes all) i said [] (subst (λ a. IsReadTo (map string_bytes all) i said (awaited a)) c.in-Word.is c.loop-word.invariant)
    (words-end all i (omega arith)) nothing

pub returns : goal.returns
returns c =
    let all = c.args.words.now in
    let i = c.loop-word.word-index in
    let said = said_by c.loop-word.parts in
    read-end (map string_bytes all) i said (codes "--" ∷ []) (subst (λ a. IsReadTo (map string_bytes all) i said (awaited a)) c.in-Rest.is c.loop-word.invariant)
    (words-end all i (omega arith)) says-rest
