-- What is told of a program that was built and doesn't run, as a list of characters.
use Rattle.std.specs.Prelude.{◌≡◌, ℕ, List, codes}
use Rattle.code_frames.specs.Programs.{over}
use Rattle.code_texts.specs.CodeText.{code_text}
use Rattle.descriptors.specs.Described.{Atoms}
use Rattle.lower_model.specs.Whole.{IsLowered}
use Rattle.pair_texts.specs.PairText.{pairs_text}
use Rattle.stack_code.specs.declared.code.Code.{Code as CodeOf}
use Rattle.folder_programs.specs.declared.compiling.Built.{Built}
use Rattle.folder_programs.specs.declared.texts.Telling.{Telling}
use Rattle.folder_programs.specs.declared.texts.Telling.TheVariants.{Accepted, Pairs, Code}

-- that it is accepted
abbrev pub ok_text : List ℕ
ok_text = codes "ok\n"

-- its pairs, by the plans with which it was accepted
abbrev pub pairs_of : Built → List ℕ
pairs_of built = pairs_text built.typed built.plans.functions.items built.source.modules

-- the text is that of a code of the package as it was checked, over these atoms
abbrev pub IsTextOfCode : Atoms → Built → List ℕ → Type 0
IsTextOfCode atoms built text = (code : CodeOf) × IsLowered atoms built.typed (over atoms code) × (text ≡ code_text code)

abbrev pub IsTextOf : Telling → Atoms → Built → List ℕ → Type 0
IsTextOf Accepted atoms built text = text ≡ ok_text
IsTextOf Pairs atoms built text = text ≡ pairs_of built
IsTextOf Code atoms built text = IsTextOfCode atoms built text
