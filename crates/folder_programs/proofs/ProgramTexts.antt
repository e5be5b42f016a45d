-- The texts that are told of a program, as they are made.
use Rattle.std.proofs.Common.{◌≡◌, ◌∙◌, List, ap, codes, refl, subst}
use Rattle.std.specs.Prelude.{IfOk, Result, Ok, Err, String, string_bytes}
use Rattle.std.specs.Global.{Global}
use Rattle.std.specs.Str.{chars}
use Rattle.bal_base.specs.declared.stop.Memory.{Memory as NoMemory}
use Rattle.bal_tree.specs.declared.package.Module.{Module}
use Rattle.code_frames.specs.Programs.{over}
use Rattle.code_texts.specs.CodeText.{code_text}
use Rattle.descriptors.specs.Described.{Atoms}
use Rattle.lower_model.specs.Whole.{IsLowered}
use Rattle.pair_texts.specs.PairText.{pairs_text}
use Rattle.stack_code.specs.declared.code.Code.{Code}
use Rattle.text_forms.specs.Forms.{written}
use Rattle.typed_tree.specs.declared.event.Plan.{Plan}
use Rattle.folder_programs.specs.declared.compiling.Built.{Built}
use Rattle.folder_programs.specs.Texts.{IsTextOfCode, ok_text, pairs_of}

ok-chars : chars (codes "ok\n") ≡ ok_text
unfolding chars
ok-chars = refl

-- the text of a program that is accepted
pub ok-written : (s : String Global) → string_bytes s ≡ codes "ok\n" → written s ≡ ok_text
ok-written s e = ap chars e ∙ ok-chars

-- the text of a code, by its atoms
pub code-told : (atoms env : Atoms) (built : Built) (code : Code) (made : Result (String Global) NoMemory) → env ≡ atoms
    → IsLowered env built.typed (over env code) → IfOk made (λ s. written s ≡ code_text code) → IfOk made (λ s. IsTextOfCode atoms built (written s))
code-told atoms env built code (Ok s) e l is = (code, subst (λ a. IsLowered a built.typed (over a code)) e l, is)
code-told atoms env built code (Err m) e l is = tt

-- the text of pairs, by the modules
pub pairs-told : (built : Built) (plans : List Plan) (modules : List Module) (made : Result (String Global) NoMemory)
    → plans ≡ built.plans.functions.items → modules ≡ built.source.modules → IfOk made (λ s. written s ≡ pairs_text built.typed plans modules)
    → IfOk made (λ s. written s ≡ pairs_of built)
pairs-told built plans modules (Ok s) p e is =
    is ∙ ap (λ ps. pairs_text built.typed ps modules) p ∙ ap (pairs_text built.typed built.plans.functions.items) e
pairs-told built plans modules (Err m) p e is = tt
