-- The parameter with a number.
use Rattle.std.proofs.Common.{◌≡◌, ℕ, Option, Some, None, option_to_list, slice_get, refl}
use Rattle.descriptors.specs.declared.names.Signature.{Signature}
use Rattle.type_model.specs.declared.basic.Ty.{Ty}
use Rattle.check_words.specs.Calls.{parameter_of}

pub own-parameter : (f : Signature) (n : ℕ) (t : Ty) → slice_get f.params n ≡ Some t → option_to_list (Some t) ≡ parameter_of f n
own-parameter f n t e = rw e refl

rest-parameter-of : (f : Signature) (n : ℕ) (rest : Option Ty) → f.rest ≡ rest → slice_get f.params n ≡ None → option_to_list rest ≡ parameter_of f n
rest-parameter-of f n None r e = rw (e, r) refl
rest-parameter-of f n (Some t) r e = rw (e, r) refl

pub rest-parameter : (f : Signature) (n : ℕ) → slice_get f.params n ≡ None → option_to_list f.rest ≡ parameter_of f n
rest-parameter f n e = rest-parameter-of f n f.rest refl e

pub ruleset parameters = (own-parameter, rest-parameter)
