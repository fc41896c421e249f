-- A code is told by its name.
use Rattle.std.proofs.Common.{◌≡◌, ℕ, List, [], ◌∷◌, bytes_eq, if◌then◌else◌, refl, sym, ap, ◌∙◌}
use Rattle.check_values.specs.Codes.{code_name}
use Rattle.check_values.specs.declared.codes.Code.{Code}
use Rattle.check_values.specs.declared.codes.Code.TheVariants.{BadToken, CannotRead, CannotResolveModule, CannotResolveName, CannotWrite, IncompatibleArity, IncompatibleType, IncompatibleUse, InvalidCompare, InvalidIndex, MissingExport, MissingLocalAnnot, NameAlreadyBound, NotAFunction, NotUtf8, Parse, PropMissing, ReassignConst, RecursiveAlias, RecursiveDefinition, ReferenceBeforeDeclaration, SignatureVerificationFailure, SourceTooLong, TypeAsValue, UnreachableCode, UnsafeArithmetic, ValueAsType}

abbrev all_codes : List Code
all_codes =
    BadToken ∷ CannotRead ∷ CannotResolveModule ∷ CannotResolveName ∷ CannotWrite ∷ IncompatibleArity ∷ IncompatibleType ∷ IncompatibleUse ∷ InvalidCompare
    ∷ InvalidIndex ∷ MissingExport ∷ MissingLocalAnnot ∷ NameAlreadyBound ∷ NotAFunction ∷ NotUtf8 ∷ Parse ∷ PropMissing ∷ ReassignConst ∷ RecursiveAlias
    ∷ RecursiveDefinition ∷ ReferenceBeforeDeclaration ∷ SignatureVerificationFailure ∷ SourceTooLong ∷ TypeAsValue ∷ UnreachableCode ∷ UnsafeArithmetic ∷ ValueAsType ∷ []

-- the code of a name
abbrev named_among : List Code → List ℕ → Code
named_among [] name = BadToken
named_among (code ∷ codes) name = if bytes_eq (code_name code) name then code else named_among codes name

named_so : (c : Code) → named_among all_codes (code_name c) ≡ c
named_so BadToken = refl
named_so CannotRead = refl
named_so CannotResolveModule = refl
named_so CannotResolveName = refl
named_so CannotWrite = refl
named_so IncompatibleArity = refl
named_so IncompatibleType = refl
named_so IncompatibleUse = refl
named_so InvalidCompare = refl
named_so InvalidIndex = refl
named_so MissingExport = refl
named_so MissingLocalAnnot = refl
named_so NameAlreadyBound = refl
named_so NotAFunction = refl
named_so NotUtf8 = refl
named_so Parse = refl
named_so PropMissing = refl
named_so ReassignConst = refl
named_so RecursiveAlias = refl
named_so RecursiveDefinition = refl
named_so ReferenceBeforeDeclaration = refl
named_so SignatureVerificationFailure = refl
named_so SourceTooLong = refl
named_so TypeAsValue = refl
named_so UnreachableCode = refl
named_so UnsafeArithmetic = refl
named_so ValueAsType = refl

pub same_code : (a b : Code) → code_name a ≡ code_name b → a ≡ b
same_code a b same = sym (named_so a) ∙ ap (named_among all_codes) same ∙ named_so b
