-- The printed names of the codes.
use Rattle.std.specs.Prelude.{ℕ, List, codes}
use Rattle.check_values.specs.declared.codes.Code.{Code}
use Rattle.check_values.specs.declared.codes.Code.TheVariants.{BadToken, CannotRead, CannotResolveModule, CannotResolveName, CannotWrite, IncompatibleArity, IncompatibleType, IncompatibleUse, InvalidCompare, InvalidIndex, MissingExport, MissingLocalAnnot, NameAlreadyBound, NotAFunction, NotUtf8, Parse, PropMissing, ReassignConst, RecursiveAlias, RecursiveDefinition, ReferenceBeforeDeclaration, SignatureVerificationFailure, SourceTooLong, TypeAsValue, UnreachableCode, UnsafeArithmetic, ValueAsType}

abbrev pub code_name : Code → List ℕ
code_name BadToken = codes "bad-token"
code_name CannotRead = codes "cannot-read"
code_name CannotResolveModule = codes "cannot-resolve-module"
code_name CannotResolveName = codes "cannot-resolve-name"
code_name CannotWrite = codes "cannot-write"
code_name IncompatibleArity = codes "incompatible-arity"
code_name IncompatibleType = codes "incompatible-type"
code_name IncompatibleUse = codes "incompatible-use"
code_name InvalidCompare = codes "invalid-compare"
code_name InvalidIndex = codes "invalid-index"
code_name MissingExport = codes "missing-export"
code_name MissingLocalAnnot = codes "missing-local-annot"
code_name NameAlreadyBound = codes "name-already-bound"
code_name NotAFunction = codes "not-a-function"
code_name NotUtf8 = codes "not-utf8"
code_name Parse = codes "parse"
code_name PropMissing = codes "prop-missing"
code_name ReassignConst = codes "reassign-const"
code_name RecursiveAlias = codes "recursive-alias"
code_name RecursiveDefinition = codes "recursive-definition"
code_name ReferenceBeforeDeclaration = codes "reference-before-declaration"
code_name SignatureVerificationFailure = codes "signature-verification-failure"
code_name SourceTooLong = codes "source-too-long"
code_name TypeAsValue = codes "type-as-value"
code_name UnreachableCode = codes "unreachable-code"
code_name UnsafeArithmetic = codes "unsafe-arithmetic"
code_name ValueAsType = codes "value-as-type"
